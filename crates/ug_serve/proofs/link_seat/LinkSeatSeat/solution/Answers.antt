use Rattle.std.proofs.Common.{refl, sym}
use Rattle.ug_serve.specs.Actions.{Busy}
use Rattle.ug_serve.specs.Seats.{basis_of}
use Rattle.ug_serve.proofs.Seating.{found_agrees}
use Rattle.ug_serve.proofs.Carried.{solution_carried}
use Rattle.ug_serve.proofs.link_seat.LinkSeatSeat.solution.Goals as goal

pub tell-requires : goal.tell-requires
tell-requires g c =
    let (round_count, e, f, seated, found) = c.requires.at in
    solution_carried c.args.self.now.kept e f c.args.point seated.agrees found

pub returns-clause-found : goal.returns-clause-found
returns-clause-found g c round_count e f seated found = record {
  gap = seated.gap;
  agrees = found_agrees c.args.self.now.kept e f c.args.point seated.agrees found;
  stands = c.tell.ensures (Busy (basis_of c.args.self.now.kept) round_count e)
      (Busy (basis_of c.args.self.now.kept) round_count f)
      (f, sym seated.agrees.ticket, found, refl) seated.stands;
}
