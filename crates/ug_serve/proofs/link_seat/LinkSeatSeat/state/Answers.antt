use Rattle.std.proofs.Common.{refl, sym, ap}
use Rattle.std.proofs.lemmas.Int.{to_z-of_z}
use mir.Syntax.{w128}
use Rattle.ug_serve.specs.Actions.{Busy}
use Rattle.ug_serve.specs.Seats.{basis_of}
use Rattle.ug_worker.specs.Engagements.{Engaged}
use Rattle.ug_worker.specs.Releases.{counted}
use Rattle.ug_serve.proofs.Seating.{stated_agrees, stated_told}
use Rattle.ug_serve.proofs.link_seat.LinkSeatSeat.state.Goals as goal

pub look-requires : goal.look-requires
look-requires g c =
    let (round_count, e, f, seated, stated) = c.requires.at in
    record {
      at = (
        counted round_count,
        f,
        record {
          gap = seated.gap;
          agrees = stated_agrees c.args.self.now.kept round_count e f c.args.left c.args.floor seated.agrees stated;
          stands = c.tell.ensures (Busy (basis_of c.args.self.now.kept) round_count e)
              (Busy (basis_of c.args.self.now.kept) (counted round_count) f) (
                f,
                sym seated.agrees.ticket,
                stated_told round_count e f c.args.left c.args.floor _
                    (to_z-of_z w128 c.args.floor c.ranges.floor) stated,
                refl,
              ) seated.stands;
        },
        ap (λ (now : Engaged). now.made) stated.same,
      );
    }

pub returns-clause-replied : goal.returns-clause-replied
returns-clause-replied g c round_count e f seated stated =
    c.look.ensures.replied (counted round_count) f (record {
      gap = seated.gap;
      agrees = stated_agrees c.args.self.now.kept round_count e f c.args.left c.args.floor seated.agrees stated;
      stands = c.tell.ensures (Busy (basis_of c.args.self.now.kept) round_count e)
          (Busy (basis_of c.args.self.now.kept) (counted round_count) f) (
            f,
            sym seated.agrees.ticket,
            stated_told round_count e f c.args.left c.args.floor _
                (to_z-of_z w128 c.args.floor c.ranges.floor) stated,
            refl,
          ) seated.stands;
    }) (ap (λ (now : Engaged). now.made) stated.same)
