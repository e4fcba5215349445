use Rattle.std.proofs.Common.{refl, sym, ap, ◌∙◌}
use Rattle.std.proofs.Common.{List, length}
use Rattle.ug_rows.specs.declared.area.Interval.{Interval}
use Rattle.ug_serve.specs.Actions.{Busy, Free}
use Rattle.ug_serve.specs.Seats.{basis_of}
use Rattle.ug_serve.proofs.link_seat.LinkSeatSeat.done.Goals as goal

pub returns-clause-done : goal.returns-clause-done
returns-clause-done g c round_count e seated done = record {
  gap = seated.gap;
  agrees = tt;
  stands = c.tell.ensures (Busy (basis_of c.args.self.now.kept) round_count e)
      (Free (basis_of c.args.self.now.kept) round_count) (
        record {
          task = c.args.task;
          its = sym seated.agrees.ticket;
          done = done;
          under = c.cutoff-cutoff.ensures.value;
          counted = c.len-count.ensures ∙ ap (λ (boxes : List (List Interval)). length boxes) c.handed.ensures.value;
        },
        refl,
      ) seated.stands;
}
