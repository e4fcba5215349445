use Rattle.std.proofs.Common.{subst}
use Rattle.ug_book.specs.declared.opening.Opening.{Opening}
use Rattle.ug_threads.specs.Rooms.{IsRoom}
use Rattle.ug_threads.proofs.Rooms.{all_new}
use Rattle.ug_threads.proofs.together.make_room.Goals as goal

pub returns-in-Ok-bounded : goal.returns-in-Ok-bounded
returns-in-Ok-bounded c =
    subst (λ (o : Opening). IsRoom c.in_ok-desk.desk o c.in-Ok.crew) c.in_ok-copy.ensures (record {
      passes = c.in_ok-desk.passes.items;
      new = c.in-Ok.ensures;
      all = all_new c.in_ok-desk.desk c.in_ok-copy.field-0 c.in_ok-desk.passes.items c.in_ok-desk.ensures.count
          c.in_ok-desk.ensures.width c.in_ok-desk.ensures.each;
    })
