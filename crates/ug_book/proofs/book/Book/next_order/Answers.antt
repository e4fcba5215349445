use Rattle.std.proofs.Common.{refl, subst, sym}
use Rattle.ug_rules.specs.Books.{IsSoundBook}
use Rattle.ug_book.specs.Views.{state_of}
use Rattle.ug_book.proofs.Told.{told_book, told_room}
use Rattle.ug_book.proofs.book.Book.next_order.Goals as goal

pub invariant_of-self : goal.invariant_of-self
invariant_of-self c =
    let frontier = c.self.inside.frontier in
    record {
      book = told_book (state_of c.self.inside) frontier.orders c.next.new.self c.next.result refl
          c.next.ensures c.self.invariant.book;
      cutoff = c.self.invariant.cutoff;
      small = c.self.invariant.small;
      floor = c.self.invariant.floor;
      room = told_room frontier c.next.new.self c.next.result c.next.ensures c.self.invariant.room;
    }

pub returns-clause-sound : goal.returns-clause-sound
returns-clause-sound c = λ s. subst IsSoundBook (sym c.self.view_is) s
