use Rattle.std.proofs.Common.{◌≡◌, length}
use Rattle.ug_rules.specs.Books.{IsSoundBook}
use Rattle.ug_desk.specs.Decided.{without_orders}
use Rattle.ug_desk.proofs.decide.drop_orders.Given as goal

abbrev pub invariant-loop-told : goal.invariant-loop-told
invariant-loop-told l = record {
  rest : without_orders l.book ≡ without_orders l.initial.book;
  sound : IsSoundBook l.initial.book → IsSoundBook l.book;
}

abbrev pub decreases-loop-told : goal.decreases-loop-told
decreases-loop-told l = length l.book.orders
