-- A book of which an order was sent is one still, and has room.
use Rattle.std.proofs.Common.{◌≡◌, [], List, ◌∙◌, ap, sym, subst, arith}
use Rattle.std.specs.Prelude.{MatchOption, Option, Some, None}
use Rattle.ug_rules.specs.declared.told.Told.{Told}
use Rattle.ug_rules.specs.State.{BookState}
use Rattle.ug_rules.specs.Books.{IsBook}
use Rattle.ug_rules.proofs.BookLemmas.{book_with_rest}
use Rattle.ug_stock.specs.declared.frontier.Frontier.{Frontier}
use Rattle.ug_stock.specs.Queues.{IsTold, Queued}
use Rattle.ug_stock.specs.Frontiers.{HasRoom}

pub told_book : (b : BookState) (old new : Queued) (r : Option Told) → b.orders ≡ old.orders
    → MatchOption r ((old.orders ≡ []) × (new ≡ old)) (IsTold old new) → IsBook b
    → IsBook (record b { orders = new.orders })
told_book b old new None same none h =
    subst (λ (q : Queued). IsBook (record b { orders = q.orders })) (sym none.1)
    (subst (λ (orders : List Told). IsBook (record b { orders = orders })) same h)
told_book b old new (Some told) same some h = book_with_rest b told new.orders (same ∙ some.first) h

pub told_room : (s : Frontier) (new : Queued) (r : Option Told)
    → MatchOption r ((s.orders.orders ≡ []) × (new ≡ s.orders)) (IsTold s.orders new) → HasRoom s
    → HasRoom (record s { orders = new })
told_room s new None none room = record {
  pool = room.pool;
  orders = omega (arith, room.orders, ap (λ (q : Queued). q.spare) none.1);
}
told_room s new (Some told) some room =
    record { pool = room.pool; orders = omega (arith, room.orders, some.spare) }
