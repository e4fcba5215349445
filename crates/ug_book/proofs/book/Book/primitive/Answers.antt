use Rattle.std.proofs.Common.{List, ap, subst, sym, ◌∙◌}
use Rattle.std.specs.Prelude.{◌↔◌, Contains, IfOk}
use Rattle.ug_nodes.specs.declared.node.Node.{Node}
use Rattle.ug_nodes.specs.Primitive.{AreNamedOnce, IsPrimitive, lent}
use Rattle.ug_ledger.proofs.PrimitiveLemmas.{primitive_covered}
use Rattle.ug_rules.specs.State.{ledger_of}
use Rattle.ug_rules.specs.Books.{IsBook}
use Rattle.std.proofs.lemmas.Result.{IfOk-weaker}
use Rattle.ug_problem.specs.Incumbents.{one_kept}
use Rattle.ug_book.proofs.book.Book.primitive.Goals as goal

pub returns-clause-each : goal.returns-clause-each
returns-clause-each c =
    let is = ap lent c.as_slice.ensures.value ∙ c.in_ok-nodes.ensures in
    subst (λ (held : List Node). IfOk c.primitive.result
    (λ nodes. (n : Node) → Contains (lent nodes.items) n ↔ IsPrimitive held n)) is
    c.primitive.ensures.each

pub returns-clause-rising : goal.returns-clause-rising
returns-clause-rising c =
    let is = ap lent c.as_slice.ensures.value ∙ c.in_ok-nodes.ensures in
    let book = subst IsBook c.self.view_is c.self.invariant.book in
    c.primitive.ensures.rising (subst AreNamedOnce (sym is) book.ledger.ticketed.named.once)

pub returns-clause-covered : goal.returns-clause-covered
returns-clause-covered c = λ s.
    let b = c.args.self.now in
    let is = ap lent c.as_slice.ensures.value ∙ c.in_ok-nodes.ensures in
    IfOk-weaker c.primitive.result _ _
    (λ nodes each. primitive_covered b.problem b.settings.gap (one_kept b.best) (ledger_of b)
    (lent nodes.items) s (λ n first. (each n).1 (subst (λ held. IsPrimitive held n) (sym is) first)))
    c.primitive.ensures.each
