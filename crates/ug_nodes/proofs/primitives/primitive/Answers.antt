use Rattle.std.proofs.Common.{◌≡◌, filter, not, sym, ap, ◌∙◌, subst}
use Rattle.std.specs.Prelude.{Contains, ◌↔◌}
use Rattle.std.specs.Borrow.{Bor}
use Rattle.std.specs.List.{AllPairs}
use Rattle.ug_nodes.specs.declared.node.Node.{Node}
use Rattle.ug_nodes.specs.Primitive.{IsNamedBefore, IsPrimitive, lent}
use Rattle.ug_nodes.specs.SortedLines.{fronts, is_below_any}
use Rattle.ug_nodes.proofs.Kept.{each_primitive, firsts, lent_filter}
use Rattle.ug_nodes.proofs.Named.{NotAfter, picked_order, picked_rises}
use Rattle.ug_nodes.proofs.primitives.primitive.Goals as goal

pub returns-in-Ok-clause-each : goal.returns-in-Ok-clause-each
returns-in-Ok-clause-each c =
    let lines = c.in-Ok.lines.items in
    let held = c.in_ok-held.held.items in
    let kept : lent c.keep_primitive.new.held.items ≡ filter (firsts lines) (lent held) =
    ap lent (subst (λ ls. c.keep_primitive.new.held.items ≡ filter (λ (x : Bor Node). not (is_below_any (fronts ls) x.now.line)) held)
    c.deref.ensures.value c.keep_primitive.ensures) ∙ lent_filter (firsts lines) held in
    λ n. subst (λ ns. Contains ns n ↔ IsPrimitive (lent c.args.nodes.now) n) (sym kept)
    (each_primitive c.args.nodes.now held lines c.in-Ok.ensures.same c.in_ok-held.ensures.same n)

pub returns-in-Ok-clause-order : goal.returns-in-Ok-clause-order
returns-in-Ok-clause-order c =
    let lines = c.deref.result.now in
    let held = c.in_ok-held.held.items in
    let kept : lent c.keep_primitive.new.held.items ≡ filter (firsts lines) (lent held) =
    ap lent c.keep_primitive.ensures ∙ lent_filter (firsts lines) held in
    subst (λ ns. AllPairs NotAfter ns) (sym kept) (picked_order (firsts lines) held c.in_ok-held.ensures.order)

pub returns-in-Ok-clause-rising : goal.returns-in-Ok-clause-rising
returns-in-Ok-clause-rising c = λ once.
    let lines = c.deref.result.now in
    let held = c.in_ok-held.held.items in
    let kept : lent c.keep_primitive.new.held.items ≡ filter (firsts lines) (lent held) =
    ap lent c.keep_primitive.ensures ∙ lent_filter (firsts lines) held in
    subst (λ ns. AllPairs IsNamedBefore ns) (sym kept)
    (picked_rises (firsts lines) c.args.nodes.now held c.in_ok-held.ensures.same c.in_ok-held.ensures.order once)
