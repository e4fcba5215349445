use Rattle.std.proofs.Common.{false, take, arith}
use Rattle.std.specs.Prelude.{IsTrue, Contains}
use borrow.Author.Count.{below_more}
use Rattle.ug_nodes.specs.SortedLines.{fronts}
use Rattle.ug_nodes.proofs.sorted_lines.has_front.Goals as goal

pub loop-k-preserved : goal.loop-k-preserved
loop-k-preserved c =
    below_more (λ i. Contains (fronts c.args.lines.now) (take i c.args.line.now) → ⊥) c.loop-k.k c.loop-k.invariant
    (λ there. let found : IsTrue c.is_front_among.result = c.is_front_among.ensures.1 there in
    let none = c.if-is_front_among.false in cc)

pub returns : goal.returns
returns c = (
  (λ t. let no : IsTrue false = t in cc),
  (λ h. absurd (c.loop-k.invariant h.0 (omega arith) h.2)),
)
