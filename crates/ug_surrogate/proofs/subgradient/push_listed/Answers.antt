use Rattle.std.proofs.Common.{List, subst, sym, ◌+◌, rules}
use Rattle.std.proofs.lemmas.Result.{on_ok_weaker}
use Rattle.ug_surrogate.specs.declared.multipliers.Multiplier.{Multiplier}
use Rattle.ug_surrogate.specs.Subgradients.{AreOfRowsBelow}
use Rattle.ug_surrogate.specs.Weights.{HasSide}
use Rattle.ug_surrogate.proofs.Listed.{none_added, one_added}
use Rattle.ug_surrogate.proofs.subgradient.push_listed.Goals as goal

pub returns-then-has_side : goal.returns-then-has_side
returns-then-has_side c =
    let p = c.args.problem.now in
    let m = c.args.multiplier in
    let list = c.args.list.now.items in
    let side : HasSide p m = search rules in
    on_ok_weaker c.push.result
    (λ same. subst (λ (us : List Multiplier). AreOfRowsBelow p (m.row + 1) us) (sym same) (one_added p list m c.requires side))
    c.push.ensures

pub returns-else-has_side : goal.returns-else-has_side
returns-else-has_side c = none_added c.args.problem.now c.args.multiplier.row c.args.list.now.items c.requires
