use Rattle.std.proofs.Common.{FitsSigned, ◌∙◌, rules}
use Rattle.std.proofs.lemmas.Int.{to_z-of_z}
use mir.Syntax.{w128}
use Rattle.ug_surrogate.proofs.Exchange.{least_next}
use Rattle.ug_surrogate.proofs.Sizes.{next_small, sum_small}
use Rattle.ug_surrogate.proofs.least.add_column.Goals as goal

pub add_least-requires-clause-product : goal.add_least-requires-clause-product
add_least-requires-clause-product c =
    let fits : FitsSigned w128 c.factor.result = search rules in
    rw (to_z-of_z w128 c.factor.result fits ∙ c.factor.ensures.value)
    (next_small c.args.problem.now c.args.m.now c.args.area.now c.args.column c.requires.small)

pub add_least-requires-clause-sum : goal.add_least-requires-clause-sum
add_least-requires-clause-sum c =
    let fits : FitsSigned w128 c.factor.result = search rules in
    rw (to_z-of_z w128 c.factor.result fits ∙ c.factor.ensures.value, to_z-of_z w128 c.args.total c.ranges.total)
    (sum_small c.args.problem.now c.args.m.now c.args.area.now c.args.column c.args.total c.requires.small c.requires.total)

pub returns-clause-value : goal.returns-clause-value
returns-clause-value c =
    let fits : FitsSigned w128 c.factor.result = search rules in
    let all : FitsSigned w128 c.add_least.result = search rules in
    to_z-of_z w128 c.add_least.result all ∙ c.add_least.ensures.value
    ∙ rw (to_z-of_z w128 c.factor.result fits ∙ c.factor.ensures.value, to_z-of_z w128 c.args.total c.ranges.total)
    (least_next c.args.problem.now c.args.m.now c.args.area.now c.args.column c.args.total c.requires.total)
