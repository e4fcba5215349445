use Rattle.std.proofs.Common.{◌≡◌, ◌∙◌, ℤ, FitsSigned, ap, refl, rules}
use Rattle.std.proofs.lemmas.Int.{to_z-of_z}
use mir.Syntax.{w128}
use mir.Val.{to_z, of_z}
use Rattle.ug_surrogate.specs.Columns.{constant_of}
use Rattle.ug_surrogate.specs.Implied.{most_under}
use Rattle.ug_surrogate.proofs.Combined.{far_below}
use Rattle.ug_surrogate.proofs.implying.high_under.Goals as goal

pub returns-in_err-most-clause-none : goal.returns-in_err-most-clause-none
returns-in_err-most-clause-none c = λ none.
    let m = c.args.m.now in
    far_below (most_under m.d c.args.cutoff) (constant_of c.args.problem.now m)
    (rw (to_z-of_z w128 c.args.cutoff c.ranges.cutoff) at (c.in_err-most.ensures.none refl))
    (rw c.constant-constant.ensures.value at c.constant-constant.ensures.small)

pub returns-clause-some : goal.returns-clause-some
returns-clause-some c =
    let m = c.args.m.now in
    let k : ℤ = c.constant-constant.result in
    let fits : FitsSigned w128 c.in_ok-most.most = search rules in
    let fits_k : FitsSigned w128 k = search rules in
    let most : to_z w128 (of_z w128 c.in_ok-most.most) ≡ most_under m.d c.args.cutoff =
    to_z-of_z w128 c.in_ok-most.most fits ∙ c.in_ok-most.ensures.some
    ∙ ap (λ (z : ℤ). most_under m.d z) (to_z-of_z w128 c.args.cutoff c.ranges.cutoff) in
    rw (most, to_z-of_z w128 k fits_k ∙ c.constant-constant.ensures.value) at c.side_less.ensures.some

pub returns-clause-none : goal.returns-clause-none
returns-clause-none c =
    let m = c.args.m.now in
    let k : ℤ = c.constant-constant.result in
    let fits : FitsSigned w128 c.in_ok-most.most = search rules in
    let fits_k : FitsSigned w128 k = search rules in
    let most : to_z w128 (of_z w128 c.in_ok-most.most) ≡ most_under m.d c.args.cutoff =
    to_z-of_z w128 c.in_ok-most.most fits ∙ c.in_ok-most.ensures.some
    ∙ ap (λ (z : ℤ). most_under m.d z) (to_z-of_z w128 c.args.cutoff c.ranges.cutoff) in
    rw (most, to_z-of_z w128 k fits_k ∙ c.constant-constant.ensures.value) at c.side_less.ensures.none
