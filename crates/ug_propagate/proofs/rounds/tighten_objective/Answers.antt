use Rattle.std.proofs.Common.{◌^◌, ◌≤◌, ℤ, Option, subst, sym, unsigned_abs}
use Rattle.ug_rows.specs.declared.row.Objective.{Objective}
use Rattle.ug_problem.specs.Better.{IsSmallCutoff}
use Rattle.ug_propagate.proofs.Cutoffs.{both_less_fits, propagable_under, one_less_fits, word_both_less}
use Rattle.ug_propagate.proofs.rounds.tighten_objective.Goals as goal

pub overflow_sub-row_sides : goal.overflow_sub-row_sides
overflow_sub-row_sides c =
    one_less_fits c.in-Some.cutoff (subst (λ (o : Option ℤ). IsSmallCutoff o) c.in-Some.is c.requires.small)

pub overflow_sub-row_sides-2 : goal.overflow_sub-row_sides-2
overflow_sub-row_sides-2 c =
    both_less_fits c.in-Some.cutoff c.objective-objective.result.now.constant
    (subst (λ (o : Option ℤ). IsSmallCutoff o) c.in-Some.is c.requires.small)
    (subst (λ (o : Objective). unsigned_abs o.constant ≤ 10 ^ 37) (sym c.objective-objective.ensures.value)
    c.objective-objective.ensures.problem.objective.constant)

pub propagate_plain-requires : goal.propagate_plain-requires
propagate_plain-requires c =
    let small = subst (λ (o : Option ℤ). IsSmallCutoff o) c.in-Some.is c.requires.small in
    propagable_under _ c.args.problem.now c.in-Some.cutoff _ c.objective-objective.result.now c.as_slice.result.now
    c.objective-objective.ensures.problem small c.objective-objective.ensures.value c.as_slice.ensures c.requires.width
    (word_both_less c.in-Some.cutoff c.objective-objective.result.now.constant small
    (subst (λ (o : Objective). unsigned_abs o.constant ≤ 10 ^ 37) (sym c.objective-objective.ensures.value)
    c.objective-objective.ensures.problem.objective.constant))
