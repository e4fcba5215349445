use Rattle.std.proofs.Common.{◌∙◌, ℤ, pos, ◌-ℤ◌, Option, Some, None, ap, subst, sym}
use Rattle.std.specs.Option.{option_map}
use Rattle.ug_problem.specs.Better.{IsSmallCutoff}
use Rattle.ug_propagate.specs.declared.row_sides.RowSides.{RowSides}
use Rattle.ug_propagate.proofs.Cutoffs.{both_less_fits, one_less_fits, word_both_less}
use Rattle.ug_propagate.proofs.settle.sides_of_objective.Goals as goal

pub overflow_sub-high : goal.overflow_sub-high
overflow_sub-high c =
    one_less_fits c.in-Some.cutoff (subst (λ (o : Option ℤ). IsSmallCutoff o) c.in-Some.is c.requires.cutoff)

pub overflow_sub-high-in-Some : goal.overflow_sub-high-in-Some
overflow_sub-high-in-Some c =
    both_less_fits c.in-Some.cutoff c.args.objective.now.constant
    (subst (λ (o : Option ℤ). IsSmallCutoff o) c.in-Some.is c.requires.cutoff) c.requires.constant

pub returns-in-Some : goal.returns-in-Some
returns-in-Some c =
    let m = c.args.objective.now.constant in
    let small = subst (λ (o : Option ℤ). IsSmallCutoff o) c.in-Some.is c.requires.cutoff in
    let under : Option ℤ → RowSides = λ (high : Option ℤ). record { row = None; low = None; high = high } in
    ap (λ (v : ℤ). under (Some v)) (word_both_less c.in-Some.cutoff m small c.requires.constant)
    ∙ ap (λ (o : Option ℤ). under (option_map (λ k. k -ℤ pos 1 -ℤ m) o)) (sym c.in-Some.is)
