use Rattle.std.proofs.Common.{◌≤◌, ◌*◌, ◌^◌, ℤ, arith, subst, sym}
use Rattle.std.specs.Prelude.{unsigned_abs}
use Rattle.std.proofs.lemmas.Int.{fits_signed_from_abs, to_z-of_z}
use mir.Syntax.{w128}
use Rattle.ug_rows.proofs.AreaLemmas.{below_itself}
use Rattle.ug_problem.specs.Instances.{root_of}
use Rattle.ug_problem.specs.Limits.{IsProblem}
use Rattle.ug_problem.proofs.Floors.{floor_within}
use Rattle.ug_stock.proofs.run.Run.floor_of.Goals as goal

pub floor_of_changes-requires-clause-small : goal.floor_of_changes-requires-clause-small
floor_of_changes-requires-clause-small c =
    let p = c.args.self.now.problem in
    let z = c.args.self.now.floor in
    let small = floor_within p (root_of p)
    (subst IsProblem c.problem-problem.ensures.value c.objective.ensures.problem)
    (below_itself (root_of p)) in
    let within : unsigned_abs z ≤ 4 * 10 ^ 37 =
    subst (λ (k : ℤ). unsigned_abs k ≤ 4 * 10 ^ 37) (sym c.requires.floor) (omega (arith, small)) in
    subst (λ (k : ℤ). unsigned_abs k ≤ 4 * 10 ^ 37)
    (sym (to_z-of_z w128 z (fits_signed_from_abs w128 _ (omega (arith, within))))) within
