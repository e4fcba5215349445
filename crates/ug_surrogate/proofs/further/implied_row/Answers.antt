use Rattle.std.proofs.Common.{ℤ, subst, rules}
use Rattle.std.proofs.lemmas.Int.{to_z-of_z}
use mir.Syntax.{w128}
use Rattle.ug_surrogate.specs.Implied.{IsImplied, IsNotImplied}
use Rattle.ug_surrogate.specs.Weights.{AreMultipliers}
use Rattle.ug_surrogate.proofs.Follows.{implied_follows}
use Rattle.ug_surrogate.proofs.Complete.{no_row_of}
use Rattle.ug_surrogate.proofs.further.implied_row.Goals as goal

pub returns-in-Ok-clause-further : goal.returns-in-Ok-clause-further
returns-in-Ok-clause-further c =
    let p = c.args.problem.now in
    let area = c.args.area.now in
    let m = c.args.m.now in
    let are : AreMultipliers p m = search rules in
    let is : IsImplied p m c.args.cutoff c.in-Ok.row =
    subst (λ (z : ℤ). IsImplied p m z c.in-Ok.row) (to_z-of_z w128 c.args.cutoff c.ranges.cutoff)
    c.in-Ok.ensures.ok in
    implied_follows p area m c.args.cutoff c.in-Ok.row are is

pub returns-in-Ok-clause-some : goal.returns-in-Ok-clause-some
returns-in-Ok-clause-some c =
    let p = c.args.problem.now in
    let m = c.args.m.now in
    record {
      multipliers = search rules;
      implied = subst (λ (z : ℤ). IsImplied p m z c.in-Ok.row)
          (to_z-of_z w128 c.args.cutoff c.ranges.cutoff)
          c.in-Ok.ensures.ok;
    }

pub returns-in_default-clause-none : goal.returns-in_default-clause-none
returns-in_default-clause-none c =
    let p = c.args.problem.now in
    let m = c.args.m.now in
    no_row_of p m c.args.cutoff c.in-Err.error c.in_default.not-Memory
    (subst (λ (z : ℤ). IsNotImplied p m z c.in-Err.error)
    (to_z-of_z w128 c.args.cutoff c.ranges.cutoff)
    c.in-Err.ensures.err)
