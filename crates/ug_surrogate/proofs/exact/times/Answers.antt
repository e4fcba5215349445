use Rattle.std.proofs.Common.{◌*ℤ◌, arith}
use Rattle.std.proofs.lemmas.Int.{to_z-of_z, unsigned_abs-mul}
use mir.Syntax.{w128}
use Rattle.ug_surrogate.proofs.Machine.{small_fits}
use Rattle.ug_surrogate.proofs.exact.times.Goals as goal

pub overflow_mul-result : goal.overflow_mul-result
overflow_mul-result c =
    let a = c.args.a in
    let b = c.args.b in
    rw (to_z-of_z w128 a c.ranges.a, to_z-of_z w128 b c.ranges.b)
    (small_fits (a *ℤ b) (omega (arith, unsigned_abs-mul a b, c.requires)))

pub returns : goal.returns
returns c =
    let a = c.args.a in
    let b = c.args.b in
    rw (to_z-of_z w128 a c.ranges.a, to_z-of_z w128 b c.ranges.b)
    (to_z-of_z w128 (a *ℤ b) (small_fits (a *ℤ b) (omega (arith, unsigned_abs-mul a b, c.requires))))
