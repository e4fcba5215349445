use Rattle.std.proofs.Common.{◌≡◌, ◌<◌, ◌+◌, length, Some, None, subst, ◌∙◌, rules, arith}
use Rattle.ug_problem.proofs.Significant.{IsSoFar, ends, steps, stops}
use Rattle.ug_problem.proofs.decimal.digits.Digits.extend.Goals as goal

pub returns-in_err-digits-clause-value : goal.returns-in_err-digits-clause-value
returns-in_err-digits-clause-value c =
    let d = c.args.self in
    let bytes = c.args.bytes.now in
    let i = c.loop-byte.byte-index in
    let there : i < length bytes = omega arith in
    let next : IsSoFar d bytes (i + 1) None = steps d c.loop-byte.digits bytes i None c.loop-byte.invariant.value there (search rules) in
    λ text kept. c.from_residual.ensures ∙ stops d bytes (i + 1) next text kept

pub loop-byte-preserved : goal.loop-byte-preserved
loop-byte-preserved c =
    let d = c.args.self in
    let bytes = c.args.bytes.now in
    let i = c.loop-byte.byte-index in
    let there : i < length bytes = omega arith in
    record {
      value = steps d c.loop-byte.digits bytes i (Some c.in_ok-digits.digits) c.loop-byte.invariant.value there (search rules);
      kept = c.in_ok-digits.ensures.kept;
      few = omega (arith, c.in_ok-digits.ensures.few);
    }

pub returns-clause-value : goal.returns-clause-value
returns-clause-value c =
    let d = c.args.self in
    let bytes = c.args.bytes.now in
    let e : c.loop-byte.byte-index ≡ length bytes = omega arith in
    ends d c.loop-byte.digits bytes (subst (λ i. IsSoFar d bytes i (Some c.loop-byte.digits)) e c.loop-byte.invariant.value)
