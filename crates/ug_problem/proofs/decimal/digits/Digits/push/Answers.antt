use Rattle.std.proofs.Common.{◌≡◌, ℕ, ◌+◌, ◌-◌, ◌*◌, ◌^◌, sym, subst, rules}
use Rattle.ug_problem.specs.Digits.{IsKept}
use Rattle.ug_problem.proofs.Significant.{kept_number}
use Rattle.ug_problem.proofs.decimal.digits.Digits.push.Goals as goal

pub returns-clause-kept : goal.returns-clause-kept
returns-clause-kept c =
    let d = c.args.self in
    let e : c.in_ok-tens.tens + c.from.result ≡ d.number * 10 ^ (d.zeros + 1) + (c.args.byte - 48) = search rules in
    let P : ℕ → Type 0 = λ n. IsKept (record { number = n; zeros = 0 }) in
    subst P (sym e) (kept_number d.number d.zeros c.args.byte (search rules) c.if-byte-eq48.false (search rules))
