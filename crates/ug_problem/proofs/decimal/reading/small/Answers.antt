use Rattle.std.proofs.Common.{◌≡◌, ℕ, ◌+◌, ◌-◌, ◌*◌, get_or, sym, subst, rules}
use Rattle.ug_problem.proofs.Numerals.{IsSoFar, one_digit_more}
use Rattle.ug_problem.proofs.decimal.reading.small.Goals as goal

pub loop-digit-preserved : goal.loop-digit-preserved
loop-digit-preserved c =
    let digits = c.args.digits.now in
    let i = c.loop-digit.digit-index in
    let e : c.loop-digit.number * 10 + c.from.result ≡ c.loop-digit.number * 10 + (get_or digits i 0 - 48) = search rules in
    let P : ℕ → Type 0 = λ n. IsSoFar digits (i + 1) n in
    subst P (sym e) (one_digit_more digits i c.loop-digit.number c.loop-digit.invariant (search rules) (search rules) (search rules))
