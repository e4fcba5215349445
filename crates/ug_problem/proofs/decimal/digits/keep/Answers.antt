use Rattle.std.proofs.Common.{◌≡◌, ◌∙◌, [], sym, refl, arith}
use Rattle.std.proofs.lemmas.Option.{IfSome_then}
use Rattle.ug_problem.specs.Digits.{kept_of}
use Rattle.ug_problem.proofs.Significant.{still_none}
use Rattle.ug_problem.proofs.decimal.digits.keep.Goals as goal

pub returns-in_err-extend-clause-value : goal.returns-in_err-extend-clause-value
returns-in_err-extend-clause-value c =
    let begun : c.extend.result ≡ kept_of c.args.whole.now = c.extend.ensures.value [] refl in
    c.from_residual.ensures ∙ sym (still_none c.args.whole.now c.args.fraction.now (sym begun ∙ c.in_err-extend.was))

pub returns-clause-value : goal.returns-clause-value
returns-clause-value c =
    let begun : c.extend.result ≡ kept_of c.args.whole.now = c.extend.ensures.value [] refl in
    c.extend-2.ensures.value c.args.whole.now (sym begun ∙ c.in_ok-extend.was)

pub returns-clause-few : goal.returns-clause-few
returns-clause-few c = IfSome_then c.extend-2.result c.extend-2.ensures.few (λ d few. omega (arith, few, c.in_ok-extend.ensures.few))
