use Rattle.std.proofs.Common.{◌≡◌, ◌∙◌, sym, ap, take, drop, Some}
use Rattle.ug_problem.specs.Decimals.{exponent_of, mantissa_of}
use Rattle.ug_problem.proofs.Words.{decimal_at, narrow, slice_from}
use Rattle.ug_problem.proofs.decimal.Decimal.from_word.Goals as goal

pub returns-clause-value : goal.returns-clause-value
returns-clause-value c =
    let word = c.args.word.now in
    let start = c.exponent_start-start.result in
    let small = c.in_ok-exponent.ensures.small in
    let e : Some c.in_ok-exponent.exponent ≡ exponent_of (drop start word) =
    sym c.in_ok-exponent.was ∙ c.exponent.ensures.value ∙ ap exponent_of (slice_from word start) in
    c.mantissa.ensures.value ∙ ap (mantissa_of (take start word)) (narrow c.in_ok-exponent.exponent small)
    ∙ sym (decimal_at word start c.in_ok-exponent.exponent c.exponent_start-start.ensures.value e)
