use Rattle.std.proofs.Common.{◌≡◌, ℤ, FitsSigned, subst, unsigned_abs, rules}
use Rattle.std.proofs.lemmas.Bool.{MatchBool-at_true}
use Rattle.std.proofs.lemmas.Int.{to_z-of_z}
use Rattle.std.specs.Int.{IsGcd}
use mir.Syntax.{w128}
use mir.Val.{to_z, of_z}
use Rattle.ug_rows.specs.declared.area.Interval.{Interval}
use Rattle.ug_rows.specs.Boxes.{interval_at}
use Rattle.ug_rows.specs.Rows.{term_at}
use Rattle.ug_surrogate.specs.Rounding.{IsOpen}
use Rattle.ug_surrogate.proofs.Divisors.{with_open}
use Rattle.ug_surrogate.proofs.rounding.with_term.Goals as goal

pub returns-then-is_open-clause-value : goal.returns-then-is_open-clause-value
returns-then-is_open-clause-value c =
    let terms = c.args.terms.now in
    let side : Interval = interval_at c.args.area.now (term_at terms c.args.k).column in
    let f : ℤ = (term_at terms c.args.k).factor in
    let fits : FitsSigned w128 f = search rules in
    let more : IsOpen side = MatchBool-at_true (IsOpen side) (side.low ≡ side.high) c.if-is_open.true c.is_open.ensures in
    let same : to_z w128 (of_z w128 f) ≡ f = to_z-of_z w128 f fits in
    let gcd : IsGcd c.args.divisor (unsigned_abs f) c.with_factor.result =
    subst (λ (z : ℤ). IsGcd c.args.divisor (unsigned_abs z) c.with_factor.result) same c.with_factor.ensures.value in
    with_open terms c.args.area.now c.args.k c.args.divisor c.with_factor.result c.requires.so_far more gcd
