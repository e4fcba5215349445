use Rattle.std.proofs.Common.{List, length, ap, subst, sym, ◌∙◌}
use Rattle.ug_rows.specs.declared.area.Interval.{Interval}
use Rattle.ug_rows.specs.declared.row.Term.{Term}
use Rattle.ug_rows.proofs.EndBounds.{there_from_index}
use Rattle.ug_surrogate.specs.Rounding.{IsCommonDivisor, IsNarrower, LosesNone, rounded_by}
use Rattle.ug_surrogate.specs.declared.rounding.Narrowed.{Narrowed}
use Rattle.ug_surrogate.proofs.Divisors.{is_narrower, none_lost}
use Rattle.ug_surrogate.proofs.rounding.rounded.Goals as goal

pub returns-clause-value : goal.returns-clause-value
returns-clause-value c =
    let g = c.common_divisor-divisor.result in
    let terms = c.args.row.now.terms in
    let divisor : IsCommonDivisor terms c.args.area.now g =
    subst (λ (ts : List Term). IsCommonDivisor ts c.args.area.now g) c.as_slice.ensures
    (subst (λ (a : List Interval). IsCommonDivisor c.as_slice.result.now a g) c.as_slice-2.ensures c.common_divisor-divisor.ensures.value) in
    let same = ap (λ (a : List Interval). rounded_by g c.args.row.now a) c.as_slice-3.ensures in
    (g, divisor, c.narrowed_by.ensures ∙ same)

pub returns-clause-kept : goal.returns-clause-kept
returns-clause-kept c =
    let g = c.common_divisor-divisor.result in
    let row = c.args.row.now in
    let area = c.args.area.now in
    let divisor : IsCommonDivisor row.terms area g =
    subst (λ (ts : List Term). IsCommonDivisor ts area g) c.as_slice.ensures
    (subst (λ (a : List Interval). IsCommonDivisor c.as_slice.result.now a g) c.as_slice-2.ensures c.common_divisor-divisor.ensures.value) in
    let same = ap (λ (a : List Interval). rounded_by g row a) c.as_slice-3.ensures in
    subst (λ (left : Narrowed). LosesNone row area left) (sym (c.narrowed_by.ensures ∙ same))
    (none_lost row area g (there_from_index (length area) row.terms c.requires.terms.within) divisor)

pub returns-clause-narrower : goal.returns-clause-narrower
returns-clause-narrower c =
    let g = c.common_divisor-divisor.result in
    let row = c.args.row.now in
    let area = c.args.area.now in
    let same = ap (λ (a : List Interval). rounded_by g row a) c.as_slice-3.ensures in
    subst (λ (left : Narrowed). IsNarrower row left) (sym (c.narrowed_by.ensures ∙ same))
    (is_narrower row area g)
