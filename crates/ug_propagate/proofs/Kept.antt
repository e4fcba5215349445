-- A row at fixpoint stays at fixpoint where a column is cut, if no end moves that takes slack from
-- a side which is there.
use Rattle.std.proofs.Common.{◌≡◌, refl, sym, subst, ◌∙◌, ap, inl, inr, ℕ, ◌*◌, ◌^◌, ◌<◌, ◌≤◌, ◌⊎◌, ℤ, pos, ◌-ℤ◌, ◌≤ℤ◌, unsigned_abs, List, length, set, Option, None, arith}
use Rattle.std.proofs.lemmas.Int.{ints, by_lt_z}
use Rattle.ug_rows.specs.declared.area.Interval.{Interval}
use Rattle.ug_rows.specs.declared.row.Term.{Term}
use Rattle.ug_rows.specs.declared.sums.Extreme.TheVariants.{Least, Greatest}
use Rattle.ug_rows.specs.Boxes.{HasSmallEnds, IsClosedWithin, interval_at}
use Rattle.ug_rows.specs.Rows.{IsAmong, IsLinear, term_at}
use Rattle.ug_rows.specs.Sums.{end_of, greatest_sum, least_sum}
use Rattle.ug_rows.proofs.Replaced.{sum_small}
use Rattle.ug_propagate.specs.declared.row_sides.RowSides.{RowSides}
use Rattle.ug_propagate.specs.Steps.{HaveSmallColumns, high_of, low_of, slack_over, span_of}
use Rattle.ug_propagate.specs.Working.{IsAtFixpoint}
use Rattle.ug_propagate.proofs.Slacks.{high_slack_size, low_slack_size, never_high, never_low, small_put, sum_stays}
use Rattle.ug_propagate.proofs.Snug.{span_small}
use Rattle.ug_propagate.proofs.Stepping.{span_cut}
use Rattle.ug_propagate.proofs.Still.{no_high, no_low}

-- the slack of a side: there is some, and the terms fit in it
pub record FitsIn (ts : List Term) (area : List Interval) (slack : ℤ) : Type 0 where
  pub size : unsigned_abs slack ≤ 9 * 10 ^ 37
  pub some : pos 0 ≤ℤ slack
  pub each : (k : ℕ) → k < length ts → span_of (term_at ts k) area ≤ℤ slack

-- without a high side all fit under it
free_high : (width : ℕ) (ts : List Term) (area : List Interval) → IsLinear width ts → HaveSmallColumns ts area
    → FitsIn ts area (high_of None -ℤ least_sum ts area)
free_high width ts area linear small =
    let sum : unsigned_abs (least_sum ts area) ≤ 3 * 10 ^ 37 = sum_small Least width ts area linear small in
    let slack : ℤ = high_of None -ℤ least_sum ts area in
    record {
      size = high_slack_size None (least_sum ts area) slack refl tt sum;
      some = by_lt_z slack (pos 0) (λ less. absurd (no_high slack (least_sum ts area) refl sum less)) (λ more. more);
      each = λ k there. by_lt_z slack (span_of (term_at ts k) area)
          (λ less. absurd (never_high slack (least_sum ts area) (span_of (term_at ts k) area) refl sum
          (span_small (term_at ts k) area (linear.small k there) (small k there)) less))
          (λ more. more);
    }

-- without a low side all fit over it
free_low : (width : ℕ) (ts : List Term) (area : List Interval) → IsLinear width ts → HaveSmallColumns ts area
    → FitsIn ts area (greatest_sum ts area -ℤ low_of None)
free_low width ts area linear small =
    let sum : unsigned_abs (greatest_sum ts area) ≤ 3 * 10 ^ 37 = sum_small Greatest width ts area linear small in
    let slack : ℤ = greatest_sum ts area -ℤ low_of None in
    record {
      size = low_slack_size None (greatest_sum ts area) slack refl tt sum;
      some = by_lt_z slack (pos 0) (λ less. absurd (no_low slack (greatest_sum ts area) refl sum less)) (λ more. more);
      each = λ k there. by_lt_z slack (span_of (term_at ts k) area)
          (λ less. absurd (never_low slack (greatest_sum ts area) (span_of (term_at ts k) area) refl sum
          (span_small (term_at ts k) area (linear.small k there) (small k there)) less))
          (λ more. more);
    }

pub small_inner : (inner outer : Interval) → HasSmallEnds outer → IsClosedWithin inner outer → HasSmallEnds inner
small_inner inner outer small closed = record { low = omega (arith, ints, small.low, small.high, closed.low, closed.high, closed.some); high = omega (arith, ints, small.low, small.high, closed.low, closed.high, closed.some) }

pub rest_kept : (width : ℕ) (row_sides : RowSides) (ts : List Term) (t : Term) (area : List Interval) (side : Interval) → IsLinear width ts
    → IsAmong t ts → t.column < length area → IsClosedWithin side (interval_at area t.column) → HasSmallEnds side
    → IsAtFixpoint row_sides ts area
    → (end_of Least t.factor side ≡ end_of Least t.factor (interval_at area t.column)) ⊎ (row_sides.high ≡ None)
    → (end_of Greatest t.factor side ≡ end_of Greatest t.factor (interval_at area t.column)) ⊎ (row_sides.low ≡ None)
    → IsAtFixpoint row_sides ts (set area t.column side)
rest_kept width row_sides ts t area side linear among there closed ends h under over =
    let new : List Interval = set area t.column side in
    let small : HaveSmallColumns ts new = small_put ts area t.column side there h.is.small ends in
    let high : FitsIn ts new (high_of row_sides.high -ℤ least_sum ts new) = elim under [
      | inl same ↦
          let sum : least_sum ts new ≡ least_sum ts area = sum_stays Least width ts t area side linear among there same in
          let slack : h.slack.high ≡ high_of row_sides.high -ℤ least_sum ts new =
          h.is.high ∙ ap (λ (v : ℤ). high_of row_sides.high -ℤ v) (sym sum) in
          subst (λ (v : ℤ). FitsIn ts new v) slack (record {
            size = h.is.high_size;
            some = h.high;
            each = λ k within. span_cut (term_at ts k) area t.column side h.slack.high there closed (h.each k within).0;
          })
      | inr none ↦
          subst (λ (s : Option ℤ). FitsIn ts new (high_of s -ℤ least_sum ts new)) (sym none) (free_high width ts new linear small)
    ] in
    let low : FitsIn ts new (greatest_sum ts new -ℤ low_of row_sides.low) = elim over [
      | inl same ↦
          let sum : greatest_sum ts new ≡ greatest_sum ts area = sum_stays Greatest width ts t area side linear among there same in
          let slack : h.slack.low ≡ greatest_sum ts new -ℤ low_of row_sides.low =
          h.is.low ∙ ap (λ (v : ℤ). v -ℤ low_of row_sides.low) (sym sum) in
          subst (λ (v : ℤ). FitsIn ts new v) slack (record {
            size = h.is.low_size;
            some = h.low;
            each = λ k within. span_cut (term_at ts k) area t.column side h.slack.low there closed (h.each k within).1;
          })
      | inr none ↦
          subst (λ (s : Option ℤ). FitsIn ts new (greatest_sum ts new -ℤ low_of s)) (sym none) (free_low width ts new linear small)
    ] in
    record {
      slack = slack_over row_sides ts new;
      is = record { small = small; high = refl; low = refl; high_size = high.size; low_size = low.size };
      high = high.some;
      low = low.some;
      each = λ k within. (high.each k within, low.each k within);
    }
