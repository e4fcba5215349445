-- A working box as it is made: how far each row reaches, and all rows queued.
use Rattle.std.proofs.Common.{Option, replicate, ◌≡◌, sym, subst, ◌∙◌, ap, inl, inr, ℕ, ◌+◌, ◌-◌, ◌/◌, ◌%◌, ◌^◌, ◌<◌, ℤ, pos, ◌≤ℤ◌, List, [], ◌∷◌, ◌++◌, length, get_or, arith}
use Rattle.std.proofs.lemmas.Bool.{cases_eq, cases_lt}
use Rattle.std.proofs.lemmas.List.{get_or_append_left, get_or_push, get_or-replicate, length-replicate, length_push, replicate_more}
use Rattle.std.proofs.lemmas.Nat.Bits.{bit_at_ones}
use Rattle.std.specs.Int.{bit_at}
use Rattle.ug_rows.specs.declared.area.Interval.{Interval}
use Rattle.ug_rows.specs.declared.row.Term.{Term}
use Rattle.ug_rows.specs.Rows.{term_at}
use Rattle.ug_problem.specs.Instances.{Instance}
use Rattle.ug_problem.specs.Limits.{IsProblem}
use Rattle.ug_problem.specs.ColumnEntries.{terms_of}
use Rattle.ug_propagate.specs.declared.measure.Ends.{Ends}
use Rattle.ug_propagate.specs.declared.rows.ShortExtremes.{ShortExtremes}
use Rattle.ug_propagate.specs.declared.short_measure.ShortEnds.{ShortEnds}
use Rattle.ug_propagate.specs.declared.sums.Extremes.{Extremes}
use Rattle.ug_propagate.specs.Running.{IsSummed}
use Rattle.ug_propagate.specs.Shorts.{AreShort, IsShortMeasured, IsShortRow, ends_of}
use Rattle.ug_propagate.specs.Steps.{IsMeasured, span_of}
use Rattle.ug_propagate.specs.Working.{AllAtFixpoint, AreFirstShort, AreFirstWide, AreAtFixpoint, IsAtFixpoint, sides_for, AreQueued, AreFirstMaxSpans, AreOnes, AreMaxSpans, HasBits, max_span_at}
use Rattle.ug_propagate.specs.Queued.{HasBit, bit_of}
use Rattle.ug_propagate.specs.declared.fixpoint.Fixpoint.TheVariants.{Under}
use Rattle.ug_propagate.specs.declared.row_sides.RowSides.{RowSides}
use Rattle.ug_propagate.proofs.Running.{short_sums_push, sums_push, sums_whole}
use Rattle.ug_propagate.proofs.Waiting.{propagate_inner}

pub all_ones : (n : ℕ) (queued : List ℕ) → AreOnes n queued → AreOnes (n + 1) (queued ++ (2 ^ 64 - 1) ∷ [])
all_ones n queued h = ap (λ (xs : List ℕ). xs ++ (2 ^ 64 - 1) ∷ []) h ∙ replicate_more n (2 ^ 64 - 1)

-- the reach of one row more
pub max_spans_push : (p : Instance) (area : List Interval) (r : ℕ) (max_span : List ℤ) (ends : Ends)
    → AreFirstMaxSpans p area r max_span → IsMeasured (terms_of p r) area ends → AreFirstMaxSpans p area (r + 1) (max_span ++ ends.widest ∷ [])
max_spans_push p area r max_span ends h here = record {
  count = length_push max_span ends.widest ∙ ap (λ (n : ℕ). n + 1) h.count;
  each = λ i k less within. elim (cases_eq i r) [
    | inl same ↦
        let at : max_span_at (max_span ++ ends.widest ∷ []) i ≡ ends.widest =
        get_or_push max_span ends.widest (pos 0) i (h.count ∙ sym same) in
        let P : ℕ → Type 0 = λ (n : ℕ). (j : ℕ) → j < length (terms_of p n) → span_of (term_at (terms_of p n) j) area ≤ℤ ends.widest in
        let Q : ℤ → Type 0 = λ (v : ℤ). span_of (term_at (terms_of p i) k) area ≤ℤ v in
        let wide : P i = subst P (sym same) here.widest in
        subst Q (sym at) (wide k within)
    | inr other ↦
        let at : max_span_at (max_span ++ ends.widest ∷ []) i ≡ max_span_at max_span i =
        get_or_append_left max_span (ends.widest ∷ []) (pos 0) i (omega (arith, h.count, less)) in
        let Q : ℤ → Type 0 = λ (v : ℤ). span_of (term_at (terms_of p i) k) area ≤ℤ v in
        subst Q (sym at) (h.each i k (omega arith) within)
  ];
}

pub max_spans_whole : (p : Instance) (area : List Interval) (n : ℕ) (max_span : List ℤ) → n ≡ length p.rows + 1
    → AreFirstMaxSpans p area n max_span → AreMaxSpans p area max_span
max_spans_whole p area n max_span all h = record {
  count = h.count ∙ all;
  each = λ r k there within. h.each r k (omega arith) within;
}

-- the measured numbers are the sums
pub summed_of : (ts : List Term) (area : List Interval) (ends : Ends) → IsMeasured ts area ends
    → IsSummed ts area (record { least = ends.least; greatest = ends.greatest })
summed_of ts area ends h = record { small = h.small; least = h.least; greatest = h.greatest }

-- one row more, and all rows
pub wide_push : (p : Instance) (area : List Interval) (r : ℕ) (sums : List Extremes) (max_span : List ℤ) (ends : Ends)
    → AreFirstWide p area r sums max_span → IsMeasured (terms_of p r) area ends
    → AreFirstWide p area (r + 1) (sums ++ record { least = ends.least; greatest = ends.greatest } ∷ []) (max_span ++ ends.widest ∷ [])
wide_push p area r sums max_span ends h here = record {
  sums = sums_push p area r sums _ h.sums (summed_of (terms_of p r) area ends here);
  max_span = max_spans_push p area r max_span ends h.max_span here;
}

-- one short row more, and all rows where each is short
pub short_push : (p : Instance) (area : List Interval) (r : ℕ) (sums : List ShortExtremes) (max_span : List ℤ) (ends : ShortEnds)
    → AreFirstShort p area r sums max_span → IsShortMeasured (terms_of p r) area ends
    → AreFirstShort p area (r + 1) (sums ++ record { least = ends.least; greatest = ends.greatest } ∷ []) (max_span ++ ends.widest ∷ [])
short_push p area r sums max_span ends h here = record {
  short = λ k less. elim (cases_eq k r) [
    | inl same ↦ subst (λ (n : ℕ). IsShortRow (terms_of p n)) (sym same) here.short
    | inr other ↦ h.short k (omega arith)
  ];
  sums = short_sums_push p area r sums _ h.sums (summed_of (terms_of p r) area (ends_of ends) here.measured);
  max_span = max_spans_push p area r max_span (ends_of ends) h.max_span here.measured;
}

-- each row is short where all were found to be
pub short_whole : (p : Instance) (area : List Interval) (n : ℕ) (sums : List ShortExtremes) (max_span : List ℤ)
    → n ≡ length p.rows + 1 → AreFirstShort p area n sums max_span → AreShort p
short_whole p area n sums max_span all h r there = h.short r (omega arith)

-- the measures of all rows are those of the first, once these are all
pub ruleset all_measured = (sums_whole, max_spans_whole, short_whole)

-- words enough for all rows, in which each bit is 1
pub ones_bits : (p : Instance) (words : ℕ) (queued : List ℕ) → IsProblem p → words ≡ length p.rows / 64 + 1
    → AreOnes words queued → HasBits p queued
ones_bits p words queued problem e h =
    let long : length queued ≡ words = ap (λ (xs : List ℕ). length xs) h ∙ length-replicate words (2 ^ 64 - 1) in
    record { enough = omega arith; few = omega (arith, problem.counts.rows) }

pub ones_queued : (p : Instance) (words : ℕ) (queued : List ℕ) → words ≡ length p.rows / 64 + 1 → AreOnes words queued
    → AreQueued p queued
ones_queued p words queued e h r there =
    ap (λ (xs : List ℕ). bit_at (get_or xs (r / 64) 0) (r % 64)) h
    ∙ ap (λ (word : ℕ). bit_at word (r % 64)) (get_or-replicate words (r / 64) (2 ^ 64 - 1) 0 (omega arith))
    ∙ bit_at_ones 64 (r % 64) (omega arith)

pub ruleset ones_enough = (ones_bits, ones_queued)

not_zero : (b : ℕ) → b ≡ 1 → b ≡ 0 → ⊥
not_zero b e f = omega arith

-- if each bit is 1, each row that is not queued is at fixpoint
pub ones_at_fixpoint : (p : Instance) (cutoff : Option ℤ) (area : List Interval) (old queued : List ℕ) → HasBits p old
    → queued ≡ replicate (length old) (2 ^ 64 - 1) → AreAtFixpoint p cutoff area queued
ones_at_fixpoint p cutoff area old queued bits same r there unqueued =
    let word : get_or queued (r / 64) 0 ≡ 2 ^ 64 - 1 =
    ap (λ (xs : List ℕ). get_or xs (r / 64) 0) same ∙ get_or-replicate (length old) (r / 64) (2 ^ 64 - 1) 0 (omega (arith, bits.enough)) in
    let one : bit_of queued r ≡ 1 = ap (λ (w : ℕ). bit_at w (r % 64)) word ∙ bit_at_ones 64 (r % 64) (omega arith) in
    absurd (not_zero (bit_of queued r) one unqueued)

-- if the rows were at fixpoint under another cutoff, all but the objective are so under this
pub others_at_fixpoint : (p : Instance) (under cutoff : Option ℤ) (area : List Interval) (mid queued : List ℕ)
    → AllAtFixpoint p (Under under) area → HasBit (length p.rows) 1 mid queued → AreAtFixpoint p cutoff area queued
others_at_fixpoint p under cutoff area mid queued rest bit r there unqueued = elim (cases_lt r (length p.rows)) [
  | inl inner ↦
      let same : sides_for p under r ≡ sides_for p cutoff r = propagate_inner p under r inner ∙ sym (propagate_inner p cutoff r inner) in
      subst (λ (row_sides : RowSides). IsAtFixpoint row_sides (terms_of p r) area) same (rest r there)
  | inr last ↦
      let e : r ≡ length p.rows = omega arith in
      absurd (not_zero (bit_of queued r) (ap (λ (n : ℕ). bit_of queued n) e ∙ bit.here) unqueued)
]

pub same_at_fixpoint : (p : Instance) (under cutoff : Option ℤ) (area : List Interval) (queued : List ℕ)
    → AllAtFixpoint p (Under under) area → under ≡ cutoff → AreAtFixpoint p cutoff area queued
same_at_fixpoint p under cutoff area queued rest same r there unqueued =
    subst (λ (c : Option ℤ). IsAtFixpoint (sides_for p c r) (terms_of p r) area) same (rest r there)
