-- A row with one side alone is at fixpoint after its own propagation: each term fits once it was
-- examined, and continues to fit.
use Rattle.std.proofs.Common.{◌≡◌, ◌≢◌, refl, sym, subst, ◌∙◌, ap, inl, inr, ℕ, zero, suc, ◌+◌, ◌*◌, ◌^◌, ◌<◌, ◌≤◌, ℤ, pos, negsuc, ◌-ℤ◌, ◌*ℤ◌, ◌≤ℤ◌, unsigned_abs, List, length, set, Option, Some, None, arith}
use Rattle.std.proofs.Math.Nat.{mul-le-mul}
use Rattle.std.proofs.lemmas.Int.{ints, by_lt_z, unsigned_abs-mul}
use Rattle.std.proofs.lemmas.Bool.{cases_eq}
use Rattle.std.proofs.lemmas.List.{get_or-set_other, get_or-set_same}
use Rattle.ug_rows.specs.declared.area.Interval.{Interval}
use Rattle.ug_rows.specs.declared.row.Term.{Term}
use Rattle.ug_rows.specs.declared.sums.Extreme.{Extreme}
use Rattle.ug_rows.specs.declared.sums.Extreme.TheVariants.{Least, Greatest}
use Rattle.ug_rows.specs.Boxes.{HasSmallEnds, interval_at, no_interval}
use Rattle.ug_rows.specs.Rows.{IsAmong, IsLinear, term_at}
use Rattle.ug_rows.specs.Sums.{end_of, end_product, end_sum, least_sum, greatest_sum}
use Rattle.ug_rows.proofs.EndBounds.{mul_neg, mul_pos}
use Rattle.ug_rows.proofs.Products.{abs_sub}
use Rattle.ug_rows.proofs.Replaced.{among_at, sum_small}
use Rattle.ug_rows.proofs.Orders.{at_most_itself, at_most_trans}
use Rattle.ug_propagate.specs.declared.row_sides.RowSides.{RowSides}
use Rattle.ug_propagate.specs.declared.measure.Slack.{Slack}
use Rattle.ug_propagate.specs.declared.tight.Tight.{Tight}
use Rattle.ug_propagate.specs.declared.tight.Tight.TheVariants.{Kept, Empty}
use Rattle.ug_propagate.specs.declared.tight.Reason.{Reason}
use Rattle.ug_propagate.specs.declared.tight.Side.TheVariants.{Low, High}
use Rattle.ug_propagate.specs.Rounds.{ceiling_quotient, floor_quotient, keep_at_least, keep_at_most, lower_high, raise_low, reason_of, term_step, then_low}
use Rattle.ug_propagate.specs.Steps.{IsPropagable, IsSlackOf, high_of, low_of, row_of, span_of}
use Rattle.ug_propagate.specs.Working.{HasOneSide, IsAtFixpoint}
use Rattle.ug_propagate.proofs.Parts.{if_lt}
use Rattle.ug_propagate.proofs.Quotients.{ceiling_within, ceiling_within_neg, floor_within, floor_within_neg}
use Rattle.ug_propagate.proofs.Slacks.{IsMoved, at_least_moved, at_most_moved, never_high, never_low, sum_stays}
use Rattle.ug_propagate.proofs.Still.{no_high, no_low}

-- what the interval of column j is in what is left
abbrev HasHigh : ℕ → ℤ → Tight → Type 0
HasHigh j q (Kept new) = (interval_at new j).high ≤ℤ q
HasHigh j q (Empty reason) = Unit {0}

abbrev HasLow : ℕ → ℤ → Tight → Type 0
HasLow j q (Kept new) = q ≤ℤ (interval_at new j).low
HasLow j q (Empty reason) = Unit {0}

has_high : (reason : Reason) (j : ℕ) (q : ℤ) (area : List Interval) → j < length area → HasHigh j q (lower_high reason j q area)
has_high reason j q area there =
    let P : Tight → Type 0 = HasHigh j q in
    let side : Interval = record { low = (interval_at area j).low; high = q } in
    let at : interval_at (set area j side) j ≡ side = get_or-set_same area j side no_interval there in
    if_lt P q (interval_at area j).high _ _
    (λ tighter. if_lt P q (interval_at area j).low _ _ (λ none. tt)
    (λ some. subst (λ (s : Interval). s.high ≤ℤ q) (sym at) (at_most_itself q)))
    (λ looser. looser)

has_low : (reason : Reason) (j : ℕ) (q : ℤ) (area : List Interval) → j < length area → HasLow j q (raise_low reason j q area)
has_low reason j q area there =
    let P : Tight → Type 0 = HasLow j q in
    let side : Interval = record { low = q; high = (interval_at area j).high } in
    let at : interval_at (set area j side) j ≡ side = get_or-set_same area j side no_interval there in
    if_lt P (interval_at area j).low q _ _
    (λ tighter. if_lt P (interval_at area j).high q _ _ (λ none. tt)
    (λ some. subst (λ (s : Interval). q ≤ℤ s.low) (sym at) (at_most_itself q)))
    (λ looser. looser)

-- the greatest product of a term that was satisfied at most s is at most s
at_most_kept : (reason : Reason) (f : ℤ) (j : ℕ) (s : ℤ) (area new : List Interval) → f ≢ pos 0 → j < length area
    → Kept new ≡ keep_at_most reason f j s area → (f *ℤ end_of Greatest f (interval_at new j)) ≤ℤ s
at_most_kept reason (pos zero) j s area new ne there e = absurd (ne refl)
at_most_kept reason (pos (suc d)) j s area new ne there e =
    let q : ℤ = floor_quotient s (pos (suc d)) in
    let h : HasHigh j q (Kept new) = subst (HasHigh j q) (sym e) (has_high reason j q area there) in
    at_most_trans _ _ _ (mul_pos (suc d) (interval_at new j).high q h) (floor_within s (suc d) (omega arith))
at_most_kept reason (negsuc d) j s area new ne there e =
    let q : ℤ = ceiling_quotient s (negsuc d) in
    let h : HasLow j q (Kept new) = subst (HasLow j q) (sym e) (has_low reason j q area there) in
    at_most_trans _ _ _ (mul_neg d q (interval_at new j).low h) (ceiling_within_neg s d)

-- and the least product of one that was satisfied at least s is at least s
at_least_kept : (reason : Reason) (f : ℤ) (j : ℕ) (s : ℤ) (area new : List Interval) → f ≢ pos 0 → j < length area
    → Kept new ≡ keep_at_least reason f j s area → s ≤ℤ (f *ℤ end_of Least f (interval_at new j))
at_least_kept reason (pos zero) j s area new ne there e = absurd (ne refl)
at_least_kept reason (pos (suc d)) j s area new ne there e =
    let q : ℤ = ceiling_quotient s (pos (suc d)) in
    let h : HasLow j q (Kept new) = subst (HasLow j q) (sym e) (has_low reason j q area there) in
    at_most_trans _ _ _ (ceiling_within s (suc d) (omega arith)) (mul_pos (suc d) q (interval_at new j).low h)
at_least_kept reason (negsuc d) j s area new ne there e =
    let q : ℤ = floor_quotient s (negsuc d) in
    let h : HasHigh j q (Kept new) = subst (HasHigh j q) (sym e) (has_high reason j q area there) in
    at_most_trans _ _ _ (floor_within_neg s d) (mul_neg d (interval_at new j).high q h)

end_small : (e : Extreme) (f : ℤ) (side : Interval) → HasSmallEnds side → unsigned_abs (end_of e f side) ≤ 2 ^ 31
end_small Least (pos n) side h = h.low
end_small Least (negsuc n) side h = h.high
end_small Greatest (pos n) side h = h.high
end_small Greatest (negsuc n) side h = h.low

-- no span is larger than this
pub span_small : (t : Term) (area : List Interval) → unsigned_abs t.factor ≤ 10 ^ 24 → HasSmallEnds (interval_at area t.column)
    → unsigned_abs (span_of t area) ≤ 10 ^ 24 * 2 ^ 32
span_small t area small ends =
    let g : ℤ = end_of Greatest t.factor (interval_at area t.column) in
    let l : ℤ = end_of Least t.factor (interval_at area t.column) in
    let a : unsigned_abs t.factor * unsigned_abs g ≤ 10 ^ 24 * 2 ^ 31 = mul-le-mul small (end_small Greatest t.factor _ ends) in
    let b : unsigned_abs t.factor * unsigned_abs l ≤ 10 ^ 24 * 2 ^ 31 = mul-le-mul small (end_small Least t.factor _ ends) in
    omega (arith, a, b, unsigned_abs-mul t.factor g, unsigned_abs-mul t.factor l, abs_sub (t.factor *ℤ g) (t.factor *ℤ l))

-- each span is within the slack of a side that is not there
fits_no_high : (width : ℕ) (row_sides : RowSides) (ts : List Term) (area : List Interval) (slack : Slack) (k : ℕ) → IsPropagable width row_sides ts
    → IsSlackOf row_sides ts area slack → row_sides.high ≡ None → k < length ts → span_of (term_at ts k) area ≤ℤ slack.high
fits_no_high width row_sides ts area slack k ready r none there =
    let e : slack.high ≡ pos (6 * 10 ^ 37) -ℤ least_sum ts area =
    r.high ∙ ap (λ (h : Option ℤ). high_of h -ℤ least_sum ts area) none in
    by_lt_z slack.high (span_of (term_at ts k) area)
    (λ less. absurd (never_high slack.high (least_sum ts area) (span_of (term_at ts k) area) e
    (sum_small Least width ts area ready.linear r.small) (span_small (term_at ts k) area (ready.linear.small k there) (r.small k there)) less))
    (λ more. more)

fits_no_low : (width : ℕ) (row_sides : RowSides) (ts : List Term) (area : List Interval) (slack : Slack) (k : ℕ) → IsPropagable width row_sides ts
    → IsSlackOf row_sides ts area slack → row_sides.low ≡ None → k < length ts → span_of (term_at ts k) area ≤ℤ slack.low
fits_no_low width row_sides ts area slack k ready r none there =
    let e : slack.low ≡ greatest_sum ts area -ℤ low_of None =
    r.low ∙ ap (λ (l : Option ℤ). greatest_sum ts area -ℤ low_of l) none in
    by_lt_z slack.low (span_of (term_at ts k) area)
    (λ less. absurd (never_low slack.low (greatest_sum ts area) (span_of (term_at ts k) area) e
    (sum_small Greatest width ts area ready.linear r.small) (span_small (term_at ts k) area (ready.linear.small k there) (r.small k there)) less))
    (λ more. more)

-- the span of a term of another column is as it was
span_other : (t : Term) (area : List Interval) (j : ℕ) (side : Interval) → t.column ≢ j
    → span_of t (set area j side) ≡ span_of t area
span_other t area j side ne =
    ap (λ (s : Interval). (t.factor *ℤ end_of Greatest t.factor s) -ℤ (t.factor *ℤ end_of Least t.factor s))
    (get_or-set_other area j t.column side no_interval ne)

apart : (width : ℕ) (row_sides : RowSides) (ts : List Term) (i k : ℕ) → IsPropagable width row_sides ts → i < length ts → k < i
    → (term_at ts k).column ≢ (term_at ts i).column
apart width row_sides ts i k ready there less e =
    absurd (let h : (term_at ts k).column < (term_at ts i).column = ready.linear.rising k i less there in omega arith)

-- the first i terms fit within a slack, and there is some
pub record AreWithin (ts : List Term) (i : ℕ) (area : List Interval) (slack : ℤ) : Type 0 where
  pub some : pos 0 ≤ℤ slack
  pub fit : (k : ℕ) → k < i → span_of (term_at ts k) area ≤ℤ slack

-- they fit within the slack of both sides
pub record AreSnug (ts : List Term) (i : ℕ) (area : List Interval) (slack : Slack) : Type 0 where
  pub high : AreWithin ts i area slack.high
  pub low : AreWithin ts i area slack.low

-- what a look at term t did to the box: it changed that column alone, kept this sum, and the term
-- fits
record IsCut (e : Extreme) (ts : List Term) (t : Term) (old new : List Interval) (slack : ℤ) : Type 0 where
  side : Interval
  put : new ≡ set old t.column side
  sum : end_sum e ts new ≡ end_sum e ts old
  own : span_of t new ≤ℤ slack

-- without a low side a term satisfies the high side alone
high_alone : (name : Option ℕ) (ts : List Term) (high : Option ℤ) (t : Term) (o : Tight)
    → then_low name (record { terms = ts; low = None; high = high }) t o ≡ o
high_alone name ts high t (Empty reason) = refl
high_alone name ts high t (Kept area) = refl

left_high : (high sum was least before greatest slack : ℤ) → greatest ≤ℤ (high -ℤ (was -ℤ before)) → least ≡ before
    → sum ≡ was → slack ≡ high -ℤ sum → (greatest -ℤ least) ≤ℤ slack
left_high high sum was least before greatest slack h e f g = omega (arith, ints)

left_low : (low sum was least greatest before slack : ℤ) → (low -ℤ (was -ℤ before)) ≤ℤ least → greatest ≡ before
    → sum ≡ was → slack ≡ sum -ℤ low → (greatest -ℤ least) ≤ℤ slack
left_low low sum was least greatest before slack h e f g = omega (arith, ints)

-- the end of the changed column
end_moved : (e : Extreme) (f : ℤ) (j : ℕ) (old new : List Interval) → j < length old → (m : IsMoved e f j old new)
    → end_of e f (interval_at new j) ≡ end_of e f (interval_at old j)
end_moved e f j old new there m =
    ap (λ (a : List Interval). end_of e f (interval_at a j)) m.put
    ∙ ap (λ (s : Interval). end_of e f s) (get_or-set_same old j m.side no_interval there) ∙ m.end

sum_moved : (e : Extreme) (width : ℕ) (ts : List Term) (t : Term) (old new : List Interval) → IsLinear width ts → IsAmong t ts
    → t.column < length old → IsMoved e t.factor t.column old new → end_sum e ts new ≡ end_sum e ts old
sum_moved e width ts t old new linear among there m =
    ap (λ (a : List Interval). end_sum e ts a) m.put ∙ sum_stays e width ts t old m.side linear among there m.end

cut_high : (name : Option ℕ) (width : ℕ) (ts : List Term) (t : Term) (h : ℤ) (old new : List Interval) (slack : ℤ)
    → IsLinear width ts → IsAmong t ts → t.factor ≢ pos 0 → t.column < length old
    → Kept new ≡ term_step name (record { terms = ts; low = None; high = Some h }) t (Kept old)
    → slack ≡ h -ℤ least_sum ts new → IsCut Least ts t old new slack
cut_high name width ts t h old new slack linear among ne there e r =
    let most : ℤ = h -ℤ (least_sum ts old -ℤ end_product Least t old) in
    let alone : Kept new ≡ keep_at_most (reason_of name High) t.factor t.column most old =
    e ∙ high_alone name ts (Some h) t (keep_at_most (reason_of name High) t.factor t.column most old) in
    let m : IsMoved Least t.factor t.column old new = at_most_moved (reason_of name High) t.factor t.column most old new alone in
    let stays : least_sum ts new ≡ least_sum ts old = sum_moved Least width ts t old new linear among there m in
    record {
      side = m.side;
      put = m.put;
      sum = stays;
      own = left_high h (least_sum ts new) (least_sum ts old) (end_product Least t new) (end_product Least t old)
          (end_product Greatest t new) slack
          (at_most_kept (reason_of name High) t.factor t.column most old new ne there alone)
          (ap (λ (v : ℤ). t.factor *ℤ v) (end_moved Least t.factor t.column old new there m)) stays r;
    }

cut_low : (name : Option ℕ) (width : ℕ) (ts : List Term) (t : Term) (l : ℤ) (old new : List Interval) (slack : ℤ)
    → IsLinear width ts → IsAmong t ts → t.factor ≢ pos 0 → t.column < length old
    → Kept new ≡ term_step name (record { terms = ts; low = Some l; high = None }) t (Kept old)
    → slack ≡ greatest_sum ts new -ℤ l → IsCut Greatest ts t old new slack
cut_low name width ts t l old new slack linear among ne there e r =
    let least : ℤ = l -ℤ (greatest_sum ts old -ℤ end_product Greatest t old) in
    let alone : Kept new ≡ keep_at_least (reason_of name Low) t.factor t.column least old = e in
    let m : IsMoved Greatest t.factor t.column old new = at_least_moved (reason_of name Low) t.factor t.column least old new alone in
    let stays : greatest_sum ts new ≡ greatest_sum ts old = sum_moved Greatest width ts t old new linear among there m in
    record {
      side = m.side;
      put = m.put;
      sum = stays;
      own = left_low l (greatest_sum ts new) (greatest_sum ts old) (end_product Least t new) (end_product Greatest t new)
          (end_product Greatest t old) slack
          (at_least_kept (reason_of name Low) t.factor t.column least old new ne there alone)
          (ap (λ (v : ℤ). t.factor *ℤ v) (end_moved Greatest t.factor t.column old new there m)) stays r;
    }

-- what one more term has, where each before it has it and its own propagation gives it that
one_more : (P : ℕ → Type 0) (i : ℕ) → ((k : ℕ) → k < i → P k) → P i → (k : ℕ) → k < i + 1 → P k
one_more P i before own k less = elim (cases_eq k i) [
  | inl same ↦ subst P (sym same) own
  | inr other ↦ before k (omega arith)
]

-- the spans of the terms before it are as they were
span_kept : (width : ℕ) (row_sides : RowSides) (ts : List Term) (i k : ℕ) (old new : List Interval) (side : Interval)
    → IsPropagable width row_sides ts → i < length ts → k < i → new ≡ set old (term_at ts i).column side
    → span_of (term_at ts k) new ≡ span_of (term_at ts k) old
span_kept width row_sides ts i k old new side ready there less put =
    ap (λ (a : List Interval). span_of (term_at ts k) a) put
    ∙ span_other (term_at ts k) old (term_at ts i).column side (apart width row_sides ts i k ready there less)

at_most_same : (a b c d : ℤ) → a ≡ b → b ≤ℤ c → c ≡ d → a ≤ℤ d
at_most_same a b c d e h f = omega (arith, ints)

-- without a high side all terms fit under it
all_high : (width : ℕ) (row_sides : RowSides) (ts : List Term) (i : ℕ) (area : List Interval) (slack : Slack) → IsPropagable width row_sides ts
    → IsSlackOf row_sides ts area slack → row_sides.high ≡ None → i ≤ length ts → AreWithin ts i area slack.high
all_high width row_sides ts i area slack ready r none within = record {
  some = by_lt_z slack.high (pos 0)
      (λ less. absurd (no_high slack.high (least_sum ts area)
      (r.high ∙ ap (λ (h : Option ℤ). high_of h -ℤ least_sum ts area) none) (sum_small Least width ts area ready.linear r.small) less))
      (λ more. more);
  fit = λ k less. fits_no_high width row_sides ts area slack k ready r none (omega arith);
}

all_low : (width : ℕ) (row_sides : RowSides) (ts : List Term) (i : ℕ) (area : List Interval) (slack : Slack) → IsPropagable width row_sides ts
    → IsSlackOf row_sides ts area slack → row_sides.low ≡ None → i ≤ length ts → AreWithin ts i area slack.low
all_low width row_sides ts i area slack ready r none within = record {
  some = by_lt_z slack.low (pos 0)
      (λ less. absurd (no_low slack.low (greatest_sum ts area)
      (r.low ∙ ap (λ (l : Option ℤ). greatest_sum ts area -ℤ low_of l) none) (sum_small Greatest width ts area ready.linear r.small) less))
      (λ more. more);
  fit = λ k less. fits_no_low width row_sides ts area slack k ready r none (omega arith);
}

-- one more term fits, and the slack is as it was
within_more : (e : Extreme) (width : ℕ) (row_sides : RowSides) (ts : List Term) (i : ℕ) (old new : List Interval) (before now : ℤ)
    → IsPropagable width row_sides ts → i < length ts → before ≡ now → IsCut e ts (term_at ts i) old new now
    → AreWithin ts i old before → AreWithin ts (i + 1) new now
within_more e width row_sides ts i old new before now ready there same c h = record {
  some = at_most_same (pos 0) (pos 0) before now refl h.some same;
  fit = one_more (λ (k : ℕ). span_of (term_at ts k) new ≤ℤ now) i
      (λ k less. at_most_same _ _ _ _ (span_kept width row_sides ts i k old new c.side ready there less c.put) (h.fit k less) same) c.own;
}

-- the high side alone: the slack under it stays, so what fits continues to fit
more_high : (width : ℕ) (row_sides : RowSides) (ts : List Term) (i : ℕ) (old new : List Interval) (before now : Slack) (high : Option ℤ)
    → IsPropagable width row_sides ts → length old ≡ width → i < length ts → row_sides.low ≡ None → row_sides.high ≡ high
    → IsSlackOf row_sides ts old before → IsSlackOf row_sides ts new now
    → Kept new ≡ term_step row_sides.row (row_of row_sides ts) (term_at ts i) (Kept old)
    → AreWithin ts i old before.high → AreWithin ts (i + 1) new now.high
more_high width row_sides ts i old new before now None ready wide there low high was is e h =
    all_high width row_sides ts (i + 1) new now ready is high (omega arith)
more_high width row_sides ts i old new before now (Some top) ready wide there low high was is e h =
    let t : Term = term_at ts i in
    let P : Option ℤ → Option ℤ → Type 0 = λ (l u : Option ℤ).
    Kept new ≡ term_step row_sides.row (record { terms = ts; low = l; high = u }) t (Kept old) in
    let here : P None (Some top) = subst (λ (u : Option ℤ). P None u) high (subst (λ (l : Option ℤ). P l row_sides.high) low e) in
    let slack : now.high ≡ top -ℤ least_sum ts new = is.high ∙ ap (λ (u : Option ℤ). high_of u -ℤ least_sum ts new) high in
    let past : before.high ≡ top -ℤ least_sum ts old = was.high ∙ ap (λ (u : Option ℤ). high_of u -ℤ least_sum ts old) high in
    let column : t.column < length old = subst (λ (n : ℕ). t.column < n) (sym wide) (ready.linear.within i there) in
    let c : IsCut Least ts t old new now.high =
    cut_high row_sides.row width ts t top old new now.high ready.linear (among_at ts i there) (ready.nonzero i there) column here slack in
    within_more Least width row_sides ts i old new before.high now.high ready there
    (past ∙ ap (λ (s : ℤ). top -ℤ s) (sym c.sum) ∙ sym slack) c h

-- the low side alone, likewise
more_low : (width : ℕ) (row_sides : RowSides) (ts : List Term) (i : ℕ) (old new : List Interval) (before now : Slack) (low : Option ℤ)
    → IsPropagable width row_sides ts → length old ≡ width → i < length ts → row_sides.high ≡ None → row_sides.low ≡ low
    → IsSlackOf row_sides ts old before → IsSlackOf row_sides ts new now
    → Kept new ≡ term_step row_sides.row (row_of row_sides ts) (term_at ts i) (Kept old)
    → AreWithin ts i old before.low → AreWithin ts (i + 1) new now.low
more_low width row_sides ts i old new before now None ready wide there high low was is e h =
    all_low width row_sides ts (i + 1) new now ready is low (omega arith)
more_low width row_sides ts i old new before now (Some bottom) ready wide there high low was is e h =
    let t : Term = term_at ts i in
    let P : Option ℤ → Option ℤ → Type 0 = λ (d u : Option ℤ).
    Kept new ≡ term_step row_sides.row (record { terms = ts; low = d; high = u }) t (Kept old) in
    let here : P (Some bottom) None = subst (λ (d : Option ℤ). P d None) low (subst (λ (u : Option ℤ). P row_sides.low u) high e) in
    let slack : now.low ≡ greatest_sum ts new -ℤ bottom = is.low ∙ ap (λ (d : Option ℤ). greatest_sum ts new -ℤ low_of d) low in
    let past : before.low ≡ greatest_sum ts old -ℤ bottom = was.low ∙ ap (λ (d : Option ℤ). greatest_sum ts old -ℤ low_of d) low in
    let column : t.column < length old = subst (λ (n : ℕ). t.column < n) (sym wide) (ready.linear.within i there) in
    let c : IsCut Greatest ts t old new now.low =
    cut_low row_sides.row width ts t bottom old new now.low ready.linear (among_at ts i there) (ready.nonzero i there) column here slack in
    within_more Greatest width row_sides ts i old new before.low now.low ready there
    (past ∙ ap (λ (s : ℤ). s -ℤ bottom) (sym c.sum) ∙ sym slack) c h

-- the first terms of a row with one side alone fit, and so does one more once it was examined
pub snug_more : (width : ℕ) (row_sides : RowSides) (ts : List Term) (i : ℕ) (old new : List Interval) (before now : Slack)
    → IsPropagable width row_sides ts → length old ≡ width → i < length ts → HasOneSide row_sides
    → IsSlackOf row_sides ts old before → IsSlackOf row_sides ts new now
    → Kept new ≡ term_step row_sides.row (row_of row_sides ts) (term_at ts i) (Kept old)
    → AreSnug ts i old before → AreSnug ts (i + 1) new now
snug_more width row_sides ts i old new before now ready wide there (inl low) was is e h = record {
  high = more_high width row_sides ts i old new before now row_sides.high ready wide there low refl was is e h.high;
  low = all_low width row_sides ts (i + 1) new now ready is low (omega arith);
}
snug_more width row_sides ts i old new before now ready wide there (inr high) was is e h = record {
  high = all_high width row_sides ts (i + 1) new now ready is high (omega arith);
  low = more_low width row_sides ts i old new before now row_sides.low ready wide there high refl was is e h.low;
}

pub snug_first : (ts : List Term) (area : List Interval) (slack : Slack) → pos 0 ≤ℤ slack.high → pos 0 ≤ℤ slack.low → AreSnug ts 0 area slack
snug_first ts area slack high low = record {
  high = record { some = high; fit = λ k less. absurd (omega arith) };
  low = record { some = low; fit = λ k less. absurd (omega arith) };
}

-- a term that was not tightened fits already
pub snug_same : (ts : List Term) (i : ℕ) (area : List Interval) (slack : Slack) → span_of (term_at ts i) area ≤ℤ slack.high
    → span_of (term_at ts i) area ≤ℤ slack.low → AreSnug ts i area slack → AreSnug ts (i + 1) area slack
snug_same ts i area slack high low h = record {
  high = record { some = h.high.some; fit = one_more (λ (k : ℕ). span_of (term_at ts k) area ≤ℤ slack.high) i h.high.fit high };
  low = record { some = h.low.some; fit = one_more (λ (k : ℕ). span_of (term_at ts k) area ≤ℤ slack.low) i h.low.fit low };
}

-- if all terms fit, the row is at fixpoint
pub snug_at_fixpoint : (row_sides : RowSides) (ts : List Term) (i : ℕ) (area : List Interval) (slack : Slack) → IsSlackOf row_sides ts area slack
    → length ts ≤ i → AreSnug ts i area slack → IsAtFixpoint row_sides ts area
snug_at_fixpoint row_sides ts i area slack is all h = record {
  slack = slack;
  is = is;
  high = h.high.some;
  low = h.low.some;
  each = λ k there. (h.high.fit k (omega (arith, there, all)), h.low.fit k (omega (arith, there, all)));
}
