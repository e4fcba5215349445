-- A term whose span is within the slack that a side leaves is not tightened under it.
use Rattle.std.proofs.Common.{◌≡◌, ◌≢◌, refl, ◌∙◌, ap, ℕ, zero, suc, ◌*◌, ◌^◌, ◌<◌, ◌≤◌, ℤ, pos, negsuc, ◌-ℤ◌, ◌*ℤ◌, ◌≤ℤ◌, ◌<ℤ◌, unsigned_abs, List, [], ◌∷◌, length, Option, Some, None, IfSome, MatchOption, arith}
use Rattle.std.proofs.lemmas.Int.{ints}
use Rattle.ug_rows.specs.declared.area.Interval.{Interval}
use Rattle.ug_rows.specs.declared.row.Term.{Term}
use Rattle.ug_rows.specs.declared.sums.Extreme.TheVariants.{Least, Greatest}
use Rattle.ug_rows.specs.Boxes.{interval_at}
use Rattle.ug_rows.specs.Rows.{term_at}
use Rattle.ug_rows.specs.Sums.{end_of, end_product, end_sum, least_sum, greatest_sum}
use Rattle.ug_propagate.specs.declared.row_sides.RowSides.{RowSides}
use Rattle.ug_propagate.specs.declared.measure.Slack.{Slack}
use Rattle.ug_propagate.specs.declared.tight.Tight.{Tight}
use Rattle.ug_propagate.specs.declared.tight.Tight.TheVariants.{Kept, Empty}
use Rattle.ug_propagate.specs.declared.tight.Reason.{Reason}
use Rattle.ug_propagate.specs.declared.tight.Side.TheVariants.{Low, High}
use Rattle.ug_propagate.specs.Rounds.{keep_at_least, keep_at_most, lower_high, over_low, over_terms, raise_low, reason_of, row_step, term_step, then_low, under_high}
use Rattle.ug_propagate.specs.Steps.{IsSlackOf, high_of, low_of, row_of, span_of}
use Rattle.ug_propagate.proofs.Parts.{if_lt}
use Rattle.ug_propagate.proofs.Looks.{if_exceeds, if_falls_short}
use Rattle.ug_propagate.proofs.Quotients.{floor_greatest, floor_greatest_neg, ceiling_least, ceiling_least_neg}

not_less : (a b : ℤ) → a <ℤ b → b ≤ℤ a → ⊥
not_less a b h k = omega (arith, ints)

lower_still : (reason : Reason) (j : ℕ) (q : ℤ) (area : List Interval) → (interval_at area j).high ≤ℤ q
    → lower_high reason j q area ≡ Kept area
lower_still reason j q area h =
    let P : Tight → Type 0 = λ (o : Tight). o ≡ Kept area in
    if_lt P q (interval_at area j).high _ _ (λ less. absurd (not_less q (interval_at area j).high less h)) (λ _. refl)

raise_still : (reason : Reason) (j : ℕ) (q : ℤ) (area : List Interval) → q ≤ℤ (interval_at area j).low
    → raise_low reason j q area ≡ Kept area
raise_still reason j q area h =
    let P : Tight → Type 0 = λ (o : Tight). o ≡ Kept area in
    if_lt P (interval_at area j).low q _ _ (λ less. absurd (not_less (interval_at area j).low q less h)) (λ _. refl)

at_most_still : (reason : Reason) (f : ℤ) (j : ℕ) (s : ℤ) (area : List Interval) → f ≢ pos 0
    → (f *ℤ end_of Greatest f (interval_at area j)) ≤ℤ s → keep_at_most reason f j s area ≡ Kept area
at_most_still reason (pos zero) j s area ne h = absurd (ne refl)
at_most_still reason (pos (suc d)) j s area ne h =
    lower_still reason j _ area (floor_greatest s (suc d) (interval_at area j).high (omega arith) h)
at_most_still reason (negsuc d) j s area ne h =
    raise_still reason j _ area (ceiling_least_neg s d (interval_at area j).low h)

at_least_still : (reason : Reason) (f : ℤ) (j : ℕ) (s : ℤ) (area : List Interval) → f ≢ pos 0
    → s ≤ℤ (f *ℤ end_of Least f (interval_at area j)) → keep_at_least reason f j s area ≡ Kept area
at_least_still reason (pos zero) j s area ne h = absurd (ne refl)
at_least_still reason (pos (suc d)) j s area ne h =
    raise_still reason j _ area (ceiling_least s (suc d) (interval_at area j).low (omega arith) h)
at_least_still reason (negsuc d) j s area ne h =
    lower_still reason j _ area (floor_greatest_neg s d (interval_at area j).high h)

within_high : (slack high sum least greatest : ℤ) → slack ≡ high -ℤ sum → (greatest -ℤ least) ≤ℤ slack
    → greatest ≤ℤ (high -ℤ (sum -ℤ least))
within_high slack high sum least greatest e h = omega (arith, ints)

within_low : (slack low sum least greatest : ℤ) → slack ≡ sum -ℤ low → (greatest -ℤ least) ≤ℤ slack
    → (low -ℤ (sum -ℤ greatest)) ≤ℤ least
within_low slack low sum least greatest e h = omega (arith, ints)

pub high_still : (name : Option ℕ) (terms : List Term) (high : Option ℤ) (t : Term) (area : List Interval) (slack : ℤ)
    → t.factor ≢ pos 0 → slack ≡ high_of high -ℤ least_sum terms area → span_of t area ≤ℤ slack
    → under_high name terms high t area ≡ Kept area
high_still name terms None t area slack ne e h = refl
high_still name terms (Some high) t area slack ne e h =
    at_most_still (reason_of name High) t.factor t.column _ area ne
    (within_high slack high (end_sum Least terms area) (end_product Least t area) (end_product Greatest t area) e h)

pub low_still : (name : Option ℕ) (terms : List Term) (low : Option ℤ) (t : Term) (area : List Interval) (slack : ℤ)
    → t.factor ≢ pos 0 → slack ≡ greatest_sum terms area -ℤ low_of low → span_of t area ≤ℤ slack
    → over_low name terms low t area ≡ Kept area
low_still name terms None t area slack ne e h = refl
low_still name terms (Some low) t area slack ne e h =
    at_least_still (reason_of name Low) t.factor t.column _ area ne
    (within_low slack low (end_sum Greatest terms area) (end_product Least t area) (end_product Greatest t area) e h)

-- a term whose span is within the slack of both sides is not tightened
pub term_still : (row_sides : RowSides) (terms : List Term) (t : Term) (area : List Interval) (slack : Slack) → IsSlackOf row_sides terms area slack
    → t.factor ≢ pos 0 → span_of t area ≤ℤ slack.high → span_of t area ≤ℤ slack.low
    → term_step row_sides.row (row_of row_sides terms) t (Kept area) ≡ Kept area
term_still row_sides terms t area slack r ne h k =
    ap (λ (o : Tight). then_low row_sides.row (row_of row_sides terms) t o) (high_still row_sides.row terms row_sides.high t area slack.high ne r.high h)
    ∙ low_still row_sides.row terms row_sides.low t area slack.low ne r.low k

-- nor is any of terms that are all so
pub terms_still : (row_sides : RowSides) (terms rest : List Term) (area : List Interval) (slack : Slack) → IsSlackOf row_sides terms area slack
    → ((k : ℕ) → k < length rest → (term_at rest k).factor ≢ pos 0)
    → ((k : ℕ) → k < length rest → span_of (term_at rest k) area ≤ℤ slack.high)
    → ((k : ℕ) → k < length rest → span_of (term_at rest k) area ≤ℤ slack.low)
    → over_terms row_sides.row (row_of row_sides terms) rest (Kept area) ≡ Kept area
terms_still row_sides terms [] area slack r ne h k = refl
terms_still row_sides terms (t ∷ rest) area slack r ne h k =
    ap (λ (o : Tight). over_terms row_sides.row (row_of row_sides terms) rest o)
    (term_still row_sides terms t area slack r (ne 0 (omega arith)) (h 0 (omega arith)) (k 0 (omega arith)))
    ∙ terms_still row_sides terms rest area slack r (λ i lt. ne (suc i) (omega arith)) (λ i lt. h (suc i) (omega arith))
    (λ i lt. k (suc i) (omega arith))

-- a side that is not there is not missed
pub no_high : (slack sum : ℤ) → slack ≡ pos (6 * 10 ^ 37) -ℤ sum → unsigned_abs sum ≤ 3 * 10 ^ 37 → slack <ℤ pos 0 → ⊥
no_high slack (pos sum) e small less = omega (arith, ints)
no_high slack (negsuc sum) e small less = omega (arith, ints)

pub no_low : (slack sum : ℤ) → slack ≡ sum -ℤ low_of None → unsigned_abs sum ≤ 3 * 10 ^ 37 → slack <ℤ pos 0 → ⊥
no_low slack (pos sum) e small less = omega (arith, ints)
no_low slack (negsuc sum) e small less = omega (arith, ints)

high_slack : (high : Option ℤ) (sum slack : ℤ) → slack ≡ high_of high -ℤ sum → unsigned_abs sum ≤ 3 * 10 ^ 37 → slack <ℤ pos 0
    → IfSome high (λ h. sum ≤ℤ h) → ⊥
high_slack None sum slack e small less within = no_high slack sum e small less
high_slack (Some high) sum slack e small less within = omega (arith, ints)

low_slack : (low : Option ℤ) (sum slack : ℤ) → slack ≡ sum -ℤ low_of low → unsigned_abs sum ≤ 3 * 10 ^ 37 → slack <ℤ pos 0
    → IfSome low (λ l. l ≤ℤ sum) → ⊥
low_slack None sum slack e small less within = no_low slack sum e small less
low_slack (Some low) sum slack e small less within = omega (arith, ints)

some_high : (high : Option ℤ) (sum slack : ℤ) → slack ≡ high_of high -ℤ sum → pos 0 ≤ℤ slack → MatchOption high ⊥ (λ h. h <ℤ sum) → ⊥
some_high None sum slack e h missed = missed
some_high (Some high) sum slack e h missed = omega (arith, ints)

some_low : (low : Option ℤ) (sum slack : ℤ) → slack ≡ sum -ℤ low_of low → pos 0 ≤ℤ slack → MatchOption low ⊥ (λ l. sum <ℤ l) → ⊥
some_low None sum slack e h missed = missed
some_low (Some low) sum slack e h missed = omega (arith, ints)

-- no sum of the row is within its high side
pub row_above : (row_sides : RowSides) (terms : List Term) (area : List Interval) (slack : Slack) → IsSlackOf row_sides terms area slack
    → unsigned_abs (least_sum terms area) ≤ 3 * 10 ^ 37 → slack.high <ℤ pos 0
    → row_step row_sides.row (row_of row_sides terms) area ≡ Empty (reason_of row_sides.row High)
row_above row_sides terms area slack r small less =
    let P : Tight → Type 0 = λ (o : Tight). o ≡ Empty (reason_of row_sides.row High) in
    if_exceeds P row_sides.high (least_sum terms area) _ _ (λ missed. refl)
    (λ within. absurd (high_slack row_sides.high (least_sum terms area) slack.high r.high small less within))

-- nor within its low side
pub row_below : (row_sides : RowSides) (terms : List Term) (area : List Interval) (slack : Slack) → IsSlackOf row_sides terms area slack
    → unsigned_abs (greatest_sum terms area) ≤ 3 * 10 ^ 37 → pos 0 ≤ℤ slack.high → slack.low <ℤ pos 0
    → row_step row_sides.row (row_of row_sides terms) area ≡ Empty (reason_of row_sides.row Low)
row_below row_sides terms area slack r small some less =
    let P : Tight → Type 0 = λ (o : Tight). o ≡ Empty (reason_of row_sides.row Low) in
    if_exceeds P row_sides.high (least_sum terms area) _ _
    (λ missed. absurd (some_high row_sides.high (least_sum terms area) slack.high r.high some missed))
    (λ within. if_falls_short P row_sides.low (greatest_sum terms area) _ _ (λ missed. refl)
    (λ both. absurd (low_slack row_sides.low (greatest_sum terms area) slack.low r.low small less both)))

-- some are within each
pub row_within : (row_sides : RowSides) (terms : List Term) (area : List Interval) (slack : Slack) → IsSlackOf row_sides terms area slack
    → pos 0 ≤ℤ slack.high → pos 0 ≤ℤ slack.low
    → row_step row_sides.row (row_of row_sides terms) area ≡ over_terms row_sides.row (row_of row_sides terms) terms (Kept area)
row_within row_sides terms area slack r some more =
    let P : Tight → Type 0 = λ (o : Tight). o ≡ over_terms row_sides.row (row_of row_sides terms) terms (Kept area) in
    if_exceeds P row_sides.high (least_sum terms area) _ _
    (λ missed. absurd (some_high row_sides.high (least_sum terms area) slack.high r.high some missed))
    (λ within. if_falls_short P row_sides.low (greatest_sum terms area) _ _
    (λ missed. absurd (some_low row_sides.low (greatest_sum terms area) slack.low r.low more missed))
    (λ both. refl))
