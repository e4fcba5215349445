-- Rooms in 64 bits: what they say of the slacks that they stand for.
use Rattle.std.proofs.Common.{◌≡◌, ◌≢◌, refl, sym, subst, ◌∙◌, ap, ◌*◌, ◌^◌, ◌<◌, ◌≤◌, ℕ, ℤ, pos, negsuc, ◌+ℤ◌, ◌-ℤ◌, ◌≤ℤ◌, ◌<ℤ◌, unsigned_abs, List, length, Option, Some, None, arith}
use Rattle.std.proofs.lemmas.Int.{ints}
use Rattle.ug_rows.specs.declared.area.Interval.{Interval}
use Rattle.ug_rows.specs.declared.row.Term.{Term}
use Rattle.ug_rows.specs.declared.sums.Extreme.TheVariants.{Least, Greatest}
use Rattle.ug_rows.specs.Sums.{end_product}
use Rattle.ug_propagate.specs.declared.row_sides.RowSides.{RowSides}
use Rattle.ug_propagate.specs.declared.row_sides.Propagated.{Propagated}
use Rattle.ug_propagate.specs.declared.row_sides.Propagated.TheVariants.{Changed, Emptied, Same}
use Rattle.ug_propagate.specs.declared.measure.Slack.{Slack}
use Rattle.ug_propagate.specs.declared.short_sides.ShortSides.{ShortSides}
use Rattle.ug_propagate.specs.declared.short_sides.ShortSlack.{ShortSlack}
use Rattle.ug_propagate.specs.declared.tight.Side.TheVariants.{High, Low}
use Rattle.ug_propagate.specs.declared.tight.Tight.TheVariants.{Kept}
use Rattle.ug_propagate.specs.declared.rows.ShortExtremes.{ShortExtremes}
use Rattle.ug_propagate.specs.declared.sums.Extremes.{Extremes}
use Rattle.ug_propagate.specs.Running.{IsSummed, extremes_at, widened}
use Rattle.ug_propagate.specs.Rounds.{keep_at_least, keep_at_most, over_low, reason_of, under_high}
use Rattle.ug_propagate.specs.Shorts.{AreNearSlacks, IsNearSlack, IsShortHigh, IsShortSides, IsShortLow, IsShortRow, IsShortTerm}
use Rattle.ug_propagate.specs.Steps.{HaveSmallColumns, IsPropagable, IsSlackOf, high_of, low_of, slack_over, span_of}
use Rattle.ug_problem.specs.Instances.{Instance}
use Rattle.ug_problem.specs.ColumnEntries.{terms_of}
use Rattle.ug_rows.specs.Rows.{term_at}
use Rattle.ug_rows.proofs.Replaced.{among_at}
use Rattle.ug_propagate.specs.Working.{FitWhereSame, IsBox, IsStep, AtFixpointWhereSame, WorkState}
use Rattle.ug_propagate.proofs.Running.{summed_short}
use Rattle.ug_propagate.proofs.Sizes.{factor_within}
use Rattle.ug_propagate.proofs.Stepping.{term_later}
use Rattle.ug_propagate.proofs.Slacks.{high_taken, low_taken, slack_of}
use Rattle.ug_propagate.proofs.Still.{high_still, low_still}

-- the slack is one of the look
pub over_is : (width : ℕ) (row_sides : RowSides) (ts : List Term) (area : List Interval) → IsPropagable width row_sides ts → HaveSmallColumns ts area
    → IsSlackOf row_sides ts area (slack_over row_sides ts area)
over_is width row_sides ts area ready small = slack_of width row_sides ts area (slack_over row_sides ts area) ready small refl refl

-- a number that is at most the near slack is at most the slack
pub near_within : (slack near v : ℤ) → IsNearSlack slack near → v ≤ℤ near → v ≤ℤ slack
near_within slack near v h less = let below : near ≤ℤ slack = h.below in omega (arith, ints, below, less)

near_of : (slack near span : ℤ) → IsNearSlack slack near → unsigned_abs span ≤ 2 ^ 61 → near <ℤ span → near ≡ slack
near_of slack near (pos n) h small less = h.same (omega (arith, ints, small, less))
near_of slack near (negsuc n) h small less = h.same (omega (arith, ints, small, less))

pub high_whole : (row_sides : RowSides) (ts : List Term) (t : Term) (area : List Interval) (near span : ℤ) → t.factor ≢ pos 0
    → IsNearSlack (slack_over row_sides ts area).high near → span ≡ span_of t area → span ≤ℤ near
    → under_high row_sides.row ts row_sides.high t area ≡ Kept area
high_whole row_sides ts t area near span ne h e less =
    high_still row_sides.row ts row_sides.high t area (slack_over row_sides ts area).high ne refl
    (subst (λ (v : ℤ). v ≤ℤ (slack_over row_sides ts area).high) e (near_within (slack_over row_sides ts area).high near span h less))

pub low_whole : (row_sides : RowSides) (ts : List Term) (t : Term) (area : List Interval) (near span : ℤ) → t.factor ≢ pos 0
    → IsNearSlack (slack_over row_sides ts area).low near → span ≡ span_of t area → span ≤ℤ near
    → over_low row_sides.row ts row_sides.low t area ≡ Kept area
low_whole row_sides ts t area near span ne h e less =
    low_still row_sides.row ts row_sides.low t area (slack_over row_sides ts area).low ne refl
    (subst (λ (v : ℤ). v ≤ℤ (slack_over row_sides ts area).low) e (near_within (slack_over row_sides ts area).low near span h less))

wide_span : (span : ℤ) → unsigned_abs span ≤ 2 ^ 61 → unsigned_abs span ≤ 10 ^ 24 * 2 ^ 32
wide_span span small = omega (arith, small)

-- a term whose span is above the near slack satisfies that slack above its least
pub high_cut : (width : ℕ) (row_sides : RowSides) (ts : List Term) (t : Term) (area : List Interval) (near slack span : ℤ)
    → IsPropagable width row_sides ts → HaveSmallColumns ts area → IsNearSlack (slack_over row_sides ts area).high near → span ≡ span_of t area
    → unsigned_abs span ≤ 2 ^ 61 → near <ℤ span → slack ≡ near
    → under_high row_sides.row ts row_sides.high t area
    ≡ keep_at_most (reason_of row_sides.row High) t.factor t.column (slack +ℤ end_product Least t area) area
high_cut width row_sides ts t area near slack span ready small h e short less same =
    let exact : near ≡ (slack_over row_sides ts area).high = near_of (slack_over row_sides ts area).high near span h short less in
    high_taken width row_sides ts t area (slack_over row_sides ts area) span _ ready (over_is width row_sides ts area ready small) (wide_span span short)
    (subst (λ (v : ℤ). v <ℤ span) exact less) (ap (λ (v : ℤ). v +ℤ end_product Least t area) (same ∙ exact))

-- and one whose span is above that of the low side, to that slack below its greatest
pub low_cut : (width : ℕ) (row_sides : RowSides) (ts : List Term) (t : Term) (area : List Interval) (near slack span : ℤ)
    → IsPropagable width row_sides ts → HaveSmallColumns ts area → IsNearSlack (slack_over row_sides ts area).low near → span ≡ span_of t area
    → unsigned_abs span ≤ 2 ^ 61 → near <ℤ span → slack ≡ near
    → over_low row_sides.row ts row_sides.low t area
    ≡ keep_at_least (reason_of row_sides.row Low) t.factor t.column (end_product Greatest t area -ℤ slack) area
low_cut width row_sides ts t area near slack span ready small h e short less same =
    let exact : near ≡ (slack_over row_sides ts area).low = near_of (slack_over row_sides ts area).low near span h short less in
    low_taken width row_sides ts t area (slack_over row_sides ts area) span _ ready (over_is width row_sides ts area ready small) (wide_span span short)
    (subst (λ (v : ℤ). v <ℤ span) exact less) (ap (λ (v : ℤ). end_product Greatest t area -ℤ v) (same ∙ exact))

pub near_size : (v : ℤ) → unsigned_abs v < 2 ^ 63 → unsigned_abs v ≤ 9 * 10 ^ 37
near_size v small = omega (arith, small)

-- the slack that sums of 64 bits leave
pub near_high : (high : Option ℤ) (side least : ℤ) → IsShortHigh high side → unsigned_abs least ≤ 2 ^ 60
    → IsNearSlack (high_of high -ℤ least) (side -ℤ least)
near_high None side (pos n) h small = record { below = omega (arith, ints, h); same = λ less. absurd (omega (arith, ints, h, less)) }
near_high None side (negsuc n) h small = record { below = omega (arith, ints, h); same = λ less. absurd (omega (arith, ints, h, less)) }
near_high (Some high) side least h small =
    let same : side -ℤ least ≡ high -ℤ least = ap (λ (v : ℤ). v -ℤ least) h.0 in
    record { below = omega (arith, ints, same); same = λ less. same }

pub near_low : (low : Option ℤ) (side greatest : ℤ) → IsShortLow low side → unsigned_abs greatest ≤ 2 ^ 60
    → IsNearSlack (greatest -ℤ low_of low) (greatest -ℤ side)
near_low None side (pos n) h small = record { below = omega (arith, ints, h); same = λ less. absurd (omega (arith, ints, h, less)) }
near_low None side (negsuc n) h small = record { below = omega (arith, ints, h); same = λ less. absurd (omega (arith, ints, h, less)) }
near_low (Some low) side greatest h small =
    let same : greatest -ℤ side ≡ greatest -ℤ low = ap (λ (v : ℤ). greatest -ℤ v) h.0 in
    record { below = omega (arith, ints, same); same = λ less. same }

pub side_high : (high : Option ℤ) (side : ℤ) → IsShortHigh high side → unsigned_abs side ≤ 2 ^ 62
side_high None side h = rw h (omega (arith, ints))
side_high (Some high) side h = rw h.0 (omega (arith, h.1))

pub side_low : (low : Option ℤ) (side : ℤ) → IsShortLow low side → unsigned_abs side ≤ 2 ^ 62
side_low None side h = rw h (omega (arith, ints))
side_low (Some low) side h = rw h.0 (omega (arith, h.1))

-- the slacks that the sums of a row leave within its sides
pub near_slacks : (p : Instance) (work : WorkState) (s : ShortSides) (ends : ShortExtremes) (slack : ShortSlack) → IsShortSides p s
    → IsSummed (terms_of p s.r) work.sums.area (widened ends) → slack.high ≡ s.high -ℤ ends.least → slack.low ≡ ends.greatest -ℤ s.low
    → AreNearSlacks s (terms_of p s.r) work.sums.area slack
near_slacks p work s ends slack row_sides h up down =
    let ts : List Term = terms_of p s.r in
    let area : List Interval = work.sums.area in
    let least : unsigned_abs ends.least ≤ 2 ^ 60 = summed_short Least ts area (widened ends) (row_sides.short s.r row_sides.there) h in
    let greatest : unsigned_abs ends.greatest ≤ 2 ^ 60 = summed_short Greatest ts area (widened ends) (row_sides.short s.r row_sides.there) h in
    record {
      small = h.small;
      high = subst (λ (v : ℤ). IsNearSlack (high_of s.row_sides.high -ℤ v) slack.high) h.least
          (subst (λ (v : ℤ). IsNearSlack (high_of s.row_sides.high -ℤ ends.least) v) (sym up)
          (near_high s.row_sides.high s.high ends.least row_sides.high least));
      low = subst (λ (v : ℤ). IsNearSlack (v -ℤ low_of s.row_sides.low) slack.low) h.greatest
          (subst (λ (v : ℤ). IsNearSlack (ends.greatest -ℤ low_of s.row_sides.low) v) (sym down)
          (near_low s.row_sides.low s.low ends.greatest row_sides.low greatest));
    }

-- a slack below 0 is of a row that has none
pub near_none : (slack near : ℤ) → IsNearSlack slack near → near <ℤ pos 0 → slack <ℤ pos 0
near_none slack near h less = let same : near ≡ slack = h.same (omega (arith, ints, less)) in omega (arith, ints, same, less)

pub near_some : (slack near : ℤ) → IsNearSlack slack near → pos 0 ≤ℤ near → pos 0 ≤ℤ slack
near_some slack near h some = near_within slack near (pos 0) h some

-- what a look says of its row
pub propagate_fitting : (p : Instance) (work : WorkState) (s : ShortSides) (ts : List Term) → IsBox p work → IsShortSides p s
    → ts ≡ terms_of p s.r → IsPropagable (length work.sums.area) s.row_sides ts
propagate_fitting p work s ts box row_sides same =
    let P : List Term → Type 0 = λ (us : List Term). IsPropagable (length work.sums.area) s.row_sides us in
    subst P (sym same) (subst (λ (n : ℕ). IsPropagable n s.row_sides (terms_of p s.r)) (sym box.sums.width) row_sides.row)

pub slacks_named : (p : Instance) (s : ShortSides) (ts : List Term) (area : List Interval) (slack : ShortSlack) → ts ≡ terms_of p s.r
    → AreNearSlacks s (terms_of p s.r) area slack → AreNearSlacks s ts area slack
slacks_named p s ts area slack same h =
    let P : List Term → Type 0 = λ (us : List Term). AreNearSlacks s us area slack in subst P (sym same) h

pub short_term_later : (p : Instance) (old new : WorkState) (t : Term) → IsBox p old → IsStep p old new
    → IsShortTerm (length old.sums.area) t → IsShortTerm (length new.sums.area) t
short_term_later p old new t box step h = record { term = term_later p old new t box step h.term; size = h.size }

-- a term of the row
pub short_term_at : (p : Instance) (work : WorkState) (s : ShortSides) (ts : List Term) (k : ℕ) → IsBox p work → IsShortSides p s
    → ts ≡ terms_of p s.r → k < length ts → IsShortTerm (length work.sums.area) (term_at ts k)
short_term_at p work s ts k box row_sides same there =
    let ready : IsPropagable (length work.sums.area) s.row_sides ts = propagate_fitting p work s ts box row_sides same in
    let P : List Term → Type 0 = λ (us : List Term). IsShortRow us in
    let short : IsShortRow ts = subst P (sym same) (row_sides.short s.r row_sides.there) in
    record {
      term = record { there = ready.linear.within k there; small = ready.linear.small k there; nonzero = ready.nonzero k there };
      size = omega (arith, short, factor_within ts (term_at ts k) (among_at ts k there));
    }

-- the sums of a row of a working box
pub summed_at : (p : Instance) (work : WorkState) (r : ℕ) (ends : Extremes) → IsBox p work → r ≤ length p.rows
    → ends ≡ extremes_at work.sums.sums r → IsSummed (terms_of p r) work.sums.area ends
summed_at p work r ends box there same =
    subst (λ (e : Extremes). IsSummed (terms_of p r) work.sums.area e) (sym same) (box.sums.each r there)

-- a row whose terms were examined and not tightened is at fixpoint
pub fit_at_fixpoint : (propagated : Propagated) (row_sides : RowSides) (ts : List Term) (area : List Interval) (slack : Slack) → IsSlackOf row_sides ts area slack
    → pos 0 ≤ℤ slack.high → pos 0 ≤ℤ slack.low → FitWhereSame propagated ts area slack → AtFixpointWhereSame propagated row_sides ts area
fit_at_fixpoint Same row_sides ts area slack is high low fit = record { slack = slack; is = is; high = high; low = low; each = fit }
fit_at_fixpoint Changed row_sides ts area slack is high low fit = tt
fit_at_fixpoint (Emptied reason) row_sides ts area slack is high low fit = tt
