-- The slack that a row's sums leave within its sides: how large it is, what it makes of a term, and
-- how it changes.
use Rattle.std.proofs.Common.{◌≡◌, refl, sym, subst, ◌∙◌, ap, inl, inr, ℕ, ◌*◌, ◌^◌, ◌<◌, ◌≤◌, ℤ, pos, negsuc, ◌+ℤ◌, ◌-ℤ◌, ◌*ℤ◌, ◌<ℤ◌, unsigned_abs, List, length, set, Option, Some, None, IfSome, IsNone, arith}
use Rattle.std.proofs.lemmas.Int.{ints}
use Rattle.std.proofs.lemmas.Bool.{cases_eq}
use Rattle.std.proofs.lemmas.List.{get_or-set_other, get_or-set_same, set-get_or}
use Rattle.ug_rows.specs.declared.area.Interval.{Interval}
use Rattle.ug_rows.specs.declared.row.Term.{Term}
use Rattle.ug_rows.specs.declared.sums.Extreme.{Extreme}
use Rattle.ug_rows.specs.declared.sums.Extreme.TheVariants.{Least, Greatest}
use Rattle.ug_rows.specs.Boxes.{HasSmallEnds, interval_at, no_interval}
use Rattle.ug_rows.specs.Rows.{IsAmong, IsLinear, term_at}
use Rattle.ug_rows.specs.Sums.{end_of, end_product, end_sum, least_sum, greatest_sum}
use Rattle.ug_rows.proofs.Replaced.{product_new, sum_small, sum_with}
use Rattle.ug_propagate.specs.declared.row_sides.RowSides.{RowSides}
use Rattle.ug_propagate.specs.declared.measure.Ends.{Ends}
use Rattle.ug_propagate.specs.declared.measure.Slack.{Slack}
use Rattle.ug_propagate.specs.declared.sums.Extremes.{Extremes}
use Rattle.ug_propagate.specs.Running.{IsSummed}
use Rattle.ug_propagate.specs.declared.tight.Tight.{Tight}
use Rattle.ug_propagate.specs.declared.tight.Tight.TheVariants.{Kept, Empty}
use Rattle.ug_propagate.specs.declared.tight.Reason.{Reason}
use Rattle.ug_propagate.specs.declared.tight.Side.TheVariants.{Low, High}
use Rattle.ug_propagate.specs.Rounds.{keep_at_least, keep_at_most, lower_high, over_low, raise_low, reason_of, under_high}
use Rattle.ug_propagate.specs.Steps.{HaveSmallColumns, IsMeasured, IsPropagable, IsSlackOf, high_of, low_of, outcome_of}
use Rattle.ug_rows.proofs.Products.{abs_sub}
use Rattle.ug_propagate.proofs.Parts.{if_lt}

high_size : (high : Option ℤ) → IfSome high (λ h. unsigned_abs h ≤ 4 * 10 ^ 37) → unsigned_abs (high_of high) ≤ 6 * 10 ^ 37
high_size None h = omega arith
high_size (Some high) h = omega arith

low_size : (low : Option ℤ) → IfSome low (λ l. unsigned_abs l ≤ 4 * 10 ^ 37) → unsigned_abs (low_of low) ≤ 6 * 10 ^ 37
low_size None h = omega (arith, ints)
low_size (Some low) h = omega arith

-- the slack of each side is at most 9 * 10^37
pub high_slack_size : (high : Option ℤ) (sum slack : ℤ) → slack ≡ high_of high -ℤ sum
    → IfSome high (λ h. unsigned_abs h ≤ 4 * 10 ^ 37) → unsigned_abs sum ≤ 3 * 10 ^ 37 → unsigned_abs slack ≤ 9 * 10 ^ 37
high_slack_size high sum slack e side small =
    rw e (omega (arith, abs_sub (high_of high) sum, high_size high side, small))

pub low_slack_size : (low : Option ℤ) (sum slack : ℤ) → slack ≡ sum -ℤ low_of low
    → IfSome low (λ l. unsigned_abs l ≤ 4 * 10 ^ 37) → unsigned_abs sum ≤ 3 * 10 ^ 37 → unsigned_abs slack ≤ 9 * 10 ^ 37
low_slack_size low sum slack e side small =
    rw e (omega (arith, abs_sub sum (low_of low), low_size low side, small))

-- the sums of a slack and their sizes
pub slack_of : (width : ℕ) (row_sides : RowSides) (terms : List Term) (area : List Interval) (slack : Slack) → IsPropagable width row_sides terms
    → HaveSmallColumns terms area → slack.high ≡ high_of row_sides.high -ℤ least_sum terms area
    → slack.low ≡ greatest_sum terms area -ℤ low_of row_sides.low → IsSlackOf row_sides terms area slack
slack_of width row_sides terms area slack ready small high low = record {
  small = small;
  high = high;
  low = low;
  high_size = high_slack_size row_sides.high (least_sum terms area) slack.high high ready.high
      (sum_small Least width terms area ready.linear small);
  low_size = low_slack_size row_sides.low (greatest_sum terms area) slack.low low ready.low
      (sum_small Greatest width terms area ready.linear small);
}

-- the slack that measured ends leave
pub slack_is : (width : ℕ) (row_sides : RowSides) (terms : List Term) (area : List Interval) (ends : Ends) (slack : Slack)
    → IsPropagable width row_sides terms → IsMeasured terms area ends
    → slack.high ≡ high_of row_sides.high -ℤ ends.least → slack.low ≡ ends.greatest -ℤ low_of row_sides.low → IsSlackOf row_sides terms area slack
slack_is width row_sides terms area ends slack ready m h l =
    slack_of width row_sides terms area slack ready m.small (h ∙ ap (λ (s : ℤ). high_of row_sides.high -ℤ s) m.least)
    (l ∙ ap (λ (s : ℤ). s -ℤ low_of row_sides.low) m.greatest)

-- the slack that running sums leave
pub slack_summed : (width : ℕ) (row_sides : RowSides) (terms : List Term) (area : List Interval) (ends : Extremes) (slack : Slack)
    → IsPropagable width row_sides terms → IsSummed terms area ends
    → slack.high ≡ high_of row_sides.high -ℤ ends.least → slack.low ≡ ends.greatest -ℤ low_of row_sides.low → IsSlackOf row_sides terms area slack
slack_summed width row_sides terms area ends slack ready m h l =
    slack_of width row_sides terms area slack ready m.small (h ∙ ap (λ (s : ℤ). high_of row_sides.high -ℤ s) m.least)
    (l ∙ ap (λ (s : ℤ). s -ℤ low_of row_sides.low) m.greatest)

-- which are at most 3 * 10^37
pub least_small : (width : ℕ) (terms : List Term) (area : List Interval) (ends : Extremes) → IsLinear width terms
    → IsSummed terms area ends → unsigned_abs ends.least ≤ 3 * 10 ^ 37
least_small width terms area ends linear m =
    subst (λ (v : ℤ). unsigned_abs v ≤ 3 * 10 ^ 37) (sym m.least) (sum_small Least width terms area linear m.small)

pub greatest_small : (width : ℕ) (terms : List Term) (area : List Interval) (ends : Extremes) → IsLinear width terms
    → IsSummed terms area ends → unsigned_abs ends.greatest ≤ 3 * 10 ^ 37
greatest_small width terms area ends linear m =
    subst (λ (v : ℤ). unsigned_abs v ≤ 3 * 10 ^ 37) (sym m.greatest) (sum_small Greatest width terms area linear m.small)

taken_high : (slack high sum least most : ℤ) → slack ≡ high -ℤ sum → most ≡ slack +ℤ least → high -ℤ (sum -ℤ least) ≡ most
taken_high slack high sum least most e f = omega (arith, ints)

taken_low : (slack low sum greatest least : ℤ) → slack ≡ sum -ℤ low → least ≡ greatest -ℤ slack → low -ℤ (sum -ℤ greatest) ≡ least
taken_low slack low sum greatest least e f = omega (arith, ints)

pub never_high : (slack sum span : ℤ) → slack ≡ pos (6 * 10 ^ 37) -ℤ sum → unsigned_abs sum ≤ 3 * 10 ^ 37
    → unsigned_abs span ≤ 10 ^ 24 * 2 ^ 32 → slack <ℤ span → ⊥
never_high slack (pos sum) (pos span) e small short less = omega (arith, ints)
never_high slack (pos sum) (negsuc span) e small short less = omega (arith, ints)
never_high slack (negsuc sum) (pos span) e small short less = omega (arith, ints)
never_high slack (negsuc sum) (negsuc span) e small short less = omega (arith, ints)

pub never_low : (slack sum span : ℤ) → slack ≡ sum -ℤ low_of None → unsigned_abs sum ≤ 3 * 10 ^ 37
    → unsigned_abs span ≤ 10 ^ 24 * 2 ^ 32 → slack <ℤ span → ⊥
never_low slack (pos sum) (pos span) e small short less = omega (arith, ints)
never_low slack (pos sum) (negsuc span) e small short less = omega (arith, ints)
never_low slack (negsuc sum) (pos span) e small short less = omega (arith, ints)
never_low slack (negsuc sum) (negsuc span) e small short less = omega (arith, ints)

high_is : (name : Option ℕ) (terms : List Term) (high : Option ℤ) (t : Term) (area : List Interval) (slack span most : ℤ)
    → slack ≡ high_of high -ℤ least_sum terms area → unsigned_abs (least_sum terms area) ≤ 3 * 10 ^ 37
    → unsigned_abs span ≤ 10 ^ 24 * 2 ^ 32 → slack <ℤ span → most ≡ slack +ℤ end_product Least t area
    → under_high name terms high t area ≡ keep_at_most (reason_of name High) t.factor t.column most area
high_is name terms None t area slack span most e small short less f =
    absurd (never_high slack (least_sum terms area) span e small short less)
high_is name terms (Some high) t area slack span most e small short less f =
    ap (λ (s : ℤ). keep_at_most (reason_of name High) t.factor t.column s area)
    (taken_high slack high (least_sum terms area) (end_product Least t area) most e f)

-- a term whose span is above the slack of the high side satisfies that slack above its least
pub high_taken : (width : ℕ) (row_sides : RowSides) (terms : List Term) (t : Term) (area : List Interval) (slack : Slack) (span most : ℤ)
    → IsPropagable width row_sides terms → IsSlackOf row_sides terms area slack
    → unsigned_abs span ≤ 10 ^ 24 * 2 ^ 32 → slack.high <ℤ span → most ≡ slack.high +ℤ end_product Least t area
    → under_high row_sides.row terms row_sides.high t area ≡ keep_at_most (reason_of row_sides.row High) t.factor t.column most area
high_taken width row_sides terms t area slack span most ready r short less f =
    high_is row_sides.row terms row_sides.high t area slack.high span most r.high (sum_small Least width terms area ready.linear r.small)
    short less f

low_is : (name : Option ℕ) (terms : List Term) (low : Option ℤ) (t : Term) (area : List Interval) (slack span least : ℤ)
    → slack ≡ greatest_sum terms area -ℤ low_of low → unsigned_abs (greatest_sum terms area) ≤ 3 * 10 ^ 37
    → unsigned_abs span ≤ 10 ^ 24 * 2 ^ 32 → slack <ℤ span → least ≡ end_product Greatest t area -ℤ slack
    → over_low name terms low t area ≡ keep_at_least (reason_of name Low) t.factor t.column least area
low_is name terms None t area slack span least e small short less f =
    absurd (never_low slack (greatest_sum terms area) span e small short less)
low_is name terms (Some low) t area slack span least e small short less f =
    ap (λ (s : ℤ). keep_at_least (reason_of name Low) t.factor t.column s area)
    (taken_low slack low (greatest_sum terms area) (end_product Greatest t area) least e f)

-- and one whose span is above the slack of the low side, to that slack below its greatest
pub low_taken : (width : ℕ) (row_sides : RowSides) (terms : List Term) (t : Term) (area : List Interval) (slack : Slack) (span least : ℤ)
    → IsPropagable width row_sides terms → IsSlackOf row_sides terms area slack
    → unsigned_abs span ≤ 10 ^ 24 * 2 ^ 32 → slack.low <ℤ span → least ≡ end_product Greatest t area -ℤ slack.low
    → over_low row_sides.row terms row_sides.low t area ≡ keep_at_least (reason_of row_sides.row Low) t.factor t.column least area
low_taken width row_sides terms t area slack span least ready r short less f =
    low_is row_sides.row terms row_sides.low t area slack.low span least r.low (sum_small Greatest width terms area ready.linear r.small)
    short less f

-- column j has another interval, whose end for this extreme is as it was
pub record IsMoved (e : Extreme) (f : ℤ) (j : ℕ) (old new : List Interval) : Type 0 where
  pub side : Interval
  pub put : new ≡ set old j side
  pub end : end_of e f side ≡ end_of e f (interval_at old j)

not_moved : (e : Extreme) (f : ℤ) (j : ℕ) (old new : List Interval) → new ≡ old → IsMoved e f j old new
not_moved e f j old new same = record {
  side = interval_at old j;
  put = same ∙ sym (set-get_or old j no_interval);
  end = refl;
}

-- column j has another interval with the same low, or with the same high
abbrev IsLowered : ℕ → List Interval → Tight → Type 0
IsLowered j old (Kept new) = (side : Interval) × (new ≡ set old j side) × (side.low ≡ (interval_at old j).low)
IsLowered j old (Empty reason) = Unit {0}

abbrev IsRaised : ℕ → List Interval → Tight → Type 0
IsRaised j old (Kept new) = (side : Interval) × (new ≡ set old j side) × (side.high ≡ (interval_at old j).high)
IsRaised j old (Empty reason) = Unit {0}

lowered : (reason : Reason) (j : ℕ) (q : ℤ) (area : List Interval) → IsLowered j area (lower_high reason j q area)
lowered reason j q area =
    let P : Tight → Type 0 = IsLowered j area in
    if_lt P q (interval_at area j).high _ _
    (λ tighter. if_lt P q (interval_at area j).low _ _ (λ none. tt)
    (λ some. (record { low = (interval_at area j).low; high = q }, refl, refl)))
    (λ looser. (interval_at area j, sym (set-get_or area j no_interval), refl))

raised : (reason : Reason) (j : ℕ) (q : ℤ) (area : List Interval) → IsRaised j area (raise_low reason j q area)
raised reason j q area =
    let P : Tight → Type 0 = IsRaised j area in
    if_lt P (interval_at area j).low q _ _
    (λ tighter. if_lt P (interval_at area j).high q _ _ (λ none. tt)
    (λ some. (record { low = q; high = (interval_at area j).high }, refl, refl)))
    (λ looser. (interval_at area j, sym (set-get_or area j no_interval), refl))

at_most_lowered : (reason : Reason) (n j : ℕ) (s : ℤ) (area new : List Interval)
    → Kept new ≡ keep_at_most reason (pos n) j s area → IsMoved Least (pos n) j area new
at_most_lowered reason n j s area new e =
    let h : IsLowered j area (Kept new) = subst (IsLowered j area) (sym e) (lowered reason j _ area) in
    record { side = h.0; put = h.1; end = h.2 }

at_most_raised : (reason : Reason) (n j : ℕ) (s : ℤ) (area new : List Interval)
    → Kept new ≡ keep_at_most reason (negsuc n) j s area → IsMoved Least (negsuc n) j area new
at_most_raised reason n j s area new e =
    let h : IsRaised j area (Kept new) = subst (IsRaised j area) (sym e) (raised reason j _ area) in
    record { side = h.0; put = h.1; end = h.2 }

-- under the high side a term's least product stays
pub at_most_moved : (reason : Reason) (f : ℤ) (j : ℕ) (s : ℤ) (area new : List Interval)
    → Kept new ≡ keep_at_most reason f j s area → IsMoved Least f j area new
at_most_moved reason (pos n) j s area new e = at_most_lowered reason n j s area new e
at_most_moved reason (negsuc n) j s area new e = at_most_raised reason n j s area new e

at_least_raised : (reason : Reason) (n j : ℕ) (s : ℤ) (area new : List Interval)
    → Kept new ≡ keep_at_least reason (pos n) j s area → IsMoved Greatest (pos n) j area new
at_least_raised reason n j s area new e =
    let h : IsRaised j area (Kept new) = subst (IsRaised j area) (sym e) (raised reason j _ area) in
    record { side = h.0; put = h.1; end = h.2 }

at_least_lowered : (reason : Reason) (n j : ℕ) (s : ℤ) (area new : List Interval)
    → Kept new ≡ keep_at_least reason (negsuc n) j s area → IsMoved Greatest (negsuc n) j area new
at_least_lowered reason n j s area new e =
    let h : IsLowered j area (Kept new) = subst (IsLowered j area) (sym e) (lowered reason j _ area) in
    record { side = h.0; put = h.1; end = h.2 }

-- over the low side its greatest product stays
pub at_least_moved : (reason : Reason) (f : ℤ) (j : ℕ) (s : ℤ) (area new : List Interval)
    → Kept new ≡ keep_at_least reason f j s area → IsMoved Greatest f j area new
at_least_moved reason (pos n) j s area new e = at_least_raised reason n j s area new e
at_least_moved reason (negsuc n) j s area new e = at_least_lowered reason n j s area new e

pub small_put : (terms : List Term) (area : List Interval) (j : ℕ) (side : Interval) → j < length area
    → HaveSmallColumns terms area → HasSmallEnds side → HaveSmallColumns terms (set area j side)
small_put terms area j side there small one k within = elim (cases_eq (term_at terms k).column j) [
  | inl e ↦
      let at : interval_at (set area j side) j ≡ side = get_or-set_same area j side no_interval there in
      let Q : ℕ → Type 0 = λ (i : ℕ). HasSmallEnds (interval_at (set area j side) i) in
      subst Q (sym e) (subst HasSmallEnds (sym at) one)
  | inr ne ↦ subst HasSmallEnds (sym (get_or-set_other area j (term_at terms k).column side no_interval ne)) (small k within)
]

stays : (sum old new : ℤ) → new ≡ old → (sum -ℤ old) +ℤ new ≡ sum
stays sum old new e = omega (arith, ints)

-- a sum whose term has the same end there is as it was
pub sum_stays : (e : Extreme) (width : ℕ) (terms : List Term) (t : Term) (area : List Interval) (side : Interval)
    → IsLinear width terms → IsAmong t terms → t.column < length area
    → end_of e t.factor side ≡ end_of e t.factor (interval_at area t.column)
    → end_sum e terms (set area t.column side) ≡ end_sum e terms area
sum_stays e width terms t area side linear among there same =
    sum_with e width terms t area side linear among
    ∙ stays (end_sum e terms area) (end_product e t area) (end_product e t (set area t.column side))
    (product_new e t area side there ∙ ap (λ (v : ℤ). t.factor *ℤ v) same)

low_changes : (slack sum old new low : ℤ) → slack ≡ sum -ℤ low → slack +ℤ (new -ℤ old) ≡ ((sum -ℤ old) +ℤ new) -ℤ low
low_changes slack sum old new low e = omega (arith, ints)

high_changes : (slack sum old new high : ℤ) → slack ≡ high -ℤ sum → slack -ℤ (new -ℤ old) ≡ high -ℤ ((sum -ℤ old) +ℤ new)
high_changes slack sum old new high e = omega (arith, ints)

small_moved : (e : Extreme) (f : ℤ) (terms : List Term) (j : ℕ) (area new : List Interval) → j < length area
    → HaveSmallColumns terms area → HasSmallEnds (interval_at new j) → IsMoved e f j area new → HaveSmallColumns terms new
small_moved e f terms j area new there small one moved =
    let at : interval_at (set area j moved.side) j ≡ moved.side = get_or-set_same area j moved.side no_interval there in
    let P : List Interval → Type 0 = λ (a : List Interval). HasSmallEnds (interval_at a j) in
    subst (HaveSmallColumns terms) (sym moved.put)
    (small_put terms area j moved.side there small (subst HasSmallEnds at (subst P moved.put one)))

-- the slack after a term is tightened under the high side
pub slack_after_high : (width : ℕ) (row_sides : RowSides) (terms : List Term) (t : Term) (area new : List Interval) (slack after : Slack)
    (reason : Reason) (most : ℤ) → IsPropagable width row_sides terms → IsAmong t terms → t.column < length area
    → IsSlackOf row_sides terms area slack → Kept new ≡ keep_at_most reason t.factor t.column most area
    → HasSmallEnds (interval_at new t.column) → after.high ≡ slack.high
    → after.low ≡ slack.low +ℤ (end_product Greatest t new -ℤ end_product Greatest t area)
    → IsSlackOf row_sides terms new after
slack_after_high width row_sides terms t area new slack after reason most ready among there r e small same changed =
    let moved : IsMoved Least t.factor t.column area new = at_most_moved reason t.factor t.column most area new e in
    let put : List Interval = set area t.column moved.side in
    let P : List Interval → Type 0 = λ (a : List Interval). after.high ≡ high_of row_sides.high -ℤ end_sum Least terms a in
    let Q : List Interval → Type 0 = λ (a : List Interval).
    after.low ≡ slack.low +ℤ (end_product Greatest t a -ℤ end_product Greatest t area) in
    let R : List Interval → Type 0 = λ (a : List Interval). after.low ≡ end_sum Greatest terms a -ℤ low_of row_sides.low in
    slack_of width row_sides terms new after ready
    (small_moved Least t.factor terms t.column area new there r.small small moved)
    (subst P (sym moved.put)
    (same ∙ r.high ∙ ap (λ (s : ℤ). high_of row_sides.high -ℤ s)
    (sym (sum_stays Least width terms t area moved.side ready.linear among there moved.end))))
    (subst R (sym moved.put)
    (subst Q moved.put changed
    ∙ low_changes slack.low (end_sum Greatest terms area) (end_product Greatest t area) (end_product Greatest t put)
    (low_of row_sides.low) r.low
    ∙ ap (λ (s : ℤ). s -ℤ low_of row_sides.low) (sym (sum_with Greatest width terms t area moved.side ready.linear among))))

-- the slack after a term is tightened over the low side
pub slack_after_low : (width : ℕ) (row_sides : RowSides) (terms : List Term) (t : Term) (area new : List Interval) (slack after : Slack)
    (reason : Reason) (least : ℤ) → IsPropagable width row_sides terms → IsAmong t terms → t.column < length area
    → IsSlackOf row_sides terms area slack → Kept new ≡ keep_at_least reason t.factor t.column least area
    → HasSmallEnds (interval_at new t.column) → after.low ≡ slack.low
    → after.high ≡ slack.high -ℤ (end_product Least t new -ℤ end_product Least t area)
    → IsSlackOf row_sides terms new after
slack_after_low width row_sides terms t area new slack after reason least ready among there r e small same changed =
    let moved : IsMoved Greatest t.factor t.column area new = at_least_moved reason t.factor t.column least area new e in
    let put : List Interval = set area t.column moved.side in
    let P : List Interval → Type 0 = λ (a : List Interval). after.low ≡ end_sum Greatest terms a -ℤ low_of row_sides.low in
    let Q : List Interval → Type 0 = λ (a : List Interval).
    after.high ≡ slack.high -ℤ (end_product Least t a -ℤ end_product Least t area) in
    let R : List Interval → Type 0 = λ (a : List Interval). after.high ≡ high_of row_sides.high -ℤ end_sum Least terms a in
    slack_of width row_sides terms new after ready
    (small_moved Greatest t.factor terms t.column area new there r.small small moved)
    (subst R (sym moved.put)
    (subst Q moved.put changed
    ∙ high_changes slack.high (end_sum Least terms area) (end_product Least t area) (end_product Least t put)
    (high_of row_sides.high) r.high
    ∙ ap (λ (s : ℤ). high_of row_sides.high -ℤ s) (sym (sum_with Least width terms t area moved.side ready.linear among))))
    (subst P (sym moved.put)
    (same ∙ r.low ∙ ap (λ (s : ℤ). s -ℤ low_of row_sides.low)
    (sym (sum_stays Greatest width terms t area moved.side ready.linear among there moved.end))))

-- the rest if no reason is reported
pub kept_where_none : (told : Option Reason) (new : List Interval) (o : Tight) → IsNone told → outcome_of told new ≡ o → Kept new ≡ o
kept_where_none None new o h e = e
kept_where_none (Some reason) new o h e = absurd (cc)
