-- A column cut to this many steps from an end of its interval.
use Rattle.std.proofs.Common.{◌≡◌, ◌≢◌, refl, sym, subst, ◌∙◌, ap, ℕ, zero, suc, ℤ, pos, negsuc, ◌+ℤ◌, ◌-ℤ◌, ◌*ℤ◌, ◌<ℤ◌, unsigned_abs, List, set, arith}
use Rattle.std.proofs.lemmas.Int.{ints}
use Rattle.std.specs.Int.{int_div_euclid}
use Rattle.ug_rows.specs.declared.area.Interval.{Interval}
use Rattle.ug_rows.specs.declared.sums.Extreme.{Extreme}
use Rattle.ug_rows.specs.declared.sums.Extreme.TheVariants.{Least, Greatest}
use Rattle.ug_rows.specs.Boxes.{IsClosedWithin, interval_at}
use Rattle.ug_rows.specs.Sums.{end_of}
use Rattle.ug_propagate.specs.declared.tight.Tight.{Tight}
use Rattle.ug_propagate.specs.declared.tight.Tight.TheVariants.{Kept}
use Rattle.ug_propagate.specs.declared.tight.Reason.{Reason}
use Rattle.ug_propagate.specs.Rounds.{keep_at_least, keep_at_most, lower_high, raise_low}
use Rattle.ug_propagate.specs.Cuts.{AreSteps, down_from, near_end, up_from}
use Rattle.ug_propagate.proofs.Parts.{if_lt}
use Rattle.ug_propagate.proofs.Quotients.{down_to_high, down_to_low, up_to_high, up_to_low}

lowered_to : (reason : Reason) (j n : ℕ) (area : List Interval) (q : ℤ) → q ≡ (interval_at area j).low +ℤ pos n
    → pos n <ℤ ((interval_at area j).high -ℤ (interval_at area j).low)
    → lower_high reason j q area ≡ Kept (set area j (up_from (interval_at area j) n))
lowered_to reason j n area q e few =
    let goal : Tight → Type 0 = λ (t : Tight). t ≡ Kept (set area j (up_from (interval_at area j) n)) in
    if_lt goal q (interval_at area j).high _ _
    (λ tighter. if_lt goal q (interval_at area j).low _ _ (λ none. absurd (omega (arith, ints, e, none)))
    (λ some. ap (λ (v : ℤ). Kept (set area j (record { low = (interval_at area j).low; high = v }))) e))
    (λ looser. absurd (omega (arith, ints, e, few, looser)))

raised_to : (reason : Reason) (j n : ℕ) (area : List Interval) (q : ℤ) → q ≡ (interval_at area j).high -ℤ pos n
    → pos n <ℤ ((interval_at area j).high -ℤ (interval_at area j).low)
    → raise_low reason j q area ≡ Kept (set area j (down_from (interval_at area j) n))
raised_to reason j n area q e few =
    let goal : Tight → Type 0 = λ (t : Tight). t ≡ Kept (set area j (down_from (interval_at area j) n)) in
    if_lt goal (interval_at area j).low q _ _
    (λ tighter. if_lt goal (interval_at area j).high q _ _ (λ none. absurd (omega (arith, ints, e, none)))
    (λ some. ap (λ (v : ℤ). Kept (set area j (record { low = v; high = (interval_at area j).high }))) e))
    (λ looser. absurd (omega (arith, ints, e, few, looser)))

stepped_up : (low s : ℤ) (n : ℕ) → pos n ≡ s → low +ℤ s ≡ low +ℤ pos n
stepped_up low s n e = ap (λ (v : ℤ). low +ℤ v) (sym e)

stepped_down : (high s : ℤ) (n : ℕ) → pos n ≡ s → high -ℤ s ≡ high -ℤ pos n
stepped_down high s n e = ap (λ (v : ℤ). high -ℤ v) (sym e)

-- this many steps from the end of the least product leave what the slack leaves above it
pub near_least : (reason : Reason) (f slack : ℤ) (j n : ℕ) (area : List Interval) → f ≢ pos 0
    → AreSteps slack (unsigned_abs f) (interval_at area j) n
    → Kept (set area j (near_end Least f (interval_at area j) n))
    ≡ keep_at_most reason f j (slack +ℤ (f *ℤ end_of Least f (interval_at area j))) area
near_least reason (pos zero) slack j n area ne h = absurd (ne refl)
near_least reason (pos (suc d)) slack j n area ne h =
    let low : ℤ = (interval_at area j).low in
    sym (lowered_to reason j n area _ (up_to_high slack low (suc d) (omega arith) ∙ stepped_up low _ n h.quotient) h.few)
near_least reason (negsuc d) slack j n area ne h =
    let high : ℤ = (interval_at area j).high in
    sym (raised_to reason j n area _ (down_to_high slack high d ∙ stepped_down high _ n h.quotient) h.few)

-- and from that of the greatest what it leaves below
pub near_greatest : (reason : Reason) (f slack : ℤ) (j n : ℕ) (area : List Interval) → f ≢ pos 0
    → AreSteps slack (unsigned_abs f) (interval_at area j) n
    → Kept (set area j (near_end Greatest f (interval_at area j) n))
    ≡ keep_at_least reason f j ((f *ℤ end_of Greatest f (interval_at area j)) -ℤ slack) area
near_greatest reason (pos zero) slack j n area ne h = absurd (ne refl)
near_greatest reason (pos (suc d)) slack j n area ne h =
    let high : ℤ = (interval_at area j).high in
    sym (raised_to reason j n area _ (down_to_low slack high (suc d) (omega arith) ∙ stepped_down high _ n h.quotient) h.few)
near_greatest reason (negsuc d) slack j n area ne h =
    let low : ℤ = (interval_at area j).low in
    sym (lowered_to reason j n area _ (up_to_low slack low d ∙ stepped_up low _ n h.quotient) h.few)

-- it is within the interval, and has a value
pub near_within : (e : Extreme) (f : ℤ) (side : Interval) (n : ℕ) → pos n <ℤ (side.high -ℤ side.low)
    → IsClosedWithin (near_end e f side n) side
near_within Least (pos d) side n few = record { low = omega (arith, ints); high = omega (arith, ints); some = omega (arith, ints) }
near_within Least (negsuc d) side n few = record { low = omega (arith, ints); high = omega (arith, ints); some = omega (arith, ints) }
near_within Greatest (pos d) side n few = record { low = omega (arith, ints); high = omega (arith, ints); some = omega (arith, ints) }
near_within Greatest (negsuc d) side n few = record { low = omega (arith, ints); high = omega (arith, ints); some = omega (arith, ints) }

-- the steps and the interval, where numbers that went through words of the machine are the same
steps_named : (f g slack r : ℤ) (size n : ℕ) (side : Interval) → g ≡ f → r ≡ slack → size ≡ unsigned_abs g → AreSteps r size side n
    → AreSteps slack (unsigned_abs f) side n
steps_named f g slack r size n side same kept sized h = record {
  quotient = h.quotient ∙ ap (λ (v : ℤ). int_div_euclid v (pos size)) kept
      ∙ ap (λ (v : ℕ). int_div_euclid slack (pos v)) (sized ∙ ap unsigned_abs same);
  few = h.few;
}

pub least_taken : (reason : Reason) (f g slack r : ℤ) (size j n : ℕ) (area : List Interval) (side : Interval) → f ≢ pos 0 → g ≡ f
    → r ≡ slack → size ≡ unsigned_abs g → AreSteps r size (interval_at area j) n → side ≡ near_end Least g (interval_at area j) n
    → Kept (set area j side) ≡ keep_at_most reason f j (slack +ℤ (f *ℤ end_of Least f (interval_at area j))) area
least_taken reason f g slack r size j n area side ne same kept sized h e =
    ap (λ (s : Interval). Kept (set area j s)) (e ∙ ap (λ (v : ℤ). near_end Least v (interval_at area j) n) same)
    ∙ near_least reason f slack j n area ne (steps_named f g slack r size n (interval_at area j) same kept sized h)

pub greatest_taken : (reason : Reason) (f g slack r : ℤ) (size j n : ℕ) (area : List Interval) (side : Interval) → f ≢ pos 0 → g ≡ f
    → r ≡ slack → size ≡ unsigned_abs g → AreSteps r size (interval_at area j) n → side ≡ near_end Greatest g (interval_at area j) n
    → Kept (set area j side) ≡ keep_at_least reason f j ((f *ℤ end_of Greatest f (interval_at area j)) -ℤ slack) area
greatest_taken reason f g slack r size j n area side ne same kept sized h e =
    ap (λ (s : Interval). Kept (set area j s)) (e ∙ ap (λ (v : ℤ). near_end Greatest v (interval_at area j) n) same)
    ∙ near_greatest reason f slack j n area ne (steps_named f g slack r size n (interval_at area j) same kept sized h)

pub closed_near : (e : Extreme) (f : ℤ) (side near : Interval) (n : ℕ) → pos n <ℤ (side.high -ℤ side.low) → near ≡ near_end e f side n
    → IsClosedWithin near side
closed_near e f side near n few same =
    let P : Interval → Type 0 = λ (s : Interval). IsClosedWithin s side in
    subst P (sym same) (near_within e f side n few)
