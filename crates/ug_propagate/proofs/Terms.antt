-- What one term of a row does to a box.
use Rattle.std.proofs.Common.{◌≡◌, ◌≢◌, refl, sym, subst, inl, inr, ℕ, zero, suc, ◌<◌, ℤ, pos, negsuc, ◌+ℤ◌, ◌-ℤ◌, ◌*ℤ◌, ◌≤ℤ◌, ◌<ℤ◌, List, [], ◌∷◌, length, Option, Some, None, IfSome, MatchOption, arith}
use Rattle.std.proofs.lemmas.Int.{ints, by_lt_z}
use Rattle.ug_rows.specs.declared.area.Interval.{Interval}
use Rattle.ug_rows.specs.declared.row.Term.{Term}
use Rattle.ug_rows.specs.declared.sums.Extreme.{Extreme}
use Rattle.ug_rows.specs.declared.sums.Extreme.TheVariants.{Least, Greatest}
use Rattle.ug_rows.specs.Boxes.{IsInside, IsNonEmpty, IsWithin, interval_at, value_at}
use Rattle.ug_rows.specs.Rows.{IsAmong, sum_at}
use Rattle.ug_rows.specs.Sums.{IsBound, end_of, end_product, end_sum, least_sum, greatest_sum}
use Rattle.ug_rows.proofs.EndBounds.{AreThere, end_bound}
use Rattle.ug_propagate.specs.declared.tight.Tight.{Tight}
use Rattle.ug_propagate.specs.declared.tight.Tight.TheVariants.{Kept, Empty}
use Rattle.ug_propagate.specs.declared.tight.Reason.{Reason}
use Rattle.ug_propagate.specs.declared.tight.Side.TheVariants.{Low, High}
use Rattle.ug_propagate.specs.Rounds.{reason_of, lower_high, raise_low, keep_at_most, keep_at_least, end_of_others, under_high, over_low, floor_quotient, ceiling_quotient}
use Rattle.ug_propagate.specs.Claims.{Holds}
use Rattle.ug_propagate.proofs.Parts.{IsPart, part_same, part_set, inside_set, if_lt}
use Rattle.ug_propagate.proofs.Quotients.{floor_greatest, floor_greatest_neg, ceiling_least, ceiling_least_neg}

-- a part of the box is left, or nothing, for this reason and where this is so
abbrev pub IsCut : List Interval → Reason → Type 0 → Tight → Type 0
IsCut area reason E (Kept left) = IsPart left area
IsCut area reason E (Empty told) = (told ≡ reason) × E

pub cut_since : (area : List Interval) (reason : Reason) (E F : Type 0) (o : Tight) → (E → F)
    → IsCut area reason E o → IsCut area reason F o
cut_since area reason E F (Kept left) f h = h
cut_since area reason E F (Empty told) f h = (h.0, f h.1)

lower_high_cuts : (reason : Reason) (j : ℕ) (q : ℤ) (area : List Interval) → IsNonEmpty area → j < length area
    → IsCut area reason (q <ℤ (interval_at area j).low) (lower_high reason j q area)
lower_high_cuts reason j q area n there =
    let side : Interval = interval_at area j in
    let P : Tight → Type 0 = IsCut area reason (q <ℤ side.low) in
    if_lt P q side.high _ _
    (λ tighter. if_lt P q side.low _ _
    (λ none. (refl, none))
    (λ some. part_set area j (record { low = side.low; high = q }) n there
    (record { low = omega (arith, ints); high = omega (arith, ints); some = some })))
    (λ looser. part_same area n)

raise_low_cuts : (reason : Reason) (j : ℕ) (q : ℤ) (area : List Interval) → IsNonEmpty area → j < length area
    → IsCut area reason ((interval_at area j).high <ℤ q) (raise_low reason j q area)
raise_low_cuts reason j q area n there =
    let side : Interval = interval_at area j in
    let P : Tight → Type 0 = IsCut area reason (side.high <ℤ q) in
    if_lt P side.low q _ _
    (λ tighter. if_lt P side.high q _ _
    (λ none. (refl, none))
    (λ some. part_set area j (record { low = q; high = side.high }) n there
    (record { low = omega (arith, ints); high = omega (arith, ints); some = some })))
    (λ looser. part_same area n)

lower_high_holds : (reason : Reason) (j : ℕ) (q : ℤ) (area : List Interval) (x : List ℤ) → IsInside area x
    → j < length area → value_at x j ≤ℤ q → Holds (lower_high reason j q area) x
lower_high_holds reason j q area x i there most =
    let side : Interval = interval_at area j in
    let w : IsWithin side (value_at x j) = i.each j there in
    let P : Tight → Type 0 = λ (o : Tight). Holds o x in
    if_lt P q side.high _ _
    (λ tighter. if_lt P q side.low _ _
    (λ none. omega (arith, ints))
    (λ some. inside_set area x j (record { low = side.low; high = q }) i there (record { low = w.low; high = most })))
    (λ looser. i)

raise_low_holds : (reason : Reason) (j : ℕ) (q : ℤ) (area : List Interval) (x : List ℤ) → IsInside area x
    → j < length area → q ≤ℤ value_at x j → Holds (raise_low reason j q area) x
raise_low_holds reason j q area x i there least =
    let side : Interval = interval_at area j in
    let w : IsWithin side (value_at x j) = i.each j there in
    let P : Tight → Type 0 = λ (o : Tight). Holds o x in
    if_lt P side.low q _ _
    (λ tighter. if_lt P side.high q _ _
    (λ none. omega (arith, ints))
    (λ some. inside_set area x j (record { low = q; high = side.high }) i there (record { low = least; high = w.high })))
    (λ looser. i)

-- a number that is not at most another is above it
above : (a b : ℤ) → (a ≤ℤ b → ⊥) → b <ℤ a
above a b h = by_lt_z b a (λ lt. lt) (λ le. absurd (h le))

not_both : (a b : ℤ) → a <ℤ b → b ≤ℤ a → ⊥
not_both a b h k = omega (arith, ints)

at_most_cuts : (reason : Reason) (f : ℤ) (j : ℕ) (s : ℤ) (area : List Interval) → IsNonEmpty area → j < length area
    → f ≢ pos 0 → IsCut area reason (s <ℤ (f *ℤ end_of Least f (interval_at area j))) (keep_at_most reason f j s area)
at_most_cuts reason (pos zero) j s area n there ne = absurd (ne refl)
at_most_cuts reason (pos (suc d)) j s area n there ne =
    let v : ℤ = (interval_at area j).low in
    let q : ℤ = floor_quotient s (pos (suc d)) in
    cut_since area reason (q <ℤ v) (s <ℤ (pos (suc d) *ℤ v)) _
    (λ none. above (pos (suc d) *ℤ v) s (λ le. not_both q v none (floor_greatest s (suc d) v (omega arith) le)))
    (lower_high_cuts reason j q area n there)
at_most_cuts reason (negsuc d) j s area n there ne =
    let v : ℤ = (interval_at area j).high in
    let q : ℤ = ceiling_quotient s (negsuc d) in
    cut_since area reason (v <ℤ q) (s <ℤ (negsuc d *ℤ v)) _
    (λ none. above (negsuc d *ℤ v) s (λ le. not_both v q none (ceiling_least_neg s d v le)))
    (raise_low_cuts reason j q area n there)

at_least_cuts : (reason : Reason) (f : ℤ) (j : ℕ) (s : ℤ) (area : List Interval) → IsNonEmpty area → j < length area
    → f ≢ pos 0 → IsCut area reason ((f *ℤ end_of Greatest f (interval_at area j)) <ℤ s) (keep_at_least reason f j s area)
at_least_cuts reason (pos zero) j s area n there ne = absurd (ne refl)
at_least_cuts reason (pos (suc d)) j s area n there ne =
    let v : ℤ = (interval_at area j).high in
    let q : ℤ = ceiling_quotient s (pos (suc d)) in
    cut_since area reason (v <ℤ q) ((pos (suc d) *ℤ v) <ℤ s) _
    (λ none. above s (pos (suc d) *ℤ v) (λ le. not_both v q none (ceiling_least s (suc d) v (omega arith) le)))
    (raise_low_cuts reason j q area n there)
at_least_cuts reason (negsuc d) j s area n there ne =
    let v : ℤ = (interval_at area j).low in
    let q : ℤ = floor_quotient s (negsuc d) in
    cut_since area reason (q <ℤ v) ((negsuc d *ℤ v) <ℤ s) _
    (λ none. above s (negsuc d *ℤ v) (λ le. not_both q v none (floor_greatest_neg s d v le)))
    (lower_high_cuts reason j q area n there)

at_most_holds : (reason : Reason) (f : ℤ) (j : ℕ) (s : ℤ) (area : List Interval) (x : List ℤ) → IsInside area x
    → j < length area → f ≢ pos 0 → (f *ℤ value_at x j) ≤ℤ s → Holds (keep_at_most reason f j s area) x
at_most_holds reason (pos zero) j s area x i there ne h = absurd (ne refl)
at_most_holds reason (pos (suc d)) j s area x i there ne h =
    lower_high_holds reason j _ area x i there (floor_greatest s (suc d) (value_at x j) (omega arith) h)
at_most_holds reason (negsuc d) j s area x i there ne h =
    raise_low_holds reason j _ area x i there (ceiling_least_neg s d (value_at x j) h)

at_least_holds : (reason : Reason) (f : ℤ) (j : ℕ) (s : ℤ) (area : List Interval) (x : List ℤ) → IsInside area x
    → j < length area → f ≢ pos 0 → s ≤ℤ (f *ℤ value_at x j) → Holds (keep_at_least reason f j s area) x
at_least_holds reason (pos zero) j s area x i there ne h = absurd (ne refl)
at_least_holds reason (pos (suc d)) j s area x i there ne h =
    raise_low_holds reason j _ area x i there (ceiling_least s (suc d) (value_at x j) (omega arith) h)
at_least_holds reason (negsuc d) j s area x i there ne h =
    lower_high_holds reason j _ area x i there (floor_greatest_neg s d (value_at x j) h)

first_out : (e : Extreme) (a b c s : ℤ) → IsBound e b s → IsBound e ((a +ℤ b) -ℤ a) ((c +ℤ s) -ℤ c)
first_out Least a b c s h = omega (arith, ints)
first_out Greatest a b c s h = omega (arith, ints)

one_more : (e : Extreme) (a b t v s w : ℤ) → IsBound e (a +ℤ pos 0) (v +ℤ pos 0) → IsBound e (b -ℤ t) (s -ℤ w)
    → IsBound e ((a +ℤ b) -ℤ t) ((v +ℤ s) -ℤ w)
one_more Least a b t v s w h k = omega (arith, ints)
one_more Greatest a b t v s w h k = omega (arith, ints)

-- the ends of the other terms bound their sum at each point of the box
pub others_bound : (e : Extreme) (ts : List Term) (t : Term) (area : List Interval) (x : List ℤ)
    → AreThere (length area) ts → IsAmong t ts → IsInside area x
    → IsBound e (end_of_others e ts t area) (sum_at ts x -ℤ (t.factor *ℤ value_at x t.column))
others_bound e [] t area x there among i = absurd among
others_bound e (u ∷ us) t area x there (inl same) i =
    let P : Term → Type 0 = λ (v : Term). IsBound e (end_of_others e (u ∷ us) v area)
    (sum_at (u ∷ us) x -ℤ (v.factor *ℤ value_at x v.column)) in
    subst P (sym same)
    (first_out e (end_product e u area) (end_sum e us area) (u.factor *ℤ value_at x u.column) (sum_at us x)
    (end_bound e us area x there.1 i))
others_bound e (u ∷ us) t area x there (inr among) i =
    one_more e (end_product e u area) (end_sum e us area) (end_product e t area)
    (u.factor *ℤ value_at x u.column) (sum_at us x) (t.factor *ℤ value_at x t.column)
    (end_bound e (u ∷ []) area x (there.0, tt) i)
    (others_bound e us t area x there.1 among i)

high_missed : (high sum product : ℤ) → (high -ℤ (sum -ℤ product)) <ℤ product → high <ℤ sum
high_missed high sum product h = omega (arith, ints)

low_missed : (low sum product : ℤ) → product <ℤ (low -ℤ (sum -ℤ product)) → sum <ℤ low
low_missed low sum product h = omega (arith, ints)

pub high_cuts : (name : Option ℕ) (terms : List Term) (high : Option ℤ) (t : Term) (area : List Interval)
    → IsNonEmpty area → t.column < length area → t.factor ≢ pos 0
    → IsCut area (reason_of name High) (MatchOption high ⊥ (λ h. h <ℤ least_sum terms area)) (under_high name terms high t area)
high_cuts name terms None t area n there ne = part_same area n
high_cuts name terms (Some high) t area n there ne =
    cut_since area (reason_of name High)
    ((high -ℤ end_of_others Least terms t area) <ℤ end_product Least t area) (high <ℤ least_sum terms area) _
    (high_missed high (end_sum Least terms area) (end_product Least t area))
    (at_most_cuts (reason_of name High) t.factor t.column (high -ℤ end_of_others Least terms t area) area n there ne)

pub low_cuts : (name : Option ℕ) (terms : List Term) (low : Option ℤ) (t : Term) (area : List Interval)
    → IsNonEmpty area → t.column < length area → t.factor ≢ pos 0
    → IsCut area (reason_of name Low) (MatchOption low ⊥ (λ l. greatest_sum terms area <ℤ l)) (over_low name terms low t area)
low_cuts name terms None t area n there ne = part_same area n
low_cuts name terms (Some low) t area n there ne =
    cut_since area (reason_of name Low)
    (end_product Greatest t area <ℤ (low -ℤ end_of_others Greatest terms t area)) (greatest_sum terms area <ℤ low) _
    (low_missed low (end_sum Greatest terms area) (end_product Greatest t area))
    (at_least_cuts (reason_of name Low) t.factor t.column (low -ℤ end_of_others Greatest terms t area) area n there ne)

most_left : (others sum product high : ℤ) → others ≤ℤ (sum -ℤ product) → sum ≤ℤ high → product ≤ℤ (high -ℤ others)
most_left others sum product high h k = omega (arith, ints)

least_left : (others sum product low : ℤ) → (sum -ℤ product) ≤ℤ others → low ≤ℤ sum → (low -ℤ others) ≤ℤ product
least_left others sum product low h k = omega (arith, ints)

pub high_holds : (name : Option ℕ) (terms : List Term) (high : Option ℤ) (t : Term) (area : List Interval) (x : List ℤ)
    → IsInside area x → AreThere (length area) terms → IsAmong t terms → t.column < length area → t.factor ≢ pos 0
    → IfSome high (λ h. sum_at terms x ≤ℤ h) → Holds (under_high name terms high t area) x
high_holds name terms None t area x i all among there ne h = i
high_holds name terms (Some high) t area x i all among there ne h =
    at_most_holds (reason_of name High) t.factor t.column _ area x i there ne
    (most_left (end_of_others Least terms t area) (sum_at terms x) (t.factor *ℤ value_at x t.column) high
    (others_bound Least terms t area x all among i) h)

pub low_holds : (name : Option ℕ) (terms : List Term) (low : Option ℤ) (t : Term) (area : List Interval) (x : List ℤ)
    → IsInside area x → AreThere (length area) terms → IsAmong t terms → t.column < length area → t.factor ≢ pos 0
    → IfSome low (λ l. l ≤ℤ sum_at terms x) → Holds (over_low name terms low t area) x
low_holds name terms None t area x i all among there ne h = i
low_holds name terms (Some low) t area x i all among there ne h =
    at_least_holds (reason_of name Low) t.factor t.column _ area x i there ne
    (least_left (end_of_others Greatest terms t area) (sum_at terms x) (t.factor *ℤ value_at x t.column) low
    (others_bound Greatest terms t area x all among i) h)
