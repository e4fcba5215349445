-- The sums of a row over a box differ by multiples of a common divisor of the open columns.
use Rattle.std.proofs.Common.{◌≡◌, ◌≢◌, ◌⊎◌, ◌∙◌, sym, ap, subst, inl, inr, ℕ, suc, ◌+◌, ◌*◌, ◌/◌, ◌%◌, ◌<◌, ℤ, pos, negsuc, ◌+ℤ◌, ◌-ℤ◌, ◌*ℤ◌, neg_ℤ, ◌≤ℤ◌, ◌<ℤ◌, false, true, List, [], ◌∷◌, length, unsigned_abs, Option, Some, None, IfSome, option_map, int_lt, arith}
use Rattle.std.proofs.lemmas.Int.{ints, by_lt_z}
use Rattle.std.proofs.lemmas.Bool.{cases_eq, cases_lt, lt-ltb, le-ltb}
use Rattle.std.proofs.lemmas.Nat.Gcd.{dvd_trans, dvd-zero, mod-eq-zero_of_dvd, dvd_refl}
use lib.IntN.{*ℤ-zero}
use Rattle.std.specs.Int.{IsGcd, int_div_euclid, ◌∣◌}
use Rattle.ug_rows.specs.declared.area.Interval.{Interval}
use Rattle.ug_rows.specs.declared.row.Row.{Row}
use Rattle.ug_rows.specs.declared.row.Term.{Term}
use Rattle.ug_rows.specs.declared.sums.Extreme.TheVariants.{Least}
use Rattle.ug_rows.specs.Boxes.{IsInside, IsWithin, interval_at, value_at}
use Rattle.ug_rows.specs.Rows.{sum_at, term_at}
use Rattle.ug_rows.specs.Sums.{end_of, least_sum}
use Rattle.ug_rows.proofs.EndBounds.{AreThere, mul_pos}
use Rattle.ug_surrogate.specs.Rounding.{IsCommonDivisor, IsDivisorOf, IsNarrower, IsOpen, KeepsNarrowed, KeepsSides, LosesNone, down_to_step, rounded_by, sides_or_empty, up_to_step}
use Rattle.ug_surrogate.specs.Weights.{rounded_up}
use Rattle.ug_surrogate.proofs.Below.{floor_below, floor_greatest, up_above, up_at_most}
use Rattle.ug_surrogate.proofs.Ring.{mul_add, mul_assoc, mul_less, mul_neg_right}

-- if there is no term, all divides 0
pub with_none : (terms : List Term) (area : List Interval) → IsDivisorOf terms area 0 0
with_none terms area d = (λ _ k lt. absurd (omega arith), λ _. dvd-zero d)

-- a term of a column with one value changes nothing
pub with_fixed : (terms : List Term) (area : List Interval) (k g : ℕ) → IsDivisorOf terms area k g
    → (interval_at area (term_at terms k).column).low ≡ (interval_at area (term_at terms k).column).high
    → IsDivisorOf terms area (k + 1) g
with_fixed terms area k g h closed d = (
  λ divides i lt more. elim (cases_eq i k) [
    | inl same ↦ absurd (more (subst (λ (n : ℕ). (interval_at area (term_at terms n).column).low ≡ (interval_at area (term_at terms n).column).high) (sym same) closed))
    | inr ne ↦ (h d).0 divides i (omega (arith, lt, ne)) more
  ],
  λ all. (h d).1 (λ i lt. all i (omega arith)),
)

-- the divisor with the term of an open column
pub with_open : (terms : List Term) (area : List Interval) (k g next : ℕ) → IsDivisorOf terms area k g
    → IsOpen (interval_at area (term_at terms k).column)
    → IsGcd g (unsigned_abs (term_at terms k).factor) next → IsDivisorOf terms area (k + 1) next
with_open terms area k g next h is_open gcd d = (
  λ divides i lt more. elim (cases_eq i k) [
    | inl same ↦ subst (λ (n : ℕ). d ∣ unsigned_abs (term_at terms n).factor) (sym same) (dvd_trans d divides gcd.1)
    | inr ne ↦ (h d).0 (dvd_trans d divides gcd.0) i (omega (arith, lt, ne)) more
  ],
  λ all. gcd.2 d ((h d).1 (λ i lt. all i (omega arith))) (all k (omega arith) is_open),
)

-- a whole number of steps of g
pub record AreSteps (g : ℕ) (z : ℤ) : Type 0 where
  pub count : ℤ
  pub is : z ≡ pos g *ℤ count

none_steps : (g : ℕ) → AreSteps g (pos 0)
none_steps g = record { count = pos 0; is = sym (*ℤ-zero (pos g)) }

more_steps : (g : ℕ) (a b : ℤ) → AreSteps g a → AreSteps g b → AreSteps g (a +ℤ b)
more_steps g a b h k = record {
  count = h.count +ℤ k.count;
  is = omega (arith, ints, h.is, k.is, mul_add (pos g) h.count k.count);
}

times_steps : (g : ℕ) (a b : ℤ) → AreSteps g a → AreSteps g (a *ℤ b)
times_steps g a b h = record {
  count = h.count *ℤ b;
  is = ap (λ (z : ℤ). z *ℤ b) h.is ∙ sym (mul_assoc (pos g) h.count b);
}

whole_steps : (g n : ℕ) → g ∣ n → n ≡ g * (n / g)
whole_steps g n divides = let e : n % g ≡ 0 = mod-eq-zero_of_dvd g divides in omega (arith, e)

factor_steps : (g : ℕ) (f : ℤ) → g ∣ unsigned_abs f → AreSteps g f
factor_steps g (pos n) divides = record { count = pos (n / g); is = ap pos (whole_steps g n divides) }
factor_steps g (negsuc n) divides = record {
  count = neg_ℤ (pos (suc n / g));
  is = ap (λ (k : ℕ). neg_ℤ (pos k)) (whole_steps g (suc n) divides) ∙ sym (mul_neg_right (pos g) (pos (suc n / g)));
}

end_same : (f : ℤ) (side : Interval) (v : ℤ) → side.low ≡ side.high → IsWithin side v → v ≡ end_of Least f side
end_same (pos n) side v closed w = omega (arith, ints, closed, w.low, w.high)
end_same (negsuc n) side v closed w = omega (arith, ints, closed, w.low, w.high)

closed_or_not : (side : Interval) → (side.low ≡ side.high) ⊎ (side.low ≢ side.high)
closed_or_not side = by_lt_z side.low side.high
    (λ less. inr (λ e. omega (arith, ints, less, e)))
    (λ more. by_lt_z side.high side.low
    (λ less. inr (λ e. omega (arith, ints, less, e)))
    (λ other. inl (omega (arith, ints, more, other))))

-- a term at a point of the box is steps away from its least
term_steps : (g : ℕ) (f : ℤ) (side : Interval) (v : ℤ) → (IsOpen side → g ∣ unsigned_abs f) → IsWithin side v
    → AreSteps g ((f *ℤ v) -ℤ (f *ℤ end_of Least f side))
term_steps g f side v divides w = elim (closed_or_not side) [
  | inl closed ↦
      let e : f *ℤ v ≡ f *ℤ end_of Least f side = ap (λ (z : ℤ). f *ℤ z) (end_same f side v closed w) in
      subst (AreSteps g) (sym (zero_less (f *ℤ v) (f *ℤ end_of Least f side) e)) (none_steps g)
  | inr is_open ↦
      subst (AreSteps g) (mul_less f v (end_of Least f side)) (times_steps g f (v -ℤ end_of Least f side) (factor_steps g f (divides is_open)))
]
  where
    zero_less : (a b : ℤ) → a ≡ b → a -ℤ b ≡ pos 0
    zero_less a b e = omega (arith, ints, e)

regroup : (a s b t : ℤ) → (a -ℤ b) +ℤ (s -ℤ t) ≡ (a +ℤ s) -ℤ (b +ℤ t)
regroup a s b t = omega (arith, ints)

-- and so is a sum
sum_steps : (g : ℕ) (ts : List Term) (area : List Interval) (x : List ℤ)
    → ((k : ℕ) → k < length ts → IsOpen (interval_at area (term_at ts k).column) → g ∣ unsigned_abs (term_at ts k).factor)
    → AreThere (length area) ts → IsInside area x → AreSteps g (sum_at ts x -ℤ least_sum ts area)
sum_steps g [] area x divides there inside = none_steps g
sum_steps g (t ∷ ts) area x divides there inside =
    let side : Interval = interval_at area t.column in
    let first = term_steps g t.factor side (value_at x t.column) (divides 0 (omega arith)) (inside.each t.column there.0) in
    let later = sum_steps g ts area x (λ k lt. divides (suc k) (omega arith)) there.1 inside in
    subst (AreSteps g) (regroup (t.factor *ℤ value_at x t.column) (sum_at ts x) (t.factor *ℤ end_of Least t.factor side) (least_sum ts area))
    (more_steps g _ _ first later)

-- sides moved to steps keep each sum that is steps away
low_steps : (g : ℕ) (base low sum : ℤ) → 0 < g → AreSteps g (sum -ℤ base) → low ≤ℤ sum → up_to_step g base low ≤ℤ sum
low_steps g base low sum some h keeps =
    let q : ℤ = rounded_up (low -ℤ base) g in
    let less : (low -ℤ base) ≤ℤ (pos g *ℤ h.count) = omega (arith, ints, h.is, keeps) in
    let up : q ≤ℤ h.count = up_at_most (low -ℤ base) h.count g some less in
    omega (arith, ints, h.is, mul_pos g q h.count up)

high_steps : (g : ℕ) (base high sum : ℤ) → 0 < g → AreSteps g (sum -ℤ base) → sum ≤ℤ high → sum ≤ℤ down_to_step g base high
high_steps g base high sum some h keeps =
    let q : ℤ = int_div_euclid (high -ℤ base) (pos g) in
    let less : (pos g *ℤ h.count) ≤ℤ (high -ℤ base) = omega (arith, ints, h.is, keeps) in
    let down : h.count ≤ℤ q = floor_greatest (high -ℤ base) h.count g some less in
    omega (arith, ints, h.is, mul_pos g h.count q down)

low_kept : (g : ℕ) (base sum : ℤ) (low : Option ℤ) → 0 < g → AreSteps g (sum -ℤ base) → IfSome low (λ l. l ≤ℤ sum)
    → IfSome (option_map (up_to_step g base) low) (λ l. l ≤ℤ sum)
low_kept g base sum None some h keeps = tt
low_kept g base sum (Some low) some h keeps = low_steps g base low sum some h keeps

high_kept : (g : ℕ) (base sum : ℤ) (high : Option ℤ) → 0 < g → AreSteps g (sum -ℤ base) → IfSome high (λ h. sum ≤ℤ h)
    → IfSome (option_map (down_to_step g base) high) (λ h. sum ≤ℤ h)
high_kept g base sum None some h keeps = tt
high_kept g base sum (Some high) some h keeps = high_steps g base high sum some h keeps

sides_kept : (low high : Option ℤ) (sum : ℤ) → IfSome low (λ l. l ≤ℤ sum) → IfSome high (λ h. sum ≤ℤ h)
    → KeepsNarrowed (sides_or_empty low high) sum
sides_kept None high sum l h = record { low = tt; high = h }
sides_kept (Some low) None sum l h = record { low = l; high = tt }
sides_kept (Some low) (Some high) sum l h = by_lt_z high low
    (λ less. absurd (crossed low high sum less l h))
    (λ more. rw (not_less low high more) (record { low = l; high = h }))
  where
    crossed : (a b s : ℤ) → b <ℤ a → a ≤ℤ s → s ≤ℤ b → ⊥
    crossed a b s h k l = omega (arith, ints, h, k, l)

    not_less : (a b : ℤ) → a ≤ℤ b → int_lt b a ≡ false
    not_less a b h = grind (arith, ints)

-- the sides that are left keep each point of the box that satisfies the row
pub none_lost : (row : Row) (area : List Interval) (g : ℕ) → AreThere (length area) row.terms → IsCommonDivisor row.terms area g
    → LosesNone row area (rounded_by g row area)
none_lost row area g there divisor x inside keeps = elim (cases_lt g 2) [
  | inl less ↦ rw (lt-ltb g 2 less) (record { low = keeps.low; high = keeps.high })
  | inr more ↦ rw (le-ltb g 2 more)
      (let steps = sum_steps g row.terms area x ((divisor g).0 (dvd_refl g)) there inside in
      sides_kept _ _ (sum_at row.terms x)
      (low_kept g (least_sum row.terms area) (sum_at row.terms x) row.low (omega (arith, more)) steps keeps.low)
      (high_kept g (least_sum row.terms area) (sum_at row.terms x) row.high (omega (arith, more)) steps keeps.high))
]

-- sides moved to steps are inside the row's own
low_raised : (g : ℕ) (base sum : ℤ) (low : Option ℤ) → 0 < g
    → IfSome (option_map (up_to_step g base) low) (λ l. l ≤ℤ sum) → IfSome low (λ l. l ≤ℤ sum)
low_raised g base sum None some h = tt
low_raised g base sum (Some low) some h = omega (arith, ints, h, up_above (low -ℤ base) g some)

high_lowered : (g : ℕ) (base sum : ℤ) (high : Option ℤ) → 0 < g
    → IfSome (option_map (down_to_step g base) high) (λ h. sum ≤ℤ h) → IfSome high (λ h. sum ≤ℤ h)
high_lowered g base sum None some h = tt
high_lowered g base sum (Some high) some h =
    omega (arith, ints, h, floor_below (high -ℤ base) g some)

kept_sides : (low high : Option ℤ) (sum : ℤ) → KeepsNarrowed (sides_or_empty low high) sum
    → KeepsSides (record { low = low; high = high }) sum
kept_sides None high sum h = record { low = h.low; high = h.high }
kept_sides (Some low) None sum h = record { low = h.low; high = h.high }
kept_sides (Some low) (Some high) sum h = by_lt_z high low
    (λ less. absurd (rw (is_less high low less) at h))
    (λ more. let k = rw (not_less low high more) at h in record { low = k.low; high = k.high })
  where
    is_less : (a b : ℤ) → a <ℤ b → int_lt a b ≡ true
    is_less a b h = grind (arith, ints)

    not_less : (a b : ℤ) → a ≤ℤ b → int_lt b a ≡ false
    not_less a b h = grind (arith, ints)

pub is_narrower : (row : Row) (area : List Interval) (g : ℕ)
    → IsNarrower row (rounded_by g row area)
is_narrower row area g sum h = elim (cases_lt g 2) [
  | inl less ↦ let k = rw (lt-ltb g 2 less) at h in record { low = k.low; high = k.high }
  | inr more ↦
      let k = kept_sides _ _ sum (rw (le-ltb g 2 more) at h) in
      record {
        low = low_raised g (least_sum row.terms area) sum row.low (omega (arith, more)) k.low;
        high = high_lowered g (least_sum row.terms area) sum row.high (omega (arith, more)) k.high;
      }
]
