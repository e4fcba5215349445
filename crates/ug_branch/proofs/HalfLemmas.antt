-- The two branches of a box.
use Rattle.std.proofs.Common.{◌≡◌, ℕ, ℤ, pos, ◌+ℤ◌, ◌*ℤ◌, ◌<◌, ◌≤ℤ◌, ◌<ℤ◌, ◌⊎◌, inl, inr, List, length, set, refl, sym, ◌∙◌, subst, arith}
use Rattle.std.proofs.lemmas.Int.{ints, by_lt_z}
use Rattle.std.proofs.lemmas.Bool.{cases_eq}
use Rattle.std.proofs.lemmas.List.{get_or-set_same, get_or-set_other, length-set}
use Rattle.ug_rows.specs.declared.area.Interval.{Interval}
use Rattle.ug_rows.specs.Boxes.{IsInside, IsWithin, IsNarrower, IsBelow, interval_at, value_at, no_interval}
use Rattle.ug_rows.proofs.AreaLemmas.{inside_below, narrower_same}
use Rattle.ug_branch.specs.declared.params.Params.{Params}
use Rattle.ug_branch.specs.declared.choice.Branch.{Branch}
use Rattle.ug_branch.proofs.ChoiceLemmas.{is_chosen}
use Rattle.ug_branch.specs.Choices.{IsOpen, IsMiddle, IsBestOf, lower_half, upper_half, AreHalves}

-- the interval that was set
side_there : (area : List Interval) (c : ℕ) (side : Interval) → c < length area → interval_at (set area c side) c ≡ side
side_there area c side k = get_or-set_same area c side no_interval k

-- what holds of the side that was set and of the others holds of each
each_side : (area : List Interval) (c : ℕ) (side : Interval) (P : ℕ → Interval → Type 0) → P c side
    → ((j : ℕ) → j < length area → P j (interval_at area j)) → (j : ℕ) → j < length area → P j (interval_at (set area c side) j)
each_side area c side P here others j k = elim (cases_eq j c) [
  | inl e ↦ subst (λ n. P n (interval_at (set area c side) n)) (sym e)
      (subst (λ s. P c s) (sym (side_there area c side (subst (λ n. n < length area) e k))) here)
  | inr ne ↦ subst (λ s. P j s) (sym (get_or-set_other area c j side no_interval ne)) (others j k)
]

-- a point of the box whose column c is within a side is in the box with that side
inside_side : (area : List Interval) (c : ℕ) (side : Interval) (x : List ℤ) → IsInside area x → IsWithin side (value_at x c) → IsInside (set area c side) x
inside_side area c side x h w = record {
  width = h.width ∙ sym (length-set area c side);
  each = λ j k. each_side area c side (λ n s. IsWithin s (value_at x n)) w h.each j (subst (λ n. j < n) (length-set area c side) k);
}

-- the box with a narrower side is below
below_side : (area : List Interval) (c : ℕ) (side : Interval) → IsNarrower side (interval_at area c) → IsBelow (set area c side) area
below_side area c side n = record {
  width = length-set area c side;
  each = λ j k. each_side area c side (λ m s. IsNarrower s (interval_at area m)) n (λ m _. narrower_same (interval_at area m) (interval_at area m) refl) j k;
}

-- the column's value is within the side that was set
within_side : (area : List Interval) (c : ℕ) (side : Interval) (x : List ℤ) → c < length area → IsInside (set area c side) x → IsWithin side (value_at x c)
within_side area c side x k h =
    subst (λ s. IsWithin s (value_at x c)) (side_there area c side k) (h.each c (subst (λ n. c < n) (sym (length-set area c side)) k))

-- the middle of an open interval is from its low to below its high
middle_low : (low high m : ℤ) → low <ℤ high → (low +ℤ high) <ℤ ((pos 2 *ℤ m) +ℤ pos 2) → low ≤ℤ m
middle_low low high m o h = omega (arith, ints)

middle_high : (low high m : ℤ) → low <ℤ high → (pos 2 *ℤ m) ≤ℤ (low +ℤ high) → m <ℤ high
middle_high low high m o h = omega (arith, ints)

next_is_over : (m v : ℤ) → v ≤ℤ m → (m +ℤ pos 1) ≤ℤ v → ⊥
next_is_over m v h k = omega (arith, ints)

lower_side : (side : Interval) (m : ℤ) → side.low ≤ℤ m → m <ℤ side.high → IsNarrower (record { low = side.low; high = m }) side
lower_side side m a b = record { low = omega (arith, ints); high = omega (arith, ints); open_ = λ _. a }

upper_side : (side : Interval) (m : ℤ) → side.low ≤ℤ m → m <ℤ side.high → IsNarrower (record { low = m +ℤ pos 1; high = side.high }) side
upper_side side m a b = record { low = omega (arith, ints); high = omega (arith, ints); open_ = λ _. omega (arith, ints) }

-- a point of the box is in one of the branches
in_a_half : (area : List Interval) (c : ℕ) (m : ℤ) (x : List ℤ) → c < length area → IsInside area x
    → IsInside (set area c (record { low = (interval_at area c).low; high = m })) x
    ⊎ IsInside (set area c (record { low = m +ℤ pos 1; high = (interval_at area c).high })) x
in_a_half area c m x k h = by_lt_z m (value_at x c)
    (λ above. inr (inside_side area c _ x h (record { low = omega (arith, ints, above); high = (h.each c k).high })))
    (λ below. inl (inside_side area c _ x h (record { low = (h.each c k).low; high = below })))

-- a value after the middle that is at most the high
next_within : (m high : ℤ) → m <ℤ high → (m +ℤ pos 1) ≤ℤ high
next_within m high h = omega (arith, ints)

-- the branches at the middle of an open column
pub are_halves : (area : List Interval) (branch : Branch) → IsOpen area branch.column
    → IsMiddle (interval_at area branch.column) branch.middle → AreHalves area branch
are_halves area branch o m =
    let c = branch.column in
    let side = interval_at area c in
    let low : side.low ≤ℤ branch.middle = middle_low side.low side.high branch.middle o.open_ m.high in
    let high : branch.middle <ℤ side.high = middle_high side.low side.high branch.middle o.open_ m.low in
    let lower : IsBelow (lower_half area branch) area = below_side area c _ (lower_side side branch.middle low high) in
    let upper : IsBelow (upper_half area branch) area = below_side area c _ (upper_side side branch.middle low high) in
    record {
      halves = λ x. (
        (λ h. in_a_half area c branch.middle x o.there h),
        (λ h. elim h [ inl a ↦ inside_below _ area x lower a | inr b ↦ inside_below _ area x upper b ]),
      );
      apart = λ x a b. next_is_over branch.middle (value_at x c)
          (within_side area c _ x o.there a).high (within_side area c _ x o.there b).low;
      lower = lower;
      upper = upper;
      lower_has = subst (λ (s : Interval). s.low ≤ℤ s.high) (sym (side_there area c _ o.there)) low;
      upper_has = subst (λ (s : Interval). s.low ≤ℤ s.high) (sym (side_there area c _ o.there)) (next_within branch.middle side.high high);
    }

-- and so at the middle of the best of all columns
pub best_halves : (params : Params) (area : List Interval) (c : ℕ) (branch : Branch) → IsBestOf params area (length area) c
    → branch.column ≡ c → IsMiddle (interval_at area c) branch.middle → AreHalves area branch
best_halves params area c branch h e m =
    let chosen = is_chosen params area c branch h e m in
    are_halves area branch chosen.open_ chosen.middle
