-- Boxes within boxes, and what a write to one column does.
use Rattle.std.proofs.Common.{◌≡◌, refl, sym, subst, ◌∙◌, inl, inr, ℕ, ◌<◌, ℤ, ◌≤ℤ◌, ◌<ℤ◌, List, length, set, Bool, true, false, not, T, int_lt, if◌then◌else◌, arith}
use Rattle.std.proofs.lemmas.Int.{ints}
use Rattle.std.proofs.lemmas.Bool.{cases_eq}
use Rattle.std.proofs.lemmas.List.{get_or-set_other, get_or-set_same, length-set}
use Rattle.std.specs.Int.Signed.{lt_z_yes, lt_z_no}
use Rattle.ug_rows.specs.declared.area.Interval.{Interval}
use Rattle.ug_rows.specs.Boxes.{IsBelow, IsClosedWithin, IsInside, IsNonEmpty, IsWithin, interval_at, no_interval, value_at}

-- the inner box is within the outer, and has a point
pub record IsPart (inner outer : List Interval) : Type 0 where
  pub width : length inner ≡ length outer
  pub each : (j : ℕ) → j < length outer → IsClosedWithin (interval_at inner j) (interval_at outer j)

pub part_below : (inner outer : List Interval) → IsPart inner outer → IsBelow inner outer
part_below inner outer p = record {
  width = p.width;
  each = λ j k. record { low = (p.each j k).low; high = (p.each j k).high; open_ = λ _. (p.each j k).some };
}

pub part_nonempty : (inner outer : List Interval) → IsPart inner outer → IsNonEmpty inner
part_nonempty inner outer p = λ j k. (p.each j (omega (arith, p.width))).some

closed_same : (side : Interval) → side.low ≤ℤ side.high → IsClosedWithin side side
closed_same side h = record { low = omega (arith, ints); high = omega (arith, ints); some = h }

pub part_same : (area : List Interval) → IsNonEmpty area → IsPart area area
part_same area n = record { width = refl; each = λ j k. closed_same (interval_at area j) (n j k) }

closed_trans : (a b c : Interval) → IsClosedWithin a b → IsClosedWithin b c → IsClosedWithin a c
closed_trans a b c p q = record { low = omega (arith, ints); high = omega (arith, ints); some = p.some }

pub part_trans : (a b c : List Interval) → IsPart a b → IsPart b c → IsPart a c
part_trans a b c p q = record {
  width = p.width ∙ q.width;
  each = λ j k. closed_trans (interval_at a j) (interval_at b j) (interval_at c j)
      (p.each j (omega (arith, q.width))) (q.each j k);
}

-- a narrower interval in one column
pub part_set : (area : List Interval) (j : ℕ) (side : Interval) → IsNonEmpty area → j < length area
    → IsClosedWithin side (interval_at area j) → IsPart (set area j side) area
part_set area j side n there closed = record {
  width = length-set area j side;
  each = λ k within. elim (cases_eq k j) [
    | inl e ↦
        let at : interval_at (set area j side) j ≡ side = get_or-set_same area j side no_interval there in
        let P : Interval → Type 0 = λ (s : Interval). IsClosedWithin s (interval_at area j) in
        let Q : ℕ → Type 0 = λ (i : ℕ). IsClosedWithin (interval_at (set area j side) i) (interval_at area i) in
        subst Q (sym e) (subst P (sym at) closed)
    | inr ne ↦
        let P : Interval → Type 0 = λ (s : Interval). IsClosedWithin s (interval_at area k) in
        subst P (sym (get_or-set_other area j k side no_interval ne)) (closed_same (interval_at area k) (n k within))
  ];
}

-- a point stays where its value is within the new interval
pub inside_set : (area : List Interval) (x : List ℤ) (j : ℕ) (side : Interval) → IsInside area x
    → j < length area → IsWithin side (value_at x j) → IsInside (set area j side) x
inside_set area x j side i there w = record {
  width = i.width ∙ sym (length-set area j side);
  each = λ k within. elim (cases_eq k j) [
    | inl e ↦
        let at : interval_at (set area j side) j ≡ side = get_or-set_same area j side no_interval there in
        let P : Interval → Type 0 = λ (s : Interval). IsWithin s (value_at x j) in
        let Q : ℕ → Type 0 = λ (i : ℕ). IsWithin (interval_at (set area j side) i) (value_at x i) in
        subst Q (sym e) (subst P (sym at) w)
    | inr ne ↦
        let P : Interval → Type 0 = λ (s : Interval). IsWithin s (value_at x k) in
        subst P (sym (get_or-set_other area j k side no_interval ne))
        (i.each k (omega (arith, length-set area j side)))
  ];
}

pub if_bool : {A : Type 0} (P : A → Type 0) (v : Bool) (x y : A) → (T v → P x) → (T (not v) → P y) → P (if v then x else y)
if_bool P true x y f g = f tt
if_bool P false x y f g = g tt

-- a choice by the order of two numbers
pub if_lt : {A : Type 0} (P : A → Type 0) (a b : ℤ) (x y : A) → (a <ℤ b → P x) → (b ≤ℤ a → P y)
    → P (if int_lt a b then x else y)
if_lt P a b x y f g = if_bool P (int_lt a b) x y (λ t. f (lt_z_yes t)) (λ t. g (lt_z_no t))
