-- Each box below the root has one list of changes, and a list spells one box.
use Rattle.std.proofs.Common.{◌≡◌, ◌≢◌, ◌⊎◌, inl, inr, ℤ, pos, negsuc, ℕ, suc, zero, ◌+◌, ◌<◌, ◌≤◌, List, [], ◌∷◌, ◌++◌, length, refl, sym, ap, ◌∙◌, subst, arith}
use Rattle.std.proofs.lemmas.Bool.{cases_eq}
use Rattle.std.proofs.lemmas.Int.{ints}
use Rattle.std.proofs.lemmas.List.{ext_get_or}
use Rattle.ug_rows.specs.declared.area.Interval.{Interval}
use Rattle.ug_rows.specs.Boxes.{IsBelow, IsClosedWithin, interval_at, no_interval}
use Rattle.ug_nodes.specs.declared.change.Change.{Change}
use Rattle.ug_nodes.specs.Changes.{IsRising, IsListed, AreChangesOf, IsFirstBad, Tell, Spells, change_at, change_bounds}
use Rattle.ug_nodes.specs.Steps.{IsToldTo, change_with}
use Rattle.ug_nodes.proofs.Steps.{none_told, same_told, other_told}

-- what describes all columns describes the box
pub told : (root area : List Interval) (changes : List Change) → length area ≡ length root → IsToldTo (length root) root area changes → Tell root changes area
told root area changes width t = record { width = width; each = t.each; changed = t.changed; kept = t.kept }

-- a change that a box below the root describes is one of it
valid : (root area : List Interval) (changes : List Change) → Tell root changes area → IsBelow area root → AreChangesOf root changes
valid root area changes t b k h =
    let c = change_at changes k in
    let is : interval_at area c.column ≡ change_bounds c = t.changed k h in
    let n = b.each c.column (t.each k h).there in
    record {
      differs = t.each k h;
      within = subst (λ s. IsClosedWithin s (interval_at root c.column)) is (record {
        low = n.low;
        high = n.high;
        some = n.open_ (λ e. (t.each k h).other (sym is ∙ e));
      });
    }

pub spelled : (root area : List Interval) (changes : List Change) → Tell root changes area → IsBelow area root → Spells root changes area
spelled root area changes t b = record { valid = valid root area changes t b; told = t }

-- two whole numbers are the same or not
cases_eq_z : (a b : ℤ) → (a ≡ b) ⊎ (a ≢ b)
cases_eq_z (pos a) (pos b) = elim (cases_eq a b) [ inl e ↦ inl (ap pos e) | inr ne ↦ inr (λ e. ne (omega (arith, ints, e))) ]
cases_eq_z (negsuc a) (negsuc b) = elim (cases_eq a b) [ inl e ↦ inl (ap negsuc e) | inr ne ↦ inr (λ e. ne (omega (arith, ints, e))) ]
cases_eq_z (pos a) (negsuc b) = inr (λ e. omega (arith, ints, e))
cases_eq_z (negsuc a) (pos b) = inr (λ e. omega (arith, ints, e))

-- two intervals are the same or not
pub same_bounds : (a b : Interval) → a.low ≡ b.low → a.high ≡ b.high → a ≡ b
same_bounds a b e h = subst (λ n. a ≡ record { low = b.low; high = n }) h (subst (λ n. a ≡ record { low = n; high = a.high }) e refl)

same_or_not : (a b : Interval) → (a ≡ b) ⊎ (a ≢ b)
same_or_not a b = elim (cases_eq_z a.low b.low) [
  | inr ne ↦ inr (λ e. ne (ap (λ (s : Interval). s.low) e))
  | inl e ↦ elim (cases_eq_z a.high b.high) [
    | inr ne ↦ inr (λ f. ne (ap (λ (s : Interval). s.high) f))
    | inl f ↦ inl (same_bounds a b e f)
  ]
]

-- some list describes the first n columns
some_told : (root area : List Interval) (n : ℕ) → n ≤ length root → (changes : List Change) × IsToldTo n root area changes
some_told root area zero h = ([], none_told root area)
some_told root area (suc n) h =
    let before = some_told root area n (omega arith) in
    subst (λ m. (changes : List Change) × IsToldTo m root area changes) {x = n + 1} (omega arith)
    (elim (same_or_not (interval_at area n) (interval_at root n)) as (λ _. (changes : List Change) × IsToldTo (n + 1) root area changes) [
      | inl e ↦ (before.0, same_told n root area before.0 before.1 e)
      | inr ne ↦ (before.0 ++ change_with n (interval_at area n) ∷ [], other_told n root area before.0 before.1 (omega arith) ne)
    ])

pub some_list : (root area : List Interval) → IsBelow area root → (changes : List Change) × IsRising changes × Spells root changes area
some_list root area b =
    let t = some_told root area (length root) (omega arith) in
    (t.0, t.1.rising, spelled root area t.0 (told root area t.0 b.width t.1) b)

-- a column is named or not
pub listed_or_not : (changes : List Change) (j : ℕ) → IsListed changes j ⊎ (IsListed changes j → ⊥)
listed_or_not [] j = inr (λ n. absurd (omega (arith, n.1)))
listed_or_not (c ∷ changes) j = elim (cases_eq c.column j) [
  | inl e ↦ inl (0, omega arith, e)
  | inr ne ↦ elim (listed_or_not changes j) [
    | inl n ↦ inl (suc n.0, omega (arith, n.1), n.2)
    | inr not ↦ inr (λ n. listed_later c changes j ne not n.0 n.1 n.2)
  ]
]
  where
    listed_later : (c : Change) (changes : List Change) (j : ℕ) → c.column ≢ j → (IsListed changes j → ⊥)
        → (k : ℕ) → k < length (c ∷ changes) → (change_at (c ∷ changes) k).column ≡ j → ⊥
    listed_later c changes j ne not zero h e = ne e
    listed_later c changes j ne not (suc k) h e = not (k, omega (arith, h), e)

-- a list describes one box
pub one_told : (root area other : List Interval) (changes : List Change) → Tell root changes area → Tell root changes other → area ≡ other
one_told root area other changes s t = ext_get_or no_interval area other (s.width ∙ sym t.width) (λ j h. elim (listed_or_not changes j) [
  | inl n ↦ subst (λ m. interval_at area m ≡ interval_at other m) n.2 (s.changed n.0 n.1 ∙ sym (t.changed n.0 n.1))
  | inr not ↦
      let there = subst (λ m. j < m) s.width h in
      s.kept j there not ∙ sym (t.kept j there not)
])

-- a list spells one box
pub one_box : (root area other : List Interval) (changes : List Change) → Spells root changes area → Spells root changes other → area ≡ other
one_box root area other changes s t = one_told root area other changes s.told t.told

-- two changes of one column with the same bounds are the same
same_change : (a b : Change) → a.column ≡ b.column → change_bounds a ≡ change_bounds b → a ≡ b
same_change a b e h =
    let low : a.low ≡ b.low = ap (λ (s : Interval). s.low) h in
    let high : a.high ≡ b.high = ap (λ (s : Interval). s.high) h in
    subst (λ n. a ≡ record { column = b.column; low = b.low; high = n }) high
    (subst (λ n. a ≡ record { column = b.column; low = n; high = a.high }) low
    (subst (λ n. a ≡ record { column = n; low = a.low; high = a.high }) e refl))

-- no first bad change stands among those that spell a box
pub never_bad : (root area : List Interval) (changes : List Change) (column : ℕ) → Spells root changes area → IsFirstBad root changes column → ⊥
never_bad root area changes column s b = b.bad (s.valid b.at b.there)

-- the change is one of the list
abbrev IsAmong : List Change → Change → Type 0
IsAmong changes c = (k : ℕ) × (k < length changes) × (change_at changes k ≡ c)

-- each change of the one list is one of the other
abbrev AreAmong : List Change → List Change → Type 0
AreAmong xs ys = (k : ℕ) → k < length xs → IsAmong ys (change_at xs k)

-- a change that a box is described by is described by each list that describes the box
are_among : (root area : List Interval) (changes other : List Change) → Tell root changes area → Tell root other area → AreAmong changes other
are_among root area changes other s t k h =
    let c = change_at changes k in
    elim (listed_or_not other c.column) [
      | inl n ↦ (
        n.0,
        n.1,
        same_change (change_at other n.0) c n.2
            (sym (t.changed n.0 n.1) ∙ (ap (λ j. interval_at area j) n.2 ∙ s.changed k h)),
      )
      | inr not ↦ absurd ((s.each k h).other (sym (s.changed k h) ∙ t.kept c.column (s.each k h).there not))
    ]

-- of rising lists the later part rises
pub rising_rest : (x : Change) (xs : List Change) → IsRising (x ∷ xs) → IsRising xs
rising_rest x xs r i k a b = r (suc i) (suc k) (omega arith) (omega arith)

-- a change of the later part is of a later column
pub later : (x : Change) (xs : List Change) → IsRising (x ∷ xs) → (k : ℕ) → k < length xs → x.column < (change_at xs k).column
later x xs r k h = r 0 (suc k) (omega arith) (omega arith)

-- the first changes of two such lists are the same
first_same : (x y : Change) (xs ys : List Change) → IsRising (x ∷ xs) → IsRising (y ∷ ys) → IsAmong (y ∷ ys) x → IsAmong (x ∷ xs) y → x ≡ y
first_same x y xs ys rx ry (zero, h, e) b = sym e
first_same x y xs ys rx ry (suc k, h, e) (zero, m, f) = f
first_same x y xs ys rx ry (suc k, h, e) (suc j, m, f) =
    let after : y.column < x.column = subst (λ (c : Change). y.column < c.column) e (later y ys ry k (omega (arith, h))) in
    let before : x.column < y.column = subst (λ (c : Change). x.column < c.column) f (later x xs rx j (omega (arith, m))) in
    absurd (omega (arith, after, before))

-- and so are the rests among each other
rest_among : (x : Change) (xs ys : List Change) → IsRising (x ∷ xs) → AreAmong (x ∷ xs) (x ∷ ys) → AreAmong xs ys
rest_among x xs ys rx a k h = in_rest (a (suc k) (omega (arith, h)))
  where
    in_rest : IsAmong (x ∷ ys) (change_at xs k) → IsAmong ys (change_at xs k)
    in_rest (zero, m, e) = absurd (omega (arith, later x xs rx k h, ap (λ (c : Change). c.column) e))
    in_rest (suc j, m, e) = (j, omega (arith, m), e)

-- so two rising lists with the same changes are the same
same_rising : (xs ys : List Change) → IsRising xs → IsRising ys → AreAmong xs ys → AreAmong ys xs → xs ≡ ys
same_rising [] [] rx ry a b = refl
same_rising [] (y ∷ ys) rx ry a b = let n = b 0 (omega arith) in absurd (omega (arith, n.1))
same_rising (x ∷ xs) [] rx ry a b = let n = a 0 (omega arith) in absurd (omega (arith, n.1))
same_rising (x ∷ xs) (y ∷ ys) rx ry a b =
    let e : x ≡ y = first_same x y xs ys rx ry (a 0 (omega arith)) (b 0 (omega arith)) in
    let ry' : IsRising (x ∷ ys) = subst (λ z. IsRising (z ∷ ys)) (sym e) ry in
    let a' : AreAmong (x ∷ xs) (x ∷ ys) = subst (λ z. AreAmong (x ∷ xs) (z ∷ ys)) (sym e) a in
    let b' : AreAmong (x ∷ ys) (x ∷ xs) = subst (λ z. AreAmong (z ∷ ys) (x ∷ xs)) (sym e) b in
    subst (λ z. x ∷ xs ≡ z ∷ ys) e
    (ap (λ zs. x ∷ zs) (same_rising xs ys (rising_rest x xs rx) (rising_rest x ys ry') (rest_among x xs ys rx a') (rest_among x ys xs ry' b')))

-- a box is described by one rising list
pub same_list : (root area : List Interval) (changes other : List Change) → IsRising changes → IsRising other
    → Tell root changes area → Tell root other area → changes ≡ other
same_list root area changes other r q s t =
    same_rising changes other r q (are_among root area changes other s t) (are_among root area other changes t s)

-- and spelled by one
pub one_list : (root area : List Interval) (changes other : List Change) → IsRising changes → IsRising other
    → Spells root changes area → Spells root other area → changes ≡ other
one_list root area changes other r q s t = same_list root area changes other r q s.told t.told
