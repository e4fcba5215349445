-- Which columns fit, as one change more is passed.
use Rattle.std.proofs.Common.{◌≡◌, inl, inr, ℕ, ◌+◌, ◌<◌, ◌≤◌, List, length, refl, sym, ap, ◌∙◌, subst, arith}
use Rattle.std.specs.Prelude.{Option, Some, None, MatchOption}
use Rattle.std.proofs.lemmas.Bool.{cases_eq, cases_lt, cases_order}
use Rattle.std.proofs.lemmas.Int.{ints}
use Rattle.ug_rows.specs.declared.area.Interval.{Interval}
use Rattle.ug_rows.specs.Boxes.{IsNarrower, IsClosedWithin, interval_at}
use Rattle.ug_rows.proofs.AreaLemmas.{narrower_same, narrower_within}
use Rattle.ug_nodes.specs.declared.change.Change.{Change}
use Rattle.ug_nodes.specs.Changes.{IsRising, IsListed, AreChangesOf, IsChangeOf, area_by, change_at, change_bounds}
use Rattle.ug_nodes.specs.Outside.{ColumnFits, SpellBelow, IsFirstOutside}
use Rattle.ug_nodes.specs.Steps.{ArePassed}
use Rattle.ug_nodes.proofs.Lists.{same_bounds}
use Rattle.ug_nodes.proofs.Areas.{area_by_width, area_by_kept, area_by_changed}

-- the columns of a rising list from a change on are at least this change's
rest_above : (xs : List Change) (i k : ℕ) → IsRising xs → i ≤ k → k < length xs → (change_at xs i).column ≤ (change_at xs k).column
rest_above xs i k rising le h = elim (cases_eq i k) [
  | inl same ↦ subst (λ m. (change_at xs i).column ≤ (change_at xs m).column) same (omega arith)
  | inr ne ↦ omega (arith, rising i k (omega (arith, ne)) h)
]

-- a column that neither list has fits
free_fits : (root : List Interval) (told changes : List Change) (j : ℕ) → (IsListed changes j → ⊥) → (IsListed told j → ⊥)
    → ColumnFits root told changes j
free_fits root told changes j free free_told = record {
  valid = λ k h e. absurd (free (k, h, e));
  narrower = λ h. narrower_same _ _ (area_by_kept root changes j free ∙ sym (area_by_kept root told j free_told));
}

-- a column behind the first ones of a list and before the others is not listed
not_listed : (xs : List Change) (c b m j : ℕ) → ((k : ℕ) → k < c → (change_at xs k).column < b)
    → ((k : ℕ) → c ≤ k → k < length xs → m ≤ (change_at xs k).column) → b ≤ j → j < m → IsListed xs j → ⊥
not_listed xs c b m j before behind low high (k, there, e) = elim (cases_lt k c) [
  | inl lt ↦ let h = before k lt in omega (arith, h, e)
  | inr le ↦ let h = behind k le there in omega (arith, h, e)
]

-- so each column fits up to one that no later change is before
fit_up_to : (root : List Interval) (told changes : List Change) (i n m : ℕ) → ArePassed root told changes i n
    → ((k : ℕ) → i ≤ k → k < length changes → m ≤ (change_at changes k).column)
    → ((k : ℕ) → n ≤ k → k < length told → m ≤ (change_at told k).column)
    → (j : ℕ) → j < m → ColumnFits root told changes j
fit_up_to root told changes i n m p above above_told j h = elim (cases_lt j p.bound) [
  | inl lt ↦ p.fit j lt
  | inr le ↦ free_fits root told changes j (not_listed changes i p.bound m j p.first above le h)
      (not_listed told n p.bound m j p.first_told above_told le h)
]

-- before any change is passed
pub none_passed : (root : List Interval) (told changes : List Change) → ArePassed root told changes 0 0
none_passed root told changes = record {
  bound = 0;
  fit = λ j h. absurd (omega arith);
  first = λ k h. absurd (omega arith);
  later = λ k le h. omega arith;
  first_told = λ k h. absurd (omega arith);
  later_told = λ k le h. omega arith;
}

-- a given change that is not listed: the root's bounds are not within those given
told_alone : (root : List Interval) (told changes : List Change) (n : ℕ) → IsRising told → AreChangesOf root told → n < length told
    → (IsListed changes (change_at told n).column → ⊥) → ColumnFits root told changes (change_at told n).column → ⊥
told_alone root told changes n rising valid there free f =
    let t = change_at told n in
    let c = valid n there in
    let narrow : IsNarrower (interval_at root t.column) (change_bounds t) =
    subst (λ s. IsNarrower s (change_bounds t)) (area_by_kept root changes t.column free)
    (subst (λ s. IsNarrower (interval_at (area_by root changes) t.column) s) (area_by_changed root told n rising there c.differs.there)
    (f.narrower c.differs.there)) in
    c.differs.other (same_bounds (change_bounds t) (interval_at root t.column)
    (omega (arith, ints, c.within.low, narrow.low)) (omega (arith, ints, c.within.high, narrow.high)))

-- the next given change is before each change that is left
pub told_before : (root : List Interval) (told changes : List Change) (i n : ℕ) → IsRising told → AreChangesOf root told
    → ArePassed root told changes i n → n < length told
    → ((k : ℕ) → i ≤ k → k < length changes → (change_at told n).column < (change_at changes k).column)
    → IsFirstOutside root told changes (change_at told n).column
told_before root told changes i n rising valid p there above = record {
  outside = told_alone root told changes n rising valid there
      (not_listed changes i p.bound ((change_at told n).column + 1) (change_at told n).column p.first
      (λ k le h. let a = above k le h in omega (arith, a)) (p.later_told n (omega arith) there) (omega arith));
  before = fit_up_to root told changes i n (change_at told n).column p
      (λ k le h. let a = above k le h in omega (arith, a)) (λ k le h. rest_above told n k rising le h);
}

pub next_told_before : (root : List Interval) (told changes : List Change) (i n : ℕ) → IsRising told → IsRising changes
    → AreChangesOf root told → ArePassed root told changes i n → n < length told
    → (change_at told n).column < (change_at changes i).column → IsFirstOutside root told changes (change_at told n).column
next_told_before root told changes i n rising changes_rise valid p there lt =
    told_before root told changes i n rising valid p there
    (λ k le h. let a = rest_above changes i k changes_rise le h in omega (arith, a, lt))

-- a change that does not fit, if no given one is before it
pub not_passed : (root : List Interval) (told changes : List Change) (i n : ℕ) → IsRising told → IsRising changes
    → ArePassed root told changes i n → i < length changes
    → (n < length told → (change_at changes i).column ≤ (change_at told n).column)
    → (ColumnFits root told changes (change_at changes i).column → ⊥) → IsFirstOutside root told changes (change_at changes i).column
not_passed root told changes i n rising changes_rise p there behind bad = record {
  outside = bad;
  before = fit_up_to root told changes i n (change_at changes i).column p (λ k le h. rest_above changes i k changes_rise le h)
      (λ k le h. let a = rest_above told n k rising le h in let b = behind (omega arith) in omega (arith, a, b));
}

-- it belongs to no box below the root
pub change_unfit : (root : List Interval) (told changes : List Change) (i : ℕ) → i < length changes
    → (IsChangeOf root (change_at changes i) → ⊥) → ColumnFits root told changes (change_at changes i).column → ⊥
change_unfit root told changes i there bad f = bad (f.valid i there refl)

-- or its bounds are not within those given
pub bounds_unfit : (root : List Interval) (told changes : List Change) (i n : ℕ) → IsRising told → IsRising changes
    → AreChangesOf root told → i < length changes → n < length told → (change_at told n).column ≡ (change_at changes i).column
    → (IsChangeOf root (change_at changes i) × IsClosedWithin (change_bounds (change_at changes i)) (change_bounds (change_at told n)) → ⊥)
    → ColumnFits root told changes (change_at changes i).column → ⊥
bounds_unfit root told changes i n rising changes_rise valid there told_there same bad f =
    let c = change_at changes i in
    let is = f.valid i there refl in
    let narrow : IsNarrower (change_bounds c) (change_bounds (change_at told n)) =
    subst (λ s. IsNarrower s (change_bounds (change_at told n))) (area_by_changed root changes i changes_rise there is.differs.there)
    (subst (λ s. IsNarrower (interval_at (area_by root changes) c.column) s)
    (ap (λ j. interval_at (area_by root told) j) (sym same) ∙ area_by_changed root told n rising told_there (valid n told_there).differs.there)
    (f.narrower is.differs.there)) in
    bad (is, record { low = narrow.low; high = narrow.high; some = is.within.some })

-- the change at a column is the one that it has
only_valid : (root : List Interval) (changes : List Change) (i k : ℕ) → IsRising changes → i < length changes → k < length changes
    → (change_at changes k).column ≡ (change_at changes i).column → IsChangeOf root (change_at changes i) → IsChangeOf root (change_at changes k)
only_valid root changes i k rising there h e is = elim (cases_order i k) [
  | inl same ↦ subst (λ m. IsChangeOf root (change_at changes m)) same is
  | inr (inl lt) ↦ let a = rising i k lt h in absurd (omega (arith, a, e))
  | inr (inr gt) ↦ let a = rising k i gt there in absurd (omega (arith, a, e))
]

-- a change fits whose column no given change has
pub alone_fits : (root : List Interval) (told changes : List Change) (i : ℕ) → IsRising changes → i < length changes
    → IsChangeOf root (change_at changes i) → (IsListed told (change_at changes i).column → ⊥)
    → ColumnFits root told changes (change_at changes i).column
alone_fits root told changes i rising there is free =
    let c = change_at changes i in
    record {
      valid = λ k h e. only_valid root changes i k rising there h e is;
      narrower = λ h.
          subst (λ s. IsNarrower s (interval_at (area_by root told) c.column)) (sym (area_by_changed root changes i rising there h))
          (subst (λ s. IsNarrower (change_bounds c) s) (sym (area_by_kept root told c.column free)) (narrower_within _ _ is.within));
    }

-- and one whose bounds are within those given of its column
pub both_fit : (root : List Interval) (told changes : List Change) (i n : ℕ) → IsRising told → IsRising changes
    → AreChangesOf root told → i < length changes → n < length told → (change_at told n).column ≡ (change_at changes i).column
    → IsChangeOf root (change_at changes i) → IsClosedWithin (change_bounds (change_at changes i)) (change_bounds (change_at told n))
    → ColumnFits root told changes (change_at changes i).column
both_fit root told changes i n rising changes_rise valid there told_there same is within =
    let c = change_at changes i in
    let as_told : interval_at (area_by root told) c.column ≡ change_bounds (change_at told n) =
    ap (λ j. interval_at (area_by root told) j) (sym same) ∙ area_by_changed root told n rising told_there (valid n told_there).differs.there in
    record {
      valid = λ k h e. only_valid root changes i k changes_rise there h e is;
      narrower = λ h.
          subst (λ s. IsNarrower s (interval_at (area_by root told) c.column)) (sym (area_by_changed root changes i changes_rise there h))
          (subst (λ s. IsNarrower (change_bounds c) s) (sym as_told) (narrower_within _ _ within));
    }

-- once its column fits, the change is passed, and those given up to its column
one_passed : (root : List Interval) (told changes : List Change) (i n n' : ℕ) → IsRising told → IsRising changes
    → ArePassed root told changes i n → i < length changes
    → (n < length told → (change_at changes i).column ≤ (change_at told n).column)
    → ((k : ℕ) → k < n' → (change_at told k).column < (change_at changes i).column + 1)
    → ((k : ℕ) → n' ≤ k → k < length told → (change_at changes i).column < (change_at told k).column)
    → ColumnFits root told changes (change_at changes i).column → ArePassed root told changes (i + 1) n'
one_passed root told changes i n n' rising changes_rise p there behind first_told later_told f = record {
  bound = (change_at changes i).column + 1;
  fit = λ j h. elim (cases_eq j (change_at changes i).column) [
    | inl same ↦ subst (λ m. ColumnFits root told changes m) (sym same) f
    | inr ne ↦ fit_up_to root told changes i n (change_at changes i).column p (λ k le h'. rest_above changes i k changes_rise le h')
        (λ k le h'. let a = rest_above told n k rising le h' in let b = behind (omega arith) in omega (arith, a, b)) j (omega (arith, ne))
  ];
  first = λ k h. elim (cases_eq k i) [
    | inl same ↦ subst (λ m. (change_at changes m).column < (change_at changes i).column + 1) (sym same) (omega arith)
    | inr ne ↦ let a = p.first k (omega (arith, ne)) in let b = p.later i (omega arith) there in omega (arith, a, b)
  ];
  later = λ k le h. let a = changes_rise i k (omega arith) h in omega (arith, a);
  first_told = first_told;
  later_told = λ k le h. let a = later_told k le h in omega (arith, a);
}

-- a change before those given that are left
pub alone_passed : (root : List Interval) (told changes : List Change) (i n : ℕ) → IsRising told → IsRising changes
    → ArePassed root told changes i n → i < length changes
    → (n < length told → (change_at changes i).column < (change_at told n).column)
    → IsChangeOf root (change_at changes i) → ArePassed root told changes (i + 1) n
alone_passed root told changes i n rising changes_rise p there behind is =
    let later_told : (k : ℕ) → n ≤ k → k < length told → (change_at changes i).column < (change_at told k).column =
    λ k le h. let a = rest_above told n k rising le h in let b = behind (omega arith) in omega (arith, a, b) in
    one_passed root told changes i n n rising changes_rise p there (λ h. let b = behind h in omega (arith, b))
    (λ k h. let a = p.first_told k h in let b = p.later i (omega arith) there in omega (arith, a, b)) later_told
    (alone_fits root told changes i changes_rise there is
    (not_listed told n p.bound ((change_at changes i).column + 1) (change_at changes i).column p.first_told
    (λ k le h. let a = later_told k le h in omega (arith, a)) (p.later i (omega arith) there) (omega arith)))

-- a change of the column of the next given
pub both_passed : (root : List Interval) (told changes : List Change) (i n : ℕ) → IsRising told → IsRising changes
    → AreChangesOf root told → ArePassed root told changes i n → i < length changes → n < length told
    → (change_at told n).column ≡ (change_at changes i).column
    → IsChangeOf root (change_at changes i) × IsClosedWithin (change_bounds (change_at changes i)) (change_bounds (change_at told n))
    → ArePassed root told changes (i + 1) (n + 1)
both_passed root told changes i n rising changes_rise valid p there told_there same is =
    one_passed root told changes i n (n + 1) rising changes_rise p there (λ h. omega (arith, same))
    (λ k h. let a = rest_above told k n rising (omega arith) told_there in omega (arith, a, same))
    (λ k le h. let a = rising n k (omega arith) h in omega (arith, a, same))
    (both_fit root told changes i n rising changes_rise valid there told_there same is.0 is.1)

-- if changes are given that are left, the next is the first that does not fit
pub told_is_left : (root : List Interval) (told changes : List Change) (n : ℕ) → IsRising told → AreChangesOf root told
    → ArePassed root told changes (length changes) n → n < length told → IsFirstOutside root told changes (change_at told n).column
told_is_left root told changes n rising valid p there =
    told_before root told changes (length changes) n rising valid p there (λ k le h. absurd (omega arith))

-- if none is, the changes spell a box below
pub all_passed : (root : List Interval) (told changes : List Change) (n : ℕ) → ArePassed root told changes (length changes) n
    → length told ≤ n → SpellBelow root told changes
all_passed root told changes n p none =
    let fit : (j : ℕ) → ColumnFits root told changes j =
    λ j. fit_up_to root told changes (length changes) n (j + 1) p (λ k le h. absurd (omega arith)) (λ k le h. absurd (omega arith)) j (omega arith) in
    record {
      valid = λ k h. (fit (change_at changes k).column).valid k h refl;
      below = record {
        width = area_by_width root changes ∙ sym (area_by_width root told);
        each = λ j h. (fit j).narrower (subst (λ w. j < w) (area_by_width root told) h);
      };
    }

-- after all changes, one of those given is left or none is
pub ended : (root : List Interval) (told changes : List Change) (n : ℕ) (r : Option ℕ) → IsRising told → AreChangesOf root told
    → ArePassed root told changes (length changes) n
    → MatchOption r (length told ≤ n) (λ column. (n < length told) × ((change_at told n).column ≡ column))
    → MatchOption r (SpellBelow root told changes) (IsFirstOutside root told changes)
ended root told changes n None rising valid p h = all_passed root told changes n p h
ended root told changes n (Some column) rising valid p h =
    subst (λ j. IsFirstOutside root told changes j) h.1 (told_is_left root told changes n rising valid p h.0)
