-- A box that changes make, compared column by column.
use Rattle.std.proofs.Common.{◌≡◌, ◌≢◌, ℕ, ◌+◌, ◌<◌, ◌≤◌, List, length, inl, inr, subst, sym, ◌∙◌, ap, arith}
use Rattle.std.proofs.Math.Nat.{eq-or-lt_of_le}
use Rattle.ug_rows.specs.declared.area.Interval.{Interval}
use Rattle.ug_rows.specs.Boxes.{interval_at}
use Rattle.ug_nodes.specs.declared.change.Change.{Change}
use Rattle.ug_nodes.specs.Changes.{IsListed, IsRising, area_by, change_at, change_bounds}
use Rattle.ug_nodes.proofs.Areas.{area_by_changed, area_by_kept}
use Rattle.ug_desk.specs.Areas.{AreBefore, IsNext, IsNotNext}

-- boxes that differ in one column are not the same
pub one_differs : (a b : List Interval) (k : ℕ) → interval_at a k ≢ interval_at b k → a ≢ b
one_differs a b k ne same = ne (ap (λ (l : List Interval). interval_at l k) same)

-- no change is of a column before the first
pub none_before : (changes : List Change) → AreBefore changes 0 0
none_before changes = record {
  some = omega arith;
  before = λ k h. absurd (omega arith);
  after = λ k _ _. omega arith;
}

-- the column of the next change has its bounds
pub side_changed : (root : List Interval) (changes : List Change) (n j : ℕ) → IsRising changes
    → j < length root → IsNext changes n j
    → interval_at (area_by root changes) j ≡ change_bounds (change_at changes n)
side_changed root changes n j rising there next =
    let is = next.its in
    sym (ap (λ k. interval_at (area_by root changes) k) is)
    ∙ area_by_changed root changes n rising next.some (omega (arith, is))

-- a column that is not that of the next change has the root's bounds
pub side_kept : (root : List Interval) (changes : List Change) (n j : ℕ) → IsRising changes
    → AreBefore changes j n → IsNotNext changes n j
    → interval_at (area_by root changes) j ≡ interval_at root j
side_kept root changes n j rising before other = area_by_kept root changes j free
  where
    below : (k : ℕ) → k < length changes → (change_at changes k).column ≡ j → n ≤ k
    below k there is = grind (arith, before.before k)

    first : (k : ℕ) → k < length changes → (change_at changes k).column ≡ j → n ≤ k → k ≡ n
    first k there is low = grind (arith, before.after n, rising n k)

    free : IsListed changes j → ⊥
    free (k, there, is) =
        let low : n ≤ k = below k there is in
        let some : n < length changes = omega arith in
        let same : k ≡ n = first k there is low in
        other some (subst (λ (i : ℕ). (change_at changes i).column ≡ j) same is)

-- behind its column the next change is passed
pub one_passed : (changes : List Change) (n j : ℕ) → IsRising changes → AreBefore changes j n
    → IsNext changes n j → AreBefore changes (j + 1) (n + 1)
one_passed changes n j rising before next =
    let is = next.its in record {
      some = omega (arith, next.some);
      before = λ k h. elim (eq-or-lt_of_le (let l : k ≤ n = omega arith in l)) [
        | inl same ↦
            let at = ap (λ (i : ℕ). (change_at changes i).column) same in omega (arith, at, is)
        | inr less ↦ let old = before.before k less in omega (arith, old)
      ];
      after = λ k low there.
          let more = rising n k (omega (arith, low)) there in omega (arith, more, is);
    }

-- behind another column none is
pub none_passed : (changes : List Change) (n j : ℕ) → IsRising changes → AreBefore changes j n
    → IsNotNext changes n j → AreBefore changes (j + 1) n
none_passed changes n j rising before other = record {
  some = before.some;
  before = λ k h. let old = before.before k h in omega (arith, old);
  after = λ k low there. elim (eq-or-lt_of_le low) [
    | inl same ↦
        let some : n < length changes = omega (arith, same, there) in
        let ne = other some in
        let least = before.after n (omega arith) some in
        let at = ap (λ (i : ℕ). (change_at changes i).column) same in omega (arith, ne, least, at)
    | inr less ↦
        let some : n < length changes = omega (arith, less, there) in
        let least = before.after n (omega arith) some in
        let more = rising n k less there in omega (arith, least, more)
  ];
}
