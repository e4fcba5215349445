-- The box that changes make of the root's, column by column.
use Rattle.std.proofs.Common.{◌≡◌, ◌≢◌, inl, inr, ℕ, suc, zero, ◌+◌, ◌<◌, List, [], ◌∷◌, ◌++◌, length, set, take, refl, sym, ◌∙◌, subst, arith}
use Rattle.std.proofs.lemmas.List.{get_or-set_same, get_or-set_other, length-set, take_more}
use Rattle.ug_rows.specs.declared.area.Interval.{Interval}
use Rattle.ug_rows.specs.Boxes.{IsBelow, IsNarrower, interval_at, no_interval}
use Rattle.ug_rows.proofs.AreaLemmas.{narrower_same, narrower_within}
use Rattle.ug_nodes.specs.declared.change.Change.{Change}
use Rattle.ug_nodes.specs.Changes.{IsRising, IsListed, IsDifference, AreChangesOf, AreThere, Spells, Tell, area_by, change_at, change_bounds, no_change}
use Rattle.ug_nodes.proofs.Lists.{never_bad, listed_or_not, one_box, rising_rest, later}

-- the box is as wide as the root's
pub area_by_width : (root : List Interval) (changes : List Change) → length (area_by root changes) ≡ length root
area_by_width root [] = refl
area_by_width root (c ∷ cs) =
    area_by_width (set root c.column (change_bounds c)) cs ∙ length-set root c.column (change_bounds c)

-- a change more is written into its column
area_by_push : (root : List Interval) (changes : List Change) (c : Change)
    → area_by root (changes ++ c ∷ []) ≡ set (area_by root changes) c.column (change_bounds c)
area_by_push root [] c = refl
area_by_push root (d ∷ cs) c = area_by_push (set root d.column (change_bounds d)) cs c

pub area_by_more : (root : List Interval) (changes : List Change) (i : ℕ) → i < length changes
    → area_by root (take (i + 1) changes)
    ≡ set (area_by root (take i changes)) (change_at changes i).column (change_bounds (change_at changes i))
area_by_more root changes i h = rw (take_more changes i no_change h) (area_by_push root (take i changes) (change_at changes i))

-- a column that no change lists has the root's bounds
pub area_by_kept : (root : List Interval) (changes : List Change) (j : ℕ) → (IsListed changes j → ⊥)
    → interval_at (area_by root changes) j ≡ interval_at root j
area_by_kept root [] j free = refl
area_by_kept root (c ∷ cs) j free =
    let other : j ≢ c.column = λ e. free (0, omega arith, sym e) in
    area_by_kept (set root c.column (change_bounds c)) cs j (λ n. free (suc n.0, omega (arith, n.1), n.2))
    ∙ get_or-set_other root c.column j (change_bounds c) no_interval other

-- a column that a change of a rising list lists has the bounds of this change
pub area_by_changed : (root : List Interval) (changes : List Change) (k : ℕ) → IsRising changes → k < length changes
    → (change_at changes k).column < length root
    → interval_at (area_by root changes) (change_at changes k).column ≡ change_bounds (change_at changes k)
area_by_changed root [] k rising h there = absurd (omega arith)
area_by_changed root (c ∷ cs) zero rising h there =
    area_by_kept (set root c.column (change_bounds c)) cs c.column (λ n. absurd (omega (arith, n.2, later c cs rising n.0 n.1)))
    ∙ get_or-set_same root c.column (change_bounds c) no_interval there
area_by_changed root (c ∷ cs) (suc k) rising h there =
    area_by_changed (set root c.column (change_bounds c)) cs k (rising_rest c cs rising) (omega arith)
    (subst (λ n. (change_at cs k).column < n) (sym (length-set root c.column (change_bounds c))) there)

-- rising changes that are differences report the box that they make
pub area_told : (root : List Interval) (changes : List Change) → IsRising changes
    → ((k : ℕ) → k < length changes → IsDifference root (change_at changes k)) → Tell root changes (area_by root changes)
area_told root changes rising each = record {
  width = area_by_width root changes;
  each = each;
  changed = λ k h. area_by_changed root changes k rising h (each k h).there;
  kept = λ j h free. area_by_kept root changes j free;
}

-- changes that are those of a box below the root spell the box that they make
pub area_spelled : (root : List Interval) (changes : List Change) → IsRising changes → AreChangesOf root changes
    → Spells root changes (area_by root changes)
area_spelled root changes rising valid = record {
  valid = valid;
  told = area_told root changes rising (λ k h. (valid k h).differs);
}

-- their columns are there
pub columns_there : (root : List Interval) (changes : List Change) → AreChangesOf root changes → AreThere (length root) changes
columns_there root changes valid k h = (valid k h).differs.there

-- and no other
pub area_only : (root area : List Interval) (changes : List Change) → IsRising changes → Spells root changes area
    → area ≡ area_by root changes
area_only root area changes rising s =
    one_box root area (area_by root changes) changes s (area_spelled root changes rising s.valid)

-- it is below the root
pub area_below : (root : List Interval) (changes : List Change) → IsRising changes → AreChangesOf root changes
    → IsBelow (area_by root changes) root
area_below root changes rising valid = record {
  width = area_by_width root changes;
  each = λ j h. elim (listed_or_not changes j) [
    | inr free ↦ narrower_same _ _ (area_by_kept root changes j free)
    | inl n ↦ at_change j n
  ];
}
  where
    at_change : (j : ℕ) → IsListed changes j → IsNarrower (interval_at (area_by root changes) j) (interval_at root j)
    at_change j n =
        let c = valid n.0 n.1 in
        let same = area_by_changed root changes n.0 rising n.1 c.differs.there in
        subst (λ m. IsNarrower (interval_at (area_by root changes) m) (interval_at root m)) n.2
        (subst (λ s. IsNarrower s (interval_at root (change_at changes n.0).column)) (sym same) (narrower_within _ _ c.within))

pub spelled_below : (root area : List Interval) (changes : List Change) → IsRising changes → Spells root changes area → IsBelow area root
spelled_below root area changes rising s =
    subst (λ a. IsBelow a root) (sym (area_only root area changes rising s)) (area_below root changes rising s.valid)

-- for `area_of`
pub ruleset made = (never_bad, area_only, spelled_below)

-- for `changed`
pub ruleset written = (area_spelled, columns_there)
