-- The proper prefixes of a line, looked up among lines.
use Rattle.std.proofs.Common.{◌≡◌, ℕ, ◌<◌, Bool, true, false, List, ◌∷◌, length, take, drop, refl, sym, subst, arith}
use Rattle.std.specs.Prelude.{Contains, IsTrue, ◌↔◌}
use Rattle.std.proofs.Math.Seq.{take-append_seam}
use Rattle.std.proofs.lemmas.List.{take-append-drop, length-take-le}
use Rattle.std.proofs.lemmas.List.Folds.{Any-from_list_any, list_any-from_Any}
use Rattle.ug_nodes.specs.declared.name.Name.{Name}
use Rattle.ug_nodes.specs.Lines.{IsAncestor, is_ancestor}
use Rattle.ug_nodes.proofs.LineLemmas.{ancestor_from_begins, ancestor_from_test, ancestor_shorter, test_from_ancestor}
use Rattle.ug_nodes.specs.SortedLines.{HasFront, is_below_any}

-- a proper front of a line leads to a proper ancestor
front_is_ancestor : (line : List Name) (k : ℕ) → k < length line → IsAncestor (take k line) line
front_is_ancestor line k h =
    ancestor_from_begins (take k line) line (drop k line, sym (take-append-drop k line))
    (subst (λ n. n < length line) (sym (length-take-le k line (omega arith))) h)

-- and a proper ancestor is a proper front
ancestor_is_front : (a line : List Name) → IsAncestor a line → take (length a) line ≡ a
ancestor_is_front a line (n, (r, e)) = subst (λ l. take (length a) l ≡ a) (sym e) (take-append_seam a (n ∷ r))

-- if a front is one of the lines, one of them leads to an ancestor
below_from_front : (lines : List (List Name)) (line : List Name) → HasFront lines line → is_below_any lines line ≡ true
below_from_front lines line h =
    let there = h.2 in
    list_any-from_Any (λ front. is_ancestor front line) lines
    (there.0, take h.0 line, there.1, there.2, test_from_ancestor (take h.0 line) line (front_is_ancestor line h.0 h.1))

front_from_below : (lines : List (List Name)) (line : List Name) → is_below_any lines line ≡ true → HasFront lines line
front_from_below lines line h =
    let any = Any-from_list_any (λ front. is_ancestor front line) lines h in
    let above = ancestor_from_test any.1 line any.4 in (
      length any.1,
      ancestor_shorter any.1 line above,
      subst (λ l. Contains lines l) (sym (ancestor_is_front any.1 line above)) (any.0, any.2, any.3),
    )

-- so what is true where a front is one of the lines is the test
pub below_test : (lines : List (List Name)) (line : List Name) (r : Bool) → IsTrue r ↔ HasFront lines line → r ≡ is_below_any lines line
below_test lines line true h = sym (below_from_front lines line (h.0 refl))
below_test lines line false h = by_test (is_below_any lines line) refl
  where
    by_test : (t : Bool) → is_below_any lines line ≡ t → false ≡ is_below_any lines line
    by_test true e = let no : IsTrue false = h.1 (front_from_below lines line e) in cc
    by_test false e = sym e
