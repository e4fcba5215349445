-- Names and their places by the order of their bytes: a search, distinct names, and a name more.
use Rattle.std.proofs.Common.{Less, Equal, Greater, ◌≡◌, ℕ, ◌+◌, ◌-◌, ◌<◌, List, [], ◌∷◌, ◌++◌, length, get_or, take, Result, Ok, Err, Contains, sym, refl, ap, subst, ◌∙◌, arith, ⊎_elim}
use Rattle.std.specs.Cmp.Lexicographic.{bytes_decides}
use Rattle.std.specs.List.{insert}
use Rattle.std.specs.List.Sorted.{IsSearchInRange, IsBinarySearchResult, IsSortedBy}
use Rattle.std.specs.Ordering.{is_eq, is_lt, ordering_reverse}
use Rattle.std.proofs.Math.Seq.{take-append_seam}
use Rattle.std.proofs.lemmas.Bool.{cases_lt, false≢true}
use Rattle.std.proofs.lemmas.Cmp.{nat_list_cmp_total, tied_itself}
use Rattle.std.proofs.lemmas.List.{get_or_append_left, get_or_push, get_or_default, length_push}
use Rattle.std.proofs.lemmas.List.Edits.{length-insert, get_or-insert_below, get_or-insert_at, get_or-insert_above}
use Rattle.std.proofs.lemmas.List.Elements.{Contains-get_or, Contains-append_right}
use Rattle.std.proofs.lemmas.List.Sorted.{searchable_from_sorted, IsPermutation-insert, Contains-permutation}
use Rattle.std.proofs.lemmas.Map.Text.{is_eq-slice_cmp}
use Rattle.ug_mps.specs.Names.{name_at, name_in, name_cmp, StandsAt, AreOrdered, AreDistinct, IsOrderedAt, IsGapFor, IsSearched}

pub contains_at : (names : List (List ℕ)) (name : List ℕ) (j : ℕ) → StandsAt names name j → Contains names name
contains_at names name j h = (j, h.there, get_or_default names j name [] h.there ∙ h.same)

pub at_contains : (names : List (List ℕ)) (name : List ℕ) → (h : Contains names name) → StandsAt names name h.0
at_contains names name h = record { there = h.1; same = get_or_default names h.0 [] name h.1 ∙ h.2 }

same_names : (a b : List ℕ) → name_cmp a b ≡ Equal → a ≡ b
same_names a b e = (bytes_decides a b).0 (sym (is_eq-slice_cmp a b) ∙ ap is_eq e)

turned : (a b : List ℕ) → name_cmp a b ≡ Less → name_cmp b a ≡ Greater
turned a b e = nat_list_cmp_total.antisymm b a ∙ ap ordering_reverse e

turned_back : (a b : List ℕ) → name_cmp a b ≡ Greater → name_cmp b a ≡ Less
turned_back a b e = nat_list_cmp_total.antisymm b a ∙ ap ordering_reverse e

not_below_itself : (a : List ℕ) → name_cmp a a ≡ Less → ⊥
not_below_itself a e = false≢true (ap is_eq (sym e ∙ tied_itself nat_list_cmp_total a))

-- the place that stands where the places contain it
place_at : (order : List ℕ) (j : ℕ) → (c : Contains order j) → get_or order c.0 0 ≡ j
place_at order j c = get_or_default order c.0 0 j c.1 ∙ c.2

module _ (names : List (List ℕ)) (order : List ℕ) (h : AreOrdered names order) where
  rises : IsSortedBy (λ a b. is_lt (name_cmp (name_at names a) (name_at names b))) order
  rises k d low high =
      let this : get_or order k d ≡ get_or order k 0 = get_or_default order k d 0 (omega (arith, high)) in
      let next : get_or order (k + 1) d ≡ get_or order (k + 1) 0 = get_or_default order (k + 1) d 0 (omega (arith, high)) in
      rw (this, next) (ap is_lt (turned (name_in names order k) (name_in names order (k + 1)) (h.rising k (k + 1) (omega arith) (omega (arith, high)))))

  -- a binary search ends at the name, or at the gap for it
  pub searched : (name : List ℕ) (r : Result ℕ ℕ) → IsSearchInRange r (length order)
      → IsBinarySearchResult (λ place. name_cmp (name_at names place) name) order r → IsSearched names order name r
  searched name (Ok k) there equal = record { there = there; same = same_names _ _ (equal 0) }
  searched name (Err k) there parted =
      let p = parted (searchable_from_sorted nat_list_cmp_total (name_at names) order name rises) in
      record {
        there = there;
        below = λ i lt. p.0 i 0 (omega arith) lt;
        above = λ i le lt. turned_back (name_in names order i) name (p.1 i 0 le lt);
      }

  apart : (i k : ℕ) → i < k → k < length order → name_in names order i ≡ name_in names order k → ⊥
  apart i k lt there e = not_below_itself (name_in names order k) (subst (λ n. name_cmp n (name_in names order k) ≡ Less) e (h.rising i k lt there))

  pub ordered_distinct : AreDistinct names
  ordered_distinct i j a b e =
      let p = h.each i a in
      let q = h.each j b in
      let here = place_at order i p in
      let there = place_at order j q in
      let same : name_in names order p.0 ≡ name_in names order q.0 = ap (name_at names) here ∙ e ∙ sym (ap (name_at names) there) in
      ⊎_elim
      (λ lt. absurd (apart p.0 q.0 lt q.1 same))
      (λ ge. ⊎_elim
      (λ lt. absurd (apart q.0 p.0 lt p.1 (sym same)))
      (λ le. let one : p.0 ≡ q.0 = omega (arith, ge, le) in sym here ∙ ap (λ k. get_or order k 0) one ∙ there)
      (cases_lt q.0 p.0))
      (cases_lt p.0 q.0)

  -- the name whose place is there
  pub stands_ordered : (name : List ℕ) (k : ℕ) → IsOrderedAt names order name k → StandsAt names name (get_or order k 0)
  stands_ordered name k a = record { there = h.within k a.there; same = a.same }

  -- a name for which there is a gap is not among the names
  pub gone_in_gap : (name : List ℕ) (k : ℕ) → IsGapFor names order name k → Contains names name → ⊥
  gone_in_gap name k g c =
      let s = at_contains names name c in
      let p = h.each c.0 s.there in
      let e : name_in names order p.0 ≡ name = ap (name_at names) (place_at order c.0 p) ∙ s.same in
      ⊎_elim
      (λ lt. not_below_itself name (subst (λ n. name_cmp n name ≡ Less) e (g.below p.0 lt)))
      (λ ge. not_below_itself name (subst (λ n. name_cmp name n ≡ Less) e (g.above p.0 ge p.1)))
      (cases_lt p.0 k)

  module _ (name : List ℕ) (k : ℕ) (g : IsGapFor names order name k) where
    new_length : length (insert order k (length names)) ≡ length order + 1
    new_length = length-insert order k (length names) g.there

    place_below : (i : ℕ) → i < k → get_or (insert order k (length names)) i 0 ≡ get_or order i 0
    place_below i lt = get_or-insert_below order k (length names) 0 i lt g.there

    place_here : get_or (insert order k (length names)) k 0 ≡ length names
    place_here = get_or-insert_at order k (length names) 0 g.there

    place_above : (i : ℕ) → k < i → get_or (insert order k (length names)) i 0 ≡ get_or order (i - 1) 0
    place_above i gt = subst (λ q. get_or (insert order k (length names)) q 0 ≡ get_or order (i - 1) 0) {x = i - 1 + 1} (omega (arith, gt)) (get_or-insert_above order k (length names) 0 (i - 1) (omega (arith, gt)) g.there)

    kept : (i : ℕ) → i < length order → name_in (names ++ name ∷ []) order i ≡ name_in names order i
    kept i lt = get_or_append_left names (name ∷ []) [] (get_or order i 0) (h.within i lt)

    name_below : (i : ℕ) → i < k → name_in (names ++ name ∷ []) (insert order k (length names)) i ≡ name_in names order i
    name_below i lt = ap (name_at (names ++ name ∷ [])) (place_below i lt) ∙ kept i (omega (arith, g.there))

    name_here : name_in (names ++ name ∷ []) (insert order k (length names)) k ≡ name
    name_here = ap (name_at (names ++ name ∷ [])) place_here ∙ get_or_push names name [] (length names) refl

    name_above : (i : ℕ) → k < i → i < length order + 1 → name_in (names ++ name ∷ []) (insert order k (length names)) i ≡ name_in names order (i - 1)
    name_above i gt lt = ap (name_at (names ++ name ∷ [])) (place_above i gt) ∙ kept (i - 1) (omega (arith, gt, lt))

    within_more : (i : ℕ) → i < length (insert order k (length names)) → get_or (insert order k (length names)) i 0 < length (names ++ name ∷ [])
    within_more i lt = ⊎_elim
        (λ below. omega (arith, length_push names name, place_below i below, h.within i (omega (arith, g.there))))
        (λ ge. ⊎_elim
        (λ above. omega (arith, length_push names name, place_above i above, h.within (i - 1) (omega (arith, new_length, lt, above))))
        (λ le. let e : i ≡ k = omega (arith, ge, le) in omega (arith, length_push names name, place_here, ap (λ q. get_or (insert order k (length names)) q 0) e))
        (cases_lt k i))
        (cases_lt i k)

    each_more : (j : ℕ) → j < length (names ++ name ∷ []) → Contains (insert order k (length names)) j
    each_more j lt = Contains-permutation (length names ∷ order) (insert order k (length names)) j (IsPermutation-insert order k (length names))
        (⊎_elim
        (λ old. Contains-append_right (length names ∷ []) order j (h.each j old))
        (λ ge. let e : length names ≡ j = omega (arith, length_push names name) in subst (Contains (length names ∷ order)) e (Contains-get_or (length names ∷ order) 0 (length names) (omega arith)))
        (cases_lt j (length names)))

    less : (a b c d : List ℕ) → a ≡ c → b ≡ d → name_cmp c d ≡ Less → name_cmp a b ≡ Less
    less a b c d e f l = rw (e, f) l

    rising_more : (i j : ℕ) → i < j → j < length (insert order k (length names))
        → name_cmp (name_in (names ++ name ∷ []) (insert order k (length names)) i) (name_in (names ++ name ∷ []) (insert order k (length names)) j) ≡ Less
    rising_more i j lt in_range = ⊎_elim
        (λ j_below. less _ _ _ _ (name_below i (omega arith)) (name_below j j_below) (h.rising i j lt (omega (arith, g.there))))
        (λ j_ge. ⊎_elim
        (λ j_above. ⊎_elim
        (λ i_below. less _ _ _ _ (name_below i i_below) (name_above j j_above (omega (arith, new_length))) (h.rising i (j - 1) (omega arith) (omega (arith, new_length))))
        (λ i_ge. ⊎_elim
        (λ i_above. less _ _ _ _ (name_above i i_above (omega (arith, new_length))) (name_above j j_above (omega (arith, new_length))) (h.rising (i - 1) (j - 1) (omega arith) (omega (arith, new_length))))
        (λ i_le. let e : i ≡ k = omega (arith, i_ge, i_le) in less _ _ _ _ (ap (name_in (names ++ name ∷ []) (insert order k (length names))) e ∙ name_here) (name_above j j_above (omega (arith, new_length))) (g.above (j - 1) (omega arith) (omega (arith, new_length))))
        (cases_lt k i))
        (cases_lt i k))
        (λ j_le. let e : j ≡ k = omega (arith, j_ge, j_le) in less _ _ _ _ (name_below i (omega arith)) (ap (name_in (names ++ name ∷ []) (insert order k (length names))) e ∙ name_here) (g.below i (omega arith)))
        (cases_lt k j))
        (cases_lt j k)

    ordered_more : AreOrdered (names ++ name ∷ []) (insert order k (length names))
    ordered_more = record { within = within_more; each = each_more; rising = rising_more }

    -- a name more, with its place in the gap
    pub ordered_add : (j : ℕ) → j ≡ length names → AreOrdered (names ++ name ∷ []) (insert order k j)
    ordered_add j e = subst (λ i. AreOrdered (names ++ name ∷ []) (insert order k i)) (sym e) ordered_more

-- without the name that was pushed they are what they were
pub undone : (names pushed left : List (List ℕ)) (name : List ℕ) (place : ℕ) → left ≡ take place pushed
    → place ≡ length names → pushed ≡ names ++ name ∷ [] → left ≡ names
undone names pushed left name place truncated there is =
    rw (truncated, there, is) (take-append_seam names (name ∷ []))
