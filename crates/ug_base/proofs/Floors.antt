-- The least floor of boxes, and that it bounds the value of each good point.
use Rattle.std.proofs.Common.{◌≡◌, ℕ, suc, ℤ, pos, ◌+◌, ◌*◌, ◌^◌, ◌<◌, ◌≤◌, ◌≤ℤ◌, ◌⊎◌, inl, inr, List, [], ◌∷◌, length, drop, slice_index_or, unsigned_abs, Contains, Option, Some, None, IfSome, IsNone, ◌↔◌, ap, refl, sym, subst, ◌∙◌, arith}
use Rattle.std.proofs.lemmas.Int.{ints, by_lt_z}
use Rattle.std.proofs.lemmas.Bool.{cases_eq}
use Rattle.std.proofs.lemmas.List.{drop_more, get_or-map, length-drop, length-map}
use Rattle.std.proofs.lemmas.List.Elements.{All-contains}
use Rattle.ug_rows.specs.declared.area.Interval.{Interval}
use Rattle.ug_rows.specs.declared.row.Objective.{Objective}
use Rattle.ug_rows.specs.Boxes.{IsBelow, IsInOne, IsInside}
use Rattle.ug_rows.specs.Sums.{box_floor}
use Rattle.ug_rows.proofs.AreaLemmas.{below_trans}
use Rattle.ug_rows.proofs.Orders.{at_most_itself, at_most_trans}
use Rattle.ug_problem.specs.Instances.{Instance, bounds_of}
use Rattle.ug_problem.specs.Better.{IsGood}
use Rattle.ug_problem.proofs.Floors.{floor_bound, floor_within}
use Rattle.ug_propagate.specs.Working.{WorkState}
use Rattle.ug_base.specs.declared.open_box.OpenBox.{OpenBox}
use Rattle.ug_base.specs.declared.open_boxes.Kept.{Kept}
use Rattle.ug_base.specs.Chains.{IsChain, area_of, areas_of, no_open_box}
use Rattle.ug_base.specs.Floors.{AreLeasts, IsLeastOf, IsLeastSoFar, floor_at, floors_of, least_of, open_boxes_in}
use Rattle.ug_base.specs.Tasks.{BoundsTheRest, IsLeastFloor, IsTask, TaskState, lesser_of}

-- the smaller of two is one of them, and at most each
pub lesser_is : (old given : ℤ)
    → ((lesser_of (Some old) given ≡ old) × (old ≤ℤ given)) ⊎ ((lesser_of (Some old) given ≡ given) × (given ≤ℤ old))
lesser_is old given = by_lt_z old given
    (λ less. inl (grind (arith, ints, less), omega (arith, ints, less)))
    (λ more. inr (grind (arith, ints, more), more))

-- number n is not below the least of those before it
keeps_lowest : (floors : List ℤ) (n : ℕ) (low here r : ℤ) → IsLeastOf floors n low
    → floor_at floors n ≡ here → low ≤ℤ here → r ≡ low → IsLeastOf floors (n + 1) r
keeps_lowest floors n low here r l e h same = record {
  at = l.at;
  there = omega (arith, l.there);
  reached = l.reached ∙ sym same;
  least = λ k lt. rw same (elim (cases_eq k n) [
    | inl is ↦ subst (λ j. low ≤ℤ floor_at floors j) (sym is) (subst (λ v. low ≤ℤ v) (sym e) h)
    | inr ne ↦ l.least k (omega (arith, lt, ne))
  ]);
}

-- number n is at most the least of those before it
takes_lowest : (floors : List ℤ) (n : ℕ) (here r : ℤ) → floor_at floors n ≡ here → r ≡ here
    → ((k : ℕ) → k < n → here ≤ℤ floor_at floors k) → IsLeastOf floors (n + 1) r
takes_lowest floors n here r e same h = record {
  at = n;
  there = omega arith;
  reached = e ∙ sym same;
  least = λ k lt. rw same (elim (cases_eq k n) [
    | inl is ↦ subst (λ j. here ≤ℤ floor_at floors j) (sym is) (subst (λ v. here ≤ℤ v) (sym e) (at_most_itself here))
    | inr ne ↦ h k (omega (arith, lt, ne))
  ]);
}

-- one number more
next_lowest : (floors : List ℤ) (n : ℕ) (lowest : Option ℤ) (here r : ℤ) → IsLeastSoFar floors n lowest
    → here ≡ floor_at floors n → r ≡ lesser_of lowest here → IsLeastOf floors (n + 1) r
next_lowest floors n None here r l e same = takes_lowest floors n here r (sym e) same (λ k lt. absurd (omega (arith, l, lt)))
next_lowest floors n (Some low) here r l e same = elim (lesser_is low here) [
  | inl h ↦ keeps_lowest floors n low here r l (sym e) h.1 (same ∙ h.0)
  | inr h ↦ takes_lowest floors n here r (sym e) (same ∙ h.0) (λ k lt. at_most_trans _ _ _ h.1 (l.least k lt))
]

-- one part more
pub lowest_next : (open_boxes : List OpenBox) (n : ℕ) (lowest : Option ℤ) (here r : ℤ) → n < length open_boxes
    → IsLeastSoFar (floors_of open_boxes) n lowest → here ≡ (slice_index_or open_boxes n no_open_box).floor → r ≡ lesser_of lowest here
    → IsLeastOf (floors_of open_boxes) (n + 1) r
lowest_next open_boxes n lowest here r there l e same =
    next_lowest (floors_of open_boxes) n lowest here r l
    (e ∙ sym (get_or-map (λ (open_box : OpenBox). open_box.floor) open_boxes n no_open_box (pos 0) there)) same

-- the least beside the last part is the least of all floors
least_from : (all : List OpenBox) (kept : List Kept) (n : ℕ) (before : Option ℤ) → n ≤ length all → drop n all ≡ open_boxes_in kept
    → IsLeastSoFar (floors_of all) n before → AreLeasts before kept
    → IsLeastSoFar (floors_of all) (length all) (least_of before kept)
least_from all [] n before within e l h =
    subst (λ (k : ℕ). IsLeastSoFar (floors_of all) k before)
    (omega (arith, within, length-drop n all, ap (λ (ps : List OpenBox). length ps) e)) l
least_from all (one ∷ kept) n before within e l h =
    let there : n < length all = omega (arith, length-drop n all, ap (λ (ps : List OpenBox). length ps) e) in
    let more : slice_index_or all n no_open_box ∷ drop (n + 1) all ≡ one.open_box ∷ open_boxes_in kept = sym (drop_more all n no_open_box there) ∙ e in
    let here : slice_index_or all n no_open_box ≡ one.open_box = ap (λ (ps : List OpenBox). slice_index_or ps 0 no_open_box) more in
    least_from all kept (n + 1) (Some one.least) (omega (arith, there)) (ap (λ (ps : List OpenBox). drop 1 ps) more)
    (lowest_next all n before one.open_box.floor one.least there l (ap (λ (q : OpenBox). q.floor) (sym here)) h.0) h.1

some_least : (floors : List ℤ) (n : ℕ) (low : Option ℤ) → IsLeastSoFar floors n low → IfSome low (IsLeastOf floors n)
some_least floors n None l = tt
some_least floors n (Some low) l = l

pub last_is_least : (open_boxes : List OpenBox) (kept : List Kept) (low : Option ℤ) → open_boxes_in kept ≡ open_boxes → AreLeasts None kept
    → low ≡ least_of None kept → IfSome low (IsLeastOf (floors_of open_boxes) (length open_boxes))
last_is_least open_boxes kept low same h e =
    some_least (floors_of open_boxes) (length open_boxes) low
    (subst (IsLeastSoFar (floors_of open_boxes) (length open_boxes)) (sym e) (least_from open_boxes kept 0 None (omega arith) (sym same) refl h))

none_is : (low : Option ℤ) → IsNone low → low ≡ None
none_is None h = refl
none_is (Some low) h = absurd (cc)

some_of : (low : ℤ) (kept : List Kept) → least_of (Some low) kept ≡ None → ⊥
some_of low [] e = absurd (cc)
some_of low (one ∷ kept) e = some_of one.least kept e

least_none : (kept : List Kept) → IsNone (least_of None kept) ↔ (open_boxes_in kept ≡ [])
least_none [] = ((λ h. refl), (λ e. refl))
least_none (one ∷ kept) = (
  (λ h. absurd (some_of one.least kept (none_is (least_of (Some one.least) kept) h))),
  (λ e. absurd (omega (arith, ap (λ (ps : List OpenBox). length ps) e))),
)

-- there is no least exactly where there is no part
pub none_least : (open_boxes : List OpenBox) (kept : List Kept) (low : Option ℤ) → open_boxes_in kept ≡ open_boxes → low ≡ least_of None kept
    → IsNone low ↔ (open_boxes ≡ [])
none_least open_boxes kept low same e =
    subst (λ (o : Option ℤ). IsNone o ↔ (open_boxes ≡ [])) (sym e)
    (subst (λ (ps : List OpenBox). IsNone (least_of None kept) ↔ (ps ≡ [])) same (least_none kept))

-- the least of the floors is the least floor of the boxes
lowest_by : (p : Instance) (whole : List Interval) (work : WorkState) (open_boxes : List OpenBox) (lowest : Option ℤ)
    → IsChain p whole work open_boxes → IfSome lowest (IsLeastOf (floors_of open_boxes) (length open_boxes))
    → IfSome lowest (IsLeastFloor p (areas_of work open_boxes))
lowest_by p whole work open_boxes None chain l = tt
lowest_by p whole work open_boxes (Some low) chain l =
    let area_at : (k : ℕ) (d : List Interval) → k < length open_boxes
    → slice_index_or (areas_of work open_boxes) k d ≡ area_of work (slice_index_or open_boxes k no_open_box) =
    λ k d there. get_or-map (area_of work) open_boxes k no_open_box d there in
    let floor_is : (k : ℕ) → k < length open_boxes
    → floor_at (floors_of open_boxes) k ≡ box_floor p.objective (area_of work (slice_index_or open_boxes k no_open_box)) =
    λ k there. get_or-map (λ (open_box : OpenBox). open_box.floor) open_boxes k no_open_box (pos 0) there ∙ (chain.each k no_open_box there).floor in
    let wide : length (areas_of work open_boxes) ≡ length open_boxes = length-map open_boxes (area_of work) in
    record {
      area = area_of work (slice_index_or open_boxes l.at no_open_box);
      among = (l.at, omega (arith, l.there, wide), area_at l.at _ l.there);
      reached = sym (floor_is l.at l.there) ∙ l.reached;
      least = λ other c.
          let there : c.0 < length open_boxes = omega (arith, c.1, wide) in
          subst (λ (a : List Interval). low ≤ℤ box_floor p.objective a) (sym (area_at c.0 other there) ∙ c.2)
          (subst (λ (v : ℤ). low ≤ℤ v) (floor_is c.0 there) (l.least c.0 there));
    }

floor_with : (p s : Instance) (boxes : List (List Interval)) (lowest : Option ℤ) → s.objective ≡ p.objective
    → IfSome lowest (IsLeastFloor s boxes) → IfSome lowest (IsLeastFloor p boxes)
floor_with p s boxes None same l = tt
floor_with p s boxes (Some low) same l = record {
  area = l.area;
  among = l.among;
  reached = subst (λ (o : Objective). box_floor o l.area ≡ low) same l.reached;
  least = λ other c. subst (λ (o : Objective). low ≤ℤ box_floor o other) same (l.least other c);
}

-- so of a search over s, whose objective is that of p
pub lowest_of : (p s : Instance) (whole : List Interval) (work : WorkState) (open_boxes : List OpenBox) (lowest : Option ℤ)
    → s.objective ≡ p.objective → IsChain s whole work open_boxes → IfSome lowest (IsLeastOf (floors_of open_boxes) (length open_boxes))
    → IfSome lowest (IsLeastFloor p (areas_of work open_boxes))
lowest_of p s whole work open_boxes lowest same chain l =
    floor_with p s (areas_of work open_boxes) lowest same (lowest_by s whole work open_boxes lowest chain l)

-- a point in one of the boxes is in a box among them
box_with : (boxes : List (List Interval)) (x : List ℤ) → IsInOne boxes x → (area : List Interval) × Contains boxes area × IsInside area x
box_with [] x h = absurd h
box_with (area ∷ boxes) x h = elim h [
  | inl a ↦ (area, (0, omega arith, refl), a)
  | inr b ↦ let r = box_with boxes x b in (r.0, (suc r.1.0, omega (arith, r.1.1), r.1.2), r.2)
]

-- a good point in no box handed is in a box left
left_in : (t : TaskState) (x : List ℤ) → IsTask t → IsInside t.whole x → IsGood t.problem t.cutoff x → ¬ IsInOne t.handed x → IsInOne t.boxes x
left_in t x task inside good out = elim (task.covered x inside good) [
  | inl a ↦ a
  | inr b ↦ absurd (out b)
]

-- each good point in no box handed has at least the least floor
lowest_bound : (t : TaskState) (low : ℤ) → IsTask t → IsLeastFloor t.problem t.boxes low → BoundsTheRest t low
lowest_bound t low task l = λ x inside good out.
    let r = box_with t.boxes x (left_in t x task inside good out) in
    let below : IsBelow r.0 t.whole = All-contains (λ (a : List Interval). IsBelow a t.whole) t.boxes r.0 task.below r.1 in
    let wide : length r.0 ≡ length t.problem.columns =
    below.width ∙ task.whole.width ∙ length-map t.problem.columns bounds_of in
    at_most_trans _ _ _ (l.least r.0 r.1) (floor_bound t.problem r.0 x task.problem wide r.2)

-- and so of a task's fields
pub lowest_bounds : (t : TaskState) (lowest : Option ℤ) → IsTask t → IfSome lowest (IsLeastFloor t.problem t.boxes) → IfSome lowest (BoundsTheRest t)
lowest_bounds t None task l = tt
lowest_bounds t (Some low) task l = lowest_bound t low task l

-- the least floor is not too large
pub lowest_small : (t : TaskState) (lowest : Option ℤ) → IsTask t → IfSome lowest (IsLeastFloor t.problem t.boxes)
    → IfSome lowest (λ low. unsigned_abs low ≤ 2 * 10 ^ 37)
lowest_small t None task l = tt
lowest_small t (Some low) task l =
    let below : IsBelow l.area t.whole = All-contains (λ (a : List Interval). IsBelow a t.whole) t.boxes l.area task.below l.among in
    subst (λ v. unsigned_abs v ≤ 2 * 10 ^ 37) l.reached
    (floor_within t.problem l.area task.problem (below_trans _ _ _ below task.whole))
