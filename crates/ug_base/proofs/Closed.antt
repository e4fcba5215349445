-- The first columns that are closed in a box.
use Rattle.std.proofs.Common.{◌≡◌, ◌∙◌, refl, sym, ap, subst, inl, inr, ℕ, ℤ, ◌+◌, ◌-◌, ◌<◌, ◌≤◌, ◌≤ℤ◌, List, [], ◌∷◌, ◌++◌, length, set, slice_index_or, Option, arith}
use Rattle.std.proofs.lemmas.Int.{ints}
use Rattle.std.proofs.lemmas.Bool.{cases_eq, cases_lt}
use Rattle.std.proofs.lemmas.List.{get_or_past, length-append}
use Rattle.ug_rows.specs.declared.area.Interval.{Interval}
use Rattle.ug_rows.specs.Boxes.{IsBelow, IsClosedWithin, IsNarrower, IsNonEmpty, interval_at, no_interval}
use Rattle.ug_branch.specs.declared.params.Params.{Params}
use Rattle.ug_branch.specs.Choices.{AreClosed}
use Rattle.ug_problem.specs.Instances.{Instance}
use Rattle.ug_propagate.specs.Working.{WorkState}
use Rattle.ug_propagate.proofs.Parts.{part_below, part_set}
use Rattle.ug_base.specs.declared.open_box.OpenBox.{OpenBox}
use Rattle.ug_base.specs.Chains.{IsChain, area_of, closed_of, no_open_box}
use Rattle.ug_base.specs.Fronts.{front_of}
use Rattle.ug_base.specs.declared.branching.Branching.{Branching}
use Rattle.ug_base.specs.Evaluations.{IsSeenBranched}
use Rattle.ug_base.proofs.Chains.{last_open_box}

stays_closed : (inner outer : Interval) → IsNarrower inner outer → outer.high ≤ℤ outer.low → inner.high ≤ℤ inner.low
stays_closed inner outer n h = omega (arith, ints, n.low, n.high, h)

-- a column that is not there is closed
closed_past : (area : List Interval) (j : ℕ) → length area ≤ j → (interval_at area j).high ≤ℤ (interval_at area j).low
closed_past area j past =
    subst (λ (s : Interval). s.high ≤ℤ s.low) (sym (get_or_past area j no_interval past)) (omega (arith, ints))

-- columns that are closed are so in a box below
pub closed_below : (n : ℕ) (inner outer : List Interval) → IsBelow inner outer → AreClosed n outer → AreClosed n inner
closed_below n inner outer below h j less = elim (cases_lt j (length outer)) [
  | inl there ↦ stays_closed (interval_at inner j) (interval_at outer j) (below.each j there) (h j less)
  | inr past ↦ closed_past inner j (omega (arith, past, below.width))
]

-- and where one is narrowed
pub closed_set : (n : ℕ) (area : List Interval) (column : ℕ) (side : Interval) → IsNonEmpty area → column < length area
    → IsClosedWithin side (interval_at area column) → AreClosed n area → AreClosed n (set area column side)
closed_set n area column side some there inner h =
    closed_below n (set area column side) area (part_below _ _ (part_set area column side some there inner)) h

-- and one column more that is closed
pub closed_more : (n : ℕ) (area : List Interval) → AreClosed n area → (interval_at area n).high ≤ℤ (interval_at area n).low
    → AreClosed (n + 1) area
closed_more n area h here j less = elim (cases_eq j n) [
  | inl e ↦ subst (λ (m : ℕ). (interval_at area m).high ≤ℤ (interval_at area m).low) (sym e) here
  | inr ne ↦ h j (omega (arith, ne, less))
]

last_at : (open_boxes : List OpenBox) (last : OpenBox) → slice_index_or (open_boxes ++ last ∷ []) (length open_boxes) no_open_box ≡ last
last_at [] last = refl
last_at (open_box ∷ open_boxes) last = last_at open_boxes last

pub closed_of_last : (open_boxes : List OpenBox) (last : OpenBox) → open_boxes ≡ front_of open_boxes ++ last ∷ [] → closed_of open_boxes ≡ last.closed
closed_of_last open_boxes last e =
    let n = ap (λ (ps : List OpenBox). length ps) e in
    let at : length open_boxes - 1 ≡ length (front_of open_boxes) = omega (arith, n, length-append (front_of open_boxes) (last ∷ [])) in
    ap (λ (i : ℕ). (slice_index_or open_boxes i no_open_box).closed) at
    ∙ ap (λ (ps : List OpenBox). (slice_index_or ps (length (front_of open_boxes)) no_open_box).closed) e
    ∙ ap (λ (open_box : OpenBox). open_box.closed) (last_at (front_of open_boxes) last)

-- the columns that are closed in the last part's box are so in what is left of it
pub left_closed : (s : Instance) (whole : List Interval) (cutoff : Option ℤ) (params : Params) (before after : WorkState)
    (old : List OpenBox) (last : OpenBox) (branching : Branching) → IsChain s whole before old → old ≡ front_of old ++ last ∷ []
    → IsSeenBranched s cutoff params (area_of before last) after branching → AreClosed (closed_of old) after.sums.area
left_closed s whole cutoff params before after old last branching chain e seen =
    subst (λ (n : ℕ). AreClosed n after.sums.area) (sym (closed_of_last old last e))
    (closed_below last.closed after.sums.area (area_of before last) seen.below (last_open_box s whole before old last chain e).closed)
