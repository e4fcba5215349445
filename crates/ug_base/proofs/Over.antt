-- A search goes over to another formulation: the boxes of its parts stay.
use Rattle.std.proofs.Common.{◌≡◌, ◌∙◌, refl, sym, ap, subst, inl, inr, ℕ, ◌+◌, ◌<◌, ◌≤◌, List, [], ◌∷◌, length, map, drop, slice_set, slice_index_or, All, Option, Some, None, arith}
use Rattle.std.proofs.lemmas.Bool.{cases_eq}
use Rattle.std.proofs.lemmas.List.{ext_get_or, get_or-map, get_or-set_other, get_or-set_same, length-map, length-set}
use Rattle.std.proofs.lemmas.List.Elements.{All-cons, All-head, All-nil, All-tail}
use Rattle.ug_rows.specs.declared.area.Interval.{Interval}
use Rattle.ug_rows.specs.declared.row.Objective.{Objective}
use Rattle.ug_rows.specs.Boxes.{IsBelow}
use Rattle.ug_rows.specs.Sums.{box_floor}
use Rattle.ug_problem.specs.declared.column.Column.{Column}
use Rattle.ug_problem.specs.Instances.{Instance}
use Rattle.ug_problem.specs.Limits.{IsProblem}
use Rattle.ug_propagate.specs.declared.working.Trailed.{Trailed}
use Rattle.ug_propagate.specs.Working.{AreTrailed, IsOver, WorkState, undone}
use Rattle.ug_propagate.proofs.Stepping.{max_span_below}
use Rattle.ug_branch.specs.Choices.{AreClosed}
use Rattle.ug_base.specs.declared.open_box.Narrowing.{Narrowing}
use Rattle.ug_base.specs.declared.open_box.OpenBox.{OpenBox}
use Rattle.ug_base.specs.Chains.{IsChain, IsCut, IsOpenBox, Rise, area_of, areas_of, base_of, narrowed, unsettled}
use Rattle.ug_base.specs.declared.open_boxes.Kept.{Kept}
use Rattle.ug_base.specs.Floors.{unsettled_kept}
use Rattle.ug_base.proofs.Leasts.{no_kept}

-- the first k are unsettled, and the others are as they were
pub record AreUnsettledTo (k : ℕ) (old new : List Kept) : Type 0 where
  pub count : length new ≡ length old
  pub done : (i : ℕ) → i < k → i < length old → slice_index_or new i no_kept ≡ unsettled_kept (slice_index_or old i no_kept)
  pub others : (i : ℕ) → k ≤ i → i < length old → slice_index_or new i no_kept ≡ slice_index_or old i no_kept

pub none_unsettled : (kept : List Kept) → AreUnsettledTo 0 kept kept
none_unsettled kept = record {
  count = refl;
  done = λ i less there. absurd (omega arith);
  others = λ i past there. refl;
}

pub one_unsettled : (old now : List Kept) (k : ℕ) (one : Kept) → k < length old → AreUnsettledTo k old now
    → one ≡ unsettled_kept (slice_index_or now k no_kept) → AreUnsettledTo (k + 1) old (slice_set now k one)
one_unsettled old now k one there h is = record {
  count = length-set now k one ∙ h.count;
  done = λ i less within. elim (cases_eq i k) [
    | inl same ↦
        ap (λ (j : ℕ). slice_index_or (slice_set now k one) j no_kept) same
        ∙ get_or-set_same now k one no_kept (omega (arith, h.count, there)) ∙ is ∙ ap unsettled_kept (h.others k (omega arith) there)
        ∙ ap (λ (j : ℕ). unsettled_kept (slice_index_or old j no_kept)) (sym same)
    | inr other ↦ get_or-set_other now k i one no_kept (λ e. other e) ∙ h.done i (omega (arith, less, other)) within
  ];
  others = λ i past within.
      get_or-set_other now k i one no_kept (λ e. absurd (omega (arith, e, past))) ∙ h.others i (omega (arith, past)) within;
}

pub all_unsettled : (old new : List Kept) (k : ℕ) → length old ≤ k → AreUnsettledTo k old new → new ≡ map unsettled_kept old
all_unsettled old new k all h = ext_get_or no_kept new (map unsettled_kept old) (h.count ∙ sym (length-map old unsettled_kept))
    (λ i lt. let there : i < length old = omega (arith, lt, h.count) in
    h.done i (omega (arith, there, all)) there ∙ sym (get_or-map unsettled_kept old i no_kept no_kept there))

-- the boxes of parts do not depend on how rows rested
pub areas_unsettled : (work : WorkState) (open_boxes : List OpenBox) → areas_of work (map unsettled open_boxes) ≡ areas_of work open_boxes
areas_unsettled work [] = refl
areas_unsettled work (open_box ∷ open_boxes) = ap (λ bs. area_of work open_box ∷ bs) (areas_unsettled work open_boxes)

-- nor on the rows
base_over : (s : Instance) (whole : List Interval) (old new : WorkState) (open_box : OpenBox) → IsOver s whole old new
    → base_of new open_box ≡ base_of old open_box
base_over s whole old new open_box over =
    ap (λ (t : List Trailed). undone new.sums.area (drop open_box.depth t)) over.trail
    ∙ ap (λ (a : List Interval). undone a (drop open_box.depth old.trail)) over.area

areas_over_each : (s : Instance) (whole : List Interval) (old new : WorkState) (open_boxes : List OpenBox) → IsOver s whole old new
    → areas_of new open_boxes ≡ areas_of old open_boxes
areas_over_each s whole old new [] over = refl
areas_over_each s whole old new (open_box ∷ open_boxes) over =
    ap (λ (a : List Interval). narrowed open_box.cut a ∷ areas_of new open_boxes) (base_over s whole old new open_box over)
    ∙ ap (λ bs. area_of old open_box ∷ bs) (areas_over_each s whole old new open_boxes over)

pub areas_over : (s : Instance) (whole : List Interval) (old new : WorkState) (open_boxes after : List OpenBox) → IsOver s whole old new
    → after ≡ map unsettled open_boxes → areas_of new after ≡ areas_of old open_boxes
areas_over s whole old new open_boxes after over e =
    ap (areas_of new) e ∙ areas_unsettled new open_boxes ∙ areas_over_each s whole old new open_boxes over

cut_over : (p s : Instance) (base : List Interval) (cut : Option Narrowing) → s.columns ≡ p.columns → IsCut p base cut → IsCut s base cut
cut_over p s base None same h = tt
cut_over p s base (Some cut) same h = record {
  there = subst (λ (cs : List Column). cut.column < length cs) (sym same) h.there;
  inner = h.inner;
  some = h.some;
}

open_box_over : (p s : Instance) (whole : List Interval) (old new : WorkState) (open_box : OpenBox) → s.columns ≡ p.columns
    → s.objective ≡ p.objective → IsOver s whole old new → IsOpenBox p whole old open_box → IsOpenBox s whole new (unsettled open_box)
open_box_over p s whole old new open_box columns objective over is =
    let same : base_of old open_box ≡ base_of new open_box = sym (base_over s whole old new open_box over) in
    record {
      deep = omega (arith, is.deep, ap (λ (t : List Trailed). length t) over.trail);
      below = subst (λ (a : List Interval). IsBelow a whole) same is.below;
      cut = subst (λ (a : List Interval). IsCut s a open_box.cut) same (cut_over p s (base_of old open_box) open_box.cut columns is.cut);
      fixpoint = tt;
      floor = subst (λ (o : Objective). open_box.floor ≡ box_floor o (area_of new open_box)) (sym objective)
          (subst (λ (a : List Interval). open_box.floor ≡ box_floor p.objective (narrowed open_box.cut a)) same is.floor);
      closed = subst (λ (a : List Interval). AreClosed open_box.closed (narrowed open_box.cut a)) same is.closed;
    }

open_boxes_over : (p s : Instance) (whole : List Interval) (old new : WorkState) (open_boxes : List OpenBox) → s.columns ≡ p.columns
    → s.objective ≡ p.objective → IsOver s whole old new → All (IsOpenBox p whole old) open_boxes → All (IsOpenBox s whole new) (map unsettled open_boxes)
open_boxes_over p s whole old new [] columns objective over each = All-nil (IsOpenBox s whole new)
open_boxes_over p s whole old new (open_box ∷ open_boxes) columns objective over each =
    All-cons (IsOpenBox s whole new) (unsettled open_box) (map unsettled open_boxes)
    (open_box_over p s whole old new open_box columns objective over (All-head (IsOpenBox p whole old) open_box open_boxes each))
    (open_boxes_over p s whole old new open_boxes columns objective over (All-tail (IsOpenBox p whole old) open_box open_boxes each))

deep_over : (depth : ℕ) (open_boxes : List OpenBox) → All (λ (later : OpenBox). depth ≤ later.depth) open_boxes
    → All (λ (later : OpenBox). depth ≤ later.depth) (map unsettled open_boxes)
deep_over depth [] h = All-nil (λ (later : OpenBox). depth ≤ later.depth)
deep_over depth (open_box ∷ open_boxes) h =
    let P : OpenBox → Type 0 = λ (later : OpenBox). depth ≤ later.depth in
    All-cons P (unsettled open_box) (map unsettled open_boxes) (All-head P open_box open_boxes h) (deep_over depth open_boxes (All-tail P open_box open_boxes h))

rise_over : (open_boxes : List OpenBox) → Rise open_boxes → Rise (map unsettled open_boxes)
rise_over [] h = tt
rise_over (open_box ∷ open_boxes) h = (deep_over open_box.depth open_boxes h.0, rise_over open_boxes h.1)

-- the parts of a search, over another formulation with the same columns and objective
pub chain_over : (p s : Instance) (whole : List Interval) (old new : WorkState) (open_boxes after : List OpenBox) → s.columns ≡ p.columns
    → s.objective ≡ p.objective → IsProblem s → length whole ≡ length s.columns → IsBelow old.sums.area whole → IsOver s whole old new
    → after ≡ map unsettled open_boxes → IsChain p whole old open_boxes → IsChain s whole new after
chain_over p s whole old new open_boxes after columns objective problem wide below over e chain =
    let area : IsBelow new.sums.area whole = subst (λ (a : List Interval). IsBelow a whole) (sym over.area) below in
    let trail : AreTrailed (length s.columns) new.trail =
    subst (λ (cs : List Column). AreTrailed (length cs) new.trail) (sym columns)
    (subst (AreTrailed (length p.columns)) (sym over.trail) chain.base.trail) in
    subst (λ (ps : List OpenBox). IsChain s whole new ps) (sym e) (record {
      base = record {
        box = record {
          sums = over.sums;
          max_span = max_span_below s new.sums.area whole new.max_span problem wide area over.max_span;
          bits = over.bits;
        };
        trail = trail;
        max_span = over.max_span;
      };
      each = open_boxes_over p s whole old new open_boxes columns objective over chain.each;
      rising = rise_over open_boxes chain.rising;
    })
