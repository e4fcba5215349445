-- Boxes, each as what it is against the one before it: one more, and whether two lists of them
-- agree.
use Rattle.std.proofs.Common.{◌≡◌, ◌≢◌, ℕ, suc, zero, ◌<◌, List, [], ◌∷◌, ◌++◌, length, take, refl, sym, ap, ◌∙◌, subst, arith}
use Rattle.ug_rows.specs.declared.area.Interval.{Interval}
use Rattle.ug_rows.specs.Boxes.{box_at}
use Rattle.ug_nodes.specs.declared.change.Change.{Change}
use Rattle.ug_nodes.specs.declared.delta.Delta.{Delta}
use Rattle.ug_nodes.specs.declared.delta.Delta.TheVariants.{Changed, Whole}
use Rattle.ug_nodes.specs.Changes.{IsRising, Tell, area_by}
use Rattle.ug_nodes.specs.Deltas.{AreDeltas, IsDelta, IsFork, IsNear, after, boxes_behind, delta_at, last_behind}
use Rattle.ug_nodes.specs.Hands.{Agree, AreHands}
use Rattle.ug_nodes.specs.Steps.{IsToldTo}
use Rattle.ug_nodes.proofs.Areas.{area_by_width, area_told}
use Rattle.ug_nodes.proofs.Lists.{one_told, same_list, told}

-- what says how a box differs from the one before makes it
pub changed_after : (before area : List Interval) (changes : List Change) → IsNear before area
    → IsToldTo (length before) before area changes → area_by before changes ≡ area
changed_after before area changes near t =
    one_told before (area_by before changes) area changes (area_told before changes t.rising t.each)
    (told before area changes near.width t)

pub changed_delta : (before area : List Interval) (changes : List Change) → IsNear before area
    → IsToldTo (length before) before area changes → IsDelta before (Changed changes)
changed_delta before area changes near t = record {
  few = near.few;
  rising = t.rising;
  tell = area_told before changes t.rising t.each;
}

pub told_rising : (n : ℕ) (before area : List Interval) (changes : List Change) → IsToldTo n before area changes → IsRising changes
told_rising n before area changes t = t.rising

-- for `Delta::of`
pub ruleset made = (changed_after, changed_delta, told_rising)

-- as many boxes as there are deltas
pub boxes_count : (before : List Interval) (deltas : List Delta) → length (boxes_behind before deltas) ≡ length deltas
boxes_count before [] = refl
boxes_count before (d ∷ ds) = ap suc (boxes_count (after before d) ds)

-- for `Hands::len`
pub ruleset count = (boxes_count)

-- a box more follows the last
boxes_push : (before : List Interval) (deltas : List Delta) (d : Delta)
    → boxes_behind before (deltas ++ d ∷ []) ≡ boxes_behind before deltas ++ after (last_behind before deltas) d ∷ []
boxes_push before [] d = refl
boxes_push before (e ∷ es) d = ap (λ bs. after before e ∷ bs) (boxes_push (after before e) es d)

last_push : (before : List Interval) (deltas : List Delta) (d : Delta)
    → last_behind before (deltas ++ d ∷ []) ≡ after (last_behind before deltas) d
last_push before [] d = refl
last_push before (e ∷ es) d = last_push (after before e) es d

deltas_push : (before : List Interval) (deltas : List Delta) (d : Delta) → AreDeltas before deltas
    → IsDelta (last_behind before deltas) d → AreDeltas before (deltas ++ d ∷ [])
deltas_push before [] d all is = (is, tt)
deltas_push before (e ∷ es) d all is = (all.0, deltas_push (after before e) es d all.1 is)

pub hands_push : (deltas : List Delta) (last next : List Interval) (d : Delta) → AreHands deltas last
    → IsDelta last d → next ≡ after last d → AreHands (deltas ++ d ∷ []) next
hands_push deltas last next d hands is same = record {
  chain = deltas_push [] deltas d hands.chain (subst (λ l. IsDelta l d) hands.ends is);
  ends = same ∙ ap (λ l. after l d) hands.ends ∙ sym (last_push [] deltas d);
}

pub hands_grow : (deltas : List Delta) (last area : List Interval) (d : Delta) → AreHands deltas last
    → after last d ≡ area → boxes_behind [] (deltas ++ d ∷ []) ≡ boxes_behind [] deltas ++ area ∷ []
hands_grow deltas last area d hands same =
    boxes_push [] deltas d
    ∙ ap (λ a. boxes_behind [] deltas ++ a ∷ []) (ap (λ l. after l d) (sym hands.ends) ∙ same)

-- for `Hands::push`
pub ruleset pushed = (hands_push, hands_grow)

-- against one box, what a box is against it is the only thing that it is
one_delta : (before : List Interval) (d e : Delta) → IsDelta before d → IsDelta before e
    → after before d ≡ after before e → d ≡ e
one_delta before (Whole a) (Whole b) h g same = ap Whole same
one_delta before (Whole a) (Changed cs) h g same =
    absurd (h (record { width = ap length same ∙ area_by_width before cs; few = g.few }))
one_delta before (Changed cs) (Whole b) h g same =
    absurd (g (record { width = ap length (sym same) ∙ area_by_width before cs; few = h.few }))
one_delta before (Changed cs) (Changed es) h g same =
    ap Changed (same_list before (area_by before cs) cs es h.rising g.rising h.tell
    (subst (Tell before es) (sym same) g.tell))

-- the same deltas make the same boxes
same_boxes : (before : List Interval) (ds es : List Delta) (k : ℕ) → take k ds ≡ take k es
    → take k (boxes_behind before ds) ≡ take k (boxes_behind before es)
same_boxes before ds es zero same = refl
same_boxes before [] [] (suc k) same = refl
same_boxes before [] (e ∷ es) (suc k) same = cc
same_boxes before (d ∷ ds) [] (suc k) same = cc
same_boxes before (d ∷ ds) (e ∷ es) (suc k) same =
    let first : d ≡ e = cc in
    let rest : take k ds ≡ take k es = cc in
    subst (λ c. after before d ∷ take k (boxes_behind (after before d) ds)
    ≡ after before c ∷ take k (boxes_behind (after before c) es)) first
    (ap (λ bs. after before d ∷ bs) (same_boxes (after before d) ds es k rest))

-- behind them other deltas make other boxes
other_boxes : (before : List Interval) (ds es : List Delta) (k : ℕ) → AreDeltas before ds → AreDeltas before es
    → take k ds ≡ take k es → k < length ds → k < length es → delta_at ds k ≢ delta_at es k
    → box_at (boxes_behind before ds) k ≢ box_at (boxes_behind before es) k
other_boxes before [] es k h g same m n ne = absurd (omega (arith, m))
other_boxes before (d ∷ ds) [] k h g same m n ne = absurd (omega (arith, n))
other_boxes before (d ∷ ds) (e ∷ es) zero h g same m n ne = λ one. ne (one_delta before d e h.0 g.0 one)
other_boxes before (d ∷ ds) (e ∷ es) (suc k) h g same m n ne =
    let first : d ≡ e = cc in
    let rest : take k ds ≡ take k es = cc in
    let those : AreDeltas (after before d) es = subst (λ c. AreDeltas (after before c) es) (sym first) g.1 in
    subst (λ c. box_at (boxes_behind (after before d) ds) k ≢ box_at (boxes_behind (after before c) es) k) first
    (other_boxes (after before d) ds es k h.1 those rest (omega (arith, m)) (omega (arith, n)) ne)

pub hands_agree : (ds es : List Delta) (last other : List Interval) (k : ℕ) → AreHands ds last → AreHands es other
    → length (boxes_behind [] ds) ≡ length (boxes_behind [] es) → IsFork ds es k
    → Agree (boxes_behind [] ds) (boxes_behind [] es) k
hands_agree ds es last other k h g wide f = record {
  below = omega (arith, f.below, boxes_count [] es);
  same = same_boxes [] ds es k f.same;
  next = λ there. other_boxes [] ds es k h.chain g.chain f.same
      (omega (arith, there, wide, boxes_count [] ds)) (omega (arith, there, boxes_count [] es))
      (f.next (omega (arith, there, boxes_count [] es)));
}

-- for `Hands::leading`
pub ruleset agreed = (hands_agree, boxes_count)
