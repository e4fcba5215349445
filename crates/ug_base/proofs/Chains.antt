-- The boxes of parts stay where the working box continues, and where it goes back.
use Rattle.std.proofs.Common.{◌≡◌, refl, sym, subst, ◌∙◌, ap, ℕ, zero, suc, ◌-◌, ◌<◌, ◌≤◌, List, [], ◌∷◌, ◌++◌, length, take, drop, map, All, slice_set, ℤ, Option, Some, None, IfSome, arith}
use Rattle.std.proofs.lemmas.List.{drop-append-le, length-append, length-map, length-take-le, take-append-drop}
use Rattle.std.proofs.lemmas.List.Elements.{All-append, All-cons, All-head, All-nil, All-tail, All-take, All-weaker}
use Rattle.ug_rows.specs.declared.area.Interval.{Interval}
use Rattle.ug_rows.specs.Boxes.{IsBelow, IsNonEmpty}
use Rattle.ug_problem.specs.Instances.{Instance, bounds_of, root_of}
use Rattle.ug_problem.specs.Limits.{IsProblem}
use Rattle.ug_propagate.specs.declared.working.Trailed.{Trailed}
use Rattle.ug_propagate.specs.Running.{IsRunning}
use Rattle.ug_propagate.specs.Working.{AllAtFixpoint, AreTrailed, AreMaxSpans, AreAtFixpoint, HasBits, IsBox, IsLater, IsWorking, WentBack, WorkState, undone}
use Rattle.ug_propagate.proofs.Stepping.{max_span_below, undone_append}
use Rattle.ug_branch.specs.Choices.{AreClosed}
use Rattle.ug_base.specs.declared.open_box.OpenBox.{OpenBox}
use Rattle.ug_base.specs.Chains.{IsBase, IsChain, IsCut, IsOpenBox, KeepsBases, Rise, area_of, areas_of, base_of, narrowed}
use Rattle.ug_base.specs.Fronts.{front_of}
use Rattle.ug_rows.specs.Sums.{box_floor}
use Rattle.ug_base.specs.declared.open_box.Narrowing.{Narrowing}
use Rattle.ug_propagate.proofs.Parts.{part_nonempty, part_set}

-- of the changes kept, those behind a part's, and then those that were undone
behind : (n depth : ℕ) (trail : List Trailed) → n ≤ depth → depth ≤ length trail
    → drop n trail ≡ drop n (take depth trail) ++ drop depth trail
behind n depth trail h k =
    ap (λ (t : List Trailed). drop n t) (sym (take-append-drop depth trail))
    ∙ drop-append-le n (take depth trail) (drop depth trail) (omega (arith, length-take-le depth trail k))

-- going back keeps the boxes of parts that are not behind
pub bases_back : (depth : ℕ) (old new : WorkState) → depth ≤ length old.trail → WentBack depth old new → KeepsBases depth old new
bases_back depth old new deep h = record {
  deep = omega (arith, ap (λ (t : List Trailed). length t) h.trail, length-take-le depth old.trail deep);
  bases = λ open_box within.
      ap (λ (t : List Trailed). undone new.sums.area (drop open_box.depth t)) h.trail
      ∙ ap (λ (a : List Interval). undone a (drop open_box.depth (take depth old.trail))) h.area
      ∙ sym (undone_append old.sums.area (drop open_box.depth (take depth old.trail)) (drop depth old.trail))
      ∙ sym (ap (λ (t : List Trailed). undone old.sums.area t) (behind open_box.depth depth old.trail within deep));
}

-- continuing keeps them too
pub bases_later : (depth : ℕ) (old new : WorkState) → depth ≤ length old.trail → IsLater old new → KeepsBases depth old new
bases_later depth old new deep h = record {
  deep = omega (arith, ap (λ (t : List Trailed). length t) h.trail, length-append old.trail h.more);
  bases = λ open_box within.
      ap (λ (t : List Trailed). undone new.sums.area (drop open_box.depth t)) h.trail
      ∙ ap (λ (t : List Trailed). undone new.sums.area t) (drop-append-le open_box.depth old.trail h.more (omega arith))
      ∙ undone_append new.sums.area (drop open_box.depth old.trail) h.more
      ∙ ap (λ (a : List Interval). undone a (drop open_box.depth old.trail)) h.back;
}

pub bases_trans : (depth : ℕ) (a b c : WorkState) → KeepsBases depth a b → KeepsBases depth b c → KeepsBases depth a c
bases_trans depth a b c h k = record {
  deep = k.deep;
  bases = λ open_box within. k.bases open_box within ∙ h.bases open_box within;
}

-- the box at which a part was split off
pub back_is_base : (open_box : OpenBox) (old new : WorkState) → WentBack open_box.depth old new → new.sums.area ≡ base_of old open_box
back_is_base open_box old new h = h.area

-- what the search keeps in going back to a box below the whole one
pub base_back : (p : Instance) (whole : List Interval) (depth : ℕ) (old new : WorkState) → IsProblem p → IsBelow whole (root_of p)
    → IsBase p whole old → WentBack depth old new → IsRunning p new.sums → IsBelow new.sums.area whole → IsBase p whole new
base_back p whole depth old new problem root base h sums below =
    let wide : length whole ≡ length p.columns = root.width ∙ length-map p.columns bounds_of in
    let P : List ℕ → Type 0 = λ (queued : List ℕ). HasBits p queued in
    let C : Trailed → Type 0 = λ (change : Trailed). change.column < length p.columns in
    let max_span : AreMaxSpans p whole new.max_span = subst (AreMaxSpans p whole) (sym h.max_span) base.max_span in
    record {
      box = record {
        sums = sums;
        max_span = max_span_below p new.sums.area whole new.max_span problem wide below max_span;
        bits = subst P (sym h.queued) base.box.bits;
      };
      trail = subst (AreTrailed (length p.columns)) (sym h.trail) (All-take C depth old.trail base.trail);
      max_span = max_span;
    }

-- and in continuing
pub base_later : (p : Instance) (whole : List Interval) (old new : WorkState) → IsBase p whole old → IsLater old new → IsBox p new
    → IsBase p whole new
base_later p whole old new base h box =
    let C : Trailed → Type 0 = λ (change : Trailed). change.column < length p.columns in
    let there : AreTrailed (length p.columns) h.more = subst (λ (n : ℕ). AreTrailed n h.more) base.box.sums.width h.there in
    record {
      box = box;
      trail = subst (AreTrailed (length p.columns)) (sym h.trail) (All-append C old.trail h.more base.trail there);
      max_span = subst (AreMaxSpans p whole) (sym h.max_span) base.max_span;
    }

-- what going back to a part and setting which rows are awake gives
pub record IsBegun (p : Instance) (whole : List Interval) (cutoff : Option ℤ) (depth : ℕ) (old new : WorkState) : Type 0 where
  pub base : IsBase p whole new
  pub kept : KeepsBases depth old new
  pub working : IsWorking p cutoff new

begun_as : (p : Instance) (whole : List Interval) (cutoff : Option ℤ) (depth : ℕ) (old mid : WorkState) (queued : List ℕ)
    → IsBase p whole mid → KeepsBases depth old mid → AreAtFixpoint p cutoff mid.sums.area queued → length queued ≡ length mid.queued
    → IsBegun p whole cutoff depth old (record mid { queued = queued })
begun_as p whole cutoff depth old mid queued base kept at_fixpoint wide =
    let bits : HasBits p queued = record {
      enough = omega (arith, base.box.bits.enough, wide);
      few = omega (arith, base.box.bits.few, wide);
    } in
    let box : IsBox p (record mid { queued = queued }) = record { sums = base.box.sums; max_span = base.box.max_span; bits = bits } in
    record {
      base = record { box = box; trail = base.trail; max_span = base.max_span };
      kept = record { deep = kept.deep; bases = kept.bases };
      working = record { box = box; at_fixpoint = at_fixpoint };
    }

pub begun : (p : Instance) (whole : List Interval) (cutoff : Option ℤ) (open_box : OpenBox) (old mid new : WorkState) → IsProblem p
    → IsBelow whole (root_of p) → IsBase p whole old → IsOpenBox p whole old open_box → WentBack open_box.depth old mid
    → IsRunning p mid.sums → AreAtFixpoint p cutoff new.sums.area new.queued → new ≡ record mid { queued = new.queued }
    → length new.queued ≡ length mid.queued → IsBegun p whole cutoff open_box.depth old new
begun p whole cutoff open_box old mid new problem root base is back sums at_fixpoint others wide =
    let below : IsBelow mid.sums.area whole = subst (λ (a : List Interval). IsBelow a whole) (sym back.area) is.below in
    let mid_base : IsBase p whole mid = base_back p whole open_box.depth old mid problem root base back sums below in
    let kept : KeepsBases open_box.depth old mid = bases_back open_box.depth old mid is.deep back in
    let same : new.sums.area ≡ mid.sums.area = ap (λ (w : WorkState). w.sums.area) others in
    let rest : AreAtFixpoint p cutoff mid.sums.area new.queued =
    subst (λ (a : List Interval). AreAtFixpoint p cutoff a new.queued) same at_fixpoint in
    subst (λ (w : WorkState). IsBegun p whole cutoff open_box.depth old w) (sym others)
    (begun_as p whole cutoff open_box.depth old mid new.queued mid_base kept rest wide)

-- a box of which a column is narrowed has a point
pub cut_some : (p : Instance) (base area : List Interval) (cut : Option Narrowing) → length base ≡ length p.columns → IsCut p base cut
    → area ≡ narrowed cut base → IfSome cut (λ narrowing. IsNonEmpty area)
cut_some p base area None wide h e = tt
cut_some p base area (Some cut) wide h e =
    let put : List Interval = slice_set base cut.column cut.side in
    subst IsNonEmpty (sym e)
    (part_nonempty put base (part_set base cut.column cut.side h.some (omega (arith, h.there, wide)) h.inner))

map_same : (f g : OpenBox → List Interval) (open_boxes : List OpenBox) → All (λ (open_box : OpenBox). f open_box ≡ g open_box) open_boxes → map f open_boxes ≡ map g open_boxes
map_same f g [] h = refl
map_same f g (open_box ∷ open_boxes) h =
    let P : OpenBox → Type 0 = λ (q : OpenBox). f q ≡ g q in
    ap (λ (a : List Interval). a ∷ map f open_boxes) (All-head P open_box open_boxes h)
    ∙ ap (λ (as_ : List (List Interval)). g open_box ∷ as_) (map_same f g open_boxes (All-tail P open_box open_boxes h))

abbrev is_at_most : ℕ → OpenBox → Type 0
is_at_most depth open_box = open_box.depth ≤ depth

abbrev is_at_least : ℕ → OpenBox → Type 0
is_at_least depth open_box = depth ≤ open_box.depth

all_last : (P : OpenBox → Type 0) (open_boxes : List OpenBox) (last : OpenBox) → All P (open_boxes ++ last ∷ []) → P last
all_last P [] last h = All-head P last [] h
all_last P (open_box ∷ open_boxes) last h = all_last P open_boxes last (All-tail P open_box (open_boxes ++ last ∷ []) h)

-- no part has more changes than the last
last_deepest : (open_boxes : List OpenBox) (last : OpenBox) → Rise (open_boxes ++ last ∷ []) → All (is_at_most last.depth) (open_boxes ++ last ∷ [])
last_deepest [] last h = All-cons (is_at_most last.depth) last [] (omega arith) (All-nil (is_at_most last.depth))
last_deepest (open_box ∷ open_boxes) last h =
    All-cons (is_at_most last.depth) open_box (open_boxes ++ last ∷ [])
    (all_last (is_at_least open_box.depth) open_boxes last h.0) (last_deepest open_boxes last h.1)

-- the parts of a search where the working box keeps their boxes
pub open_box_kept : (p : Instance) (whole : List Interval) (depth : ℕ) (old new : WorkState) (open_box : OpenBox) → open_box.depth ≤ depth
    → KeepsBases depth old new → IsOpenBox p whole old open_box → IsOpenBox p whole new open_box
open_box_kept p whole depth old new open_box within h is =
    let same : base_of old open_box ≡ base_of new open_box = sym (h.bases open_box within) in
    record {
      deep = omega (arith, h.deep);
      below = subst (λ (a : List Interval). IsBelow a whole) same is.below;
      cut = subst (λ (a : List Interval). IsCut p a open_box.cut) same is.cut;
      fixpoint = subst (λ (a : List Interval). AllAtFixpoint p open_box.fixpoint a) same is.fixpoint;
      floor = subst (λ (a : List Interval). open_box.floor ≡ box_floor p.objective (narrowed open_box.cut a)) same is.floor;
      closed = subst (λ (a : List Interval). AreClosed open_box.closed (narrowed open_box.cut a)) same is.closed;
    }

all_kept : (p : Instance) (whole : List Interval) (depth : ℕ) (old new : WorkState) (open_boxes : List OpenBox) → KeepsBases depth old new
    → All (is_at_most depth) open_boxes → All (IsOpenBox p whole old) open_boxes → All (IsOpenBox p whole new) open_boxes
all_kept p whole depth old new [] h deep each = All-nil (IsOpenBox p whole new)
all_kept p whole depth old new (open_box ∷ open_boxes) h deep each =
    All-cons (IsOpenBox p whole new) open_box open_boxes
    (open_box_kept p whole depth old new open_box (All-head (is_at_most depth) open_box open_boxes deep) h (All-head (IsOpenBox p whole old) open_box open_boxes each))
    (all_kept p whole depth old new open_boxes h (All-tail (is_at_most depth) open_box open_boxes deep) (All-tail (IsOpenBox p whole old) open_box open_boxes each))

-- no part before the last has more changes than it
deepest : (open_boxes : List OpenBox) (last : OpenBox) → open_boxes ≡ front_of open_boxes ++ last ∷ [] → Rise open_boxes → All (is_at_most last.depth) open_boxes
deepest open_boxes last e rising =
    subst (λ (ps : List OpenBox). All (is_at_most last.depth) ps) (sym e) (last_deepest (front_of open_boxes) last (subst Rise e rising))

pub chain_kept : (p : Instance) (whole : List Interval) (old new : WorkState) (open_boxes : List OpenBox) (last : OpenBox)
    → IsChain p whole old open_boxes → open_boxes ≡ front_of open_boxes ++ last ∷ [] → IsBase p whole new → KeepsBases last.depth old new
    → IsChain p whole new open_boxes
chain_kept p whole old new open_boxes last chain e base h = record {
  base = base;
  each = all_kept p whole last.depth old new open_boxes h (deepest open_boxes last e chain.rising) chain.each;
  rising = chain.rising;
}

pub areas_kept : (old new : WorkState) (open_boxes : List OpenBox) (last : OpenBox) → Rise open_boxes → open_boxes ≡ front_of open_boxes ++ last ∷ []
    → KeepsBases last.depth old new → areas_of new open_boxes ≡ areas_of old open_boxes
areas_kept old new open_boxes last rising e h =
    map_same (area_of new) (area_of old) open_boxes
    (All-weaker (is_at_most last.depth) (λ (open_box : OpenBox). area_of new open_box ≡ area_of old open_box)
    (λ open_box within. ap (λ (a : List Interval). narrowed open_box.cut a) (h.bases open_box within)) open_boxes (deepest open_boxes last e rising))

pub last_open_box : (p : Instance) (whole : List Interval) (work : WorkState) (open_boxes : List OpenBox) (last : OpenBox) → IsChain p whole work open_boxes
    → open_boxes ≡ front_of open_boxes ++ last ∷ [] → IsOpenBox p whole work last
last_open_box p whole work open_boxes last chain e =
    all_last (IsOpenBox p whole work) (front_of open_boxes) last (subst (λ (ps : List OpenBox). All (IsOpenBox p whole work) ps) e chain.each)

-- the first part too
pub first_open_box : (p : Instance) (whole : List Interval) (work : WorkState) (open_boxes : List OpenBox) (first : OpenBox) → IsChain p whole work open_boxes
    → open_boxes ≡ first ∷ drop 1 open_boxes → IsOpenBox p whole work first
first_open_box p whole work open_boxes first chain e =
    All-head (IsOpenBox p whole work) first (drop 1 open_boxes) (subst (λ (ps : List OpenBox). All (IsOpenBox p whole work) ps) e chain.each)

rise_take : (n : ℕ) (open_boxes : List OpenBox) → Rise open_boxes → Rise (take n open_boxes)
rise_take zero open_boxes h = tt
rise_take (suc n) [] h = tt
rise_take (suc n) (open_box ∷ open_boxes) h = (All-take (is_at_least open_box.depth) n open_boxes h.0, rise_take n open_boxes h.1)

-- without the last part
pub chain_front : (p : Instance) (whole : List Interval) (work : WorkState) (open_boxes : List OpenBox) → IsChain p whole work open_boxes
    → IsChain p whole work (front_of open_boxes)
chain_front p whole work open_boxes chain = record {
  base = chain.base;
  each = All-take (IsOpenBox p whole work) (length open_boxes - 1) open_boxes chain.each;
  rising = rise_take (length open_boxes - 1) open_boxes chain.rising;
}

-- without the first
pub chain_rest : (p : Instance) (whole : List Interval) (work : WorkState) (open_box : OpenBox) (old rest open_boxes : List OpenBox)
    → IsChain p whole work old → old ≡ open_box ∷ rest → open_boxes ≡ rest → IsChain p whole work open_boxes
chain_rest p whole work open_box old rest open_boxes chain e left =
    let c : IsChain p whole work (open_box ∷ rest) = subst (IsChain p whole work) e chain in
    subst (IsChain p whole work) (sym left) (record {
      base = c.base;
      each = All-tail (IsOpenBox p whole work) open_box rest c.each;
      rising = c.rising.1;
    })

rise_two : (open_boxes : List OpenBox) (a b : OpenBox) → Rise open_boxes → All (is_at_most a.depth) open_boxes → a.depth ≤ b.depth
    → Rise (open_boxes ++ a ∷ b ∷ [])
rise_two [] a b h deep later =
    (All-cons (is_at_least a.depth) b [] later (All-nil (is_at_least a.depth)), (All-nil (is_at_least b.depth), tt))
rise_two (open_box ∷ open_boxes) a b h deep later =
    let first : open_box.depth ≤ a.depth = All-head (is_at_most a.depth) open_box open_boxes deep in (
      All-append (is_at_least open_box.depth) open_boxes (a ∷ b ∷ []) h.0
          (All-cons (is_at_least open_box.depth) a (b ∷ []) first
          (All-cons (is_at_least open_box.depth) b [] (omega arith) (All-nil (is_at_least open_box.depth)))),
      rise_two open_boxes a b h.1 (All-tail (is_at_most a.depth) open_box open_boxes deep) later,
    )

-- with two parts of the working box in the last one's place
pub chain_split : (p : Instance) (whole : List Interval) (work : WorkState) (old : List OpenBox) (first second : OpenBox)
    → IsChain p whole work old → IsOpenBox p whole work first → IsOpenBox p whole work second
    → first.depth ≡ length work.trail → second.depth ≡ length work.trail → IsChain p whole work (front_of old ++ second ∷ first ∷ [])
chain_split p whole work old first second chain a b deep_first deep_second =
    let c : IsChain p whole work (front_of old) = chain_front p whole work old chain in
    let deep : All (is_at_most second.depth) (front_of old) =
    All-weaker (IsOpenBox p whole work) (is_at_most second.depth) (λ open_box is. omega (arith, is.deep)) (front_of old) c.each in
    record {
      base = c.base;
      each = All-append (IsOpenBox p whole work) (front_of old) (second ∷ first ∷ []) c.each
          (All-cons (IsOpenBox p whole work) second (first ∷ []) b
          (All-cons (IsOpenBox p whole work) first [] a (All-nil (IsOpenBox p whole work))));
      rising = rise_two (front_of old) second first c.rising deep (omega arith);
    }

areas_take : (n : ℕ) (work : WorkState) (open_boxes : List OpenBox) → areas_of work (take n open_boxes) ≡ take n (areas_of work open_boxes)
areas_take zero work open_boxes = refl
areas_take (suc n) work [] = refl
areas_take (suc n) work (open_box ∷ open_boxes) = ap (λ bs. area_of work open_box ∷ bs) (areas_take n work open_boxes)

-- the boxes but the last
pub areas_front : (work : WorkState) (open_boxes : List OpenBox) → areas_of work (front_of open_boxes) ≡ front_of (areas_of work open_boxes)
areas_front work open_boxes =
    areas_take (length open_boxes - 1) work open_boxes
    ∙ ap (λ n. take (n - 1) (areas_of work open_boxes)) (sym (length-map open_boxes (area_of work)))

pub areas_append : (work : WorkState) (open_boxes more : List OpenBox)
    → areas_of work (open_boxes ++ more) ≡ areas_of work open_boxes ++ areas_of work more
areas_append work [] more = refl
areas_append work (open_box ∷ open_boxes) more = ap (λ bs. area_of work open_box ∷ bs) (areas_append work open_boxes more)

-- the boxes are those before the last, and others behind
pub areas_behind : (work : WorkState) (open_boxes old more : List OpenBox) → open_boxes ≡ front_of old ++ more
    → areas_of work open_boxes ≡ front_of (areas_of work old) ++ areas_of work more
areas_behind work open_boxes old more e =
    ap (areas_of work) e ∙ areas_append work (front_of old) more ∙ ap (λ bs. bs ++ areas_of work more) (areas_front work old)
