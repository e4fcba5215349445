-- The least floor of the parts up to each.
use Rattle.std.proofs.Common.{◌≡◌, ◌∙◌, refl, sym, ap, subst, ℕ, zero, suc, ◌+◌, ◌-◌, ◌<◌, ◌≤◌, ℤ, List, [], ◌∷◌, ◌++◌, length, map, take, drop, slice_index_or, slice_set, Option, Some, None, Result, Ok, Err, OnErr, OnOk, append_assoc, append-nil, arith}
use Rattle.std.proofs.lemmas.List.{drop_all, drop_more, get_or-map, get_or_at, length-append, length-drop, length-map, length-take-le, map-append, set_at, take-map, take_all, take_more}
use Rattle.ug_base.specs.declared.open_box.OpenBox.{OpenBox}
use Rattle.ug_base.specs.declared.open_boxes.Kept.{Kept}
use Rattle.ug_base.specs.Chains.{no_open_box, unsettled}
use Rattle.ug_base.specs.Floors.{AreLeasts, least_of, open_boxes_in, renewed, unsettled_kept, with_least}
use Rattle.ug_base.specs.Fronts.{front_of}
use Rattle.ug_base.specs.Tasks.{lesser_of}
use Rattle.ug_base.proofs.LastBox.{halves_put}

-- one that stands for one that is not there
abbrev pub no_kept : Kept
no_kept = record { open_box = no_open_box; least = no_open_box.floor }

-- a fact that is kept beside parts holds beside the first of them
pub leasts_take : (n : ℕ) (before : Option ℤ) (kept : List Kept) → AreLeasts before kept → AreLeasts before (take n kept)
leasts_take zero before kept h = tt
leasts_take (suc n) before [] h = tt
leasts_take (suc n) before (one ∷ kept) h = (h.0, leasts_take n (Some one.least) kept h.1)

pub leasts_front : (before : Option ℤ) (old new : List Kept) → new ≡ front_of old → AreLeasts before old → AreLeasts before new
leasts_front before old new e h = subst (AreLeasts before) (sym e) (leasts_take (length old - 1) before old h)

-- with more behind them
leasts_behind : (before : Option ℤ) (kept more : List Kept) → AreLeasts before kept → AreLeasts (least_of before kept) more
    → AreLeasts before (kept ++ more)
leasts_behind before [] more h k = k
leasts_behind before (one ∷ kept) more h k = (h.0, leasts_behind (Some one.least) kept more h.1 k)

leasts_same : (before : Option ℤ) (kept : List Kept) → AreLeasts before kept → AreLeasts before (map unsettled_kept kept)
leasts_same before [] h = tt
leasts_same before (one ∷ kept) h = (h.0, leasts_same (Some one.least) kept h.1)

pub leasts_unsettled : (before : Option ℤ) (old new : List Kept) → new ≡ map unsettled_kept old → AreLeasts before old
    → AreLeasts before new
leasts_unsettled before old new e h = subst (AreLeasts before) (sym e) (leasts_same before old h)

leasts_renewed : (before : Option ℤ) (open_boxes : List OpenBox) → AreLeasts before (renewed before open_boxes)
leasts_renewed before [] = tt
leasts_renewed before (open_box ∷ open_boxes) = (refl, leasts_renewed (Some (lesser_of before open_box.floor)) open_boxes)

-- with others in the last one's place
pub leasts_put : (before : Option ℤ) (old new : List Kept) (more : List OpenBox)
    → new ≡ front_of old ++ renewed (least_of before (front_of old)) more → AreLeasts before old → AreLeasts before new
leasts_put before old new more e h =
    subst (AreLeasts before) (sym e)
    (leasts_behind before (front_of old) (renewed (least_of before (front_of old)) more)
    (leasts_take (length old - 1) before old h) (leasts_renewed (least_of before (front_of old)) more))

pub leasts_anew : (open_boxes : List OpenBox) (new : List Kept) → new ≡ renewed None open_boxes → AreLeasts None new
leasts_anew open_boxes new e = subst (AreLeasts None) (sym e) (leasts_renewed None open_boxes)

-- the parts themselves are not changed by the least beside them
open_boxes_renewed : (before : Option ℤ) (open_boxes : List OpenBox) → open_boxes_in (renewed before open_boxes) ≡ open_boxes
open_boxes_renewed before [] = refl
open_boxes_renewed before (open_box ∷ open_boxes) = ap (λ (ps : List OpenBox). open_box ∷ ps) (open_boxes_renewed (Some (lesser_of before open_box.floor)) open_boxes)

pub open_boxes_anew : (open_boxes : List OpenBox) (new : List Kept) → new ≡ renewed None open_boxes → open_boxes_in new ≡ open_boxes
open_boxes_anew open_boxes new e = ap open_boxes_in e ∙ open_boxes_renewed None open_boxes

open_boxes_all_unsettled : (kept : List Kept) → open_boxes_in (map unsettled_kept kept) ≡ map unsettled (open_boxes_in kept)
open_boxes_all_unsettled [] = refl
open_boxes_all_unsettled (one ∷ kept) = ap (λ (ps : List OpenBox). unsettled one.open_box ∷ ps) (open_boxes_all_unsettled kept)

pub open_boxes_unsettled : (old new : List Kept) → new ≡ map unsettled_kept old → open_boxes_in new ≡ map unsettled (open_boxes_in old)
open_boxes_unsettled old new e = ap open_boxes_in e ∙ open_boxes_all_unsettled old

-- the parts but the last
pub open_boxes_front : (old new : List Kept) → new ≡ front_of old → open_boxes_in new ≡ front_of (open_boxes_in old)
open_boxes_front old new e =
    ap open_boxes_in e ∙ sym (take-map (λ (one : Kept). one.open_box) (length old - 1) old)
    ∙ ap (λ (n : ℕ). take (n - 1) (open_boxes_in old)) (sym (length-map old (λ (one : Kept). one.open_box)))

-- and others behind them
pub open_boxes_put : (old new : List Kept) (before : Option ℤ) (more : List OpenBox) → new ≡ front_of old ++ renewed before more
    → open_boxes_in new ≡ front_of (open_boxes_in old) ++ more
open_boxes_put old new before more e =
    ap open_boxes_in e ∙ map-append (λ (one : Kept). one.open_box) (front_of old) (renewed before more)
    ∙ ap (λ (ps : List OpenBox). ps ++ open_boxes_in (renewed before more)) (open_boxes_front old (front_of old) refl)
    ∙ ap (λ (ps : List OpenBox). front_of (open_boxes_in old) ++ ps) (open_boxes_renewed before more)

-- what follows of what holds where there was no error
pub on_ok : {T E P Q : Type 0} (r : Result T E) → OnOk r P → (P → Q) → OnOk r Q
on_ok (Ok x) h f = f h
on_ok (Err e) h f = tt

-- and with or without one
pub by_result : {T E P Q R : Type 0} (r : Result T E) → OnOk r P → OnErr r Q → (P → R) → (Q → R) → R
by_result (Ok x) p q f g = f p
by_result (Err e) p q f g = g q

-- the least beside the last part is the least of all
pub least_of_last : (before : Option ℤ) (kept : List Kept) (last : Kept) → least_of before (kept ++ last ∷ []) ≡ Some last.least
least_of_last before [] last = refl
least_of_last before (one ∷ kept) last = least_of_last (Some one.least) kept last

pub least_of_first : (before : Option ℤ) (kept : List Kept) (k : ℕ) → k < length kept
    → least_of before (take (suc k) kept) ≡ Some (slice_index_or kept k no_kept).least
least_of_first before [] k there = absurd (omega (arith, there))
least_of_first before (one ∷ kept) zero there = refl
least_of_first before (one ∷ kept) (suc k) there = least_of_first (Some one.least) kept k (omega (arith, there))

-- two parts with their leasts in the last one's place
pub halves_renewed : (kept : List Kept) (first second : OpenBox) (led_first led_second : Kept) (before least : Option ℤ)
    → 0 < length kept → least ≡ least_of before (front_of kept) → led_second ≡ with_least least second
    → led_first ≡ with_least (Some led_second.least) first
    → slice_set (kept ++ led_first ∷ []) (length kept - 1) led_second
    ≡ front_of kept ++ renewed (least_of before (front_of kept)) (second ∷ first ∷ [])
halves_renewed kept first second led_first led_second before least some e two one =
    let b : Option ℤ = least_of before (front_of kept) in
    let is_two : led_second ≡ with_least b second = two ∙ ap (λ (o : Option ℤ). with_least o second) e in
    let is_one : led_first ≡ with_least (Some (lesser_of b second.floor)) first =
    one ∙ ap (λ (led : Kept). with_least (Some led.least) first) is_two in
    halves_put kept led_first led_second some
    ∙ ap (λ (led : Kept). front_of kept ++ led ∷ led_first ∷ []) is_two
    ∙ ap (λ (led : Kept). front_of kept ++ with_least b second ∷ led ∷ []) is_one

renewed_length : (before : Option ℤ) (open_boxes : List OpenBox) → length (renewed before open_boxes) ≡ length open_boxes
renewed_length before [] = refl
renewed_length before (open_box ∷ open_boxes) = ap (λ (n : ℕ). suc n) (renewed_length (Some (lesser_of before open_box.floor)) open_boxes)

renewed_push : (before : Option ℤ) (open_boxes : List OpenBox) (open_box : OpenBox)
    → renewed before (open_boxes ++ open_box ∷ [])
    ≡ renewed before open_boxes ++ with_least (least_of before (renewed before open_boxes)) open_box ∷ []
renewed_push before [] open_box = refl
renewed_push before (first ∷ open_boxes) open_box =
    ap (λ (ks : List Kept). with_least before first ∷ ks) (renewed_push (Some (lesser_of before first.floor)) open_boxes open_box)

-- the first k parts are renewed, and the least beside the last of them is this
pub record AreRenewedTo (k : ℕ) (old now : List Kept) (before : Option ℤ) : Type 0 where
  pub kept : now ≡ renewed None (take k (open_boxes_in old)) ++ drop k old
  pub least : before ≡ least_of None (renewed None (take k (open_boxes_in old)))

pub none_renewed : (kept : List Kept) → AreRenewedTo 0 kept kept None
none_renewed kept = record { kept = refl; least = refl }

pub one_renewed : (old now : List Kept) (k : ℕ) (before : Option ℤ) (read led : Kept) → k < length old
    → AreRenewedTo k old now before → read ≡ slice_index_or now k read → led ≡ with_least before read.open_box
    → AreRenewedTo (k + 1) old (slice_set now k led) (Some led.least)
one_renewed old now k before read led there h at is =
    let open_boxes : List OpenBox = open_boxes_in old in
    let done : List Kept = renewed None (take k open_boxes) in
    let behind : List Kept = drop (k + 1) old in
    let next : Kept = slice_index_or old k no_kept in
    let wide : length open_boxes ≡ length old = length-map old (λ (one : Kept). one.open_box) in
    let count : length done ≡ k = renewed_length None (take k open_boxes) ∙ length-take-le k open_boxes (omega (arith, there, wide)) in
    let split : now ≡ done ++ next ∷ behind =
    h.kept ∙ ap (λ (ks : List Kept). done ++ ks) (drop_more old k no_kept there) in
    let here : read ≡ next =
    at ∙ ap (λ (ks : List Kept). slice_index_or ks k read) split ∙ get_or_at done next behind read k count in
    let open_box_is : slice_index_or open_boxes k no_open_box ≡ next.open_box = get_or-map (λ (one : Kept). one.open_box) old k no_kept no_open_box there in
    let same : led ≡ with_least (least_of None done) next.open_box =
    is ∙ ap (λ (q : Kept). with_least before q.open_box) here ∙ ap (λ (b : Option ℤ). with_least b next.open_box) h.least in
    let more : renewed None (take (k + 1) open_boxes) ≡ done ++ led ∷ [] =
    ap (λ (ps : List OpenBox). renewed None ps) (take_more open_boxes k no_open_box (omega (arith, there, wide)))
    ∙ renewed_push None (take k open_boxes) (slice_index_or open_boxes k no_open_box)
    ∙ ap (λ (q : OpenBox). done ++ with_least (least_of None done) q ∷ []) open_box_is
    ∙ ap (λ (q : Kept). done ++ q ∷ []) (sym same) in
    record {
      kept = ap (λ (ks : List Kept). slice_set ks k led) split ∙ set_at done next behind led k count
          ∙ sym (append_assoc done (led ∷ []) behind) ∙ ap (λ (ks : List Kept). ks ++ behind) (sym more);
      least = sym (ap (λ (ks : List Kept). least_of None ks) more ∙ least_of_last None done led);
    }

pub renewed_count : (old now : List Kept) (k : ℕ) (before : Option ℤ) → k ≤ length old → AreRenewedTo k old now before
    → length now ≡ length old
renewed_count old now k before within h =
    let open_boxes : List OpenBox = open_boxes_in old in
    let wide : length open_boxes ≡ length old = length-map old (λ (one : Kept). one.open_box) in
    let done : length (renewed None (take k open_boxes)) ≡ k =
    renewed_length None (take k open_boxes) ∙ length-take-le k open_boxes (omega (arith, within, wide)) in
    omega (
      arith,
      within,
      done,
      ap (λ (ks : List Kept). length ks) h.kept,
      length-append (renewed None (take k open_boxes)) (drop k old),
      length-drop k old,
    )

pub all_renewed : (old now : List Kept) (k : ℕ) (before : Option ℤ) → length old ≤ k → AreRenewedTo k old now before
    → now ≡ renewed None (open_boxes_in old)
all_renewed old now k before all h =
    let open_boxes : List OpenBox = open_boxes_in old in
    let wide : length open_boxes ≡ length old = length-map old (λ (one : Kept). one.open_box) in
    h.kept ∙ ap (λ (ps : List OpenBox). renewed None ps ++ drop k old) (take_all k open_boxes (omega (arith, all, wide)))
    ∙ ap (λ (ks : List Kept). renewed None open_boxes ++ ks) (drop_all k old all) ∙ append-nil (renewed None open_boxes)
