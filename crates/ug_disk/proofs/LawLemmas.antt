-- The laws of the disk's model.
use Rattle.std.proofs.Common.{◌≡◌, ◌⊎◌, inl, inr, ⊎_elim, ℕ, ◌+◌, ◌-◌, ◌<◌, ◌≤◌, List, [], ◌∷◌, length, take, drop, get_or, sym, ◌∙◌, ap, subst, arith}
use Rattle.std.proofs.lemmas.List.{ext_get_or, length-take, length-drop, get_or-take, get_or-drop}
use Rattle.std.proofs.lemmas.List.Quantifiers.{Any-push}
use Rattle.std.proofs.lemmas.Bool.{cases_lt}
use Rattle.ug_disk.specs.declared.slot.Span.{Span}
use Rattle.ug_disk.specs.Slots.{SlotState, IsLoose, MayLeave, IsReal, synced, loosened, written}
use Rattle.ug_disk.specs.Laws.{IsTorn, WriteIsTorn, SyncLeavesOne, WriteEndsAsItGoes, WriteLoosens}
use Rattle.ug_disk.proofs.Images.{only_bytes, bytes_left, within_writing, put_elsewhere, loose_either, loose_more}

loose_one : (span : Span) (place : ℕ) → IsLoose (span ∷ []) place
    → (span.from ≤ place) × (place < span.end)
loose_one span place loose =
    ⊎_elim (λ none. absurd (omega (arith, none.2))) (λ inside. inside)
    (loose_either [] span place loose)

-- outside of the place a byte is there
kept_outside : (at n : ℕ) (bytes image : List ℕ) → MayLeave (loosened at n (synced bytes)) image
    → (place : ℕ) → place < length bytes → ((place < at) ⊎ (at + n ≤ place))
    → get_or image place 0 ≡ get_or bytes place 0
kept_outside at n bytes image left place here outside = ⊎_elim
    (λ loose. absurd (
    let inside = loose_one _ place loose in
    ⊎_elim (λ before. omega (arith, inside)) (λ after. omega (arith, inside)) outside
    ))
    (λ same. same) (left.kept place here)

torn : (at n : ℕ) (bytes image : List ℕ) → at ≤ length bytes
    → MayLeave (loosened at n (synced bytes)) image → IsTorn at n bytes image
torn at n bytes image here left = record {
  before = ext_get_or 0 (take at image) (take at bytes) (omega
      (arith, length-take at image, length-take at bytes, left.no_shorter))
      (λ place inside.
      let front : place < at = omega (arith, length-take at image) in
      get_or-take at image place 0 front
      ∙ kept_outside at n bytes image left place (omega arith) (inl front)
      ∙ sym (get_or-take at bytes place 0 front));
  after = ext_get_or 0 (drop (at + n) image) (drop (at + n) bytes) (omega
      (arith, length-drop (at + n) image, length-drop (at + n) bytes, left.no_shorter, left.no_longer))
      (λ place inside.
      get_or-drop (at + n) image place 0
      ∙ kept_outside at n bytes image left (at + n + place) (omega
      (arith, length-drop (at + n) image, left.no_longer)) (inr (omega arith))
      ∙ sym (get_or-drop (at + n) bytes place 0));
  no_shorter = left.no_shorter;
  no_longer = left.no_longer;
}

left_torn : (at n : ℕ) (bytes image : List ℕ) → at ≤ length bytes → IsTorn at n bytes image
    → MayLeave (loosened at n (synced bytes)) image
left_torn at n bytes image here is = record {
  no_shorter = is.no_shorter;
  no_longer = is.no_longer;
  kept = λ place there. elim (cases_lt place at) [
    | inl before ↦ inr (sym (get_or-take at image place 0 before)
        ∙ ap (λ (l : List ℕ). get_or l place 0) is.before ∙ get_or-take at bytes place 0 before)
    | inr after ↦ elim (cases_lt place (at + n)) [
      | inl inside ↦ inl (Any-push _ [] _ (after, inside))
      | inr behind ↦ inr (
          let split : at + n + (place - (at + n)) ≡ place = omega arith in
          ap (λ k. get_or image k 0) (sym split)
          ∙ sym (get_or-drop (at + n) image (place - (at + n)) 0)
          ∙ ap (λ (l : List ℕ). get_or l (place - (at + n)) 0) is.after
          ∙ get_or-drop (at + n) bytes (place - (at + n)) 0
          ∙ ap (λ k. get_or bytes k 0) split
          )
    ]
  ];
}

pub write_is_torn : WriteIsTorn
write_is_torn at n bytes image here = (torn at n bytes image here, left_torn at n bytes image here)

pub sync_leaves_one : SyncLeavesOne
sync_leaves_one bytes image = (
  only_bytes bytes image,
  λ is. subst (λ l. MayLeave (synced bytes) l)
      (sym is) (bytes_left bytes),
)

-- a byte at a loose place may be any
ends : (at : ℕ) (piece : List ℕ) (slot : SlotState) (image : List ℕ) → IsReal slot
    → at ≤ length slot.bytes
    → MayLeave (loosened at (length piece) slot) image → MayLeave (written at piece slot) image
ends at piece slot image real here left = record {
  no_shorter = left.no_shorter;
  no_longer = left.no_longer;
  kept = λ place old. ⊎_elim (λ loose. inl loose)
      (λ same. ⊎_elim (λ inside. inl (Any-push _ slot.loose _ inside)) (λ elsewhere. inr (same
      ∙ sym elsewhere))
      (put_elsewhere at piece slot.bytes place here (omega (arith, old, real.no_shorter))))
      (left.kept place old);
}

pub ends_as_it_goes : WriteEndsAsItGoes
ends_as_it_goes at piece slot image real here = (
  within_writing at piece slot image real here,
  ends
      at piece slot image real here,
)

pub write_loosens : WriteLoosens
write_loosens at n slot place = (
  λ loose. loose_either slot.loose (record { from = at; end = at + n }) place loose,
  λ either. ⊎_elim
      (λ loose. loose_more slot.loose (record { from = at; end = at + n }) place loose)
      (λ inside. Any-push _ slot.loose (record { from = at; end = at + n }) inside) either,
)
