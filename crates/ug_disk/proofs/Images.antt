-- How the images that a crash may leave of a slot grow and shrink.
use Rattle.std.proofs.Common.{◌≡◌, ◌⊎◌, inl, inr, ⊎_elim, ℕ, ◌+◌, ◌<◌, ◌≤◌, List, [], ◌∷◌, ◌++◌, length, take, drop, get_or, refl, sym, subst, ◌∙◌, arith, length-append}
use Rattle.std.proofs.lemmas.List.{ext_get_or, length-take, length-drop, get_or_append_left, get_or_push, length_push, places}
use Rattle.std.proofs.lemmas.List.Quantifiers.{Any-push}
use Rattle.std.proofs.lemmas.Bool.{cases_lt}
use Rattle.ug_disk.specs.declared.slot.Span.{Span}
use Rattle.ug_disk.specs.Slots.{SlotState, IsLoose, MayLeave, IsReal, synced, loosened, written, put_at}

-- loose bytes stay loose
pub loose_more : (spans : List Span) (span : Span) (place : ℕ) → IsLoose spans place
    → IsLoose (spans ++ span ∷ []) place
loose_more spans span place loose = (
  loose.0,
  loose.1,
  omega (arith, loose.2, length-append spans (span ∷ [])),
  get_or_append_left spans (span ∷ []) loose.1 loose.0 loose.2 ∙ loose.3,
  loose.4,
)

-- and more is what lies in the last place
pub loose_either : (spans : List Span) (span : Span) (place : ℕ)
    → IsLoose (spans ++ span ∷ []) place
    → IsLoose spans place ⊎ ((span.from ≤ place) × (place < span.end))
loose_either spans span place loose = elim (cases_lt loose.0 (length spans)) [
  | inl before ↦ inl (
    loose.0,
    loose.1,
    before,
    sym (get_or_append_left spans (span ∷ []) loose.1 loose.0 before) ∙ loose.3,
    loose.4,
  )
  | inr behind ↦ inr (
      let last : length spans ≡ loose.0 = omega (arith, behind, loose.2, length_push spans span) in
      let is : span ≡ loose.1 = sym (get_or_push spans span loose.1 loose.0 last) ∙ loose.3 in
      subst (λ (s : Span). (s.from ≤ place) × (place < s.end)) (sym is) loose.4
      )
]

-- after a sync a crash leaves what a read gives, and nothing else
pub only_bytes : (bytes image : List ℕ) → MayLeave (synced bytes) image → image ≡ bytes
only_bytes bytes image left =
    ext_get_or 0 image bytes (omega (arith, left.no_shorter, left.no_longer))
    (λ place here. ⊎_elim (λ loose. absurd (omega (arith, loose.2))) (λ same. same)
    (left.kept place (omega (arith, left.no_longer))))

pub bytes_left : (bytes : List ℕ) → MayLeave (synced bytes) bytes
bytes_left bytes = record {
  no_shorter = omega arith;
  no_longer = omega arith;
  kept = λ place here.
      inr refl;
}

-- what a crash may leave before a write it may leave while it is made
pub grows : (at n : ℕ) (slot : SlotState) (image : List ℕ) → MayLeave slot image
    → MayLeave (loosened at n slot) image
grows at n slot image left = record {
  no_shorter = left.no_shorter;
  no_longer = omega (arith, left.no_longer);
  kept = λ place here. ⊎_elim (λ loose. inl (loose_more slot.loose _ place loose)) (λ same. inr
      same) (left.kept place here);
}

-- outside of its place a write leaves the bytes as they were
pub put_elsewhere : (at : ℕ) (piece bytes : List ℕ) (place : ℕ) → at ≤ length bytes
    → place < length bytes
    → ((at ≤ place) × (place < at + length piece)) ⊎ (get_or (put_at at piece bytes) place 0 ≡
    get_or bytes place 0)
put_elsewhere at piece bytes place here there = elim (cases_lt place at) [
  | inl before ↦ inr (grind (arith, places))
  | inr after ↦ elim (cases_lt place (at + length piece)) [
    | inl inside ↦ inl (after, inside)
    | inr behind ↦ inr (grind (arith, places))
  ]
]

-- what a crash may leave after a write it may leave while it is made
pub within_writing : (at : ℕ) (piece : List ℕ) (slot : SlotState) (image : List ℕ) → IsReal slot
    → at ≤ length slot.bytes
    → MayLeave (written at piece slot) image → MayLeave (loosened at (length piece) slot) image
within_writing at piece slot image real here left = record {
  no_shorter = left.no_shorter;
  no_longer = left.no_longer;
  kept = λ place old. ⊎_elim (λ loose. inl loose)
      (λ same. ⊎_elim (λ inside. inl (Any-push _ slot.loose _ inside)) (λ elsewhere. inr (same
      ∙ elsewhere))
      (put_elsewhere at piece slot.bytes place here (omega (arith, old, real.no_shorter))))
      (left.kept place old);
}

-- what a read gives is real after a write
pub real_written : (at : ℕ) (piece : List ℕ) (slot : SlotState) → IsReal slot
    → at ≤ length slot.bytes → IsReal (written at piece slot)
real_written at piece slot real here =
    let size = length-append (take at slot.bytes ++ piece) (drop (at + length piece) slot.bytes) in
    let front = length-append (take at slot.bytes) piece in
    record {
      no_shorter = omega (
        arith,
        real.no_shorter,
        size,
        front,
        length-take at slot.bytes,
        length-drop (at + length piece) slot.bytes,
      );
      no_longer = omega (
        arith,
        real.no_longer,
        size,
        front,
        length-take at slot.bytes,
        length-drop
            (at + length piece) slot.bytes,
      );
      kept = λ place old. inr refl;
    }

-- whatever a read gives, the images are the same
pub shaken : (slot : SlotState) (bytes image : List ℕ) → MayLeave slot bytes
    → MayLeave (record slot { bytes = bytes }) image → MayLeave slot image
shaken slot bytes image real left = record {
  no_shorter = left.no_shorter;
  no_longer = left.no_longer;
  kept = λ place old. ⊎_elim (λ loose. inl loose) (λ same. ⊎_elim (λ loose. inl loose)
      (λ is. inr (same ∙ is)) (real.kept place old)) (left.kept place old);
}
