-- How the gate of a slot stays shut, and may be written.
use Rattle.std.proofs.Common.{◌≡◌, inl, inr, ⊎_elim, ℕ, ◌<◌, ◌≤◌, List, [], ◌∷◌, length, take, drop, get_or, refl, sym, subst, ◌∙◌, ap, arith}
use Rattle.std.proofs.lemmas.List.Quantifiers.{Any-push}
use Rattle.ug_disk.specs.declared.slot.Span.{Span}
use Rattle.ug_disk.specs.Slots.{SlotState, IsLoose, MayLeave, IsReal, synced, loosened, written, put_at}
use Rattle.std.proofs.lemmas.List.{take_all}
use Rattle.ug_disk.proofs.LawLemmas.{write_is_torn}
use Rattle.ug_disk.proofs.Images.{loose_either, shaken, only_bytes, put_elsewhere, real_written, within_writing}
use Rattle.ug_checkpoint.specs.Gates.{HasBody, IsSynced, Opens, IsShut, MayBeShut, GateIsLoose, MayBeLoose}

-- the state with other bytes to be read
abbrev pub read_as : List ℕ → SlotState → SlotState
read_as bytes state = record state { bytes = bytes }

-- no image of a shut slot is open
pub shut_opens_nothing : (state : SlotState) → IsShut state → Opens (λ image. ⊥) state
shut_opens_nothing state shut image left opened =
    ⊎_elim (λ loose. shut.settled loose) (λ same. shut.shut (sym same ∙ opened.1))
    (left.kept 0 shut.there)

none_loose : (place : ℕ) → IsLoose [] place → ⊥
none_loose place loose = omega (arith, loose.2)

pub shut_synced : (state : SlotState) → IsReal state → IsShut state → IsShut (synced state.bytes)
shut_synced state real shut = record {
  read = shut.read;
  there = omega (arith, real.no_shorter, shut.there);
  settled = none_loose 0;
  shut = shut.shut;
}

-- a shut gate stays so while bytes are written behind it
pub shut_loosened : (at n : ℕ) (state : SlotState) (bytes : List ℕ) → 0 < at → IsShut state
    → MayLeave (loosened at n state) bytes
    → IsShut (read_as bytes (loosened at n state))
shut_loosened at n state bytes behind shut left =
    let free : IsLoose (loosened at n state).loose 0 → ⊥ = λ loose. ⊎_elim shut.settled
    (λ inside. omega (arith, inside.0)) (loose_either state.loose _ 0 loose) in
    record {
      read = omega (arith, left.no_shorter, shut.there);
      there = shut.there;
      settled = free;
      shut = λ opened. ⊎_elim (λ loose. free loose) (λ same. shut.shut (sym same ∙ opened))
          (left.kept 0 shut.there);
    }

pub shut_written : (at : ℕ) (piece : List ℕ) (state : SlotState) → 0 < at → IsReal state
    → at ≤ length state.bytes → IsShut state → IsShut (written at piece state)
shut_written at piece state behind real here shut = record {
  read = omega (
    arith,
    shut.there,
    (real_written at piece state real here).no_shorter,
  );
  there = shut.there;
  settled = λ loose. ⊎_elim shut.settled (λ inside. omega (arith, inside.0))
      (loose_either state.loose _ 0 loose);
  shut = λ is_one. ⊎_elim (λ inside. omega (arith, inside.0))
      (λ same. shut.shut (sym same ∙ is_one))
      (put_elsewhere at piece state.bytes 0 here (omega arith));
}

pub shut_shaken : (state : SlotState) (bytes : List ℕ) → IsShut state → MayLeave state bytes
    → IsShut (read_as bytes state)
shut_shaken state bytes shut left = record {
  read = omega (arith, left.no_shorter, shut.there);
  there = shut.there;
  settled = shut.settled;
  shut = λ opened. ⊎_elim shut.settled (λ same. shut.shut (sym same ∙ opened))
      (left.kept 0 shut.there);
}

at_gate : (spans : List Span) (place : ℕ) → IsLoose spans 0 → place < 1 → IsLoose spans place
at_gate spans place loose near =
    let first : 0 ≡ place = omega arith in
    subst (λ k. IsLoose spans k) first loose

-- a gate in whose place a crash may leave any byte may be written
loose_may : (state : SlotState) → IsLoose state.loose 0 → MayBeShut state
loose_may state loose image left opened = record {
  no_shorter = left.no_shorter;
  no_longer = omega (arith, left.no_longer, opened.0);
  kept = λ place here. ⊎_elim
      (λ either. ⊎_elim (λ before. inl before) (λ inside. inl (at_gate state.loose place loose
      inside.1)) (loose_either state.loose _ place either))
      (λ same. inr same) (left.kept place here);
}

-- an open gate on the disk may be written
pub open_may : (bytes : List ℕ) → get_or bytes 0 0 ≡ 1 → MayBeShut (synced bytes)
open_may bytes is image left opened = record {
  no_shorter = left.no_shorter;
  no_longer = omega (arith, left.no_longer, opened.0);
  kept = λ place here. ⊎_elim
      (λ either. ⊎_elim (λ none. absurd (none_loose place none)) (λ inside.
      let first : 0 ≡ place = omega (arith, inside.1) in
      inr (subst (λ k. get_or image k 0 ≡ get_or bytes k 0) first (opened.1 ∙ sym is)))
      (loose_either [] _ place either))
      (λ same. inr same) (left.kept place here);
}

gate_loose : (state : SlotState) → IsLoose (loosened 0 1 state).loose 0
gate_loose state = Any-push _ state.loose _ (omega arith, omega arith)

-- after a write of the gate that failed it may be written again, and no image is open that was not
pub loose_again : (before after : SlotState) → MayBeShut before → MayBeLoose before after
    → Opens (MayLeave before) after × MayBeShut after
loose_again before after free (inl same) =
    subst (λ s. Opens (MayLeave before) s × MayBeShut s) (sym same)
    (λ image left opened. left, free)
loose_again before after free (inr loose) =
    subst (λ s. Opens (MayLeave before) s × MayBeShut s) (sym loose.is) (
      λ image left opened. free image
          (shaken (loosened 0 1 before) loose.bytes image loose.real left)
          opened,
      loose_may (read_as loose.bytes (loosened 0 1 before)) (gate_loose before),
    )

-- while a gate is opened, an image that is open has what followed it
pub opens_body : (state : SlotState) → IsSynced state
    → Opens (HasBody (drop 1 state.bytes)) (loosened 0 1 state)
opens_body state is image left opened =
    let torn = write_is_torn 0 1 state.bytes image (omega arith) in
    let behind = (torn.0 (subst (λ s. MayLeave (loosened 0 1 s) image) is left)).after in (
      opened.1,
      ap (λ (l : List ℕ). take (length (drop 1 state.bytes)) l) behind
          ∙ take_all (length (drop 1 state.bytes)) (drop 1 state.bytes) (omega arith),
    )

-- and so after a write of the gate that failed
pub opens_body_loose : (before after : SlotState) → IsShut before → IsSynced before
    → MayBeLoose before after → Opens (HasBody (drop 1 before.bytes)) after
opens_body_loose before after shut is (inl same) =
    subst (λ s. Opens (HasBody (drop 1 before.bytes)) s) (sym same) (λ image left opened. absurd
    (shut_opens_nothing before shut image left opened))
opens_body_loose before after shut is (inr loose) =
    subst (λ s. Opens (HasBody (drop 1 before.bytes)) s) (sym loose.is) (λ image left opened.
    opens_body before is image (shaken (loosened 0 1 before) loose.bytes image loose.real left)
    opened)

-- after it was opened
pub opened_body : (bytes : List ℕ) → HasBody (drop 1 bytes) (put_at 0 (1 ∷ []) bytes)
opened_body bytes = (refl, take_all (length (drop 1 bytes)) (drop 1 bytes) (omega arith))

pub opened_now : (before after : SlotState) → after ≡ synced (put_at 0 (1 ∷ []) before.bytes)
    → Opens (HasBody (drop 1 before.bytes)) after × MayBeShut after
opened_now before after is =
    subst (λ s. Opens (HasBody (drop 1 before.bytes)) s × MayBeShut s) (sym is) (
      λ image left opened. subst (λ (l : List ℕ). HasBody (drop 1 before.bytes) l) (sym
          (only_bytes _ image left)) (opened_body before.bytes),
      open_may (put_at 0 (1 ∷ []) before.bytes) refl,
    )

-- a write of the gate that ended, and a sync that failed
pub written_is_loose : (before after : SlotState) (byte : ℕ) (bytes : List ℕ) → IsReal before
    → after ≡ written 0 (byte ∷ []) before → MayLeave after bytes
    → GateIsLoose before (read_as bytes after)
written_is_loose before after byte bytes real is left = record {
  bytes = bytes;
  real = within_writing 0 (byte ∷ []) before bytes real (omega arith)
      (subst (λ s. MayLeave s bytes) is left);
  is = ap (λ (s : SlotState). read_as bytes s) is;
}
