-- A fact about all that recovery could find stays true, if it is true of the image saved.
use Rattle.std.proofs.Common.{◌≡◌, inl, inr, ℕ, List, [], ◌∷◌, ◌++◌, Option, None, Some, sym, ◌∙◌, subst}
use Rattle.ug_disk.specs.declared.slot.Slot.{Slot}
use Rattle.ug_disk.specs.Histories.{History, Slots, slot_of}
use Rattle.ug_disk.specs.Crashes.{Leaves, LeavesOnly, MayLeaveBoth, MightHaveLeft}
use Rattle.ug_disk.proofs.Moments.{weakens}
use Rattle.ug_checkpoint.specs.SlotPairs.{next_after}
use Rattle.ug_image.specs.declared.image.Image.{Image}
use Rattle.ug_checkpoint.specs.declared.found.Found.{Found}
use Rattle.ug_checkpoint.specs.Bodies.{Has}
use Rattle.ug_checkpoint.specs.Savers.{AllHave, CouldFind, FindsOnly, IsLast, IsLeftAlone, IsSafe, IsWritten}
use Rattle.ug_checkpoint.proofs.Finding.{has_one, recovered_one}
use Rattle.ug_checkpoint.proofs.Keeping.{twice}

-- ---- the last moment of a run of calls is one of its moments

now_first : (since earlier before : List Slots) (now old : Slots) (zero one : List ℕ)
    → ◌≡◌ {A = List Slots} (now ∷ before) (since ++ old ∷ earlier)
    → MayLeaveBoth now zero one → MightHaveLeft (since ++ old ∷ []) zero one
now_first [] earlier before now old zero one same left =
    inl (subst (λ (s : Slots). MayLeaveBoth s zero one) (cc same) left)
now_first (first ∷ since) earlier before now old zero one same left =
    inl (subst (λ (s : Slots). MayLeaveBoth s zero one) (cc same) left)

pub now_leaves : (P : List ℕ → List ℕ → Type 0) (old new : History) → LeavesOnly P old new
    → (zero one : List ℕ) → MayLeaveBoth new.now zero one → P zero one
now_leaves P old new leaves zero one left =
    leaves.each zero one
    (now_first leaves.since old.before new.before new.now old.now zero one leaves.later left)

-- ---- a save

found_safe : (P : Image → Type 0) (last : Option Slot) (old : History) (new : Found)
    (zero one : List ℕ) → AllHave P last old → P new.image
    → IsSafe last (Some old) new zero one → FindsOnly P zero one
found_safe P last old new zero one have holds safe found recovered =
    let same : safe.found ≡ Some found =
    recovered_one zero one safe.found (Some found) safe.recovered recovered in
    elim safe.is [
      | inl (inl could) ↦ have.could found (subst (CouldFind (Some old)) same could)
      | inl (inr is) ↦ have.last found (subst (IsLast last (Some old)) same is)
      | inr is ↦ (
          let e : found ≡ new = cc (sym same ∙ is) in
          subst (λ (f : Found). P f.image) (sym e) holds
          )
    ]

-- at each moment of a save
pub save_leaves : (P : Image → Type 0) (last : Option Slot) (old new : History) (found : Found)
    → AllHave P last old → P found.image
    → Leaves (IsSafe last (Some old) found) (Some old) (Some new)
    → Leaves (FindsOnly P) (Some old) (Some new)
save_leaves P last old new found have holds leaves =
    weakens (IsSafe last (Some old) found) (FindsOnly P) (Some old) (Some new)
    (λ zero one safe. found_safe P last old found zero one have holds safe) leaves

last_kept : (P : Image → Type 0) (last : Option Slot) (old new : History) → AllHave P last old
    → IsLeftAlone (next_after last) (Some old) (Some new) → (found : Found)
    → IsLast last (Some new) (Some found) → P found.image
last_kept P None old new have alone found is = absurd (cc is)
last_kept P (Some slot) old new have alone found (image, has, same) =
    let stood : slot_of slot new.now ≡ slot_of slot old.now =
    subst (λ (s : Slot). slot_of s new.now ≡ slot_of s old.now) (twice slot) alone.0 in
    have.last found (image, subst (λ s. Has s.bytes image) stood has, same)

-- after one that failed
pub failed_have : (P : Image → Type 0) (last : Option Slot) (old new : History) → AllHave P last old
    → Leaves (FindsOnly P) (Some old) (Some new)
    → IsLeftAlone (next_after last) (Some old) (Some new) → AllHave P last new
failed_have P last old new have leaves alone = record {
  could = λ found c. now_leaves (FindsOnly P) old new leaves c.zero c.one c.could found c.recovered;
  last = last_kept P last old new have alone;
}

-- after one that was acknowledged
pub saved_have : (P : Image → Type 0) (slot : Slot) (image : Image) (old new : History)
    → P image → Leaves (FindsOnly P) (Some old) (Some new) → IsWritten slot image (Some new)
    → AllHave P (Some slot) new
saved_have P slot image old new holds leaves written = record {
  could = λ found c. now_leaves (FindsOnly P) old new leaves c.zero c.one c.could found c.recovered;
  last = λ found is.
      let e : found ≡ record { slot = slot; image = is.0 } = cc is.2 in
      let one : is.0 ≡ image = has_one _ is.0 image is.1 written in
      subst (λ (f : Found). P f.image) (sym e) (subst P (sym one) holds);
}
