-- What recovery finds after a crash during a save.
use Rattle.std.proofs.Common.{◌≡◌, inl, inr, ⊎_elim, ℕ, ◌<◌, List, Option, None, Some, refl, sym, subst, ◌∙◌, ap}
use Rattle.ug_disk.specs.declared.slot.Slot.{Slot}
use Rattle.ug_disk.specs.declared.slot.Slot.TheVariants.{Zero, One}
use Rattle.ug_disk.specs.Slots.{SlotState, MayLeave}
use Rattle.ug_disk.specs.Histories.{Slots, History, slot_of}
use Rattle.ug_disk.specs.Crashes.{MayLeaveBoth, Leaves}
use Rattle.ug_disk.proofs.Moments.{starts, weakens}
use Rattle.ug_checkpoint.specs.Gates.{HasBody}
use Rattle.ug_checkpoint.specs.SlotPairs.{next_after}
use Rattle.ug_checkpoint.specs.Runs.{Becomes, OnlyOpens, IsOldOrNew, HasSaved, bytes_in, other}
use Rattle.ug_image.specs.declared.image.Image.{Image}
use Rattle.ug_checkpoint.specs.declared.found.Found.{Found}
use Rattle.ug_checkpoint.specs.Bodies.{Has, Stores, body_of}
use Rattle.ug_checkpoint.specs.Recovery.{Recovered}
use Rattle.ug_checkpoint.specs.Savers.{Rests, IsLast, IsSafe, Finds}
use Rattle.ug_checkpoint.proofs.Finding.{chosen_of, recovers, chosen_alone, chosen_other, chosen_above, open_or_not}
use Rattle.ug_checkpoint.proofs.Keeping.{Standing, image_is, twice}

-- two images, each of its slot
parted : (slot : Slot) (slots : Slots) (zero one : List ℕ) → MayLeaveBoth slots zero one
    → MayLeave (slot_of (other slot) slots) (bytes_in (other slot) zero one)
    × MayLeave (slot_of slot slots) (bytes_in slot zero one)
parted Zero slots zero one left = (left.1, left.0)
parted One slots zero one left = (left.0, left.1)

joined : (slot : Slot) (slots : Slots) (zero one : List ℕ)
    → MayLeave (slot_of (other slot) slots) (bytes_in (other slot) zero one)
    → MayLeave (slot_of slot slots) (bytes_in slot zero one) → MayLeaveBoth slots zero one
joined Zero slots zero one others own = (own, others)
joined One slots zero one others own = (others, own)

-- the image that is in the slot which is left alone
abbrev last_image : (last : Option Slot) (sequence : ℕ) (state : SlotState)
    → Rests last sequence state → Option Image
last_image None sequence state rests = None
last_image (Some slot) sequence state rests = Some rests.image

last_stored : (last : Option Slot) (sequence : ℕ) (state : SlotState)
    (rests : Rests last sequence state) (image : List ℕ) → MayLeave state image
    → Stores image (last_image last sequence state rests)
last_stored None sequence state rests image left = λ opened. rests image left opened
last_stored (Some slot) sequence state rests image left =
    subst (λ (l : List ℕ). Has l rests.image) (sym (image_is state image rests.synced left))
    rests.has

abbrev found_of : Slot → Image → Found
found_of slot image = record { slot = slot; image = image }

-- the slot that is written is shut, so the last image is found
last_found : (last : Option Slot) (sequence : ℕ) (history : History)
    (rests : Rests last sequence (slot_of (other (next_after last)) history.now))
    → IsLast last (Some history) (chosen_of (next_after last) None
    (last_image last sequence (slot_of (other (next_after last)) history.now) rests))
last_found None sequence history rests = refl
last_found (Some slot) sequence history rests = (
  rests.image,
  subst (λ s. Has (slot_of s history.now).bytes rests.image) (twice slot) rests.has,
  chosen_other (other slot) rests.image
      ∙ ap (λ s. Some (found_of s rests.image)) (twice slot),
)

-- it has the new image, and so that is found
new_found : (last : Option Slot) (sequence : ℕ) (state : SlotState) (slot : Slot) (image : Image)
    (rests : Rests last sequence state) → sequence < image.sequence
    → chosen_of slot (Some image) (last_image last sequence state rests)
    ≡ Some (found_of slot image)
new_found None sequence state slot image rests above = chosen_alone slot image
new_found (Some last) sequence state slot image rests above =
    chosen_above slot image rests.image (subst (λ n. n < image.sequence) (sym rests.is) above)

abbrev Reads : Image → Type 0
Reads image = (slot : List ℕ) → HasBody (body_of image) slot → Has slot image

safe_at : (last : Option Slot) (sequence : ℕ) (history : History) (image : Image)
    → Reads image → sequence < image.sequence → Standing sequence (Some history) last
    → (zero one : List ℕ)
    → OnlyOpens (Some history) (next_after last) (IsOldOrNew (body_of image)) zero one
    → IsSafe last (Some history) (found_of (next_after last) image) zero one
safe_at last sequence history image read above standing zero one left =
    let slot = next_after last in
    let state = slot_of (other slot) history.now in
    let others = last_image last sequence state standing.0 in
    let kept = last_stored last sequence state standing.0 (bytes_in (other slot) zero one) left.0 in
    ⊎_elim (λ opened. ⊎_elim
    (λ before.
    let had = standing.1 (bytes_in slot zero one) before opened in
    let recovered = recovers slot zero one (Some had.0) others had.1 kept in
    record {
      found = chosen_of slot (Some had.0) others;
      recovered = recovered;
      is = inl (inl (record {
        zero = zero;
        one = one;
        could = joined slot history.now zero one left.0 before;
        recovered = recovered;
      }));
    })
    (λ has. record {
      found = chosen_of slot (Some image) others;
      recovered = recovers slot zero one (Some image) others
          (read (bytes_in slot zero one) has) kept;
      is = inr (new_found last sequence state slot image standing.0 above);
    })
    (left.1 opened))
    (λ shut. record {
      found = chosen_of slot None others;
      recovered = recovers slot zero one None others shut kept;
      is = inl (inr (last_found last sequence history standing.0));
    })
    (open_or_not (bytes_in slot zero one))

-- at each moment of a save
pub safe : (last : Option Slot) (sequence : ℕ) (old new : Option History) (image : Image)
    → Reads image → sequence < image.sequence → Standing sequence old last
    → Leaves (OnlyOpens old (next_after last) (IsOldOrNew (body_of image))) old new
    → Leaves (IsSafe last old (found_of (next_after last) image)) old new
safe last sequence None new image read above standing leaves = tt
safe last sequence (Some old) new image read above standing leaves =
    weakens (OnlyOpens (Some old) (next_after last) (IsOldOrNew (body_of image)))
    (IsSafe last (Some old) (found_of (next_after last) image)) (Some old) new
    (safe_at last sequence old image read above standing) leaves

-- and before it
pub safe_before : (last : Option Slot) (sequence : ℕ) (told : Option History) (image : Image)
    → Reads image → sequence < image.sequence → Standing sequence told last
    → Leaves (IsSafe last told (found_of (next_after last) image)) told told
safe_before last sequence None image read above standing = tt
safe_before last sequence (Some told) image read above standing =
    let slot = next_after last in
    starts (IsSafe last (Some told) (found_of slot image)) (Some told) (λ zero one left.
    let parts = parted slot told.now zero one left in
    safe_at last sequence told image read above standing zero one
    (parts.0, λ opened. inl parts.1))

-- after it each crash leaves the new image
pub finds : (last : Option Slot) (sequence : ℕ) (old new : Option History) (image : Image)
    → Reads image → sequence < image.sequence → Standing sequence old last
    → Becomes old new (next_after last) (HasSaved (body_of image))
    → Finds new (found_of (next_after last) image)
finds last sequence None None image read above standing saved = tt
finds last sequence None (Some new) image read above standing saved = absurd saved
finds last sequence (Some old) None image read above standing saved = tt
finds last sequence (Some old) (Some new) image read above standing saved = λ zero one left.
    let slot = next_after last in
    let parts = parted slot new.now zero one left in
    let state = slot_of (other slot) old.now in
    let others = last_image last sequence state standing.0 in
    let kept = last_stored last sequence state standing.0 (bytes_in (other slot) zero one)
    (subst (λ s. MayLeave s (bytes_in (other slot) zero one)) saved.0 parts.0) in
    let has = read (bytes_in slot zero one)
    (subst (λ (l : List ℕ). HasBody (body_of image) l)
    (sym (image_is (slot_of slot new.now) (bytes_in slot zero one) saved.1.0 parts.1)) saved.1.1) in
    subst (λ (o : Option Found). Recovered zero one o)
    (new_found last sequence state slot image standing.0 above)
    (recovers slot zero one (Some image) others has kept)
