-- Which image is the last acknowledged one after a save.
use Rattle.std.proofs.Common.{◌≡◌, Option, None, Some, refl, sym, subst}
use Rattle.ug_disk.specs.declared.slot.Slot.{Slot}
use Rattle.ug_disk.specs.Histories.{History, slot_of}
use Rattle.ug_checkpoint.specs.SlotPairs.{next_after}
use Rattle.ug_image.specs.declared.image.Image.{Image}
use Rattle.ug_checkpoint.specs.declared.found.Found.{Found}
use Rattle.ug_checkpoint.specs.Bodies.{Has}
use Rattle.ug_checkpoint.specs.Savers.{IsLast, IsLeftAlone, IsWritten}
use Rattle.ug_checkpoint.proofs.Keeping.{twice}

-- the one that was written
pub last_now : (after : Option Slot) (slot : Slot) (told : Option History) (image : Image)
    → after ≡ Some slot → IsWritten slot image told
    → IsLast after told (Some (record { slot = slot; image = image }))
last_now after slot None image same written =
    subst (λ l. IsLast l None (Some (record { slot = slot; image = image }))) (sym same) tt
last_now after slot (Some history) image same written =
    subst (λ l. IsLast l (Some history) (Some (record { slot = slot; image = image })))
    (sym same) (image, written, refl)

-- the one that it was, since its slot is left alone
pub last_still : (last after : Option Slot) (old new : Option History) → after ≡ last
    → IsLeftAlone (next_after last) old new → (found : Option Found) → IsLast last old found
    → IsLast after new found
last_still None after old new same alone found is =
    subst (λ l. IsLast l new found) (sym same) is
last_still (Some slot) after None None same alone found is =
    subst (λ l. IsLast l None found) (sym same) tt
last_still (Some slot) after None (Some new) same alone found is = absurd alone
last_still (Some slot) after (Some old) None same alone found is = absurd alone
last_still (Some slot) after (Some old) (Some new) same alone found is =
    let stood : slot_of slot new.now ≡ slot_of slot old.now =
    subst (λ (s : Slot). slot_of s new.now ≡ slot_of s old.now) (twice slot) alone.0 in
    subst (λ l. IsLast l (Some new) found) (sym same)
    (is.0, subst (λ s. Has s.bytes is.0) (sym stood) is.1, is.2)
