-- How the slots are kept from one save to the next.
use Rattle.std.proofs.Common.{◌≡◌, ⊎_elim, ℕ, List, Option, None, Some, nat_lt, refl, sym, subst}
use Rattle.std.proofs.lemmas.Bool.{cases_cond}
use Rattle.ug_disk.specs.declared.slot.Slot.{Slot}
use Rattle.ug_disk.specs.declared.slot.Slot.TheVariants.{Zero, One}
use Rattle.ug_disk.specs.Slots.{SlotState, MayLeave, synced}
use Rattle.ug_disk.specs.Histories.{History, slot_of}
use Rattle.ug_disk.proofs.Images.{only_bytes}
use Rattle.ug_checkpoint.specs.declared.slots.slot_pair.SlotPair.{SlotPair}
use Rattle.ug_checkpoint.specs.Gates.{IsOpen, IsSynced, HasBody, Opens}
use Rattle.ug_checkpoint.specs.SlotPairs.{Knows, last_of, next_after, target_of}
use Rattle.ug_checkpoint.specs.Runs.{AreSynced, Stands, Becomes, Have, HasSaved, MaySave, other}
use Rattle.ug_image.specs.declared.image.Image.{Image}
use Rattle.ug_checkpoint.specs.declared.found.Found.{Found}
use Rattle.ug_checkpoint.specs.declared.saver.Saver.{Saver}
use Rattle.ug_checkpoint.specs.Bodies.{Has, Stores, body_of}
use Rattle.ug_checkpoint.specs.Recovery.{chosen, HasFound, Recovered}
use Rattle.ug_checkpoint.specs.Savers.{HasImage, IsAcknowledged, Rests, IsKept}
use Rattle.ug_checkpoint.proofs.Finding.{chosen_zero, chosen_one}

abbrev pub saver_of : SlotPair → ℕ → Saver
saver_of slot_pair sequence = record { slot_pair = slot_pair; sequence = sequence }

-- how the two slots stand, by which of them has the last image
abbrev pub Standing : ℕ → Option History → Option Slot → Type 0
Standing sequence told last = Stands told (other (next_after last)) (Rests last sequence)
    × Stands told (next_after last) (Opens HasImage)

pub kept_from : (slot_pair : SlotPair) (sequence : ℕ) (told : Option History) (last : Option Slot)
    → last_of slot_pair ≡ last → Knows slot_pair told
    → Standing sequence told last → IsKept (saver_of slot_pair sequence) told
kept_from slot_pair sequence told last is knows standing =
    let stands = subst (λ l. Standing sequence told l) (sym is) standing in
    record { knows = knows; rests = stands.0; images = stands.1 }

-- synced bytes are read in each image
pub image_is : (state : SlotState) (image : List ℕ) → IsSynced state → MayLeave state image
    → image ≡ state.bytes
image_is state image is left =
    only_bytes state.bytes image (subst (λ s. MayLeave s image) is left)

stores_opens : (slot : List ℕ) (in_slot : Option Image) → Stores slot in_slot
    → Opens HasImage (synced slot)
stores_opens slot None stores image left opened =
    absurd (stores (subst (λ (l : List ℕ). IsOpen l) (only_bytes slot image left) opened))
stores_opens slot (Some kept) stores image left opened =
    subst (λ (l : List ℕ). HasImage l) (sym (only_bytes slot image left)) (kept, stores)

shut_stays : (slot : List ℕ) → (IsOpen slot → ⊥) → Opens (λ image. ⊥) (synced slot)
shut_stays slot shut image left opened =
    shut (subst (λ (l : List ℕ). IsOpen l) (only_bytes slot image left) opened)

acknowledged : (slot : List ℕ) (image : Image) → Has slot image
    → IsAcknowledged image.sequence (synced slot)
acknowledged slot image has =
    record { synced = refl; image = image; has = has; is = refl }

-- after a load that found something
stands_found : (told : Option History) (zero one : List ℕ) (slot : Slot) (image : Image)
    → Have told zero one → Recovered zero one (Some (record { slot = slot; image = image }))
    → Standing image.sequence told (Some slot)
stands_found None zero one slot image have recovered = (tt, tt)
stands_found (Some told) zero one Zero image have recovered =
    let is = chosen_zero recovered.in_zero recovered.in_one image recovered.greater in
    let has = subst (λ (o : Option Image). Stores zero o) is recovered.has_zero in (
      subst (λ s. IsAcknowledged image.sequence s.zero) (sym have) (acknowledged zero image has),
      subst (λ s. Opens HasImage s.one) (sym have)
          (stores_opens one recovered.in_one recovered.has_one),
    )
stands_found (Some told) zero one One image have recovered =
    let is = chosen_one recovered.in_zero recovered.in_one image recovered.greater in
    let has = subst (λ (o : Option Image). Stores one o) is recovered.has_one in (
      subst (λ s. IsAcknowledged image.sequence s.one) (sym have) (acknowledged one image has),
      subst (λ s. Opens HasImage s.zero) (sym have)
          (stores_opens zero recovered.in_zero recovered.has_zero),
    )

none_chosen : (a b : Option Image) → None ≡ chosen a b → (a ≡ None) × (b ≡ None)
none_chosen None None is = (refl, refl)
none_chosen None (Some b) is = absurd (cc is)
none_chosen (Some a) None is = absurd (cc is)
none_chosen (Some a) (Some b) is = ⊎_elim (λ one. absurd (cc one)) (λ zero. absurd (cc zero))
    (cases_cond (nat_lt a.sequence b.sequence) (Some (record { slot = One; image = b }))
    (Some (record { slot = Zero; image = a })) None is)

-- and after one that found nothing
stands_none : (told : Option History) (zero one : List ℕ)
    → Have told zero one → Recovered zero one None → Standing 0 told None
stands_none None zero one have recovered = (tt, tt)
stands_none (Some told) zero one have recovered =
    let none = none_chosen recovered.in_zero recovered.in_one recovered.greater in
    let shut = subst (λ (o : Option Image). Stores one o) none.1 recovered.has_one in (
      subst (λ s. Opens (λ image. ⊥) s.one) (sym have) (shut_stays one shut),
      subst (λ s. Opens HasImage s.zero) (sym have)
          (stores_opens zero recovered.in_zero recovered.has_zero),
    )

kept_found : (slot_pair : SlotPair) (found : Found) (told : Option History) (zero one : List ℕ)
    → last_of slot_pair ≡ Some found.slot → Knows slot_pair told → Have told zero one
    → Recovered zero one (Some found) → IsKept (saver_of slot_pair found.image.sequence) told
kept_found slot_pair found told zero one is knows have recovered =
    kept_from slot_pair found.image.sequence told (Some found.slot) is knows
    (stands_found told zero one found.slot found.image have recovered)

kept_none : (slot_pair : SlotPair) (told : Option History) (zero one : List ℕ)
    → last_of slot_pair ≡ None → Knows slot_pair told → Have told zero one
    → Recovered zero one None → IsKept (saver_of slot_pair 0) told
kept_none slot_pair told zero one is knows have recovered =
    kept_from slot_pair 0 told None is knows (stands_none told zero one have recovered)

-- the slot that a save leaves alone has an image where it is open
rests_opens : (last : Option Slot) (sequence : ℕ) (state : SlotState) → Rests last sequence state
    → Opens HasImage state
rests_opens None sequence state rests image left opened = absurd (rests image left opened)
rests_opens (Some slot) sequence state rests image left opened =
    subst (λ (l : List ℕ). HasImage l) (sym (image_is state image rests.synced left))
    (rests.image, rests.has)

pub twice : (slot : Slot) → other (other slot) ≡ slot
twice Zero = refl
twice One = refl

-- after a save that was acknowledged
stands_saved : (old new : Option History) (last : Option Slot) (sequence : ℕ) (image : Image)
    → ((slot : List ℕ) → HasBody (body_of image) slot → Has slot image)
    → Standing sequence old last → Becomes old new (next_after last) (HasSaved (body_of image))
    → Standing image.sequence new (Some (next_after last))
stands_saved None None last sequence image read standing saved = (tt, tt)
stands_saved None (Some new) last sequence image read standing saved = absurd saved
stands_saved (Some old) None last sequence image read standing saved = absurd saved
stands_saved (Some old) (Some new) last sequence image read standing saved =
    let slot = next_after last in (
      subst (λ s. IsAcknowledged image.sequence (slot_of s new.now)) (sym (twice slot)) (record {
        synced = saved.1.0;
        image = image;
        has = read (slot_of slot new.now).bytes saved.1.1;
        is = refl;
      }),
      subst (λ s. Opens HasImage s) (sym saved.0)
          (rests_opens last sequence (slot_of (other slot) old.now) standing.0),
    )

-- after one that failed
stands_failed : (old new : Option History) (last : Option Slot) (sequence : ℕ) (image : Image)
    → ((slot : List ℕ) → HasBody (body_of image) slot → Has slot image)
    → Standing sequence old last → Becomes old new (next_after last) (MaySave (body_of image))
    → Standing sequence new last
stands_failed None None last sequence image read standing now = (tt, tt)
stands_failed None (Some new) last sequence image read standing now = absurd now
stands_failed (Some old) None last sequence image read standing now = absurd now
stands_failed (Some old) (Some new) last sequence image read standing now = (
  subst (λ s. Rests last sequence s) (sym now.0) standing.0,
  λ slot left opened. ⊎_elim (λ before. standing.1 slot before opened)
      (λ has. (image, read slot has)) (now.1 slot left opened),
)

pub kept_saved : (before after : SlotPair) (old new : Option History) (sequence : ℕ) (image : Image)
    → ((slot : List ℕ) → HasBody (body_of image) slot → Has slot image)
    → IsKept (saver_of before sequence) old → Knows after new
    → last_of after ≡ Some (target_of before)
    → Becomes old new (target_of before) (HasSaved (body_of image))
    → IsKept (saver_of after image.sequence) new
kept_saved before after old new sequence image read kept knows is saved =
    kept_from after image.sequence new (Some (target_of before)) is knows
    (stands_saved old new (last_of before) sequence image read (kept.rests, kept.images) saved)

pub kept_failed : (before after : SlotPair) (old new : Option History) (sequence : ℕ) (image : Image)
    → ((slot : List ℕ) → HasBody (body_of image) slot → Has slot image)
    → IsKept (saver_of before sequence) old → Knows after new
    → last_of after ≡ last_of before
    → Becomes old new (target_of before) (MaySave (body_of image))
    → IsKept (saver_of after sequence) new
kept_failed before after old new sequence image read kept knows is now =
    kept_from after sequence new (last_of before) is knows
    (stands_failed old new (last_of before) sequence image read (kept.rests, kept.images) now)

-- slots that have these bytes are synced
pub have_synced : (told : Option History) (zero one : List ℕ) → Have told zero one
    → AreSynced told
have_synced None zero one have = tt
have_synced (Some told) zero one have = (
  subst (λ s. IsSynced s.zero) (sym have) refl,
  subst (λ s. IsSynced s.one) (sym have) refl,
)

-- a saver of what a load left
pub kept_loaded : (slot_pair : SlotPair) (found : Found) (old new : Option History)
    → last_of slot_pair ≡ Some found.slot
    → ((told : Option History) → AreSynced told → Knows slot_pair told)
    → HasFound old new (Some found) → IsKept (saver_of slot_pair found.image.sequence) new
kept_loaded slot_pair found old new is knows loaded =
    kept_found slot_pair found new loaded.zero loaded.one is
    (knows new (have_synced new loaded.zero loaded.one loaded.have)) loaded.have loaded.is

pub kept_empty : (slot_pair : SlotPair) (old new : Option History) → last_of slot_pair ≡ None
    → ((told : Option History) → AreSynced told → Knows slot_pair told)
    → HasFound old new None → IsKept (saver_of slot_pair 0) new
kept_empty slot_pair old new is knows loaded =
    kept_none slot_pair new loaded.zero loaded.one is
    (knows new (have_synced new loaded.zero loaded.one loaded.have)) loaded.have loaded.is
