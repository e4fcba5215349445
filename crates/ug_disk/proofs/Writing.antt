-- What a crash may leave during a write and the sync after it.
use Rattle.std.proofs.Common.{◌≡◌, inl, inr, ℕ, ◌≤◌, List, length, Option, None, Some, refl, sym, subst}
use Rattle.ug_disk.specs.declared.slot.Slot.{Slot}
use Rattle.ug_disk.specs.declared.slot.Slot.TheVariants.{Zero, One}
use Rattle.ug_disk.specs.Slots.{SlotState, MayLeave, IsReal, synced, loosened, written}
use Rattle.ug_disk.specs.Histories.{Slots, History, Steps, Fails, Reads, AreReal, slot_of, with_slot, stepped}
use Rattle.ug_disk.specs.Crashes.{MayLeaveBoth, Leaves, MayLeaveWriting}
use Rattle.ug_disk.proofs.Images.{grows, within_writing, only_bytes, shaken}
use Rattle.ug_disk.proofs.Moments.{Images, LeavesNow, starts, steps_on, fails_on}

-- more images of one slot
both_more : (slot : Slot) (slots : Slots) (a b : SlotState) → ((image : List ℕ)
    → MayLeave a image → MayLeave b image)
    → (zero one : List ℕ) → MayLeaveBoth (with_slot slot a slots) zero one
    → MayLeaveBoth (with_slot slot b slots) zero one
both_more Zero slots a b more zero one left = (more zero left.0, left.1)
both_more One slots a b more zero one left = (left.0, more one left.1)

own : (slot : Slot) (slots : Slots) → with_slot slot (slot_of slot slots) slots ≡ slots
own Zero slots = refl
own One slots = refl

again : (slot : Slot) (slots : Slots) (a b : SlotState)
    → with_slot slot b (with_slot slot a slots) ≡ with_slot slot b slots
again Zero slots a b = refl
again One slots a b = refl

put_there : (slot : Slot) (slots : Slots) (a : SlotState)
    → slot_of slot (with_slot slot a slots) ≡ a
put_there Zero slots a = refl
put_there One slots a = refl

real_there : (slot : Slot) (slots : Slots) → IsReal slots.zero × IsReal slots.one
    → IsReal (slot_of slot slots)
real_there Zero slots real = real.0
real_there One slots real = real.1

-- before it
pub before_writing : (old : Option History) (slot : Slot) (at n : ℕ)
    → LeavesNow (MayLeaveWriting old slot at n) old
before_writing None slot at n = tt
before_writing (Some old) slot at n = λ zero one left.
    both_more slot old.now (slot_of slot old.now) (loosened at n (slot_of slot old.now)) (grows at
    n (slot_of slot old.now)) zero one
    (subst (λ l. MayLeaveBoth l zero one) (sym (own slot old.now)) left)

-- after the write
pub after_write : (old new : Option History) (slot : Slot) (at : ℕ) (piece : List ℕ)
    → AreReal old → Reads old slot (λ bytes. at ≤ length bytes)
    → Steps old new slot (written at piece)
    → LeavesNow (MayLeaveWriting old slot at (length piece)) new
after_write None None slot at piece real here steps = tt
after_write None (Some new) slot at piece real here steps = absurd (cc steps)
after_write (Some old) None slot at piece real here steps = tt
after_write (Some old) (Some new) slot at piece real here steps = λ zero one left.
    let is : new ≡ stepped slot (written at piece) old = cc steps in
    both_more slot old.now (written at piece (slot_of slot old.now)) (loosened at (length piece)
    (slot_of slot old.now))
    (λ image. within_writing at piece (slot_of slot old.now) image (real_there slot old.now real)
    here) zero one
    (subst (λ (h : History). MayLeaveBoth h.now zero one) is left)

-- or where it failed
pub after_failed_write : (old new : Option History) (slot : Slot) (at n : ℕ)
    → Fails old new slot (loosened at n) → LeavesNow (MayLeaveWriting old slot at n) new
after_failed_write old new slot at n (inl same) = subst (λ l. LeavesNow
    (MayLeaveWriting old slot at n) l) (sym same) (before_writing old slot at n)
after_failed_write None None slot at n (inr shakes) = tt
after_failed_write None (Some new) slot at n (inr shakes) = absurd (cc shakes.steps)
after_failed_write (Some old) None slot at n (inr shakes) = tt
after_failed_write (Some old) (Some new) slot at n (inr shakes) = λ zero one left.
    let is : new ≡ stepped slot (λ state. record (loosened at n state) { bytes = shakes.bytes })
    old = cc shakes.steps in
    both_more slot old.now (record (loosened at n (slot_of slot old.now)) { bytes = shakes.bytes })
    (loosened at n (slot_of slot old.now))
    (λ image. shaken (loosened at n (slot_of slot old.now)) shakes.bytes image shakes.real) zero one
    (subst (λ (h : History). MayLeaveBoth h.now zero one) is left)

synced_within : (slot : SlotState) (image : List ℕ) → IsReal slot
    → MayLeave (synced slot.bytes) image → MayLeave slot image
synced_within slot image real left = subst (λ l. MayLeave slot l) (sym
    (only_bytes slot.bytes image left)) real

-- a sync leaves fewer images
pub after_sync : (P : Images) (old new : Option History) (slot : Slot) → AreReal old
    → Steps old new slot (λ state. synced state.bytes)
    → LeavesNow P old → LeavesNow P new
after_sync P None None slot real steps now = tt
after_sync P None (Some new) slot real steps now = absurd (cc steps)
after_sync P (Some old) None slot real steps now = tt
after_sync P (Some old) (Some new) slot real steps now = λ zero one left.
    let is : new ≡ stepped slot (λ state. synced state.bytes) old = cc steps in
    now zero one (subst (λ l. MayLeaveBoth l zero one) (own slot old.now)
    (both_more slot old.now (synced (slot_of slot old.now).bytes) (slot_of slot old.now)
    (λ image. synced_within (slot_of slot old.now) image (real_there slot old.now real)) zero one
    (subst (λ (h : History). MayLeaveBoth h.now zero one) is left)))

-- and one that failed no others
pub after_failed_sync : (P : Images) (old new : Option History) (slot : Slot)
    → Fails old new slot (λ state. state) → LeavesNow P old → LeavesNow P new
after_failed_sync P old new slot (inl same) now = subst (λ l. LeavesNow P l) (sym same) now
after_failed_sync P None None slot (inr shakes) now = tt
after_failed_sync P None (Some new) slot (inr shakes) now = absurd (cc shakes.steps)
after_failed_sync P (Some old) None slot (inr shakes) now = tt
after_failed_sync P (Some old) (Some new) slot (inr shakes) now = λ zero one left.
    let is : new ≡ stepped slot (λ state. record state { bytes = shakes.bytes }) old = cc
    shakes.steps in
    now zero one (subst (λ l. MayLeaveBoth l zero one) (own slot old.now)
    (both_more slot old.now (record (slot_of slot old.now) { bytes = shakes.bytes })
    (slot_of slot old.now)
    (λ image. shaken (slot_of slot old.now) shakes.bytes image shakes.real) zero one
    (subst (λ (h : History). MayLeaveBoth h.now zero one) is left)))

-- a write that failed, at each of its moments
pub failed_write_leaves : (old new : Option History) (slot : Slot) (at n : ℕ)
    → Fails old new slot (loosened at n)
    → Leaves (MayLeaveWriting old slot at n) old new
failed_write_leaves old new slot at n failed =
    let P = MayLeaveWriting old slot at n in
    fails_on P old old new slot (loosened at n) (starts P old (before_writing old slot at n))
    failed (after_failed_write old new slot at n failed)

-- one that succeeded
pub write_leaves : (old new : Option History) (slot : Slot) (at : ℕ) (piece : List ℕ)
    → AreReal old → Reads old slot (λ bytes. at ≤ length bytes)
    → Steps old new slot (written at piece)
    → Leaves (MayLeaveWriting old slot at (length piece)) old new
write_leaves old new slot at piece real here steps =
    let P = MayLeaveWriting old slot at (length piece) in
    steps_on P old old new slot (written at piece) (starts P old
    (before_writing old slot at (length piece))) steps (after_write old new slot at piece real here
    steps)
