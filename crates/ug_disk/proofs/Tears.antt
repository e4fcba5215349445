-- A write that fails on its way.
use Rattle.std.proofs.Common.{◌≡◌, inl, inr, ℕ, Some, Result, Ok, Err, OnOk, OnErr, refl, ap, arith}
use Rattle.ug_disk.specs.declared.slot.Slot.{Slot}
use Rattle.ug_disk.specs.declared.slot.Slot.TheVariants.{Zero, One}
use Rattle.ug_disk.specs.Slots.{SlotState, MayLeave, IsReal, loosened}
use Rattle.ug_disk.specs.Histories.{History, Fails, slot_of, stepped}

-- what a read gives is still real where a place is loose
pub real_loosened : (slot : SlotState) (at n : ℕ) → IsReal slot
    → MayLeave (loosened at n slot) slot.bytes
real_loosened slot at n real = record {
  no_shorter = real.no_shorter;
  no_longer = omega (arith, real.no_longer);
  kept = λ place here. inr refl;
}

real_slot : (slot : Slot) (history : History) → IsReal history.now.zero → IsReal history.now.one
    → IsReal (slot_of slot history.now)
real_slot Zero history zero one = zero
real_slot One history zero one = one

pub tears : (slot : Slot) (at n : ℕ) (old new : History) → IsReal old.now.zero → IsReal old.now.one
    → new ≡ stepped slot (loosened at n) old → Fails (Some old) (Some new) slot (loosened at n)
tears slot at n old new zero one is = inr (record {
  bytes = (slot_of slot old.now).bytes;
  real = real_loosened (slot_of slot old.now) at n (real_slot slot old zero one);
  steps = ap Some is;
})

pub tears_or_not : {X Y : Type 0} (result : Result X Y) (slot : Slot) (at n : ℕ) (old new :
    History) → IsReal old.now.zero → IsReal old.now.one
    → OnOk result (new ≡ stepped slot (loosened at n) old) → OnErr result (new ≡ old)
    → Fails (Some old) (Some new) slot (loosened at n)
tears_or_not (Ok x) slot at n old new zero one ok err = tears slot at n old new zero one ok
tears_or_not (Err e) slot at n old new zero one ok err = inl (ap Some err)
