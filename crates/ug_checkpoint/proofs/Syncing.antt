-- Both slots are synced, one after the other.
use Rattle.std.proofs.Common.{◌≡◌, [], Option, None, Some, ◌∙◌, ap}
use Rattle.ug_disk.specs.declared.slot.Slot.TheVariants.{Zero, One}
use Rattle.ug_disk.specs.Slots.{synced}
use Rattle.ug_disk.specs.Histories.{History, Steps, Fails, AreReal, stepped}
use Rattle.ug_disk.specs.Crashes.{Leaves}
use Rattle.ug_disk.proofs.Moments.{LeavesNow, starts, steps_on, fails_on}
use Rattle.ug_disk.proofs.Writing.{after_sync, after_failed_sync}
use Rattle.ug_checkpoint.specs.Runs.{CouldLeave, Settles}

now : (told : Option History) → LeavesNow (CouldLeave told) told
now None = tt
now (Some told) = λ zero one left. left

-- after the first sync
first_now : (old mid : Option History) → AreReal old → Steps old mid Zero (λ s. synced s.bytes)
    → LeavesNow (CouldLeave old) mid
first_now old mid real steps = after_sync (CouldLeave old) old mid Zero real steps (now old)

first : (old mid : Option History) → AreReal old → Steps old mid Zero (λ s. synced s.bytes)
    → Leaves (CouldLeave old) old mid
first old mid real steps =
    steps_on (CouldLeave old) old old mid Zero (λ s. synced s.bytes)
    (starts (CouldLeave old) old (now old)) steps (first_now old mid real steps)

pub first_fails : (old new : Option History) → Fails old new Zero (λ s. s)
    → Leaves (CouldLeave old) old new
first_fails old new failed =
    fails_on (CouldLeave old) old old new Zero (λ s. s) (starts (CouldLeave old) old (now old))
    failed (after_failed_sync (CouldLeave old) old new Zero failed (now old))

pub second_fails : (old mid new : Option History) → AreReal old
    → Steps old mid Zero (λ s. synced s.bytes) → Fails mid new One (λ s. s)
    → Leaves (CouldLeave old) old new
second_fails old mid new real steps failed =
    fails_on (CouldLeave old) old mid new One (λ s. s) (first old mid real steps) failed
    (after_failed_sync (CouldLeave old) mid new One failed (first_now old mid real steps))

pub both : (old mid new : Option History) → AreReal old → AreReal mid
    → Steps old mid Zero (λ s. synced s.bytes) → Steps mid new One (λ s. synced s.bytes)
    → Leaves (CouldLeave old) old new
both old mid new real also steps then =
    steps_on (CouldLeave old) old mid new One (λ s. synced s.bytes) (first old mid real steps) then
    (after_sync (CouldLeave old) mid new One also then (first_now old mid real steps))

-- the slots are then as they were read
pub settles : (old mid new : Option History) → AreReal old
    → Steps old mid Zero (λ s. synced s.bytes) → Steps mid new One (λ s. synced s.bytes)
    → Settles old new
settles None None None real steps steps' =
    record { zero = []; one = []; have = tt; could = tt }
settles None None (Some new) real steps steps' = absurd (cc steps')
settles None (Some mid) new real steps steps' = absurd (cc steps)
settles (Some old) None new real steps steps' = absurd (cc steps)
settles (Some old) (Some mid) None real steps steps' = absurd (cc steps')
settles (Some old) (Some mid) (Some new) real steps steps' =
    let was : mid ≡ stepped Zero (λ s. synced s.bytes) old = cc steps in
    let is : new ≡ stepped One (λ s. synced s.bytes) mid = cc steps' in
    record {
      zero = old.now.zero.bytes;
      one = old.now.one.bytes;
      have = ap (λ (h : History). h.now) is
          ∙ ap (λ (h : History). (stepped One (λ s. synced s.bytes) h).now) was;
      could = real;
    }
