-- How a run continues in which one of the slots changes and the other stays.
use Rattle.std.proofs.Common.{◌≡◌, inl, inr, ℕ, ◌≤◌, List, length, Option, None, Some, Result, Ok, Err, OnErr, refl, sym, ◌∙◌, subst, arith}
use Rattle.ug_disk.specs.declared.slot.Slot.{Slot}
use Rattle.ug_disk.specs.declared.slot.Slot.TheVariants.{Zero, One}
use Rattle.ug_disk.specs.Slots.{SlotState, MayLeave, IsReal, synced, loosened}
use Rattle.ug_disk.specs.Histories.{Slots, History, Steps, Fails, Reads, AreReal, slot_of, with_slot, stepped}
use Rattle.ug_disk.specs.Crashes.{MayLeaveBoth, Leaves, MayLeaveWriting}
use Rattle.ug_disk.proofs.Moments.{LeavesNow, starts, steps_on, fails_on, joins, weakens}
use Rattle.ug_disk.proofs.Writing.{after_sync, after_failed_sync}
use Rattle.ug_checkpoint.specs.Gates.{IsOpen, Opens}
use Rattle.ug_checkpoint.specs.Runs.{other, bytes_in, Stands, Becomes, OnlyOpens}

-- from a state of a slot to another
abbrev pub Becoming : Type 1
Becoming = SlotState → SlotState → Type 0

abbrev pub Opened : Type 1
Opened = SlotState → List ℕ → Type 0

pub put_there : (slot : Slot) (slots : Slots) (a : SlotState)
    → slot_of slot (with_slot slot a slots) ≡ a
put_there Zero slots a = refl
put_there One slots a = refl

pub others_stay : (slot : Slot) (slots : Slots) (a : SlotState)
    → slot_of (other slot) (with_slot slot a slots) ≡ slot_of (other slot) slots
others_stay Zero slots a = refl
others_stay One slots a = refl

real_there : (slot : Slot) (slots : Slots) → IsReal slots.zero × IsReal slots.one
    → IsReal (slot_of slot slots)
real_there Zero slots real = real.0
real_there One slots real = real.1

pub on_err : {X E : Type 0} (r : Result X E) (P : Type 0) → P → OnErr r P
on_err (Ok x) P holds = tt
on_err (Err e) P holds = holds

-- the two images, each of its slot
parted : (slot : Slot) (slots : Slots) (zero one : List ℕ) → MayLeaveBoth slots zero one
    → MayLeave (slot_of (other slot) slots) (bytes_in (other slot) zero one)
    × MayLeave (slot_of slot slots) (bytes_in slot zero one)
parted Zero slots zero one left = (left.1, left.0)
parted One slots zero one left = (left.0, left.1)

-- nothing became of it
pub becomes_same : (R : Becoming) (told : Option History) (slot : Slot)
    → Stands told slot (λ s. R s s) → Becomes told told slot R
becomes_same R None slot now = tt
becomes_same R (Some told) slot now = (refl, now)

-- one call more
stepped_to : (S : Becoming) (old mid new : History) (slot : Slot) (change : SlotState → SlotState)
    → slot_of (other slot) mid.now ≡ slot_of (other slot) old.now → new ≡ stepped slot change mid
    → S (slot_of slot old.now) (change (slot_of slot mid.now))
    → Becomes (Some old) (Some new) slot S
stepped_to S old mid new slot change stood is next =
    let b = slot_of slot mid.now in
    subst (λ (h : History). (slot_of (other slot) h.now ≡ slot_of (other slot) old.now)
    × S (slot_of slot old.now) (slot_of slot h.now)) (sym is) (
      others_stay slot mid.now (change b) ∙ stood,
      subst (λ s. S (slot_of slot old.now) s) (sym (put_there slot mid.now (change b))) next,
    )

pub becomes_none : (told : Option History) (slot : Slot) → Becomes told told slot (λ a b. b ≡ a)
becomes_none None slot = tt
becomes_none (Some told) slot = (refl, refl)

pub becomes_steps : (R S : Becoming) (old mid new : Option History) (slot : Slot) (change : SlotState
    → SlotState)
    → Becomes old mid slot R → AreReal mid → Steps mid new slot change
    → ((a b : SlotState) → R a b → IsReal b → S a (change b))
    → Becomes old new slot S
becomes_steps R S None None None slot change so_far real steps next = tt
becomes_steps R S None None (Some new) slot change so_far real steps next = absurd (cc steps)
becomes_steps R S None (Some mid) new slot change so_far real steps next = absurd so_far
becomes_steps R S (Some old) None new slot change so_far real steps next = absurd so_far
becomes_steps R S (Some old) (Some mid) None slot change so_far real steps next = absurd (cc steps)
becomes_steps R S (Some old) (Some mid) (Some new) slot change so_far real steps next =
    stepped_to S old mid new slot change so_far.0 (cc steps)
    (next _ _ so_far.1 (real_there slot mid.now real))

becomes_real : (R S : Becoming) (old new : Option History) (slot : Slot)
    → Becomes old new slot R → AreReal new → ((a b : SlotState) → R a b → IsReal b → S a b)
    → Becomes old new slot S
becomes_real R S None None slot so_far real next = tt
becomes_real R S None (Some new) slot so_far real next = absurd so_far
becomes_real R S (Some old) None slot so_far real next = absurd so_far
becomes_real R S (Some old) (Some new) slot so_far real next =
    (so_far.0, next _ _ so_far.1 (real_there slot new.now real))

-- one call more, which failed
pub becomes_fails : (R S : Becoming) (old mid new : Option History) (slot : Slot) (change : SlotState
    → SlotState)
    → Becomes old mid slot R → AreReal mid → Fails mid new slot change
    → ((a b : SlotState) → R a b → IsReal b → S a b)
    → ((a b : SlotState) (bytes : List ℕ) → R a b → IsReal b → MayLeave (change b) bytes
    → S a (record (change b) { bytes = bytes }))
    → Becomes old new slot S
becomes_fails R S old mid new slot change so_far real (inl same) stays next =
    subst (λ l. Becomes old l slot S) (sym same) (becomes_real R S old mid slot so_far real stays)
becomes_fails R S None None None slot change so_far real (inr shakes) stays next = tt
becomes_fails R S None None (Some new) slot change so_far real (inr shakes) stays next =
    absurd (cc shakes.steps)
becomes_fails R S None (Some mid) new slot change so_far real (inr shakes) stays next =
    absurd so_far
becomes_fails R S (Some old) None new slot change so_far real (inr shakes) stays next =
    absurd so_far
becomes_fails R S (Some old) (Some mid) None slot change so_far real (inr shakes) stays next =
    absurd (cc shakes.steps)
becomes_fails R S (Some old) (Some mid) (Some new) slot change so_far real (inr shakes) stays
    next =
    stepped_to S old mid new slot (λ state. record (change state) { bytes = shakes.bytes })
    so_far.0 (cc shakes.steps)
    (next _ _ shakes.bytes so_far.1 (real_there slot mid.now real) shakes.real)

pub becomes_is : (R S : Becoming) (old new : Option History) (slot : Slot)
    → Becomes old new slot R → ((a b : SlotState) → R a b → S a b) → Becomes old new slot S
becomes_is R S None None slot so_far next = tt
becomes_is R S None (Some new) slot so_far next = absurd so_far
becomes_is R S (Some old) None slot so_far next = absurd so_far
becomes_is R S (Some old) (Some new) slot so_far next = (so_far.0, next _ _ so_far.1)

-- with what was at the start
pub becomes_from : (P : SlotState → Type 0) (R S : Becoming) (old new : Option History) (slot : Slot)
    → Stands old slot P → Becomes old new slot R → ((a b : SlotState) → P a → R a b → S a b)
    → Becomes old new slot S
becomes_from P R S None None slot stood so_far next = tt
becomes_from P R S None (Some new) slot stood so_far next = absurd so_far
becomes_from P R S (Some old) None slot stood so_far next = absurd so_far
becomes_from P R S (Some old) (Some new) slot stood so_far next =
    (so_far.0, next _ _ stood so_far.1)

-- one run after another
pub becomes_joins : (R S T : Becoming) (old mid new : Option History) (slot : Slot)
    → Becomes old mid slot R → Becomes mid new slot S
    → ((a b c : SlotState) → R a b → S b c → T a c) → Becomes old new slot T
becomes_joins R S T None None None slot first second next = tt
becomes_joins R S T None None (Some new) slot first second next = absurd second
becomes_joins R S T None (Some mid) new slot first second next = absurd first
becomes_joins R S T (Some old) None new slot first second next = absurd first
becomes_joins R S T (Some old) (Some mid) None slot first second next = absurd second
becomes_joins R S T (Some old) (Some mid) (Some new) slot first second next =
    (second.0 ∙ first.0, next _ _ _ first.1 second.1)

-- the state at the end
pub stands_after : (R : Becoming) (P : SlotState → Type 0) (old new : Option History) (slot : Slot)
    → Becomes old new slot R → ((a b : SlotState) → R a b → P b) → Stands new slot P
stands_after R P None None slot so_far next = tt
stands_after R P None (Some new) slot so_far next = absurd so_far
stands_after R P (Some old) None slot so_far next = tt
stands_after R P (Some old) (Some new) slot so_far next = next _ _ so_far.1

pub stands_is : (P P' : SlotState → Type 0) (told : Option History) (slot : Slot)
    → Stands told slot P → ((s : SlotState) → P s → P' s) → Stands told slot P'
stands_is P P' None slot stood next = tt
stands_is P P' (Some told) slot stood next = next _ stood

pub stands_all : (P : SlotState → Type 0) (told : Option History) (slot : Slot)
    → ((s : SlotState) → P s) → Stands told slot P
stands_all P None slot all = tt
stands_all P (Some told) slot all = all _

-- each slot has a first place
pub any_place : (told : Option History) (slot : Slot) → Reads told slot (λ bytes. 0 ≤ length bytes)
any_place None slot = tt
any_place (Some told) slot = omega arith

-- what a crash now may leave
only_now : (Q : Opened) (R : Becoming) (old new : Option History) (slot : Slot)
    → Becomes old new slot R → ((a b : SlotState) → R a b → Opens (Q a) b)
    → LeavesNow (OnlyOpens old slot Q) new
only_now Q R None None slot so_far opens = tt
only_now Q R None (Some new) slot so_far opens = absurd so_far
only_now Q R (Some old) None slot so_far opens = tt
only_now Q R (Some old) (Some new) slot so_far opens = λ zero one left.
    let parts = parted slot new.now zero one left in (
      subst (λ s. MayLeave s (bytes_in (other slot) zero one)) so_far.0 parts.0,
      λ opened. opens _ _ so_far.1 (bytes_in slot zero one) parts.1 opened,
    )

-- what a crash leaves at each moment: before the first call
pub only_starts : (Q : Opened) (told : Option History) (slot : Slot)
    → Stands told slot (λ s. Opens (Q s) s) → Leaves (OnlyOpens told slot Q) told told
only_starts Q told slot now =
    let R : Becoming = λ a b. Opens (Q a) b in
    starts (OnlyOpens told slot Q) told
    (only_now Q R told told slot (becomes_same R told slot now) (λ a b opens. opens))

-- one call more
pub only_steps : (Q : Opened) (R : Becoming) (old mid new : Option History) (slot : Slot) (change :
    SlotState → SlotState)
    → Leaves (OnlyOpens old slot Q) old mid → Steps mid new slot change → Becomes old new slot R
    → ((a b : SlotState) → R a b → Opens (Q a) b) → Leaves (OnlyOpens old slot Q) old new
only_steps Q R old mid new slot change so_far steps becomes opens =
    steps_on (OnlyOpens old slot Q) old mid new slot change so_far steps
    (only_now Q R old new slot becomes opens)

-- one call more, which failed
pub only_fails : (Q : Opened) (R : Becoming) (old mid new : Option History) (slot : Slot) (change :
    SlotState → SlotState)
    → Leaves (OnlyOpens old slot Q) old mid → Fails mid new slot change → Becomes old new slot R
    → ((a b : SlotState) → R a b → Opens (Q a) b) → Leaves (OnlyOpens old slot Q) old new
only_fails Q R old mid new slot change so_far failed becomes opens =
    fails_on (OnlyOpens old slot Q) old mid new slot change so_far failed
    (only_now Q R old new slot becomes opens)

from_before : (Q Q' : Opened) (R : Becoming) (old mid : Option History) (slot : Slot)
    → Becomes old mid slot R
    → ((a b : SlotState) (image : List ℕ) → R a b → IsOpen image → Q' b image → Q a image)
    → (zero one : List ℕ) → OnlyOpens mid slot Q' zero one → OnlyOpens old slot Q zero one
from_before Q Q' R None mid slot becomes next zero one left = tt
from_before Q Q' R (Some old) None slot becomes next zero one left = absurd becomes
from_before Q Q' R (Some old) (Some mid) slot becomes next zero one left = (
  subst (λ s. MayLeave s (bytes_in (other slot) zero one)) becomes.0 left.0,
  λ opened. next _ _ _ becomes.1 opened (left.1 opened),
)

-- one run after another
pub only_joins : (Q Q' : Opened) (R : Becoming) (old mid new : Option History) (slot : Slot)
    → Leaves (OnlyOpens old slot Q) old mid → Becomes old mid slot R
    → Leaves (OnlyOpens mid slot Q') mid new
    → ((a b : SlotState) (image : List ℕ) → R a b → IsOpen image → Q' b image → Q a image)
    → Leaves (OnlyOpens old slot Q) old new
only_joins Q Q' R old mid new slot first becomes second next =
    joins (OnlyOpens old slot Q) old mid new first
    (weakens (OnlyOpens mid slot Q') (OnlyOpens old slot Q) mid new
    (from_before Q Q' R old mid slot becomes next) second)

wider : (Q Q' : Opened) (told : Option History) (slot : Slot)
    → ((a : SlotState) (image : List ℕ) → Q a image → Q' a image)
    → (zero one : List ℕ) → OnlyOpens told slot Q zero one → OnlyOpens told slot Q' zero one
wider Q Q' None slot next zero one left = tt
wider Q Q' (Some told) slot next zero one left = (left.0, λ opened. next _ _ (left.1 opened))

-- more may be left
pub only_wider : (Q Q' : Opened) (old new : Option History) (slot : Slot)
    → Leaves (OnlyOpens old slot Q) old new
    → ((a : SlotState) (image : List ℕ) → Q a image → Q' a image)
    → Leaves (OnlyOpens old slot Q') old new
only_wider Q Q' old new slot leaves next =
    weakens (OnlyOpens old slot Q) (OnlyOpens old slot Q') old new (wider Q Q' old slot next) leaves

while_writing : (Q : Opened) (told : Option History) (slot : Slot)
    → Stands told slot (λ s. Opens (Q s) (loosened 0 1 s))
    → (zero one : List ℕ) → MayLeaveWriting told slot 0 1 zero one → OnlyOpens told slot Q zero one
while_writing Q None slot opens zero one left = tt
while_writing Q (Some told) slot opens zero one left =
    let after = loosened 0 1 (slot_of slot told.now) in
    let parts = parted slot (with_slot slot after told.now) zero one left in (
      subst (λ s. MayLeave s (bytes_in (other slot) zero one)) (others_stay slot told.now after)
          parts.0,
      λ opened. opens (bytes_in slot zero one)
          (subst (λ s. MayLeave s (bytes_in slot zero one)) (put_there slot told.now after) parts.1)
          opened,
    )

-- while the gate is written
pub only_writing : (Q : Opened) (old new : Option History) (slot : Slot)
    → Stands old slot (λ s. Opens (Q s) (loosened 0 1 s))
    → Leaves (MayLeaveWriting old slot 0 1) old new → Leaves (OnlyOpens old slot Q) old new
only_writing Q old new slot opens leaves =
    weakens (MayLeaveWriting old slot 0 1) (OnlyOpens old slot Q) old new
    (while_writing Q old slot opens) leaves

only_before : (told : Option History) (slot : Slot)
    → LeavesNow (OnlyOpens told slot MayLeave) told
only_before told slot =
    let R : Becoming = λ a b. Opens (MayLeave a) b in
    only_now MayLeave R told told slot
    (becomes_same R told slot (stands_all (λ s. Opens (MayLeave s) s) told slot
    (λ s image left opened. left))) (λ a b opens. opens)

-- a sync leaves no other images
pub syncs_within : (old new : Option History) (slot : Slot) → AreReal old
    → Steps old new slot (λ state. synced state.bytes)
    → Leaves (OnlyOpens old slot MayLeave) old new
syncs_within old new slot real steps =
    let P = OnlyOpens old slot MayLeave in
    let now = only_before old slot in
    steps_on P old old new slot (λ state. synced state.bytes) (starts P old now) steps
    (after_sync P old new slot real steps now)

-- nor one that failed
pub fails_within : (old new : Option History) (slot : Slot) → Fails old new slot (λ state. state)
    → Leaves (OnlyOpens old slot MayLeave) old new
fails_within old new slot failed =
    let P = OnlyOpens old slot MayLeave in
    let now = only_before old slot in
    fails_on P old old new slot (λ state. state) (starts P old now) failed
    (after_failed_sync P old new slot failed now)
