-- A load and a first save, one after the other.
use Rattle.std.proofs.Common.{◌≡◌, inl, inr, ℕ, List, Option, None, Some, Bor, [], ◌∷◌, Bool, true, false, sym, ◌∙◌, ap, subst}
use Rattle.std.specs.Prelude.{MatchOption, nat_lt, if◌then◌else◌}
use Rattle.std.specs.Option.{option_copied}
use Rattle.ug_disk.specs.declared.slot.Slot.{Slot}
use Rattle.ug_disk.specs.declared.slot.Slot.TheVariants.{Zero, One}
use Rattle.ug_disk.specs.Slots.{synced}
use Rattle.ug_disk.specs.Histories.{History, Slots, slot_of}
use Rattle.ug_disk.proofs.Images.{only_bytes}
use Rattle.ug_disk.specs.Crashes.{Leaves, MayLeaveBoth}
use Rattle.ug_disk.proofs.Moments.{joins, weakens}
use Rattle.ug_rules.specs.declared.settings.Settings.{Settings}
use Rattle.ug_rules.specs.State.{BookState}
use Rattle.ug_nodes.specs.declared.change.Change.{Change}
use Rattle.ug_problem.specs.Instances.{Instance}
use Rattle.ug_book.specs.Starts.{started}
use Rattle.ug_image.specs.declared.image.Image.{Image}
use Rattle.ug_checkpoint.specs.Runs.{CouldLeave}
use Rattle.ug_checkpoint.specs.declared.found.Found.{Found}
use Rattle.ug_checkpoint.specs.declared.saver.Saver.{Saver}
use Rattle.ug_checkpoint.specs.Bodies.{Has, Stores}
use Rattle.ug_checkpoint.proofs.Finding.{has_one}
use Rattle.ug_checkpoint.specs.Recovery.{HasFound, Recovered, chosen}
use Rattle.ug_checkpoint.specs.Savers.{CouldFind, IsLast, last_slot, sequence_of}
use Rattle.ug_restart.specs.Openings.{IsNotSaved, IsSafeFirst, WasFound}
use Rattle.ug_restart.specs.Starts.{IsBegun, IsNotBegun, IsSafeStart, IsSpent, begun, sequence_in}
use Rattle.ug_restart.specs.Books.{HasNoFirst, IsSaverOf}
use Rattle.ug_restart.specs.declared.fault.StartFault.{StartFault}
use Rattle.ug_restart.specs.declared.fault.StartFault.TheVariants.{Memory, DiskFault, BadImage, NoCheckpoint, OtherProblem, SmallerGap, Spent}

-- what was loaded could be found before
pub loaded_could : (old mid : Option History) (found : Option Found) → HasFound old mid found
    → CouldFind old found
loaded_could old mid found has = record {
  zero = has.zero;
  one = has.one;
  could = has.could;
  recovered = has.is;
}

-- after a load a crash leaves what it could leave before
settled : (P : List ℕ → List ℕ → Type 0) (old mid : Option History) (found : Option Found)
    → Leaves P old mid → HasFound old mid found → (zero one : List ℕ)
    → CouldLeave mid zero one → CouldLeave old zero one
settled P None mid found leaves has zero one could = tt
settled P (Some old) None found leaves has zero one could = absurd leaves
settled P (Some old) (Some mid) found leaves has zero one could =
    let both : MayLeaveBoth (record { zero = synced has.zero; one = synced has.one }) zero one =
    subst (λ slots. MayLeaveBoth slots zero one) has.have could in
    let is_zero : zero ≡ has.zero = only_bytes has.zero zero both.0 in
    let is_one : one ≡ has.one = only_bytes has.one one both.1 in
    subst (λ (z : List ℕ). MayLeaveBoth old.now z one) (sym is_zero)
    (subst (λ (o : List ℕ). MayLeaveBoth old.now has.zero o) (sym is_one) has.could)

still_found : (P : List ℕ → List ℕ → Type 0) (old mid : Option History) (found other : Option Found)
    → Leaves P old mid → HasFound old mid found → CouldFind mid other → CouldFind old other
still_found P old mid found other leaves has could = record {
  zero = could.zero;
  one = could.one;
  could = settled P old mid found leaves has could.zero could.one could.could;
  recovered = could.recovered;
}

-- the slot of these two bytes
abbrev in_slot : Slot → List ℕ → List ℕ → List ℕ
in_slot Zero zero one = zero
in_slot One zero one = one

found_is : (slot : Slot) (image : Image) (found : Found)
    → ◌≡◌ {A = Option Found} (Some found) (Some (record { slot = slot; image = image }))
    → found ≡ record { slot = slot; image = image }
found_is slot image found same = cc same

later_has : (zero one : List ℕ) (a b : Image) (found : Found) (less : Bool) → Has zero a → Has one b
    → Some found ≡ (if less then Some (record { slot = One; image = b })
    else Some (record { slot = Zero; image = a }))
    → Has (in_slot found.slot zero one) found.image
later_has zero one a b found true first second same =
    subst (λ (f : Found). Has (in_slot f.slot zero one) f.image)
    (sym (found_is One b found same)) second
later_has zero one a b found false first second same =
    subst (λ (f : Found). Has (in_slot f.slot zero one) f.image)
    (sym (found_is Zero a found same)) first

-- the slot of what is chosen has it
pub chosen_has : (zero one : List ℕ) (a b : Option Image) (found : Found) → Stores zero a
    → Stores one b → Some found ≡ chosen a b → Has (in_slot found.slot zero one) found.image
chosen_has zero one None None found first second same = absurd cc
chosen_has zero one (Some a) None found first second same =
    subst (λ (f : Found). Has (in_slot f.slot zero one) f.image)
    (sym (found_is Zero a found same)) first
chosen_has zero one None (Some b) found first second same =
    subst (λ (f : Found). Has (in_slot f.slot zero one) f.image)
    (sym (found_is One b found same)) second
chosen_has zero one (Some a) (Some b) found first second same =
    later_has zero one a b found (nat_lt a.sequence b.sequence) first second same

in_now : (slot : Slot) (zero one : List ℕ) (image : Image) (now : Slots)
    → now ≡ record { zero = synced zero; one = synced one }
    → Has (slot_of slot now).bytes image → Has (in_slot slot zero one) image
in_now Zero zero one image now same has =
    subst (λ (s : Slots). Has s.zero.bytes image) same has
in_now One zero one image now same has =
    subst (λ (s : Slots). Has s.one.bytes image) same has

-- the last acknowledged image of a saver of what was found is what was found
last_found : (P : List ℕ → List ℕ → Type 0) (old mid : Option History) (found other : Option Found)
    (last : Option Slot) (zero one : List ℕ)
    → Leaves P old mid → HasFound old mid found
    → MatchOption found (last ≡ None) (λ f. last ≡ Some f.slot)
    → Recovered zero one other → IsLast last mid other → CouldFind old other
last_found P old mid None other last zero one leaves has same recovered is =
    let none : other ≡ None = subst (λ l. IsLast l mid other) same is in
    subst (CouldFind old) (sym none) (loaded_could old mid None has)
last_found P None mid (Some found) other last zero one leaves has same recovered is =
    record { zero = zero; one = one; could = tt; recovered = recovered }
last_found P (Some old) None (Some found) other last zero one leaves has same recovered is =
    absurd leaves
last_found P (Some old) (Some mid) (Some found) other last zero one leaves has same recovered is =
    let own : IsLast (Some found.slot) (Some mid) other = subst (λ l. IsLast l (Some mid) other) same
    is in
    let kept = chosen_has has.zero has.one has.is.in_zero has.is.in_one found has.is.has_zero
    has.is.has_one has.is.greater in
    let there = in_now found.slot has.zero has.one own.0 mid.now has.have own.1 in
    let image : own.0 ≡ found.image = has_one _ own.0 found.image there kept in
    subst (CouldFind (Some old))
    (sym (own.2 ∙ ap (λ (i : Image). Some (record { slot = found.slot; image = i })) image))
    (loaded_could (Some old) (Some mid) (Some found) has)

-- a load, and then a first save of a book that P holds of
pub both : (P : BookState → Type 0) (old mid new : Option History) (found : Option Found)
    (saver : Saver) (book : BookState)
    → HasFound old mid found → MatchOption found (last_slot saver ≡ None)
    (λ f. last_slot saver ≡ Some f.slot)
    → P book → Leaves (CouldLeave old) old mid → Leaves (IsSafeFirst saver mid book) mid new
    → Leaves (IsSafeStart old P) old new
both P old mid new found saver book has last holds first second =
    joins (IsSafeStart old P) old mid new
    (weakens (CouldLeave old) (IsSafeStart old P) old mid (λ zero one could. inl could) first)
    (weakens (IsSafeFirst saver mid book) (IsSafeStart old P) mid new (λ zero one safe. elim safe [
      | inl could ↦ inl (settled (CouldLeave old) old mid found first has zero one could)
      | inr (other, recovered, inl (inl could)) ↦
          inr (
            other,
            recovered,
            inl (still_found (CouldLeave old) old mid found other first has
                could),
          )
      | inr (other, recovered, inl (inr is)) ↦
          inr (
            other,
            recovered,
            inl (last_found (CouldLeave old) old mid found other
                (last_slot saver) zero one first has last recovered is),
          )
      | inr (other, recovered, inr (image, same, moment)) ↦
          inr (other, recovered, inr (image, same, (book, holds, moment)))
    ]) second)

-- a load alone
pub alone : (P : BookState → Type 0) (old mid : Option History)
    → Leaves (CouldLeave old) old mid → Leaves (IsSafeStart old P) old mid
alone P old mid first =
    weakens (CouldLeave old) (IsSafeStart old P) old mid (λ zero one could. inl could) first

-- the book that begins on what was loaded
pub beginning : (p : Instance) (settings : Settings) (old mid : Option History)
    (found copied : Option Found) (book : BookState) → HasFound old mid found → copied ≡ found
    → ¬ IsSpent copied → book ≡ begun p settings copied → IsBegun p settings old book
beginning p settings old mid found copied book has same room made = record {
  found = found;
  could = loaded_could old mid found has;
  room = subst (λ f. ¬ IsSpent f) same room;
  is = subst (λ f. book ≡ begun p settings f) same made;
}

-- the last slot of a saver of what was found
pub saver_last : (found copied : Option Found) (saver : Saver) → copied ≡ found
    → IsSaverOf copied saver
    → MatchOption found (last_slot saver ≡ None) (λ f. last_slot saver ≡ Some f.slot)
saver_last found copied saver same is =
    subst (λ o. MatchOption o (last_slot saver ≡ None) (λ f. last_slot saver ≡ Some f.slot)) same
    is.last

-- and its sequence
pub saver_sequence : (found copied : Option Found) (saver : Saver) → copied ≡ found
    → IsSaverOf copied saver → sequence_of saver ≡ sequence_in found
saver_sequence found copied saver same is =
    subst (λ (o : Option Found). sequence_of saver ≡ sequence_in o) same is.sequence

-- why no new book is made is why none begins
pub not_first : (old mid : Option History) (found copied : Option Found) (fault : StartFault)
    → HasFound old mid found → copied ≡ found → HasNoFirst copied fault
    → IsNotBegun old mid fault
not_first old mid found copied Memory has same why = tt
not_first old mid found copied DiskFault has same why = tt
not_first old mid found copied (BadImage slot at) has same why = absurd why
not_first old mid found copied NoCheckpoint has same why = absurd why
not_first old mid found copied (OtherProblem at kept read) has same why = absurd why
not_first old mid found copied (SmallerGap kept asked) has same why = absurd why
not_first old mid found copied Spent has same why = (found, has, subst IsSpent same why)

-- a first image that is not saved is why no run begins
pub not_saved : (old new : Option History) (fault : StartFault) → IsNotSaved fault
    → IsNotBegun old new fault
not_saved old new Memory not = tt
not_saved old new DiskFault not = tt
not_saved old new (BadImage slot at) not = absurd not
not_saved old new NoCheckpoint not = absurd not
not_saved old new (OtherProblem at kept read) not = absurd not
not_saved old new (SmallerGap kept asked) not = absurd not
not_saved old new Spent not = absurd not

-- what was loaded was found by the whole call
pub was_found : (P : List ℕ → List ℕ → Type 0) (old mid new : Option History)
    (found : Option Found) → HasFound old mid found → Leaves (CouldLeave old) old mid
    → Leaves P mid new → WasFound old new found
was_found P old mid new found has before after = record {
  mid = mid;
  has = has;
  before = before;
  after = weakens P (λ zero one. Unit {0}) mid new (λ zero one is. tt) after;
}
