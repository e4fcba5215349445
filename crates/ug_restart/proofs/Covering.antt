-- Covered at each moment of a save.
use Rattle.std.proofs.Common.{◌≡◌, inl, inr, ℕ, List, [], ◌∷◌, ◌++◌, Option, None, Some, IfSome, refl, sym, ◌∙◌, ap, subst}
use Rattle.ug_disk.specs.declared.slot.Slot.{Slot}
use Rattle.ug_disk.specs.Histories.{History, Slots, moments, slot_of}
use Rattle.ug_disk.specs.Crashes.{Leaves, MayLeaveBoth, MightHaveLeft}
use Rattle.ug_disk.proofs.Moments.{LeavesNow, joins, starts, stays, weakens}
use Rattle.ug_checkpoint.specs.Runs.{CouldLeave}
use Rattle.ug_image.specs.declared.image.Image.{Image}
use Rattle.ug_image.proofs.Verdicts.{image_is_told, one_image}
use Rattle.ug_checkpoint.specs.declared.found.Found.{Found}
use Rattle.ug_checkpoint.specs.declared.saver.Saver.{Saver}
use Rattle.ug_checkpoint.specs.Bodies.{Has, stored}
use Rattle.ug_checkpoint.specs.Recovery.{Recovered}
use Rattle.ug_checkpoint.specs.Savers as savers
use Rattle.ug_checkpoint.specs.Savers.{CouldFind, Finds, IsLast, last_slot, next_slot}
use Rattle.ug_checkpoint.proofs.Finding.{recovered_one}
use Rattle.ug_snapshot.specs.Moments.{IsCovered}
use Rattle.ug_restart.specs.Moments.{AllCovered, FindsOne, IsCoveredFind, IsCoveredNow, IsSafeSave, LastIsCovered}

-- the image that is saved, and its slot
abbrev pub found_of : Saver → Image → Found
found_of saver image = record { slot = next_slot saver; image = image }

-- ---- moments

could_now : (told : Option History) → LeavesNow (CouldLeave told) told
could_now None = tt
could_now (Some history) = λ zero one may. may

-- if nothing was done a crash leaves what it could
pub nothing_done : (saver : Saver) (told new : Option History) (P : Image → Type 0) → new ≡ told
    → Leaves (IsSafeSave saver told P) told new
nothing_done saver told new P same =
    stays (IsSafeSave saver told P) told told new
    (weakens (CouldLeave told) (IsSafeSave saver told P) told told
    (λ zero one could. inl could) (starts (CouldLeave told) told (could_now told))) same

-- during the save of an image
pub saving : (saver : Saver) (told new : Option History) (image : Image) (P : Image → Type 0)
    → P image → Leaves (savers.IsSafe (last_slot saver) told (found_of saver image)) told new
    → Leaves (IsSafeSave saver told P) told new
saving saver told new image P holds leaves =
    weakens (savers.IsSafe (last_slot saver) told (found_of saver image))
    (IsSafeSave saver told P) told new
    (λ zero one safe. inr (record {
      found = safe.found;
      recovered = safe.recovered;
      is = elim safe.is [
        | inl old ↦ inl old
        | inr same ↦ inr (record { new = found_of saver image; same = same; is = holds })
      ];
    })) leaves

-- of images that have more
pub saving_more : (saver : Saver) (told new : Option History) (P Q : Image → Type 0)
    → ((image : Image) → P image → Q image) → Leaves (IsSafeSave saver told P) told new
    → Leaves (IsSafeSave saver told Q) told new
saving_more saver told new P Q more leaves =
    weakens (IsSafeSave saver told P) (IsSafeSave saver told Q) told new
    (λ zero one safe. elim safe [
      | inl could ↦ inl could
      | inr one ↦ inr (record {
        found = one.found;
        recovered = one.recovered;
        is = elim one.is [
          | inl old ↦ inl old
          | inr new_one ↦ inr (record {
            new = new_one.new;
            same = new_one.same;
            is = more new_one.new.image new_one.is;
          })
        ];
      })
    ]) leaves

pub finds_more : (told : Option History) (P Q : Image → Type 0)
    → ((image : Image) → P image → Q image) → FindsOne P told → FindsOne Q told
finds_more told P Q more one =
    record { found = one.found; finds = one.finds; is = more one.found.image one.is }

-- ---- what a crash leaves at the last moment

first_left : (P : List ℕ → List ℕ → Type 0) (old new : History) (since : List Slots)
    → moments new ≡ since ++ moments old
    → ((zero one : List ℕ) → MightHaveLeft (since ++ old.now ∷ []) zero one → P zero one)
    → (zero one : List ℕ) → MayLeaveBoth new.now zero one → P zero one
first_left P old new [] later each zero one may =
    let same : new.now ≡ old.now = cc later in
    each zero one (inl (subst (λ (s : Slots). MayLeaveBoth s zero one) same may))
first_left P old new (s ∷ since) later each zero one may =
    let same : new.now ≡ s = cc later in
    each zero one (inl (subst (λ (t : Slots). MayLeaveBoth t zero one) same may))

pub leaves_now : (P : List ℕ → List ℕ → Type 0) (old new : History)
    → Leaves P (Some old) (Some new) → (zero one : List ℕ) → MayLeaveBoth new.now zero one
    → P zero one
leaves_now P old new leaves = first_left P old new leaves.since leaves.later leaves.each

-- ---- the last acknowledged image

has_same : (slot : List ℕ) (a b : Image) → Has slot a → Has slot b → a ≡ b
has_same slot a b first second =
    one_image (stored slot) a b (image_is_told (stored slot) a first.spells) second.spells

pub last_one : (last : Option Slot) (history : History) (a b : Option Found)
    → IsLast last (Some history) a → IsLast last (Some history) b → a ≡ b
last_one None history a b first second = first ∙ sym second
last_one (Some slot) history a b first second =
    first.2
    ∙ (ap (λ (i : Image). Some (record { slot = slot; image = i }))
    (has_same (slot_of slot history.now).bytes first.0 second.0 first.1 second.1)
    ∙ sym second.2)

-- ---- Covered

abbrev Covers : Option Found → Type 0
Covers found = IfSome found (λ (f : Found). IsCovered f.image)

safe_covered : (saver : Saver) (history : History) (P : Image → Type 0)
    → ((image : Image) → P image → IsCovered image) → IsCoveredNow saver (Some history)
    → (zero one : List ℕ) → IsSafeSave saver (Some history) P zero one → IsCoveredFind zero one
safe_covered saver history P covers now zero one (inl could) found recovered =
    now.could zero one could found recovered
safe_covered saver history P covers now zero one (inr safe) found recovered =
    let same : safe.found ≡ Some found =
    recovered_one zero one safe.found (Some found) safe.recovered recovered in
    elim safe.is [
      | inl (inl could) ↦
          now.could could.zero could.one could.could found
          (subst (λ f. Recovered could.zero could.one f) same could.recovered)
      | inl (inr last) ↦
          subst Covers
          (last_one (last_slot saver) history now.last.found safe.found now.last.last last ∙ same)
          now.last.covered
      | inr new ↦ subst Covers (sym new.same ∙ same) (covers new.new.image new.is)
    ]

-- if it is reported, all is Covered from the one time to the other, and so is the last image then
abbrev pub Stays : Option History → Saver → Option History → Type 0
Stays old after new =
    IfSome old (λ history. AllCovered (Some history) new × LastIsCovered after new)

-- if nothing was done
pub covered_same : (before after : Saver) (old new : Option History) → new ≡ old
    → after ≡ before → IsCoveredNow before old → Stays old after new
covered_same before after None new same saver now = tt
covered_same before after (Some history) new same saver now =
    subst (λ n. AllCovered (Some history) n × LastIsCovered after n) (sym same) (
      starts IsCoveredFind (Some history) now.could,
      subst (λ s. LastIsCovered s (Some history)) (sym saver) now.last,
    )

-- if a save ended well
pub covered_saved : (before after : Saver) (old new : Option History) (image : Image)
    → IsCovered image
    → Leaves (savers.IsSafe (last_slot before) old (found_of before image)) old new
    → IsLast (last_slot after) new (Some (found_of before image)) → IsCoveredNow before old
    → Stays old after new
covered_saved before after None new image covered leaves last now = tt
covered_saved before after (Some history) new image covered leaves last now = (
  weakens (IsSafeSave before (Some history) (λ i. i ≡ image)) IsCoveredFind (Some history) new
      (safe_covered before history (λ i. i ≡ image)
      (λ i is. subst IsCovered (sym is) covered) now)
      (saving before (Some history) new image (λ i. i ≡ image) refl leaves),
  record { found = Some (found_of before image); last = last; covered = covered },
)

-- if it failed
pub covered_failed : (before after : Saver) (old new : Option History) (image : Image)
    → IsCovered image
    → Leaves (savers.IsSafe (last_slot before) old (found_of before image)) old new
    → ((found : Option Found) → IsLast (last_slot before) old found
    → IsLast (last_slot after) new found) → IsCoveredNow before old → Stays old after new
covered_failed before after None new image covered leaves stays_last now = tt
covered_failed before after (Some history) new image covered leaves stays_last now = (
  weakens (IsSafeSave before (Some history) (λ i. i ≡ image)) IsCoveredFind (Some history) new
      (safe_covered before history (λ i. i ≡ image)
      (λ i is. subst IsCovered (sym is) covered) now)
      (saving before (Some history) new image (λ i. i ≡ image) refl leaves),
  record {
    found = now.last.found;
    last = stays_last now.last.found now.last.last;
    covered = now.last.covered;
  },
)

-- one run of saves after another
pub covered_joined : (a b c : Option History) (between after : Saver) → Stays a between b
    → (IsCoveredNow between b → Stays b after c) → Stays a after c
covered_joined None b c between after first second = tt
covered_joined (Some history) None c between after first second = absurd first.0
covered_joined (Some history) (Some mid) c between after first second =
    let now : IsCoveredNow between (Some mid) = record {
      could = leaves_now IsCoveredFind history mid first.0;
      last = first.1;
    } in
    let s = second now in
    (joins IsCoveredFind (Some history) (Some mid) c first.0 s.0, s.1)

-- all that a crash could leave at each moment
pub covered_each : (old new : Option History) (after : Saver) → Stays old after new
    → AllCovered old new
covered_each None new after stays = tt
covered_each (Some history) new after stays = stays.0
