-- What recovery finds at each moment of a save, where it found an image of the run before.
use Rattle.std.proofs.Common.{◌≡◌, inl, inr, ℕ, List, Option, None, Some, IfSome, refl, sym, ◌∙◌, ap, subst}
use Rattle.ug_disk.specs.Histories.{History}
use Rattle.ug_disk.specs.Crashes.{Leaves, MayLeaveBoth}
use Rattle.ug_disk.proofs.Moments.{joins, starts, weakens}
use Rattle.ug_rules.specs.State.{BookState}
use Rattle.ug_image.specs.declared.image.Image.{Image}
use Rattle.ug_checkpoint.specs.declared.found.Found.{Found}
use Rattle.ug_checkpoint.specs.declared.saver.Saver.{Saver}
use Rattle.ug_checkpoint.specs.Recovery.{Recovered}
use Rattle.ug_checkpoint.specs.Savers as savers
use Rattle.ug_checkpoint.specs.Savers.{Finds, IsLast, last_slot}
use Rattle.ug_checkpoint.proofs.Finding.{recovered_one}
use Rattle.ug_snapshot.specs.Moments.{IsImageOf}
use Rattle.ug_restart.specs.Moments.{FindsIn, IsFoundNow, IsOfRun, IsSafeSave, LastIs}
use Rattle.ug_restart.specs.Openings.{IsAcknowledgedStart}
use Rattle.ug_restart.proofs.Covering.{found_of, last_one, leaves_now, saving}
use Rattle.ug_restart.proofs.Lasts.{last_now}

-- what was found before is found in these slots too, where it is the same
same_found : (P : Image → Type 0) (zero one a b : List ℕ) (found : Option Found)
    → Recovered a b found → Recovered zero one found → FindsIn P a b → FindsIn P zero one
same_found P zero one a b found here there finds =
    let same : found ≡ Some finds.found =
    recovered_one a b found (Some finds.found) here finds.recovered in
    record {
      found = finds.found;
      recovered = subst (λ f. Recovered zero one f) same there;
      is = finds.is;
    }

-- what a save may leave, where the image that is saved has P
safe_found : (saver : Saver) (history : History) (P Q : Image → Type 0)
    → ((image : Image) → Q image → P image) → IsFoundNow P saver (Some history)
    → (zero one : List ℕ) → IsSafeSave saver (Some history) Q zero one → FindsIn P zero one
safe_found saver history P Q has now zero one (inl could) = now.could zero one could
safe_found saver history P Q has now zero one (inr safe) = elim safe.is [
  | inl (inl could) ↦
      same_found P zero one could.zero could.one safe.found could.recovered safe.recovered
      (now.could could.zero could.one could.could)
  | inl (inr last) ↦ record {
    found = now.last.found;
    recovered = subst (λ f. Recovered zero one f)
        (last_one (last_slot saver) history safe.found (Some now.last.found) last now.last.last)
        safe.recovered;
    is = now.last.is;
  }
  | inr new ↦ record {
    found = new.new;
    recovered = subst (λ f. Recovered zero one f) new.same safe.recovered;
    is = has new.new.image new.is;
  }
]

-- if it is reported, recovery finds an image that has P from the one time to the other, and the
-- last acknowledged one then is such
abbrev pub Stands : (Image → Type 0) → Option History → Saver → Option History → Type 0
Stands P old after new =
    IfSome old (λ history. Leaves (FindsIn P) (Some history) new × LastIs P after new)

-- if nothing was done
pub found_same : (P : Image → Type 0) (before after : Saver) (old new : Option History)
    → new ≡ old → after ≡ before → IsFoundNow P before old → Stands P old after new
found_same P before after None new same saver now = tt
found_same P before after (Some history) new same saver now =
    subst (λ n. Leaves (FindsIn P) (Some history) n × LastIs P after n) (sym same) (
      starts (FindsIn P) (Some history) now.could,
      subst (λ s. LastIs P s (Some history)) (sym saver) now.last,
    )

-- if an image was saved, or not
found_during : (P : Image → Type 0) (before : Saver) (history : History) (new : Option History)
    (image : Image) → P image
    → Leaves (savers.IsSafe (last_slot before) (Some history) (found_of before image))
    (Some history) new → IsFoundNow P before (Some history)
    → Leaves (FindsIn P) (Some history) new
found_during P before history new image is leaves now =
    weakens (IsSafeSave before (Some history) (λ i. i ≡ image)) (FindsIn P) (Some history) new
    (safe_found before history P (λ i. i ≡ image) (λ i same. subst P (sym same) is) now)
    (saving before (Some history) new image (λ i. i ≡ image) refl leaves)

-- if a save ended well
pub found_saved : (P : Image → Type 0) (before after : Saver) (old new : Option History)
    (image : Image) → P image
    → Leaves (savers.IsSafe (last_slot before) old (found_of before image)) old new
    → IsLast (last_slot after) new (Some (found_of before image)) → IsFoundNow P before old
    → Stands P old after new
found_saved P before after None new image is leaves last now = tt
found_saved P before after (Some history) new image is leaves last now = (
  found_during P before history new image is leaves now,
  record { found = found_of before image; last = last; is = is },
)

-- if it failed
pub found_failed : (P : Image → Type 0) (before after : Saver) (old new : Option History)
    (image : Image) → P image
    → Leaves (savers.IsSafe (last_slot before) old (found_of before image)) old new
    → ((found : Option Found) → IsLast (last_slot before) old found
    → IsLast (last_slot after) new found) → IsFoundNow P before old → Stands P old after new
found_failed P before after None new image is leaves stays now = tt
found_failed P before after (Some history) new image is leaves stays now = (
  found_during P before history new image is leaves now,
  record {
    found = now.last.found;
    last = stays (Some now.last.found) now.last.last;
    is = now.last.is;
  },
)

-- one run of saves after another
pub found_joined : (P : Image → Type 0) (a b c : Option History) (between after : Saver)
    → Stands P a between b → (IsFoundNow P between b → Stands P b after c) → Stands P a after c
found_joined P None b c between after first second = tt
found_joined P (Some history) None c between after first second = absurd first.0
found_joined P (Some history) (Some mid) c between after first second =
    let now : IsFoundNow P between (Some mid) = record {
      could = leaves_now (FindsIn P) history mid first.0;
      last = first.1;
    } in
    let s = second now in
    (joins (FindsIn P) (Some history) (Some mid) c first.0 s.0, s.1)

-- what recovery finds at each moment
pub found_each : (P : Image → Type 0) (old new : Option History) (after : Saver)
    → Stands P old after new → Leaves (FindsIn P) old new
found_each P None new after stands = tt
found_each P (Some history) new after stands = stands.0

-- the first image of a run is acknowledged
image_of_run : (b : BookState) (sequence : ℕ) (image : Image) → IsImageOf b sequence image
    → IsOfRun b image
image_of_run b sequence image m = record {
  problem = ap (λ (i : Image). i.problem) m.is;
  run = ap (λ (i : Image). i.run) m.is;
}

could_found : (b : BookState) (told : Option History) (found : Found) → Finds told found
    → IsOfRun b found.image
    → IfSome told (λ history. (zero one : List ℕ)
    → MayLeaveBoth history.now zero one → FindsIn (IsOfRun b) zero one)
could_found b None found finds is = tt
could_found b (Some history) found finds is = λ zero one may.
    record { found = found; recovered = finds zero one may; is = is }

pub start_found : (b : BookState) (saver : Saver) (told : Option History)
    → IsAcknowledgedStart told b saver → IsFoundNow (IsOfRun b) saver told
start_found b saver told start =
    let is = image_of_run b _ start.found.image start.image in
    record {
      could = could_found b told start.found start.finds is;
      last = record {
        found = start.found;
        last = last_now (last_slot saver) start.found.slot told start.found.image start.last
            start.written;
        is = is;
      };
    }
