-- An image is found still at each moment of a start.
use Rattle.std.proofs.Common.{◌≡◌, inl, inr, ℕ, List, Option, None, Some, subst}
use Rattle.ug_disk.specs.Histories.{History}
use Rattle.ug_disk.specs.Crashes.{Leaves}
use Rattle.ug_disk.proofs.Moments.{weakens}
use Rattle.ug_rules.specs.State.{BookState}
use Rattle.ug_checkpoint.specs.declared.found.Found.{Found}
use Rattle.ug_checkpoint.specs.Recovery.{Recovered}
use Rattle.ug_checkpoint.specs.Savers.{CouldFind}
use Rattle.ug_checkpoint.proofs.Finding.{recovered_one}
use Rattle.ug_restart.specs.Starts.{IsSafeStart}
use Rattle.ug_restart.specs.Keeps.{AlwaysFinds, FindsStill, KeepsImage}

-- what recovery could find before is an image
image_before : (history : History) (P : BookState → Type 0) (zero one : List ℕ)
    (found : Option Found) → AlwaysFinds (Some history) → CouldFind (Some history) found
    → Recovered zero one found → FindsStill (Some history) P zero one
image_before history P zero one found always could here =
    let finds = always could.zero could.one could.could in
    let same : found ≡ Some finds.0 =
    recovered_one could.zero could.one found (Some finds.0) could.recovered finds.1 in
    record {
      found = finds.0;
      recovered = subst (λ f. Recovered zero one f) same here;
      is = inl (subst (CouldFind (Some history)) same could);
    }

-- what a start may leave
image_left : (history : History) (P : BookState → Type 0) → AlwaysFinds (Some history)
    → (zero one : List ℕ) → IsSafeStart (Some history) P zero one
    → FindsStill (Some history) P zero one
image_left history P always zero one safe = elim safe [
  | inl could ↦
      let finds = always zero one could in
      record {
        found = finds.0;
        recovered = finds.1;
        is = inl (record { zero = zero; one = one; could = could; recovered = finds.1 });
      }
  | inr (found, here, inl could) ↦ image_before history P zero one found always could here
  | inr (found, here, inr (new, same, first)) ↦ record {
    found = new;
    recovered = subst (λ f. Recovered zero one f) same here;
    is = inr first;
  }
]

pub keeps_image : (P : BookState → Type 0) (old new : Option History)
    → Leaves (IsSafeStart old P) old new → KeepsImage P old new
keeps_image P None new leaves always = tt
keeps_image P (Some history) new leaves always =
    weakens (IsSafeStart (Some history) P) (FindsStill (Some history) P) (Some history) new
    (image_left history P always) leaves
