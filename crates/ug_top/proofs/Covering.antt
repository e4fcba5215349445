-- If all that recovery could find was Covered, it is so at each moment of a run.
use Rattle.std.proofs.Common.{◌≡◌, inl, inr, ℕ, List, Option, None, Some, IfSome, refl, sym, ◌∙◌, subst}
use Rattle.ug_disk.specs.declared.slot.Slot.{Slot}
use Rattle.ug_disk.specs.Histories.{History}
use Rattle.ug_disk.specs.Crashes.{Leaves, MayLeaveBoth}
use Rattle.ug_disk.proofs.Moments.{joins, weakens}
use Rattle.ug_problem.specs.Instances.{Instance}
use Rattle.ug_problem.specs.Incumbents.{one_kept}
use Rattle.ug_ledger.proofs.PrimitiveLemmas.{primitive_covered}
use Rattle.ug_rules.specs.declared.settings.Settings.{Settings}
use Rattle.ug_rules.specs.State.{BookState, ledger_of}
use Rattle.ug_rules.specs.Books.{IsSoundBook}
use Rattle.ug_book.proofs.Starts.{start_is_sound}
use Rattle.ug_image.specs.declared.image.Image.{Image}
use Rattle.ug_checkpoint.specs.declared.found.Found.{Found}
use Rattle.ug_checkpoint.specs.declared.saver.Saver.{Saver}
use Rattle.ug_checkpoint.specs.Savers.{CouldFind, IsLast, IsWritten, sequence_of}
use Rattle.ug_checkpoint.proofs.Finding.{recovered_one}
use Rattle.ug_snapshot.specs.Moments.{IsCovered, IsImageOf}
use Rattle.ug_restart.specs.Openings.{CoversWhatIsFound, IsAcknowledgedStart}
use Rattle.ug_restart.specs.Starts.{IsBegun, IsGoneOn, IsSafeStart, boxes_saved, next_run}
use Rattle.ug_restart.proofs.Goings.{covered_on}
use Rattle.ug_snapshot.proofs.Helds.{covered_image}
use Rattle.ug_restart.specs.Moments.{AllCovered, IsCoveredFind, IsCoveredNow}
use Rattle.ug_top.proofs.Books.{root_is_sound}

-- ---- books that begin soundly

pub begun_sound : (p : Instance) (settings : Settings) (old : Option History) (b : BookState)
    → IsBegun p settings old b → IsSoundBook b
begun_sound p settings old b t =
    subst IsSoundBook (sym t.is) (root_is_sound p (next_run t.found) settings)

-- if the image from which it continues was Covered
pub image_sound : (p : Instance) (settings : Settings) (old : Option History) (b : BookState)
    (t : IsGoneOn p settings old b) → IsCovered t.found.image → IsSoundBook b
image_sound p settings old b t covered =
    subst IsSoundBook (sym t.is)
    ((start_is_sound p (next_run (Some t.found)) t.found.image.best
    (boxes_saved t.found.image.nodes) settings).1
    (covered_on p settings.gap t.found t.problem t.gap covered))

-- if each was that could be found
pub gone_on_sound : (p : Instance) (settings : Settings) (old : Option History) (b : BookState)
    → CoversWhatIsFound old → IsGoneOn p settings old b → IsSoundBook b
gone_on_sound p settings old b covers t =
    image_sound p settings old b t (covers t.found t.could)

-- the image of a sound book is Covered
moment_covered : (b : BookState) (sequence : ℕ) (image : Image) → IsSoundBook b
    → IsImageOf b sequence image → IsCovered image
moment_covered b sequence image sound m =
    covered_image b m.nodes sequence image m.is
    (primitive_covered b.problem b.settings.gap (one_kept b.best) (ledger_of b) m.nodes sound
    (λ n primitive. (m.primitive.each n).1 primitive))

-- ---- while it begins

safe_covered : (told : History) (P : BookState → Type 0) → ((b : BookState) → P b → IsSoundBook b)
    → CoversWhatIsFound (Some told) → (zero one : List ℕ) → IsSafeStart (Some told) P zero one
    → IsCoveredFind zero one
safe_covered told P sound covers zero one (inl could) found recovered =
    covers found (record { zero = zero; one = one; could = could; recovered = recovered })
safe_covered told P sound covers zero one (inr (other, is, inl could)) found recovered =
    covers found (subst (λ f. CouldFind (Some told) f)
    (recovered_one zero one other (Some found) is recovered) could)
safe_covered told P sound covers zero one (inr (other, is, inr (new, same, (b, holds, first))))
    found recovered =
    let e : found ≡ new = cc (sym (recovered_one zero one other (Some found) is recovered) ∙ same)
    in
    subst (λ (f : Found). IsCovered f.image) (sym e)
    (moment_covered b first.sequence new.image (sound b holds) first.image)

start_covered : (old mid : Option History) (P : BookState → Type 0)
    → ((b : BookState) → P b → IsSoundBook b) → CoversWhatIsFound old
    → Leaves (IsSafeStart old P) old mid → AllCovered old mid
start_covered None mid P sound covers leaves = tt
start_covered (Some told) mid P sound covers leaves =
    weakens (IsSafeStart (Some told) P) IsCoveredFind (Some told) mid
    (safe_covered told P sound covers) leaves

-- ---- when it has begun

could_covered : (told : Option History) (b : BookState) (saver : Saver) → IsSoundBook b
    → IsAcknowledgedStart told b saver
    → IfSome told (λ history. (zero one : List ℕ)
    → MayLeaveBoth history.now zero one → IsCoveredFind zero one)
could_covered None b saver sound a = tt
could_covered (Some history) b saver sound a = λ zero one may found recovered.
    let e : found ≡ a.found = cc (recovered_one zero one (Some found) (Some a.found) recovered
    (a.finds zero one may)) in
    subst (λ (f : Found). IsCovered f.image) (sym e)
    (moment_covered b (sequence_of saver) a.found.image sound a.image)

last_written : (told : Option History) (slot : Slot) (image : Image) → IsWritten slot image told
    → IsLast (Some slot) told (Some (record { slot = slot; image = image }))
last_written None slot image written = tt
last_written (Some history) slot image written = (image, written, refl)

now_covered : (told : Option History) (b : BookState) (saver : Saver) → IsSoundBook b
    → IsAcknowledgedStart told b saver → IsCoveredNow saver told
now_covered told b saver sound a = record {
  could = could_covered told b saver sound a;
  last = record {
    found = Some a.found;
    last = subst (λ l. IsLast l told (Some a.found)) (sym a.last)
        (last_written told a.found.slot a.found.image a.written);
    covered = moment_covered b (sequence_of saver) a.found.image sound a.image;
  };
}

-- it begins, and continues to its end
pub run_covered : (old mid new : Option History) (b : BookState) (saver : Saver)
    (P : BookState → Type 0) → ((k : BookState) → P k → IsSoundBook k) → P b
    → CoversWhatIsFound old → Leaves (IsSafeStart old P) old mid → IsAcknowledgedStart mid b saver
    → (IsSoundBook b → IsCoveredNow saver mid → AllCovered mid new) → AllCovered old new
run_covered old mid new b saver P sound holds covers leaves a goes_on =
    joins IsCoveredFind old mid new (start_covered old mid P sound covers leaves)
    (goes_on (sound b holds) (now_covered mid b saver (sound b holds) a))

-- if it is refused
pub refused_covered : (old new : Option History) (P : BookState → Type 0)
    → ((b : BookState) → P b → IsSoundBook b) → CoversWhatIsFound old
    → Leaves (IsSafeStart old P) old new → AllCovered old new
refused_covered old new P sound covers leaves = start_covered old new P sound covers leaves
