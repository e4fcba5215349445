-- A start keeps a checkpoint: an image is still found at each moment of a start, if one was found
-- before.
use Rattle.std.specs.Prelude.{◌⊎◌, ℕ, List, Option, Some, IfSome}
use Rattle.ug_disk.specs.Histories.{History}
use Rattle.ug_disk.specs.Crashes.{Leaves, MayLeaveBoth}
use Rattle.ug_problem.specs.Instances.{Instance}
use Rattle.ug_rules.specs.declared.settings.Settings.{Settings}
use Rattle.ug_rules.specs.State.{BookState}
use Rattle.ug_checkpoint.specs.declared.found.Found.{Found}
use Rattle.ug_checkpoint.specs.Recovery.{Recovered}
use Rattle.ug_checkpoint.specs.Savers.{CouldFind}
use Rattle.ug_restart.specs.Starts.{IsBegun, IsFirstImage, IsGoneOn, IsSafeStart}

-- whatever a crash leaves now, recovery finds an image
abbrev pub AlwaysFinds : Option History → Type 0
AlwaysFinds told = IfSome told (λ history. (zero one : List ℕ)
    → MayLeaveBoth history.now zero one → (found : Found) × Recovered zero one (Some found))

-- Recovery finds an image in these two slots: one that it could find at that time, or that of a
-- book that P holds of.
pub record FindsStill (told : Option History) (P : BookState → Type 0) (zero one : List ℕ)
    : Type 0 where
  pub found : Found
  pub recovered : Recovered zero one (Some found)
  pub is : CouldFind told (Some found) ⊎ ((book : BookState) × P book × IsFirstImage book found)

-- if an image was found at the first time, whatever a crash left, one is still found at each moment
-- from the one time to the other
abbrev pub KeepsImage : (BookState → Type 0) → Option History → Option History → Type 0
KeepsImage P old new = AlwaysFinds old → Leaves (FindsStill old P) old new

-- a start that leaves no more than it may keeps an image, of a new solve and of a restart
abbrev pub BeginsKeepImage : Type 0
BeginsKeepImage = (p : Instance) (settings : Settings) (old new : Option History)
    → Leaves (IsSafeStart old (IsBegun p settings old)) old new
    → KeepsImage (IsBegun p settings old) old new

abbrev pub RestartsKeepImage : Type 0
RestartsKeepImage = (p : Instance) (settings : Settings) (old new : Option History)
    → Leaves (IsSafeStart old (IsGoneOn p settings old)) old new
    → KeepsImage (IsGoneOn p settings old) old new
