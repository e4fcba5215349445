-- What a crash leaves at the moments of a save, and what of it is Covered.
use Rattle.std.specs.Prelude.{◌≡◌, ◌⊎◌, ℕ, List, Option, Some, IfSome}
use Rattle.ug_disk.specs.Histories.{History}
use Rattle.ug_disk.specs.Crashes.{Leaves, MayLeaveBoth}
use Rattle.ug_checkpoint.specs.Runs.{CouldLeave}
use Rattle.ug_image.specs.declared.image.Image.{Image}
use Rattle.ug_checkpoint.specs.declared.found.Found.{Found}
use Rattle.ug_checkpoint.specs.declared.saver.Saver.{Saver}
use Rattle.ug_checkpoint.specs.Recovery.{Recovered}
use Rattle.ug_checkpoint.specs.Savers.{CouldFind, Finds, IsLast, last_slot}
use Rattle.ug_snapshot.specs.Moments.{IsCovered}
use Rattle.ug_rules.specs.State.{BookState}

-- whatever a crash leaves, recovery finds an image that has P
pub record FindsOne (P : Image → Type 0) (told : Option History) : Type 0 where
  pub found : Found
  pub finds : Finds told found
  pub is : P found.image

-- recovery finds an image that has P
pub record IsNewOne (P : Image → Type 0) (found : Option Found) : Type 0 where
  pub new : Found
  pub same : found ≡ Some new
  pub is : P new.image

-- recovery finds what it could find before, the last acknowledged image, or one that has P
pub record IsSafe (saver : Saver) (told : Option History) (P : Image → Type 0)
    (zero one : List ℕ) : Type 0 where
  pub found : Option Found
  pub recovered : Recovered zero one found
  pub is : (CouldFind told found ⊎ IsLast (last_slot saver) told found) ⊎ IsNewOne P found

-- What the save of an image that has P may leave: that, or what a crash could leave before.
abbrev pub IsSafeSave : Saver → Option History → (Image → Type 0) → List ℕ → List ℕ → Type 0
IsSafeSave saver told P zero one = CouldLeave told zero one ⊎ IsSafe saver told P zero one

-- what recovery finds in these two slots is Covered
abbrev pub IsCoveredFind : List ℕ → List ℕ → Type 0
IsCoveredFind zero one =
    (found : Found) → Recovered zero one (Some found) → IsCovered found.image

-- from the one time to the other, at each moment, all that recovery could find is Covered
abbrev pub AllCovered : Option History → Option History → Type 0
AllCovered old new = Leaves IsCoveredFind old new

-- the last acknowledged image is Covered, if there is one
pub record LastIsCovered (saver : Saver) (told : Option History) : Type 0 where
  pub found : Option Found
  pub last : IsLast (last_slot saver) told found
  pub covered : IfSome found (λ f. IsCovered f.image)

-- all that recovery could find now is Covered, and so is the last acknowledged image
pub record IsCoveredNow (saver : Saver) (told : Option History) : Type 0 where
  pub could : IfSome told (λ history. (zero one : List ℕ)
      → MayLeaveBoth history.now zero one → IsCoveredFind zero one)
  pub last : LastIsCovered saver told

-- the image is of the problem and the run of this book
pub record IsOfRun (b : BookState) (image : Image) : Type 0 where
  pub problem : image.problem ≡ b.problem
  pub run : image.run ≡ b.run

-- recovery finds an image that has P in these two slots, so neither is bad
pub record FindsIn (P : Image → Type 0) (zero one : List ℕ) : Type 0 where
  pub found : Found
  pub recovered : Recovered zero one (Some found)
  pub is : P found.image

-- there is a last acknowledged image, and it has P
pub record LastIs (P : Image → Type 0) (saver : Saver) (told : Option History) : Type 0 where
  pub found : Found
  pub last : IsLast (last_slot saver) told (Some found)
  pub is : P found.image

-- whatever a crash leaves now, recovery finds an image that has P; so does the last acknowledged
-- one
pub record IsFoundNow (P : Image → Type 0) (saver : Saver) (told : Option History) : Type 0 where
  pub could : IfSome told (λ history. (zero one : List ℕ)
      → MayLeaveBoth history.now zero one → FindsIn P zero one)
  pub last : LastIs P saver told
