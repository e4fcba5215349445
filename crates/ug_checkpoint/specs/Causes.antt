-- What the error of a load or of a save says of the disk's faults.
use Rattle.std.specs.Prelude.{◌≡◌, ℕ}
use Rattle.ug_io.specs.Outside.{Rose}
use Rattle.ug_checkpoint.specs.declared.error.LoadError.{LoadError}
use Rattle.ug_checkpoint.specs.declared.error.LoadError.TheVariants as load
use Rattle.ug_checkpoint.specs.declared.error.SaveError.{SaveError}
use Rattle.ug_checkpoint.specs.declared.error.SaveError.TheVariants as save

-- a bad image is read without a fault
abbrev pub load_cause : LoadError → ℕ → ℕ → Type 0
load_cause load.Memory old new = new ≡ old
load_cause load.Fault old new = Rose old new
load_cause (load.BadImage slot at) old new = new ≡ old

abbrev pub save_cause : SaveError → ℕ → ℕ → Type 0
save_cause save.Memory old new = new ≡ old
save_cause save.Fault old new = Rose old new
