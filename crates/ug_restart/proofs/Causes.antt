-- What the fault of a start says of the disk's faults, by why it does not begin.
use Rattle.std.proofs.Common.{◌≡◌, ℕ, Option, sym, subst}
use Rattle.ug_problem.specs.Instances.{Instance}
use Rattle.ug_rules.specs.declared.settings.Settings.{Settings}
use Rattle.ug_checkpoint.specs.Causes.{load_cause, save_cause}
use Rattle.ug_checkpoint.specs.declared.error.LoadError.{LoadError}
use Rattle.ug_checkpoint.specs.declared.error.LoadError.TheVariants as load
use Rattle.ug_checkpoint.specs.declared.error.SaveError.{SaveError}
use Rattle.ug_checkpoint.specs.declared.error.SaveError.TheVariants as save
use Rattle.ug_checkpoint.specs.declared.found.Found.{Found}
use Rattle.ug_restart.specs.Books.{HasNoFirst, HasNoNext}
use Rattle.ug_restart.specs.Faults.{fault_of_load, fault_of_save, start_cause}
use Rattle.ug_restart.specs.declared.fault.StartFault.{StartFault}
use Rattle.ug_restart.specs.declared.fault.StartFault.TheVariants.{Memory, DiskFault, BadImage, NoCheckpoint, OtherProblem, SmallerGap, Spent}

loaded_so : (e : LoadError) (old new : ℕ) → load_cause e old new
    → start_cause (fault_of_load e) old new
loaded_so load.Memory old new t = t
loaded_so load.Fault old new t = t
loaded_so (load.BadImage slot at) old new t = t

saved_so : (e : SaveError) (old new : ℕ) → save_cause e old new
    → start_cause (fault_of_save e) old new
saved_so save.Memory old new t = t
saved_so save.Fault old new t = t

-- nothing was loaded
pub not_loaded : (e : LoadError) (fault : StartFault) (old new : ℕ) → fault ≡ fault_of_load e
    → load_cause e old new → start_cause fault old new
not_loaded e fault old new is t =
    subst (λ (f : StartFault). start_cause f old new) (sym is) (loaded_so e old new t)

-- nothing was saved
pub not_saved : (e : SaveError) (fault : StartFault) (old mid new : ℕ) → fault ≡ fault_of_save e
    → mid ≡ old → save_cause e mid new → start_cause fault old new
not_saved e fault old mid new is calm t =
    subst (λ (f : StartFault). start_cause f old new) (sym is)
    (saved_so e old new (subst (λ (n : ℕ). save_cause e n new) calm t))

-- the fault is reported as another call reported it, and no call failed before
pub same_cause : (fault : StartFault) (old mid new : ℕ) → mid ≡ old → start_cause fault mid new
    → start_cause fault old new
same_cause fault old mid new calm t = subst (λ (n : ℕ). start_cause fault n new) calm t

-- no call of the disk failed
pub no_first : (found : Option Found) (fault : StartFault) (old new : ℕ) → HasNoFirst found fault
    → new ≡ old → start_cause fault old new
no_first found Memory old new t calm = calm
no_first found DiskFault old new t calm = absurd t
no_first found (BadImage slot at) old new t calm = absurd t
no_first found NoCheckpoint old new t calm = absurd t
no_first found (OtherProblem at kept read) old new t calm = absurd t
no_first found (SmallerGap kept asked) old new t calm = absurd t
no_first found Spent old new t calm = calm

pub no_next : (p : Instance) (settings : Settings) (found : Found) (fault : StartFault)
    (old new : ℕ) → HasNoNext p settings found fault → new ≡ old → start_cause fault old new
no_next p settings found Memory old new t calm = calm
no_next p settings found DiskFault old new t calm = absurd t
no_next p settings found (BadImage slot at) old new t calm = absurd t
no_next p settings found NoCheckpoint old new t calm = absurd t
no_next p settings found (OtherProblem at kept read) old new t calm = calm
no_next p settings found (SmallerGap kept asked) old new t calm = calm
no_next p settings found Spent old new t calm = calm
