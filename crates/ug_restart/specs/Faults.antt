-- Which fault of a start stands for one of a load or of a save, and what it says of the disk.
use Rattle.std.specs.Prelude.{◌≡◌, ℕ}
use Rattle.ug_io.specs.Outside.{Rose}
use Rattle.ug_checkpoint.specs.declared.error.LoadError.{LoadError}
use Rattle.ug_checkpoint.specs.declared.error.LoadError.TheVariants as load
use Rattle.ug_checkpoint.specs.declared.error.SaveError.{SaveError}
use Rattle.ug_checkpoint.specs.declared.error.SaveError.TheVariants as save
use Rattle.ug_restart.specs.declared.fault.StartFault.{StartFault}
use Rattle.ug_restart.specs.declared.fault.StartFault.TheVariants.{Memory, DiskFault, BadImage}

abbrev pub fault_of_load : LoadError → StartFault
fault_of_load load.Memory = Memory
fault_of_load load.Fault = DiskFault
fault_of_load (load.BadImage slot at) = BadImage slot at

abbrev pub fault_of_save : SaveError → StartFault
fault_of_save save.Memory = Memory
fault_of_save save.Fault = DiskFault

-- the disk's count of faults rose if the fault says that the disk failed, and stayed otherwise
abbrev pub start_cause : StartFault → ℕ → ℕ → Type 0
start_cause DiskFault old new = Rose old new
start_cause fault old new = new ≡ old
