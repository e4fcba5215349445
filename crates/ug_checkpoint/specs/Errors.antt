-- The errors of a load.
use Rattle.ug_disk.specs.declared.reading.ReadError.{ReadError}
use Rattle.ug_disk.specs.declared.reading.ReadError.TheVariants.{Memory as NoMemory}
use Rattle.ug_disk.specs.declared.reading.ReadError.TheVariants.{Fault as DiskFault}
use Rattle.ug_checkpoint.specs.declared.error.LoadError.{LoadError}
use Rattle.ug_checkpoint.specs.declared.error.LoadError.TheVariants.{Memory, Fault}

-- why a slot was not read
abbrev pub load_error_of : ReadError → LoadError
load_error_of NoMemory = Memory
load_error_of DiskFault = Fault
