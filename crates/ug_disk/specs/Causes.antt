-- What the error of a reading says of the disk's faults.
use Rattle.std.specs.Prelude.{◌≡◌, ℕ}
use Rattle.ug_io.specs.Outside.{Rose}
use Rattle.ug_disk.specs.declared.reading.ReadError.{ReadError}
use Rattle.ug_disk.specs.declared.reading.ReadError.TheVariants.{Memory, Fault}

-- out of memory is not a fault of the disk
abbrev pub read_cause : ReadError → ℕ → ℕ → Type 0
read_cause Memory old new = new ≡ old
read_cause Fault old new = Rose old new
