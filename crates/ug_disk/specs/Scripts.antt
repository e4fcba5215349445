-- What becomes of the calls of a disk in memory.
use Rattle.std.specs.Prelude.{ℕ, IsTrue}
use Rattle.std.specs.List.{Contains}
use Rattle.ug_disk.specs.declared.script.Calls.{Calls}
use Rattle.ug_disk.specs.declared.script.Turn.{Turn}
use Rattle.ug_disk.specs.declared.script.Turn.TheVariants.{Goes, Fails, Stopped}

-- what becomes of the call of this number: of the three facts exactly one holds
abbrev pub IsTurn : Calls → ℕ → Turn → Type 0
IsTurn calls number Goes =
    (¬ IsTrue calls.is_stopped) × (¬ Contains calls.script.failing.items number)
IsTurn calls number Fails =
    (¬ IsTrue calls.is_stopped) × Contains calls.script.failing.items number
IsTurn calls number Stopped = IsTrue calls.is_stopped
