-- What a scripted form shows: its faults, and the bytes that a sink has.
use Rattle.std.specs.Prelude.{ℕ, List}
use Rattle.ug_io.specs.declared.script.Script.{Script}
use Rattle.ug_io.specs.declared.memory.MemorySink.{MemorySink}

-- how many calls failed
abbrev pub faults_of : Script → ℕ
faults_of s = s.faults

-- what was written
abbrev pub bytes_of : MemorySink → List ℕ
bytes_of s = s.written.items
