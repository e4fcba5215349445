use Rattle.std.proofs.Common.{◌≡◌, take}
use Rattle.ug_lines.specs.Words.{is_legible}
use Rattle.ug_lines.proofs.words.is_legible.Given as goal

-- the bytes so far
abbrev pub invariant-loop-b : goal.invariant-loop-b
invariant-loop-b l = l.legible ≡ is_legible (take l.b-index l.line)
