use Rattle.std.proofs.Common.{◌≡◌}
use Rattle.ug_gen.specs.Draws.{each}
use Rattle.ug_gen.specs.Stated.{column}
use Rattle.ug_gen.proofs.parts.columns.Given as goal

abbrev pub invariant-loop-j : goal.invariant-loop-j
invariant-loop-j l = l.columns.items ≡ each column l.j
