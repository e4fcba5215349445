use Rattle.std.proofs.Common.{◌≡◌}
use Rattle.ug_gen.specs.Draws.{each}
use Rattle.ug_gen.specs.Stated.{weight_term}
use Rattle.ug_gen.proofs.parts.weights.Given as goal

abbrev pub invariant-loop-j : goal.invariant-loop-j
invariant-loop-j l = l.terms.items ≡ each (weight_term l.draws.seed l.row) l.j
