use Rattle.std.proofs.Common.{◌≡◌}
use Rattle.ug_gen.specs.Draws.{each}
use Rattle.ug_gen.specs.Stated.{profit_term}
use Rattle.ug_gen.proofs.parts.profits.Given as goal

abbrev pub invariant-loop-j : goal.invariant-loop-j
invariant-loop-j l = l.terms.items ≡ each (profit_term l.draws.seed) l.j
