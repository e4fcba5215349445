use Rattle.std.proofs.Common.{◌≡◌, ◌*◌, ◌≤◌, sum}
use Rattle.ug_gen.specs.Draws.{each}
use Rattle.ug_gen.specs.Stated.{weight}
use Rattle.ug_gen.proofs.parts.total.Given as goal

abbrev pub invariant-loop-j : goal.invariant-loop-j
invariant-loop-j l = record {
  added : l.total ≡ sum (each (weight l.draws.seed l.row) l.j);
  small : l.total ≤ 50 * l.j;
}
