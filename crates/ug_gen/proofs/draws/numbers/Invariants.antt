use Rattle.std.proofs.Common.{◌≡◌, ◌<◌}
use Rattle.ug_gen.specs.Draws.{draw, each, number}
use Rattle.ug_gen.proofs.draws.numbers.Given as goal

abbrev pub invariant-loop-i : goal.invariant-loop-i
invariant-loop-i l = record {
  small : l.number < 2147483647;
  last : l.number ≡ number l.seed l.i;
  drawn : l.numbers.items ≡ each (draw l.seed) l.i;
}
