use Rattle.std.proofs.Common.{◌≡◌, replicate}
use Rattle.ug_ranks.specs.declared.state.State.TheVariants.{Absent}
use Rattle.ug_ranks.proofs.ranks.absent.Given as goal

abbrev pub invariant-loop : goal.invariant-loop
invariant-loop l = l.states.items ≡ replicate l.counter Absent
