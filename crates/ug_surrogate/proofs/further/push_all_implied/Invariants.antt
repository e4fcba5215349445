use Rattle.std.proofs.Common.{Some, take}
use Rattle.ug_surrogate.specs.Complete.{IsWithRowsOf}
use Rattle.ug_surrogate.specs.Stronger.{StandFor}
use Rattle.ug_surrogate.proofs.further.push_all_implied.Given as goal

abbrev pub invariant-loop-m : goal.invariant-loop-m
invariant-loop-m l = record {
  stand : StandFor l.problem l.area (Some l.cutoff) l.rows.items;
  added : IsWithRowsOf l.problem (take l.m-index l.lists) l.cutoff l.initial.rows.items
      l.rows.items;
}
