use Rattle.std.proofs.Common.{◌≡◌}
use Rattle.ug_threads.specs.Crews.{IsCrewAt, count_of}
use Rattle.ug_threads.proofs.crew.Crew.start_each.Given as goal

abbrev pub invariant-loop-pass : goal.invariant-loop-pass
invariant-loop-pass g l = record {
  crew : IsCrewAt l.table l.self;
  count : count_of l.self ≡ count_of l.initial.self;
}

abbrev pub decreases-loop-pass : goal.decreases-loop-pass
decreases-loop-pass g l = goal.left-loop-pass g l
