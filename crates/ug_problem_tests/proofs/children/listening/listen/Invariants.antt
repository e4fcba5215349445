use Rattle.std.proofs.Common.{◌≡◌, length}
use Rattle.ug_problem_tests.proofs.children.listening.listen.Given as goal

abbrev pub invariant-loop : goal.invariant-loop
invariant-loop g l = record {
  lives : length (g.C.Crew.seen l.crew).lives ≡ length (g.C.Crew.seen l.initial.crew).lives;
}
