use Rattle.std.proofs.Common.{◌+◌, ◌≤◌, Some}
use Rattle.ug_problem.specs.Digits.{IsKept}
use Rattle.ug_problem.proofs.Significant.{IsSoFar}
use Rattle.ug_problem.proofs.decimal.digits.Digits.extend.Given as goal

abbrev pub invariant-loop-byte : goal.invariant-loop-byte
invariant-loop-byte l = record {
  value : IsSoFar l.fn.self l.bytes l.byte-index (Some l.digits);
  kept : IsKept l.digits;
  few : l.digits.zeros ≤ l.fn.self.zeros + l.byte-index;
}
