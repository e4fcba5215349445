-- When a worker renews a task: it gives all that is left of it to others, so that the task's box is
-- not held to the end for what is left.
use Rattle.std.specs.Prelude.{◌≡◌, ℕ, ◌+◌, ◌-◌, ◌*◌, ◌^◌, ◌≤◌, Bool, false, Option, Some, min}
use Rattle.ug_worker.specs.declared.round_count.ReleasePolicy.{ReleasePolicy}
use Rattle.ug_worker.specs.declared.round_count.RoundCount.{RoundCount}

-- that of the program
abbrev pub usual : ReleasePolicy
usual = record { rounds = 1024; part = 128 }

-- no round was made
abbrev pub fresh : Option ReleasePolicy → RoundCount
fresh policy = record { policy = policy; all = 0; task = 0 }

-- a task begins
abbrev pub begun : RoundCount → RoundCount
begun round_count = record round_count { task = 0 }

-- one more, up to the greatest number
abbrev pub one_more : ℕ → ℕ
one_more n = min (n + 1) (2 ^ 64 - 1)

-- a round more was made
abbrev pub counted : RoundCount → RoundCount
counted round_count = record round_count { all = one_more round_count.all; task = one_more round_count.task }

-- The task had enough rounds, and a large enough part of all that its worker made; and no others
-- have the same box.
pub record IsDue (round_count : RoundCount) (racing : Bool) : Type 0 where
  pub policy : ReleasePolicy
  pub renews : round_count.policy ≡ Some policy
  pub free : racing ≡ false
  pub enough : policy.rounds ≤ round_count.task
  pub part : round_count.all ≤ policy.part * round_count.task
