-- A task that a worker searches, and what the worker does between two readings of its orders: a
-- round of steps, then the boxes that are asked for, then the report of what is left; or all boxes,
-- if the task is to be released.
use Rattle.std.specs.Prelude.{◌≡◌, ◌⊎◌, ℕ, ℤ, zero, suc, ◌+◌, ◌-◌, ◌<◌, ◌≤◌, Bool, true, false, List, [], length}
use Rattle.std.specs.Prelude.{Option, Some, None, if◌then◌else◌}
use Rattle.ug_rows.specs.declared.area.Interval.{Interval}
use Rattle.ug_base.specs.Hands.{IsGiven}
use Rattle.ug_base.specs.Steps.{IsFound, IsPruned, IsSplit}
use Rattle.ug_base.specs.Tasks.{IsLeastFloor, IsTask, TaskState, lesser_of}
use Rattle.ug_worker.specs.declared.reply.Reply.{Reply}
use Rattle.ug_worker.specs.declared.round_count.RoundCount.{RoundCount}
use Rattle.ug_worker.specs.declared.took.Took.{Took}
use Rattle.ug_worker.specs.declared.took.Took.TheVariants as took
use Rattle.ug_worker.specs.Releases.{IsDue, begun}

-- how many steps a round has
abbrev pub steps_of_round : ℕ
steps_of_round = 64

-- the task as it was when the worker last called its seat, how many steps of the round were made
-- then, how many boxes are asked for, and whether others have the same box
pub record Engaged : Type 0 where
  pub task : TaskState
  pub made : ℕ
  pub asked : ℕ
  pub racing : Bool

-- how many boxes are to be handed: none as long as others have the same box
abbrev pub due_of : Engaged → ℕ
due_of e = (if e.racing then 0 else e.asked)

-- a step that finds no point
abbrev pub IsQuiet : TaskState → TaskState → Type 0
IsQuiet old new = IsPruned old new ⊎ IsSplit old new

-- `n` steps that find no point
abbrev pub AreQuiet : ℕ → TaskState → TaskState → Type 0
AreQuiet zero old new = new ≡ old
AreQuiet (suc n) old new = (mid : TaskState) × AreQuiet n old mid × IsQuiet mid new

-- since then steps that found no point led to this task, and `count` steps of the round are made,
-- at most all
pub record IsSince (e : Engaged) (task : TaskState) (count : ℕ) : Type 0 where
  pub more : ℕ
  pub quiet : AreQuiet more e.task task
  pub made : count ≡ e.made + more
  pub within : count ≤ steps_of_round

-- a step of the round found the point
pub record IsFoundBy (e : Engaged) (x : List ℤ) (f : Engaged) : Type 0 where
  pub task : TaskState
  pub count : ℕ
  pub since : IsSince e task count
  pub room : count < steps_of_round
  pub found : IsFound task f.task x
  pub own : IsTask f.task
  pub same : f ≡ record e { task = f.task; made = count + 1 }

-- a box is asked for, and another is left
pub record IsWanted (e : Engaged) (task : TaskState) : Type 0 where
  pub due : 0 < due_of e
  pub two : 2 ≤ length task.boxes

-- all boxes that are asked for were handed, unless fewer than two are left
abbrev pub HasObliged : Engaged → TaskState → Type 0
HasObliged e task = (due_of e ≡ 0) ⊎ (length task.boxes < 2)

-- then all others are given, where the task is to be renewed
pub record IsRenewed (round_count : RoundCount) (e : Engaged) (task : TaskState) : Type 0 where
  pub obliged : HasObliged e task
  pub due : IsDue round_count e.racing

-- the round is over, and a box was handed that is asked for, or given
pub record IsHandedBy (round_count : RoundCount) (e : Engaged) (number : ℕ) (area : List Interval)
    (f : Engaged) : Type 0 where
  pub task : TaskState
  pub since : IsSince e task steps_of_round
  pub cause : IsWanted e task ⊎ IsRenewed round_count e task
  pub handed : IsGiven task f.task (record { number = number; area = area })
  pub own : IsTask f.task
  pub same : f ≡ record e { task = f.task; made = steps_of_round; asked = e.asked - 1 }

-- the round is over, all boxes that are asked for were handed, unless fewer than two are left, the
-- task is not to be released, and `left` boxes are left, whose least floor is this
pub record IsStatedBy (round_count : RoundCount) (e : Engaged) (left : ℕ) (floor : ℤ) (f : Engaged)
    : Type 0 where
  pub task : TaskState
  pub since : IsSince e task steps_of_round
  pub obliged : HasObliged e task
  pub kept : ¬ IsDue round_count e.racing
  pub count : left ≡ length task.boxes
  pub least : IsLeastFloor task.problem task.boxes floor
  pub same : f ≡ record e { task = task; made = 0 }

-- no box of the task is left, after a round or within it
pub record IsDoneBy (e : Engaged) (task : TaskState) : Type 0 where
  pub count : ℕ
  pub since : IsSince e task count
  pub own : IsTask task
  pub none : task.boxes ≡ []

-- the task under the lower cutoff
abbrev pub lowered : Option ℤ → TaskState → TaskState
lowered None task = task
lowered (Some cutoff) task = record task { cutoff = Some (lesser_of task.cutoff cutoff) }

-- the same, but for a lower cutoff
abbrev pub under : Option ℤ → Engaged → Engaged
under cutoff e = record e { task = lowered cutoff e.task }

-- a task was begun, and no step was made
pub record IsBegun (e : Engaged) (task : TaskState) : Type 0 where
  pub its : e.task ≡ task
  pub made : e.made ≡ 0

-- so it is by an answer
abbrev pub due_by : Reply → ℕ
due_by reply = (if reply.racing then 0 else reply.collect)

module _ (At : RoundCount → Option Engaged → Type 0) where
  -- with a task or without one
  abbrev pub Stands : Type 0
  Stands = (round_count : RoundCount) × (some : Option Engaged) × At round_count some

module _ (At : Option Engaged → Type 0) where
  -- a task was begun
  pub record HasBegun (task : TaskState) : Type 0 where
    pub now : Engaged
    pub at : At (Some now)
    pub begun : IsBegun now task

  -- the task continues, under the cutoff of the reply, with the boxes to hand and the race that the
  -- reply says
  pub record GoesOn (task : TaskState) (reply : Reply) : Type 0 where
    pub now : Engaged
    pub at : At (Some now)
    pub made : now.made ≡ 0
    pub due : due_of now ≡ due_by reply
    pub racing : now.racing ≡ reply.racing
    pub its : now.task ≡ lowered reply.cutoff task

  -- the task is to be dropped, or continues
  abbrev pub is_replied : Bool → TaskState → Reply → Type 0
  is_replied true task reply = At None
  is_replied false task reply = GoesOn task reply

  abbrev pub IsReplied : TaskState → Reply → Type 0
  IsReplied task reply = is_replied reply.stop task reply

-- what a worker took: a task, nothing for now, or word that no work comes any more
abbrev pub HasTaken : (RoundCount → Option Engaged → Type 0) → RoundCount → Type 0 → Took → Type 0
HasTaken At round_count Over (took.Work task) = HasBegun (At (begun round_count)) task
HasTaken At round_count Over took.Wait = At round_count None
HasTaken At round_count Over took.Over = Over
