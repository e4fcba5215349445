-- How a worker stands to its task within a round, and how it leaves it.
use Rattle.std.specs.Prelude.{◌≡◌, ◌⊎◌, ℕ, ◌+◌, ◌<◌, Bool, true, false, [], length, Option, Some, None}
use Rattle.ug_base.specs.Tasks.{TaskState}
use Rattle.ug_worker.specs.Engagements.{Engaged, IsDoneBy, IsRenewed, IsSince, Stands, due_of}
use Rattle.ug_worker.specs.Engagements.{steps_of_round}
use Rattle.ug_worker.specs.Releases.{IsDue}
use Rattle.ug_worker.specs.declared.pace.Pace.{Pace}
use Rattle.ug_worker.specs.declared.pace.Pace.TheVariants as pace
use Rattle.ug_worker.specs.declared.search.Asked.{Asked}
use Rattle.ug_worker.specs.declared.search.Search.{Search}
use Rattle.ug_worker.specs.declared.search.Left.{Left}
use Rattle.ug_worker.specs.declared.search.Left.TheVariants.{Nothing, Dropped, Wanting}
use Rattle.ug_worker.specs.declared.round_count.RoundCount.{RoundCount}

module _ (At : Option Engaged → Type 0) where
  -- `count` steps of the round are made, and this is asked for
  pub record StandsAt (task : TaskState) (count : ℕ) (asked : Asked) : Type 0 where
    pub now : Engaged
    pub at : At (Some now)
    pub since : IsSince now task count
    pub due : due_of now ≡ asked.count
    pub racing : now.racing ≡ asked.racing

  -- the round is over, or no box is left within it
  pub record HasStepped (task : TaskState) (asked : Asked) : Type 0 where
    pub count : ℕ
    pub stands : StandsAt task count asked
    pub over : (count ≡ steps_of_round) ⊎ (task.boxes ≡ [])

  -- a step more was made, or no box is left
  abbrev pub HasMade : Bool → ℕ → TaskState → Asked → Type 0
  HasMade true made task asked = StandsAt task (made + 1) asked
  HasMade false made task asked = StandsAt task made asked × (task.boxes ≡ [])

  -- all boxes that were asked for are handed, unless fewer than two are left
  pub record HasHanded (task : TaskState) (asked : Asked) : Type 0 where
    pub stands : StandsAt task steps_of_round asked
    pub all : (asked.count ≡ 0) ⊎ (length task.boxes < 2)
    pub some : 0 < length task.boxes

  -- one of the boxes was handed, or fewer than two are left
  abbrev pub HasGiven : Bool → ℕ → TaskState → Asked → Type 0
  HasGiven true count task asked =
      StandsAt task steps_of_round asked × (count ≡ asked.count + 1) × (0 < length task.boxes)
  HasGiven false count task asked = HasHanded task asked

  -- then what is left is reported, unless the task is to be released
  pub record IsToTell (round_count : RoundCount) (task : TaskState) (asked : Asked) : Type 0 where
    pub handed : HasHanded task asked
    pub kept : ¬ IsDue round_count asked.racing

  -- the task is to be renewed, and boxes are given until none is left
  pub record IsGiving (round_count : RoundCount) (task : TaskState) : Type 0 where
    pub now : Engaged
    pub at : At (Some now)
    pub since : IsSince now task steps_of_round
    pub renewed : IsRenewed round_count now task

  -- the search of the task is over
  pub record IsSearched (task : TaskState) : Type 0 where
    pub now : Engaged
    pub at : At (Some now)
    pub done : IsDoneBy now task

module _ (At : RoundCount → Option Engaged → Type 0) where
  -- how it is left: `Nothing` means that no box is left
  abbrev pub EndsAs : RoundCount → Left → TaskState → Type 0
  EndsAs round_count Nothing task = IsSearched (At round_count) task
  EndsAs round_count Dropped task = At round_count None
  EndsAs round_count Wanting task = Stands At

  -- it stands to the task that it searches, if it has one, before a round
  abbrev pub IsAtWork : RoundCount → Option Search → Type 0
  IsAtWork round_count None = At round_count None
  IsAtWork round_count (Some search) = StandsAt (At search.round_count) search.task 0 search.asked

  -- so it is behind a step, or no work comes any more
  abbrev pub HasPaced : Type 0 → RoundCount → Option Search → Pace → Type 0
  HasPaced Over round_count search pace.On = IsAtWork round_count search
  HasPaced Over round_count search pace.Waits = (search ≡ None) × At round_count None
  HasPaced Over round_count search pace.Over = Over
