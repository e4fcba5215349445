-- What there is for a rank behind the lock: of its work the task is still to be made.
use Rattle.std.specs.Prelude.{◌≡◌, ◌⊎◌, Result, Ok, Err}
use Rattle.ug_base.specs.Tasks.{TaskState}
use Rattle.ug_worker.specs.declared.took.Took.{Took}
use Rattle.ug_worker.specs.declared.took.Took.TheVariants.{Work, Wait, Over}
use Rattle.ug_worker.specs.declared.took.Untaken.{Untaken}
use Rattle.ug_worker.specs.declared.took.Untaken.TheVariants.{Deciding, Making}
use Rattle.ug_desk.specs.declared.given.Given.{Given}
use Rattle.ug_desk.specs.declared.given.Given.TheVariants.{Node, Nothing, NoMore}

-- as the history has it
abbrev pub took_of : Given → Took
took_of (Node task) = Work task
took_of Nothing = Wait
took_of NoMore = Over

abbrev pub taken_by : Result Given Untaken → Result Took Untaken
taken_by (Ok given) = Ok (took_of given)
taken_by (Err end) = Err end

-- what the worker gets of it: no task, if memory ran out while it was made
abbrev pub IsOpened : Result Given Untaken → Result Took Untaken → Type 0
IsOpened given (Ok took) = taken_by given ≡ Ok took
IsOpened given (Err (Deciding stood)) = taken_by given ≡ Err (Deciding stood)
IsOpened given (Err Making) =
    (taken_by given ≡ Err Making) ⊎ (task : TaskState) × (taken_by given ≡ Ok (Work task))
