-- The results of a run beside its lines: the best point of a run that is not an answer yet, or of a
-- checkpoint, and the line at which a file is at fault.
use Rattle.std.specs.Prelude.{◌≡◌, ℕ, List, Option, None, Some, IfSome, option_map}
use Rattle.clap.specs.Walk.{Text}
use Rattle.ug_problem.specs.Instances.{Instance}
use Rattle.ug_disk.specs.Histories.{DiskSeen}
use Rattle.ug_checkpoint.specs.declared.found.Found.{Found}
use Rattle.ug_checkpoint.specs.Recovery.{HasFound}
use Rattle.ug_restart.specs.declared.outcome.Outcome.{Outcome}
use Rattle.ug_print.specs.Limited.{best_lines}
use Rattle.ug_cli.specs.declared.plan.Asked.{Asked}
use Rattle.ug_cli.specs.declared.plan.Plan.{Plan}
use Rattle.ug_cli.specs.declared.plan.Plan.TheVariants as plans
use Rattle.ug_cli.specs.Taken.{TakenWords}
use Rattle.ug_top.specs.Outside.{Outside}
use Rattle.ug_top.specs.Lines.{IsFaultLine, IsLeftPoint, States}
use Rattle.ug_top.specs.Ends.{HasRunAlone, HasRunOn, HasRunSaved, crews_at}
use Rattle.ug_top.specs.declared.ended.Ended.{Ended}
use Rattle.ug_top.specs.declared.ended.Ended.TheVariants.{Lines, Quiet, Refused, ReadFault, Memory}

-- the lines of the best point, if there are some
abbrev pub best_of : Ended → Option (List ℕ)
best_of (Lines status text best) = option_map (λ v. v.items) best
best_of (Quiet status) = None
best_of (Refused refusal text) = None
best_of ReadFault = None
best_of Memory = None

-- the number of the line at which a file is at fault, if it was refused
abbrev pub line_of : Ended → Option ℕ
line_of (Lines status text best) = None
line_of (Quiet status) = None
line_of (Refused refusal text) = Some refusal.line
line_of ReadFault = None
line_of Memory = None

-- a run of the problem that the source states ended, unanswered, with this incumbent
pub record IsIncumbentOf (Ran : Instance → Outcome → Type 0) (boxed : Option ℕ)
    (left : Option (List ℕ)) (text : List ℕ) : Type 0 where
  pub problem : Instance
  pub states : States left boxed problem
  pub outcome : Outcome
  pub ran : Ran problem outcome
  pub is : IsLeftPoint outcome.end text

-- recovery found an image with this point
pub record IsPointFound (old new : DiskSeen) (text : List ℕ) : Type 0 where
  pub found : Found
  pub has : HasFound old.told new.told (Some found)
  pub is : text ≡ best_lines found.image.problem found.image.best

-- the lines of the best point that each plan leaves
abbrev pub IsSolveBest : {A : Type 0} → Option A → Asked → Outside → Outside → List ℕ → Type 0
IsSolveBest None asked old new text =
    IsIncumbentOf (HasRunAlone (crews_at old new) asked old.disk new.disk) asked.bounds.boxed
    old.source.left text
IsSolveBest (Some folder) asked old new text =
    IsIncumbentOf (HasRunSaved (crews_at old new) asked old.disk new.disk) asked.bounds.boxed
    old.source.left text

abbrev pub IsBestOf : Plan → Outside → Outside → List ℕ → Type 0
IsBestOf (plans.Solve solve) old new text = IsSolveBest solve.checkpoint solve.settings old new text
IsBestOf (plans.Restart restart) old new text =
    IsIncumbentOf (HasRunOn (crews_at old new) restart.settings old.disk new.disk)
    restart.settings.bounds.boxed old.source.left text
IsBestOf (plans.Worker worker) old new text = ⊥
IsBestOf (plans.Show show) old new text = IsPointFound old.disk new.disk text
IsBestOf (plans.Gen gen) old new text = ⊥

-- the number of the line at fault, of each plan that reads a file
abbrev pub IsFaultOf : Plan → Outside → ℕ → Type 0
IsFaultOf (plans.Solve solve) old line = IsFaultLine solve.settings.bounds.boxed old.source.left line
IsFaultOf (plans.Restart restart) old line =
    IsFaultLine restart.settings.bounds.boxed old.source.left line
IsFaultOf (plans.Worker worker) old line = ⊥
IsFaultOf (plans.Show show) old line = ⊥
IsFaultOf (plans.Gen gen) old line = ⊥

-- what a command that ended so leaves beside its lines
pub record IsLeftBy (plan : Plan) (old new : Outside) (ended : Ended) : Type 0 where
  pub best : IfSome (best_of ended) (IsBestOf plan old new)
  pub fault : IfSome (line_of ended) (IsFaultOf plan old)

-- the words ask for a plan of which this is the best point, or the line at fault
pub record IsBestFor (words : List Text) (old new : Outside) (text : List ℕ) : Type 0 where
  pub plan : Plan
  pub taken : TakenWords words plan
  pub best : IsBestOf plan old new text

pub record IsFaultFor (words : List Text) (old : Outside) (line : ℕ) : Type 0 where
  pub plan : Plan
  pub taken : TakenWords words plan
  pub fault : IsFaultOf plan old line
