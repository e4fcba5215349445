-- What a user is promised: a run that ends with status 0 has read a problem, and has printed a
-- right answer to it. Each name cited here is part of the promise; how the answer was found is not.
use Rattle.std.specs.Prelude.{◌≡◌, ◌++◌, ℕ, List, None, IfSome}
use Rattle.clap.specs.Walk.{Text}
use Rattle.ug_problem.specs.Instances.{Instance}
use Rattle.ug_problem.specs.declared.answer.Answer.{Answer}
use Rattle.ug_problem.specs.Right.{IsRightAnswer}
use Rattle.ug_mps.specs.Reads.{Reads}
use Rattle.ug_io.specs.Outside.{SinkSeen, Takes}
use Rattle.ug_print.specs.Answers.{AreAnswerLines}
use Rattle.ug_print.specs.Limited.{count_lines}
use Rattle.ug_cli.specs.declared.plan.Limits.{Limits}
use Rattle.ug_cli.specs.declared.plan.Plan.{Plan}
use Rattle.ug_cli.specs.declared.plan.Plan.TheVariants.{Solve, Restart, Worker, Show, Gen}
use Rattle.ug_cli.specs.Taken.{TakenWords}
use Rattle.ug_restart.specs.Openings.{CoversWhatIsFound}
use Rattle.ug_top.specs.Outside.{Outside}
use Rattle.ug_top.specs.Scaled.{scaled_gap}

-- The bytes state a problem, and the printed text has the lines of a right answer to it: those of a
-- feasible point such that no feasible point is better by more than the gap, or `infeasible`, and
-- no point is feasible. Behind them the saves that failed are counted, if any did.
pub record IsRightText (bounds : Limits) (bytes text : List ℕ) : Type 0 where
  pub problem : Instance
  pub states : Reads bytes bounds.boxed problem
  pub answer : Answer
  pub right : IsRightAnswer problem (scaled_gap bounds.gap problem.objective.scale) answer
  pub lines : List ℕ
  pub are : AreAnswerLines bounds.gap problem answer lines
  pub missed : ℕ
  pub unsaved : ℕ
  pub is : text ≡ lines ++ count_lines missed unsaved

-- the printed text is right for what the source has, if its bytes are known
abbrev pub IsRightFor : Limits → Outside → List ℕ → Type 0
IsRightFor bounds old text = IfSome old.source.left (λ bytes. IsRightText bounds bytes text)

-- For a solve this is promised without a premise on any file; for a restart if each checkpoint that
-- could be found was Covered, as each one that a run of this program saves is.
abbrev pub IsRightOf : Plan → Outside → List ℕ → Type 0
IsRightOf (Solve solve) old text = IsRightFor solve.settings.bounds old text
IsRightOf (Restart restart) old text =
    CoversWhatIsFound old.disk.told → IsRightFor restart.settings.bounds old text
IsRightOf (Worker worker) old text = Unit {0}
IsRightOf (Show show) old text = Unit {0}
IsRightOf (Gen gen) old text = Unit {0}

-- These words were given, this text was printed, and it is right: always if the solvers are
-- threads, and if they are processes under this premise on them.
pub record HasAnswered (Honest : Type 0) (words : List Text) (old : Outside)
    (before after : SinkSeen) : Type 0 where
  pub plan : Plan
  pub taken : TakenWords words plan
  pub text : List ℕ
  pub printed : Takes before.written after.written text
  pub threads : old.crew ≡ None → IsRightOf plan old text
  pub processes : Honest → IsRightOf plan old text
