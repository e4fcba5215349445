-- The one premise on solvers that are processes, and the law of the headline.
use Rattle.std.specs.Prelude.{List}
use Rattle.clap.specs.Walk.{Text}
use Rattle.ug_io.specs.Outside.{SinkSeen}
use Rattle.ug_rules.specs.State.{BookState}
use Rattle.ug_restart.specs.declared.outcome.End.{End}
use Rattle.ug_top.specs.Outside.{Outside}
use Rattle.ug_top.specs.Solved.{has_solved, is_trusted}
use Rattle.ug_top.specs.Headline.{HasAnswered}
use Rattle.ug_top.specs.Ran.{HasRun}
use Rattle.ug_top.specs.declared.status.Status.TheVariants.{Answered}

-- in each trace that the crew shows, what was received from it is honest
abbrev pub AreChildrenHonest : Outside → Outside → Type 0
AreChildrenHonest old new = (given : BookState) (end : End)
    → (solved : has_solved old.crew new.crew given end)
    → is_trusted old.crew new.crew given end solved

-- a run that ends with status 0 has answered
abbrev pub AnswersAreRight : Type 0
AnswersAreRight = (words : List Text) (old new : Outside) (before after : SinkSeen)
    → HasRun words old new before after Answered
    → HasAnswered (AreChildrenHonest old new) words old before after
