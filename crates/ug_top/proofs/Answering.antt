-- A run that ends with status 0 has printed a right answer.
use Rattle.std.proofs.Common.{◌≡◌, sym, subst, inl, inr, ℕ, List, Option, None, Some, IfSome, arith}
use Rattle.std.proofs.lemmas.Int.{ints}
use Rattle.clap.specs.Walk.{Text}
use Rattle.ug_io.specs.Crews.{CrewSeen}
use Rattle.ug_io.specs.Outside.{SinkSeen, Takes}
use Rattle.ug_problem.specs.Better.{IsGap}
use Rattle.ug_problem.specs.Instances.{Instance}
use Rattle.ug_problem.specs.declared.answer.Answer.{Answer}
use Rattle.ug_problem.specs.Right.{IsRightAnswer, OneIsKept, answer_of}
use Rattle.ug_mps.specs.Reads.{Reads}
use Rattle.ug_print.specs.Answers.{AreAnswerLines}
use Rattle.ug_rules.specs.State.{BookState}
use Rattle.ug_restart.specs.Outcomes.{IfAnswered, IfBook}
use Rattle.ug_restart.specs.declared.outcome.End.{End}
use Rattle.ug_restart.specs.declared.outcome.End.TheVariants as ends
use Rattle.ug_restart.specs.declared.outcome.Outcome.{Outcome}
use Rattle.ug_cli.specs.declared.plan.Asked.{Asked}
use Rattle.ug_cli.specs.declared.plan.Plan.{Plan}
use Rattle.ug_cli.specs.declared.plan.Plan.TheVariants as plans
use Rattle.ug_top.specs.Outside.{Outside}
use Rattle.ug_top.specs.Scaled.{scaled_gap}
use Rattle.ug_top.specs.Plans.{settings_for}
use Rattle.ug_top.specs.Lines.{AreEndLines, AreOutcomeLines, AreRunLines}
use Rattle.ug_top.specs.Runs.{IsOf, IsRightFor as IsRightBook, IsRun}
use Rattle.ug_top.specs.Solved.{Crewed, IsTrusted, has_solved, is_trusted}
use Rattle.ug_top.specs.Ends.{AreLinesOf, AreSolveLines, crews_at}
use Rattle.ug_top.specs.Headline.{HasAnswered, IsRightFor, IsRightOf, IsRightText}
use Rattle.ug_top.specs.Honesty.{AnswersAreRight, AreChildrenHonest}
use Rattle.ug_top.specs.Ran.{IsDue, IsWorked}
use Rattle.ug_top.specs.declared.status.Status.{Status}
use Rattle.ug_top.specs.declared.status.Status.TheVariants.{Answered}

is_gap : (gap scale : ℕ) → IsGap (scaled_gap gap scale)
is_gap gap scale = record {
  low = omega (arith, ints);
  high = omega (arith, ints);
}

-- an answer of an end
record IsAnswer (gap : ℕ) (p : Instance) (text : List ℕ) : Type 0 where
  answer : Answer
  right : IsRightAnswer p (scaled_gap gap p.objective.scale) answer
  are : AreAnswerLines gap p answer text

answer_at : OneIsKept → (asked : Asked) (p : Instance) (end : End) (text : List ℕ)
    → IfAnswered end (IsRightBook p (settings_for asked p))
    → IfBook end (IsOf p (settings_for asked p))
    → AreEndLines asked.bounds.gap end Answered text → IsAnswer asked.bounds.gap p text
answer_at kept asked p (ends.Answered b) text right of lines = record {
  answer = answer_of b.best;
  right = (kept.right p (scaled_gap asked.bounds.gap p.objective.scale) b.best
      (is_gap asked.bounds.gap p.objective.scale)).0 right;
  are = subst (λ (q : Instance). AreAnswerLines asked.bounds.gap q (answer_of b.best) text)
      of.its_problem lines.1;
}
answer_at kept asked p (ends.Limited b) text right of lines = absurd (cc lines.0)
answer_at kept asked p (ends.Stranded b) text right of lines = absurd (cc lines.0)
answer_at kept asked p ends.Memory text right of lines = absurd lines

-- the lines of a run that can be trusted
right_of_run : OneIsKept → (Began : BookState → Type 0) (Trusted : (b : BookState) → Began b → Type 0)
    (Saves : BookState → ℕ → Type 0) (by : Crewed) (asked : Asked) (p : Instance) (outcome : Outcome)
    (run : IsRun Began Trusted Saves by p (settings_for asked p) outcome)
    → Trusted run.given run.began → IsTrusted by run.given outcome.end run.solved
    → (bytes text : List ℕ) → Reads bytes asked.bounds.boxed p
    → AreOutcomeLines asked.bounds.gap outcome Answered text → IsRightText asked.bounds bytes text
right_of_run kept Began Trusted Saves by asked p outcome run trusted honest bytes text states lines =
    let a = answer_at kept asked p outcome.end lines.first (run.right trusted honest) run.of lines.end in
    record {
      problem = p;
      states = states;
      answer = a.answer;
      right = a.right;
      lines = lines.first;
      are = a.are;
      missed = outcome.missed;
      unsaved = outcome.unsaved;
      is = lines.is;
    }

-- the same of the source's bytes, if they are known
right_of_lines : (asked : Asked) (Ran : Instance → Outcome → Type 0) (left : Option (List ℕ))
    (text : List ℕ) (lines : AreRunLines Ran asked.bounds.gap asked.bounds.boxed left Answered text)
    → ((bytes : List ℕ) → Reads bytes asked.bounds.boxed lines.problem
    → IsRightText asked.bounds bytes text)
    → IfSome left (λ bytes. IsRightText asked.bounds bytes text)
right_of_lines asked Ran None text lines right = tt
right_of_lines asked Ran (Some bytes) text lines right = right bytes lines.states

-- threads need no trust
threads_trusted : (was now : Option CrewSeen) (given : BookState) (end : End)
    → (solved : has_solved was now given end) → was ≡ None → is_trusted was now given end solved
threads_trusted None None given end solved none = tt
threads_trusted None (Some now) given end solved none = absurd solved
threads_trusted (Some was) now given end solved none = absurd (cc none)

right_of_plan : OneIsKept → (plan : Plan) (old new : Outside) (text : List ℕ)
    → AreLinesOf plan old new Answered text → AreChildrenHonest old new → IsRightOf plan old text
right_of_plan kept (plans.Solve solve) old new text lines honest =
    right_of_solve solve.checkpoint lines
  where
    asked : Asked
    asked = solve.settings

    right_of_solve : {A : Type 0} → (checkpoint : Option A)
        → AreSolveLines checkpoint asked old new Answered text → IsRightFor asked.bounds old text
    right_of_solve None lines =
        right_of_lines asked _ old.source.left text lines
        (λ bytes states. right_of_run kept _ _ _ (crews_at old new) asked lines.problem lines.outcome
        lines.ran.ran tt (honest _ _ lines.ran.ran.solved) bytes text states lines.lines)
    right_of_solve (Some folder) lines =
        right_of_lines asked _ old.source.left text lines
        (λ bytes states. right_of_run kept _ _ _ (crews_at old new) asked lines.problem lines.outcome
        lines.ran.ran tt (honest _ _ lines.ran.ran.solved) bytes text states lines.lines)
right_of_plan kept (plans.Restart restart) old new text lines honest =
    λ covers.
    right_of_lines restart.settings _ old.source.left text lines
    (λ bytes states. right_of_run kept _ _ _ (crews_at old new) restart.settings lines.problem
    lines.outcome lines.ran.ran
    (covers lines.ran.ran.began.found lines.ran.ran.began.could)
    (honest _ _ lines.ran.ran.solved) bytes text states lines.lines)
right_of_plan kept (plans.Worker worker) old new text lines honest = tt
right_of_plan kept (plans.Show show) old new text lines honest = tt
right_of_plan kept (plans.Gen gen) old new text lines honest = tt

answered : OneIsKept → (words : List Text) (old new : Outside) (before after : SinkSeen)
    (text : List ℕ) → IsWorked words old new Answered text
    → Takes before.written after.written text
    → HasAnswered (AreChildrenHonest old new) words old before after
answered kept words old new before after text worked printed = record {
  plan = worked.plan;
  taken = worked.taken;
  text = text;
  printed = printed;
  threads = λ none. right_of_plan kept worked.plan old new text worked.lines
      (λ given end solved. threads_trusted old.crew new.crew given end solved none);
  processes = right_of_plan kept worked.plan old new text worked.lines;
}

pub answers_are_right : OneIsKept → AnswersAreRight
answers_are_right kept words old new before after run = elim run.told [
  | inl written ↦ elim (subst (λ (s : Status). IsDue words old new s run.text) (sym written.is) run.due) [
    | inl worked ↦ answered kept words old new before after run.text worked written.all
    | inr idle ↦ elim idle.why [
      | inl none ↦ absurd (cc none.usage)
      | inr unread ↦ absurd (cc unread.memory)
    ]
  ]
  | inr cut ↦ absurd (cc cut.is)
]
