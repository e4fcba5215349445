-- The known facts about a run are its command's lines.
use Rattle.std.proofs.Common.{◌≡◌, ◌⊎◌, inl, inr, ℕ, List, Option, None, Some, refl, sym, subst, ◌∙◌}
use Rattle.ug_problem.specs.Instances.{Instance}
use Rattle.ug_restart.specs.declared.fault.StartFault.{StartFault}
use Rattle.ug_restart.specs.declared.fault.StartFault.TheVariants as faults
use Rattle.ug_restart.specs.declared.outcome.End.{End}
use Rattle.ug_restart.specs.declared.outcome.End.TheVariants as ends
use Rattle.ug_restart.specs.declared.outcome.Outcome.{Outcome}
use Rattle.ug_print.specs.Faults.{fault_line}
use Rattle.ug_cli.specs.declared.plan.Asked.{Asked}
use Rattle.ug_top.specs.declared.ended.Ended.{Ended}
use Rattle.ug_top.specs.declared.ended.Ended.TheVariants.{Lines, Quiet, Refused, ReadFault, Memory}
use Rattle.ug_top.specs.declared.status.Status.{Status}
use Rattle.ug_top.specs.declared.status.Status.TheVariants as statuses
use Rattle.ug_top.specs.Ends.{AreFileLines, AreGenLines, AreRestartLines, AreSolveLines, BeginsAlways, HasNotBegun, HasNotGoneOn, HasRunAlone, HasRunOn, HasRunSaved, IsIdleSince, crews_at, status_of, text_of}
use Rattle.ug_top.specs.Outside.{Outside}
use Rattle.ug_top.specs.Solved.{unchanged}
use Rattle.ug_top.specs.Plans.{settings_made}
use Rattle.ug_disk.specs.Histories.{DiskSeen}
use Rattle.ug_restart.specs.Outcomes.{IsUntouched}
use Rattle.ug_top.specs.Runs.{IsNewRun}
use Rattle.ug_gen.specs.Stated.{instance}
use Rattle.ug_cli.specs.declared.plan.Gen.{Gen}
use Rattle.ug_top.specs.Lines.{AreEndLines, AreOutcomeLines, IsEndLine, States, status_of_fault}
use Rattle.ug_top.specs.Outcomes.{TellsEnd, TellsFault, TellsOutcome, TellsRun}
use Rattle.ug_top.specs.Unread.{IsUnread}

-- ---- the status of an end

abbrev pub IsOver : Status → Type 0
IsOver status = (status ≡ statuses.Answered) ⊎ ((status ≡ statuses.Limited) ⊎ (status ≡ statuses.Stranded))

end_is_over : (gap : ℕ) (end : End) (status : Status) (text : List ℕ)
    → AreEndLines gap end status text → IsOver status
end_is_over gap (ends.Answered b) status text t = inl t.0
end_is_over gap (ends.Limited b) status text t = inr (inl t.0)
end_is_over gap (ends.Stranded b) status text t = inr (inr t.0)
end_is_over gap ends.Memory status text t = absurd t

pub outcome_is_over : (gap : ℕ) (outcome : Outcome) (status : Status) (text : List ℕ)
    → AreOutcomeLines gap outcome status text → IsOver status
outcome_is_over gap outcome status text t = end_is_over gap outcome.end status t.first t.end

pub line_is_over : (end : End) (status : Status) (text : List ℕ) → IsEndLine end status text
    → IsOver status
line_is_over (ends.Answered b) status text t = inl t.0
line_is_over (ends.Limited b) status text t = inr (inl t.0)
line_is_over (ends.Stranded b) status text t = absurd t
line_is_over ends.Memory status text t = absurd t

-- ---- the lines of a file

module _ (Idle : Type 0) (Ran : Instance → Outcome → Type 0) (Not : Instance → StartFault → Type 0)
    (asked : Asked) (left : Option (List ℕ)) (p : Instance) (states : States left asked.bounds.boxed p) where
  over_lines : (outcome : Outcome) (status : Status) (text : List ℕ) → Ran p outcome
      → AreOutcomeLines asked.bounds.gap outcome status text → IsOver status
      → AreFileLines Idle Ran Not asked left status text
  over_lines outcome status text ran lines (inl is) =
      subst (λ s. AreFileLines Idle Ran Not asked left s text) (sym is) (record {
        problem = p;
        states = states;
        outcome = outcome;
        ran = ran;
        lines = subst (λ s. AreOutcomeLines asked.bounds.gap outcome s text) is lines;
      })
  over_lines outcome status text ran lines (inr (inl is)) =
      subst (λ s. AreFileLines Idle Ran Not asked left s text) (sym is) (record {
        problem = p;
        states = states;
        outcome = outcome;
        ran = ran;
        lines = subst (λ s. AreOutcomeLines asked.bounds.gap outcome s text) is lines;
      })
  over_lines outcome status text ran lines (inr (inr is)) =
      subst (λ s. AreFileLines Idle Ran Not asked left s text) (sym is) (record {
        problem = p;
        states = states;
        outcome = outcome;
        ran = ran;
        lines = subst (λ s. AreOutcomeLines asked.bounds.gap outcome s text) is lines;
      })

  fault_lines : (fault : StartFault) (text : List ℕ) → Not p fault → text ≡ fault_line fault
      → AreFileLines Idle Ran Not asked left (status_of_fault fault) text
  fault_lines faults.Memory text not is = record {
    line = is;
    when = inr (record { problem = p; states = states; ended = inr (faults.Memory, not) });
  }
  fault_lines faults.DiskFault text not is = record {
    problem = p;
    states = states;
    fault = faults.DiskFault;
    not = not;
    its_status = refl;
    is = is;
  }
  fault_lines (faults.BadImage slot at) text not is = record {
    problem = p;
    states = states;
    fault = faults.BadImage slot at;
    not = not;
    its_status = refl;
    is = is;
  }
  fault_lines faults.NoCheckpoint text not is = record {
    problem = p;
    states = states;
    fault = faults.NoCheckpoint;
    not = not;
    its_status = refl;
    is = is;
  }
  fault_lines (faults.OtherProblem at kept read) text not is = record {
    problem = p;
    states = states;
    fault = faults.OtherProblem at kept read;
    not = not;
    its_status = refl;
    is = is;
  }
  fault_lines (faults.SmallerGap kept asked') text not is = record {
    problem = p;
    states = states;
    fault = faults.SmallerGap kept asked';
    not = not;
    its_status = refl;
    is = is;
  }
  fault_lines faults.Spent text not is = record {
    problem = p;
    states = states;
    fault = faults.Spent;
    not = not;
    its_status = refl;
    is = is;
  }

  pub run_lines : (e : Ended) → TellsRun (Ran p) (Not p) asked.bounds.gap e
      → AreFileLines Idle Ran Not asked left (status_of e) (text_of e)
  run_lines (Lines status text best) (inl (outcome, ran, lines)) =
      over_lines outcome status text.items ran lines.lines
      (outcome_is_over asked.bounds.gap outcome status text.items lines.lines)
  run_lines (Lines status text best) (inr (fault, not, tells)) =
      subst (λ s. AreFileLines Idle Ran Not asked left s text.items) (sym tells.0)
      (fault_lines fault text.items not tells.1)
  run_lines (Quiet status) t = absurd t
  run_lines (Refused refusal text) t = absurd t
  run_lines ReadFault t = absurd t
  run_lines Memory t = record {
    line = refl;
    when = inr (record {
      problem = p;
      states = states;
      ended = elim t [
        | inl (outcome, ran) ↦ inl (outcome, ran)
        | inr (fault, not) ↦ inr (fault, not)
      ];
    });
  }

-- a solve without a checkpoint
pub alone_lines : {A : Type 0} (folder : Option A) (asked : Asked) (old new : Outside) (p : Instance)
    → folder ≡ None → States old.source.left asked.bounds.boxed p → (e : Ended)
    → TellsRun (HasRunAlone (crews_at old new) asked old.disk new.disk p) (BeginsAlways p)
    asked.bounds.gap e → AreSolveLines folder asked old new (status_of e) (text_of e)
alone_lines {A} folder asked old new p is states e t =
    subst (λ (k : Option A). AreSolveLines k asked old new (status_of e) (text_of e)) (sym is)
    (run_lines (IsIdleSince old new) (HasRunAlone (crews_at old new) asked old.disk new.disk) BeginsAlways asked
    old.source.left p states e t)

-- a solve with one
pub saved_lines : {A : Type 0} (folder : Option A) (name : A) (asked : Asked) (old new : Outside)
    (p : Instance) → folder ≡ Some name → States old.source.left asked.bounds.boxed p → (e : Ended)
    → TellsRun (HasRunSaved (crews_at old new) asked old.disk new.disk p)
    (HasNotBegun (crews_at old new) asked old.disk new.disk p) asked.bounds.gap e
    → AreSolveLines folder asked old new (status_of e) (text_of e)
saved_lines {A} folder name asked old new p is states e t =
    subst (λ (k : Option A). AreSolveLines k asked old new (status_of e) (text_of e)) (sym is)
    (run_lines (IsIdleSince old new) (HasRunSaved (crews_at old new) asked old.disk new.disk)
    (HasNotBegun (crews_at old new) asked old.disk new.disk) asked old.source.left p states e t)

-- a restart
pub restart_lines : (asked : Asked) (old new : Outside) (p : Instance)
    → States old.source.left asked.bounds.boxed p → (e : Ended)
    → TellsRun (HasRunOn (crews_at old new) asked old.disk new.disk p)
    (HasNotGoneOn (crews_at old new) asked old.disk new.disk p) asked.bounds.gap e
    → AreRestartLines asked old new (status_of e) (text_of e)
restart_lines asked old new p states e t =
    run_lines (IsIdleSince old new) (HasRunOn (crews_at old new) asked old.disk new.disk)
    (HasNotGoneOn (crews_at old new) asked old.disk new.disk) asked old.source.left p states e t

-- a command that read no problem
unread_lines : (Idle : Type 0) (Ran : Instance → Outcome → Type 0)
    (Not : Instance → StartFault → Type 0) (asked : Asked) (left : Option (List ℕ)) (e : Ended)
    → Idle → IsUnread asked.bounds.boxed left e
    → AreFileLines Idle Ran Not asked left (status_of e) (text_of e)
unread_lines Idle Ran Not asked left (Lines status text best) idle t = absurd t
unread_lines Idle Ran Not asked left (Quiet status) idle t = absurd t
unread_lines Idle Ran Not asked left (Refused refusal text) idle t = t.0
unread_lines Idle Ran Not asked left ReadFault idle t = refl
unread_lines Idle Ran Not asked left Memory idle t = record { line = refl; when = inl idle }

pub unread_solve : {A : Type 0} (folder : Option A) (asked : Asked) (old new : Outside) (e : Ended)
    → IsIdleSince old new → IsUnread asked.bounds.boxed old.source.left e
    → AreSolveLines folder asked old new (status_of e) (text_of e)
unread_solve None asked old new e idle t =
    unread_lines (IsIdleSince old new) (HasRunAlone (crews_at old new) asked old.disk new.disk)
    BeginsAlways asked old.source.left e idle t
unread_solve (Some folder) asked old new e idle t =
    unread_lines (IsIdleSince old new) (HasRunSaved (crews_at old new) asked old.disk new.disk)
    (HasNotBegun (crews_at old new) asked old.disk new.disk) asked old.source.left e idle t

pub unread_restart : (asked : Asked) (old new : Outside) (e : Ended)
    → IsIdleSince old new → IsUnread asked.bounds.boxed old.source.left e
    → AreRestartLines asked old new (status_of e) (text_of e)
unread_restart asked old new e idle t =
    unread_lines (IsIdleSince old new) (HasRunOn (crews_at old new) asked old.disk new.disk)
    (HasNotGoneOn (crews_at old new) asked old.disk new.disk) asked old.source.left e idle t

-- ---- known facts about a run

pub tells_outcome : (Ran : Outcome → Type 0) (Not : StartFault → Type 0) (gap : ℕ)
    (outcome : Outcome) (e : Ended) → Ran outcome → TellsOutcome gap outcome e
    → TellsRun Ran Not gap e
tells_outcome Ran Not gap outcome (Lines status text best) ran t = inl (outcome, ran, t)
tells_outcome Ran Not gap outcome (Quiet status) ran t = absurd t
tells_outcome Ran Not gap outcome (Refused refusal text) ran t = absurd t
tells_outcome Ran Not gap outcome ReadFault ran t = absurd t
tells_outcome Ran Not gap outcome Memory ran t = inl (outcome, ran)

pub tells_fault : (Ran : Outcome → Type 0) (Not : StartFault → Type 0) (gap : ℕ)
    (fault : StartFault) (e : Ended) → Not fault → TellsFault fault e → TellsRun Ran Not gap e
tells_fault Ran Not gap fault (Lines status text best) not t = inr (fault, not, t)
tells_fault Ran Not gap fault (Quiet status) not t = absurd t
tells_fault Ran Not gap fault (Refused refusal text) not t = absurd t
tells_fault Ran Not gap fault ReadFault not t = absurd t
tells_fault Ran Not gap fault Memory not t = inr (fault, not)

-- ---- the lines of a made instance

not_stranded : (end : End) (status : Status) (text : List ℕ) → IsEndLine end status text
    → status ≡ statuses.Stranded → ⊥
not_stranded (ends.Answered b) status text t is = absurd (cc (sym t.0 ∙ is))
not_stranded (ends.Limited b) status text t is = absurd (cc (sym t.0 ∙ is))
not_stranded (ends.Stranded b) status text t is = absurd t
not_stranded ends.Memory status text t is = absurd t

module _ (gen : Gen) (old new : DiskSeen) (outcome : Outcome)
    (ran : IsNewRun (unchanged None) (instance gen.seed gen.size) (settings_made gen.solvers) outcome)
    (untouched : IsUntouched outcome old new) where
  made_over : (status : Status) (text : List ℕ) → IsEndLine outcome.end status text
      → IsOver status → AreGenLines gen old new status text
  made_over status text line (inl is) =
      subst (λ s. AreGenLines gen old new s text) (sym is) (record {
        outcome = outcome;
        ran = ran;
        untouched = untouched;
        line = subst (λ s. IsEndLine outcome.end s text) is line;
      })
  made_over status text line (inr (inl is)) =
      subst (λ s. AreGenLines gen old new s text) (sym is) (record {
        outcome = outcome;
        ran = ran;
        untouched = untouched;
        line = subst (λ s. IsEndLine outcome.end s text) is line;
      })
  made_over status text line (inr (inr is)) = absurd (not_stranded outcome.end status text line is)

  pub made_lines : (e : Ended) → TellsEnd outcome e
      → AreGenLines gen old new (status_of e) (text_of e)
  made_lines (Lines status text best) t =
      made_over status text.items t.0 (line_is_over outcome.end status text.items t.0)
  made_lines (Quiet status) t = absurd t
  made_lines (Refused refusal text) t = absurd t
  made_lines ReadFault t = absurd t
  made_lines Memory t = refl
