-- What became of the disk, and how often it failed, by how a command ended.
use Rattle.std.proofs.Common.{◌≡◌, inl, inr, ℕ, ◌≤◌, List, Option, None, Some, IfSome, refl, sym, ◌∙◌, subst, arith}
use Rattle.std.proofs.lemmas.Bool.{cases_lt}
use Rattle.ug_disk.specs.Histories.{DiskSeen, History}
use Rattle.ug_disk.specs.Crashes.{Leaves, MayLeaveBoth}
use Rattle.ug_disk.proofs.Moments.{starts, weakens}
use Rattle.ug_checkpoint.specs.Causes.{load_cause}
use Rattle.ug_checkpoint.specs.Runs.{CouldLeave}
use Rattle.ug_checkpoint.specs.declared.error.LoadError.{LoadError}
use Rattle.ug_restart.proofs.Causes.{not_loaded}
use Rattle.ug_io.specs.Outside.{Rose}
use Rattle.ug_restart.proofs.Going.{rose_rises}
use Rattle.ug_restart.specs.Faults.{fault_of_load, start_cause}
use Rattle.ug_restart.specs.declared.fault.StartFault.{StartFault}
use Rattle.ug_restart.specs.declared.fault.StartFault.TheVariants as faults
use Rattle.ug_restart.specs.declared.outcome.Outcome.{Outcome}
use Rattle.ug_restart.specs.Openings.{CoversWhatIsFound}
use Rattle.ug_restart.specs.Moments.{AllCovered, IsCoveredFind}
use Rattle.ug_restart.specs.Outcomes.{IsMissedByFaults, IsUntouched}
use Rattle.ug_top.specs.Solved.{Crewed, KeepsCovered, KeepsCoveredBy}
use Rattle.ug_top.proofs.Solved.{kept_anyway}
use Rattle.ug_top.specs.declared.ended.Ended.{Ended}
use Rattle.ug_top.specs.declared.ended.Ended.TheVariants.{Lines, Quiet, Refused, ReadFault, Memory}
use Rattle.ug_top.specs.declared.status.Status.{Status}
use Rattle.ug_top.specs.declared.status.Status.TheVariants as statuses
use Rattle.ug_top.specs.Ends.{IsCalmFor, IsStored, IsUnreadFor, status_of}
use Rattle.ug_top.specs.Lines.{status_of_fault}
use Rattle.ug_image.specs.declared.image.Image.{Image}
use Rattle.ug_top.specs.Outcomes.{TellsEnd, TellsFault, TellsImage, TellsOutcome}
use Rattle.ug_top.proofs.Tellings.{IsOver, line_is_over, outcome_is_over}

-- ---- a disk that was left alone

covered_now : (told : Option History) → CoversWhatIsFound told
    → IfSome told (λ history. (zero one : List ℕ) → MayLeaveBoth history.now zero one
    → IsCoveredFind zero one)
covered_now None covers = tt
covered_now (Some history) covers = λ zero one may found recovered.
    covers found (record { zero = zero; one = one; could = may; recovered = recovered })

pub keeps_untouched : (old new : DiskSeen) → new.told ≡ old.told → KeepsCovered old new
keeps_untouched old new same covers = subst (λ t. AllCovered old.told t) (sym same)
    (starts IsCoveredFind old.told (covered_now old.told covers))

pub untouched : (Keeps : Type 0) (old new : DiskSeen) (status : Status) → (status ≡ statuses.DiskFault → ⊥)
    → new.told ≡ old.told → new.faults ≡ old.faults → Keeps → IsStored Keeps old new status
untouched Keeps old new status none same calm keeps = record {
  rises = omega (arith, calm);
  fault = λ is. absurd (none is);
  calm = λ c. calm;
  unread = λ u. same;
  any_moment = keeps;
}

-- ---- a run

over : (Keeps : Type 0) (old new : DiskSeen) (status : Status) → IsOver status → old.faults ≤ new.faults
    → Keeps → IsStored Keeps old new status
over Keeps old new status (inl is) rises moment = record {
  rises = rises;
  fault = λ e. absurd (cc (sym is ∙ e));
  calm = λ c. absurd (subst IsCalmFor is c);
  unread = λ u. absurd (subst IsUnreadFor is u);
  any_moment = moment;
}
over Keeps old new status (inr (inl is)) rises moment = record {
  rises = rises;
  fault = λ e. absurd (cc (sym is ∙ e));
  calm = λ c. absurd (subst IsCalmFor is c);
  unread = λ u. absurd (subst IsUnreadFor is u);
  any_moment = moment;
}
over Keeps old new status (inr (inr is)) rises moment = record {
  rises = rises;
  fault = λ e. absurd (cc (sym is ∙ e));
  calm = λ c. absurd (subst IsCalmFor is c);
  unread = λ u. absurd (subst IsUnreadFor is u);
  any_moment = moment;
}

memory : (Keeps : Type 0) (old new : DiskSeen) → old.faults ≤ new.faults → Keeps
    → IsStored Keeps old new statuses.Memory
memory Keeps old new rises moment = record {
  rises = rises;
  fault = λ e. absurd (cc e);
  calm = λ c. absurd c;
  unread = λ u. absurd u;
  any_moment = moment;
}

outcome_stored : (Keeps : Type 0) (gap : ℕ) (outcome : Outcome) (e : Ended) (old new : DiskSeen)
    → TellsOutcome gap outcome e → old.faults ≤ new.faults → Keeps
    → IsStored Keeps old new (status_of e)
outcome_stored Keeps gap outcome (Lines status text best) old new t rises moment =
    over Keeps old new status (outcome_is_over gap outcome status text.items t.lines) rises moment
outcome_stored Keeps gap outcome (Quiet status) old new t rises moment = absurd t
outcome_stored Keeps gap outcome (Refused refusal text) old new t rises moment = absurd t
outcome_stored Keeps gap outcome ReadFault old new t rises moment = absurd t
outcome_stored Keeps gap outcome Memory old new t rises moment = memory Keeps old new rises moment

-- the disk's count of faults did not fall, whatever was missed
missed_rises : (outcome : Outcome) (old new : DiskSeen) → IsMissedByFaults outcome old new
    → old.faults ≤ new.faults
missed_rises outcome old new t = elim (cases_lt 0 outcome.missed) [
  | inl some ↦ rose_rises old.faults new.faults (t.rose some)
  | inr none ↦ omega (arith, t.calm (omega (arith, none)))
]

-- saves missed from a moment on, before which the disk did not fail
pub missed_from : (outcome : Outcome) (old mid new : DiskSeen) → mid.faults ≡ old.faults
    → IsMissedByFaults outcome mid new → IsMissedByFaults outcome old new
missed_from outcome old mid new same t = record {
  rose = λ some. subst (λ faults. Rose faults new.faults) same (t.rose some);
  each = elim t.each [
    | inl few ↦ inl (omega (arith, same, few))
    | inr full ↦ inr full
  ];
  calm = λ none. t.calm none ∙ same;
}

-- a run with a checkpoint
pub kept_stored : (Keeps : Type 0) (gap : ℕ) (outcome : Outcome) (e : Ended) (old new : DiskSeen)
    → TellsOutcome gap outcome e → IsMissedByFaults outcome old new
    → Keeps → IsStored Keeps old new (status_of e)
kept_stored Keeps gap outcome e old new t missed moment =
    outcome_stored Keeps gap outcome e old new t (missed_rises outcome old new missed) moment

-- a run without one
pub alone_stored : (by : Crewed) (gap : ℕ) (outcome : Outcome) (e : Ended) (old new : DiskSeen)
    → TellsOutcome gap outcome e → IsUntouched outcome old new
    → IsStored (KeepsCoveredBy by old new) old new (status_of e)
alone_stored by gap outcome e old new t u =
    outcome_stored (KeepsCoveredBy by old new) gap outcome e old new t (omega (arith, u.calm))
    (kept_anyway by old new (keeps_untouched old new u.told))

pub end_stored : (outcome : Outcome) (e : Ended) (old new : DiskSeen) → TellsEnd outcome e
    → new.told ≡ old.told → new.faults ≡ old.faults → IsStored (KeepsCovered old new) old new (status_of e)
end_stored outcome (Lines status text best) old new t same calm =
    over (KeepsCovered old new) old new status (line_is_over outcome.end status text.items t.0)
    (omega (arith, calm)) (keeps_untouched old new same)
end_stored outcome (Quiet status) old new t same calm = absurd t
end_stored outcome (Refused refusal text) old new t same calm = absurd t
end_stored outcome ReadFault old new t same calm = absurd t
end_stored outcome Memory old new t same calm =
    untouched (KeepsCovered old new) old new statuses.Memory (λ e. absurd (cc e)) same calm
    (keeps_untouched old new same)

-- ---- a fault

-- no call of the disk failed
calm_fault : (Keeps : Type 0) (status : Status) (old new : DiskSeen) → (status ≡ statuses.DiskFault → ⊥)
    → (IsUnreadFor status → ⊥) → new.faults ≡ old.faults
    → Keeps → IsStored Keeps old new status
calm_fault Keeps status old new none read calm moment = record {
  rises = omega (arith, calm);
  fault = λ e. absurd (none e);
  calm = λ c. calm;
  unread = λ u. absurd (read u);
  any_moment = moment;
}

faulty : (Keeps : Type 0) (fault : StartFault) (old new : DiskSeen)
    → start_cause fault old.faults new.faults → Keeps → IsStored Keeps old new (status_of_fault fault)
faulty Keeps faults.Memory old new calm moment = memory Keeps old new (omega (arith, calm)) moment
faulty Keeps faults.DiskFault old new rose moment = record {
  rises = rose_rises old.faults new.faults rose;
  fault = λ e. rose;
  calm = λ c. absurd c;
  unread = λ u. absurd u;
  any_moment = moment;
}
faulty Keeps (faults.BadImage slot at) old new calm moment =
    calm_fault Keeps statuses.BadImage old new (λ e. absurd (cc e)) (λ u. u) calm moment
faulty Keeps faults.NoCheckpoint old new calm moment =
    calm_fault Keeps statuses.NoCheckpoint old new (λ e. absurd (cc e)) (λ u. u) calm moment
faulty Keeps (faults.OtherProblem at kept read) old new calm moment =
    calm_fault Keeps statuses.OtherProblem old new (λ e. absurd (cc e)) (λ u. u) calm moment
faulty Keeps (faults.SmallerGap kept asked) old new calm moment =
    calm_fault Keeps statuses.SmallerGap old new (λ e. absurd (cc e)) (λ u. u) calm moment
faulty Keeps faults.Spent old new calm moment =
    calm_fault Keeps statuses.Spent old new (λ e. absurd (cc e)) (λ u. u) calm moment

-- a fault that is reported, or for which memory ran out
pub fault_stored : (Keeps : Type 0) (fault : StartFault) (e : Ended) (old new : DiskSeen) → TellsFault fault e
    → start_cause fault old.faults new.faults → Keeps
    → IsStored Keeps old new (status_of e)
fault_stored Keeps fault (Lines status text best) old new t cause moment =
    subst (IsStored Keeps old new) (sym t.0) (faulty Keeps fault old new cause moment)
fault_stored Keeps fault (Quiet status) old new t cause moment = absurd t
fault_stored Keeps fault (Refused refusal text) old new t cause moment = absurd t
fault_stored Keeps fault ReadFault old new t cause moment = absurd t
fault_stored Keeps fault Memory old new t cause moment =
    memory Keeps old new (faulty Keeps fault old new cause moment).rises moment

-- ---- a load

could_covered : (told : Option History) → CoversWhatIsFound told → (zero one : List ℕ)
    → CouldLeave told zero one → IsCoveredFind zero one
could_covered told covers zero one could found recovered =
    covers found (record { zero = zero; one = one; could = could; recovered = recovered })

pub load_covered : (old new : Option History) → Leaves (CouldLeave old) old new
    → CoversWhatIsFound old → AllCovered old new
load_covered old new leaves covers =
    weakens (CouldLeave old) IsCoveredFind old new (could_covered old covers) leaves

pub image_stored : (image : Image) (e : Ended) (old new : DiskSeen) → TellsImage image e
    → new.faults ≡ old.faults → Leaves (CouldLeave old.told) old.told new.told
    → IsStored (KeepsCovered old new) old new (status_of e)
image_stored image (Lines status text best) old new t calm leaves =
    over (KeepsCovered old new) old new status (inl t.0) (omega (arith, calm)) (load_covered old.told new.told leaves)
image_stored image (Quiet status) old new t calm leaves = absurd t
image_stored image (Refused refusal text) old new t calm leaves = absurd t
image_stored image ReadFault old new t calm leaves = absurd t
image_stored image Memory old new t calm leaves =
    memory (KeepsCovered old new) old new (omega (arith, calm)) (load_covered old.told new.told leaves)

-- if nothing is loaded, the same is said of the start that stands for it
pub load_stored : (error : LoadError) (e : Ended) (old new : DiskSeen)
    → TellsFault (fault_of_load error) e → load_cause error old.faults new.faults
    → Leaves (CouldLeave old.told) old.told new.told → IsStored (KeepsCovered old new) old new (status_of e)
load_stored error e old new t cause leaves =
    fault_stored (KeepsCovered old new) (fault_of_load error) e old new t
    (not_loaded error (fault_of_load error) old.faults new.faults refl cause)
    (load_covered old.told new.told leaves)
