-- How often the source failed, by how a command ended.
use Rattle.std.proofs.Common.{◌≡◌, inl, inr, ℕ, ◌<◌, ◌≤◌, List, Option, refl, sym, ◌∙◌, subst, arith}
use Rattle.ug_io.specs.Outside.{SourceSeen}
use Rattle.ug_disk.specs.Histories.{DiskSeen}
use Rattle.ug_restart.proofs.Going.{rose_rises}
use Rattle.ug_restart.specs.declared.fault.StartFault.{StartFault}
use Rattle.ug_restart.specs.declared.fault.StartFault.TheVariants as faults
use Rattle.ug_restart.specs.declared.outcome.Outcome.{Outcome}
use Rattle.ug_top.specs.declared.ended.Ended.{Ended}
use Rattle.ug_top.specs.declared.ended.Ended.TheVariants.{Lines, Quiet, Refused, ReadFault, Memory}
use Rattle.ug_top.specs.declared.status.Status.{Status}
use Rattle.ug_top.specs.declared.status.Status.TheVariants as statuses
use Rattle.ug_top.specs.Ends.{AreGenLines, AreShowLines, AreWorkerLines, IsReadAs, IsStored, status_of}
use Rattle.ug_top.specs.Lines.{status_of_fault}
use Rattle.ug_top.specs.Outcomes.{TellsRun}
use Rattle.ug_top.specs.Unread.{IsTextUnread, IsUnread, unread_cause}
use Rattle.ug_io.specs.Links.{LinkSeen}
use Rattle.ug_cli.specs.declared.plan.Gen.{Gen}
use Rattle.ug_top.specs.Solved.{Crewed, KeepsCovered, KeepsCoveredBy}
use Rattle.ug_top.proofs.Solved.{kept_anyway}
use Rattle.ug_top.proofs.Stored.{keeps_untouched, untouched}
use Rattle.ug_top.proofs.Tellings.{IsOver, outcome_is_over}

-- ---- no problem was read

is_read_fault : (boxed : Option ℕ) (left : Option (List ℕ)) (e : Ended) → IsUnread boxed left e
    → status_of e ≡ statuses.ReadFault → e ≡ ReadFault
is_read_fault boxed left (Lines status text best) t is = absurd t
is_read_fault boxed left (Quiet status) t is = absurd t
is_read_fault boxed left (Refused refusal text) t is = absurd (cc is)
is_read_fault boxed left ReadFault t is = refl
is_read_fault boxed left Memory t is = absurd (cc is)

no_disk_fault : (boxed : Option ℕ) (left : Option (List ℕ)) (e : Ended) → IsUnread boxed left e
    → status_of e ≡ statuses.DiskFault → ⊥
no_disk_fault boxed left (Lines status text best) t is = absurd t
no_disk_fault boxed left (Quiet status) t is = absurd t
no_disk_fault boxed left (Refused refusal text) t is = absurd (cc is)
no_disk_fault boxed left ReadFault t is = absurd (cc is)
no_disk_fault boxed left Memory t is = absurd (cc is)

unread_rises : (e : Ended) (old new : ℕ) → unread_cause e old new → old ≤ new
unread_rises (Lines status text best) old new same = omega (arith, same)
unread_rises (Quiet status) old new same = omega (arith, same)
unread_rises (Refused refusal text) old new same = omega (arith, same)
unread_rises ReadFault old new rose = rose_rises old new rose
unread_rises Memory old new same = omega (arith, same)

unread_source : (e : Ended) (old new : ℕ) → unread_cause e old new → old < new
    → status_of e ≡ statuses.ReadFault
unread_source (Lines status text best) old new same less = absurd (omega (arith, same, less))
unread_source (Quiet status) old new same less = absurd (omega (arith, same, less))
unread_source (Refused refusal text) old new same less = absurd (omega (arith, same, less))
unread_source ReadFault old new rose less = refl
unread_source Memory old new same less = absurd (omega (arith, same, less))

-- a file was gathered, and states no problem
pub unread_calm : (boxed : Option ℕ) (text : List ℕ) (e : Ended) (old new : ℕ)
    → IsTextUnread boxed text e → new ≡ old → unread_cause e old new
unread_calm boxed text (Lines status told best) old new t same = absurd t
unread_calm boxed text (Quiet status) old new t same = absurd t
unread_calm boxed text (Refused refusal told) old new t same = same
unread_calm boxed text ReadFault old new t same = absurd t
unread_calm boxed text Memory old new t same = same

pub unread_read : (boxed : Option ℕ) (left : Option (List ℕ)) (e : Ended) (old new : SourceSeen)
    → IsUnread boxed left e → unread_cause e old.faults new.faults
    → IsReadAs old new (status_of e)
unread_read boxed left e old new t cause = record {
  rises = unread_rises e old.faults new.faults cause;
  fault = λ is. subst (λ (k : Ended). unread_cause k old.faults new.faults)
      (is_read_fault boxed left e t is) cause;
  source = λ less. unread_source e old.faults new.faults cause less;
}

pub unread_stored : (by : Crewed) (boxed : Option ℕ) (left : Option (List ℕ)) (e : Ended)
    (disk : DiskSeen) → IsUnread boxed left e → IsStored (KeepsCoveredBy by disk disk) disk disk (status_of e)
unread_stored by boxed left e disk t =
    untouched (KeepsCoveredBy by disk disk) disk disk (status_of e) (no_disk_fault boxed left e t) refl refl
    (kept_anyway by disk disk (keeps_untouched disk disk refl))

-- ---- nothing was read, or a problem

pub calm_read : (old new : SourceSeen) (status : Status) → new.faults ≡ old.faults
    → (status ≡ statuses.ReadFault → ⊥) → IsReadAs old new status
calm_read old new status same none = record {
  rises = omega (arith, same);
  fault = λ is. absurd (none is);
  source = λ less. absurd (omega (arith, same, less));
}

over_not_read : (status : Status) → IsOver status → status ≡ statuses.ReadFault → ⊥
over_not_read status (inl is) e = absurd (cc (sym is ∙ e))
over_not_read status (inr (inl is)) e = absurd (cc (sym is ∙ e))
over_not_read status (inr (inr is)) e = absurd (cc (sym is ∙ e))

fault_not_read : (fault : StartFault) → status_of_fault fault ≡ statuses.ReadFault → ⊥
fault_not_read faults.Memory e = absurd (cc e)
fault_not_read faults.DiskFault e = absurd (cc e)
fault_not_read (faults.BadImage slot at) e = absurd (cc e)
fault_not_read faults.NoCheckpoint e = absurd (cc e)
fault_not_read (faults.OtherProblem at kept read) e = absurd (cc e)
fault_not_read (faults.SmallerGap kept asked) e = absurd (cc e)
fault_not_read faults.Spent e = absurd (cc e)

run_not_read : (Ran : Outcome → Type 0) (Not : StartFault → Type 0) (gap : ℕ) (e : Ended)
    → TellsRun Ran Not gap e → status_of e ≡ statuses.ReadFault → ⊥
run_not_read Ran Not gap (Lines status text best) (inl (outcome, ran, lines)) is =
    over_not_read status (outcome_is_over gap outcome status text.items lines.lines) is
run_not_read Ran Not gap (Lines status text best) (inr (fault, not, tells)) is =
    fault_not_read fault (sym tells.0 ∙ is)
run_not_read Ran Not gap (Quiet status) t is = absurd t
run_not_read Ran Not gap (Refused refusal text) t is = absurd t
run_not_read Ran Not gap ReadFault t is = absurd t
run_not_read Ran Not gap Memory t is = absurd (cc is)

pub run_read : (Ran : Outcome → Type 0) (Not : StartFault → Type 0) (gap : ℕ) (e : Ended)
    (old new : SourceSeen) → TellsRun Ran Not gap e → new.faults ≡ old.faults
    → IsReadAs old new (status_of e)
run_read Ran Not gap e old new t same =
    calm_read old new (status_of e) same (run_not_read Ran Not gap e t)

-- ---- commands that read no text

-- a statement about every disk holds of one that a crew may have saved on
pub stored_by : (by : Crewed) (old new : DiskSeen) (status : Status)
    → IsStored (KeepsCovered old new) old new status → IsStored (KeepsCoveredBy by old new) old new status
stored_by by old new status t = record {
  rises = t.rises;
  fault = t.fault;
  calm = t.calm;
  unread = t.unread;
  any_moment = kept_anyway by old new t.any_moment;
}

show_reads_none : (old new : DiskSeen) (status : Status) (text : List ℕ) → AreShowLines old new status text → status ≡ statuses.ReadFault → ⊥
show_reads_none old new statuses.Answered text lines is = absurd (cc is)
show_reads_none old new statuses.Usage text lines is = absurd (cc is)
show_reads_none old new statuses.Refused text lines is = absurd (cc is)
show_reads_none old new statuses.ReadFault text lines is = lines
show_reads_none old new statuses.WriteFault text lines is = absurd (cc is)
show_reads_none old new statuses.DiskFault text lines is = absurd (cc is)
show_reads_none old new statuses.Stranded text lines is = absurd (cc is)
show_reads_none old new statuses.Limited text lines is = absurd (cc is)
show_reads_none old new statuses.Memory text lines is = absurd (cc is)
show_reads_none old new statuses.NoCheckpoint text lines is = absurd (cc is)
show_reads_none old new statuses.OtherProblem text lines is = absurd (cc is)
show_reads_none old new statuses.BadImage text lines is = absurd (cc is)
show_reads_none old new statuses.LinkFault text lines is = absurd (cc is)
show_reads_none old new statuses.BadFrame text lines is = absurd (cc is)
show_reads_none old new statuses.Spent text lines is = absurd (cc is)
show_reads_none old new statuses.SmallerGap text lines is = absurd (cc is)

gen_reads_none : (gen : Gen) (old new : DiskSeen) (status : Status) (text : List ℕ) → AreGenLines gen old new status text → status ≡ statuses.ReadFault → ⊥
gen_reads_none gen old new statuses.Answered text lines is = absurd (cc is)
gen_reads_none gen old new statuses.Usage text lines is = absurd (cc is)
gen_reads_none gen old new statuses.Refused text lines is = absurd (cc is)
gen_reads_none gen old new statuses.ReadFault text lines is = lines
gen_reads_none gen old new statuses.WriteFault text lines is = absurd (cc is)
gen_reads_none gen old new statuses.DiskFault text lines is = absurd (cc is)
gen_reads_none gen old new statuses.Stranded text lines is = absurd (cc is)
gen_reads_none gen old new statuses.Limited text lines is = absurd (cc is)
gen_reads_none gen old new statuses.Memory text lines is = absurd (cc is)
gen_reads_none gen old new statuses.NoCheckpoint text lines is = absurd (cc is)
gen_reads_none gen old new statuses.OtherProblem text lines is = absurd (cc is)
gen_reads_none gen old new statuses.BadImage text lines is = absurd (cc is)
gen_reads_none gen old new statuses.LinkFault text lines is = absurd (cc is)
gen_reads_none gen old new statuses.BadFrame text lines is = absurd (cc is)
gen_reads_none gen old new statuses.Spent text lines is = absurd (cc is)
gen_reads_none gen old new statuses.SmallerGap text lines is = absurd (cc is)

worker_reads_none : (link : Option LinkSeen) (status : Status) (text : List ℕ) → AreWorkerLines link status text → status ≡ statuses.ReadFault → ⊥
worker_reads_none link statuses.Answered text lines is = absurd (cc is)
worker_reads_none link statuses.Usage text lines is = absurd (cc is)
worker_reads_none link statuses.Refused text lines is = absurd (cc is)
worker_reads_none link statuses.ReadFault text lines is = lines
worker_reads_none link statuses.WriteFault text lines is = absurd (cc is)
worker_reads_none link statuses.DiskFault text lines is = absurd (cc is)
worker_reads_none link statuses.Stranded text lines is = absurd (cc is)
worker_reads_none link statuses.Limited text lines is = absurd (cc is)
worker_reads_none link statuses.Memory text lines is = absurd (cc is)
worker_reads_none link statuses.NoCheckpoint text lines is = absurd (cc is)
worker_reads_none link statuses.OtherProblem text lines is = absurd (cc is)
worker_reads_none link statuses.BadImage text lines is = absurd (cc is)
worker_reads_none link statuses.LinkFault text lines is = absurd (cc is)
worker_reads_none link statuses.BadFrame text lines is = absurd (cc is)
worker_reads_none link statuses.Spent text lines is = absurd (cc is)
worker_reads_none link statuses.SmallerGap text lines is = absurd (cc is)

worker_saves_none : (link : Option LinkSeen) (status : Status) (text : List ℕ) → AreWorkerLines link status text → status ≡ statuses.DiskFault → ⊥
worker_saves_none link statuses.Answered text lines is = absurd (cc is)
worker_saves_none link statuses.Usage text lines is = absurd (cc is)
worker_saves_none link statuses.Refused text lines is = absurd (cc is)
worker_saves_none link statuses.ReadFault text lines is = absurd (cc is)
worker_saves_none link statuses.WriteFault text lines is = absurd (cc is)
worker_saves_none link statuses.DiskFault text lines is = lines
worker_saves_none link statuses.Stranded text lines is = absurd (cc is)
worker_saves_none link statuses.Limited text lines is = absurd (cc is)
worker_saves_none link statuses.Memory text lines is = absurd (cc is)
worker_saves_none link statuses.NoCheckpoint text lines is = absurd (cc is)
worker_saves_none link statuses.OtherProblem text lines is = absurd (cc is)
worker_saves_none link statuses.BadImage text lines is = absurd (cc is)
worker_saves_none link statuses.LinkFault text lines is = absurd (cc is)
worker_saves_none link statuses.BadFrame text lines is = absurd (cc is)
worker_saves_none link statuses.Spent text lines is = absurd (cc is)
worker_saves_none link statuses.SmallerGap text lines is = absurd (cc is)

pub show_accounted : (by : Crewed) (source : SourceSeen) (old new : DiskSeen) (status : Status)
    (text : List ℕ) → AreShowLines old new status text → IsStored (KeepsCovered old new) old new status
    → IsReadAs source source status × IsStored (KeepsCoveredBy by old new) old new status
show_accounted by source old new status text lines stored = (
  calm_read source source status refl (show_reads_none old new status text lines),
  stored_by by old new status stored,
)

pub gen_accounted : (by : Crewed) (gen : Gen) (source : SourceSeen) (old new : DiskSeen)
    (status : Status) (text : List ℕ) → AreGenLines gen old new status text
    → IsStored (KeepsCovered old new) old new status
    → IsReadAs source source status × IsStored (KeepsCoveredBy by old new) old new status
gen_accounted by gen source old new status text lines stored = (
  calm_read source source status refl (gen_reads_none gen old new status text lines),
  stored_by by old new status stored,
)

pub worker_accounted : (by : Crewed) (link : Option LinkSeen) (source : SourceSeen) (disk : DiskSeen)
    (status : Status) (text : List ℕ) → AreWorkerLines link status text
    → IsReadAs source source status × IsStored (KeepsCoveredBy by disk disk) disk disk status
worker_accounted by link source disk status text lines = (
  calm_read source source status refl (worker_reads_none link status text lines),
  untouched (KeepsCoveredBy by disk disk) disk disk status (worker_saves_none link status text lines) refl refl
      (kept_anyway by disk disk (keeps_untouched disk disk refl)),
)
