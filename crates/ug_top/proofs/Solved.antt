-- Facts about a run's end, whoever solved.
use Rattle.std.proofs.Common.{◌≡◌, inl, inr, ℕ, [], Option, None, Some, IfSome, refl, sym, subst}
use Rattle.std.specs.Prelude.{◌↔◌, IsNone, IsSomeAnd, List}
use Rattle.std.proofs.lemmas.Bool.{false≢true}
use Rattle.ug_io.specs.Crews.{CrewSeen}
use Rattle.ug_disk.specs.Crashes.{Leaves}
use Rattle.ug_disk.specs.Histories.{DiskSeen, History}
use Rattle.ug_checkpoint.specs.declared.saver.Saver.{Saver}
use Rattle.ug_rules.specs.State.{BookState, held_nodes}
use Rattle.ug_rules.specs.Books.{IsSoundBook}
use Rattle.ug_book.specs.Views.{IsSameRun}
use Rattle.ug_restart.specs.declared.outcome.End.{End}
use Rattle.ug_restart.specs.declared.outcome.End.TheVariants.{Answered, Limited, Memory, Stranded}
use Rattle.ug_restart.specs.declared.outcome.Outcome.{Outcome}
use Rattle.ug_restart.specs.Moments.{AllCovered, FindsIn, IsCoveredNow, IsFoundNow, IsOfRun}
use Rattle.ug_restart.specs.Outcomes.{HasFeasible, IfAnswered, IfBook, IsMissedByFaults, IsRight, IsSavedOrCounted, IsStranded, IsUntouched}
use Rattle.ug_threads.specs.Outcomes.{HasEnded}
use Rattle.ug_threads.proofs.Endings.{none_ended}
use Rattle.ug_threads.specs.Ends.{IsReplayOf}
use Rattle.ug_threads.proofs.Outcomes.{same_run}
use Rattle.ug_coord.specs.Ends as over
use Rattle.ug_coord.specs.Ends.{IsExactly, is_ended, ranks_of}
use Rattle.ug_coord.specs.Coordinators.{HasCoordinated, IsFresh}
use Rattle.ug_coord.specs.Keeping.{AreEachSaved, HasKept, IsKeptSafe, IsNothing}
use Rattle.ug_coord.proofs.Causes.{AreAlive}
use Rattle.ug_coord.proofs.Ends.{nothing_coordinated}
use Rattle.ug_coord.proofs.Kept.{sound_last}
use Rattle.ug_problem.specs.Instances.{Instance}
use Rattle.ug_rules.specs.declared.settings.Settings.{Settings}
use Rattle.ug_cli.specs.declared.plan.Mode.{Mode}
use Rattle.ug_cli.specs.declared.plan.Mode.TheVariants.{Threads, Processes}
use Rattle.ug_cli.specs.Taken.{crew_of}
use Rattle.ug_laws.specs.Coordinators.{CoordinatorsLoseNothing}
use Rattle.ug_laws.specs.Calm.{CalmWorkersLive}
use Rattle.ug_laws.proofs.Solved.{never_stranded}
use Rattle.ug_book.specs.declared.opening.Opening.{Opening}
use Rattle.ug_book.specs.Openings.{IsOpening, opening_book}
use Rattle.ug_io.specs.declared.crew.Exchange.{Exchange}
use Rattle.ug_top.specs.Ends.{HasCrewFor}
use Rattle.ug_restart.specs.Openings.{IsAcknowledgedStart}
use Rattle.ug_top.specs.Runs.{AreSavedInTurn, IsNewRun, IsRun}
use Rattle.ug_top.specs.Solved.{Crewed, FitsCrew, HasSolved, HasSolvedSafely, IsCalmlyWorked, IsSeenCalm, IsStillThere, KeepsCovered, KeepsCoveredBy, counts_saves, has_solved, is_seen_calm, is_trusted, keeps_by, stays_calm, strands_just, unchanged}

-- ---- the ending book

threads_same : (given : BookState) (end : End) → IfBook end (IsReplayOf given) → IfBook end (IsSameRun given)
threads_same given (Answered b) t = same_run given b t
threads_same given (Limited b) t = same_run given b t
threads_same given (Stranded b) t = same_run given b t
threads_same given Memory t = tt

pub solved_same : (was now : Option CrewSeen) (given : BookState) (end : End) → has_solved was now given end
    → IfBook end (IsSameRun given)
solved_same None None given end h = threads_same given end h.replayed
solved_same None (Some now) given end h = absurd h
solved_same (Some was) None given end h = absurd h
solved_same (Some was) (Some now) given end h = h.same

pub solved_feasible : (was now : Option CrewSeen) (given : BookState) (end : End) → has_solved was now given end
    → IfBook end HasFeasible
solved_feasible None None given end h = h.feasible
solved_feasible None (Some now) given end h = absurd h
solved_feasible (Some was) None given end h = absurd h
solved_feasible (Some was) (Some now) given end h = h.feasible

crew_answered : (end : End) (b : BookState) → is_ended end b → IfAnswered end (λ own. held_nodes own ≡ [])
crew_answered (Answered own) b (same, none) = subst (λ (k : BookState). held_nodes k ≡ []) (sym same) none
crew_answered (Limited own) b is = tt
crew_answered (Stranded own) b is = tt
crew_answered Memory b is = tt

pub solved_answered : (was now : Option CrewSeen) (given : BookState) (end : End) → has_solved was now given end
    → IfAnswered end (λ own. held_nodes own ≡ [])
solved_answered None None given end h = h.answered
solved_answered None (Some now) given end h = absurd h
solved_answered (Some was) None given end h = absurd h
solved_answered (Some was) (Some now) given end h = crew_answered end h.now.book h.ended

crew_right : (end : End) (b : BookState) → is_ended end b → IsSoundBook b
    → IfAnswered end (λ own. IsSoundBook own → IsRight own) → IfAnswered end IsRight
crew_right (Answered own) b (same, none) sound right = right (subst IsSoundBook (sym same) sound)
crew_right (Limited own) b is sound right = tt
crew_right (Stranded own) b is sound right = tt
crew_right Memory b is sound right = tt

-- if it is trusted
pub solved_right : CoordinatorsLoseNothing → (was now : Option CrewSeen) (given : BookState) (end : End)
    (h : has_solved was now given end) → given.last ≡ 0 → is_trusted was now given end h → IsSoundBook given
    → IfAnswered end IsRight
solved_right law None None given end h unused trusted sound = h.right sound
solved_right law None (Some now) given end h unused trusted sound = absurd h
solved_right law (Some was) None given end h unused trusted sound = absurd h
solved_right law (Some was) (Some now) given end h unused trusted sound =
    let stays = law given was.faults h.now h.come h.made sound unused trusted in
    crew_right end h.now.book h.ended
    (sound_last _ h.come.actions h.now h.come.trace stays.0) h.right

-- ---- what was said of a solve by a crew

-- but for what is safe
abbrev unsafely : (given : BookState) (faults : ℕ) (crew : CrewSeen) (end : End) (Tried : ℕ → Type 0) (Safe : Type 0)
    → HasCoordinated given faults crew end Tried Safe
    → HasCoordinated given faults crew end (λ count. Unit {0}) (Unit {0})
unsafely given faults crew end Tried Safe h = record {
  now = h.now;
  come = h.come;
  made = h.made;
  started = h.started;
  shown = h.shown;
  closed = h.closed;
  ended = h.ended;
  exact = h.exact;
  failed = h.failed;
  out_of_memory = h.out_of_memory;
  saved = h.saved;
  same = h.same;
  feasible = h.feasible;
  limited = h.limited;
  causes = h.causes;
  shows = h.shows;
  right = h.right;
  tried = tt;
  safe = λ sound. tt;
}

-- and as if the crew reported what went between
abbrev tells_it : (given : BookState) (faults : ℕ) (crew : CrewSeen) (end : End) (Tried : ℕ → Type 0) (Safe : Type 0)
    (h : HasCoordinated given faults crew end Tried Safe)
    → HasCoordinated given faults (record crew { said = Some h.now.said }) end (λ count. Unit {0}) (Unit {0})
tells_it given faults crew end Tried Safe h = record {
  now = h.now;
  come = h.come;
  made = h.made;
  started = h.started;
  shown = refl;
  closed = h.closed;
  ended = h.ended;
  exact = h.exact;
  failed = h.failed;
  out_of_memory = h.out_of_memory;
  saved = h.saved;
  same = h.same;
  feasible = h.feasible;
  limited = h.limited;
  causes = h.causes;
  shows = h.shows;
  right = h.right;
  tried = tt;
  safe = λ sound. tt;
}

pub crew_safely : CoordinatorsLoseNothing → CalmWorkersLive → (o : Opening) → IsOpening o
    → (was now : CrewSeen) (end : End) (Tried : ℕ → Type 0) (Safe : Type 0)
    → HasCoordinated (opening_book o) was.faults now end Tried Safe
    → HasSolvedSafely (record { was = Some was; now = Some now }) (opening_book o) end Tried Safe
crew_safely law calm_law o opening was now end Tried Safe h = record {
  solved = unsafely (opening_book o) was.faults now end Tried Safe h;
  saves = h.tried;
  safe = λ trusted sound. h.safe (law (opening_book o) was.faults h.now h.come h.made sound refl trusted).0;
  live = λ served. never_stranded o end was.faults (record now { said = Some h.now.said }) h.now.said
      (λ count. Unit {0}) (Unit {0}) (tells_it (opening_book o) was.faults now end Tried Safe h) refl
      calm_law opening served.worked served.calm;
}

-- ---- and of one by threads

pub threads_safe : (given : BookState) (saver : Option Saver) (old new : DiskSeen)
    → IfSome saver (λ s. IsSoundBook given → IsCoveredNow s old.told → AllCovered old.told new.told)
    → IsSoundBook given → IsKeptSafe saver old new
threads_safe given None old new all sound = tt
threads_safe given (Some saver) old new all sound = all sound

pub threads_kept : (given : BookState) (saver : Option Saver) (outcome : Outcome) (old new : DiskSeen)
    → (IsNone saver → IsUntouched outcome old new)
    → IfSome saver (λ s. IsSavedOrCounted outcome new.told)
    → IfSome saver (λ s. IsFoundNow (IsOfRun given) s old.told → Leaves (FindsIn (IsOfRun given)) old.told new.told)
    → IsMissedByFaults outcome old new → HasKept given saver outcome old new
threads_kept given saver outcome old new untouched saved found missed =
    record { untouched = untouched; saved = saved; found = found; missed = missed }

-- ---- nobody solved

pub nobody_solved : (by : Option CrewSeen) (given : BookState) (outcome : Outcome) (solvers : ℕ)
    → FitsCrew solvers by → AreAlive given → IsNothing outcome
    → solvers ≡ ranks_of given → HasSolved (unchanged by) given outcome.end
nobody_solved None given outcome solvers fits alive none ranks =
    subst (HasEnded given) (sym none.ended) (none_ended given)
nobody_solved (Some crew) given outcome solvers fits alive none ranks =
    let disk : DiskSeen = record { told = None; faults = 0 } in
    unsafely given crew.faults crew outcome.end (AreEachSaved None outcome disk) (IsKeptSafe None disk disk)
    (nothing_coordinated given crew None outcome disk (subst (IsFresh crew) ranks fits) alive none)

-- if the first image was acknowledged
pub saved_in_turn : (was now : Option CrewSeen) (given : BookState) (end : End) (h : has_solved was now given end)
    (saver : Saver) (outcome : Outcome) (new : DiskSeen) (begun : Option History)
    → IsAcknowledgedStart begun given saver
    → counts_saves was now given end h (AreEachSaved (Some saver) outcome new)
    → counts_saves was now given end h (AreSavedInTurn begun outcome new given)
saved_in_turn None None given end h saver outcome new begun first saves = tt
saved_in_turn None (Some now) given end h saver outcome new begun first saves = absurd h
saved_in_turn (Some was) None given end h saver outcome new begun first saves = absurd h
saved_in_turn (Some was) (Some now) given end h saver outcome new begun first saves =
    record { saver = saver; first = first; each = saves }

-- if nothing is asked of the saves
pub any_saves : (was now : Option CrewSeen) (given : BookState) (end : End) (h : has_solved was now given end)
    → counts_saves was now given end h (λ count. Unit {0})
any_saves None None given end h = tt
any_saves None (Some now) given end h = absurd h
any_saves (Some was) None given end h = absurd h
any_saves (Some was) (Some now) given end h = tt

pub still_there : (crew : Option CrewSeen) → IsStillThere crew crew
still_there None = tt
still_there (Some crew) = tt

-- ---- at each moment

kept_between : (was now : Option CrewSeen) (given : BookState) (end : End) (old new : DiskSeen) (Tried : ℕ → Type 0)
    (Safe : Type 0) → HasSolvedSafely (record { was = was; now = now }) given end Tried Safe
    → ((IsSoundBook given → Safe) → KeepsCovered old new) → keeps_by was now old new
kept_between None None given end old new Tried Safe done keeps = keeps (λ sound. done.safe tt sound)
kept_between None (Some now) given end old new Tried Safe done keeps = absurd done.solved
kept_between (Some was) None given end old new Tried Safe done keeps = absurd done.solved
kept_between (Some was) (Some now) given end old new Tried Safe done keeps = inr (record {
  given = given;
  end = end;
  solved = done.solved;
  kept = λ trusted. keeps (λ sound. done.safe trusted sound);
})

pub kept_by : (by : Crewed) (given : BookState) (end : End) (old new : DiskSeen) (Tried : ℕ → Type 0) (Safe : Type 0)
    → HasSolvedSafely by given end Tried Safe → ((IsSoundBook given → Safe) → KeepsCovered old new)
    → KeepsCoveredBy by old new
kept_by by given end old new Tried Safe done keeps =
    kept_between by.was by.now given end old new Tried Safe done keeps

kept_always : (was now : Option CrewSeen) (old new : DiskSeen) → KeepsCovered old new → keeps_by was now old new
kept_always None None old new keeps = keeps
kept_always None (Some now) old new keeps = keeps
kept_always (Some was) None old new keeps = keeps
kept_always (Some was) (Some now) old new keeps = inl keeps

pub kept_anyway : (by : Crewed) (old new : DiskSeen) → KeepsCovered old new → KeepsCoveredBy by old new
kept_anyway by old new keeps = kept_always by.was by.now old new keeps

-- ---- it is not stranded

-- if it ended without a book
pub nothing_live : (end : End) → end ≡ Memory → ¬ IsStranded end
nothing_live (Answered b) is stranded = stranded
nothing_live (Limited b) is stranded = stranded
nothing_live (Stranded b) is stranded = absurd (cc is)
nothing_live Memory is stranded = stranded

worked_told : (before after : ℕ) (told : Option (List Exchange)) (said : List Exchange)
    → IfSome told (λ own. own ≡ said) → IsSomeAnd told (IsCalmlyWorked before after)
    → IsCalmlyWorked before after said
worked_told before after None said shown seen = absurd seen
worked_told before after (Some own) said shown seen = subst (IsCalmlyWorked before after) shown seen

-- what the crew says is what went between
seen_calm : (was now : Option CrewSeen) (given : BookState) (end : End) (h : has_solved was now given end)
    → is_seen_calm was now → stays_calm was now given end h
seen_calm None None given end h seen = tt
seen_calm None (Some now) given end h seen = absurd h
seen_calm (Some was) None given end h seen = absurd h
seen_calm (Some was) (Some now) given end h seen =
    worked_told was.faults now.faults now.said h.now.said h.shown seen

pub run_live : (Began : BookState → Type 0) (Trusted : (b : BookState) → Began b → Type 0)
    (Saves : BookState → ℕ → Type 0) (by : Crewed)
    (p : Instance) (settings : Settings) (outcome : Outcome) → IsRun Began Trusted Saves by p settings outcome
    → IsSeenCalm by → ¬ IsStranded outcome.end
run_live Began Trusted Saves by p settings outcome ran seen =
    ran.live (seen_calm by.was by.now ran.given outcome.end ran.solved seen)

-- it is so just where that is due
crew_strands : (end : End) (b : BookState) → is_ended end b → IfBook end (IsExactly end)
    → IfBook end (λ own. IsStranded end ↔ over.IsStranded own)
crew_strands (Answered own) b is exact =
    ((λ stranded. absurd stranded), (λ due. absurd (cc (exact.stranded due))))
crew_strands (Limited own) b is exact =
    ((λ stranded. absurd stranded), (λ due. absurd (cc (exact.stranded due))))
crew_strands (Stranded own) b is exact =
    ((λ stranded. subst over.IsStranded (sym is.0) is.1), (λ due. tt))
crew_strands Memory b is exact = tt

threads_strand : (end : End) → ¬ IsStranded end → IfBook end (λ own. ¬ IsStranded end)
threads_strand (Answered own) not = not
threads_strand (Limited own) not = not
threads_strand (Stranded own) not = not
threads_strand Memory not = tt

pub strands_so : (was now : Option CrewSeen) (given : BookState) (end : End) (h : has_solved was now given end)
    → (stays_calm was now given end h → ¬ IsStranded end) → IfBook end (strands_just was end)
strands_so None None given end h live = threads_strand end (live tt)
strands_so None (Some now) given end h live = absurd h
strands_so (Some was) None given end h live = absurd h
strands_so (Some was) (Some now) given end h live = crew_strands end h.now.book h.ended h.exact

-- ---- if there is no crew

pub fits_none : (solvers : ℕ) (crew : Option CrewSeen) → IsNone crew → FitsCrew solvers crew
fits_none solvers None none = tt
fits_none solvers (Some crew) none = absurd (false≢true (sym none))

pub stays_none : (old new : Option CrewSeen) → IsNone old → IsStillThere old new → IsNone new
stays_none None None none still = refl
stays_none None (Some new) none still = absurd still
stays_none (Some old) new none still = absurd (false≢true (sym none))

pub new_by_none : (was now : Option CrewSeen) (p : Instance) (settings : Settings) (outcome : Outcome)
    → IsNone was → IsNone now → IsNewRun (record { was = was; now = now }) p settings outcome
    → IsNewRun (unchanged None) p settings outcome
new_by_none None None p settings outcome none still ran = ran
new_by_none None (Some now) p settings outcome none still ran = absurd (false≢true (sym still))
new_by_none (Some was) now p settings outcome none still ran = absurd (false≢true (sym none))

-- ---- what a plan needs

pub crew_fits : (mode : Mode) (solvers : ℕ) (crew : Option CrewSeen) → HasCrewFor (crew_of mode solvers) crew
    → FitsCrew solvers crew
crew_fits Threads solvers None has = tt
crew_fits Threads solvers (Some crew) has = absurd has
crew_fits Processes solvers None has = absurd has
crew_fits Processes solvers (Some crew) has = has

pub no_crew : (crew : Option CrewSeen) → HasCrewFor None crew → IsNone crew
no_crew None has = refl
no_crew (Some crew) has = absurd has
