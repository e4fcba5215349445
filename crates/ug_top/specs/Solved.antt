-- How solvers led from the book with which a run began to its end, and what is trusted of them.
use Rattle.std.specs.Prelude.{◌⊎◌, ◌↔◌, ℕ, List, Option, None, Some, IfSome, IsSomeAnd}
use Rattle.ug_io.specs.declared.crew.Exchange.{Exchange}
use Rattle.ug_io.specs.Crews.{CrewSeen}
use Rattle.ug_io.specs.Outside.{IsCalm}
use Rattle.ug_disk.specs.Histories.{DiskSeen}
use Rattle.ug_rules.specs.State.{BookState}
use Rattle.ug_rules.specs.Books.{IsSoundBook}
use Rattle.ug_restart.specs.declared.outcome.End.{End}
use Rattle.ug_restart.specs.Moments.{AllCovered}
use Rattle.ug_restart.specs.Openings.{CoversWhatIsFound}
use Rattle.ug_restart.specs.Outcomes.{IsStranded}
use Rattle.ug_serve.specs.Worked.{AreAlwaysWorked}
use Rattle.ug_threads.specs.Outcomes.{HasEnded}
use Rattle.ug_coord.specs.Actions.{saves_in}
use Rattle.ug_coord.specs.Ends as ends
use Rattle.ug_coord.specs.Coordinators.{HasCoordinated, IsFresh}
use Rattle.ug_laws.specs.Coordinators.{IsHonestFrom}
use Rattle.ug_top.specs.Outside.{seen_if}

-- the observations of the crew, if there is one, before and after
pub record Crewed : Type 0 where
  pub was : Option CrewSeen
  pub now : Option CrewSeen

-- it is there as before
abbrev pub unchanged : Option CrewSeen → Crewed
unchanged crew = record { was = crew; now = crew }

-- the observations of a crew that may be there, at two times
abbrev pub crewed : {C : Type 0} → (C → CrewSeen) → Option C → Option C → Crewed
crewed seen old new = record { was = seen_if seen old; now = seen_if seen new }

-- Threads at a desk led there, where there is no crew, or else a coordinator at the crew, which had
-- failed as often before as was seen of it then. If there was a crew there is one, and no other.
abbrev pub has_solved : Option CrewSeen → Option CrewSeen → BookState → End → Type 0
has_solved None None given end = HasEnded given end
has_solved None (Some now) given end = ⊥
has_solved (Some was) None given end = ⊥
has_solved (Some was) (Some now) given end =
    HasCoordinated given was.faults now end (λ count. Unit {0}) (Unit {0})

abbrev pub HasSolved : Crewed → BookState → End → Type 0
HasSolved by given end = has_solved by.was by.now given end

-- A run that ended with this book is stranded just where a crew solved, a node is held, fewer
-- reports were received than may be, and no rank is alive.
abbrev pub strands_just : Option CrewSeen → End → BookState → Type 0
strands_just None end b = ¬ IsStranded end
strands_just (Some crew) end b = IsStranded end ↔ ends.IsStranded b

abbrev pub StrandsJustWhere : Crewed → End → BookState → Type 0
StrandsJustWhere by end b = strands_just by.was end b

-- the condition on the number of saves holds of those among a crew's actions; there is none on
-- threads
abbrev pub counts_saves : (was now : Option CrewSeen) (given : BookState) (end : End)
    → has_solved was now given end → (ℕ → Type 0) → Type 0
counts_saves None None given end solved Tried = Unit {0}
counts_saves None (Some now) given end solved Tried = ⊥
counts_saves (Some was) None given end solved Tried = ⊥
counts_saves (Some was) (Some now) given end solved Tried = Tried (saves_in solved.come.actions)

abbrev pub CountsSaves : (by : Crewed) (given : BookState) (end : End) → HasSolved by given end
    → (ℕ → Type 0) → Type 0
CountsSaves by given end solved Tried = counts_saves by.was by.now given end solved Tried

-- threads need no trust; a crew is trusted if the reports received from it are honest
abbrev pub is_trusted : (was now : Option CrewSeen) (given : BookState) (end : End)
    → has_solved was now given end → Type 0
is_trusted None None given end solved = Unit {0}
is_trusted None (Some now) given end solved = ⊥
is_trusted (Some was) None given end solved = ⊥
is_trusted (Some was) (Some now) given end solved =
    IsHonestFrom given was.faults solved.now solved.come

abbrev pub IsTrusted : (by : Crewed) (given : BookState) (end : End) → HasSolved by given end
    → Type 0
IsTrusted by given end solved = is_trusted by.was by.now given end solved

-- no call of the crew failed, as its count of faults shows, and at each moment what was received
-- from each rank was what a worker reports
pub record IsCalmlyWorked (before after : ℕ) (said : List Exchange) : Type 0 where
  pub calm : IsCalm before after
  pub worked : AreAlwaysWorked said

-- there is no condition on threads; a crew stayed calm, and was worked in its actions
abbrev pub stays_calm : (was now : Option CrewSeen) (given : BookState) (end : End)
    → has_solved was now given end → Type 0
stays_calm None None given end solved = Unit {0}
stays_calm None (Some now) given end solved = ⊥
stays_calm (Some was) None given end solved = ⊥
stays_calm (Some was) (Some now) given end solved =
    IsCalmlyWorked was.faults now.faults solved.now.said

abbrev pub StaysCalm : (by : Crewed) (given : BookState) (end : End) → HasSolved by given end
    → Type 0
StaysCalm by given end solved = stays_calm by.was by.now given end solved

-- the same of what the crew itself reports, so that one that reports nothing is not taken for
-- worked
abbrev pub is_seen_calm : Option CrewSeen → Option CrewSeen → Type 0
is_seen_calm None None = Unit {0}
is_seen_calm None (Some now) = ⊥
is_seen_calm (Some was) None = ⊥
is_seen_calm (Some was) (Some now) = IsSomeAnd now.said (IsCalmlyWorked was.faults now.faults)

abbrev pub IsSeenCalm : Crewed → Type 0
IsSeenCalm by = is_seen_calm by.was by.now

-- Solvers led there, with this many saves. If they can be trusted, and the run began soundly, it
-- was safe. If they stayed calm and were worked, the run is not stranded.
pub record HasSolvedSafely (by : Crewed) (given : BookState) (end : End) (Tried : ℕ → Type 0)
    (Safe : Type 0) : Type 0 where
  pub solved : HasSolved by given end
  pub saves : CountsSaves by given end solved Tried
  pub safe : IsTrusted by given end solved → IsSoundBook given → Safe
  pub live : StaysCalm by given end solved → ¬ IsStranded end

-- the crew is one for this many solvers, none of which lives yet, where there is one
abbrev pub FitsCrew : ℕ → Option CrewSeen → Type 0
FitsCrew solvers crew = IfSome crew (λ seen. IsFresh seen solvers)

-- if there was a crew there is one, and no other
abbrev pub IsStillThere : Option CrewSeen → Option CrewSeen → Type 0
IsStillThere None None = Unit {0}
IsStillThere None (Some new) = ⊥
IsStillThere (Some old) None = ⊥
IsStillThere (Some old) (Some new) = Unit {0}

-- if all that recovery could find was Covered, it is so at each moment
abbrev pub KeepsCovered : DiskSeen → DiskSeen → Type 0
KeepsCovered old new = CoversWhatIsFound old.told → AllCovered old.told new.told

-- it is so where the crew was honest
pub record KeepsIfHonest (was now : CrewSeen) (old new : DiskSeen) : Type 0 where
  pub given : BookState
  pub end : End
  pub solved : has_solved (Some was) (Some now) given end
  pub kept : is_trusted (Some was) (Some now) given end solved → KeepsCovered old new

-- it is so of a run by threads, and of one by a crew, if that was honest as far as it got
abbrev pub keeps_by : Option CrewSeen → Option CrewSeen → DiskSeen → DiskSeen → Type 0
keeps_by None None old new = KeepsCovered old new
keeps_by None (Some now) old new = KeepsCovered old new
keeps_by (Some was) None old new = KeepsCovered old new
keeps_by (Some was) (Some now) old new = KeepsCovered old new ⊎ KeepsIfHonest was now old new

abbrev pub KeepsCoveredBy : Crewed → DiskSeen → DiskSeen → Type 0
KeepsCoveredBy by old new = keeps_by by.was by.now old new
