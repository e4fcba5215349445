-- What was done under an answer, before the death that may follow it.
use Rattle.std.specs.Prelude.{◌≡◌, ℕ, ℤ, ◌+◌, ◌<◌, ◌^◌, if◌then◌else◌, nat_lt}
use Rattle.std.specs.Prelude.{List, length, Option, Some, IfSome}
use Rattle.ug_problem.specs.Feasible.{Feasible}
use Rattle.ug_problem.specs.Better.{IsGap, IsSmallCutoff, best_cutoff}
use Rattle.ug_frames.specs.declared.report.Report.{Report}
use Rattle.ug_book.specs.declared.incumbent.Incumbent.{Incumbent}
use Rattle.ug_ranks.specs.States.{state_at}
use Rattle.ug_rules.specs.declared.heard.Heard.{Heard}
use Rattle.ug_rules.specs.declared.heard.Heard.TheVariants.{Kept, Memory}
use Rattle.ug_rules.specs.State.{BookState}
use Rattle.ug_rules.specs.Books.{KeepsItsFloor}
use Rattle.ug_rules.specs.Hearing.{IsDue, taken_up}
use Rattle.ug_stock.specs.declared.run.Run.{Run}
use Rattle.ug_stock.specs.declared.frontier.Frontier.{Frontier}
use Rattle.ug_stock.specs.Runs.{KnowsFloor}
use Rattle.ug_stock.specs.Frontiers.{HasRoom, with_frontier}

-- the book with this incumbent and this stock
abbrev pub with_held : BookState → Option (List ℤ) → Frontier → BookState
with_held b best frontier = record (with_frontier b frontier) { best = best }

-- a report of the rank can be received: the rank is one of the run's, and has its floor, the root's
-- floor is known, and there is room for each end
pub record CanHear (run : Run) (rank : ℕ) (frontier : Frontier) : Type 0 where
  pub there : rank < length frontier.ranks
  pub kept : KeepsItsFloor run.problem (state_at frontier.ranks rank)
  pub floor : KnowsFloor run
  pub room : HasRoom frontier

-- the incumbent can be compared with: it is feasible, the gap is one, and the cutoff is its own
pub record CanCompare (run : Run) (incumbent : Incumbent) : Type 0 where
  pub feasible : IfSome incumbent.best (Feasible run.problem)
  pub gap : IsGap run.settings.gap
  pub cutoff : incumbent.cutoff ≡ best_cutoff run.problem run.settings.gap incumbent.best
  pub small : IsSmallCutoff incumbent.cutoff

-- the book is of this run
pub record IsOfRun (b : BookState) (run : Run) : Type 0 where
  pub problem : b.problem ≡ run.problem
  pub settings : b.settings ≡ run.settings

-- the number of reports received, after one more, up to the end of the count
abbrev pub one_more : ℕ → ℕ
one_more heard = (if nat_lt (heard + 1) (2 ^ 64) then heard + 1 else heard)

-- and how many after this answer to one more: a hand for which there is no memory does not count
abbrev pub heard_after : Heard → ℕ → ℕ
heard_after Memory heard = heard
heard_after answer heard = one_more heard

-- the incumbent after the answer to a point
abbrev pub best_under : Heard → List ℤ → Option (List ℤ) → Option (List ℤ)
best_under Kept x best = Some x
best_under answer x best = best

-- the report got the answer that is due, and was taken up if it was kept
pub record IsAnswered (r : ℕ) (report : Report) (answer : Heard) (old new : BookState)
    : Type 0 where
  pub due : IsDue old r report answer
  pub taken : new ≡ taken_up answer r report old
