-- What a solve promises.
use Rattle.std.specs.Prelude.{◌≡◌, ◌≤◌, [], IsSomeAnd}
use Rattle.ug_rules.specs.State.{BookState, held_nodes}
use Rattle.ug_rules.specs.Books.{IsSoundBook}
use Rattle.ug_restart.specs.declared.outcome.End.{End}
use Rattle.ug_restart.specs.declared.outcome.Outcome.{Outcome}
use Rattle.ug_restart.specs.Going.{IsAttempted, Time}
use Rattle.ug_restart.specs.Saves.{IsOfBook, missed_of, opening_of, unsaved_of}
use Rattle.ug_restart.specs.Outcomes.{IfBook}
use Rattle.ug_restart.specs.Outcomes.{HasFeasible, IfAnswered, IfLimited, IsLimited, IsRight}
use Rattle.ug_threads.specs.Ends.{IsReplayOf}
use Rattle.ug_restart.specs.Outcomes.{IsStranded}

-- how it ended, by its book
pub record HasEnded (given : BookState) (end : End) : Type 0 where
  pub replayed : IfBook end (IsReplayOf given)
  pub feasible : IfBook end HasFeasible
  pub sound : IsSoundBook given → IfBook end IsSoundBook
  pub answered : IfAnswered end (λ b. held_nodes b ≡ [])
  pub right : IsSoundBook given → IfAnswered end IsRight
  pub limited : IfLimited end IsLimited
  pub stranded : IsStranded end → ⊥

-- If the run ended with a book, that was saved after all snapshots, and the outcome says what
-- became of this save. It counts each save for which memory ran out.
pub record IsSavedLast (before : Time) (outcome : Outcome) (after : Time) : Type 0 where
  pub then : Time
  pub opening : opening_of then.saves ≡ opening_of before.saves
  pub missed : missed_of before.saves ≤ missed_of then.saves
  pub became : IfBook outcome.end (λ b. IsSomeAnd outcome.last
      (λ attempt. IsAttempted (IsOfBook b) attempt then after))
  pub unsaved : outcome.unsaved ≡ unsaved_of after.saves
