-- What a decision keeps, also where memory ended it, and what is so after it.
use Rattle.std.specs.Prelude.{◌≡◌, ℕ, ℤ, ◌-◌, ◌^◌, ◌≤◌, ◌<ℤ◌, ◌⊎◌, true, [], All, Option, IfSome}
use Rattle.ug_problem.specs.Incumbents.{one_kept}
use Rattle.ug_problem.specs.Right.{Right}
use Rattle.ug_pool.specs.declared.entry.Entry.{Entry}
use Rattle.ug_rules.specs.State.{BookState, cutoff_of_best, held_nodes}
use Rattle.ug_rules.specs.Ranks.{ranks_that}
use Rattle.ug_ranks.specs.Looks.{is_idle}
use Rattle.ug_rules.specs.Books.{IsBook, IsSoundBook, Keeps}
use Rattle.ug_rules.specs.Deciding.{IsCollected, IsDecided, IsRaceEnded, Stands, announced, dropped}
use Rattle.ug_rules.specs.Deciding.{given, handouts, is_race_awaited}

-- part by part: nodes dropped, a cutoff announced, a race at its end
abbrev pub DroppedKeeps : Type 0
DroppedKeeps = (b : BookState) → Keeps b (dropped b)

abbrev pub AnnouncedKeeps : Type 0
AnnouncedKeeps = (b : BookState) → Keeps b (announced b)

abbrev pub RaceEndedKeeps : Type 0
RaceEndedKeeps = (old new : BookState) → IsBook old → IsRaceEnded old new → Keeps old new

-- the begin of a race, or some assignments
abbrev pub GivenKeeps : Type 0
GivenKeeps = (n : ℕ) (b : BookState) → IsBook b → n ≤ handouts b → Keeps b (given n b)

-- the nodes that the pool needs were asked for
abbrev pub CollectedKeeps : Type 0
CollectedKeeps = (old new : BookState) → IsCollected old new → Keeps old new

-- the whole decision, and a number of its steps
abbrev pub DecidedKeeps : Type 0
DecidedKeeps = (old new : BookState) → IsBook old → IsDecided old new → Keeps old new

abbrev pub StandsKeeps : Type 0
StandsKeeps = (steps : ℕ) (old new : BookState) → IsBook old → Stands steps old new → Keeps old new

-- the floor of the entry is below the cutoff, if there is one
abbrev pub IsBelowCutoff : Option ℤ → Entry → Type 0
IsBelowCutoff cutoff entry = IfSome cutoff (λ c. entry.floor <ℤ c)

-- no floor in the pool is at least the incumbent's cutoff
abbrev pub IsCutOff : BookState → Type 0
IsCutOff b = All (IsBelowCutoff (cutoff_of_best b)) b.pool

-- no rank is idle beside a pool that has nodes, unless a race is awaited, or no ticket number is
-- left
abbrev pub IsBusy : BookState → Type 0
IsBusy b = (ranks_that is_idle b.ranks ≡ []) ⊎ ((b.pool ≡ [])
    ⊎ ((is_race_awaited b ≡ true) ⊎ (2 ^ 64 - 1 ≤ b.last)))

pub record IsSettled (b : BookState) : Type 0 where
  pub cut_off : IsCutOff b
  pub busy : IsBusy b

-- so it is after a decision
abbrev pub DecidedIsSettled : Type 0
DecidedIsSettled = (old new : BookState) → IsDecided old new → IsSettled new

-- if nothing is held, a sound book's incumbent, or its absence, is a right answer
abbrev pub AnswerIsRight : Type 0
AnswerIsRight =
    (b : BookState) → held_nodes b ≡ [] → IsSoundBook b
    → Right b.problem b.settings.gap (one_kept b.best)
