-- When the work ends, and how.
use Rattle.std.specs.Prelude.{◌≡◌, ◌≢◌, ◌⊎◌, ℕ, ◌<◌, ◌≤◌, false, [], length}
use Rattle.ug_ranks.specs.States.{state_at}
use Rattle.ug_ranks.specs.Looks.{is_alive}
use Rattle.ug_rules.specs.State.{BookState, held_nodes}
use Rattle.ug_restart.specs.Outcomes.{IsLimited}
use Rattle.ug_restart.specs.declared.outcome.End.{End}
use Rattle.ug_restart.specs.declared.outcome.End.TheVariants.{Answered, Limited, Stranded, Memory}

-- how many ranks a book has
abbrev pub ranks_of : BookState → ℕ
ranks_of b = length b.ranks

-- no rank is alive
abbrev pub AllDead : BookState → Type 0
AllDead b = (rank : ℕ) → rank < ranks_of b → is_alive (state_at b.ranks rank) ≡ false

-- no node is held
abbrev pub IsAnswered : BookState → Type 0
IsAnswered b = held_nodes b ≡ []

-- a node is held, the limit of reports is not reached, and no rank is alive
pub record IsStranded (b : BookState) : Type 0 where
  pub held : held_nodes b ≢ []
  pub more : b.heard < b.settings.limit
  pub dead : AllDead b

-- an end is due: no node is held, the limit of reports is reached, or no rank is alive
abbrev pub IsOver : BookState → Type 0
IsOver b = IsAnswered b ⊎ ((b.settings.limit ≤ b.heard) ⊎ AllDead b)

-- the limit of reports is reached exactly
abbrev pub IsAtLimit : BookState → Type 0
IsAtLimit b = b.heard ≡ b.settings.limit

-- why a run ended, with this book
abbrev pub is_ended : End → BookState → Type 0
is_ended (Answered book) b = (book ≡ b) × IsAnswered b
is_ended (Limited book) b = (book ≡ b) × IsLimited b
is_ended (Stranded book) b = (book ≡ b) × IsStranded b
is_ended Memory b = Unit {0}

-- a run that ended with this book ended so just where that is due for the book
pub record IsExactly (end : End) (b : BookState) : Type 0 where
  pub answered : IsAnswered b → end ≡ Answered b
  pub limited : IsLimited b → end ≡ Limited b
  pub stranded : IsStranded b → end ≡ Stranded b
