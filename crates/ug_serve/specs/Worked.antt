-- What went between a coordinator and workers at links, each a rank.
use Rattle.std.specs.Prelude.{◌≡◌, ◌⊎◌, ◌==◌, ℕ, Bool, true, false, List, [], ◌∷◌, ◌++◌}
use Rattle.ug_io.specs.declared.crew.Exchange.{Exchange}
use Rattle.ug_io.specs.declared.crew.Exchange.TheVariants.{Heard, Told, Gone}
use Rattle.ug_io.specs.declared.link.Said.{Said}
use Rattle.ug_serve.specs.LinkBytes.{heard_in, told_in}
use Rattle.ug_serve.specs.Traces.{Reaches, ServerState}
use Rattle.ug_serve.specs.Serving.{IsPartTold}

-- one byte more, where it is so
abbrev pub with : Bool → ℕ → List ℕ → List ℕ
with true byte bytes = byte ∷ bytes
with false byte bytes = bytes

-- the bytes that were received from the rank, in order
abbrev pub heard_at : ℕ → List Exchange → List ℕ
heard_at rank [] = []
heard_at rank (Heard other byte ∷ said) = with (other == rank) byte (heard_at rank said)
heard_at rank (Told other byte ∷ said) = heard_at rank said
heard_at rank (Gone other ∷ said) = heard_at rank said

-- the bytes that were sent to it, in order
abbrev pub told_at : ℕ → List Exchange → List ℕ
told_at rank [] = []
told_at rank (Heard other byte ∷ said) = told_at rank said
told_at rank (Told other byte ∷ said) = with (other == rank) byte (told_at rank said)
told_at rank (Gone other ∷ said) = told_at rank said

-- A worker's actions led from the beginning to a state. What its link shows is that, or a part of
-- the frame of a report more that was due. A prefix of the bytes that were sent to the rank is what
-- the worker received, and a prefix of what it sent is what was received from the rank.
pub record IsWorked (said : List Exchange) (rank : ℕ) : Type 0 where
  pub now : ServerState
  pub come : Reaches now
  pub shown : List Said
  pub shows : (shown ≡ now.said) ⊎ IsPartTold now shown
  pub ahead : List ℕ
  pub told : told_at rank said ≡ heard_in shown ++ ahead
  pub behind : List ℕ
  pub heard : told_in shown ≡ heard_at rank said ++ behind

-- so it is of each rank
abbrev pub AreWorked : List Exchange → Type 0
AreWorked said = (rank : ℕ) → IsWorked said rank

-- and was so at each moment
abbrev pub AreAlwaysWorked : List Exchange → Type 0
AreAlwaysWorked said = (front rest : List Exchange) → said ≡ front ++ rest → AreWorked front
