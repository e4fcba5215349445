-- Orders that wait, and how many more may be queued without memory.
use Rattle.std.specs.Prelude.{◌≡◌, ℕ, ◌+◌, List, [], ◌∷◌, ◌++◌}
use Rattle.ug_rules.specs.declared.told.Told.{Told}

-- the orders, the earliest first, and the spare places
pub record Queued : Type 0 where
  pub orders : List Told
  pub spare : ℕ

-- the order was queued behind the others, in a spare place
pub record IsPushed (told : Told) (old new : Queued) : Type 0 where
  pub orders : new.orders ≡ old.orders ++ told ∷ []
  pub spare : new.spare + 1 ≡ old.spare

-- the earliest order left, and its place is spare
pub record IsTold (old new : Queued) (told : Told) : Type 0 where
  pub first : old.orders ≡ told ∷ new.orders
  pub spare : new.spare ≡ old.spare + 1
