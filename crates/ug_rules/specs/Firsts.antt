-- The first of the elements of a list that can be picked.
use Rattle.std.specs.Prelude.{List, All, Contains}

-- the other is not ahead of x, if it can be picked
abbrev pub IsNotAhead : {X : Type 0} → (X → Type 0) → (X → X → Type 0) → X → X → Type 0
IsNotAhead Can Ahead x other = Can other → Ahead other x → ⊥

-- x is one of the elements and can be picked, and no other that can is ahead of it
pub record IsFirstBy {X : Type 0} (Can : X → Type 0) (Ahead : X → X → Type 0) (xs : List X)
    (x : X) : Type 0 where
  pub among : Contains xs x
  pub can : Can x
  pub none_ahead : All (IsNotAhead Can Ahead x) xs
