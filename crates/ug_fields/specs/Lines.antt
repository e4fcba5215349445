-- A line of what is to come.
use Rattle.std.specs.Prelude.{◌≡◌, ℕ, List, [], ◌++◌}

-- The line is the front of what is to come, and this comes after it; it is empty at the end alone.
pub record IsNextLine (rest line after : List ℕ) : Type 0 where
  pub parts : rest ≡ line ++ after
  pub last : line ≡ [] → after ≡ []
