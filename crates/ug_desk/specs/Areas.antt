-- How a box is compared with the changes that may make it, column by column.
use Rattle.std.specs.Prelude.{◌≡◌, ◌≢◌, ℕ, ◌<◌, ◌≤◌, List, length}
use Rattle.ug_nodes.specs.declared.change.Change.{Change}
use Rattle.ug_nodes.specs.Changes.{change_at}

-- the first n changes, and no others, are of columns before j
pub record AreBefore (changes : List Change) (j n : ℕ) : Type 0 where
  pub some : n ≤ length changes
  pub before : (k : ℕ) → k < n → (change_at changes k).column < j
  pub after : (k : ℕ) → n ≤ k → k < length changes → j ≤ (change_at changes k).column

-- the change behind n others is there, and of column j
pub record IsNext (changes : List Change) (n j : ℕ) : Type 0 where
  pub some : n < length changes
  pub its : (change_at changes n).column ≡ j

-- it is not there, or of another column
abbrev pub IsNotNext : List Change → ℕ → ℕ → Type 0
IsNotNext changes n j = n < length changes → (change_at changes n).column ≢ j
