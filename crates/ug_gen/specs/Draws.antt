-- The numbers that an instance is made of.
use Rattle.std.specs.Prelude.{ℕ, zero, suc, ◌+◌, ◌*◌, ◌%◌, List, map}
use Rattle.std.specs.List.{range_with_len}

-- number i of the sequence that begins with a seed
unfoldable pub number : ℕ → ℕ → ℕ
number seed zero = seed
number seed (suc i) = (16807 * number seed i) % 2147483647

-- draw i, counted from 0: the seed itself is never drawn
abbrev pub draw : ℕ → ℕ → ℕ
draw seed i = number seed (i + 1)

-- what a rule gives for 0, 1 and so on, for n numbers in all
abbrev pub each : {X : Type 0} → (ℕ → X) → ℕ → List X
each rule n = map rule (range_with_len 0 n)

-- some first draws of a seed
pub record Drawn : Type 0 where
  pub seed : ℕ
  pub count : ℕ
