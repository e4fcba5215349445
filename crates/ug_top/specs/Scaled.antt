-- The gap in units of the scaled objective.
use Rattle.std.specs.Prelude.{ℕ, ℤ, pos, ◌*◌, ◌^◌, min}

-- multiplied by ten to the objective's scale, up to the most by which two values differ
abbrev pub scaled_gap : ℕ → ℕ → ℤ
scaled_gap gap scale = pos (min (gap * 10 ^ scale) (4 * 10 ^ 37))
