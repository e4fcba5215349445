-- A length that is counted in 64 bits.
use Rattle.std.specs.Prelude.{ℕ, ◌-◌, ◌^◌, min}

-- the length, or 2^64 - 1 where it is greater
abbrev pub capped : ℕ → ℕ
capped n = min n (2 ^ 64 - 1)
