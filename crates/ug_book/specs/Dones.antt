-- What a Done is judged by.
use Rattle.std.specs.Prelude.{ℤ, Bool, false, int_le, Option, Some, None}

-- whether there is an incumbent, and its cutoff is at most this one
abbrev pub is_backed : ℤ → Option ℤ → Bool
is_backed cutoff None = false
is_backed cutoff (Some least) = int_le least cutoff
