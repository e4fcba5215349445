-- Lists of entries: whose they are, what a turn adds, and which of two goes further.
use Rattle.std.specs.Prelude.{ℕ, ◌==◌, List, [], ◌∷◌, ◌++◌, Option, Some, None}
use Rattle.std.specs.Prelude.{filter, drop, length}

-- the entries of pass p, in their order
abbrev pub calls_by : {E : Type 0} → (E → ℕ) → ℕ → List E → List E
calls_by by p log = filter (λ e. by e == p) log

-- what a turn adds: an entry, or nothing
abbrev pub told : {E : Type 0} → Option E → List E
told None = []
told (Some e) = e ∷ []

-- the first list, and what the second has beyond its length
abbrev pub longer : {E : Type 0} → List E → List E → List E
longer xs ys = xs ++ drop (length xs) ys
