-- What the code's pairs with numbers are, without where their names lie in memory.
use Rattle.std.specs.Prelude.{◌≤◌, List, [], ◌∷◌, length, Option, Some, None}
use Rattle.ug_lines.specs.Shapes.{WordPair}
use Rattle.ug_mps.specs.declared.pairs.NamedNumber.{NamedNumber}
use Rattle.ug_mps.specs.declared.pairs.NamedNumbers.{NamedNumbers}
use Rattle.ug_mps.specs.Entries.{Pair}

-- a pair
abbrev pub pair_said : NamedNumber → Pair
pair_said p = record { row = p.row.now; number = p.number }

-- the pair, if there is one
abbrev pub second_said : Option NamedNumber → List Pair
second_said None = []
second_said (Some p) = pair_said p ∷ []

-- one or two pairs
abbrev pub pairs_said : NamedNumbers → List Pair
pairs_said p = pair_said p.first ∷ second_said p.second

-- the words of the numbers have at most 255 bytes
abbrev pub AreShortNumbers : List WordPair → Type 0
AreShortNumbers [] = Unit {0}
AreShortNumbers (p ∷ pairs) = (length p.number ≤ 255) × AreShortNumbers pairs
