-- What the code's lines are, without where their words lie in memory.
use Rattle.std.specs.Prelude.{ℕ, List, [], ◌∷◌, Option, Some, None}
use Rattle.std.specs.Borrow.{Bor}
use Rattle.std.specs.Option.{option_map}
use Rattle.ug_lines.specs.declared.shape.NamedWord.{NamedWord}
use Rattle.ug_lines.specs.declared.shape.NamedWords.{NamedWords}
use Rattle.ug_lines.specs.declared.shape.LineShape.{LineShape}
use Rattle.ug_lines.specs.declared.shape.LineShape.TheVariants.{Sense, Row, Marker, Column, Sides}
use Rattle.ug_lines.specs.declared.shape.LineShape.TheVariants.{Bound, Either}
use Rattle.ug_lines.specs.Shapes.{WordPair, Shape, pair, sense, row, marker, column, sides, bound}
use Rattle.ug_lines.specs.Shapes.{either}

-- a word, if there is one
abbrev pub word_of : Option (Bor (List ℕ)) → Option (List ℕ)
word_of word = option_map (λ w. w.now) word

-- a pair
abbrev pub pair_shaped : NamedWord → WordPair
pair_shaped p = pair p.row.now p.number.now

-- the pair, if there is one
abbrev pub second_shaped : Option NamedWord → List WordPair
second_shaped None = []
second_shaped (Some p) = pair_shaped p ∷ []

-- one or two pairs
abbrev pub pairs_shaped : NamedWords → List WordPair
pairs_shaped p = pair_shaped p.first ∷ second_shaped p.second

-- what a line is
abbrev pub shape_shaped : LineShape → Shape
shape_shaped (Sense word) = sense word.now
shape_shaped (Row type name) = row type.now name.now
shape_shaped (Marker word) = marker word.now
shape_shaped (Column name pairs) = column name.now (pairs_shaped pairs)
shape_shaped (Sides set pairs) = sides (word_of set) (pairs_shaped pairs)
shape_shaped (Bound kind set name number) = bound kind (word_of set) name.now (word_of number)
shape_shaped (Either kind first second) = either kind first.now second.now
