-- Lines, and the words in them.
use Rattle.std.specs.Prelude.{ℕ, List, [], ◌∷◌, ◌++◌, codes}

-- a line with its end
abbrev pub line : List ℕ → List ℕ
line text = text ++ 10 ∷ []

-- a word that is not the first of its line: a blank, and the word
abbrev pub further : List ℕ → List ℕ
further word = 32 ∷ word

-- the line of a name and what it names
abbrev pub named_line : List ℕ → List ℕ → List ℕ
named_line name value = line (name ++ further value)

-- the line where the source failed
abbrev pub read_fault_line : List ℕ
read_fault_line = line (codes "read fault")

-- the line where memory was refused
abbrev pub memory_line : List ℕ
memory_line = line (codes "memory")
