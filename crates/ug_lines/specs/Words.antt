-- Words.
use Rattle.std.specs.Prelude.{◌≡◌, ℕ, ◌==◌, ◌||◌, ◌&&◌, not, Bool, false, List, [], ◌∷◌, length}
use Rattle.std.specs.Prelude.{filter, nat_le}
use Rattle.std.specs.List.{slice_split, list_all}

-- space and tab
abbrev pub is_blank : ℕ → Bool
is_blank b = (b == 32) || (b == 9)

-- a byte that a word may hold
abbrev pub is_word_byte : ℕ → Bool
is_word_byte b = (nat_le 33 b && nat_le b 126) || nat_le 128 b

-- a byte that is allowed in a line: a blank, or one that is allowed in a word
abbrev pub is_line_byte : ℕ → Bool
is_line_byte b = is_blank b || is_word_byte b

-- each byte of the line is allowed
abbrev pub is_legible : List ℕ → Bool
is_legible line = list_all is_line_byte line

-- the words of a line: its parts between blanks that are not empty
abbrev pub words_of : List ℕ → List (List ℕ)
words_of line = filter (λ word. not (length word == 0)) (slice_split is_blank line)

-- the bytes are empty, or the first one is not a blank
abbrev pub BeginsWord : List ℕ → Type 0
BeginsWord [] = Unit {0}
BeginsWord (b ∷ bs) = is_blank b ≡ false

-- no word is above 255 bytes
abbrev pub are_short : List (List ℕ) → Bool
are_short words = list_all (λ word. nat_le (length word) 255) words

-- the line begins with a blank, so it is a data line and no header
abbrev pub is_data : List ℕ → Bool
is_data [] = false
is_data (b ∷ bs) = is_blank b

-- the line begins with an asterisk, so it is a comment
abbrev pub is_comment : List ℕ → Bool
is_comment [] = false
is_comment (b ∷ bs) = b == 42
