-- The lines of a file.
use Rattle.std.specs.Prelude.{ℕ, ◌+◌, ◌==◌, ◌||◌, Bool, List, [], ◌∷◌, length, if◌then◌else◌}
use Rattle.std.specs.List.{onto_first}
use Rattle.std.specs.Str.{bytes_eq}

-- the bytes cut behind each line feed: the lines with their ends
abbrev pub pieces : List ℕ → List (List ℕ)
pieces [] = []
pieces (b ∷ bs) = if b == 10 then (b ∷ []) ∷ pieces bs else onto_first b (pieces bs)

-- a line feed, with or without a carriage return before it
abbrev pub is_line_end : List ℕ → Bool
is_line_end bs = bytes_eq bs (10 ∷ []) || bytes_eq bs (13 ∷ 10 ∷ [])

-- a piece without its end
abbrev pub content_of : List ℕ → List ℕ
content_of [] = []
content_of (b ∷ bs) = if is_line_end (b ∷ bs) then [] else b ∷ content_of bs

-- a line: its bytes, and the number of bytes of the file up to its end
pub record Line : Type 0 where
  pub content : List ℕ
  pub through : ℕ

-- the lines that the pieces are, where n bytes stand before them
abbrev pub lines_after : ℕ → List (List ℕ) → List Line
lines_after n [] = []
lines_after n (piece ∷ more) =
    record { content = content_of piece; through = n + length piece }
    ∷ lines_after (n + length piece) more

-- the lines of a file, in order
abbrev pub lines_of : List ℕ → List Line
lines_of text = lines_after 0 (pieces text)
