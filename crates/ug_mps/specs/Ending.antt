-- How far a file must be read: its ENDATA line, what follows the word on that line, and what the
-- bytes so far show.
use Rattle.std.specs.Prelude.{◌≡◌, ℕ, ◌+◌, ◌<◌, ◌≤◌, ◌==◌, ◌⊎◌, ◌||◌, ◌&&◌, Bool, true, false, List}
use Rattle.std.specs.Prelude.{[], ◌∷◌, ◌++◌, length, take, drop, if◌then◌else◌}
use Rattle.ug_lines.specs.Kinds.{end_word}
use Rattle.ug_lines.specs.Lines.{Line, content_of, lines_of}
use Rattle.ug_lines.specs.Words.{is_blank, is_line_byte, is_legible}
use Rattle.ug_mps.specs.declared.ending.Head.{Head}
use Rattle.ug_mps.specs.declared.ending.Head.TheVariants as heads
use Rattle.ug_mps.specs.declared.ending.Tail.{Tail}
use Rattle.ug_mps.specs.declared.ending.Tail.TheVariants as tails
use Rattle.ug_mps.specs.declared.ending.Seen.{Seen}
use Rattle.ug_mps.specs.declared.ending.Seen.TheVariants as seens
use Rattle.ug_mps.specs.Faults.{is_word_end, is_end_line}
use Rattle.ug_mps.specs.Laws.{StatesSame}

-- ---- line feeds

-- the test is true of none of the bytes
abbrev pub NoneOf : (ℕ → Bool) → List ℕ → Type 0
NoneOf test [] = Unit {0}
NoneOf test (b ∷ bs) = (test b ≡ false) × NoneOf test bs

-- these bytes have no line feed
abbrev pub HasNoFeed : List ℕ → Type 0
HasNoFeed bytes = NoneOf (λ b. b == 10) bytes

-- these bytes are whole lines
abbrev pub AreLines : List ℕ → Type 0
AreLines bytes = (bytes ≡ []) ⊎ ((front : List ℕ) × (bytes ≡ front ++ 10 ∷ []))

-- ---- the first line of bytes

-- the bytes up to and with the first line feed
abbrev pub first_piece : List ℕ → List ℕ
first_piece [] = []
first_piece (b ∷ bs) = if b == 10 then b ∷ [] else b ∷ first_piece bs

-- the first line
abbrev pub first_line : List ℕ → List ℕ
first_line bytes = content_of (first_piece bytes)

-- each byte of the first line is allowed
abbrev pub begins_legibly : List ℕ → Bool
begins_legibly bytes = is_legible (first_line bytes)

-- ---- the line ENDATA, by the bytes with which it begins

-- a line feed stands first
abbrev pub is_feed_first : List ℕ → Bool
is_feed_first [] = false
is_feed_first (b ∷ bs) = b == 10

-- a word ends here, whatever follows: at a blank, a line feed, or a carriage return and a line feed
abbrev pub ends_word : List ℕ → Bool
ends_word [] = false
ends_word (b ∷ bs) = is_blank b || ((b == 10) || ((b == 13) && is_feed_first bs))

-- the line begins with the word ENDATA, whatever follows
abbrev pub BeginsEnd : List ℕ → Type 0
BeginsEnd line = (rest : List ℕ) × (line ≡ end_word ++ rest) × (ends_word rest ≡ true)

-- what a line's first bytes show: it is ENDATA, or is not, whatever follows; else they are a front
-- of ENDATA and a carriage return
abbrev pub IsHead : List ℕ → Head → Type 0
IsHead line heads.Ends = BeginsEnd line
IsHead line heads.Other = (more : List ℕ) → is_end_line (first_line (line ++ more)) ≡ false
IsHead line heads.Open = (more : List ℕ) × (end_word ++ 13 ∷ [] ≡ line ++ more)

-- what the bytes behind ENDATA show in the same way
abbrev pub IsBehind : List ℕ → Head → Type 0
IsBehind rest heads.Ends = ends_word rest ≡ true
IsBehind rest heads.Other = (more : List ℕ) → is_word_end (first_line (rest ++ more)) ≡ false
IsBehind rest heads.Open = (more : List ℕ) × (13 ∷ [] ≡ rest ++ more)

-- ---- the rest of the line ENDATA

-- the bytes, behind a carriage return or not
abbrev pub after_if : Bool → List ℕ → List ℕ
after_if true bytes = 13 ∷ bytes
after_if false bytes = bytes

-- the first byte, if there is one, is not allowed in a line
abbrev pub StopsFirst : List ℕ → Type 0
StopsFirst [] = Unit {0}
StopsFirst (b ∷ bs) = is_line_byte b ≡ false

-- the line is legible, by what was seen of it and the bytes that follow
abbrev pub legible_by : Tail → List ℕ → Bool
legible_by (tails.Open after_return) bytes = begins_legibly (after_if after_return bytes)
legible_by tails.Legible bytes = true
legible_by tails.Bad bytes = false

-- the line has no end in these bytes, if more are needed
abbrev pub IsUnended : Tail → List ℕ → Type 0
IsUnended (tails.Open after_return) bytes = HasNoFeed bytes
IsUnended tails.Legible bytes = Unit {0}
IsUnended tails.Bad bytes = Unit {0}

-- the bytes that represent the rest of the ENDATA line: none, or a blank and a byte that is not
-- allowed there
abbrev pub mark : Bool → List ℕ
mark true = []
mark false = 32 ∷ 0 ∷ []

-- ---- the beginning of the last line

-- none of these lines is ENDATA
abbrev pub AreOthers : List Line → Type 0
AreOthers [] = Unit {0}
AreOthers (line ∷ lines) = (is_end_line line.content ≡ false) × AreOthers lines

-- no ended line of the bytes is ENDATA
pub record HasNoEnd (bytes : List ℕ) : Type 0 where
  pub front : List ℕ
  pub open_ : List ℕ
  pub parts : bytes ≡ front ++ open_
  pub whole : AreLines front
  pub others : AreOthers (lines_of front)
  pub no_feed : HasNoFeed open_

-- a line begins at `line`, within the limit, no line before it is ENDATA, and no line feed follows
-- before `from`
pub record IsLineAt (bytes : List ℕ) (line from : ℕ) : Type 0 where
  pub front : List ℕ
  pub open_ : List ℕ
  pub rest : List ℕ
  pub parts : bytes ≡ front ++ (open_ ++ rest)
  pub whole : AreLines front
  pub others : AreOthers (lines_of front)
  pub no_feed : HasNoFeed open_
  pub begins : length front ≡ line
  pub looked : line + length open_ ≡ from
  pub within : line ≤ 268435456

-- `at` is the first line feed from `from` on
pub record IsFeedAt (bytes : List ℕ) (from at : ℕ) : Type 0 where
  pub open_ : List ℕ
  pub rest : List ℕ
  pub parts : drop from bytes ≡ open_ ++ 10 ∷ rest
  pub no_feed : HasNoFeed open_
  pub there : from + length open_ ≡ at

-- ---- what the bytes so far show of all

-- the first line that is ENDATA: no line before it is, and its word ends at `cut`
pub record IsFirstEnd (bytes : List ℕ) (cut : ℕ) : Type 0 where
  pub front : List ℕ
  pub rest : List ℕ
  pub parts : bytes ≡ front ++ (end_word ++ rest)
  pub whole : AreLines front
  pub others : AreOthers (lines_of front)
  pub ends : ends_word rest ≡ true
  pub there : length front + 6 ≡ cut

-- the first ENDATA line has its word end at `cut`; up to there, with a mark for the rest of the
-- line, the bytes state what all do
pub record IsEndedAt (bytes : List ℕ) (cut : ℕ) : Type 0 where
  pub within : cut ≤ length bytes
  pub first : IsFirstEnd bytes cut
  pub same : (more : List ℕ) → StatesSame
      (take cut bytes ++ mark (begins_legibly (drop cut bytes ++ more))) (bytes ++ more)

-- behind lines within the limit, none of them ENDATA, a line passes it that is not ENDATA, whatever
-- follows
pub record PassesLimit (bytes : List ℕ) : Type 0 where
  pub front : List ℕ
  pub tail : List ℕ
  pub parts : bytes ≡ front ++ tail
  pub whole : AreLines front
  pub others : AreOthers (lines_of front)
  pub within : length front ≤ 268435456
  pub far : 268435456 < length front + length (first_piece tail)
  pub other : (more : List ℕ) → is_end_line (first_line (tail ++ more)) ≡ false

-- whatever follows, the bytes state what all do
abbrev pub AreEnough : List ℕ → Type 0
AreEnough bytes = (more : List ℕ) → StatesSame bytes (bytes ++ more)

-- no line up to the last, which begins at `line` and has no end, is ENDATA, and the last does not
-- show yet that it is; the bytes are at most a few above the limit
pub record IsOpen (bytes : List ℕ) (line : ℕ) : Type 0 where
  pub last : IsLineAt bytes line (length bytes)
  pub other : BeginsEnd (drop line bytes) → ⊥
  pub few : length bytes ≤ 268435456 + 7

-- what all the bytes show: their ENDATA line, that they passed the limit without one, or that
-- neither shows yet, and where their last line begins
abbrev pub IsSeen : List ℕ → Seen → Type 0
IsSeen bytes (seens.Ended cut) = IsEndedAt bytes cut
IsSeen bytes seens.Passed = PassesLimit bytes × AreEnough bytes
IsSeen bytes (seens.Open line) = IsOpen bytes line

-- the same for the bytes up to a line feed
abbrev pub IsSeenTo : List ℕ → ℕ → Seen → Type 0
IsSeenTo bytes at (seens.Ended cut) = IsEndedAt bytes cut
IsSeenTo bytes at seens.Passed = PassesLimit bytes × AreEnough bytes
IsSeenTo bytes at (seens.Open line) = IsLineAt bytes line line × (line ≡ at + 1)
    × (line ≤ length bytes)
