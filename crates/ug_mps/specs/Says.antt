-- What a line says after what the lines so far have said, or its fault.
use Rattle.std.specs.Prelude.{ℕ, ◌+◌, Bool, true, false, List, [], ◌∷◌, ◌++◌, length, Option, Some}
use Rattle.std.specs.Prelude.{None, option_and_then, if◌then◌else◌}
use Rattle.std.specs.Option.{option_map}
use Rattle.ug_lines.specs.declared.section.Section.{Section}
use Rattle.ug_lines.specs.declared.section.Section.TheVariants as sections
use Rattle.ug_lines.specs.Lines.{Line}
use Rattle.ug_lines.specs.Words.{words_of, is_data, is_comment}
use Rattle.ug_lines.specs.Kinds.{section_of_word, sense_of_word, row_kind_of, marker_of}
use Rattle.ug_lines.specs.Shapes.{WordPair, Shape}
use Rattle.ug_lines.specs.Shapes as shapes
use Rattle.ug_problem.specs.Decimals.{decimal_of}
use Rattle.ug_mps.specs.Entries.{Pair, Entry, header, sense, row, marker, column, sides, ranges}
use Rattle.ug_mps.specs.Entries.{bound}
use Rattle.ug_mps.specs.History.{section_of, is_section}
use Rattle.ug_mps.specs.Faults.{Complaint, or_fault, too_long, bad_byte, bad_section}
use Rattle.ug_mps.specs.Faults.{bad_header_words, semi_continuous, bad_bound_kind, shape_in}
use Rattle.ug_mps.specs.Faults.{bad_words, resolved, is_passed, bad_row_kind, bad_marker, unknown}
use Rattle.ug_mps.specs.Faults.{duplicate, bad_number, change_by, too_wide, too_many, is_ranges}

-- ---- the first fault

-- the fault of a header: of its section, then of its words
abbrev pub header_fault : List Entry → List (List ℕ) → Option Complaint
header_fault h words = or_fault (bad_section h words) (bad_header_words words)

-- the fault of a formed line, in this order
abbrev pub shape_fault : List Entry → Option Section → Shape → Option Complaint
shape_fault h section shape =
    or_fault (bad_row_kind shape) (or_fault (bad_marker shape) (or_fault (unknown h shape)
    (or_fault (duplicate h section shape)
    (or_fault (bad_number shape) (or_fault (too_wide shape) (too_many h shape))))))

-- the fault of a line that is not skipped
abbrev pub formed_fault : List Entry → Option Section → Option Shape → Option Complaint
formed_fault h section None = None
formed_fault h section (Some shape) = if is_passed h (resolved h shape) then None
    else shape_fault h section (resolved h shape)

-- the fault of a data line: of the type of a bound, of the words, then of what they say
abbrev pub data_fault : List Entry → Option Section → List (List ℕ) → Option Complaint
data_fault h section words =
    or_fault (semi_continuous section words) (or_fault (bad_bound_kind section words)
    (or_fault (bad_words h section words) (formed_fault h section (shape_in section words))))

-- of the words of a line; a line without words has none
abbrev pub words_fault : List Entry → Bool → List (List ℕ) → Option Complaint
words_fault h is_data_line [] = None
words_fault h true words = data_fault h (section_of h) words
words_fault h false words = header_fault h words

-- the fault of a line: too long excludes others, and a comment may contain any bytes
abbrev pub line_fault : List Entry → Line → Option Complaint
line_fault h line = or_fault (too_long line) (if is_comment line.content then None
    else or_fault (bad_byte line.content)
    (words_fault h (is_data line.content) (words_of line.content)))

-- ---- the statements

-- a pair with its number
abbrev pub pair_read : WordPair → Option Pair
pair_read p = option_map (λ d. record { row = p.row; number = d }) (decimal_of p.number)

-- the pairs with their numbers
abbrev pub pairs_read : List WordPair → Option (List Pair)
pairs_read [] = Some []
pairs_read (p ∷ pairs) =
    option_and_then (λ q. option_map (λ qs. q ∷ qs) (pairs_read pairs)) (pair_read p)

-- right-hand sides or ranges, by the section
abbrev pub sides_in : Option Section → Option (List ℕ) → List Pair → Entry
sides_in section set pairs = if is_ranges section then ranges set pairs else sides set pairs

-- what a formed line says, where n is its number
abbrev pub entry_of : Option Section → ℕ → Shape → Option Entry
entry_of section n (shapes.sense word) = option_map (λ b. sense b) (sense_of_word word)
entry_of section n (shapes.row type name) = option_map (λ kind. row n kind name) (row_kind_of type)
entry_of section n (shapes.marker word) = option_map (λ b. marker b) (marker_of word)
entry_of section n (shapes.column name pairs) =
    option_map (λ ps. column n name ps) (pairs_read pairs)
entry_of section n (shapes.sides set pairs) =
    option_map (λ ps. sides_in section set ps) (pairs_read pairs)
entry_of section n (shapes.bound kind set name number) =
    option_map (λ change. bound set name change) (change_by kind number)
entry_of section n (shapes.either kind first second) = None

-- the entry, if there is one
abbrev pub if_entry : Option Entry → List Entry
if_entry None = []
if_entry (Some e) = e ∷ []

-- what a formed line says: nothing where it is passed over
abbrev pub formed_says : List Entry → Option Section → ℕ → Option Shape → List Entry
formed_says h section n None = []
formed_says h section n (Some shape) = if is_passed h (resolved h shape) then []
    else if_entry (entry_of section n (resolved h shape))

-- the sense that one word gives
abbrev pub sense_said : List (List ℕ) → List Entry
sense_said (word ∷ []) = if_entry (option_map (λ b. sense b) (sense_of_word word))
sense_said words = []

-- what the header of a section says, the latest first: OBJSENSE may have a sense behind it
abbrev pub section_says : Option Section → List (List ℕ) → List Entry
section_says None words = []
section_says (Some s) words =
    (if is_section sections.Objsense s then sense_said words else []) ++ header s ∷ []

-- what a header says
abbrev pub header_says : List (List ℕ) → List Entry
header_says [] = []
header_says (word ∷ words) = section_says (section_of_word word) words

-- what the words of a line say
abbrev pub words_say : List Entry → ℕ → Bool → List (List ℕ) → List Entry
words_say h n is_data_line [] = []
words_say h n true words = formed_says h (section_of h) n (shape_in (section_of h) words)
words_say h n false words = header_says words

-- what a line says: a comment says nothing
abbrev pub line_says : List Entry → ℕ → Line → List Entry
line_says h n line = if is_comment line.content then []
    else words_say h n (is_data line.content) (words_of line.content)

-- ---- all lines

-- ENDATA was said
abbrev pub is_end : Option Section → Bool
is_end None = false
is_end (Some s) = is_section s sections.Endata

abbrev pub is_ended : List Entry → Bool
is_ended h = is_end (section_of h)

-- the history after line n without a fault
abbrev pub after_fault : List Entry → ℕ → Line → Option Complaint → Option (List Entry)
after_fault h n line None = Some (line_says h n line ++ h)
after_fault h n line (Some c) = None

-- the history after line n; none if the line has a fault, or follows ENDATA
abbrev pub after : List Entry → ℕ → Line → Option (List Entry)
after h n line = if is_ended h then None else after_fault h n line (line_fault h line)

-- what the lines say, both the latest first; nothing where a line has a fault after those before
-- it, or follows ENDATA
abbrev pub history : List Line → Option (List Entry)
history [] = Some []
history (line ∷ before) = option_and_then (λ h. after h (length before + 1) line) (history before)
