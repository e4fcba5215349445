-- The faults that a line may have after what the lines so far have said, each kind by itself. If
-- several words of a line are at fault, it is the first from left to right.
use Rattle.std.specs.Prelude.{ℕ, ◌+◌, ◌||◌, ◌&&◌, not, Bool, true, false, List, [], ◌∷◌, length}
use Rattle.std.specs.Prelude.{map, take, drop, find, Option, Some, None, nat_le, nat_lt, is_some}
use Rattle.std.specs.Prelude.{is_none, option_and_then, if◌then◌else◌}
use Rattle.std.specs.Option.{option_map}
use Rattle.std.specs.Str.{bytes_eq}
use Rattle.ug_lines.specs.declared.section.Section.{Section}
use Rattle.ug_lines.specs.declared.section.Section.TheVariants as sections
use Rattle.ug_lines.specs.declared.kinds.BoundKind.{BoundKind}
use Rattle.ug_lines.specs.Lines.{Line}
use Rattle.ug_lines.specs.Words.{is_blank, is_legible, are_short}
use Rattle.ug_lines.specs.Kinds.{end_word, section_of_word, sense_of_word, row_kind_of, marker_of}
use Rattle.ug_lines.specs.Kinds.{bound_kind_of, is_semi_continuous}
use Rattle.ug_lines.specs.Shapes.{WordPair, Shape, shape_of, sense, row, marker, column, sides}
use Rattle.ug_lines.specs.Shapes.{bound, either}
use Rattle.ug_problem.specs.Decimals.{decimal_of}
use Rattle.ug_drafts.specs.declared.fault.Kind.{Kind}
use Rattle.ug_drafts.specs.declared.fault.Kind.TheVariants as kinds
use Rattle.ug_drafts.specs.declared.bound.BoundChange.{BoundChange}
use Rattle.ug_mps.specs.BoundWords.{amount_of, change_of}
use Rattle.ug_mps.specs.Entries.{Pair, Entry}
use Rattle.ug_mps.specs.History.{is_section, has_section, has_sense, rows_of, is_row, is_column}
use Rattle.ug_mps.specs.History.{goes_on, place_of, coefficients, has, set_of, sides_given}
use Rattle.ug_mps.specs.History.{ranges_given, names_row}

-- a fault: its kind, and the word at fault, if there is one
pub record Complaint : Type 0 where
  pub kind : Kind
  pub word : Option (List ℕ)

-- the first fault, or else the second
abbrev pub or_fault : Option Complaint → Option Complaint → Option Complaint
or_fault (Some c) other = Some c
or_fault None other = other

-- the first of the words of which the test is true is at fault
abbrev pub at_fault : Kind → (List ℕ → Bool) → List (List ℕ) → Option Complaint
at_fault kind test words =
    option_map (λ word. record { kind = kind; word = Some word }) (find test words)

-- a fault without a word, where the test is true
abbrev pub fault_where : Kind → Bool → Option Complaint
fault_where kind test = if test then Some (record { kind = kind; word = None }) else None

-- ---- TooLong and Byte

-- nothing, or a blank, stands first
abbrev pub is_word_end : List ℕ → Bool
is_word_end [] = true
is_word_end (b ∷ bs) = is_blank b

-- the line begins with the word ENDATA
abbrev pub is_end_line : List ℕ → Bool
is_end_line content = bytes_eq (take 6 content) end_word && is_word_end (drop 6 content)

-- the file passes 268,435,456 bytes in this line, and the line is not ENDATA
abbrev pub too_long : Line → Option Complaint
too_long line = fault_where kinds.TooLong
    (nat_lt 268435456 line.through && not (is_end_line line.content))

-- a byte that no word, blank or line end may hold
abbrev pub bad_byte : List ℕ → Option Complaint
bad_byte content = fault_where kinds.Byte (not (is_legible content))

-- ---- headers: Section and Words

-- the section may begin: it is listed and has not begun
abbrev pub may_begin : List Entry → Option Section → Bool
may_begin h None = false
may_begin h (Some s) = not (has_section h s)

-- a header that is not listed, or repeated
abbrev pub bad_section : List Entry → List (List ℕ) → Option Complaint
bad_section h words = at_fault kinds.Section (λ word. not (may_begin h (section_of_word word)))
    (take 1 words)

-- one sense, or nothing
abbrev pub are_sense : List (List ℕ) → Bool
are_sense [] = true
are_sense (word ∷ []) = is_some (sense_of_word word)
are_sense words = false

-- the words may follow the header of a section: after OBJSENSE at most a sense, after others any
-- words
abbrev pub may_follow : Option Section → List (List ℕ) → Bool
may_follow None words = true
may_follow (Some s) words = not (is_section sections.Objsense s) || are_sense words

abbrev pub bad_header_words : List (List ℕ) → Option Complaint
bad_header_words [] = None
bad_header_words (word ∷ words) =
    fault_where kinds.Words (not (may_follow (section_of_word word) words))

-- ---- data lines: SemiContinuous, BoundKind and Words

-- the section is BOUNDS
abbrev pub is_bounds : Option Section → Bool
is_bounds None = false
is_bounds (Some s) = is_section s sections.Bounds

-- the type of a bound, which is the first word in BOUNDS
abbrev pub bound_types : Option Section → List (List ℕ) → List (List ℕ)
bound_types section words = if is_bounds section then take 1 words else []

-- a bound type of semi-continuous columns
abbrev pub semi_continuous : Option Section → List (List ℕ) → Option Complaint
semi_continuous section words =
    at_fault kinds.SemiContinuous is_semi_continuous (bound_types section words)

-- an unknown bound type
abbrev pub bad_bound_kind : Option Section → List (List ℕ) → Option Complaint
bad_bound_kind section words =
    at_fault kinds.BoundKind (λ word. is_none (bound_kind_of word)) (bound_types section words)

-- what the words are in the section, by their number
abbrev pub shape_in : Option Section → List (List ℕ) → Option Shape
shape_in None words = None
shape_in (Some s) words = shape_of s words

-- the shape may stand here: a sense is one, and none was given
abbrev pub may_stand : List Entry → Option Shape → Bool
may_stand h None = false
may_stand h (Some (sense word)) = is_some (sense_of_word word) && not (has_sense h)
may_stand h (Some shape) = true

-- a wrong number of words, a word above 255 bytes, a bad or a second sense, no section
abbrev pub bad_words : List Entry → Option Section → List (List ℕ) → Option Complaint
bad_words h section words =
    fault_where kinds.Words (not (are_short words && may_stand h (shape_in section words)))

-- ---- data lines that are formed: RowKind, Marker, Unknown, Duplicate, Number, TooWide, TooMany

-- three words of a bound without a number: if the third names a column, the second is a set's name
abbrev pub resolved : List Entry → Shape → Shape
resolved h (either kind first second) =
    if is_column h second then bound kind (Some first) second None else bound kind None first None
resolved h shape = shape

-- the set is not the one used
abbrev pub is_other : List ℕ → Option (List ℕ) → Bool
is_other set None = false
is_other set (Some used) = not (bytes_eq set used)

abbrev pub is_other_set : List Entry → Option (List ℕ) → Bool
is_other_set h None = false
is_other_set h (Some set) = is_other set (set_of h)

-- the line is of a set that is not used: it is passed over
abbrev pub is_passed : List Entry → Shape → Bool
is_passed h (sides set pairs) = is_other_set h set
is_passed h (bound kind set name number) = is_other_set h set
is_passed h shape = false

-- an unknown row type
abbrev pub bad_row_kind : Shape → Option Complaint
bad_row_kind (row type name) =
    at_fault kinds.RowKind (λ word. is_none (row_kind_of word)) (type ∷ [])
bad_row_kind shape = None

-- an unknown marker
abbrev pub bad_marker : Shape → Option Complaint
bad_marker (marker word) = at_fault kinds.Marker (λ word. is_none (marker_of word)) (word ∷ [])
bad_marker shape = None

-- the rows that pairs name, and the words of their numbers
abbrev pub rows_in : List WordPair → List (List ℕ)
rows_in pairs = map (λ (p : WordPair). p.row) pairs

abbrev pub numbers_in : List WordPair → List (List ℕ)
numbers_in pairs = map (λ (p : WordPair). p.number) pairs

-- a row or a column that no line before names
abbrev pub unknown : List Entry → Shape → Option Complaint
unknown h (column name pairs) = at_fault kinds.Unknown (λ word. not (is_row h word)) (rows_in pairs)
unknown h (sides set pairs) = at_fault kinds.Unknown (λ word. not (is_row h word)) (rows_in pairs)
unknown h (bound kind set name number) =
    at_fault kinds.Unknown (λ word. not (is_column h word)) (name ∷ [])
unknown h shape = None

-- the column began before, and another one after it
abbrev pub is_begun_again : List Entry → List ℕ → Bool
is_begun_again h name = is_column h name && not (goes_on h name)

-- the first row that is taken, or that an earlier one of the rows is too
abbrev pub repeated : (List ℕ → Bool) → List (List ℕ) → Option (List ℕ)
repeated taken [] = None
repeated taken (name ∷ names) = if taken name then Some name
    else repeated (λ word. taken word || bytes_eq word name) names

abbrev pub repeated_fault : (List ℕ → Bool) → List (List ℕ) → Option Complaint
repeated_fault taken rows =
    option_map (λ word. record { kind = kinds.Duplicate; word = Some word }) (repeated taken rows)

-- the section is RANGES
abbrev pub is_ranges : Option Section → Bool
is_ranges None = false
is_ranges (Some s) = is_section s sections.Ranges

-- the pairs that the section has so far
abbrev pub given_in : List Entry → Option Section → List Pair
given_in h section = if is_ranges section then ranges_given h else sides_given h

-- a row's name again, a column begun again, a row again within a column, or within right-hand sides
-- or ranges
abbrev pub duplicate : List Entry → Option Section → Shape → Option Complaint
duplicate h section (row type name) = at_fault kinds.Duplicate (λ word. is_row h word) (name ∷ [])
duplicate h section (column name pairs) =
    or_fault (at_fault kinds.Duplicate (λ word. is_begun_again h word) (name ∷ []))
    (repeated_fault (λ word. has (coefficients h) (place_of h name) word) (rows_in pairs))
duplicate h section (sides set pairs) =
    repeated_fault (λ word. names_row (given_in h section) word) (rows_in pairs)
duplicate h section shape = None

-- a word that is no number
abbrev pub bad_number : Shape → Option Complaint
bad_number (column name pairs) =
    at_fault kinds.Number (λ word. is_none (decimal_of word)) (numbers_in pairs)
bad_number (sides set pairs) =
    at_fault kinds.Number (λ word. is_none (decimal_of word)) (numbers_in pairs)
bad_number (bound kind set name (Some word)) =
    at_fault kinds.Number (λ word. is_none (amount_of word)) (word ∷ [])
bad_number shape = None

-- what a bound sets, by its type and its word, if it has one; nothing where it is too wide
abbrev pub change_by : BoundKind → Option (List ℕ) → Option BoundChange
change_by kind None = change_of kind None
change_by kind (Some word) = option_and_then (λ a. change_of kind (Some a)) (amount_of word)

-- a bound that is too wide
abbrev pub too_wide : Shape → Option Complaint
too_wide (bound kind set name number) =
    at_fault kinds.TooWide (λ word. is_none (change_by kind number)) (name ∷ [])
too_wide shape = None

-- a row, a column or a pair more than the limits allow
abbrev pub too_many : List Entry → Shape → Option Complaint
too_many h (row type name) = fault_where kinds.TooMany (nat_le 10000 (length (rows_of h)))
too_many h (column name pairs) =
    fault_where kinds.TooMany
    (nat_le 10000 (place_of h name) || nat_lt 1000000 (length (coefficients h) + length pairs))
too_many h shape = None
