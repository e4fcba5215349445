-- What single words name: sections, senses, row types, markers and bound types.
use Rattle.std.specs.Prelude.{ℕ, ◌||◌, Bool, true, false, List, Option, Some, None, codes, map}
use Rattle.std.specs.Prelude.{if◌then◌else◌}
use Rattle.std.specs.Char.{to_ascii_lowercase}
use Rattle.std.specs.Str.{bytes_eq}
use Rattle.ug_lines.specs.declared.section.Section.{Section}
use Rattle.ug_lines.specs.declared.section.Section.TheVariants.{Name, Objsense, Rows, Columns, Rhs}
use Rattle.ug_lines.specs.declared.section.Section.TheVariants.{Ranges, Bounds, Endata}
use Rattle.ug_lines.specs.declared.kinds.RowKind.{RowKind}
use Rattle.ug_lines.specs.declared.kinds.RowKind.TheVariants.{Objective, AtMost, AtLeast, Equal}
use Rattle.ug_lines.specs.declared.kinds.BoundKind.{BoundKind}
use Rattle.ug_lines.specs.declared.kinds.BoundKind.TheVariants as bounds

-- the word that ends a file
abbrev pub end_word : List ℕ
end_word = codes "ENDATA"

-- the section that a header's word names
abbrev pub section_of_word : List ℕ → Option Section
section_of_word word = if bytes_eq word (codes "NAME") then Some Name
    else (if bytes_eq word (codes "OBJSENSE") then Some Objsense
    else (if bytes_eq word (codes "ROWS") then Some Rows
    else (if bytes_eq word (codes "COLUMNS") then Some Columns
    else (if bytes_eq word (codes "RHS") then Some Rhs
    else (if bytes_eq word (codes "RANGES") then Some Ranges
    else (if bytes_eq word (codes "BOUNDS") then Some Bounds
    else (if bytes_eq word end_word then Some Endata else None)))))))

-- the word is this text, in any case of letters
abbrev pub is_in_any_case : List ℕ → List ℕ → Bool
is_in_any_case word text = bytes_eq (map to_ascii_lowercase word) (map to_ascii_lowercase text)

-- the sense that a word names: whether the user maximises
abbrev pub sense_of_word : List ℕ → Option Bool
sense_of_word word = if is_in_any_case word (codes "MIN")
    || is_in_any_case word (codes "MINIMIZE") then Some false
    else (if is_in_any_case word (codes "MAX")
    || is_in_any_case word (codes "MAXIMIZE") then Some true else None)

-- the row type that a word names
abbrev pub row_kind_of : List ℕ → Option RowKind
row_kind_of word = if bytes_eq word (codes "N") then Some Objective
    else (if bytes_eq word (codes "L") then Some AtMost
    else (if bytes_eq word (codes "G") then Some AtLeast
    else (if bytes_eq word (codes "E") then Some Equal else None)))

-- what a marker's word sets: integer on or off
abbrev pub marker_of : List ℕ → Option Bool
marker_of word = if bytes_eq word (codes "'INTORG'") then Some true
    else (if bytes_eq word (codes "'INTEND'") then Some false else None)

-- the bound type that a word names
abbrev pub bound_kind_of : List ℕ → Option BoundKind
bound_kind_of word = if bytes_eq word (codes "UP") then Some bounds.Upper
    else (if bytes_eq word (codes "LO") then Some bounds.Lower
    else (if bytes_eq word (codes "FX") then Some bounds.Fixed
    else (if bytes_eq word (codes "LI") then Some bounds.IntegerLower
    else (if bytes_eq word (codes "UI") then Some bounds.IntegerUpper
    else (if bytes_eq word (codes "FR") then Some bounds.Free
    else (if bytes_eq word (codes "MI") then Some bounds.MinusInfinity
    else (if bytes_eq word (codes "PL") then Some bounds.PlusInfinity
    else (if bytes_eq word (codes "BV") then Some bounds.Binary else None))))))))

-- the bound type of a semi-continuous column
abbrev pub is_semi_continuous : List ℕ → Bool
is_semi_continuous word = bytes_eq word (codes "SC") || bytes_eq word (codes "SI")

-- a bound of this type has a number
abbrev pub takes_number : BoundKind → Bool
takes_number bounds.Upper = true
takes_number bounds.Lower = true
takes_number bounds.Fixed = true
takes_number bounds.IntegerLower = true
takes_number bounds.IntegerUpper = true
takes_number _ = false
