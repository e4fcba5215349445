-- What the lines so far have said, the latest entry first.
use Rattle.std.specs.Prelude.{ℕ, ◌-◌, ◌==◌, ◌||◌, ◌&&◌, Bool, true, false, List, [], ◌∷◌, ◌++◌}
use Rattle.std.specs.Prelude.{length, map, Option, Some, None, if◌then◌else◌}
use Rattle.std.specs.Str.{bytes_eq}
use Rattle.std.specs.List.{list_any}
use Rattle.ug_lines.specs.declared.section.Section.{Section}
use Rattle.ug_lines.specs.declared.section.Section.TheVariants as sections
use Rattle.ug_lines.specs.declared.kinds.RowKind.{RowKind}
use Rattle.ug_lines.specs.declared.kinds.RowKind.TheVariants as types
use Rattle.ug_problem.specs.declared.decimal.Decimal.{Decimal}
use Rattle.ug_drafts.specs.declared.role.Role.{Role}
use Rattle.ug_drafts.specs.declared.role.Role.TheVariants.{Objective, Ignored, AtMost, AtLeast}
use Rattle.ug_drafts.specs.declared.role.Role.TheVariants.{Equal}
use Rattle.ug_drafts.specs.declared.bound.Bound.{Bound}
use Rattle.ug_drafts.specs.Bounds.{high_after, low_after}
use Rattle.ug_drafts.specs.Roles.{is_objective}
use Rattle.ug_mps.specs.Entries.{Pair, Entry, section_of_entry, header, sense, row, marker, column}
use Rattle.ug_mps.specs.Entries.{sides, ranges, bound}

-- ---- sections and sense

-- the section in which the next data line stands: that of the latest entry
abbrev pub section_of : List Entry → Option Section
section_of [] = None
section_of (e ∷ before) = Some (section_of_entry e)

-- a section's place in the list of all
abbrev pub rank : Section → ℕ
rank sections.Name = 0
rank sections.Objsense = 1
rank sections.Rows = 2
rank sections.Columns = 3
rank sections.Rhs = 4
rank sections.Ranges = 5
rank sections.Bounds = 6
rank sections.Endata = 7

-- the two sections are one
abbrev pub is_section : Section → Section → Bool
is_section s t = rank s == rank t

-- the section has begun
abbrev pub has_section : List Entry → Section → Bool
has_section [] s = false
has_section (header t ∷ before) s = is_section s t || has_section before s
has_section (_ ∷ before) s = has_section before s

-- a sense was given
abbrev pub has_sense : List Entry → Bool
has_sense [] = false
has_sense (sense b ∷ before) = true
has_sense (_ ∷ before) = has_sense before

-- the user maximises
abbrev pub is_maximised : List Entry → Bool
is_maximised [] = false
is_maximised (sense b ∷ before) = b
is_maximised (_ ∷ before) = is_maximised before

-- ---- rows

-- a row: the line that names it, what it is to the problem, and its name
pub record RowNamed : Type 0 where
  pub line : ℕ
  pub role : Role
  pub name : List ℕ

-- one of the rows is the objective
abbrev pub have_objective : List RowNamed → Bool
have_objective rows = list_any (λ (r : RowNamed). is_objective r.role) rows

-- what a row is to the problem: the first N row is the objective, later ones are ignored
abbrev pub role_with : Bool → RowKind → Role
role_with has_one types.Objective = if has_one then Ignored else Objective
role_with has_one types.AtMost = AtMost
role_with has_one types.AtLeast = AtLeast
role_with has_one types.Equal = Equal

abbrev pub role_after : List RowNamed → RowKind → Role
role_after rows kind = role_with (have_objective rows) kind

-- the rows, in order
abbrev pub rows_of : List Entry → List RowNamed
rows_of [] = []
rows_of (row line kind name ∷ before) =
    rows_of before ++ record { line = line; role = role_after (rows_of before) kind; name = name }
    ∷ []
rows_of (_ ∷ before) = rows_of before

-- one of the rows has this name
abbrev pub is_row : List Entry → List ℕ → Bool
is_row before name = list_any (λ (r : RowNamed). bytes_eq name r.name) (rows_of before)

-- ---- columns and their coefficients

-- integer is on
abbrev pub is_integer_on : List Entry → Bool
is_integer_on [] = false
is_integer_on (marker b ∷ before) = b
is_integer_on (_ ∷ before) = is_integer_on before

-- the latest line of a column is of this one
abbrev pub goes_on : List Entry → List ℕ → Bool
goes_on [] name = false
goes_on (column line name' pairs ∷ before) name = bytes_eq name name'
goes_on (_ ∷ before) name = goes_on before name

-- a column: the line in which it begins, its name, and whether integer was on there
pub record ColumnBegun : Type 0 where
  pub line : ℕ
  pub name : List ℕ
  pub integer : Bool

-- the columns, in the order in which they begin
abbrev pub columns_of : List Entry → List ColumnBegun
columns_of [] = []
columns_of (column line name pairs ∷ before) = if goes_on before name then columns_of before
    else columns_of before ++ record { line = line; name = name; integer = is_integer_on before }
    ∷ []
columns_of (_ ∷ before) = columns_of before

-- one of the columns has this name
abbrev pub is_column : List Entry → List ℕ → Bool
is_column before name = list_any (λ (c : ColumnBegun). bytes_eq name c.name) (columns_of before)

-- the place of the column that a line is of: the last one, or the one behind it
abbrev pub place_of : List Entry → List ℕ → ℕ
place_of before name = if goes_on before name then length (columns_of before) - 1
    else length (columns_of before)

-- a coefficient: the place of its column, its row's name and the number
pub record Coefficient : Type 0 where
  pub place : ℕ
  pub row : List ℕ
  pub number : Decimal

-- the pairs as coefficients of the column at a place
abbrev pub placed : ℕ → List Pair → List Coefficient
placed j pairs = map (λ (p : Pair). record { place = j; row = p.row; number = p.number }) pairs

-- the coefficients, in order
abbrev pub coefficients : List Entry → List Coefficient
coefficients [] = []
coefficients (column line name pairs ∷ before) =
    coefficients before ++ placed (place_of before name) pairs
coefficients (_ ∷ before) = coefficients before

-- one of them is of the column at the place and of this row
abbrev pub has : List Coefficient → ℕ → List ℕ → Bool
has cs j name = list_any (λ (c : Coefficient). (c.place == j) && bytes_eq name c.row) cs

-- ---- sets, right-hand sides, ranges and bounds

-- the set that the section uses: the first that one of its lines names
abbrev pub set_of : List Entry → Option (List ℕ)
set_of [] = None
set_of (header s ∷ before) = None
set_of (sides (Some set) pairs ∷ before) = Some set
set_of (ranges (Some set) pairs ∷ before) = Some set
set_of (bound (Some set) name change ∷ before) = Some set
set_of (_ ∷ before) = set_of before

-- the right-hand sides, in order
abbrev pub sides_given : List Entry → List Pair
sides_given [] = []
sides_given (sides set pairs ∷ before) = sides_given before ++ pairs
sides_given (_ ∷ before) = sides_given before

-- the ranges, in order
abbrev pub ranges_given : List Entry → List Pair
ranges_given [] = []
ranges_given (ranges set pairs ∷ before) = ranges_given before ++ pairs
ranges_given (_ ∷ before) = ranges_given before

-- one of the pairs names this row
abbrev pub names_row : List Pair → List ℕ → Bool
names_row pairs name = list_any (λ (p : Pair). bytes_eq name p.row) pairs

-- the lower bound of a column that its lines set, if one did
abbrev pub low_set : List Entry → List ℕ → Option Bound
low_set [] name = None
low_set (bound set name' change ∷ before) name =
    if bytes_eq name name' then low_after change (low_set before name) else low_set before name
low_set (_ ∷ before) name = low_set before name

-- the upper bound of a column that its lines set, if one did: the latest
abbrev pub high_set : List Entry → List ℕ → Option Bound
high_set [] name = None
high_set (bound set name' change ∷ before) name =
    if bytes_eq name name' then high_after change (high_set before name) else high_set before name
high_set (_ ∷ before) name = high_set before name

-- a bound makes the column integer
abbrev pub is_made_integer : List Entry → List ℕ → Bool
is_made_integer [] name = false
is_made_integer (bound set name' change ∷ before) name =
    (bytes_eq name name' && change.integer) || is_made_integer before name
is_made_integer (_ ∷ before) name = is_made_integer before name
