-- What a line says.
use Rattle.std.specs.Prelude.{ℕ, Bool, List, Option}
use Rattle.ug_lines.specs.declared.section.Section.{Section}
use Rattle.ug_lines.specs.declared.section.Section.TheVariants.{Objsense, Rows, Columns, Rhs}
use Rattle.ug_lines.specs.declared.section.Section.TheVariants.{Ranges, Bounds}
use Rattle.ug_lines.specs.declared.kinds.RowKind.{RowKind}
use Rattle.ug_problem.specs.declared.decimal.Decimal.{Decimal}
use Rattle.ug_drafts.specs.declared.bound.BoundChange.{BoundChange}

-- a row's name and a number
pub record Pair : Type 0 where
  pub row : List ℕ
  pub number : Decimal

-- what a line says: a section begins; the user maximises or not; a row, with the number of the
-- line; integer is on or off; a column, with the number of the line, and pairs; a set's name, if
-- there is one, and right-hand sides, ranges or what a bound of a column sets
pub data Entry : Type 0 where
  header : Section → Entry
  sense : Bool → Entry
  row : ℕ → RowKind → List ℕ → Entry
  marker : Bool → Entry
  column : ℕ → List ℕ → List Pair → Entry
  sides : Option (List ℕ) → List Pair → Entry
  ranges : Option (List ℕ) → List Pair → Entry
  bound : Option (List ℕ) → List ℕ → BoundChange → Entry

-- the section in which an entry stands
abbrev pub section_of_entry : Entry → Section
section_of_entry (header s) = s
section_of_entry (sense b) = Objsense
section_of_entry (row line kind name) = Rows
section_of_entry (marker b) = Columns
section_of_entry (column line name pairs) = Columns
section_of_entry (sides set pairs) = Rhs
section_of_entry (ranges set pairs) = Ranges
section_of_entry (bound set name change) = Bounds
