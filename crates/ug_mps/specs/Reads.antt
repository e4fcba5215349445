-- The meaning of an MPS file: a problem, or a first fault.
use Rattle.std.specs.Prelude.{◌≡◌, ℕ, ◌+◌, ◌<◌, ◌⊎◌, ◌||◌, ◌&&◌, not, Bool, false, List, [], ◌∷◌}
use Rattle.std.specs.Prelude.{length, take, reverse, slice_index_or, Option, Some, None, is_none}
use Rattle.std.specs.Prelude.{if◌then◌else◌}
use Rattle.ug_lines.specs.declared.section.Section.TheVariants.{Endata}
use Rattle.ug_lines.specs.Lines.{Line, lines_of}
use Rattle.ug_problem.specs.Instances.{Instance}
use Rattle.ug_drafts.specs.declared.fault.Kind.TheVariants as kinds
use Rattle.ug_drafts.specs.declared.fault.MpsFault.{MpsFault}
use Rattle.ug_drafts.specs.declared.fault.MpsError.{MpsError}
use Rattle.ug_drafts.specs.declared.fault.MpsError.TheVariants.{Memory, Fault}
use Rattle.ug_drafts.specs.RowNumbers.{is_wide}
use Rattle.ug_drafts.specs.Bounds.{is_infinite}
use Rattle.ug_drafts.specs.FirstFaults.{fault_at, first_fault, or_else}
use Rattle.ug_drafts.specs.Roles.{is_ignored}
use Rattle.ug_mps.specs.Entries.{Entry, header}
use Rattle.ug_mps.specs.Faults.{Complaint}
use Rattle.ug_mps.specs.History.{RowNamed, rows_of, ColumnBegun, columns_of}
use Rattle.ug_mps.specs.Says.{line_fault, is_ended, history}
use Rattle.ug_mps.specs.Stated.{numbers_of, low_of, high_of, is_integer, stated}

-- ---- lines

-- a line that stands for one that is not there
abbrev pub no_line : Line
no_line = record { content = []; through = 0 }

-- the first k lines, the latest first
abbrev pub lines_before : List ℕ → ℕ → List Line
lines_before text k = reverse (take k (lines_of text))

-- the first k lines have no fault, and say this
pub record Says (text : List ℕ) (k : ℕ) (h : List Entry) : Type 0 where
  pub there : k < length (lines_of text) + 1
  pub said : history (lines_before text k) ≡ Some h

-- the k lines up to ENDATA have no fault, and those before it say this
abbrev pub Ends : List ℕ → ℕ → List Entry → Type 0
Ends text k h = Says text k (header Endata ∷ h)

-- line k is the first with a fault, this one, and no ENDATA line stands before it
pub record IsFaulty (text : List ℕ) (k : ℕ) (h : List Entry) (c : Complaint) : Type 0 where
  pub there : k < length (lines_of text)
  pub before : Says text k h
  pub open_ : is_ended h ≡ false
  pub fault : line_fault h (slice_index_or (lines_of text) k no_line) ≡ Some c

-- no line has a fault, and none is ENDATA
pub record IsEndless (text : List ℕ) (h : List Entry) : Type 0 where
  pub all : Says text (length (lines_of text)) h
  pub open_ : is_ended h ≡ false

-- ---- columns and rows, where all lines are good

-- a bound of the column is infinite
abbrev pub is_unbounded : List Entry → ColumnBegun → Bool
is_unbounded h c = is_infinite (low_of h c.name) || is_infinite (high_of h c.name)

-- a column that is not integer, or has an infinite bound and no box is given: at the line where it
-- begins
abbrev pub column_fault : Option ℕ → List Entry → ColumnBegun → Option MpsFault
column_fault boxed h c =
    if not (is_integer h c) then Some (fault_at c.line kinds.Continuous (Some c.name))
    else (if is_none boxed && is_unbounded h c
    then Some (fault_at c.line kinds.Unbounded (Some c.name)) else None)

-- a row or an objective whose scaled numbers are too wide: at its line
abbrev pub row_fault : List Entry → RowNamed → Option MpsFault
row_fault h r = if not (is_ignored r.role) && is_wide r.role (numbers_of h r)
    then Some (fault_at r.line kinds.TooWide (Some r.name)) else None

-- the first fault of the columns, or else of the rows
abbrev pub end_fault : Option ℕ → List Entry → Option MpsFault
end_fault boxed h = or_else (first_fault (column_fault boxed h) (columns_of h))
    (first_fault (row_fault h) (rows_of h))

-- ---- texts

-- the file states the problem p, with the box's bounds for infinite ones, if there is a box
abbrev pub Reads : List ℕ → Option ℕ → Instance → Type 0
Reads text boxed p = (k : ℕ) × (h : List Entry) × Ends text k h × (end_fault boxed h ≡ None)
    × (p ≡ stated boxed h)

-- the first fault of the file: in a line, a missing ENDATA, or in a column or a row
abbrev pub FirstFault : List ℕ → Option ℕ → MpsFault → Type 0
FirstFault text boxed f =
    ((k : ℕ) × (h : List Entry) × (c : Complaint) × IsFaulty text k h c
    × (f ≡ fault_at (k + 1) c.kind c.word))
    ⊎ (((h : List Entry) × IsEndless text h
    × (f ≡ fault_at (length (lines_of text)) kinds.NoEnd None))
    ⊎ ((k : ℕ) × (h : List Entry) × Ends text k h × (end_fault boxed h ≡ Some f)))

-- why the file is refused: its first fault, or out of memory
abbrev pub IsRefusal : List ℕ → Option ℕ → MpsError → Type 0
IsRefusal text boxed Memory = Unit {0}
IsRefusal text boxed (Fault f) = FirstFault text boxed f
