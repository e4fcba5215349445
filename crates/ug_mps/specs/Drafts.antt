-- What the reader keeps of the lines so far.
use Rattle.std.specs.Prelude.{◌≡◌, ℕ, ◌+◌, ◌≤◌, ◌||◌, not, Bool, true, false, if◌then◌else◌, List, []}
use Rattle.std.specs.Prelude.{◌∷◌, ◌++◌, length, Option, Some, None, Result, IfSome, MatchResult, ⊤}
use Rattle.std.specs.List.{list_any}
use Rattle.std.specs.Option.{option_map}
use Rattle.ug_lines.specs.declared.section.Section.{Section}
use Rattle.ug_lines.specs.Shapes.{Shape, sense, row, marker, column, sides, bound, either}
use Rattle.ug_problem.specs.Instances.{IsName}
use Rattle.ug_drafts.specs.declared.fault.Kind.TheVariants as kinds
use Rattle.ug_drafts.specs.declared.fault.MpsError.{MpsError}
use Rattle.ug_drafts.specs.declared.fault.MpsError.TheVariants.{Memory, Fault}
use Rattle.ug_drafts.specs.declared.bound.Amount.{Amount}
use Rattle.ug_drafts.specs.declared.row.RowPart.{RowPart}
use Rattle.ug_drafts.specs.declared.row.RowPart.TheVariants as parts
use Rattle.ug_drafts.specs.FirstFaults.{fault_at}
use Rattle.ug_mps.specs.declared.draft.Draft.{Draft}
use Rattle.ug_mps.specs.BoundWords.{amount_of}
use Rattle.ug_mps.specs.declared.draft.columns.ColumnPlace.{ColumnPlace}
use Rattle.ug_mps.specs.declared.draft.rows.RowPlaces.{RowPlaces}
use Rattle.ug_mps.specs.Entries.{Entry, Pair}
use Rattle.ug_mps.specs.Faults.{Complaint, or_fault, fault_where, may_stand, is_other, is_ranges}
use Rattle.ug_lines.specs.Kinds.{sense_of_word}
use Rattle.ug_lines.specs.declared.section.Section.TheVariants as sections
use Rattle.ug_mps.specs.Says.{header_fault, header_says, formed_fault, formed_says}
use Rattle.ug_mps.specs.Numbered.{AreShortNumbers}
use Rattle.ug_mps.specs.Good.{Good}
use Rattle.ug_mps.specs.History.{section_of, is_section, has_section, has_sense, is_maximised}
use Rattle.ug_mps.specs.History.{rows_of, have_objective, is_integer_on, coefficients, set_of}
use Rattle.ug_mps.specs.Rows.{lists_of, AreRows}
use Rattle.ug_mps.specs.RowSteps.{PutsPairs, places_in}
use Rattle.ug_mps.specs.Columns.{AreColumns, OpensColumn}

-- the draft keeps what the good history h says
pub record Drafts (h : List Entry) (d : Draft) : Type 0 where
  pub good : Good h
  pub rows : AreRows (lists_of h) d.rows
  pub columns : AreColumns h d.columns
  pub count : d.count ≡ length (coefficients h)
  pub section : d.section ≡ section_of h
  pub begun : (s : Section) → list_any (is_section s) d.begun.items ≡ has_section h s
  pub sensed : d.sensed ≡ has_sense h
  pub maximise : d.maximise ≡ is_maximised h
  pub objective : d.has_objective ≡ have_objective (rows_of h)
  pub integer : d.integer ≡ is_integer_on h
  pub set : d.set ≡ set_of h

-- the error is the fault at line n, if it is not for memory
abbrev pub IsFaultOf : ℕ → Option Complaint → MpsError → Type 0
IsFaultOf n fault Memory = Unit {0}
IsFaultOf n fault (Fault f) =
    option_map (λ (c : Complaint). fault_at n c.kind c.word) fault ≡ Some f

-- a line was taken exactly if it has no fault, and its entries are then the latest; otherwise its
-- fault is returned
abbrev pub Takes : ℕ → (List Entry → Option Complaint) → (List Entry → List Entry) → Draft → Draft
    → Result ⊤ MpsError → Type 0
Takes n fault says old new result = (h : List Entry) → Drafts h old
    → MatchResult result (λ _. (fault h ≡ None) × Drafts (says h ++ h) new)
    (λ e. IsFaultOf n (fault h) e)

-- the fault of a shape after a history, its sense among the words
abbrev pub shaped_fault : Shape → List Entry → Option Complaint
shaped_fault shape h = or_fault (fault_where kinds.Words (not (may_stand h (Some shape))))
    (formed_fault h (section_of h) (Some shape))

-- what it says
abbrev pub shaped_says : ℕ → Shape → List Entry → List Entry
shaped_says n shape h = formed_says h (section_of h) n (Some shape)

-- a line of this shape was taken
abbrev pub TakesShape : ℕ → Shape → Draft → Draft → Result ⊤ MpsError → Type 0
TakesShape n shape old new result =
    Takes n (shaped_fault shape) (shaped_says n shape) old new result

-- a header of these words was taken
abbrev pub TakesHeader : ℕ → List (List ℕ) → Draft → Draft → Result ⊤ MpsError → Type 0
TakesHeader n words old new result =
    Takes n (λ h. header_fault h words) (λ h. header_says words) old new result

-- the section is this one
abbrev pub is_in : Section → Option Section → Bool
is_in s None = false
is_in s (Some t) = is_section s t

-- lines of this shape belong to the section
abbrev pub belongs : Option Section → Shape → Bool
belongs section (sense word) = is_in sections.Objsense section
belongs section (row type name) = is_in sections.Rows section
belongs section (marker word) = is_in sections.Columns section
belongs section (column name pairs) = is_in sections.Columns section
belongs section (sides set pairs) = is_in sections.Rhs section || is_in sections.Ranges section
belongs section (bound kind set name number) = is_in sections.Bounds section
belongs section (either kind first second) = is_in sections.Bounds section

-- the words of a shape are within the limits of words
abbrev pub IsWorded : Shape → Type 0
IsWorded (row type name) = IsName name
IsWorded (column name pairs) = IsName name × AreShortNumbers pairs
IsWorded (sides set pairs) = AreShortNumbers pairs
IsWorded (bound kind set name number) = IfSome number (λ word. length word ≤ 255)
IsWorded shape = Unit {0}

-- the pairs of a column's line were put into the rows at these places, and a column was opened
-- where one begins
pub record PutsColumn (n : ℕ) (name : List ℕ) (place : ColumnPlace) (places : RowPlaces)
    (pairs : List Pair) (old new : Draft) : Type 0 where
  pub opened : OpensColumn n name old.integer place.new old.columns new.columns
  pub put : PutsPairs (parts.Coefficient place.at) pairs (places_in places) old.rows new.rows
  pub rest : new ≡ record old {
    columns = new.columns;
    rows = new.rows;
    count = old.count + length pairs;
  }

-- a section has begun: it is the latest, and uses no set yet
pub record Begins (s : Section) (old new : Draft) : Type 0 where
  pub begun : new.begun.items ≡ old.begun.items ++ s ∷ []
  pub rest : new ≡ record old { begun = new.begun; section = Some s; set = None }

-- the sense that the words give is the draft's
abbrev pub with_sense : Option Bool → Draft → Draft
with_sense None d = d
with_sense (Some b) d = record d { sensed = true; maximise = b }

-- the sense that one word gives
abbrev pub one_sense : List (List ℕ) → Option Bool
one_sense (word ∷ []) = sense_of_word word
one_sense words = None

-- the sense behind the header of a section
abbrev pub sense_behind : Section → List (List ℕ) → Option Bool
sense_behind s words = if is_section sections.Objsense s then one_sense words else None

-- the set after a line that names one, or none: the first that is named
abbrev pub set_after : Option (List ℕ) → Option (List ℕ) → Option (List ℕ)
set_after named (Some used) = Some used
set_after named None = named

-- the named set is not the one used
abbrev pub is_passed_set : Option (List ℕ) → Option (List ℕ) → Bool
is_passed_set None used = false
is_passed_set (Some set) used = is_other set used

-- what pairs give their rows in a section
abbrev pub part_in : Option Section → RowPart
part_in section = if is_ranges section then parts.Range else parts.Side

-- the set after a line that uses one: the one that it names, or else the one before
abbrev pub first_set : Option (List ℕ) → Option (List ℕ) → Option (List ℕ)
first_set None used = used
first_set (Some set) used = Some set

-- the amount is that of the number, if there is one
abbrev pub IsAmountOf : Option (List ℕ) → Option Amount → Type 0
IsAmountOf None None = Unit {0}
IsAmountOf (Some word) (Some a) = amount_of word ≡ Some a
IsAmountOf _ _ = ⊥
