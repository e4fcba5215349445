-- What a line does to the rows' drafts.
use Rattle.std.specs.Prelude.{◌≡◌, ℕ, not, Bool, List, [], ◌∷◌, map, find, Option, Some, None}
use Rattle.std.specs.Prelude.{slice_index_or}
use Rattle.std.specs.List.{list_any}
use Rattle.std.specs.Option.{option_map}
use Rattle.std.specs.Borrow.{Bor}
use Rattle.std.specs.Str.{bytes_eq}
use Rattle.ug_drafts.specs.declared.role.Role.{Role}
use Rattle.ug_drafts.specs.declared.role.Role.TheVariants.{Objective}
use Rattle.ug_drafts.specs.declared.row.RowDraft.{RowDraft}
use Rattle.ug_drafts.specs.declared.row.RowPart.{RowPart}
use Rattle.ug_mps.specs.declared.draft.rows.RowPlaces.{RowPlaces}
use Rattle.ug_mps.specs.Entries.{Pair}
use Rattle.ug_mps.specs.Faults.{repeated}
use Rattle.ug_mps.specs.Names.{StandsAt}
use Rattle.ug_mps.specs.Rows.{KeptRows, Lists, AreRows, AreBelow, is_taken, and_pairs}

-- a row that has nothing
abbrev pub new_row : ℕ → Role → RowDraft
new_row line role = record {
  line = line;
  role = role;
  terms = [];
  side = None;
  range = None;
  last = None;
}

-- the row at a place
abbrev pub row_at : List RowDraft → ℕ → RowDraft
row_at drafts at = slice_index_or drafts at (new_row 0 Objective)

-- the places as a list
abbrev pub second_place : Option ℕ → List ℕ
second_place None = []
second_place (Some j) = j ∷ []

abbrev pub places_in : RowPlaces → List ℕ
places_in p = p.first ∷ second_place p.second

-- the names are at the places
abbrev pub AreAt : List (List ℕ) → List (List ℕ) → List ℕ → Type 0
AreAt names [] [] = Unit {0}
AreAt names (r ∷ rows) (j ∷ places) = StandsAt names r j × AreAt names rows places
AreAt names _ _ = ⊥

-- one of the names is this
abbrev pub is_among : List (List ℕ) → List ℕ → Bool
is_among names name = list_any (λ other. bytes_eq name other) names

-- the first of the words that is not among the names
abbrev pub first_missing : List (List ℕ) → List (List ℕ) → Option (List ℕ)
first_missing names words = find (λ word. not (is_among names word)) words

-- the first row that has the part, or that an earlier one of the rows is too
abbrev pub FindsRepeated : RowPart → List (List ℕ) → List ℕ → KeptRows → Option (Bor (List ℕ)) → Type 0
FindsRepeated part names places rows word = (l : Lists) → AreRows l rows → AreBelow part l
    → AreAt rows.names names places
    → option_map (λ w. w.now) word ≡ repeated (λ name. is_taken part l name) names

-- the rows that the pairs name
abbrev pub rows_named : List Pair → List (List ℕ)
rows_named pairs = map (λ (p : Pair). p.row) pairs

-- the rows have the pairs as this part
abbrev pub PutsPairs : RowPart → List Pair → List ℕ → KeptRows → KeptRows → Type 0
PutsPairs part pairs places old new = (l : Lists) → AreRows l old
    → AreAt old.names (rows_named pairs) places
    → repeated (λ name. is_taken part l name) (rows_named pairs) ≡ None
    → AreRows (and_pairs part pairs l) new
