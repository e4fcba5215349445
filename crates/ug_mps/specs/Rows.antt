-- What the rows have so far, by the rows named, the coefficients, the right-hand sides and the
-- ranges.
use Rattle.std.specs.Prelude.{◌≡◌, ℕ, ◌≤◌, ◌<◌, Bool, List, [], ◌∷◌, ◌++◌, map, All, Option, Some}
use Rattle.std.specs.Prelude.{None, if◌then◌else◌}
use Rattle.std.specs.List.{list_any}
use Rattle.std.specs.Str.{bytes_eq}
use Rattle.ug_drafts.specs.declared.row.RowDraft.{RowDraft}
use Rattle.ug_drafts.specs.declared.row.RowPart.{RowPart}
use Rattle.ug_drafts.specs.declared.row.RowPart.TheVariants as parts
use Rattle.ug_mps.specs.Entries.{Pair, Entry}
use Rattle.ug_mps.specs.History.{RowNamed, Coefficient, rows_of, coefficients, placed, has}
use Rattle.ug_mps.specs.History.{names_row, sides_given, ranges_given}
use Rattle.ug_mps.specs.Stated.{terms_of, factor_of, number_given}

-- the rows with their names
pub record KeptRows : Type 0 where
  pub names : List (List ℕ)
  pub drafts : List RowDraft

-- rows named, coefficients, right-hand sides and ranges
pub record Lists : Type 0 where
  pub named : List RowNamed
  pub coefficients : List Coefficient
  pub sides : List Pair
  pub ranges : List Pair

-- those of a history
abbrev pub lists_of : List Entry → Lists
lists_of h = record {
  named = rows_of h;
  coefficients = coefficients h;
  sides = sides_given h;
  ranges = ranges_given h;
}

-- the first place, or else the second
abbrev pub or_place : Option ℕ → Option ℕ → Option ℕ
or_place None j = j
or_place (Some i) j = Some i

-- the place of the last column that has a coefficient of the row
abbrev pub last_place : List Coefficient → List ℕ → Option ℕ
last_place [] name = None
last_place (c ∷ cs) name =
    or_place (last_place cs name) (if bytes_eq name c.row then Some c.place else None)

-- one of the rows has this name
abbrev pub is_named : List RowNamed → List ℕ → Bool
is_named rows name = list_any (λ (r : RowNamed). bytes_eq name r.name) rows

-- what a row has so far
abbrev pub row_so_far : Lists → RowNamed → RowDraft
row_so_far l r = record {
  line = r.line;
  role = r.role;
  terms = map factor_of (terms_of l.coefficients r.name);
  side = number_given l.sides r.name;
  range = number_given l.ranges r.name;
  last = last_place l.coefficients r.name;
}

-- the rows are those of the lists
pub record AreRows (l : Lists) (rows : KeptRows) : Type 0 where
  pub names : rows.names ≡ map (λ (r : RowNamed). r.name) l.named
  pub drafts : rows.drafts ≡ map (row_so_far l) l.named

-- the coefficient comes no later than the other, and before it where both are of one row
pub record IsBefore (c d : Coefficient) : Type 0 where
  pub place : c.place ≤ d.place
  pub row : c.row ≡ d.row → c.place < d.place

-- each coefficient comes before those behind it
abbrev pub AreOrdered : List Coefficient → Type 0
AreOrdered [] = Unit {0}
AreOrdered (c ∷ cs) = All (IsBefore c) cs × AreOrdered cs

-- no coefficient is of a column above the place
abbrev pub AreWithin : ℕ → List Coefficient → Type 0
AreWithin j cs = All (λ (c : Coefficient). c.place ≤ j) cs

-- the coefficients are in order, and none is of a column above the one that the part is of
abbrev pub AreBelow : RowPart → Lists → Type 0
AreBelow (parts.Coefficient j) l = AreOrdered l.coefficients × AreWithin j l.coefficients
AreBelow part l = Unit {0}

-- the row has this part
abbrev pub is_taken : RowPart → Lists → List ℕ → Bool
is_taken (parts.Coefficient j) l name = has l.coefficients j name
is_taken parts.Side l name = names_row l.sides name
is_taken parts.Range l name = names_row l.ranges name

-- the lists with pairs more
abbrev pub and_pairs : RowPart → List Pair → Lists → Lists
and_pairs (parts.Coefficient j) pairs l =
    record {
      named = l.named;
      coefficients = l.coefficients ++ placed j pairs;
      sides = l.sides;
      ranges = l.ranges;
    }
and_pairs parts.Side pairs l =
    record {
      named = l.named;
      coefficients = l.coefficients;
      sides = l.sides ++ pairs;
      ranges = l.ranges;
    }
and_pairs parts.Range pairs l =
    record {
      named = l.named;
      coefficients = l.coefficients;
      sides = l.sides;
      ranges = l.ranges ++ pairs;
    }
