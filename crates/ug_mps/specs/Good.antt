-- Histories of good lines: each entry may follow those before it, and its words are within the
-- limits of words.
use Rattle.std.specs.Prelude.{◌≡◌, ℕ, ◌+◌, ◌&&◌, ◌||◌, not, Bool, true, List, [], ◌∷◌, length, All}
use Rattle.std.specs.Prelude.{nat_lt, nat_le}
use Rattle.std.specs.List.{list_all}
use Rattle.ug_problem.specs.Decimals.{IsDecimal}
use Rattle.ug_problem.specs.Instances.{IsName}
use Rattle.ug_drafts.specs.Bounds.{IsBoundChange}
use Rattle.ug_mps.specs.Entries.{Pair, Entry, row, column, sides, ranges, bound}
use Rattle.ug_mps.specs.History.{rows_of, is_row, goes_on, is_column, place_of, coefficients, has}
use Rattle.ug_mps.specs.History.{names_row, sides_given, ranges_given}

-- no two of the pairs name one row
abbrev pub are_apart : List Pair → Bool
are_apart [] = true
are_apart (p ∷ pairs) = not (names_row pairs p.row) && are_apart pairs

-- each pair names a row that is there, and none that is taken
abbrev pub are_free : List Entry → (List ℕ → Bool) → List Pair → Bool
are_free h taken pairs = list_all (λ (p : Pair). is_row h p.row && not (taken p.row)) pairs

-- a row's line may follow
abbrev pub row_fits : List Entry → List ℕ → Bool
row_fits h name = not (is_row h name) && nat_lt (length (rows_of h)) 10000

-- a column's line may follow
abbrev pub column_fits : List Entry → List ℕ → List Pair → Bool
column_fits h name pairs =
    ((goes_on h name || not (is_column h name)) && nat_lt (place_of h name) 10000)
    && ((are_free h (λ r. has (coefficients h) (place_of h name) r) pairs && are_apart pairs)
    && nat_le (length (coefficients h) + length pairs) 1000000)

-- right-hand sides or ranges may follow those given
abbrev pub given_fits : List Entry → List Pair → List Pair → Bool
given_fits h given pairs = are_free h (λ r. names_row given r) pairs && are_apart pairs

-- the entry may follow
abbrev pub fits : List Entry → Entry → Bool
fits h (row line kind name) = row_fits h name
fits h (column line name pairs) = column_fits h name pairs
fits h (sides set pairs) = given_fits h (sides_given h) pairs
fits h (ranges set pairs) = given_fits h (ranges_given h) pairs
fits h (bound set name change) = is_column h name
fits h _ = true

-- the number of a pair is a decimal
abbrev pub IsNumbered : Pair → Type 0
IsNumbered p = IsDecimal p.number

-- a column's line has a name and numbers
pub record IsColumnEntry (name : List ℕ) (pairs : List Pair) : Type 0 where
  pub named : IsName name
  pub numbers : All IsNumbered pairs

-- what the words of a line guarantee
abbrev pub IsProper : Entry → Type 0
IsProper (row line kind name) = IsName name
IsProper (column line name pairs) = IsColumnEntry name pairs
IsProper (sides set pairs) = All IsNumbered pairs
IsProper (ranges set pairs) = All IsNumbered pairs
IsProper (bound set name change) = IsBoundChange change
IsProper _ = Unit {0}

-- the entry may follow, and its words are proper
pub record IsGoodAfter (h : List Entry) (e : Entry) : Type 0 where
  pub fits : fits h e ≡ true
  pub entry : IsProper e

-- each entry is good after those before it
abbrev pub Good : List Entry → Type 0
Good [] = Unit {0}
Good (e ∷ h) = IsGoodAfter h e × Good h
