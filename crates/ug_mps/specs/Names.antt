-- Names, each with its place in their order, and their places by the order of their bytes.
use Rattle.std.specs.Prelude.{◌≡◌, ℕ, ◌<◌, ◌≤◌, List, [], length, slice_index_or, Contains, Result, MatchResult}
use Rattle.std.specs.Cmp.Lexicographic.{slice_cmp}
use Rattle.std.specs.Ordering.{nat_cmp}
use Rattle.std.specs.declared.cmp.Ordering.{Ordering}
use Rattle.std.specs.declared.cmp.Ordering.TheVariants.{Less}

-- the name at a place
abbrev pub name_at : List (List ℕ) → ℕ → List ℕ
name_at names j = slice_index_or names j []

-- the name is at the place
pub record StandsAt (names : List (List ℕ)) (name : List ℕ) (j : ℕ) : Type 0 where
  pub there : j < length names
  pub same : name_at names j ≡ name

-- no name is at two places
abbrev pub AreDistinct : List (List ℕ) → Type 0
AreDistinct names = (i j : ℕ) → i < length names → j < length names
    → name_at names i ≡ name_at names j → i ≡ j

-- how two names lie by their bytes
abbrev pub name_cmp : List ℕ → List ℕ → Ordering
name_cmp = slice_cmp nat_cmp

-- the name whose place stands so far on in the places
abbrev pub name_in : List (List ℕ) → List ℕ → ℕ → List ℕ
name_in names order k = name_at names (slice_index_or order k 0)

-- each place of a name is there and no other, and the names rise
pub record AreOrdered (names : List (List ℕ)) (order : List ℕ) : Type 0 where
  pub within : (k : ℕ) → k < length order → slice_index_or order k 0 < length names
  pub each : (j : ℕ) → j < length names → Contains order j
  pub rising : (i k : ℕ) → i < k → k < length order
      → name_cmp (name_in names order i) (name_in names order k) ≡ Less

-- the name is the one at the place that the order has there
pub record IsOrderedAt (names : List (List ℕ)) (order name : List ℕ) (k : ℕ) : Type 0 where
  pub there : k < length order
  pub same : name_in names order k ≡ name

-- the name would go there: names below it are before, and names above it from there on
pub record IsGapFor (names : List (List ℕ)) (order name : List ℕ) (k : ℕ) : Type 0 where
  pub there : k ≤ length order
  pub below : (i : ℕ) → i < k → name_cmp (name_in names order i) name ≡ Less
  pub above : (i : ℕ) → k ≤ i → i < length order → name_cmp name (name_in names order i) ≡ Less

-- the place of the name in the order, or where it would go
abbrev pub IsSearched : List (List ℕ) → List ℕ → List ℕ → Result ℕ ℕ → Type 0
IsSearched names order name result =
    MatchResult result (IsOrderedAt names order name) (IsGapFor names order name)
