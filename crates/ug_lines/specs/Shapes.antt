-- What the words of a data line are, by their section and their number.
use Rattle.std.specs.Prelude.{ℕ, List, [], ◌∷◌, Option, Some, None, codes, if◌then◌else◌}
use Rattle.std.specs.Prelude.{option_and_then}
use Rattle.std.specs.Option.{option_map}
use Rattle.std.specs.Str.{bytes_eq}
use Rattle.ug_lines.specs.declared.section.Section.{Section}
use Rattle.ug_lines.specs.declared.section.Section.TheVariants.{Objsense, Rows, Columns, Rhs}
use Rattle.ug_lines.specs.declared.section.Section.TheVariants.{Ranges, Bounds}
use Rattle.ug_lines.specs.declared.kinds.BoundKind.{BoundKind}
use Rattle.ug_lines.specs.Kinds.{bound_kind_of, takes_number}

-- a row's name and the word of a number
pub record WordPair : Type 0 where
  pub row : List ℕ
  pub number : List ℕ

-- what the words of a line are
pub data Shape : Type 0 where
  sense : List ℕ → Shape
  row : List ℕ → List ℕ → Shape
  marker : List ℕ → Shape
  column : List ℕ → List WordPair → Shape
  sides : Option (List ℕ) → List WordPair → Shape
  bound : BoundKind → Option (List ℕ) → List ℕ → Option (List ℕ) → Shape
  either : BoundKind → List ℕ → List ℕ → Shape

-- a row's name and the word of its number
abbrev pub pair : List ℕ → List ℕ → WordPair
pair name word = record { row = name; number = word }

-- one or two pairs
abbrev pub pairs_of : List (List ℕ) → Option (List WordPair)
pairs_of (r ∷ n ∷ []) = Some (pair r n ∷ [])
pairs_of (r ∷ n ∷ s ∷ m ∷ []) = Some (pair r n ∷ pair s m ∷ [])
pairs_of _ = None

-- a column and its pairs
abbrev pub coefficients_of : List (List ℕ) → Option Shape
coefficients_of [] = None
coefficients_of (name ∷ more) = option_map (λ pairs. column name pairs) (pairs_of more)

-- a line of COLUMNS: a marker of three words, or a column and its pairs
abbrev pub column_of : List (List ℕ) → Option Shape
column_of (name ∷ second ∷ third ∷ []) =
    if bytes_eq second (codes "'MARKER'") then Some (marker third)
    else coefficients_of (name ∷ second ∷ third ∷ [])
column_of words = coefficients_of words

-- a line of RHS or RANGES: pairs, with a set's name before them where the number of words is odd
abbrev pub sides_of : List (List ℕ) → Option Shape
sides_of (r ∷ n ∷ []) = Some (sides None (pair r n ∷ []))
sides_of (set ∷ r ∷ n ∷ []) = Some (sides (Some set) (pair r n ∷ []))
sides_of (r ∷ n ∷ s ∷ m ∷ []) = Some (sides None (pair r n ∷ pair s m ∷ []))
sides_of (set ∷ r ∷ n ∷ s ∷ m ∷ []) = Some (sides (Some set) (pair r n ∷ pair s m ∷ []))
sides_of _ = None

-- a bound with a number, behind its type: a set's name, if there is one, a column and the number
abbrev pub numbered_bound_of : BoundKind → List (List ℕ) → Option Shape
numbered_bound_of kind (name ∷ number ∷ []) = Some (bound kind None name (Some number))
numbered_bound_of kind (set ∷ name ∷ number ∷ []) = Some (bound kind (Some set) name (Some number))
numbered_bound_of kind _ = None

-- a bound without a number, behind its type: a column; a set's name, a column and a word that is
-- not examined; or two words, a set's name and a column or a column and a word that is not looked
-- at
abbrev pub bare_bound_of : BoundKind → List (List ℕ) → Option Shape
bare_bound_of kind (name ∷ []) = Some (bound kind None name None)
bare_bound_of kind (first ∷ second ∷ []) = Some (either kind first second)
bare_bound_of kind (set ∷ name ∷ word ∷ []) = Some (bound kind (Some set) name None)
bare_bound_of kind _ = None

-- a bound, behind its type
abbrev pub bound_of_kind : BoundKind → List (List ℕ) → Option Shape
bound_of_kind kind words = if takes_number kind then numbered_bound_of kind words
    else bare_bound_of kind words

-- a line of BOUNDS
abbrev pub bound_of : List (List ℕ) → Option Shape
bound_of [] = None
bound_of (type ∷ words) = option_and_then (λ kind. bound_of_kind kind words) (bound_kind_of type)

-- a line of ROWS: a type and a name
abbrev pub row_of : List (List ℕ) → Option Shape
row_of (type ∷ name ∷ []) = Some (row type name)
row_of _ = None

-- a line of OBJSENSE: one word
abbrev pub sense_of : List (List ℕ) → Option Shape
sense_of (word ∷ []) = Some (sense word)
sense_of _ = None

-- what the words of a data line are, in its section; nothing where their number is wrong
abbrev pub shape_of : Section → List (List ℕ) → Option Shape
shape_of Objsense words = sense_of words
shape_of Rows words = row_of words
shape_of Columns words = column_of words
shape_of Rhs words = sides_of words
shape_of Ranges words = sides_of words
shape_of Bounds words = bound_of words
shape_of _ words = None
