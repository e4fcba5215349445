-- Worked texts: a knapsack of three columns and three rows, and what it states.
use Rattle.std.specs.Prelude.{ℕ, ℤ, pos, negsuc, List, [], ◌∷◌, ◌++◌, codes, true, false, Some}
use Rattle.std.specs.Prelude.{None}
use Rattle.ug_rows.specs.declared.row.Term.{Term}
use Rattle.ug_problem.specs.declared.column.Column.{Column}
use Rattle.ug_problem.specs.declared.column.NamedRow.{NamedRow}
use Rattle.ug_problem.specs.Instances.{Instance}

-- the bytes of these lines
abbrev pub text_of : List (List ℕ) → List ℕ
text_of [] = []
text_of (line ∷ lines) = line ++ 10 ∷ text_of lines

-- the knapsack's lines up to its right-hand sides
abbrev pub knapsack_rows : List (List ℕ)
knapsack_rows =
    codes "NAME SMALL" ∷ codes "OBJSENSE MAX" ∷ codes "ROWS" ∷ codes " N Z" ∷ codes " L P"
    ∷ codes " L Q" ∷ codes " L R" ∷ codes "COLUMNS"
    ∷ codes " M 'MARKER' 'INTORG'" ∷ codes " A Z 5 P 2" ∷ codes " A Q 4 R 3" ∷ codes " B Z 4 P 3"
    ∷ codes " B Q 1 R 4" ∷ codes " C Z 3 P 1"
    ∷ codes " C Q 2 R 2" ∷ codes " M 'MARKER' 'INTEND'" ∷ codes "RHS" ∷ codes " S P 5 Q 11"
    ∷ codes " S R 8" ∷ codes "BOUNDS" ∷ codes " UP D A 10"
    ∷ codes " UP D B 10" ∷ []

-- a column from 0 to 10, a term, and a row of at most b over the three columns
abbrev pub to_ten : List ℕ → Column
to_ten name = record { name = name; low = pos 0; high = pos 10 }

abbrev pub term : ℕ → ℤ → Term
term column factor = record { column = column; factor = factor }

abbrev pub at_most : List ℕ → ℤ → ℤ → ℤ → ℤ → NamedRow
at_most name a b c side =
    record {
      name = name;
      row =
          record { terms = term 0 a ∷ term 1 b ∷ term 2 c ∷ []; low = None; high = Some side };
    }

-- the knapsack as a problem: it is minimised, so the objective is negated
abbrev pub knapsack : Instance
knapsack = record {
  columns = to_ten (codes "A") ∷ to_ten (codes "B") ∷ to_ten (codes "C") ∷ [];
  rows = at_most (codes "P") (pos 2) (pos 3) (pos 1) (pos 5)
      ∷ at_most (codes "Q") (pos 4) (pos 1) (pos 2) (pos 11)
      ∷ at_most (codes "R") (pos 3) (pos 4) (pos 2) (pos 8) ∷ [];
  objective = record {
    terms = term 0 (negsuc 4) ∷ term 1 (negsuc 3) ∷ term 2 (negsuc 2) ∷ [];
    constant = pos 0;
    maximise = true;
    scale = 0;
  };
}

-- two columns with fractions in the objective
abbrev pub fractions_text : List ℕ
fractions_text = text_of
    (codes "ROWS" ∷ codes " N Z" ∷ codes " G P" ∷ codes "COLUMNS" ∷ codes " M 'MARKER' 'INTORG'"
    ∷ codes " X Z 0.5 P 1" ∷ codes " Y Z 1.25 P 1"
    ∷ codes "RHS" ∷ codes " P 3" ∷ codes "BOUNDS" ∷ codes " UP X 2" ∷ codes " UP Y 5"
    ∷ codes "ENDATA" ∷ [])

-- what it states: the objective in hundredths
abbrev pub fractions : Instance
fractions = record {
  columns = record { name = codes "X"; low = pos 0; high = pos 2 }
      ∷ record { name = codes "Y"; low = pos 0; high = pos 5 } ∷ [];
  rows = record {
    name = codes "P";
    row = record {
      terms = term 0 (pos 1) ∷ term 1 (pos 1) ∷ [];
      low = Some (pos 3);
      high = None;
    };
  } ∷ [];
  objective = record {
    terms = term 0 (pos 50) ∷ term 1 (pos 125) ∷ [];
    constant = pos 0;
    maximise = false;
    scale = 2;
  };
}

-- one column with a negative upper bound and no lower one
abbrev pub falling_text : List ℕ
falling_text = text_of (codes "ROWS" ∷ codes " N Z" ∷ codes "COLUMNS" ∷ codes " M 'MARKER' 'INTORG'"
    ∷ codes " X Z 1" ∷ codes "BOUNDS" ∷ codes " UP D X -3" ∷ codes "ENDATA" ∷ [])

-- what it states in a box of 50
abbrev pub falling : Instance
falling = record {
  columns = record { name = codes "X"; low = negsuc 49; high = negsuc 2 } ∷ [];
  rows = [];
  objective = record { terms = term 0 (pos 1) ∷ []; constant = pos 0; maximise = false; scale = 0 };
}

-- a row that is named on a line with a word that is no number
abbrev pub unknown_text : List ℕ
unknown_text = text_of (codes "ROWS" ∷ codes " N Z" ∷ codes "COLUMNS" ∷ codes " M 'MARKER' 'INTORG'"
    ∷ codes " X Q 1e" ∷ [])
