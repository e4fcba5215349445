-- The instance of a seed and a size: a knapsack of three rows, whose profit is maximised.
use Rattle.std.specs.Prelude.{ℕ, pos, neg_ℤ, ◌+◌, ◌*◌, ◌/◌, ◌%◌, true, List, [], ◌∷◌, None, Some}
use Rattle.std.specs.List.{sum}
use Rattle.std.specs.Fmt.{decimal}
use Rattle.ug_rows.specs.declared.row.Term.{Term}
use Rattle.ug_rows.specs.declared.row.Objective.{Objective}
use Rattle.ug_problem.specs.declared.column.Column.{Column}
use Rattle.ug_problem.specs.declared.column.NamedRow.{NamedRow}
use Rattle.ug_problem.specs.Instances.{Instance}
use Rattle.ug_gen.specs.Draws.{draw, each}

-- the profit of column j, counted from 0: of the four draws of a column the first
abbrev pub profit : ℕ → ℕ → ℕ
profit seed j = 1 + draw seed (4 * j) % 100

-- the weight of column j in row r, counted from 1: the draw r places behind the profit's
abbrev pub weight : ℕ → ℕ → ℕ → ℕ
weight seed r j = 1 + draw seed (4 * j + r) % 50

-- a letter, and a number in decimal digits
abbrev pub named : ℕ → ℕ → List ℕ
named letter n = letter ∷ decimal n

-- column j, which is named C1 where j is 0: it is taken or not
abbrev pub column : ℕ → Column
column j = record { name = named 67 (j + 1); low = pos 0; high = pos 1 }

-- what column j adds to the weights of row r
abbrev pub weight_term : ℕ → ℕ → ℕ → Term
weight_term seed r j = record { column = j; factor = pos (weight seed r j) }

-- what column j adds to what is minimised: its profit is lost
abbrev pub profit_term : ℕ → ℕ → Term
profit_term seed j = record { column = j; factor = neg_ℤ (pos (profit seed j)) }

-- row r: its weighted sum is at most half of the sum of its weights, rounded down
abbrev pub row : ℕ → ℕ → ℕ → NamedRow
row seed size r = record {
  name = named 82 r;
  row = record {
    terms = each (weight_term seed r) size;
    low = None;
    high = Some (pos (sum (each (weight seed r) size) / 2));
  };
}

-- the profit, maximised
abbrev pub objective : ℕ → ℕ → Objective
objective seed size = record {
  terms = each (profit_term seed) size;
  constant = pos 0;
  maximise = true;
  scale = 0;
}

-- the whole instance
abbrev pub instance : ℕ → ℕ → Instance
instance seed size = record {
  columns = each column size;
  rows = row seed size 1 ∷ row seed size 2 ∷ row seed size 3 ∷ [];
  objective = objective seed size;
}
