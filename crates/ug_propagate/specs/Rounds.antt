-- Bound propagation: rounds in which each row tightens the columns of its terms.
use Rattle.std.specs.Prelude.{ℕ, zero, suc, ℤ, pos, negsuc, ◌+◌, ◌-ℤ◌, neg_ℤ, Bool, true, false}
use Rattle.std.specs.Prelude.{◌&&◌, ◌||◌, List, [], ◌∷◌, slice_set, int_lt, if◌then◌else◌, Option}
use Rattle.std.specs.Prelude.{Some, None}
use Rattle.std.specs.Int.{int_div_euclid}
use Rattle.std.specs.Ordering.{int_eq}
use Rattle.ug_rows.specs.declared.area.Interval.{Interval}
use Rattle.ug_rows.specs.declared.row.Term.{Term}
use Rattle.ug_rows.specs.declared.row.Row.{Row}
use Rattle.ug_rows.specs.declared.row.Objective.{Objective}
use Rattle.ug_rows.specs.declared.sums.Extreme.{Extreme}
use Rattle.ug_rows.specs.declared.sums.Extreme.TheVariants.{Least, Greatest}
use Rattle.ug_rows.specs.Boxes.{interval_at}
use Rattle.ug_rows.specs.Sums.{end_product, end_sum, least_sum, greatest_sum}
use Rattle.ug_problem.specs.declared.column.NamedRow.{NamedRow}
use Rattle.ug_problem.specs.Instances.{Instance}
use Rattle.ug_propagate.specs.declared.tight.Tight.{Tight}
use Rattle.ug_propagate.specs.declared.tight.Tight.TheVariants.{Kept, Empty}
use Rattle.ug_propagate.specs.declared.tight.Reason.{Reason}
use Rattle.ug_propagate.specs.declared.tight.Side.{Side}
use Rattle.ug_propagate.specs.declared.tight.Side.TheVariants.{Low, High}

-- n / d, rounded down
abbrev pub floor_quotient : ℤ → ℤ → ℤ
floor_quotient n (pos d) = int_div_euclid n (pos d)
floor_quotient n (negsuc d) = int_div_euclid (neg_ℤ n) (pos (suc d))

-- n / d, rounded up
abbrev pub ceiling_quotient : ℤ → ℤ → ℤ
ceiling_quotient n d = neg_ℤ (floor_quotient (neg_ℤ n) d)

-- the row of this name, the objective where there is none, and this side of it
abbrev pub reason_of : Option ℕ → Side → Reason
reason_of name side = record { row = name; side = side }

-- column j satisfies at most q, if that is tighter
abbrev pub lower_high : Reason → ℕ → ℤ → List Interval → Tight
lower_high reason j q area =
    (if int_lt q (interval_at area j).high
    then (if int_lt q (interval_at area j).low
    then Empty reason
    else Kept (slice_set area j (record { low = (interval_at area j).low; high = q })))
    else Kept area)

-- column j satisfies at least q, if that is tighter
abbrev pub raise_low : Reason → ℕ → ℤ → List Interval → Tight
raise_low reason j q area =
    (if int_lt (interval_at area j).low q
    then (if int_lt (interval_at area j).high q
    then Empty reason
    else Kept (slice_set area j (record { low = q; high = (interval_at area j).high })))
    else Kept area)

-- the product of this coefficient and column j satisfies at most s
abbrev pub keep_at_most : Reason → ℤ → ℕ → ℤ → List Interval → Tight
keep_at_most reason (pos d) j s area = lower_high reason j (floor_quotient s (pos d)) area
keep_at_most reason (negsuc d) j s area = raise_low reason j (ceiling_quotient s (negsuc d)) area

-- the product of this coefficient and column j satisfies at least s
abbrev pub keep_at_least : Reason → ℤ → ℕ → ℤ → List Interval → Tight
keep_at_least reason (pos d) j s area = raise_low reason j (ceiling_quotient s (pos d)) area
keep_at_least reason (negsuc d) j s area = lower_high reason j (floor_quotient s (negsuc d)) area

-- the least or the greatest of the other terms over the box
abbrev pub end_of_others : Extreme → List Term → Term → List Interval → ℤ
end_of_others extreme terms t area = end_sum extreme terms area -ℤ end_product extreme t area

-- the term is at most the high side less the least of the other terms
abbrev pub under_high : Option ℕ → List Term → Option ℤ → Term → List Interval → Tight
under_high name terms None t area = Kept area
under_high name terms (Some high) t area =
    keep_at_most (reason_of name High) t.factor t.column (high -ℤ end_of_others Least terms t area)
    area

-- the term is at least the low side less the greatest of the other terms
abbrev pub over_low : Option ℕ → List Term → Option ℤ → Term → List Interval → Tight
over_low name terms None t area = Kept area
over_low name terms (Some low) t area =
    keep_at_least (reason_of name Low) t.factor t.column
    (low -ℤ end_of_others Greatest terms t area) area

-- the low side, after the high side
abbrev pub then_low : Option ℕ → Row → Term → Tight → Tight
then_low name row t (Empty reason) = Empty reason
then_low name row t (Kept area) = over_low name row.terms row.low t area

-- one term of a row: its column is tightened under the high side, then under the low side
abbrev pub term_step : Option ℕ → Row → Term → Tight → Tight
term_step name row t (Empty reason) = Empty reason
term_step name row t (Kept area) = then_low name row t (under_high name row.terms row.high t area)

-- these terms of a row, in order
abbrev pub over_terms : Option ℕ → Row → List Term → Tight → Tight
over_terms name row [] outcome = outcome
over_terms name row (t ∷ terms) outcome = over_terms name row terms (term_step name row t outcome)

-- the sum is above the high side, if there is one
abbrev pub exceeds : Option ℤ → ℤ → Bool
exceeds None sum = false
exceeds (Some high) sum = int_lt high sum

-- the sum is below the low side, if there is one
abbrev pub falls_short : Option ℤ → ℤ → Bool
falls_short None sum = false
falls_short (Some low) sum = int_lt sum low

-- one row: its least against the high side, its greatest against the low side, then its terms
abbrev pub row_step : Option ℕ → Row → List Interval → Tight
row_step name row area =
    (if exceeds row.high (least_sum row.terms area)
    then Empty (reason_of name High)
    else (if falls_short row.low (greatest_sum row.terms area)
    then Empty (reason_of name Low)
    else over_terms name row row.terms (Kept area)))

-- one row, where the box is not yet found empty
abbrev pub propagate_row : Option ℕ → Row → Tight → Tight
propagate_row name row (Empty reason) = Empty reason
propagate_row name row (Kept area) = row_step name row area

-- these rows in order, the first of them row r
abbrev pub over_rows : ℕ → List NamedRow → Tight → Tight
over_rows r [] outcome = outcome
over_rows r (named ∷ rows) outcome = over_rows (r + 1) rows (propagate_row (Some r) named.row outcome)

-- the objective as a row: its value is below the cutoff
abbrev pub cutoff_row : Objective → ℤ → Row
cutoff_row objective cutoff =
    record {
      terms = objective.terms;
      low = None;
      high = Some (cutoff -ℤ pos 1 -ℤ objective.constant);
    }

-- the objective, where there is a cutoff
abbrev pub over_objective : Objective → Option ℤ → Tight → Tight
over_objective objective None outcome = outcome
over_objective objective (Some cutoff) outcome = propagate_row None (cutoff_row objective cutoff) outcome

-- one round: the rows, then the objective
abbrev pub round : Instance → Option ℤ → Tight → Tight
round p cutoff outcome = over_objective p.objective cutoff (over_rows 0 p.rows outcome)

-- n rounds. After one that changes nothing no other changes anything, so they may end there
unfoldable pub rounds_of : ℕ → Instance → Option ℤ → Tight → Tight
rounds_of zero p cutoff outcome = outcome
rounds_of (suc n) p cutoff outcome = rounds_of n p cutoff (round p cutoff outcome)

-- whether each column has one value
abbrev pub are_fixed : List Interval → Bool
are_fixed [] = true
are_fixed (side ∷ sides) = int_eq side.low side.high && are_fixed sides

-- one more round, where all columns are fixed
abbrev pub last_round : Instance → Option ℤ → Tight → Tight
last_round p cutoff (Empty reason) = Empty reason
last_round p cutoff (Kept area) = (if are_fixed area then round p cutoff (Kept area) else Kept area)

-- whether some column has its low above its high
abbrev pub are_crossed : List Interval → Bool
are_crossed [] = false
are_crossed (side ∷ sides) = int_lt side.high side.low || are_crossed sides

-- the reason for a box without points: the row that is examined first, if there is one
abbrev pub crossed : List NamedRow → Option ℤ → List Interval → Tight
crossed [] None area = Kept area
crossed [] (Some cutoff) area = Empty (reason_of None High)
crossed (named ∷ rows) cutoff area = Empty (reason_of (Some 0) High)

-- what bound propagation makes of a box: 32 rounds, and one more where all columns are fixed
abbrev pub rounds : Instance → Option ℤ → List Interval → Tight
rounds p cutoff area =
    (if are_crossed area
    then crossed p.rows cutoff area
    else last_round p cutoff (rounds_of 32 p cutoff (Kept area)))
