-- The numbers of a row: their scale, the sides, the limits, and the row or the objective that they
-- make.
use Rattle.std.specs.Prelude.{ℕ, ℤ, pos, neg_ℤ, ◌+ℤ◌, ◌-ℤ◌, ◌^◌, ◌||◌, max, nat_lt, unsigned_abs}
use Rattle.std.specs.Prelude.{int_lt, Bool, false, List, [], ◌∷◌, map, Option, Some, None}
use Rattle.std.specs.Prelude.{if◌then◌else◌}
use Rattle.std.specs.List.{list_any}
use Rattle.std.specs.Option.{option_map}
use Rattle.ug_rows.specs.declared.row.Term.{Term}
use Rattle.ug_rows.specs.declared.row.Objective as target
use Rattle.ug_problem.specs.declared.column.NamedRow.{NamedRow}
use Rattle.ug_problem.specs.declared.decimal.Decimal.{Decimal}
use Rattle.ug_problem.specs.Fractions.{places_of, scaled}
use Rattle.ug_drafts.specs.declared.role.Role.{Role}
use Rattle.ug_drafts.specs.declared.role.Role.TheVariants.{Objective, AtMost, AtLeast, Equal}
use Rattle.ug_drafts.specs.declared.row.Factor.{Factor}

-- the numbers of a row: its terms, its right-hand side, which is 0 by default, and its range, if
-- there is one
pub record Numbers : Type 0 where
  pub terms : List Factor
  pub side : Decimal
  pub range : Option Decimal

-- the objective has no range
abbrev pub range_of : Role → Option Decimal → Option Decimal
range_of Objective range = None
range_of role range = range

-- ---- scaling

-- the places of the number, if there is one
abbrev pub places_if : Option Decimal → ℕ
places_if None = 0
places_if (Some d) = places_of d

-- the most places behind the point of a coefficient
abbrev pub most_places : List Factor → ℕ
most_places [] = 0
most_places (f ∷ fs) = max (places_of f.number) (most_places fs)

-- the least power of ten that makes the numbers whole
abbrev pub scale_of : Numbers → ℕ
scale_of n = max (most_places n.terms) (max (places_of n.side) (places_if n.range))

-- the numbers times ten to the scale
abbrev pub scaled_term : ℕ → Factor → Term
scaled_term scale f = record { column = f.column; factor = scaled scale f.number }

abbrev pub scaled_terms : Numbers → List Term
scaled_terms n = map (scaled_term (scale_of n)) n.terms

abbrev pub scaled_side : Numbers → ℤ
scaled_side n = scaled (scale_of n) n.side

abbrev pub scaled_range : Numbers → Option ℤ
scaled_range n = option_map (scaled (scale_of n)) n.range

-- ---- sides

-- the absolute value
abbrev pub size : ℤ → ℤ
size z = pos (unsigned_abs z)

-- the low side of a row with a right-hand side and a range
abbrev pub low_side : Role → ℤ → Option ℤ → Option ℤ
low_side AtMost b (Some range) = Some (b -ℤ size range)
low_side AtLeast b range = Some b
low_side Equal b (Some range) = Some (if int_lt range (pos 0) then b +ℤ range else b)
low_side Equal b None = Some b
low_side _ b range = None

-- the high side
abbrev pub high_side : Role → ℤ → Option ℤ → Option ℤ
high_side AtMost b range = Some b
high_side AtLeast b (Some range) = Some (b +ℤ size range)
high_side Equal b (Some range) = Some (if int_lt range (pos 0) then b else b +ℤ range)
high_side Equal b None = Some b
high_side _ b range = None

-- ---- limits

-- the number is above the limit
abbrev pub is_above : ℕ → Option ℤ → Bool
is_above limit None = false
is_above limit (Some z) = nat_lt limit (unsigned_abs z)

-- a scale above 60, a coefficient above 10^24, or a right-hand side, a range or a side above 10^37
abbrev pub is_wide : Role → Numbers → Bool
is_wide role n = nat_lt 60 (scale_of n)
    || (list_any (λ (t : Term). is_above (10 ^ 24) (Some t.factor)) (scaled_terms n)
    || (is_above (10 ^ 37) (Some (scaled_side n)) || (is_above (10 ^ 37) (scaled_range n)
    || (is_above (10 ^ 37) (low_side role (scaled_side n) (scaled_range n))
    || is_above (10 ^ 37) (high_side role (scaled_side n) (scaled_range n))))))

-- ---- rows and the objective

-- a row as it is stated
abbrev pub row_of : List ℕ → Role → Numbers → NamedRow
row_of name role n = record {
  name = name;
  row = record {
    terms = scaled_terms n;
    low = low_side role (scaled_side n) (scaled_range n);
    high = high_side role (scaled_side n) (scaled_range n);
  };
}

-- a number with the sign that minimising wants
abbrev pub signed : Bool → ℤ → ℤ
signed maximise n = if maximise then neg_ℤ n else n

abbrev pub signed_terms : Bool → List Term → List Term
signed_terms maximise terms =
    map (λ (t : Term). record { column = t.column; factor = signed maximise t.factor }) terms

-- the objective of these numbers: its right-hand side is the constant, negated
abbrev pub objective_of : Bool → Numbers → target.Objective
objective_of maximise n = record {
  terms = signed_terms maximise (scaled_terms n);
  constant = signed maximise (neg_ℤ (scaled_side n));
  maximise = maximise;
  scale = scale_of n;
}

-- without an objective it is 0
abbrev pub no_objective : Bool → target.Objective
no_objective maximise = record { terms = []; constant = pos 0; maximise = maximise; scale = 0 }
