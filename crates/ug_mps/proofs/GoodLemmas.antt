-- What a good history names, and the limits of its numbers and bounds.
use Rattle.std.proofs.Common.{ℕ, cond, unwrap_or, Bool, true, false, List, [], ◌∷◌, ◌++◌, All, IfSome, Option, Some, None, refl, arith, ⊎_elim, inr}
use Rattle.std.specs.Str.{bytes_eq}
use Rattle.std.proofs.lemmas.Bool.{cases_Bool}
use Rattle.std.proofs.lemmas.List.Elements.{All-nil, All-head, All-tail, All-append, All-push, All-map, All-filter}
use Rattle.ug_problem.specs.declared.decimal.Decimal.{Decimal}
use Rattle.ug_problem.specs.Decimals.{IsDecimal, zero_decimal}
use Rattle.ug_problem.specs.Instances.{IsName}
use Rattle.ug_drafts.specs.declared.bound.Bound.{Bound}
use Rattle.ug_drafts.specs.declared.bound.Bound.TheVariants.{Infinite}
use Rattle.ug_drafts.specs.declared.row.Factor.{Factor}
use Rattle.ug_drafts.specs.declared.role.Role.{Role}
use Rattle.ug_drafts.specs.declared.role.Role.TheVariants.{Objective}
use Rattle.ug_drafts.specs.Bounds.{IsSmall, or_bound}
use Rattle.ug_drafts.specs.Scales.{AreDecimals}
use Rattle.ug_drafts.specs.RowNumbers.{range_of}
use Rattle.ug_mps.specs.Entries.{Pair, Entry, row, column, sides, ranges, bound}
use Rattle.ug_mps.specs.Good.{Good, IsNumbered}
use Rattle.ug_mps.specs.History.{RowNamed, ColumnBegun, Coefficient, rows_of, columns_of, coefficients, sides_given, ranges_given, goes_on, place_of, placed, role_after, is_integer_on, low_set, high_set}
use Rattle.ug_mps.specs.Stated.{is_term, terms_of, factor_of, number_given, numbers_of}

-- ---- names

abbrev pub IsColumnNamed : ColumnBegun → Type 0
IsColumnNamed c = IsName c.name

abbrev pub IsRowNamed : RowNamed → Type 0
IsRowNamed r = IsName r.name

named_by : (b : Bool) (cs : List ColumnBegun) (c : ColumnBegun) → All IsColumnNamed cs → IsName c.name → All IsColumnNamed (cond b cs (cs ++ c ∷ []))
named_by true cs c h n = h
named_by false cs c h n = All-push IsColumnNamed cs c h n

pub columns_named : (h : List Entry) → Good h → All IsColumnNamed (columns_of h)
columns_named [] g = All-nil IsColumnNamed
columns_named (column line n pairs ∷ h) g = named_by (goes_on h n) (columns_of h) (record { line = line; name = n; integer = is_integer_on h }) (columns_named h g.1) g.0.entry.named
columns_named (_ ∷ h) g = columns_named h g.1

pub rows_named : (h : List Entry) → Good h → All IsRowNamed (rows_of h)
rows_named [] g = All-nil IsRowNamed
rows_named (row line k n ∷ h) g = All-push IsRowNamed (rows_of h) (record { line = line; role = role_after (rows_of h) k; name = n }) (rows_named h g.1) g.0.entry
rows_named (_ ∷ h) g = rows_named h g.1

-- ---- numbers

abbrev HasNumber : Coefficient → Type 0
HasNumber c = IsDecimal c.number

coefficients_numbered : (h : List Entry) → Good h → All HasNumber (coefficients h)
coefficients_numbered [] g = All-nil HasNumber
coefficients_numbered (column line n pairs ∷ h) g =
    All-append HasNumber (coefficients h) (placed (place_of h n) pairs) (coefficients_numbered h g.1)
    (All-map HasNumber (λ (p : Pair). let c : Coefficient = record { place = place_of h n; row = p.row; number = p.number } in c) pairs g.0.entry.numbers)
coefficients_numbered (_ ∷ h) g = coefficients_numbered h g.1

sides_numbered : (h : List Entry) → Good h → All IsNumbered (sides_given h)
sides_numbered [] g = All-nil IsNumbered
sides_numbered (sides set pairs ∷ h) g = All-append IsNumbered (sides_given h) pairs (sides_numbered h g.1) g.0.entry
sides_numbered (_ ∷ h) g = sides_numbered h g.1

ranges_numbered : (h : List Entry) → Good h → All IsNumbered (ranges_given h)
ranges_numbered [] g = All-nil IsNumbered
ranges_numbered (ranges set pairs ∷ h) g = All-append IsNumbered (ranges_given h) pairs (ranges_numbered h g.1) g.0.entry
ranges_numbered (_ ∷ h) g = ranges_numbered h g.1

given_numbered : (pairs : List Pair) (name : List ℕ) → All IsNumbered pairs → IfSome (number_given pairs name) IsDecimal
given_numbered [] name h = tt
given_numbered (p ∷ pairs) name h = ⊎_elim
    (λ t. rw t (All-head IsNumbered p pairs h))
    (λ f. rw f (given_numbered pairs name (All-tail IsNumbered p pairs h)))
    (cases_Bool (bytes_eq name p.row))

zero_is : IsDecimal zero_decimal
zero_is = record { short = omega arith; near = omega arith; lowest = inr refl }

or_zero : (o : Option Decimal) → IfSome o IsDecimal → IsDecimal (unwrap_or o zero_decimal)
or_zero None h = zero_is
or_zero (Some d) h = h

in_range : (role : Role) (o : Option Decimal) → IfSome o IsDecimal → IfSome (range_of role o) IsDecimal
in_range Objective o h = tt
in_range _ o h = h

-- the numbers of a row are decimals
pub decimals_of : (h : List Entry) → Good h → (r : RowNamed) → AreDecimals (numbers_of h r)
decimals_of h g r = record {
  terms = All-map (λ (f : Factor). IsDecimal f.number) factor_of (terms_of (coefficients h) r.name)
      (All-filter (is_term r.name) HasNumber (coefficients h) (coefficients_numbered h g));
  side = or_zero (number_given (sides_given h) r.name) (given_numbered (sides_given h) r.name (sides_numbered h g));
  range = in_range r.role (number_given (ranges_given h) r.name) (given_numbered (ranges_given h) r.name (ranges_numbered h g));
}

-- ---- bounds

or_small : (b c : Option Bound) → IfSome b IsSmall → IfSome c IsSmall → IfSome (or_bound b c) IsSmall
or_small (Some b) c h k = h
or_small None c h k = k

fallen_small : (falls : Bool) (old : Option Bound) → IfSome old IsSmall → IfSome (cond falls (or_bound old (Some Infinite)) old) IsSmall
fallen_small true old h = or_small old (Some Infinite) h tt
fallen_small false old h = h

pub lows_small : (h : List Entry) → Good h → (name : List ℕ) → IfSome (low_set h name) IsSmall
lows_small [] g name = tt
lows_small (bound set n change ∷ h) g name = ⊎_elim
    (λ t. rw t (or_small change.low (cond change.falls (or_bound (low_set h name) (Some Infinite)) (low_set h name)) g.0.entry.low (fallen_small change.falls (low_set h name) (lows_small h g.1 name))))
    (λ f. rw f (lows_small h g.1 name))
    (cases_Bool (bytes_eq name n))
lows_small (_ ∷ h) g name = lows_small h g.1 name

pub highs_small : (h : List Entry) → Good h → (name : List ℕ) → IfSome (high_set h name) IsSmall
highs_small [] g name = tt
highs_small (bound set n change ∷ h) g name = ⊎_elim
    (λ t. rw t (or_small change.high (high_set h name) g.0.entry.high (highs_small h g.1 name)))
    (λ f. rw f (highs_small h g.1 name))
    (cases_Bool (bytes_eq name n))
highs_small (_ ∷ h) g name = highs_small h g.1 name
