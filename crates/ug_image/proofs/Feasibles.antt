-- The test of a point says whether it is feasible.
use Rattle.std.proofs.Common.{◌≡◌, ℕ, ℤ, zero, suc, ◌<◌, Bool, true, false, List, [], ◌∷◌, length, map, Option, None, Some, IfSome, refl, sym, ap, subst, arith}
use Rattle.std.specs.Prelude.{◌&&◌, ◌↔◌, ◌≤ℤ◌, not, int_le, slice_index_or, is_some, IsNone}
use Rattle.std.specs.List.{list_all}
use Rattle.std.proofs.lemmas.List.{get_or_default}
use Rattle.std.proofs.lemmas.List.Sums.{AllPass-from_list_all, list_all-from_AllPass}
use Rattle.ug_rows.specs.Boxes.{IsInside, IsWithin, interval_at, value_at}
use Rattle.ug_rows.specs.Rows.{Keeps}
use Rattle.ug_problem.specs.declared.column.Column.{Column}
use Rattle.ug_problem.specs.declared.column.NamedRow.{NamedRow}
use Rattle.ug_problem.specs.Instances.{Instance, bounds_of, no_row}
use Rattle.ug_problem.specs.Feasible.{Feasible}
use Rattle.ug_fields.proofs.Tests.{both_true, and_true, le_tells, le_told}
use Rattle.ug_image.specs.Reading.{is_inside, is_at_least, is_at_most, keeps, is_feasible}

-- the first column, or one of those behind it
each_inside : (column : Column) (columns : List Column) (value : ℤ) (values : List ℤ)
    → IsWithin (bounds_of column) value → IsInside (map bounds_of columns) values
    → (j : ℕ) → j < suc (length (map bounds_of columns))
    → IsWithin (interval_at (bounds_of column ∷ map bounds_of columns) j)
    (value_at (value ∷ values) j)
each_inside column columns value values first rest zero here = first
each_inside column columns value values first rest (suc j) here =
    rest.each j (omega (arith, here))

inside_tells : (columns : List Column) (x : List ℤ) → is_inside columns x ≡ true
    → IsInside (map bounds_of columns) x
inside_tells [] [] e = record { width = refl; each = λ j here. absurd (omega (arith, here)) }
inside_tells [] (value ∷ values) e = absurd cc
inside_tells (column ∷ columns) [] e = absurd cc
inside_tells (column ∷ columns) (value ∷ values) e =
    let b = both_true (int_le column.low value && int_le value column.high)
    (is_inside columns values) e in
    let w = both_true (int_le column.low value) (int_le value column.high) b.0 in
    let rest = inside_tells columns values b.1 in
    record {
      width = ap suc rest.width;
      each = each_inside column columns value values (record {
        low = le_tells column.low value w.0;
        high = le_tells value column.high w.1;
      }) rest;
    }

inside_told : (columns : List Column) (x : List ℤ) → IsInside (map bounds_of columns) x
    → is_inside columns x ≡ true
inside_told [] [] inside = refl
inside_told [] (value ∷ values) inside = absurd (omega (arith, inside.width))
inside_told (column ∷ columns) [] inside = absurd (omega (arith, inside.width))
inside_told (column ∷ columns) (value ∷ values) inside =
    let first = inside.each zero (omega arith) in
    and_true _ _
    (and_true _ _ (le_told column.low value first.low) (le_told value column.high first.high))
    (inside_told columns values (record {
      width = omega (arith, inside.width);
      each = λ j here. inside.each (suc j) (omega (arith, here));
    }))

at_least_tells : (side : Option ℤ) (sum : ℤ) → is_at_least side sum ≡ true
    → IfSome side (λ low. low ≤ℤ sum)
at_least_tells None sum e = tt
at_least_tells (Some low) sum e = le_tells low sum e

at_least_told : (side : Option ℤ) (sum : ℤ) → IfSome side (λ low. low ≤ℤ sum)
    → is_at_least side sum ≡ true
at_least_told None sum h = refl
at_least_told (Some low) sum h = le_told low sum h

at_most_tells : (side : Option ℤ) (sum : ℤ) → is_at_most side sum ≡ true
    → IfSome side (λ high. sum ≤ℤ high)
at_most_tells None sum e = tt
at_most_tells (Some high) sum e = le_tells sum high e

at_most_told : (side : Option ℤ) (sum : ℤ) → IfSome side (λ high. sum ≤ℤ high)
    → is_at_most side sum ≡ true
at_most_told None sum h = refl
at_most_told (Some high) sum h = le_told sum high h

keeps_tells : (x : List ℤ) (named : NamedRow) → keeps x named ≡ true → Keeps named.row x
keeps_tells x named e =
    let b = both_true (is_at_least named.row.low _) (is_at_most named.row.high _) e in
    record {
      low = at_least_tells named.row.low _ b.0;
      high = at_most_tells named.row.high _ b.1;
    }

keeps_told : (x : List ℤ) (named : NamedRow) → Keeps named.row x → keeps x named ≡ true
keeps_told x named h = and_true _ _ (at_least_told named.row.low _ h.low)
    (at_most_told named.row.high _ h.high)

pub feasible_tells : (p : Instance) (x : List ℤ) → is_feasible p x ≡ true → Feasible p x
unfolding is_feasible
feasible_tells p x e =
    let b = both_true (is_inside p.columns x) (list_all (keeps x) p.rows) e in
    record {
      inside = inside_tells p.columns x b.0;
      rows = λ r here. keeps_tells x (slice_index_or p.rows r no_row)
          (AllPass-from_list_all (keeps x) p.rows b.1 r no_row here);
    }

pub feasible_told : (p : Instance) (x : List ℤ) → Feasible p x → is_feasible p x ≡ true
unfolding is_feasible
feasible_told p x h = and_true _ _ (inside_told p.columns x h.inside)
    (list_all-from_AllPass (keeps x) p.rows (λ r d here.
    keeps_told x (slice_index_or p.rows r d)
    (subst (λ (named : NamedRow). Keeps named.row x) (get_or_default p.rows r no_row d here)
    (h.rows r here))))

not_told : (b : Bool) → (b ≡ true → ⊥) → false ≡ b
not_told true h = absurd (h refl)
not_told false h = refl

-- nothing is broken exactly where the test says that the point is feasible
pub none_broken : {B : Type 0} → (broken : Option B) (b : Bool) (p : Instance) (x : List ℤ)
    → is_some broken ≡ not b → IsNone broken ↔ Feasible p x → b ≡ is_feasible p x
none_broken None true p x e both = sym (feasible_told p x (both.0 refl))
none_broken None false p x e both = absurd cc
none_broken (Some broken) true p x e both = absurd cc
none_broken (Some broken) false p x e both = not_told (is_feasible p x) (λ t.
    let none : true ≡ false = both.1 (feasible_tells p x t) in absurd (cc none))
