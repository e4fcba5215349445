-- Rows that follow from a problem's own, from a box and from a cutoff.
use Rattle.std.proofs.Common.{◌≡◌, ◌∙◌, refl, sym, ap, subst, inl, inr, ℕ, ◌*◌, ◌^◌, ◌<◌, ◌≤◌, ℤ, pos, negsuc, ◌+ℤ◌, ◌≤ℤ◌, ◌<ℤ◌, List, [], ◌∷◌, length, unsigned_abs, All, Option, Some, None, IfSome, arith, get_or, set}
use Rattle.std.proofs.lemmas.Int.{ints}
use Rattle.std.proofs.lemmas.Bool.{cases_eq}
use Rattle.std.proofs.lemmas.List.{get_or-set_other, get_or-set_same, get_or_append_left, length-append, length-set}
use Rattle.std.proofs.lemmas.List.Elements.{All-cons, All-from_get_or, All-get_or, All-nil, All-push, All-set, All-weaker}
use Rattle.ug_rows.specs.declared.area.Interval.{Interval}
use Rattle.ug_rows.specs.declared.row.Row.{Row}
use Rattle.ug_rows.specs.Boxes.{IsInside}
use Rattle.ug_rows.specs.Rows.{IsLinear, Keeps, sum_at, value_of}
use Rattle.ug_problem.specs.declared.column.NamedRow.{NamedRow}
use Rattle.ug_problem.specs.Better.{IsGood}
use Rattle.ug_problem.specs.Instances.{AreTerms, Instance, IsFormed, IsName, IsRow, IsWordByte, instance_of, no_row, row_at}
use Rattle.ug_problem.specs.Limits.{IsNarrow, IsProblem}
use Rattle.ug_problem.proofs.Linear.{linear_row}
use Rattle.ug_surrogate.specs.declared.rounding.Sides.{Sides}
use Rattle.ug_surrogate.specs.declared.rounding.Narrowed.TheVariants.{To, Empty}
use Rattle.ug_surrogate.specs.declared.multipliers.Multipliers.{Multipliers}
use Rattle.ug_surrogate.specs.Implied.{IsImplied}
use Rattle.ug_surrogate.specs.Rounding.{HasSmallSides, IsNarrower, LosesNone}
use Rattle.ug_surrogate.specs.Stronger.{Follows, IsAtMost, IsCutoffOver, IsFurtherRow, IsFurtherSum, IsInPlaceOf, IsPushed, IsPutAt, StandFor}
use Rattle.ug_surrogate.specs.Weights.{AreMultipliers}
use Rattle.ug_surrogate.proofs.Combined.{implied_is_kept}

pub star_is_name : IsName (42 ∷ [])
star_is_name = record {
  some = omega arith;
  short = omega arith;
  bytes = All-cons IsWordByte 42 [] (inl (omega arith, omega arith)) (All-nil IsWordByte);
}

-- a row with its sides rounded over the box
pub rounded_in_place : (p : Instance) (area : List Interval) (r : ℕ) (sides : Sides) → IsProblem p
    → r < length p.rows → LosesNone (row_at p r) area (To sides) → IsNarrower (row_at p r) (To sides)
    → IsInPlaceOf p area r
    (record { terms = (row_at p r).terms; low = sides.low; high = sides.high })
rounded_in_place p area r sides problem there is_lock narrower = record {
  further = record {
    formed = (All-get_or (IsRow (length p.columns)) p.rows r no_row there problem.formed.rows).terms;
    kept = λ x inside good.
        let k = is_lock x inside (good.feasible.rows r there) in record { low = k.low; high = k.high };
  };
  back = λ x keeps.
      let k = narrower (sum_at (row_at p r).terms x)
      (record { low = keeps.low; high = keeps.high }) in
      record { low = k.low; high = k.high };
}

-- one that no point satisfies, where rounding leaves nothing of the sides
pub none_in_place : (p : Instance) (area : List Interval) (r : ℕ) → r < length p.rows
    → LosesNone (row_at p r) area Empty
    → IsInPlaceOf p area r (record { terms = []; low = None; high = Some (negsuc 0) })
none_in_place p area r there is_lock = record {
  further = record {
    formed = record {
      rising = λ i k a b. absurd (omega arith);
      within = λ k a. absurd (omega arith);
      nonzero = λ k a. absurd (omega arith);
    };
    kept = λ x inside good. absurd (is_lock x inside (good.feasible.rows r there));
  };
  back = λ x keeps. absurd (none_keeps keeps.high);
}
  where
    none_keeps : (pos 0) ≤ℤ (negsuc 0) → ⊥
    none_keeps h = omega (arith, ints, h)

-- a row of a problem is linear over a box of its columns
pub linear_at : (p : Instance) (area : List Interval) (r : ℕ) → IsProblem p → r < length p.rows
    → length area ≡ length p.columns → IsLinear (length area) (row_at p r).terms
linear_at p area r problem there width =
    subst (λ (n : ℕ). IsLinear n (row_at p r).terms) (sym width) (linear_row p r problem there)

side_small : (side : Option ℤ) → IfSome side (λ s. unsigned_abs s ≤ 10 ^ 37)
    → IfSome side (λ s. unsigned_abs s ≤ 3 * 10 ^ 37)
side_small None h = tt
side_small (Some s) h = omega (arith, h)

pub sides_small : (row : Row) → IsNarrow row → HasSmallSides row
sides_small row narrow = record {
  low = side_small row.low narrow.low;
  high = side_small row.high narrow.high;
}

-- a point below one more than the greatest value
next_over : (v most : ℤ) → v ≤ℤ most → v <ℤ (most +ℤ pos 1)
next_over v most h = omega (arith, ints, h)

pub over_most : (p : Instance) (area : List Interval) (most : ℤ) → IsAtMost p area most
    → IsCutoffOver p area None (most +ℤ pos 1)
over_most p area most h x inside good = record {
  feasible = good.feasible;
  less = next_over (value_of p.objective x) most (h x inside);
}

-- the greatest sum and the constant make the greatest value
pub at_most : (p : Instance) (area : List Interval) (greatest : ℤ)
    → ((x : List ℤ) → IsInside area x → sum_at p.objective.terms x ≤ℤ greatest)
    → IsAtMost p area (greatest +ℤ p.objective.constant)
at_most p area greatest h x inside = let k = h x inside in omega (arith, ints, k)

pub over_itself : (p : Instance) (area : List Interval) (c : ℤ) → IsCutoffOver p area (Some c) c
over_itself p area c x inside good = good

-- the problem's own rows
pub own_stand : (p : Instance) (area : List Interval) (rows : List NamedRow) → IsProblem p
    → rows ≡ p.rows → StandFor p area None rows
own_stand p area rows problem same = subst (StandFor p area None) (sym same) (record {
  wide = omega arith;
  each = All-from_get_or (IsFurtherRow p area None) p.rows no_row (λ r there. record {
    formed = All-get_or (IsRow (length p.columns)) p.rows r no_row there problem.formed.rows;
    kept = λ x inside good. good.feasible.rows r there;
  });
  back = λ r there x keeps. keeps;
})

-- one row in the place of another
pub put_stand : (p : Instance) (area : List Interval) (r : ℕ) (row : Row) (old new : List NamedRow)
    → StandFor p area None old → IsInPlaceOf p area r row → IsPutAt r row old new
    → r < length p.rows → StandFor p area None new
put_stand p area r row old new stand in_place put there =
    let P : NamedRow → Type 0 = IsFurtherRow p area None in
    let below : r < length old = omega (arith, there, stand.wide) in
    let named : NamedRow = record (get_or old r no_row) { row = row } in
    let before : P (get_or old r no_row) = All-get_or P old r no_row below stand.each in
    let is : P named = record {
      formed = record { name = before.formed.name; terms = in_place.further.formed };
      kept = in_place.further.kept;
    } in
    subst (StandFor p area None) (sym put) (record {
      wide = omega (arith, stand.wide, length-set old r named);
      each = All-set P old r named is stand.each;
      back = λ k lt x keeps. elim (cases_eq k r) [
        | inl same ↦ subst (λ (n : ℕ). Keeps (row_at p n) x) (sym same)
            (in_place.back x
            (subst (λ (n : NamedRow). Keeps n.row x)
            (ap (λ (n : ℕ). get_or (set old r named) n no_row) same
            ∙ get_or-set_same old r named no_row below) keeps))
        | inr other ↦ stand.back k lt x
            (subst (λ (n : NamedRow). Keeps n.row x)
            (get_or-set_other old r k named no_row other) keeps)
      ];
    })

-- one more row behind the others
pub more_pushed : (p : Instance) (area : List Interval) (cutoff : Option ℤ) (old new : List NamedRow)
    (row : Row) → StandFor p area cutoff old → IsFurtherSum p area cutoff row
    → IsPushed row old new → StandFor p area cutoff new
more_pushed p area cutoff old new row stand sum pushed =
    let named : NamedRow = pushed.named in
    let is : IsFurtherRow p area cutoff named = record {
      formed = record {
        name = pushed.name;
        terms = subst (λ (r : Row). AreTerms (length p.columns) r.terms) (sym pushed.row) sum.formed;
      };
      kept = subst (λ (r : Row). (x : List ℤ) → IsInside area x → IsGood p cutoff x → Keeps r x)
          (sym pushed.row) sum.kept;
    } in
    subst (StandFor p area cutoff) (sym pushed.put) (record {
      wide = omega (arith, stand.wide, length-append old (named ∷ []));
      each = All-push (IsFurtherRow p area cutoff) old named stand.each is;
      back = λ r there x keeps. stand.back r there x
          (subst (λ (n : NamedRow). Keeps n.row x)
          (get_or_append_left old (named ∷ []) no_row r (omega (arith, there, stand.wide))) keeps);
    })

-- the row that multipliers imply
pub implied_follows : (p : Instance) (area : List Interval) (m : Multipliers) (cutoff : ℤ) (row : Row)
    → AreMultipliers p m → IsImplied p m cutoff row → IsFurtherSum p area (Some cutoff) row
implied_follows p area m cutoff row are is = record {
  formed = is.terms;
  kept = λ x inside good. implied_is_kept p m cutoff row are is x good;
}

-- what each feasible point satisfies, each with a value below a cutoff does
pub more_under : (p : Instance) (area : List Interval) (cutoff : ℤ) (rows : List NamedRow)
    → StandFor p area None rows → StandFor p area (Some cutoff) rows
more_under p area cutoff rows stand = record {
  wide = stand.wide;
  each = All-weaker (IsFurtherRow p area None) (IsFurtherRow p area (Some cutoff))
      (λ named is. record {
        formed = is.formed;
        kept = λ x inside good. is.kept x inside (record { feasible = good.feasible; less = tt });
      }) rows stand.each;
  back = stand.back;
}

pub more_formed : (p : Instance) (area : List Interval) (cutoff : Option ℤ) (rows : List NamedRow)
    → StandFor p area cutoff rows → All (IsRow (length p.columns)) rows
more_formed p area cutoff rows stand =
    All-weaker (IsFurtherRow p area cutoff) (IsRow (length p.columns)) (λ named is. is.formed) rows
    stand.each

pub formed_with : (p : Instance) (rows : List NamedRow) → IsProblem p → All (IsRow (length p.columns)) rows
    → IsFormed (instance_of p.columns rows p.objective)
formed_with p rows problem each = record {
  columns = problem.formed.columns;
  rows = each;
  objective = problem.formed.objective;
  scale = problem.formed.scale;
}

-- a problem with rows that stand for its own under a cutoff over all values follows from it
pub follows_over : (p : Instance) (area : List Interval) (cutoff : Option ℤ) (over : ℤ)
    (rows : List NamedRow) (s : Instance) → IsCutoffOver p area cutoff over
    → StandFor p area (Some over) rows → s ≡ record p { rows = rows } → Follows p area cutoff s
follows_over p area cutoff over rows s is stand same =
    let P : NamedRow → Type 0 = IsFurtherRow p area (Some over) in
    subst (Follows p area cutoff) (sym same) (record {
      columns = refl;
      objective = refl;
      back = λ x feasible. record {
        inside = feasible.inside;
        rows = λ r there. stand.back r there x
            (feasible.rows r (omega (arith, there, stand.wide)));
      };
      kept = λ x inside good. record {
        inside = good.feasible.inside;
        rows = λ r there. (All-get_or P rows r no_row there stand.each).kept x inside
            (is x inside good);
      };
    })
