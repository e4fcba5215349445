-- What rounds do to a box.
use Rattle.std.proofs.Common.{◌≡◌, refl, sym, subst, ◌∙◌, ap, ℕ, zero, suc, ◌+◌, ◌<◌, ℤ, pos, ◌+ℤ◌, ◌-ℤ◌, ◌≤ℤ◌, ◌<ℤ◌, List, [], ◌∷◌, length, slice_index_or, Option, Some, None, arith}
use Rattle.std.proofs.lemmas.Int.{ints}
use Rattle.std.proofs.lemmas.List.Elements.{All-get_or}
use Rattle.ug_rows.specs.declared.area.Interval.{Interval}
use Rattle.ug_rows.specs.declared.row.Row.{Row}
use Rattle.ug_rows.specs.Boxes.{IsInside, IsNonEmpty}
use Rattle.ug_rows.specs.Rows.{Keeps, sum_at}
use Rattle.ug_rows.proofs.EndBounds.{AreThere}
use Rattle.ug_problem.specs.declared.column.NamedRow.{NamedRow}
use Rattle.ug_problem.specs.Instances.{Instance, IsRow, no_row, row_at}
use Rattle.ug_problem.specs.Limits.{IsProblem}
use Rattle.ug_problem.proofs.Linear.{linear_row, linear_objective}
use Rattle.ug_propagate.specs.declared.tight.Tight.{Tight}
use Rattle.ug_propagate.specs.declared.tight.Tight.TheVariants.{Kept, Empty}
use Rattle.ug_propagate.specs.declared.tight.Reason.{Reason}
use Rattle.ug_propagate.specs.Rounds.{cutoff_row, propagate_row, over_rows, over_objective, round, rounds_of, row_step}
use Rattle.ug_problem.specs.Better.{IsGood}
use Rattle.ug_propagate.specs.Claims.{IsMissed, IsNamed, KeepsGood}
use Rattle.ug_propagate.proofs.Parts.{IsPart, part_trans, part_nonempty, part_same}
use Rattle.ug_propagate.proofs.Looks.{IsPropagationOf, IsPartFor, IsUsable, missed_none, row_propagation, usable_terms}

-- the rows are those of the problem from row r on
abbrev pub AreRowsFrom : Instance → ℕ → List NamedRow → Type 0
AreRowsFrom p r [] = Unit {0}
AreRowsFrom p r (named ∷ rows) = (r < length p.rows) × (named.row ≡ row_at p r) × AreRowsFrom p (r + 1) rows

pub rows_from : (p : Instance) (r : ℕ) (rest : List NamedRow)
    → ((k : ℕ) → k < length rest → (r + k < length p.rows) × (slice_index_or rest k no_row ≡ slice_index_or p.rows (r + k) no_row))
    → AreRowsFrom p r rest
rows_from p r [] h = tt
rows_from p r (named ∷ rest) h =
    let at : ℕ → NamedRow = λ (i : ℕ). slice_index_or p.rows i no_row in
    let first : (r + 0 < length p.rows) × (named ≡ slice_index_or p.rows (r + 0) no_row) = h 0 (omega arith) in
    let zero_more : r + 0 ≡ r = omega arith in
    let same : named ≡ slice_index_or p.rows r no_row = first.1 ∙ ap at zero_more in (
      omega (arith, first.0),
      ap (λ (n : NamedRow). n.row) same,
      rows_from p (r + 1) rest (λ k lt.
          let next : (r + suc k < length p.rows) × (slice_index_or rest k no_row ≡ slice_index_or p.rows (r + suc k) no_row) =
          h (suc k) (omega arith) in
          let one_more : r + suc k ≡ r + 1 + k = omega arith in
          (omega (arith, next.0), next.1 ∙ ap at one_more)),
    )

pub all_rows_from : (p : Instance) → AreRowsFrom p 0 p.rows
all_rows_from p =
    let at : ℕ → NamedRow = λ (i : ℕ). slice_index_or p.rows i no_row in
    rows_from p 0 p.rows (λ k lt. let e : k ≡ 0 + k = omega arith in (omega arith, ap at e))

pub usable_row : (p : Instance) (r : ℕ) → IsProblem p → r < length p.rows → IsUsable (length p.columns) (row_at p r).terms
usable_row p r problem there =
    let formed : IsRow (length p.columns) (slice_index_or p.rows r no_row) =
    All-get_or (IsRow (length p.columns)) p.rows r no_row there problem.formed.rows in
    usable_terms (length p.columns) (row_at p r).terms (linear_row p r problem there) formed.terms.nonzero

pub usable_named : (p : Instance) (r : ℕ) (row : Row) → IsProblem p → r < length p.rows → row ≡ row_at p r
    → IsUsable (length p.columns) row.terms
usable_named p r row problem there same =
    let P : Row → Type 0 = λ (w : Row). IsUsable (length p.columns) w.terms in
    subst P (sym same) (usable_row p r problem there)

pub usable_objective : (p : Instance) → IsProblem p → IsUsable (length p.columns) p.objective.terms
usable_objective p problem =
    usable_terms (length p.columns) p.objective.terms (linear_objective p problem) problem.formed.objective.nonzero

-- a part of the box that has each good point of it
pub record IsGoodPart (p : Instance) (cutoff : Option ℤ) (inner outer : List Interval) : Type 0 where
  pub part : IsPart inner outer
  pub kept : (x : List ℤ) → IsInside outer x → IsGood p cutoff x → IsInside inner x

pub good_part_same : (p : Instance) (cutoff : Option ℤ) (area : List Interval) → IsNonEmpty area → IsGoodPart p cutoff area area
good_part_same p cutoff area n = record { part = part_same area n; kept = λ x i good. i }

-- such a part of the box, over which no sum of the named row satisfies the side of the reason
pub record IsShownIn (p : Instance) (cutoff : Option ℤ) (area : List Interval) (reason : Reason) : Type 0 where
  pub row : Row
  pub named : IsNamed p cutoff reason.row row
  pub usable : IsUsable (length area) row.terms
  pub inner : List Interval
  pub part : IsGoodPart p cutoff inner area
  pub missed : IsMissed reason.side row inner

-- such a part of the box is left, or a row shows that nothing is
abbrev pub IsSweepOf : Instance → Option ℤ → List Interval → Tight → Type 0
IsSweepOf p cutoff area (Kept left) = IsGoodPart p cutoff left area
IsSweepOf p cutoff area (Empty reason) = IsShownIn p cutoff area reason

value_below : (sum constant c : ℤ) → (sum +ℤ constant) <ℤ c → sum ≤ℤ (c -ℤ pos 1 -ℤ constant)
value_below sum constant c h = omega (arith, ints)

-- a good point satisfies each row that may be named
pub good_keeps : (p : Instance) (cutoff : Option ℤ) (name : Option ℕ) (row : Row) (x : List ℤ)
    → IsNamed p cutoff name row → IsGood p cutoff x → Keeps row x
good_keeps p cutoff (Some r) row x named good =
    let Q : Row → Type 0 = λ (w : Row). Keeps w x in
    subst Q (sym named.1) (good.feasible.rows r named.0)
good_keeps p None None row x named good = absurd named
good_keeps p (Some c) None row x named good =
    let Q : Row → Type 0 = λ (w : Row). Keeps w x in
    subst Q (sym named)
    (record { low = tt; high = value_below (sum_at p.objective.terms x) p.objective.constant c good.less })

-- the rest that a row leaves of a part that is left
then_part : (p : Instance) (cutoff : Option ℤ) (last left area : List Interval) (name : Option ℕ) (row : Row)
    → IsNamed p cutoff name row → IsGoodPart p cutoff left area → IsPartFor row last left → IsGoodPart p cutoff last area
then_part p cutoff last left area name row named part h = record {
  part = part_trans last left area h.part part.part;
  kept = λ x i good. h.kept x (good_keeps p cutoff name row x named good) (part.kept x i good);
}

propagate_sweep : (p : Instance) (cutoff : Option ℤ) (area left : List Interval) (name : Option ℕ) (row : Row) (o : Tight)
    → IsNamed p cutoff name row → IsUsable (length area) row.terms → IsGoodPart p cutoff left area
    → IsPropagationOf name row left o → IsSweepOf p cutoff area o
propagate_sweep p cutoff area left name row (Kept last) named usable part h =
    then_part p cutoff last left area name row named part h
propagate_sweep p cutoff area left name row (Empty reason) named usable part h =
    let P : Option ℕ → Type 0 = λ (n : Option ℕ). IsNamed p cutoff n row in
    record {
      row = row;
      named = subst P (sym h.named) named;
      usable = usable;
      inner = h.inner;
      part = then_part p cutoff h.inner left area name row named part h.part;
      missed = h.missed;
    }

propagate_row_sweep : (p : Instance) (cutoff : Option ℤ) (area : List Interval) (name : Option ℕ) (row : Row) (o : Tight)
    → IsNamed p cutoff name row → IsUsable (length area) row.terms → IsSweepOf p cutoff area o
    → IsSweepOf p cutoff area (propagate_row name row o)
propagate_row_sweep p cutoff area name row (Empty reason) named usable h = h
propagate_row_sweep p cutoff area name row (Kept left) named usable h =
    let P : ℕ → Type 0 = λ (w : ℕ). IsUsable w row.terms in
    propagate_sweep p cutoff area left name row (row_step name row left) named usable h
    (row_propagation name row left (part_nonempty left area h.part) (subst P (sym h.part.width) usable))

rows_sweep : (p : Instance) (cutoff : Option ℤ) (area : List Interval) (r : ℕ) (rest : List NamedRow) (o : Tight)
    → IsProblem p → length area ≡ length p.columns → AreRowsFrom p r rest → IsSweepOf p cutoff area o
    → IsSweepOf p cutoff area (over_rows r rest o)
rows_sweep p cutoff area r [] o problem wide from h = h
rows_sweep p cutoff area r (named ∷ rest) o problem wide from h =
    let P : ℕ → Type 0 = λ (w : ℕ). IsUsable w named.row.terms in
    rows_sweep p cutoff area (r + 1) rest (propagate_row (Some r) named.row o) problem wide from.2
    (propagate_row_sweep p cutoff area (Some r) named.row o (from.0, from.1)
    (subst P (sym wide) (usable_named p r named.row problem from.0 from.1)) h)

objective_sweep : (p : Instance) (cutoff : Option ℤ) (area : List Interval) (o : Tight)
    → IsProblem p → length area ≡ length p.columns → IsSweepOf p cutoff area o
    → IsSweepOf p cutoff area (over_objective p.objective cutoff o)
objective_sweep p None area o problem wide h = h
objective_sweep p (Some c) area o problem wide h =
    let P : ℕ → Type 0 = λ (w : ℕ). IsUsable w p.objective.terms in
    propagate_row_sweep p (Some c) area None (cutoff_row p.objective c) o refl (subst P (sym wide) (usable_objective p problem)) h

pub round_sweep : (p : Instance) (cutoff : Option ℤ) (area : List Interval) (o : Tight)
    → IsProblem p → length area ≡ length p.columns → IsSweepOf p cutoff area o → IsSweepOf p cutoff area (round p cutoff o)
round_sweep p cutoff area o problem wide h =
    objective_sweep p cutoff area (over_rows 0 p.rows o) problem wide
    (rows_sweep p cutoff area 0 p.rows o problem wide (all_rows_from p) h)

pub rounds_sweep : (n : ℕ) (p : Instance) (cutoff : Option ℤ) (area : List Interval) (o : Tight)
    → IsProblem p → length area ≡ length p.columns → IsSweepOf p cutoff area o → IsSweepOf p cutoff area (rounds_of n p cutoff o)
unfolding rounds_of
rounds_sweep zero p cutoff area o problem wide h = h
rounds_sweep (suc n) p cutoff area o problem wide h =
    rounds_sweep n p cutoff area (round p cutoff o) problem wide (round_sweep p cutoff area o problem wide h)

-- each good point of the box is among what is left; so there is none where nothing is left
pub sweep_keeps : (p : Instance) (cutoff : Option ℤ) (area : List Interval) (o : Tight) → IsSweepOf p cutoff area o
    → KeepsGood p cutoff area o
sweep_keeps p cutoff area (Kept left) h x i good = h.kept x i good
sweep_keeps p cutoff area (Empty reason) h x i good =
    let P : ℕ → Type 0 = λ (w : ℕ). AreThere w h.row.terms in
    missed_none h.row reason.side h.inner x (subst P (sym h.part.part.width) h.usable.there) h.missed
    (good_keeps p cutoff reason.row h.row x h.named good) (h.part.kept x i good)

-- after a round that changes nothing, no other changes anything
pub rounds_stay : (n : ℕ) (p : Instance) (cutoff : Option ℤ) (o : Tight) → round p cutoff o ≡ o → rounds_of n p cutoff o ≡ o
unfolding rounds_of
rounds_stay zero p cutoff o same = refl
rounds_stay (suc n) p cutoff o same = ap (λ (t : Tight). rounds_of n p cutoff t) same ∙ rounds_stay n p cutoff o same

pub rounds_of_none : (p : Instance) (cutoff : Option ℤ) (o : Tight) → rounds_of 0 p cutoff o ≡ o
unfolding rounds_of
rounds_of_none p cutoff o = refl

pub rounds_of_more : (n : ℕ) (p : Instance) (cutoff : Option ℤ) (o : Tight)
    → rounds_of (suc n) p cutoff o ≡ rounds_of n p cutoff (round p cutoff o)
unfolding rounds_of
rounds_of_more n p cutoff o = refl
