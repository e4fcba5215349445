-- Boxes of one point: a round that leaves one shows that its point is good.
use Rattle.std.proofs.Common.{◌≡◌, refl, sym, subst, ◌∙◌, ap, ◌⊎◌, inl, inr, ℕ, zero, suc, ◌+◌, ℤ, pos, negsuc, ◌+ℤ◌, ◌*ℤ◌, ◌≤ℤ◌, Bool, true, false, not, T, ◌&&◌, ◌||◌, int_lt, List, [], ◌∷◌, length, Option, Some, None, IfSome, arith}
use Rattle.std.proofs.lemmas.Int.{ints}
use Rattle.std.proofs.lemmas.Bool.Decides.{Decides-int_eq}
use Rattle.std.proofs.lemmas.List.{ext_get_or}
use Rattle.std.specs.Int.Signed.{lt_z_yes, lt_z_no}
use Rattle.std.specs.Ordering.{int_eq}
use Rattle.ug_rows.specs.declared.area.Interval.{Interval}
use Rattle.ug_rows.specs.declared.row.Term.{Term}
use Rattle.ug_rows.specs.declared.row.Row.{Row}
use Rattle.ug_rows.specs.declared.row.Objective.{Objective}
use Rattle.ug_rows.specs.declared.sums.Extreme.TheVariants.{Least, Greatest}
use Rattle.ug_rows.specs.Boxes.{IsClosedWithin, IsCrossed, IsFixed, IsInside, IsNonEmpty, interval_at, no_interval}
use Rattle.ug_rows.specs.Rows.{Keeps, sum_at}
use Rattle.ug_rows.specs.Sums.{end_of, end_product, end_sum}
use Rattle.ug_rows.proofs.EndBounds.{AreThere, end_bound}
use Rattle.ug_problem.specs.declared.column.NamedRow.{NamedRow}
use Rattle.ug_problem.specs.Instances.{Instance}
use Rattle.ug_problem.specs.Limits.{IsProblem}
use Rattle.ug_propagate.specs.declared.tight.Tight.{Tight}
use Rattle.ug_propagate.specs.declared.tight.Tight.TheVariants.{Kept, Empty}
use Rattle.ug_propagate.specs.declared.tight.Reason.{Reason}
use Rattle.ug_propagate.specs.Rounds.{are_fixed, are_crossed, cutoff_row, over_rows, over_objective, round, row_step}
use Rattle.ug_propagate.proofs.Parts.{IsPart}
use Rattle.ug_propagate.proofs.Looks.{IsPropagationOf, IsUsable, Passes, IsPassed, row_propagation, row_passes}
use Rattle.ug_propagate.proofs.Sweeps.{AreRowsFrom, all_rows_from, usable_named, usable_objective}

and_left : (a b : Bool) → T (a && b) → T a
and_left true b h = tt
and_left false b h = h

and_right : (a b : Bool) → T (a && b) → T b
and_right true b h = h
and_right false b h = absurd h

both : (a b : Bool) → T a → T b → T (a && b)
both true b h k = k
both false b h k = h

true_from : (b : Bool) → T b → b ≡ true
true_from true h = refl
true_from false h = absurd h

T_from : (b : Bool) → b ≡ true → T b
T_from true h = tt
T_from false h = cc

-- the test says whether all columns are fixed
pub fixed_from : (area : List Interval) → T (are_fixed area) → IsFixed area
fixed_from [] h j there = absurd (omega arith)
fixed_from (side ∷ sides) h zero there =
    (Decides-int_eq side.low side.high).0 (true_from (int_eq side.low side.high) (and_left (int_eq side.low side.high) (are_fixed sides) h))
fixed_from (side ∷ sides) h (suc j) there =
    fixed_from sides (and_right (int_eq side.low side.high) (are_fixed sides) h) j (omega arith)

pub fixed_to : (area : List Interval) → IsFixed area → T (are_fixed area)
fixed_to [] h = tt
fixed_to (side ∷ sides) h =
    both (int_eq side.low side.high) (are_fixed sides)
    (T_from (int_eq side.low side.high) ((Decides-int_eq side.low side.high).1 (h 0 (omega arith))))
    (fixed_to sides (λ j there. h (suc j) (omega arith)))

or_either : (a b : Bool) → T (a || b) → T a ⊎ T b
or_either true b h = inl tt
or_either false b h = inr h

not_or_left : (a b : Bool) → T (not (a || b)) → T (not a)
not_or_left true b h = h
not_or_left false b h = tt

not_or_right : (a b : Bool) → T (not (a || b)) → T (not b)
not_or_right true b h = absurd h
not_or_right false b h = h

crossed_more : (side : Interval) (sides : List Interval) → IsCrossed sides → IsCrossed (side ∷ sides)
crossed_more side sides h = (suc h.0, omega (arith, h.1), h.2)

-- the test says whether a column has its low above its high
pub crossed_from : (area : List Interval) → T (are_crossed area) → IsCrossed area
crossed_from [] h = absurd h
crossed_from (side ∷ sides) h = elim (or_either (int_lt side.high side.low) (are_crossed sides) h) [
  | inl first ↦ (0, omega arith, lt_z_yes first)
  | inr later ↦ crossed_more side sides (crossed_from sides later)
]

pub nonempty_from : (area : List Interval) → T (not (are_crossed area)) → IsNonEmpty area
nonempty_from [] h j there = absurd (omega arith)
nonempty_from (side ∷ sides) h zero there = lt_z_no (not_or_left (int_lt side.high side.low) (are_crossed sides) h)
nonempty_from (side ∷ sides) h (suc j) there =
    nonempty_from sides (not_or_right (int_lt side.high side.low) (are_crossed sides) h) j (omega arith)

least_is : (a b : ℤ) → a ≡ b → a ≤ℤ b
least_is a b e = omega (arith, ints)

pub fixed_nonempty : (area : List Interval) → IsFixed area → IsNonEmpty area
fixed_nonempty area fixed = λ j there. least_is (interval_at area j).low (interval_at area j).high (fixed j there)

squeezed : (a b c d : ℤ) → a ≤ℤ c → d ≤ℤ b → c ≤ℤ d → a ≡ b → (c ≡ a) × (d ≡ b)
squeezed a b c d h k m e = (omega (arith, ints), omega (arith, ints))

same_interval : (inner outer : Interval) → IsClosedWithin inner outer → outer.low ≡ outer.high → inner ≡ outer
same_interval inner outer closed one =
    let s : (inner.low ≡ outer.low) × (inner.high ≡ outer.high) =
    squeezed outer.low outer.high inner.low inner.high closed.low closed.high closed.some one in
    let f : ℤ → Interval = λ (a : ℤ). record { low = a; high = inner.high } in
    let g : ℤ → Interval = λ (b : ℤ). record { low = outer.low; high = b } in
    ap f s.0 ∙ ap g s.1

-- a part of a box of one point is that box
pub part_of_fixed : (inner outer : List Interval) → IsPart inner outer → IsFixed outer → inner ≡ outer
part_of_fixed inner outer part fixed =
    ext_get_or no_interval inner outer part.width
    (λ j there. same_interval (interval_at inner j) (interval_at outer j)
    (part.each j (omega (arith, part.width))) (fixed j (omega (arith, part.width))))

-- the outcome is the box again, or nothing
abbrev pub IsSame : List Interval → Tight → Type 0
IsSame area (Kept left) = left ≡ area
IsSame area (Empty reason) = Unit {0}

propagate_same : (name : Option ℕ) (row : Row) (area : List Interval) (o : Tight) → IsFixed area → IsPropagationOf name row area o → IsSame area o
propagate_same name row area (Kept left) fixed h = part_of_fixed left area h.part fixed
propagate_same name row area (Empty reason) fixed h = tt

pub empty_rows : (r : ℕ) (rest : List NamedRow) (reason : Reason) → over_rows r rest (Empty reason) ≡ Empty reason
empty_rows r [] reason = refl
empty_rows r (named ∷ rest) reason = empty_rows (r + 1) rest reason

passed_kept : (row : Row) (area left : List Interval) (o : Tight) (r : ℕ) (rest : List NamedRow)
    → IsPassed row area o → over_rows r rest o ≡ Kept left → Passes row area
passed_kept row area left (Kept mid) r rest h e = h
passed_kept row area left (Empty reason) r rest h e =
    let e' : Empty reason ≡ Kept left = sym (empty_rows r rest reason) ∙ e in absurd (cc)

-- the least and the greatest of each of the rows are within its sides
abbrev pub AllPass : List NamedRow → List Interval → Type 0
AllPass [] area = Unit {0}
AllPass (named ∷ rest) area = Passes named.row area × AllPass rest area

rows_pass : (p : Instance) (r : ℕ) (rest : List NamedRow) (area left : List Interval) (o : Tight)
    → IsProblem p → length area ≡ length p.columns → AreRowsFrom p r rest → IsFixed area
    → IsSame area o → over_rows r rest o ≡ Kept left → AllPass rest area × (left ≡ area)
rows_pass p r [] area left (Kept mid) problem wide from fixed same e = (tt, let f : mid ≡ left = cc in sym f ∙ same)
rows_pass p r [] area left (Empty reason) problem wide from fixed same e = absurd (cc)
rows_pass p r (named ∷ rest) area left (Empty reason) problem wide from fixed same e =
    let e' : Empty reason ≡ Kept left = sym (empty_rows r (named ∷ rest) reason) ∙ e in absurd (cc)
rows_pass p r (named ∷ rest) area left (Kept mid) problem wide from fixed same e =
    let P : ℕ → Type 0 = λ (w : ℕ). IsUsable w named.row.terms in
    let Q : List Interval → Type 0 = λ (a : List Interval). over_rows (r + 1) rest (row_step (Some r) named.row a) ≡ Kept left in
    let o : Tight = row_step (Some r) named.row area in
    let e' : over_rows (r + 1) rest o ≡ Kept left = subst Q same e in
    let usable : IsUsable (length area) named.row.terms =
    subst P (sym wide) (usable_named p r named.row problem from.0 from.1) in
    let row_sides : IsPropagationOf (Some r) named.row area o = row_propagation (Some r) named.row area (fixed_nonempty area fixed) usable in
    let later : AllPass rest area × (left ≡ area) =
    rows_pass p (r + 1) rest area left o problem wide from.2 fixed (propagate_same (Some r) named.row area o fixed row_sides) e' in
    ((passed_kept named.row area left o (r + 1) rest (row_passes (Some r) named.row area) e', later.0), later.1)

-- the least of the objective is below the cutoff
abbrev pub ObjectivePasses : Objective → Option ℤ → List Interval → Type 0
ObjectivePasses objective None area = Unit {0}
ObjectivePasses objective (Some c) area = Passes (cutoff_row objective c) area

objective_from : (objective : Objective) (cutoff : Option ℤ) (left : List Interval) (o : Tight)
    → over_objective objective cutoff o ≡ Kept left → (mid : List Interval) × (o ≡ Kept mid)
objective_from objective None left o e = (left, e)
objective_from objective (Some c) left (Kept mid) e = (mid, refl)
objective_from objective (Some c) left (Empty reason) e = absurd (cc)

kept_passed : (row : Row) (area left : List Interval) (o : Tight) → o ≡ Kept left → IsPassed row area o → Passes row area
kept_passed row area left (Kept mid) e h = h
kept_passed row area left (Empty reason) e h = absurd (cc)

kept_same : (area left : List Interval) (o : Tight) → o ≡ Kept left → IsSame area o → left ≡ area
kept_same area left (Kept mid) e h = let f : mid ≡ left = cc in sym f ∙ h
kept_same area left (Empty reason) e h = absurd (cc)

objective_passes : (p : Instance) (cutoff : Option ℤ) (area left : List Interval)
    → IsProblem p → length area ≡ length p.columns → IsFixed area
    → over_objective p.objective cutoff (Kept area) ≡ Kept left → ObjectivePasses p.objective cutoff area × (left ≡ area)
objective_passes p None area left problem wide fixed e = (tt, let f : area ≡ left = cc in sym f)
objective_passes p (Some c) area left problem wide fixed e =
    let row : Row = cutoff_row p.objective c in
    let P : ℕ → Type 0 = λ (w : ℕ). IsUsable w p.objective.terms in
    let o : Tight = row_step None row area in
    let row_sides : IsPropagationOf None row area o =
    row_propagation None row area (fixed_nonempty area fixed) (subst P (sym wide) (usable_objective p problem)) in
    (kept_passed row area left o e (row_passes None row area), kept_same area left o e (propagate_same None row area o fixed row_sides))

-- a round that leaves a box of one point: each row and the objective pass there, and the box is as
-- it was
pub round_passes : (p : Instance) (cutoff : Option ℤ) (area left : List Interval)
    → IsProblem p → length area ≡ length p.columns → IsFixed area → round p cutoff (Kept area) ≡ Kept left
    → AllPass p.rows area × ObjectivePasses p.objective cutoff area × (left ≡ area)
round_passes p cutoff area left problem wide fixed e =
    let o : Tight = over_rows 0 p.rows (Kept area) in
    let m : (mid : List Interval) × (o ≡ Kept mid) = objective_from p.objective cutoff left o e in
    let rows : AllPass p.rows area × (m.0 ≡ area) =
    rows_pass p 0 p.rows area m.0 (Kept area) problem wide (all_rows_from p) fixed refl m.1 in
    let Q : Tight → Type 0 = λ (t : Tight). over_objective p.objective cutoff t ≡ Kept left in
    let R : List Interval → Type 0 = λ (a : List Interval). over_objective p.objective cutoff (Kept a) ≡ Kept left in
    let e' : over_objective p.objective cutoff (Kept area) ≡ Kept left = subst R rows.1 (subst Q m.1 e) in
    let last : ObjectivePasses p.objective cutoff area × (left ≡ area) =
    objective_passes p cutoff area left problem wide fixed e' in
    (rows.0, last.0, last.1)

one_end : (f : ℤ) (side : Interval) → side.low ≡ side.high → end_of Least f side ≡ end_of Greatest f side
one_end (pos n) side one = one
one_end (negsuc n) side one = sym one

one_sum : (ts : List Term) (area : List Interval) → AreThere (length area) ts → IsFixed area → end_sum Least ts area ≡ end_sum Greatest ts area
one_sum [] area there fixed = refl
one_sum (t ∷ ts) area there fixed =
    let e : end_of Least t.factor (interval_at area t.column) ≡ end_of Greatest t.factor (interval_at area t.column) =
    one_end t.factor (interval_at area t.column) (fixed t.column there.0) in
    ap (λ (v : ℤ). (t.factor *ℤ v) +ℤ end_sum Least ts area) e
    ∙ ap (λ (s : ℤ). end_product Greatest t area +ℤ s) (one_sum ts area there.1 fixed)

keeps_high : (high : Option ℤ) (least greatest sum : ℤ) → least ≡ greatest → sum ≤ℤ greatest
    → IfSome high (λ h. least ≤ℤ h) → IfSome high (λ h. sum ≤ℤ h)
keeps_high None least greatest sum e k h = h
keeps_high (Some high) least greatest sum e k h = omega (arith, ints)

keeps_low : (low : Option ℤ) (least greatest sum : ℤ) → least ≡ greatest → least ≤ℤ sum
    → IfSome low (λ l. l ≤ℤ greatest) → IfSome low (λ l. l ≤ℤ sum)
keeps_low None least greatest sum e k h = h
keeps_low (Some low) least greatest sum e k h = omega (arith, ints)

-- the point of a box of one point satisfies a row that passes there
pub passes_keeps : (row : Row) (area : List Interval) (x : List ℤ) → AreThere (length area) row.terms → IsFixed area
    → IsInside area x → Passes row area → Keeps row x
passes_keeps row area x there fixed i pass =
    let one : end_sum Least row.terms area ≡ end_sum Greatest row.terms area = one_sum row.terms area there fixed in
    record {
      low = keeps_low row.low _ _ (sum_at row.terms x) one (end_bound Least row.terms area x there i) pass.low;
      high = keeps_high row.high _ _ (sum_at row.terms x) one (end_bound Greatest row.terms area x there i) pass.high;
    }
