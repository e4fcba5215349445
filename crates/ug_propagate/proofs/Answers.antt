-- What bound propagation says of the points of a box, proved of what it makes.
use Rattle.std.proofs.Common.{◌≡◌, refl, sym, subst, ◌∙◌, ap, inl, inr, ℕ, zero, suc, ◌<◌, ℤ, pos, ◌+ℤ◌, ◌-ℤ◌, ◌≤ℤ◌, ◌<ℤ◌, Bool, true, false, not, T, List, [], ◌∷◌, length, slice_index_or, Option, Some, None, IfSome, Result, Ok, Err, IfOk, arith}
use Rattle.std.proofs.lemmas.Int.{ints}
use Rattle.std.proofs.lemmas.List.{length-map}
use Rattle.ug_rows.specs.declared.area.Interval.{Interval}
use Rattle.ug_rows.specs.Boxes.{IsBelow, IsCrossed, IsFixed, IsInside, IsNonEmpty, IsWithin, interval_at, value_at}
use Rattle.ug_rows.proofs.AreaLemmas.{below_itself, inside_below}
use Rattle.ug_rows.specs.Rows.{Keeps, sum_at, value_of}
use Rattle.ug_rows.proofs.EndBounds.{AreThere}
use Rattle.ug_problem.specs.declared.column.NamedRow.{NamedRow}
use Rattle.ug_problem.specs.Instances.{Instance, bounds_of, no_row, root_of, row_at}
use Rattle.ug_problem.specs.Limits.{IsProblem}
use Rattle.ug_propagate.specs.declared.tight.Tight.{Tight}
use Rattle.ug_propagate.specs.declared.tight.Tight.TheVariants.{Kept, Empty}
use Rattle.ug_propagate.specs.Rounds.{are_crossed, are_fixed, crossed, cutoff_row, last_round, round, rounds, rounds_of}
use Rattle.ug_problem.specs.Better.{IsGood}
use Rattle.ug_propagate.specs.Claims.{CanTighten, Holds, HasReason, IsLeftOf, IsSolved, IsTightened, KeepsGood}
use Rattle.ug_propagate.proofs.Parts.{part_below, if_bool}
use Rattle.ug_propagate.proofs.Looks.{Passes}
use Rattle.ug_propagate.proofs.Sweeps.{IsSweepOf, good_part_same, round_sweep, rounds_sweep, sweep_keeps, usable_objective, usable_row}
use Rattle.ug_propagate.proofs.Fixed.{AllPass, ObjectivePasses, crossed_from, fixed_from, fixed_to, nonempty_from, passes_keeps, round_passes}

no_point : (area : List Interval) (x : List ℤ) → IsCrossed area → IsInside area x → ⊥
no_point area x c i =
    let w : IsWithin (interval_at area c.0) (value_at x c.0) = i.each c.0 c.1 in
    let less : (interval_at area c.0).high <ℤ (interval_at area c.0).low = c.2 in
    omega (arith, ints)

crossed_holds : (rows : List NamedRow) (cutoff : Option ℤ) (area : List Interval) (x : List ℤ) → IsCrossed area
    → IsInside area x → Holds (crossed rows cutoff area) x
crossed_holds [] None area x c i = i
crossed_holds [] (Some cutoff) area x c i = no_point area x c i
crossed_holds (named ∷ rows) cutoff area x c i = no_point area x c i

last_sweep : (p : Instance) (cutoff : Option ℤ) (area : List Interval) (o : Tight) → IsProblem p
    → length area ≡ length p.columns → IsSweepOf p cutoff area o → IsSweepOf p cutoff area (last_round p cutoff o)
last_sweep p cutoff area (Empty reason) problem wide h = h
last_sweep p cutoff area (Kept left) problem wide h =
    if_bool (IsSweepOf p cutoff area) (are_fixed left) (round p cutoff (Kept left)) (Kept left)
    (λ fixed. round_sweep p cutoff area (Kept left) problem wide h) (λ open_. h)

all_sweep : (p : Instance) (cutoff : Option ℤ) (area : List Interval) → IsProblem p → length area ≡ length p.columns
    → IsNonEmpty area → IsSweepOf p cutoff area (last_round p cutoff (rounds_of 32 p cutoff (Kept area)))
all_sweep p cutoff area problem wide n =
    last_sweep p cutoff area (rounds_of 32 p cutoff (Kept area)) problem wide
    (rounds_sweep 32 p cutoff area (Kept area) problem wide (good_part_same p cutoff area n))

-- each good point of the box is among what is left
rounds_keep : (p : Instance) (cutoff : Option ℤ) (area : List Interval) → IsProblem p → length area ≡ length p.columns
    → KeepsGood p cutoff area (rounds p cutoff area)
rounds_keep p cutoff area problem wide =
    if_bool (KeepsGood p cutoff area) (are_crossed area) (crossed p.rows cutoff area)
    (last_round p cutoff (rounds_of 32 p cutoff (Kept area)))
    (λ c x i good. crossed_holds p.rows cutoff area x (crossed_from area c) i)
    (λ n. sweep_keeps p cutoff area (last_round p cutoff (rounds_of 32 p cutoff (Kept area)))
    (all_sweep p cutoff area problem wide (nonempty_from area n)))

sweep_left : (p : Instance) (cutoff : Option ℤ) (area : List Interval) (o : Tight) → IsSweepOf p cutoff area o → IsLeftOf area o
sweep_left p cutoff area (Kept left) h = part_below left area h.part
sweep_left p cutoff area (Empty reason) h = tt

crossed_left : (rows : List NamedRow) (cutoff : Option ℤ) (area : List Interval) → IsLeftOf area (crossed rows cutoff area)
crossed_left [] None area = below_itself area
crossed_left [] (Some cutoff) area = tt
crossed_left (named ∷ rows) cutoff area = tt

-- the rest is below the box
rounds_below : (p : Instance) (cutoff : Option ℤ) (area : List Interval) → IsProblem p
    → length area ≡ length p.columns → IsLeftOf area (rounds p cutoff area)
rounds_below p cutoff area problem wide =
    if_bool (IsLeftOf area) (are_crossed area) (crossed p.rows cutoff area) (last_round p cutoff (rounds_of 32 p cutoff (Kept area)))
    (λ c. crossed_left p.rows cutoff area)
    (λ n. sweep_left p cutoff area (last_round p cutoff (rounds_of 32 p cutoff (Kept area)))
    (all_sweep p cutoff area problem wide (nonempty_from area n)))

sweep_reason : (p : Instance) (cutoff : Option ℤ) (area : List Interval) (o : Tight) → IsSweepOf p cutoff area o
    → HasReason p cutoff area o
sweep_reason p cutoff area (Kept left) h = tt
sweep_reason p cutoff area (Empty reason) h = record {
  row = h.row;
  named = h.named;
  inner = h.inner;
  below = part_below h.inner area h.part.part;
  kept = h.part.kept;
  shown = inl h.missed;
}

crossed_reason : (p : Instance) (rows : List NamedRow) (cutoff : Option ℤ) (area : List Interval) → p.rows ≡ rows
    → IsCrossed area → HasReason p cutoff area (crossed rows cutoff area)
crossed_reason p [] None area same c = tt
crossed_reason p [] (Some cutoff) area same c = record {
  row = cutoff_row p.objective cutoff;
  named = refl;
  inner = area;
  below = below_itself area;
  kept = λ x i good. i;
  shown = inr c;
}
crossed_reason p (named ∷ rows) cutoff area same c = record {
  row = row_at p 0;
  named = (omega (arith, ap (λ (l : List NamedRow). length l) same), refl);
  inner = area;
  below = below_itself area;
  kept = λ x i good. i;
  shown = inr c;
}

-- if nothing is left, the reason shows it
rounds_reason : (p : Instance) (cutoff : Option ℤ) (area : List Interval) → IsProblem p
    → length area ≡ length p.columns → HasReason p cutoff area (rounds p cutoff area)
rounds_reason p cutoff area problem wide =
    if_bool (HasReason p cutoff area) (are_crossed area) (crossed p.rows cutoff area)
    (last_round p cutoff (rounds_of 32 p cutoff (Kept area)))
    (λ c. crossed_reason p p.rows cutoff area refl (crossed_from area c))
    (λ n. sweep_reason p cutoff area (last_round p cutoff (rounds_of 32 p cutoff (Kept area)))
    (all_sweep p cutoff area problem wide (nonempty_from area n)))

all_pass_at : (rows : List NamedRow) (area : List Interval) (r : ℕ) → r < length rows → AllPass rows area
    → Passes (slice_index_or rows r no_row).row area
all_pass_at [] area r there h = absurd (omega arith)
all_pass_at (named ∷ rows) area zero there h = h.0
all_pass_at (named ∷ rows) area (suc r) there h = all_pass_at rows area r (omega arith) h.1

less_from : (sum constant c : ℤ) → sum ≤ℤ (c -ℤ pos 1 -ℤ constant) → (sum +ℤ constant) <ℤ c
less_from sum constant c h = omega (arith, ints)

less_value : (p : Instance) (cutoff : Option ℤ) (area : List Interval) (x : List ℤ) → IsProblem p
    → length area ≡ length p.columns → IsFixed area → IsInside area x → ObjectivePasses p.objective cutoff area
    → IfSome cutoff (λ c. value_of p.objective x <ℤ c)
less_value p None area x problem wide fixed i h = tt
less_value p (Some c) area x problem wide fixed i h =
    let P : ℕ → Type 0 = λ (w : ℕ). AreThere w p.objective.terms in
    let k : Keeps (cutoff_row p.objective c) x =
    passes_keeps (cutoff_row p.objective c) area x (subst P (sym wide) (usable_objective p problem).there) fixed i h in
    less_from (sum_at p.objective.terms x) p.objective.constant c k.high

-- the point of a box below the root box that a round leaves is good
good_point : (p : Instance) (cutoff : Option ℤ) (area : List Interval) (x : List ℤ) → IsProblem p
    → IsBelow area (root_of p) → IsFixed area → IsInside area x → AllPass p.rows area
    → ObjectivePasses p.objective cutoff area → IsGood p cutoff x
good_point p cutoff area x problem below fixed i rows objective =
    let wide : length area ≡ length p.columns = below.width ∙ length-map p.columns bounds_of in
    let P : ℕ → ℕ → Type 0 = λ (r w : ℕ). AreThere w (row_at p r).terms in
    record {
      feasible = record {
        inside = inside_below area (root_of p) x below i;
        rows = λ r there. passes_keeps (row_at p r) area x (subst (P r) (sym wide) (usable_row p r problem there).there) fixed i
            (all_pass_at p.rows area r there rows);
      };
      less = less_value p cutoff area x problem wide fixed i objective;
    }

round_solved : (p : Instance) (cutoff : Option ℤ) (area : List Interval) (o : Tight) → IsProblem p
    → length area ≡ length p.columns → IsFixed area → round p cutoff (Kept area) ≡ o → IsSolved p cutoff o
round_solved p cutoff area (Empty reason) problem wide fixed e = tt
round_solved p cutoff area (Kept left) problem wide fixed e = λ below one x i.
    let pass : AllPass p.rows area × ObjectivePasses p.objective cutoff area × (left ≡ area) =
    round_passes p cutoff area left problem wide fixed e in
    let P : List Interval → Type 0 = λ (a : List Interval). IsBelow a (root_of p) in
    let Q : List Interval → Type 0 = λ (a : List Interval). IsInside a x in
    good_point p cutoff area x problem (subst P pass.2 below) fixed (subst Q pass.2 i) pass.0 pass.1

not_fixed : (b : Bool) → T (not b) → T b → ⊥
not_fixed true h k = h
not_fixed false h k = k

last_solved : (p : Instance) (cutoff : Option ℤ) (area : List Interval) (o : Tight) → IsProblem p
    → length area ≡ length p.columns → IsSweepOf p cutoff area o → IsSolved p cutoff (last_round p cutoff o)
last_solved p cutoff area (Empty reason) problem wide h = tt
last_solved p cutoff area (Kept left) problem wide h =
    if_bool (IsSolved p cutoff) (are_fixed left) (round p cutoff (Kept left)) (Kept left)
    (λ fixed. round_solved p cutoff left (round p cutoff (Kept left)) problem (h.part.width ∙ wide) (fixed_from left fixed) refl)
    (λ open_ below one x i. absurd (not_fixed (are_fixed left) open_ (fixed_to left one)))

crossed_solved : (p : Instance) (rows : List NamedRow) (cutoff : Option ℤ) (area : List Interval) → p.rows ≡ rows
    → IsSolved p cutoff (crossed rows cutoff area)
crossed_solved p [] None area same = λ below one x i. record {
  feasible = record {
    inside = inside_below area (root_of p) x below i;
    rows = λ r there. absurd (omega (arith, ap (λ (l : List NamedRow). length l) same));
  };
  less = tt;
}
crossed_solved p [] (Some cutoff) area same = tt
crossed_solved p (named ∷ rows) cutoff area same = tt

-- if one point within all bounds is left, it is good
rounds_solve : (p : Instance) (cutoff : Option ℤ) (area : List Interval) → IsProblem p
    → length area ≡ length p.columns → IsSolved p cutoff (rounds p cutoff area)
rounds_solve p cutoff area problem wide =
    if_bool (IsSolved p cutoff) (are_crossed area) (crossed p.rows cutoff area)
    (last_round p cutoff (rounds_of 32 p cutoff (Kept area)))
    (λ c. crossed_solved p p.rows cutoff area refl)
    (λ n. last_solved p cutoff area (rounds_of 32 p cutoff (Kept area)) problem wide
    (rounds_sweep 32 p cutoff area (Kept area) problem wide (good_part_same p cutoff area (nonempty_from area n))))

-- what the rounds make of a box is what bound propagation says
rounds_tightened : (p : Instance) (cutoff : Option ℤ) (area : List Interval) → IsProblem p → CanTighten p cutoff area
    → IsTightened p cutoff area (rounds p cutoff area)
rounds_tightened p cutoff area problem can = record {
  value = refl;
  below = rounds_below p cutoff area problem can.width;
  kept = rounds_keep p cutoff area problem can.width;
  empty = rounds_reason p cutoff area problem can.width;
  fixed = rounds_solve p cutoff area problem can.width;
}

-- and so is an answer that is what they make
pub told_tightened : {E : Type 0} (p : Instance) (cutoff : Option ℤ) (area : List Interval) (told : Result Tight E) → IsProblem p
    → CanTighten p cutoff area → IfOk told (λ (t : Tight). t ≡ rounds p cutoff area) → IfOk told (IsTightened p cutoff area)
told_tightened p cutoff area (Ok t) problem can e =
    subst (IsTightened p cutoff area) (sym e) (rounds_tightened p cutoff area problem can)
told_tightened p cutoff area (Err _) problem can e = e
