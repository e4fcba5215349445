-- What the bodies are made of: sizes, cases of signs, and the next row or term.
use Rattle.std.proofs.Common.{◌≡◌, ◌≢◌, refl, sym, subst, ◌∙◌, ap, ℕ, zero, suc, ◌+◌, ◌-◌, ◌*◌, ◌^◌, ◌<◌, ◌≤◌, ℤ, pos, negsuc, ◌-ℤ◌, ◌≤ℤ◌, ◌<ℤ◌, unsigned_abs, List, [], ◌∷◌, length, drop, slice_index_or, Option, Some, None, IfSome, arith}
use Rattle.std.proofs.lemmas.Int.{ints}
use Rattle.std.proofs.lemmas.List.Elements.{All-get_or}
use Rattle.std.proofs.Math.Seq.{drop-cons}
use Rattle.std.proofs.Common.{add-one, Bool, true, false, T, not}
use Rattle.ug_rows.specs.Boxes.{IsCrossed, IsFixed, IsNonEmpty, interval_at}
use Rattle.ug_propagate.proofs.Parts.{if_bool}
use Rattle.ug_propagate.proofs.Fixed.{crossed_from, fixed_from, fixed_to, nonempty_from, empty_rows}
use Rattle.ug_propagate.proofs.Sweeps.{rounds_stay, rounds_of_more, rounds_of_none}
use Rattle.ug_rows.specs.declared.area.Interval.{Interval}
use Rattle.ug_rows.specs.declared.row.Term.{Term}
use Rattle.ug_rows.specs.declared.row.Row.{Row}
use Rattle.ug_rows.specs.Rows.{no_term, term_at}
use Rattle.ug_rows.proofs.Products.{abs_sub}
use Rattle.ug_problem.specs.declared.column.NamedRow.{NamedRow}
use Rattle.ug_problem.specs.Instances.{Instance, IsRow, no_row, row_at}
use Rattle.ug_problem.specs.Limits.{IsProblem}
use Rattle.ug_problem.proofs.Linear.{linear_row, linear_objective}
use Rattle.ug_propagate.specs.declared.row_sides.RowSides.{RowSides}
use Rattle.ug_propagate.specs.declared.tight.Tight.{Tight}
use Rattle.ug_propagate.specs.declared.tight.Tight.TheVariants.{Kept, Empty}
use Rattle.ug_propagate.specs.declared.tight.Reason.{Reason}
use Rattle.ug_propagate.specs.Rounds.{keep_at_least, keep_at_most, lower_high, raise_low, floor_quotient, ceiling_quotient, over_rows, over_terms, over_objective, row_step, term_step, round, rounds, rounds_of, last_round, crossed, are_crossed, are_fixed}
use Rattle.ug_propagate.specs.Steps.{IsPropagable, IsTermOf}

pub most_pos : (reason : Reason) (f : ℤ) (j : ℕ) (s : ℤ) (area : List Interval) → pos 0 <ℤ f
    → keep_at_most reason f j s area ≡ lower_high reason j (floor_quotient s f) area
most_pos reason (pos d) j s area h = refl
most_pos reason (negsuc d) j s area h = absurd (omega (arith, ints))

pub most_neg : (reason : Reason) (f : ℤ) (j : ℕ) (s : ℤ) (area : List Interval) → f ≤ℤ pos 0 → f ≢ pos 0
    → keep_at_most reason f j s area ≡ raise_low reason j (ceiling_quotient s f) area
most_neg reason (pos zero) j s area h ne = absurd (ne refl)
most_neg reason (pos (suc d)) j s area h ne = absurd (omega (arith, ints))
most_neg reason (negsuc d) j s area h ne = refl

pub least_pos : (reason : Reason) (f : ℤ) (j : ℕ) (s : ℤ) (area : List Interval) → pos 0 <ℤ f
    → keep_at_least reason f j s area ≡ raise_low reason j (ceiling_quotient s f) area
least_pos reason (pos d) j s area h = refl
least_pos reason (negsuc d) j s area h = absurd (omega (arith, ints))

pub least_neg : (reason : Reason) (f : ℤ) (j : ℕ) (s : ℤ) (area : List Interval) → f ≤ℤ pos 0 → f ≢ pos 0
    → keep_at_least reason f j s area ≡ lower_high reason j (floor_quotient s f) area
least_neg reason (pos zero) j s area h ne = absurd (ne refl)
least_neg reason (pos (suc d)) j s area h ne = absurd (omega (arith, ints))
least_neg reason (negsuc d) j s area h ne = refl

pub ruleset at_most_cases = (most_pos, most_neg)

pub ruleset at_least_cases = (least_pos, least_neg)

side_small : (side : Option ℤ) → IfSome side (λ s. unsigned_abs s ≤ 10 ^ 37) → IfSome side (λ s. unsigned_abs s ≤ 4 * 10 ^ 37)
side_small None h = h
side_small (Some s) h = omega (arith, h)

-- each row of a problem is ready to be examined
pub ready_row : (p : Instance) (r : ℕ) (row_sides : RowSides) → IsProblem p → r < length p.rows
    → row_sides.low ≡ (row_at p r).low → row_sides.high ≡ (row_at p r).high
    → IsPropagable (length p.columns) row_sides (row_at p r).terms
ready_row p r row_sides problem there low high =
    let formed : IsRow (length p.columns) (slice_index_or p.rows r no_row) =
    All-get_or (IsRow (length p.columns)) p.rows r no_row there problem.formed.rows in
    let P : Option ℤ → Type 0 = λ (s : Option ℤ). IfSome s (λ v. unsigned_abs v ≤ 4 * 10 ^ 37) in
    record {
      linear = linear_row p r problem there;
      nonzero = formed.terms.nonzero;
      low = subst P (sym low) (side_small (row_at p r).low (problem.rows r there).low);
      high = subst P (sym high) (side_small (row_at p r).high (problem.rows r there).high);
    }

-- so is the objective, under a cutoff of at most 2 * 10^37
pub ready_objective : (p : Instance) (row_sides : RowSides) (c : ℤ) → IsProblem p → unsigned_abs c ≤ 2 * 10 ^ 37
    → row_sides.low ≡ None → row_sides.high ≡ Some (c -ℤ pos 1 -ℤ p.objective.constant)
    → IsPropagable (length p.columns) row_sides p.objective.terms
ready_objective p row_sides c problem small low high =
    let P : Option ℤ → Type 0 = λ (s : Option ℤ). IfSome s (λ v. unsigned_abs v ≤ 4 * 10 ^ 37) in
    let k : unsigned_abs (c -ℤ pos 1 -ℤ p.objective.constant) ≤ 4 * 10 ^ 37 =
    omega (arith, abs_sub (c -ℤ pos 1) p.objective.constant, abs_sub c (pos 1), problem.objective.constant) in
    record {
      linear = linear_objective p problem;
      nonzero = problem.formed.objective.nonzero;
      low = subst P (sym low) tt;
      high = subst P (sym high) k;
    }

-- the next item
drop_next : {A : Type 0} (xs : List A) (i : ℕ) (d : A) → i < length xs → drop i xs ≡ slice_index_or xs i d ∷ drop (i + 1) xs
drop_next xs i d h = rw (add-one, drop-cons xs i d) refl

drop_all : {A : Type 0} (xs : List A) (i : ℕ) → length xs ≤ i → drop i xs ≡ []
drop_all [] zero h = refl
drop_all [] (suc i) h = refl
drop_all (x ∷ xs) zero h = absurd (omega arith)
drop_all (x ∷ xs) (suc i) h = drop_all xs i (omega arith)

empty_terms : (name : Option ℕ) (row : Row) (rest : List Term) (reason : Reason) → over_terms name row rest (Empty reason) ≡ Empty reason
empty_terms name row [] reason = refl
empty_terms name row (t ∷ rest) reason = empty_terms name row rest reason

terms_next : (name : Option ℕ) (row : Row) (ts : List Term) (i : ℕ) (area : List Interval) (o : Tight) → i < length ts
    → o ≡ term_step name row (term_at ts i) (Kept area)
    → over_terms name row (drop i ts) (Kept area) ≡ over_terms name row (drop (i + 1) ts) o
terms_next name row ts i area o h e =
    ap (λ (l : List Term). over_terms name row l (Kept area)) (drop_next ts i no_term h)
    ∙ ap (λ (t : Tight). over_terms name row (drop (i + 1) ts) t) (sym e)

-- the terms from the next on make of the box after a term what those from this on made of it before
pub terms_go : (name : Option ℕ) (row : Row) (ts : List Term) (i : ℕ) (area after : List Interval) (whole : Tight) → i < length ts
    → Kept after ≡ term_step name row (term_at ts i) (Kept area)
    → over_terms name row (drop i ts) (Kept area) ≡ whole → over_terms name row (drop (i + 1) ts) (Kept after) ≡ whole
terms_go name row ts i area after whole h e f = sym (terms_next name row ts i area (Kept after) h e) ∙ f

-- a term that leaves nothing ends them
pub terms_stop : (name : Option ℕ) (row : Row) (ts : List Term) (i : ℕ) (area : List Interval) (reason : Reason) (whole : Tight) → i < length ts
    → Empty reason ≡ term_step name row (term_at ts i) (Kept area)
    → over_terms name row (drop i ts) (Kept area) ≡ whole → Empty reason ≡ whole
terms_stop name row ts i area reason whole h e f =
    sym (empty_terms name row (drop (i + 1) ts) reason) ∙ sym (terms_next name row ts i area (Empty reason) h e) ∙ f

-- after the last term
pub terms_end : (name : Option ℕ) (row : Row) (ts : List Term) (i : ℕ) (area : List Interval) (whole : Tight) → length ts ≤ i
    → over_terms name row (drop i ts) (Kept area) ≡ whole → Kept area ≡ whole
terms_end name row ts i area whole h f =
    sym (ap (λ (l : List Term). over_terms name row l (Kept area)) (drop_all ts i h)) ∙ f

-- a term of a row that is ready
pub term_of : (width : ℕ) (row_sides : RowSides) (ts : List Term) (i : ℕ) → IsPropagable width row_sides ts → i < length ts → IsTermOf width (term_at ts i)
term_of width row_sides ts i ready h = record {
  there = ready.linear.within i h;
  small = ready.linear.small i h;
  nonzero = ready.nonzero i h;
}

rows_next : (rows : List NamedRow) (i : ℕ) (area : List Interval) (o : Tight) → i < length rows
    → o ≡ row_step (Some i) (slice_index_or rows i no_row).row area
    → over_rows i (drop i rows) (Kept area) ≡ over_rows (i + 1) (drop (i + 1) rows) o
rows_next rows i area o h e =
    ap (λ (l : List NamedRow). over_rows i l (Kept area)) (drop_next rows i no_row h)
    ∙ ap (λ (t : Tight). over_rows (i + 1) (drop (i + 1) rows) t) (sym e)

pub rows_go : (rows : List NamedRow) (i : ℕ) (area after : List Interval) (whole : Tight) → i < length rows
    → Kept after ≡ row_step (Some i) (slice_index_or rows i no_row).row area
    → over_rows i (drop i rows) (Kept area) ≡ whole → over_rows (i + 1) (drop (i + 1) rows) (Kept after) ≡ whole
rows_go rows i area after whole h e f = sym (rows_next rows i area (Kept after) h e) ∙ f

pub rows_stop : (rows : List NamedRow) (i : ℕ) (area : List Interval) (reason : Reason) (whole : Tight) → i < length rows
    → Empty reason ≡ row_step (Some i) (slice_index_or rows i no_row).row area
    → over_rows i (drop i rows) (Kept area) ≡ whole → Empty reason ≡ whole
rows_stop rows i area reason whole h e f =
    sym (empty_rows (i + 1) (drop (i + 1) rows) reason) ∙ sym (rows_next rows i area (Empty reason) h e) ∙ f

pub rows_end : (rows : List NamedRow) (i : ℕ) (area : List Interval) (whole : Tight) → length rows ≤ i
    → over_rows i (drop i rows) (Kept area) ≡ whole → Kept area ≡ whole
rows_end rows i area whole h f = sym (ap (λ (l : List NamedRow). over_rows i l (Kept area)) (drop_all rows i h)) ∙ f

objective_empty : (p : Instance) (cutoff : Option ℤ) (reason : Reason) → over_objective p.objective cutoff (Empty reason) ≡ Empty reason
objective_empty p None reason = refl
objective_empty p (Some c) reason = refl

-- a round whose rows leave nothing
pub round_empty : (p : Instance) (cutoff : Option ℤ) (area : List Interval) (reason : Reason)
    → Empty reason ≡ over_rows 0 p.rows (Kept area) → Empty reason ≡ round p cutoff (Kept area)
round_empty p cutoff area reason e =
    sym (objective_empty p cutoff reason) ∙ ap (λ (t : Tight). over_objective p.objective cutoff t) e

-- and one whose rows leave this
pub round_kept : (p : Instance) (cutoff : Option ℤ) (area left : List Interval) (o : Tight)
    → Kept left ≡ over_rows 0 p.rows (Kept area) → o ≡ over_objective p.objective cutoff (Kept left) → o ≡ round p cutoff (Kept area)
round_kept p cutoff area left o e f = f ∙ ap (λ (t : Tight). over_objective p.objective cutoff t) e

still_empty : (p : Instance) (cutoff : Option ℤ) (reason : Reason) → round p cutoff (Empty reason) ≡ Empty reason
still_empty p cutoff reason =
    ap (λ (t : Tight). over_objective p.objective cutoff t) (empty_rows 0 p.rows reason) ∙ objective_empty p cutoff reason

rounds_next : (i : ℕ) (p : Instance) (cutoff : Option ℤ) (o : Tight) → i < 32
    → rounds_of (32 - i) p cutoff o ≡ rounds_of (32 - (i + 1)) p cutoff (round p cutoff o)
rounds_next i p cutoff o h =
    let e : 32 - i ≡ suc (32 - (i + 1)) = omega arith in
    ap (λ (n : ℕ). rounds_of n p cutoff o) e ∙ rounds_of_more (32 - (i + 1)) p cutoff o

-- a round more
pub rounds_go : (i : ℕ) (p : Instance) (cutoff : Option ℤ) (area after : List Interval) (whole : Tight) → i < 32
    → Kept after ≡ round p cutoff (Kept area)
    → rounds_of (32 - i) p cutoff (Kept area) ≡ whole → rounds_of (32 - (i + 1)) p cutoff (Kept after) ≡ whole
rounds_go i p cutoff area after whole h e f =
    ap (λ (t : Tight). rounds_of (32 - (i + 1)) p cutoff t) e ∙ sym (rounds_next i p cutoff (Kept area) h) ∙ f

-- one that leaves nothing
pub rounds_stop : (i : ℕ) (p : Instance) (cutoff : Option ℤ) (area : List Interval) (reason : Reason) (whole : Tight) → i < 32
    → Empty reason ≡ round p cutoff (Kept area)
    → rounds_of (32 - i) p cutoff (Kept area) ≡ whole → Empty reason ≡ whole
rounds_stop i p cutoff area reason whole h e f =
    sym (rounds_stay (32 - (i + 1)) p cutoff (Empty reason) (still_empty p cutoff reason))
    ∙ ap (λ (t : Tight). rounds_of (32 - (i + 1)) p cutoff t) e ∙ sym (rounds_next i p cutoff (Kept area) h) ∙ f

-- one that changes nothing
pub rounds_still : (i : ℕ) (p : Instance) (cutoff : Option ℤ) (area after : List Interval) (whole : Tight)
    → Kept after ≡ round p cutoff (Kept area) → area ≡ after
    → rounds_of (32 - i) p cutoff (Kept area) ≡ whole → Kept after ≡ whole
rounds_still i p cutoff area after whole e same f =
    let k : Kept area ≡ Kept after = ap (λ (a : List Interval). Kept a) same in
    sym k ∙ sym (rounds_stay (32 - i) p cutoff (Kept area) (sym e ∙ sym k)) ∙ f

-- after the last
pub rounds_end : (i : ℕ) (p : Instance) (cutoff : Option ℤ) (area : List Interval) (whole : Tight) → 32 ≤ i
    → rounds_of (32 - i) p cutoff (Kept area) ≡ whole → Kept area ≡ whole
rounds_end i p cutoff area whole h f =
    let e : 0 ≡ 32 - i = omega arith in
    sym (rounds_of_none p cutoff (Kept area)) ∙ ap (λ (n : ℕ). rounds_of n p cutoff (Kept area)) e ∙ f

neither : (b : Bool) → T (not b) → T b → ⊥
neither true h k = h
neither false h k = k

no_cross : (area : List Interval) → IsNonEmpty area → IsCrossed area → ⊥
no_cross area n c =
    let k : (interval_at area c.0).low ≤ℤ (interval_at area c.0).high = n c.0 c.1 in
    let l : (interval_at area c.0).high <ℤ (interval_at area c.0).low = c.2 in
    omega (arith, ints)

-- if all columns are fixed, one more round follows
pub last_fixed : (p : Instance) (cutoff : Option ℤ) (area : List Interval) → IsFixed area
    → last_round p cutoff (Kept area) ≡ round p cutoff (Kept area)
last_fixed p cutoff area fixed =
    let P : Tight → Type 0 = λ (o : Tight). o ≡ round p cutoff (Kept area) in
    if_bool P (are_fixed area) (round p cutoff (Kept area)) (Kept area) (λ _. refl)
    (λ open_. absurd (neither (are_fixed area) open_ (fixed_to area fixed)))

pub last_open : (p : Instance) (cutoff : Option ℤ) (area : List Interval) → (IsFixed area → ⊥)
    → last_round p cutoff (Kept area) ≡ Kept area
last_open p cutoff area open_ =
    let P : Tight → Type 0 = λ (o : Tight). o ≡ Kept area in
    if_bool P (are_fixed area) (round p cutoff (Kept area)) (Kept area)
    (λ fixed. absurd (open_ (fixed_from area fixed))) (λ _. refl)

-- a box with a point goes through the rounds
pub rounds_some : (p : Instance) (cutoff : Option ℤ) (area : List Interval) → IsNonEmpty area
    → rounds p cutoff area ≡ last_round p cutoff (rounds_of 32 p cutoff (Kept area))
rounds_some p cutoff area n =
    let o : Tight = last_round p cutoff (rounds_of 32 p cutoff (Kept area)) in
    let P : Tight → Type 0 = λ (t : Tight). t ≡ o in
    if_bool P (are_crossed area) (crossed p.rows cutoff area) o (λ c. absurd (no_cross area n (crossed_from area c))) (λ _. refl)

pub rounds_none : (p : Instance) (cutoff : Option ℤ) (area : List Interval) → (IsNonEmpty area → ⊥)
    → rounds p cutoff area ≡ crossed p.rows cutoff area
rounds_none p cutoff area none =
    let P : Tight → Type 0 = λ (t : Tight). t ≡ crossed p.rows cutoff area in
    if_bool P (are_crossed area) (crossed p.rows cutoff area) (last_round p cutoff (rounds_of 32 p cutoff (Kept area)))
    (λ _. refl) (λ n. absurd (none (nonempty_from area n)))

get_any : {A : Type 0} (xs : List A) (i : ℕ) (d e : A) → i < length xs → slice_index_or xs i d ≡ slice_index_or xs i e
get_any [] i d e h = absurd (omega arith)
get_any (x ∷ xs) zero d e h = refl
get_any (x ∷ xs) (suc i) d e h = get_any xs i d e (omega arith)

-- the row that is read is that row
pub item_is : (rows : List NamedRow) (r : ℕ) (item : NamedRow) → r < length rows → item ≡ slice_index_or rows r item
    → item ≡ slice_index_or rows r no_row
item_is rows r item h e = e ∙ get_any rows r item no_row h
