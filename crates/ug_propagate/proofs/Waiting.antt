-- To pass over the rows that are at fixpoint is to propagate them all.
use Rattle.std.proofs.Common.{◌≡◌, refl, sym, subst, ◌∙◌, ap, inl, inr, ℕ, zero, suc, ◌+◌, ◌-◌, ◌<◌, ◌≤◌, ℤ, pos, ◌-ℤ◌, List, [], ◌∷◌, ◌++◌, length, take, get_or, Option, Some, None, arith}
use Rattle.std.proofs.lemmas.Bool.{cases_eq, cases_lt, lt-ltb, le-ltb}
use Rattle.std.proofs.lemmas.List.{take_all, take_more, length-take-le}
use Rattle.std.specs.Option.{option_map}
use Rattle.ug_rows.specs.declared.area.Interval.{Interval}
use Rattle.ug_rows.specs.declared.row.Term.{Term}
use Rattle.ug_problem.specs.declared.column.NamedRow.{NamedRow}
use Rattle.ug_problem.specs.Better.{IsSmallCutoff}
use Rattle.ug_problem.specs.Instances.{Instance, no_row, row_at}
use Rattle.ug_problem.specs.Limits.{IsProblem}
use Rattle.ug_problem.specs.ColumnEntries.{terms_of}
use Rattle.ug_problem.proofs.Linear.{linear_objective}
use Rattle.ug_propagate.specs.declared.row_sides.RowSides.{RowSides}
use Rattle.ug_propagate.specs.declared.row_sides.Propagated.{Propagated}
use Rattle.ug_propagate.specs.declared.tight.Tight.{Tight}
use Rattle.ug_propagate.specs.declared.tight.Tight.TheVariants.{Kept, Empty}
use Rattle.ug_propagate.specs.declared.tight.Reason.{Reason}
use Rattle.ug_propagate.specs.Queued.{HasBit, bit_of}
use Rattle.ug_propagate.specs.Rounds.{propagate_row, over_objective, over_rows, over_terms, round, row_step, are_fixed, last_round, rounds_of}
use Rattle.ug_propagate.specs.Steps.{IsPropagable, propagated_of, row_of}
use Rattle.ug_propagate.specs.Waiting.{HasPropagated, IsNextRow, NoneQueuedFrom, WentOn, propagated_to, propagate_first, then_propagate}
use Rattle.ug_propagate.specs.Working.{AreAtFixpoint, IsAtFixpoint, IsSame, IsStep, IsWorking, AtFixpointWhereChanged, AtFixpointWhereSame, WorkState, sides_for}
use Rattle.ug_propagate.proofs.Bodies.{ready_objective, ready_row}
use Rattle.ug_propagate.proofs.Parts.{if_bool}
use Rattle.ug_propagate.proofs.Sweeps.{rounds_stay}
use Rattle.ug_propagate.proofs.Running.{terms_inner, terms_last}
use Rattle.ug_propagate.proofs.Stepping.{later_same, later_trans, rest_is}

pub propagate_inner : (p : Instance) (cutoff : Option ℤ) (r : ℕ) → r < length p.rows
    → sides_for p cutoff r ≡ record { row = Some r; low = (row_at p r).low; high = (row_at p r).high }
propagate_inner p cutoff r there = rw (lt-ltb r (length p.rows) there) refl

pub propagate_last : (p : Instance) (cutoff : Option ℤ) (r : ℕ) → length p.rows ≤ r
    → sides_for p cutoff r ≡ record { row = None; low = None; high = option_map (λ c. c -ℤ pos 1 -ℤ p.objective.constant) cutoff }
propagate_last p cutoff r past = rw (le-ltb r (length p.rows) past) refl

objective_ready : (p : Instance) (cutoff : Option ℤ) → IsProblem p → IsSmallCutoff cutoff
    → IsPropagable (length p.columns)
    (record { row = None; low = None; high = option_map (λ c. c -ℤ pos 1 -ℤ p.objective.constant) cutoff }) p.objective.terms
objective_ready p None problem small = record {
  linear = linear_objective p problem;
  nonzero = problem.formed.objective.nonzero;
  low = tt;
  high = tt;
}
objective_ready p (Some c) problem small = ready_objective p
    (record { row = None; low = None; high = Some (c -ℤ pos 1 -ℤ p.objective.constant) }) c problem small refl refl

-- each row may be examined, and the objective
pub propagable_for : (p : Instance) (cutoff : Option ℤ) (r : ℕ) → IsProblem p → IsSmallCutoff cutoff → r ≤ length p.rows
    → IsPropagable (length p.columns) (sides_for p cutoff r) (terms_of p r)
propagable_for p cutoff r problem small there =
    let P : RowSides → List Term → Type 0 = λ (row_sides : RowSides) (ts : List Term). IsPropagable (length p.columns) row_sides ts in
    elim (cases_lt r (length p.rows)) [
      | inl inner ↦
          let row_sides : RowSides = record { row = Some r; low = (row_at p r).low; high = (row_at p r).high } in
          subst (λ (l : RowSides). P l (terms_of p r)) (sym (propagate_inner p cutoff r inner))
          (subst (λ (ts : List Term). P row_sides ts) (terms_inner p r inner) (ready_row p r row_sides problem inner refl refl))
      | inr last ↦
          let row_sides : RowSides = record { row = None; low = None; high = option_map (λ c. c -ℤ pos 1 -ℤ p.objective.constant) cutoff } in
          subst (λ (l : RowSides). P l (terms_of p r)) (sym (propagate_last p cutoff r last))
          (subst (λ (ts : List Term). P row_sides ts) (terms_last p r last there) (objective_ready p cutoff problem small))
    ]

-- what the rows do that are asleep, once one more is
at_fixpoint_more : (p : Instance) (cutoff : Option ℤ) (area : List Interval) (r : ℕ) (old new : List ℕ) → AreAtFixpoint p cutoff area old
    → HasBit r 0 old new → IsAtFixpoint (sides_for p cutoff r) (terms_of p r) area → AreAtFixpoint p cutoff area new
at_fixpoint_more p cutoff area r old new at_fixpoint bit here k there unqueued = elim (cases_eq k r) [
  | inl same ↦
      let P : ℕ → Type 0 = λ (n : ℕ). IsAtFixpoint (sides_for p cutoff n) (terms_of p n) area in
      subst P (sym same) here
  | inr other ↦ at_fixpoint k there (sym (bit.others k other) ∙ unqueued)
]

-- a row that is at fixpoint after its propagation is let rest
pub visit_at_fixpoint : (p : Instance) (cutoff : Option ℤ) (r : ℕ) (old mid new : WorkState) → WentOn p cutoff old mid
    → IsAtFixpoint (sides_for p cutoff r) (terms_of p r) mid.sums.area → HasBit r 0 mid.queued new.queued
    → new ≡ record mid { queued = new.queued } → length new.queued ≡ length mid.queued → WentOn p cutoff old new
visit_at_fixpoint p cutoff r old mid new went here bit others wide =
    let box = went.working.box in
    let Q : WorkState → Type 0 = λ (w : WorkState). WentOn p cutoff old w in
    subst Q (sym others) (record {
      working = record {
        box = record {
          sums = box.sums;
          max_span = box.max_span;
          bits = record { enough = omega (arith, box.bits.enough, wide); few = omega (arith, box.bits.few, wide) };
        };
        at_fixpoint = at_fixpoint_more p cutoff mid.sums.area r mid.queued new.queued went.working.at_fixpoint bit here;
      };
      later = record {
        more = went.later.more;
        trail = went.later.trail;
        back = went.later.back;
        there = went.later.there;
        max_span = went.later.max_span;
      };
    })

pub went_step : (p : Instance) (cutoff : Option ℤ) (old new : WorkState) → IsWorking p cutoff old → IsStep p old new
    → WentOn p cutoff old new
went_step p cutoff old new working step = record {
  working = record { box = step.box; at_fixpoint = step.at_fixpoint cutoff working.at_fixpoint };
  later = step.later;
}

pub went_trans : (p : Instance) (cutoff : Option ℤ) (a b c : WorkState) → WentOn p cutoff a b → WentOn p cutoff b c → WentOn p cutoff a c
went_trans p cutoff a b c h k = record { working = k.working; later = later_trans a b c h.later k.later }

pub went_same : (p : Instance) (cutoff : Option ℤ) (w : WorkState) → IsWorking p cutoff w → WentOn p cutoff w w
went_same p cutoff w working = record { working = working; later = later_same w }

-- the propagation of a row that is asleep gives the box itself
pub unqueued_is : (p : Instance) (cutoff : Option ℤ) (area : List Interval) (queued : List ℕ) (r : ℕ) → IsProblem p → IsSmallCutoff cutoff
    → AreAtFixpoint p cutoff area queued → r ≤ length p.rows → bit_of queued r ≡ 0 → propagated_to p cutoff r area ≡ Kept area
unqueued_is p cutoff area queued r problem small at_fixpoint there unqueued =
    rest_is (sides_for p cutoff r) (terms_of p r) area (propagable_for p cutoff r problem small there).nonzero (at_fixpoint r there unqueued)

pub propagate_first_none : (p : Instance) (cutoff : Option ℤ) (o : Tight) → propagate_first 0 p cutoff o ≡ o
unfolding propagate_first
propagate_first_none p cutoff o = refl

pub propagate_first_more : (n : ℕ) (p : Instance) (cutoff : Option ℤ) (o : Tight) → propagate_first (suc n) p cutoff o ≡ then_propagate p cutoff n (propagate_first n p cutoff o)
unfolding propagate_first
propagate_first_more n p cutoff o = refl

propagate_first_next : (n : ℕ) (p : Instance) (cutoff : Option ℤ) (o : Tight) → propagate_first (n + 1) p cutoff o ≡ then_propagate p cutoff n (propagate_first n p cutoff o)
propagate_first_next n p cutoff o =
    let e : n + 1 ≡ suc n = omega arith in
    ap (λ (m : ℕ). propagate_first m p cutoff o) e ∙ propagate_first_more n p cutoff o

pass_by : (d from : ℕ) (p : Instance) (cutoff : Option ℤ) (area : List Interval) (queued : List ℕ) (o : Tight)
    → IsProblem p → IsSmallCutoff cutoff → AreAtFixpoint p cutoff area queued
    → ((k : ℕ) → from ≤ k → k < from + d → (k ≤ length p.rows) × (bit_of queued k ≡ 0))
    → propagate_first from p cutoff o ≡ Kept area → propagate_first (from + d) p cutoff o ≡ Kept area
pass_by zero from p cutoff area queued o problem small at_fixpoint unqueued h =
    let e : from + 0 ≡ from = omega arith in ap (λ (m : ℕ). propagate_first m p cutoff o) e ∙ h
pass_by (suc d) from p cutoff area queued o problem small at_fixpoint unqueued h =
    let e : from + suc d ≡ from + d + 1 = omega arith in
    let here : (from + d ≤ length p.rows) × (bit_of queued (from + d) ≡ 0) = unqueued (from + d) (omega arith) (omega arith) in
    let before : propagate_first (from + d) p cutoff o ≡ Kept area =
    pass_by d from p cutoff area queued o problem small at_fixpoint (λ k least less. unqueued k least (omega arith)) h in
    ap (λ (m : ℕ). propagate_first m p cutoff o) e ∙ propagate_first_next (from + d) p cutoff o
    ∙ ap (λ (t : Tight). then_propagate p cutoff (from + d) t) before
    ∙ unqueued_is p cutoff area queued (from + d) problem small at_fixpoint here.0 here.1

-- the rows up to the next that is queued are passed by
pass_to : (from r : ℕ) (p : Instance) (cutoff : Option ℤ) (area : List Interval) (queued : List ℕ) (o : Tight)
    → IsProblem p → IsSmallCutoff cutoff → AreAtFixpoint p cutoff area queued → from ≤ r
    → ((k : ℕ) → from ≤ k → k < r → (k ≤ length p.rows) × (bit_of queued k ≡ 0))
    → propagate_first from p cutoff o ≡ Kept area → propagate_first r p cutoff o ≡ Kept area
pass_to from r p cutoff area queued o problem small at_fixpoint least unqueued h =
    let e : from + (r - from) ≡ r = omega arith in
    ap (λ (m : ℕ). propagate_first m p cutoff o) (sym e)
    ∙ pass_by (r - from) from p cutoff area queued o problem small at_fixpoint (λ k at less. unqueued k at (omega arith)) h

-- and that one is examined
pub propagate_first_go : (from r : ℕ) (p : Instance) (cutoff : Option ℤ) (area : List Interval) (queued : List ℕ) (o told : Tight)
    → IsProblem p → IsSmallCutoff cutoff → AreAtFixpoint p cutoff area queued → IsNextRow p queued from r
    → told ≡ propagated_to p cutoff r area → propagate_first from p cutoff o ≡ Kept area → propagate_first (r + 1) p cutoff o ≡ told
propagate_first_go from r p cutoff area queued o told problem small at_fixpoint next e h =
    propagate_first_next r p cutoff o
    ∙ ap (λ (t : Tight). then_propagate p cutoff r t)
    (pass_to from r p cutoff area queued o problem small at_fixpoint next.least
    (λ k least less. (omega (arith, next.there), next.between k least less)) h)
    ∙ sym e

propagate_first_empty : (d n : ℕ) (p : Instance) (cutoff : Option ℤ) (o : Tight) (reason : Reason) → propagate_first n p cutoff o ≡ Empty reason
    → propagate_first (n + d) p cutoff o ≡ Empty reason
propagate_first_empty zero n p cutoff o reason h = let e : n + 0 ≡ n = omega arith in ap (λ (m : ℕ). propagate_first m p cutoff o) e ∙ h
propagate_first_empty (suc d) n p cutoff o reason h =
    let e : n + suc d ≡ n + d + 1 = omega arith in
    ap (λ (m : ℕ). propagate_first m p cutoff o) e ∙ propagate_first_next (n + d) p cutoff o
    ∙ ap (λ (t : Tight). then_propagate p cutoff (n + d) t) (propagate_first_empty d n p cutoff o reason h)

over_push : (r : ℕ) (rows : List NamedRow) (named : NamedRow) (o : Tight)
    → over_rows r (rows ++ named ∷ []) o ≡ propagate_row (Some (r + length rows)) named.row (over_rows r rows o)
over_push r [] named o = let e : r ≡ r + 0 = omega arith in ap (λ (n : ℕ). propagate_row (Some n) named.row o) e
over_push r (first ∷ rows) named o =
    let e : r + 1 + length rows ≡ r + length (first ∷ rows) = omega arith in
    over_push (r + 1) rows named (propagate_row (Some r) first.row o)
    ∙ ap (λ (n : ℕ). propagate_row (Some n) named.row (over_rows (r + 1) rows (propagate_row (Some r) first.row o))) e

inner_propagation : (p : Instance) (cutoff : Option ℤ) (r : ℕ) (o : Tight) → r < length p.rows
    → then_propagate p cutoff r o ≡ propagate_row (Some r) (row_at p r) o
inner_propagation p cutoff r (Empty reason) there = refl
inner_propagation p cutoff r (Kept area) there =
    let row_sides : RowSides = record { row = Some r; low = (row_at p r).low; high = (row_at p r).high } in
    ap (λ (l : RowSides). row_step l.row (row_of l (terms_of p r)) area) (propagate_inner p cutoff r there)
    ∙ ap (λ (ts : List Term). row_step row_sides.row (row_of row_sides ts) area) (sym (terms_inner p r there))

no_sides : (ts rest : List Term) (area : List Interval)
    → over_terms None (record { terms = ts; low = None; high = None }) rest (Kept area) ≡ Kept area
no_sides ts [] area = refl
no_sides ts (t ∷ rest) area = no_sides ts rest area

last_propagation : (p : Instance) (cutoff : Option ℤ) (r : ℕ) (o : Tight) → length p.rows ≤ r → r ≤ length p.rows
    → then_propagate p cutoff r o ≡ over_objective p.objective cutoff o
last_propagation p None r (Empty reason) past there = refl
last_propagation p (Some c) r (Empty reason) past there = refl
last_propagation p None r (Kept area) past there =
    let row_sides : RowSides = record { row = None; low = None; high = None } in
    ap (λ (l : RowSides). row_step l.row (row_of l (terms_of p r)) area) (propagate_last p None r past)
    ∙ no_sides (terms_of p r) (terms_of p r) area
last_propagation p (Some c) r (Kept area) past there =
    let row_sides : RowSides = record { row = None; low = None; high = Some (c -ℤ pos 1 -ℤ p.objective.constant) } in
    ap (λ (l : RowSides). row_step l.row (row_of l (terms_of p r)) area) (propagate_last p (Some c) r past)
    ∙ ap (λ (ts : List Term). row_step row_sides.row (row_of row_sides ts) area) (sym (terms_last p r past there))

propagate_first_rows : (n : ℕ) (p : Instance) (cutoff : Option ℤ) (o : Tight) → n ≤ length p.rows
    → propagate_first n p cutoff o ≡ over_rows 0 (take n p.rows) o
propagate_first_rows zero p cutoff o h = propagate_first_none p cutoff o
propagate_first_rows (suc n) p cutoff o h =
    let there : n < length p.rows = omega arith in
    let e : n + 1 ≡ suc n = omega arith in
    let at : 0 + length (take n p.rows) ≡ n = omega (arith, length-take-le n p.rows (omega arith)) in
    propagate_first_more n p cutoff o ∙ ap (λ (t : Tight). then_propagate p cutoff n t) (propagate_first_rows n p cutoff o (omega arith))
    ∙ inner_propagation p cutoff n (over_rows 0 (take n p.rows) o) there
    ∙ ap (λ (m : ℕ). propagate_row (Some m) (row_at p n) (over_rows 0 (take n p.rows) o)) (sym at)
    ∙ sym (over_push 0 (take n p.rows) (get_or p.rows n no_row) o)
    ∙ ap (λ (rows : List NamedRow). over_rows 0 rows o) (sym (take_more p.rows n no_row there))
    ∙ ap (λ (m : ℕ). over_rows 0 (take m p.rows) o) e

-- the propagates all rows and at the objective are a round
pub propagate_first_round : (p : Instance) (cutoff : Option ℤ) (o : Tight) → propagate_first (length p.rows + 1) p cutoff o ≡ round p cutoff o
propagate_first_round p cutoff o =
    propagate_first_next (length p.rows) p cutoff o
    ∙ ap (λ (t : Tight). then_propagate p cutoff (length p.rows) t)
    (propagate_first_rows (length p.rows) p cutoff o (omega arith)
    ∙ ap (λ (rows : List NamedRow). over_rows 0 rows o) (take_all (length p.rows) p.rows (omega arith)))
    ∙ last_propagation p cutoff (length p.rows) (over_rows 0 p.rows o) (omega arith) (omega arith)

-- a round that a row ends
pub round_stops : (from r : ℕ) (p : Instance) (cutoff : Option ℤ) (area : List Interval) (queued : List ℕ) (o : Tight) (reason : Reason)
    → IsProblem p → IsSmallCutoff cutoff → AreAtFixpoint p cutoff area queued → IsNextRow p queued from r
    → Empty reason ≡ propagated_to p cutoff r area → propagate_first from p cutoff o ≡ Kept area → Empty reason ≡ round p cutoff o
round_stops from r p cutoff area queued o reason problem small at_fixpoint next e h =
    let upto : propagate_first (r + 1) p cutoff o ≡ Empty reason =
    propagate_first_go from r p cutoff area queued o (Empty reason) problem small at_fixpoint next e h in
    let n : r + 1 + (length p.rows - r) ≡ length p.rows + 1 = omega (arith, next.there) in
    sym (sym (propagate_first_round p cutoff o) ∙ ap (λ (m : ℕ). propagate_first m p cutoff o) (sym n)
    ∙ propagate_first_empty (length p.rows - r) (r + 1) p cutoff o reason upto)

-- and one that ends where no row is queued any more
pub round_ends : (from : ℕ) (p : Instance) (cutoff : Option ℤ) (area : List Interval) (queued : List ℕ) (o : Tight)
    → IsProblem p → IsSmallCutoff cutoff → AreAtFixpoint p cutoff area queued → from ≤ length p.rows + 1 → NoneQueuedFrom p queued from
    → propagate_first from p cutoff o ≡ Kept area → Kept area ≡ round p cutoff o
round_ends from p cutoff area queued o problem small at_fixpoint within rest h =
    sym (sym (propagate_first_round p cutoff o)
    ∙ pass_to from (length p.rows + 1) p cutoff area queued o problem small at_fixpoint within
    (λ k least less. (omega arith, rest k least (omega arith))) h)

-- if no row is queued a round returns the box itself
pub round_at_fixpoint : (p : Instance) (cutoff : Option ℤ) (area : List Interval) (queued : List ℕ) → IsProblem p → IsSmallCutoff cutoff
    → AreAtFixpoint p cutoff area queued → NoneQueuedFrom p queued 0 → round p cutoff (Kept area) ≡ Kept area
round_at_fixpoint p cutoff area queued problem small at_fixpoint rest =
    sym (round_ends 0 p cutoff area queued (Kept area) problem small at_fixpoint (omega arith) rest (propagate_first_none p cutoff (Kept area)))

-- so the rounds that are left give it too
pub rounds_rest : (i : ℕ) (p : Instance) (cutoff : Option ℤ) (area : List Interval) (queued : List ℕ) (whole : Tight) → IsProblem p
    → IsSmallCutoff cutoff → AreAtFixpoint p cutoff area queued → NoneQueuedFrom p queued 0
    → rounds_of (32 - i) p cutoff (Kept area) ≡ whole → Kept area ≡ whole
rounds_rest i p cutoff area queued whole problem small at_fixpoint rest h =
    sym (rounds_stay (32 - i) p cutoff (Kept area) (round_at_fixpoint p cutoff area queued problem small at_fixpoint rest)) ∙ h

-- and the last
pub last_at_fixpoint : (p : Instance) (cutoff : Option ℤ) (area : List Interval) (queued : List ℕ) → IsProblem p → IsSmallCutoff cutoff
    → AreAtFixpoint p cutoff area queued → NoneQueuedFrom p queued 0 → Kept area ≡ last_round p cutoff (Kept area)
last_at_fixpoint p cutoff area queued problem small at_fixpoint rest =
    let P : Tight → Type 0 = λ (t : Tight). Kept area ≡ t in
    if_bool P (are_fixed area) (round p cutoff (Kept area)) (Kept area)
    (λ _. sym (round_at_fixpoint p cutoff area queued problem small at_fixpoint rest)) (λ _. refl)

-- the propagation of a row, by what its look and its terms are
pub has_propagated : (p : Instance) (cutoff : Option ℤ) (r : ℕ) (row_sides : RowSides) (ts : List Term) (old new : WorkState) (propagated : Propagated)
    → row_sides ≡ sides_for p cutoff r → ts ≡ terms_of p r → propagated_of propagated new.sums.area ≡ row_step row_sides.row (row_of row_sides ts) old.sums.area
    → IsSame propagated old new → AtFixpointWhereSame propagated row_sides ts old.sums.area → AtFixpointWhereChanged propagated row_sides ts new.sums.area
    → HasPropagated p cutoff r old new propagated
has_propagated p cutoff r row_sides ts old new propagated named are =
    let P : RowSides → List Term → Type 0 = λ (l : RowSides) (us : List Term).
    propagated_of propagated new.sums.area ≡ row_step l.row (row_of l us) old.sums.area
    → IsSame propagated old new → AtFixpointWhereSame propagated l us old.sums.area → AtFixpointWhereChanged propagated l us new.sums.area
    → HasPropagated p cutoff r old new propagated in
    subst (λ (l : RowSides). P l ts) (sym named) (subst (λ (us : List Term). P (sides_for p cutoff r) us) (sym are)
    (λ value same rest snug. record { value = value; same = same; rest = rest; snug = snug }))
