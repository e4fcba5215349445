use Rattle.std.proofs.Common.{◌≡◌, ◌∙◌, ◌<◌, ℕ, ap, false, length, List, slice_index_or, Some, subst, sym, true}
use Rattle.ug_rows.specs.declared.row.Term.{Term}
use Rattle.ug_rows.specs.declared.row.Row.{Row}
use Rattle.ug_problem.specs.declared.column.NamedRow.{NamedRow}
use Rattle.ug_problem.specs.Instances.{no_row, row_at}
use Rattle.ug_propagate.specs.declared.row_sides.RowSides.{RowSides}
use Rattle.ug_propagate.specs.declared.tight.Tight.{Tight}
use Rattle.ug_propagate.specs.declared.tight.Tight.TheVariants.{Kept}
use Rattle.ug_propagate.specs.Rounds.{over_rows, row_step}
use Rattle.ug_propagate.specs.Steps.{IsPropagable}
use Rattle.ug_propagate.proofs.Bodies.{item_is, ready_row, rows_go, rows_stop}
use Rattle.ug_propagate.proofs.rounds.tighten_rows.Goals as goal
use Rattle.ug_propagate.proofs.rounds.tighten_rows.Goals.{in-Changed, in-Same}

pub returns-in-Emptied-clause-value : goal.returns-in-Emptied-clause-value
returns-in-Emptied-clause-value c =
    let item : NamedRow = c.index-rows-r.result in
    let step : Row → Tight = λ (row : Row). row_step (Some c.loop-r.r) row c.loop-r.area in
    let with_terms : List Term → Row = λ (ts : List Term). record { terms = ts; low = item.row.low; high = item.row.high } in
    let same = item_is c.rows-rows.result.now c.loop-r.r item c.loop-r-test.true c.index-rows-r.is in
    rows_stop c.rows-rows.result.now c.loop-r.r c.loop-r.area c.in-Emptied.reason _ c.loop-r-test.true
    (c.in-Emptied.ensures.value ∙ ap (λ (ts : List Term). step (with_terms ts)) c.as_slice.ensures
    ∙ ap (λ (named : NamedRow). step named.row) same)
    c.loop-r.invariant.so_far
    ∙ ap (λ (rows : List NamedRow). over_rows 0 rows (Kept c.args.area.now)) c.rows-rows.ensures.value

pub propagate_plain-requires : goal.propagate_plain-requires
propagate_plain-requires c =
    let p = c.args.problem.now in
    let r = c.loop-r.r in
    let item : NamedRow = c.index-rows-r.result in
    let row_sides : RowSides = record { row = Some r; low = item.row.low; high = item.row.high } in
    let at : item.row ≡ row_at p r =
    ap (λ (named : NamedRow). named.row) (item_is c.rows-rows.result.now r item c.loop-r-test.true c.index-rows-r.is)
    ∙ ap (λ (rows : List NamedRow). (slice_index_or rows r no_row).row) c.rows-rows.ensures.value in
    let there : r < length p.rows = subst (λ (rows : List NamedRow). r < length rows) c.rows-rows.ensures.value c.loop-r-test.true in
    subst (λ (n : ℕ). IsPropagable n row_sides c.as_slice.result.now) (sym (c.loop-r.auto.area ∙ c.requires))
    (subst (λ (ts : List Term). IsPropagable (length p.columns) row_sides ts)
    (sym (c.as_slice.ensures ∙ ap (λ (row : Row). row.terms) at))
    (ready_row p r row_sides c.rows-rows.ensures.problem there (ap (λ (row : Row). row.low) at) (ap (λ (row : Row). row.high) at)))

pub loop-r-preserved : goal.loop-r-preserved
loop-r-preserved c =
    let rows = c.rows-rows.result.now in
    let item : NamedRow = c.index-rows-r.result in
    let step : Row → Tight = λ (row : Row). row_step (Some c.loop-r.r) row c.loop-r.area in
    let with_terms : List Term → Row = λ (ts : List Term). record { terms = ts; low = item.row.low; high = item.row.high } in
    let same = item_is rows c.loop-r.r item c.loop-r-test.true c.index-rows-r.is in
    let is : step (with_terms c.as_slice.result.now) ≡ step (slice_index_or rows c.loop-r.r no_row).row =
    ap (λ (ts : List Term). step (with_terms ts)) c.as_slice.ensures ∙ ap (λ (named : NamedRow). step named.row) same in
    elim c.match-propagate_plain.branch [
      | in-Changed w ↦ record {
        so_far = rows_go rows c.loop-r.r c.loop-r.area c.propagate_plain.new.area _ c.loop-r-test.true
            (w.in-Changed.ensures.value ∙ is) c.loop-r.invariant.so_far;
        still = λ e. absurd (let h : true ≡ false = sym w.changed-is ∙ e in cc);
      }
      | in-Same w ↦ record {
        so_far = rows_go rows c.loop-r.r c.loop-r.area c.propagate_plain.new.area _ c.loop-r-test.true
            (w.in-Same.ensures.value ∙ is) c.loop-r.invariant.so_far;
        still = λ e. w.in-Same.ensures.still ∙ c.loop-r.invariant.still (sym w.changed-is ∙ e);
      }
    ]
