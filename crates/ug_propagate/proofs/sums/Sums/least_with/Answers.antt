use Rattle.std.proofs.Common.{◌≡◌, ◌∙◌, ℕ, List, ap, length, subst, sym, arith}
use Rattle.ug_rows.specs.declared.area.Interval.{Interval}
use Rattle.ug_rows.specs.declared.row.Term.{Term}
use Rattle.ug_problem.specs.declared.column.NamedRow.{NamedRow}
use Rattle.ug_problem.proofs.Linear.{linear_objective}
use Rattle.ug_propagate.specs.declared.sums.Extremes.{Extremes}
use Rattle.ug_propagate.specs.Running.{IsSummed, extremes_at}
use Rattle.ug_propagate.proofs.Slacks.{least_small}
use Rattle.ug_propagate.proofs.Running.{named_last}
use Rattle.ug_propagate.proofs.sums.Sums.least_with.Goals as goal

pub least_in-requires : goal.least_in-requires
least_in-requires c =
    let p = c.args.problem.now in
    least_small (length p.columns) p.objective.terms _ c.objective_with.result
    (linear_objective p c.rows.ensures.problem) c.objective_with.ensures

pub objective_with-requires-clause-summed : goal.objective_with-requires-clause-summed
objective_with-requires-clause-summed c =
    let p = c.args.problem.now in
    let now = c.args.self.now in
    let last : length c.rows.result.now ≡ length p.rows = ap (λ (rows : List NamedRow). length rows) c.rows.ensures.value in
    let ends : c.ends-ends.result ≡ extremes_at now.sums (length p.rows) =
    c.ends-ends.ensures ∙ ap (λ (n : ℕ). extremes_at now.sums n) last in
    let here : IsSummed p.objective.terms now.area (extremes_at now.sums (length p.rows)) =
    subst (λ (ts : List Term). IsSummed ts now.area (extremes_at now.sums (length p.rows))) (named_last p)
    (c.requires.sums.each (length p.rows) (omega arith)) in
    subst (λ (area : List Interval). IsSummed p.objective.terms area c.ends-ends.result) (sym c.sides-area.ensures)
    (subst (λ (e : Extremes). IsSummed p.objective.terms now.area e) (sym ends) here)
