use Rattle.std.proofs.Common.{◌∙◌, ap, sym, List, length}
use Rattle.ug_problem.specs.declared.column.NamedRow.{NamedRow}
use Rattle.ug_propagate.proofs.Objectives.{factor_none, factor_other}
use Rattle.ug_propagate.proofs.sums.objective_entry.Goals as goal

pub returns-in-None-clause-entry : goal.returns-in-None-clause-entry
returns-in-None-clause-entry c =
    factor_none c.args.problem.now c.args.column c.entries.result.now c.entries.ensures.value c.in-None.ensures

pub returns-else-last-rows-clause-entry : goal.returns-else-last-rows-clause-entry
returns-else-last-rows-clause-entry c =
    factor_other c.args.problem.now c.args.column c.entries.result.now c.in-Some.last c.entries.ensures.value
    c.in-Some.ensures.is
    (λ e. c.if-last-rows.false (e ∙ ap (λ (rows : List NamedRow). length rows) (sym c.rows-rows.ensures.value)))
