use Rattle.ug_records.proofs.Nexts.{row_past, row_next}
use Rattle.ug_records.proofs.advancing.at_row.Goals as goal

pub returns-then-j-rows : goal.returns-then-j-rows
returns-then-j-rows c =
    row_past c.args.problem.now c.args.j _ c.at_objective.new.line _ c.rows-rows.ensures.value
    c.if-j-rows.true c.at_objective.ensures

pub returns : goal.returns
returns c =
    row_next c.args.problem.now c.args.j _ c.index-rows-j.result c.put_row_head.new.line
    c.rows-rows.ensures.value c.if-j-rows.false c.index-rows-j.is c.put_row_head.ensures
