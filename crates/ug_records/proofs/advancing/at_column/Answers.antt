use Rattle.ug_records.proofs.Nexts.{column_past, column_next}
use Rattle.ug_records.proofs.advancing.at_column.Goals as goal

pub returns-then-k-columns : goal.returns-then-k-columns
returns-then-k-columns c =
    column_past c.args.problem.now c.args.k _ c.at_rows.new.line _ c.columns-columns.ensures.value
    c.if-k-columns.true c.at_rows.ensures

pub returns : goal.returns
returns c =
    column_next c.args.problem.now c.args.k _ c.index-columns-k.result c.put_column.new.line
    c.columns-columns.ensures.value c.if-k-columns.false c.index-columns-k.is c.put_column.ensures
