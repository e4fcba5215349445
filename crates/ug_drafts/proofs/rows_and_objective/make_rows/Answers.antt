use Rattle.ug_drafts.specs.Made.{row_fault_kept}
use Rattle.ug_drafts.proofs.SideBySide.{turn_of, end_of}
use Rattle.ug_drafts.proofs.Passes.{error_of_turn, rows_more}
use Rattle.ug_drafts.proofs.rows_and_objective.make_rows.Goals as goal

pub loop-name-preserved : goal.loop-name-preserved
loop-name-preserved c =
    rows_more c.args.maximise c.loop-name.yielded (c.in-Some.name, c.in-Some.draft) c.loop-name.parts c.take.new.self c.loop-name.invariant c.in-Ok.ensures.0 c.in-Ok.ensures.1

pub returns-in-Err : goal.returns-in-Err
returns-in-Err c =
    let turn = turn_of c.args.names c.args.drafts c.into_iter-name-iterator.result c.zip-name-items.result c.into_iter.result
    c.into_iter-name-iterator.ensures.into_iter_gives c.zip-name-items.ensures.first c.into_iter.ensures.rest c.into_iter.ensures.len
    c.zip-name-items.ensures.second.0 c.zip-name-items.ensures.second.1
    c.loop-name.yielded c.loop-name.name-iterator c.next.new.self c.next.result (c.in-Some.name, c.in-Some.draft) c.loop-name.yielded_by c.in-Some.is c.next.ensures.steps in
    error_of_turn row_fault_kept _ c.loop-name.yielded (c.in-Some.name, c.in-Some.draft) c.in-Err.error c.loop-name.invariant.none turn c.in-Err.ensures

pub returns : goal.returns
returns c =
    let all = end_of c.args.names c.args.drafts c.into_iter-name-iterator.result c.zip-name-items.result c.into_iter.result
    c.into_iter-name-iterator.ensures.into_iter_gives c.zip-name-items.ensures.first c.into_iter.ensures.rest c.into_iter.ensures.len
    c.zip-name-items.ensures.second.0 c.zip-name-items.ensures.second.1
    c.loop-name.yielded c.loop-name.name-iterator c.next.new.self c.next.result c.loop-name.yielded_by c.in-None.is c.next.ensures.steps in
    (rw all at c.loop-name.invariant.none, rw all at c.loop-name.invariant.made)
