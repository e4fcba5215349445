use Rattle.ug_image.proofs.Nexts.{problem_past, problem_next, is_emptied, has_some}
use Rattle.ug_image.proofs.advancing.at_problem.Goals as goal

pub returns-then-is_empty : goal.returns-then-is_empty
returns-then-is_empty c =
    problem_past c.args.image.now c.problem.result.now c.problem.ensures.value c.args.stage
    c.advance-next.result c.advance-next.new.line c.advance-next.ensures c.at_best.new.line _
    (is_emptied c.as_slice.result.now c.advance-next.new.line c.is_empty.result c.is_empty.ensures
    c.as_slice.ensures c.if-is_empty.true) c.at_best.ensures

pub returns : goal.returns
returns c =
    problem_next c.args.image.now c.problem.result.now c.problem.ensures.value c.args.stage
    c.advance-next.result c.advance-next.new.line c.advance-next.ensures
    (has_some c.as_slice.result.now c.advance-next.new.line c.is_empty.result c.is_empty.ensures
    c.as_slice.ensures c.if-is_empty.false)
