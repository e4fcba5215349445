use Rattle.std.proofs.Common.{refl}
use Rattle.ug_book.specs.Openings.{opening_book}
use Rattle.ug_restart.specs.declared.outcome.Outcome.{Outcome}
use Rattle.ug_threads.proofs.Endings.{has_ended}
use Rattle.ug_restart.proofs.Outcomes.{saved_or_counted}
use Rattle.ug_threads.proofs.Outcomes.{both_go}
use Rattle.ug_threads.proofs.solve.conclude.Goals as goal

pub returns-clause-saved : goal.returns-clause-saved
returns-clause-saved g c =
    let outcome : Outcome = record {
      end = c.end_of-end.result;
      missed = c.missed-missed.result;
      unsaved = c.unsaved-unsaved.result;
      last = c.save_end-last.result;
    } in
    saved_or_counted outcome c.end_of-end.result c.save_end-last.result _ _
    c.missed-missed.ensures c.unsaved-unsaved.ensures c.save_end-last.ensures.became

pub returns-clause-ended : goal.returns-clause-ended
returns-clause-ended g c =
    has_ended c.args.opening.now (opening_book c.args.opening.now) c.solve-solved.result.book c.end_of-end.result
    refl c.solve-solved.ensures.ended c.end_of-end.ensures.same
    c.end_of-end.ensures.feasible c.end_of-end.ensures.answered c.end_of-end.ensures.right c.end_of-end.ensures.limited
    c.end_of-end.ensures.stranded

pub returns-clause-goes_on : goal.returns-clause-goes_on
returns-clause-goes_on g c =
    let ended = has_ended c.args.opening.now (opening_book c.args.opening.now) c.solve-solved.result.book
    c.end_of-end.result refl c.solve-solved.ensures.ended c.end_of-end.ensures.same
    c.end_of-end.ensures.feasible c.end_of-end.ensures.answered c.end_of-end.ensures.right c.end_of-end.ensures.limited
    c.end_of-end.ensures.stranded in
    both_go (opening_book c.args.opening.now) c.args.opening.now c.end_of-end.result _ _ _
    refl c.requires.saves ended c.solve-solved.ensures.moves.1
    c.save_end-last.ensures.goes_on

pub returns-clause-last : goal.returns-clause-last
returns-clause-last g c = record {
  then = _;
  opening = c.solve-solved.ensures.moves.1.opening;
  missed = c.solve-solved.ensures.moves.1.missed;
  became = c.save_end-last.ensures.became;
  unsaved = c.unsaved-unsaved.ensures;
}
