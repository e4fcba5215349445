use Rattle.ug_top.specs.Solved.{unchanged}
use Rattle.ug_top.specs.Outside.{seen_if}
use Rattle.ug_top.proofs.Accounts.{unread_read, unread_stored}
use Rattle.ug_top.proofs.Solved.{still_there}
use Rattle.std.proofs.Common.{refl}
use Rattle.ug_top.proofs.Left.{alone_best, run_line, saved_best, unread_best, unread_fault}
use Rattle.ug_top.proofs.Tellings.{alone_lines, saved_lines, unread_solve}
use Rattle.ug_top.proofs.command.run_solve.Goals as goal

pub returns-in-Err-clause-accounted : goal.returns-in-Err-clause-accounted
returns-in-Err-clause-accounted g c = record {
  read = unread_read _ _ c.in-Err.ended _ _ c.in-Err.ensures.unread c.in-Err.ensures.cause;
  stored = unread_stored (unchanged (seen_if g.C.Crew.seen c.args.objects.now.crew)) _ _ c.in-Err.ended _ c.in-Err.ensures.unread;
}

pub returns-in-None-clause-lines : goal.returns-in-None-clause-lines
returns-in-None-clause-lines g c =
    alone_lines c.args.solve.now.checkpoint c.args.solve.now.settings _ _ c.in-Ok.stated.problem
    c.in-None.is c.in-Ok.ensures.states c.run_alone.result c.run_alone.ensures.run

pub returns-in-Some-clause-lines : goal.returns-in-Some-clause-lines
returns-in-Some-clause-lines g c =
    saved_lines c.args.solve.now.checkpoint c.in-Some.field-0 c.args.solve.now.settings _ _
    c.in-Ok.stated.problem c.in-Some.is c.in-Ok.ensures.states c.run_saved.result c.run_saved.ensures.run

pub returns-in-Err-clause-crew : goal.returns-in-Err-clause-crew
returns-in-Err-clause-crew g c = still_there (seen_if g.C.Crew.seen c.args.objects.now.crew)

pub returns-in-Err-clause-lines : goal.returns-in-Err-clause-lines
returns-in-Err-clause-lines g c =
    unread_solve c.args.solve.now.checkpoint c.args.solve.now.settings _ _ c.in-Err.ended (record { crew = refl; disk = refl }) c.in-Err.ensures.unread

pub returns-in-Err-clause-left : goal.returns-in-Err-clause-left
returns-in-Err-clause-left g c = record {
  best = unread_best _ _ _ c.in-Err.ended c.in-Err.ensures.unread;
  fault = unread_fault _ _ c.in-Err.ended c.in-Err.ensures.unread;
}

pub returns-in-None-clause-left : goal.returns-in-None-clause-left
returns-in-None-clause-left g c = record {
  best = alone_best c.args.solve.now.checkpoint c.args.solve.now.settings _ _ c.in-Ok.stated.problem
      c.in-None.is c.in-Ok.ensures.states c.run_alone.result c.run_alone.ensures.run;
  fault = run_line _ _ _ _ c.run_alone.result c.run_alone.ensures.run;
}

pub returns-in-Some-clause-left : goal.returns-in-Some-clause-left
returns-in-Some-clause-left g c = record {
  best = saved_best c.args.solve.now.checkpoint c.in-Some.field-0 c.args.solve.now.settings _ _
      c.in-Ok.stated.problem c.in-Some.is c.in-Ok.ensures.states c.run_saved.result c.run_saved.ensures.run;
  fault = run_line _ _ _ _ c.run_saved.result c.run_saved.ensures.run;
}
