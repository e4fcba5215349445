use Rattle.ug_top.specs.Solved.{unchanged}
use Rattle.ug_top.specs.Outside.{outside, seen_if}
use Rattle.ug_top.proofs.Accounts.{unread_read, unread_stored}
use Rattle.std.proofs.Common.{refl}
use Rattle.ug_top.proofs.Left.{restart_best, run_line, unread_best, unread_fault}
use Rattle.ug_top.proofs.Tellings.{restart_lines, unread_restart}
use Rattle.ug_top.proofs.command.run_restart.Goals as goal

pub returns-in-Err-clause-accounted : goal.returns-in-Err-clause-accounted
returns-in-Err-clause-accounted g c = record {
  read = unread_read _ _ c.in-Err.ended _ _ c.in-Err.ensures.unread c.in-Err.ensures.cause;
  stored = unread_stored (unchanged (seen_if g.C.Crew.seen c.args.objects.now.crew)) _ _ c.in-Err.ended _ c.in-Err.ensures.unread;
}

pub returns-clause-lines : goal.returns-clause-lines
returns-clause-lines g c =
    restart_lines c.args.restart.now.settings
    (outside g.S.Source.seen g.D.Disk.seen g.C.Crew.seen g.L.Link.seen c.args.objects.now)
    (record {
      source = g.S.Source.seen c.read_problem.new.input;
      disk = g.D.Disk.seen c.run_on.new.disk;
      crew = seen_if g.C.Crew.seen c.run_on.new.crew;
      link = seen_if g.L.Link.seen c.args.objects.now.link;
    })
    c.in-Ok.stated.problem c.in-Ok.ensures.states c.run_on.result c.run_on.ensures.run

pub returns-in-Err-clause-lines : goal.returns-in-Err-clause-lines
returns-in-Err-clause-lines g c =
    unread_restart c.args.restart.now.settings _ _ c.in-Err.ended (record { crew = refl; disk = refl }) c.in-Err.ensures.unread

pub returns-in-Err-clause-left : goal.returns-in-Err-clause-left
returns-in-Err-clause-left g c = record {
  best = unread_best _ _ _ c.in-Err.ended c.in-Err.ensures.unread;
  fault = unread_fault _ _ c.in-Err.ended c.in-Err.ensures.unread;
}

pub returns-clause-left : goal.returns-clause-left
returns-clause-left g c = record {
  best = restart_best c.args.restart.now.settings
      (outside g.S.Source.seen g.D.Disk.seen g.C.Crew.seen g.L.Link.seen c.args.objects.now)
      (record {
        source = g.S.Source.seen c.read_problem.new.input;
        disk = g.D.Disk.seen c.run_on.new.disk;
        crew = seen_if g.C.Crew.seen c.run_on.new.crew;
        link = seen_if g.L.Link.seen c.args.objects.now.link;
      })
      c.in-Ok.stated.problem c.in-Ok.ensures.states c.run_on.result c.run_on.ensures.run;
  fault = run_line _ _ _ _ c.run_on.result c.run_on.ensures.run;
}
