use Rattle.std.proofs.Common.{subst, sym}
use Rattle.ug_cli.specs.declared.plan.Plan.{Plan}
use Rattle.ug_cli.specs.Taken.{needs_of}
use Rattle.ug_top.specs.Ends.{HasCrewFor, status_of, text_of}
use Rattle.ug_top.specs.Left.{IsLeftBy}
use Rattle.ug_top.specs.Outside.{outside, seen_if}
use Rattle.ug_top.specs.Solved.{crewed, unchanged}
use Rattle.ug_top.proofs.Accounts.{gen_accounted, show_accounted, worker_accounted}
use Rattle.ug_top.proofs.Left.{gen_line, none_left, show_line, worker_line}
use Rattle.ug_top.proofs.Solved.{crew_fits, no_crew}
use Rattle.ug_top.proofs.command.run_plan.Goals as goal

pub run_solve-requires-clause-fits : goal.run_solve-requires-clause-fits
run_solve-requires-clause-fits g c κs within =
    crew_fits c.in-Solve.solve.settings.mode c.in-Solve.solve.settings.ranks.solvers
    (seen_if g.C.Crew.seen c.args.objects.now.crew)
    (subst (λ (p : Plan). HasCrewFor (needs_of p).crew (seen_if g.C.Crew.seen c.args.objects.now.crew)) c.in-Solve.is
    c.requires.needs.crew)

pub run_restart-requires-clause-fits : goal.run_restart-requires-clause-fits
run_restart-requires-clause-fits g c κs within =
    crew_fits c.in-Restart.restart.settings.mode c.in-Restart.restart.settings.ranks.solvers
    (seen_if g.C.Crew.seen c.args.objects.now.crew)
    (subst (λ (p : Plan). HasCrewFor (needs_of p).crew (seen_if g.C.Crew.seen c.args.objects.now.crew)) c.in-Restart.is
    c.requires.needs.crew)

pub run_made-requires-clause-threads : goal.run_made-requires-clause-threads
run_made-requires-clause-threads g c κs within =
    no_crew (seen_if g.C.Crew.seen c.args.objects.now.crew)
    (subst (λ (p : Plan). HasCrewFor (needs_of p).crew (seen_if g.C.Crew.seen c.args.objects.now.crew)) c.in-Gen.is
    c.requires.needs.crew)

pub returns-in-Worker-clause-accounted : goal.returns-in-Worker-clause-accounted
returns-in-Worker-clause-accounted g c =
    let both = worker_accounted (unchanged (seen_if g.C.Crew.seen c.args.objects.now.crew))
    (seen_if g.L.Link.seen c.run_worker.new.link) (g.S.Source.seen c.args.objects.now.input)
    (g.D.Disk.seen c.args.objects.now.disk) (status_of c.run_worker.result) (text_of c.run_worker.result)
    c.run_worker.ensures.lines in
    record { read = both.0; stored = both.1 }

pub returns-in-Show-clause-accounted : goal.returns-in-Show-clause-accounted
returns-in-Show-clause-accounted g c =
    let both = show_accounted (unchanged (seen_if g.C.Crew.seen c.args.objects.now.crew))
    (g.S.Source.seen c.args.objects.now.input)
    (g.D.Disk.seen c.args.objects.now.disk) (g.D.Disk.seen c.show.new.disk) (status_of c.show.result)
    (text_of c.show.result) c.show.ensures.lines c.show.ensures.stored in
    record { read = both.0; stored = both.1 }

pub returns-in-Gen-clause-accounted : goal.returns-in-Gen-clause-accounted
returns-in-Gen-clause-accounted g c =
    let both = gen_accounted (crewed g.C.Crew.seen c.args.objects.now.crew c.run_made.new.crew) c.in-Gen.asked
    (g.S.Source.seen c.args.objects.now.input)
    (g.D.Disk.seen c.args.objects.now.disk) (g.D.Disk.seen c.run_made.new.disk) (status_of c.run_made.result)
    (text_of c.run_made.result) c.run_made.ensures.lines c.run_made.ensures.stored in
    record { read = both.0; stored = both.1 }

pub returns-in-Worker-clause-left : goal.returns-in-Worker-clause-left
returns-in-Worker-clause-left g c = record {
  best = none_left _ _ c.run_worker.ensures.best;
  fault = worker_line _ (seen_if g.L.Link.seen c.run_worker.new.link) c.run_worker.result
      c.run_worker.ensures.lines;
}

pub returns-in-Show-clause-left : goal.returns-in-Show-clause-left
returns-in-Show-clause-left g c =
    let old = outside g.S.Source.seen g.D.Disk.seen g.C.Crew.seen g.L.Link.seen c.args.objects.now in
    let new = record old { disk = g.D.Disk.seen c.show.new.disk } in
    subst (λ (p : Plan). IsLeftBy p old new c.show.result) (sym c.in-Show.is) (record {
      best = c.show.ensures.point;
      fault = show_line _ old.disk new.disk c.show.result c.show.ensures.lines;
    })

pub returns-in-Gen-clause-left : goal.returns-in-Gen-clause-left
returns-in-Gen-clause-left g c = record {
  best = none_left _ _ c.run_made.ensures.best;
  fault = gen_line _ c.in-Gen.asked (g.D.Disk.seen c.args.objects.now.disk)
      (g.D.Disk.seen c.run_made.new.disk) c.run_made.result c.run_made.ensures.lines;
}
