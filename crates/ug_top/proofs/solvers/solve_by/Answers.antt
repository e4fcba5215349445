use Rattle.std.proofs.Common.{◌≡◌, None, Some, sym, subst, rules}
use Rattle.std.proofs.lemmas.List.{length-replicate}
use Rattle.ug_ranks.specs.declared.state.State.TheVariants.{Absent}
use Rattle.ug_book.specs.Openings.{opening_book}
use Rattle.ug_coord.specs.Coordinators.{IsFresh}
use Rattle.ug_coord.specs.Keeping.{AreEachSaved, IsKeptSafe}
use Rattle.ug_top.specs.Solved.{FitsCrew, HasSolvedSafely, crewed}
use Rattle.ug_top.specs.Outside.{seen_if}
use Rattle.ug_top.proofs.Solved.{crew_safely, threads_kept, threads_safe}
use Rattle.ug_top.proofs.solvers.solve_by.Goals as goal

pub returns-in-None-clause-solved : goal.returns-in-None-clause-solved
returns-in-None-clause-solved g c =
    let none : c.take.new.self ≡ None = search rules in
    let was : c.args.crew.now ≡ None = search rules in
    subst (λ crew. HasSolvedSafely (crewed g.C.Crew.seen crew c.take.new.self)
    (opening_book c.args.opening.now) c.solve_threads.result.end
    (AreEachSaved c.args.saver c.solve_threads.result (g.D.Disk.seen c.solve_threads.new.disk))
    (IsKeptSafe c.args.saver (g.D.Disk.seen c.args.disk.now) (g.D.Disk.seen c.solve_threads.new.disk))) (sym was)
    (subst (λ crew. HasSolvedSafely (crewed g.C.Crew.seen None crew) (opening_book c.args.opening.now)
    c.solve_threads.result.end
    (AreEachSaved c.args.saver c.solve_threads.result (g.D.Disk.seen c.solve_threads.new.disk))
    (IsKeptSafe c.args.saver (g.D.Disk.seen c.args.disk.now) (g.D.Disk.seen c.solve_threads.new.disk)))
    (sym none) (record {
      solved = c.solve_threads.ensures.ended;
      saves = tt;
      safe = λ trusted sound. threads_safe (opening_book c.args.opening.now) c.args.saver
          (g.D.Disk.seen c.args.disk.now) (g.D.Disk.seen c.solve_threads.new.disk) c.solve_threads.ensures.any_moment sound;
      live = λ calm. c.solve_threads.ensures.ended.stranded;
    }))

pub returns-in-None-clause-kept : goal.returns-in-None-clause-kept
returns-in-None-clause-kept g c =
    threads_kept (opening_book c.args.opening.now) c.args.saver c.solve_threads.result (g.D.Disk.seen c.args.disk.now)
    (g.D.Disk.seen c.solve_threads.new.disk)
    c.solve_threads.ensures.untouched c.solve_threads.ensures.saved c.solve_threads.ensures.found
    c.solve_threads.ensures.missed

pub coordinate-outcome-requires-clause-fresh : goal.coordinate-outcome-requires-clause-fresh
coordinate-outcome-requires-clause-fresh g c κs within =
    let is : c.args.crew.now ≡ Some c.in-Some.solvers = search rules in
    subst (IsFresh (g.C.Crew.seen c.in-Some.solvers))
    (sym (length-replicate c.args.opening.now.settings.solvers Absent))
    (subst (λ crew. FitsCrew c.args.opening.now.settings.solvers (seen_if g.C.Crew.seen crew)) is
    c.requires.fits)

pub returns-in-Some-clause-solved : goal.returns-in-Some-clause-solved
returns-in-Some-clause-solved g c =
    let is : c.args.crew.now ≡ Some c.in-Some.solvers = search rules in
    subst (λ crew. HasSolvedSafely
    (crewed g.C.Crew.seen crew (Some c.coordinate-outcome.result.crew)) (opening_book c.args.opening.now)
    c.coordinate-outcome.result.outcome.end
    (AreEachSaved c.args.saver c.coordinate-outcome.result.outcome (g.D.Disk.seen c.coordinate-outcome.new.disk))
    (IsKeptSafe c.args.saver (g.D.Disk.seen c.args.disk.now) (g.D.Disk.seen c.coordinate-outcome.new.disk))) (sym is)
    (crew_safely c.coordinators_lose_nothing.ensures c.calm_workers_live.ensures c.args.opening.now
    c.requires.opening (g.C.Crew.seen c.in-Some.solvers) (g.C.Crew.seen c.coordinate-outcome.result.crew)
    c.coordinate-outcome.result.outcome.end _ _ c.coordinate-outcome.ensures.coordinated)
