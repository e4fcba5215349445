use Rattle.std.proofs.Common.{sym, subst}
use Rattle.ug_book.specs.Openings.{opening_book}
use Rattle.ug_coord.specs.Coordinators.{HasCoordinated}
use Rattle.ug_coord.specs.Keeping.{AreEachSaved, HasKept, IsKeptSafe}
use Rattle.ug_coord.proofs.Causes.{opening_alive}
use Rattle.ug_coord.proofs.Ends.{begun_so, its_saver, nothing_coordinated, nothing_kept}
use Rattle.ug_coord.proofs.solving.coordinate.Goals as goal

pub solve-requires-clause-begun : goal.solve-requires-clause-begun
solve-requires-clause-begun g c κs within = begun_so c.args.opening.now c.args.saver _ c.in-Ok.ensures

pub returns-in-Ok-clause-coordinated : goal.returns-in-Ok-clause-coordinated
returns-in-Ok-clause-coordinated g c =
    subst (λ s. HasCoordinated (opening_book c.args.opening.now) (g.C.Crew.seen c.args.crew).faults
    (g.C.Crew.seen c.solve.result.crew) c.solve.result.outcome.end
    (AreEachSaved s c.solve.result.outcome (g.D.Disk.seen c.solve.new.disk)) (IsKeptSafe s (g.D.Disk.seen c.args.disk.now) (g.D.Disk.seen c.solve.new.disk)))
    (sym (its_saver c.args.opening.now c.args.saver _ c.in-Ok.ensures)) c.solve.ensures.coordinated

pub returns-in-Ok-clause-kept : goal.returns-in-Ok-clause-kept
returns-in-Ok-clause-kept g c =
    subst (λ s. HasKept (opening_book c.args.opening.now) s c.solve.result.outcome (g.D.Disk.seen c.args.disk.now)
    (g.D.Disk.seen c.solve.new.disk))
    (sym (its_saver c.args.opening.now c.args.saver _ c.in-Ok.ensures)) c.solve.ensures.kept

pub returns-in-Err-clause-coordinated : goal.returns-in-Err-clause-coordinated
returns-in-Err-clause-coordinated g c =
    nothing_coordinated (opening_book c.args.opening.now) (g.C.Crew.seen c.args.crew) c.args.saver c.nothing.result
    (g.D.Disk.seen c.args.disk.now) c.requires.fresh (opening_alive c.args.opening.now) c.nothing.ensures

pub returns-in-Err-clause-kept : goal.returns-in-Err-clause-kept
returns-in-Err-clause-kept g c =
    nothing_kept (opening_book c.args.opening.now) c.args.saver c.nothing.result
    (g.D.Disk.seen c.args.disk.now) c.nothing.ensures
