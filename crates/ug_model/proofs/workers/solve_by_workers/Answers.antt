use Rattle.std.proofs.Common.{sym, subst, refl}
use Rattle.std.proofs.lemmas.List.{length-replicate}
use Rattle.ug_ranks.specs.declared.state.State.TheVariants.{Absent}
use Rattle.ug_coord.specs.Coordinators.{IsFresh}
use Rattle.ug_coord.specs.Keeping.{AreEachSaved, IsKeptSafe}
use Rattle.ug_model.specs.WorkerCrews.{crew_seen, exchanged_of}
use Rattle.ug_laws.proofs.Solved.{never_stranded}
use Rattle.ug_model.proofs.Solved.{has_solved}
use Rattle.ug_model.proofs.workers.solve_by_workers.Goals as goal

pub coordinate-outcome-requires-clause-fresh : goal.coordinate-outcome-requires-clause-fresh
coordinate-outcome-requires-clause-fresh g c lifetimes within =
    subst (IsFresh (crew_seen c.args.crew)) (sym (length-replicate c.args.opening.now.settings.solvers Absent))
    c.requires.fresh

pub returns-clause-solved : goal.returns-clause-solved
returns-clause-solved g c covered =
    let crew = c.coordinate-outcome.result.crew in
    has_solved c.args.opening.now c.coordinate-outcome.result.outcome.end (crew_seen c.args.crew).faults (crew_seen crew)
    (exchanged_of crew) c.args.saver (g.D.Disk.seen c.args.disk.now) (g.D.Disk.seen c.coordinate-outcome.new.disk)
    (AreEachSaved c.args.saver c.coordinate-outcome.result.outcome (g.D.Disk.seen c.coordinate-outcome.new.disk))
    c.coordinate-outcome.ensures.coordinated refl
    c.coordinators_of_workers_lose_nothing.ensures covered c.is_worked.ensures

pub returns-clause-calm : goal.returns-clause-calm
returns-clause-calm g c calm =
    let crew = c.coordinate-outcome.result.crew in
    never_stranded c.args.opening.now c.coordinate-outcome.result.outcome.end (crew_seen c.args.crew).faults
    (crew_seen crew) (exchanged_of crew)
    (AreEachSaved c.args.saver c.coordinate-outcome.result.outcome (g.D.Disk.seen c.coordinate-outcome.new.disk))
    (IsKeptSafe c.args.saver (g.D.Disk.seen c.args.disk.now) (g.D.Disk.seen c.coordinate-outcome.new.disk))
    c.coordinate-outcome.ensures.coordinated refl
    c.calm_workers_live.ensures c.requires.opening c.is_worked.ensures calm
