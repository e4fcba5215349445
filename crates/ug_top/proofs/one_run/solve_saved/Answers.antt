use Rattle.std.proofs.Common.{refl, sym, ap, subst}
use Rattle.ug_rules.specs.State.{BookState}
use Rattle.ug_rules.specs.declared.settings.Settings.{Settings}
use Rattle.ug_book.specs.Openings.{opening_book}
use Rattle.ug_restart.specs.Starts.{IsBegun}
use Rattle.ug_restart.proofs.Finds.{start_found}
use Rattle.ug_restart.proofs.Keeps.{keeps_image}
use Rattle.ug_top.specs.Outside.{seen_if}
use Rattle.ug_top.specs.Solved.{FitsCrew, crewed, unchanged}
use Rattle.ug_top.proofs.Books.{is_run_kept}
use Rattle.ug_top.proofs.Covering.{begun_sound, refused_covered, run_covered}
use Rattle.ug_top.proofs.Solved.{kept_anyway, kept_by, saved_in_turn, still_there}
use Rattle.ug_top.proofs.Stored.{missed_from}
use Rattle.ug_top.proofs.one_run.solve_saved.Goals as goal

pub returns-in-Err-clause-any_moment : goal.returns-in-Err-clause-any_moment
returns-in-Err-clause-any_moment g c =
    let told = (g.D.Disk.seen c.args.disk.now).told in
    kept_anyway (unchanged (seen_if g.C.Crew.seen c.args.crew.now)) (g.D.Disk.seen c.args.disk.now) (g.D.Disk.seen c.begin.new.disk)
    (λ covers. refused_covered _ _ (IsBegun c.args.problem c.args.settings told)
    (begun_sound c.args.problem c.args.settings told) covers c.begin.ensures.any_moment)

pub returns-in-Err-clause-crew : goal.returns-in-Err-clause-crew
returns-in-Err-clause-crew g c = still_there (seen_if g.C.Crew.seen c.args.crew.now)

pub solve_from-requires-clause-fits : goal.solve_from-requires-clause-fits
solve_from-requires-clause-fits g c κs within =
    subst (λ (s : Settings). FitsCrew s.solvers (seen_if g.C.Crew.seen c.args.crew.now))
    (sym (ap (λ (b : BookState). b.settings) c.in-Ok.ensures.started.book.is)) c.requires.fits

pub returns-in-Err-clause-refused : goal.returns-in-Err-clause-refused
returns-in-Err-clause-refused g c =
    let old = (g.D.Disk.seen c.args.disk.now).told in
    let new = (g.D.Disk.seen c.begin.new.disk).told in
    record {
      why = c.in-Err.ensures.refused;
      idle = refl;
      safe = c.begin.ensures.any_moment;
      kept = keeps_image (IsBegun c.args.problem c.args.settings old) old new c.begin.ensures.any_moment;
    }

pub returns-in-Ok-clause-ran : goal.returns-in-Ok-clause-ran
returns-in-Ok-clause-ran g c =
    let old = g.D.Disk.seen c.args.disk.now in
    let then = (g.D.Disk.seen c.begin.new.disk).told in
    let new = g.D.Disk.seen c.solve_from.new.disk in
    let given = opening_book c.in-Ok.start.opening in
    let began = c.in-Ok.ensures.started.book in
    is_run_kept c.coordinators_lose_nothing.ensures (IsBegun c.args.problem c.args.settings old.told)
    (λ b t. Unit {0}) (crewed g.C.Crew.seen c.args.crew.now c.solve_from.new.crew)
    c.args.problem c.args.settings c.solve_from.result old new then given began
    (record {
      its_problem = ap (λ (b : BookState). b.problem) began.is;
      its_settings = ap (λ (b : BookState). b.settings) began.is;
    })
    refl
    (λ trusted. begun_sound c.args.problem c.args.settings old.told given began)
    c.solve_from.ensures.solved.solved
    (saved_in_turn _ _ given _ c.solve_from.ensures.solved.solved c.in-Ok.start.saver c.solve_from.result
    new then c.in-Ok.ensures.started.acknowledged c.solve_from.ensures.solved.saves)
    c.solve_from.ensures.solved.live
    (record {
      found = record {
        before = c.begin.ensures.any_moment;
        since = c.solve_from.ensures.kept.found
            (start_found given c.in-Ok.start.saver _ c.in-Ok.ensures.started.acknowledged);
      };
      saved = c.solve_from.ensures.kept.saved;
      missed = missed_from _ _ _ _ c.in-Ok.ensures.cause c.solve_from.ensures.kept.missed;
    })

pub returns-in-Ok-clause-any_moment : goal.returns-in-Ok-clause-any_moment
returns-in-Ok-clause-any_moment g c =
    let told = (g.D.Disk.seen c.args.disk.now).told in
    kept_by (crewed g.C.Crew.seen c.args.crew.now c.solve_from.new.crew) (opening_book c.in-Ok.start.opening)
    c.solve_from.result.end (g.D.Disk.seen c.args.disk.now) (g.D.Disk.seen c.solve_from.new.disk) _ _
    c.solve_from.ensures.solved
    (λ goes covers. run_covered _ _ _ (opening_book c.in-Ok.start.opening) c.in-Ok.start.saver
    (IsBegun c.args.problem c.args.settings told) (begun_sound c.args.problem c.args.settings told)
    c.in-Ok.ensures.started.book covers c.begin.ensures.any_moment
    c.in-Ok.ensures.started.acknowledged goes)
