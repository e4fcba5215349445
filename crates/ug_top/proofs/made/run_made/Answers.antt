use Rattle.std.proofs.Common.{◌∙◌, None, refl, subst}
use Rattle.ug_problem.specs.Instances.{Instance}
use Rattle.ug_rules.specs.declared.settings.Settings.{Settings}
use Rattle.ug_top.specs.Runs.{IsNewRun}
use Rattle.ug_top.specs.Plans.{settings_made}
use Rattle.ug_top.specs.declared.status.Status.TheVariants as statuses
use Rattle.ug_top.proofs.Left.{end_best}
use Rattle.ug_top.proofs.Stored.{end_stored, keeps_untouched, untouched}
use Rattle.ug_top.specs.Outside.{seen_if}
use Rattle.ug_top.specs.Solved.{KeepsCovered, unchanged}
use Rattle.ug_top.proofs.Solved.{fits_none, new_by_none, stays_none}
use Rattle.ug_top.proofs.Tellings.{made_lines}
use Rattle.ug_top.proofs.made.run_made.Goals as goal

pub returns-in_default-clause-stored : goal.returns-in_default-clause-stored
returns-in_default-clause-stored g c =
    let disk = g.D.Disk.seen c.args.disk.now in
    untouched (KeepsCovered disk disk) disk disk statuses.Memory (λ e. absurd (cc e)) refl refl
    (keeps_untouched disk disk refl)

pub returns-clause-lines : goal.returns-clause-lines
returns-clause-lines g c =
    let run = c.solve_new-outcome in
    made_lines c.args.asked.now (g.D.Disk.seen c.args.disk.now) (g.D.Disk.seen run.new.disk)
    run.result
    (subst (λ (p : Instance). IsNewRun (unchanged None) p (settings_made c.args.asked.now.solvers) run.result)
    (c.own.ensures ∙ c.in-Ok.ensures)
    (subst (λ (s : Settings). IsNewRun (unchanged None) c.own.result s run.result)
    c.settings_made-settings.ensures.value (new_by_none (seen_if g.C.Crew.seen c.args.crew.now)
    (seen_if g.C.Crew.seen run.new.crew) _ _ run.result c.requires.threads
    (stays_none (seen_if g.C.Crew.seen c.args.crew.now) (seen_if g.C.Crew.seen run.new.crew) c.requires.threads
    run.ensures.crew) run.ensures.ran)))
    run.ensures.untouched c.tell_end-ended.result c.tell_end-ended.ensures

pub returns-clause-stored : goal.returns-clause-stored
returns-clause-stored g c =
    end_stored c.solve_new-outcome.result c.tell_end-ended.result _ _ c.tell_end-ended.ensures
    c.solve_new-outcome.ensures.untouched.told c.solve_new-outcome.ensures.untouched.calm

pub solve_new-outcome-requires-clause-fits : goal.solve_new-outcome-requires-clause-fits
solve_new-outcome-requires-clause-fits g c κs within =
    fits_none _ (seen_if g.C.Crew.seen c.args.crew.now) c.requires.threads

pub returns-clause-threads : goal.returns-clause-threads
returns-clause-threads g c =
    stays_none (seen_if g.C.Crew.seen c.args.crew.now) (seen_if g.C.Crew.seen c.solve_new-outcome.new.crew)
    c.requires.threads c.solve_new-outcome.ensures.crew

pub returns-clause-best : goal.returns-clause-best
returns-clause-best g c =
    end_best c.solve_new-outcome.result c.tell_end-ended.result c.tell_end-ended.ensures
