use Rattle.std.proofs.Common.{◌∙◌, ap, subst}
use Rattle.ug_problem.specs.Instances.{Instance}
use Rattle.ug_rules.specs.declared.settings.Settings.{Settings}
use Rattle.ug_top.specs.Solved.{crewed}
use Rattle.ug_top.specs.Runs.{IsNewRun}
use Rattle.ug_top.specs.Plans.{settings_for}
use Rattle.ug_top.specs.Ends.{BeginsAlways, HasRunAlone}
use Rattle.ug_top.proofs.Stored.{alone_stored}
use Rattle.ug_top.proofs.Tellings.{tells_outcome}
use Rattle.ug_top.proofs.command.run_alone.Goals as goal

pub returns-clause-run : goal.returns-clause-run
returns-clause-run g c =
    let is = c.settings_for-settings.ensures.value
    ∙ ap (λ (p : Instance). settings_for c.args.asked.now p) c.problem.ensures.value in
    tells_outcome
    (HasRunAlone (crewed g.C.Crew.seen c.args.crew.now c.solve_new-outcome.new.crew) c.args.asked.now (g.D.Disk.seen c.args.disk.now)
    (g.D.Disk.seen c.solve_new-outcome.new.disk) c.args.stated.problem)
    (BeginsAlways c.args.stated.problem)
    c.args.asked.now.bounds.gap c.solve_new-outcome.result c.tell_outcome-ended.result
    (record {
      ran = subst (λ (s : Settings). IsNewRun (crewed g.C.Crew.seen c.args.crew.now c.solve_new-outcome.new.crew) c.args.stated.problem s c.solve_new-outcome.result) is
          c.solve_new-outcome.ensures.ran;
      untouched = c.solve_new-outcome.ensures.untouched;
    })
    c.tell_outcome-ended.ensures

pub returns-clause-stored : goal.returns-clause-stored
returns-clause-stored g c =
    alone_stored (crewed g.C.Crew.seen c.args.crew.now c.solve_new-outcome.new.crew) c.args.asked.now.bounds.gap c.solve_new-outcome.result c.tell_outcome-ended.result _ _
    c.tell_outcome-ended.ensures c.solve_new-outcome.ensures.untouched
