use Rattle.std.proofs.Common.{◌∙◌, ap, subst}
use Rattle.ug_problem.specs.Instances.{Instance}
use Rattle.ug_rules.specs.declared.settings.Settings.{Settings}
use Rattle.ug_top.specs.Solved.{crewed}
use Rattle.ug_top.specs.Runs.{IsNoSavedRun, IsSavedRun}
use Rattle.ug_top.specs.Plans.{settings_for}
use Rattle.ug_top.specs.Ends.{HasNotBegun, HasRunSaved}
use Rattle.ug_top.proofs.Stored.{fault_stored, kept_stored}
use Rattle.ug_top.proofs.Tellings.{tells_fault, tells_outcome}
use Rattle.ug_top.proofs.command.run_saved.Goals as goal

pub returns-in-Ok-clause-run : goal.returns-in-Ok-clause-run
returns-in-Ok-clause-run g c =
    let old = g.D.Disk.seen c.args.disk.now in
    let new = g.D.Disk.seen c.solve_saved.new.disk in
    let by = crewed g.C.Crew.seen c.args.crew.now c.solve_saved.new.crew in
    let is = c.settings_for-settings.ensures.value
    ∙ ap (λ (p : Instance). settings_for c.args.asked.now p) c.problem.ensures.value in
    tells_outcome (HasRunSaved by c.args.asked.now old new c.args.stated.problem)
    (HasNotBegun by c.args.asked.now old new c.args.stated.problem)
    c.args.asked.now.bounds.gap c.in-Ok.outcome c.tell_outcome-ended.result
    (subst (λ (s : Settings). IsSavedRun by c.args.stated.problem s c.in-Ok.outcome old new) is
    c.in-Ok.ensures.ran)
    c.tell_outcome-ended.ensures

pub returns-in-Ok-clause-stored : goal.returns-in-Ok-clause-stored
returns-in-Ok-clause-stored g c =
    kept_stored _ c.args.asked.now.bounds.gap c.in-Ok.outcome c.tell_outcome-ended.result _ _
    c.tell_outcome-ended.ensures c.in-Ok.ensures.ran.kept.missed c.solve_saved.ensures.any_moment

pub returns-in-Err-clause-run : goal.returns-in-Err-clause-run
returns-in-Err-clause-run g c =
    let old = g.D.Disk.seen c.args.disk.now in
    let new = g.D.Disk.seen c.solve_saved.new.disk in
    let by = crewed g.C.Crew.seen c.args.crew.now c.solve_saved.new.crew in
    let is = c.settings_for-settings.ensures.value
    ∙ ap (λ (p : Instance). settings_for c.args.asked.now p) c.problem.ensures.value in
    tells_fault (HasRunSaved by c.args.asked.now old new c.args.stated.problem)
    (HasNotBegun by c.args.asked.now old new c.args.stated.problem)
    c.args.asked.now.bounds.gap c.in-Err.fault c.tell_fault.result
    (subst (λ (s : Settings). IsNoSavedRun by c.args.stated.problem s old new c.in-Err.fault) is
    c.in-Err.ensures.refused)
    c.tell_fault.ensures

pub returns-in-Err-clause-stored : goal.returns-in-Err-clause-stored
returns-in-Err-clause-stored g c =
    fault_stored _ c.in-Err.fault c.tell_fault.result _ _ c.tell_fault.ensures
    c.in-Err.ensures.cause c.solve_saved.ensures.any_moment
