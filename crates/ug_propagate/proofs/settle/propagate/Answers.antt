use Rattle.ug_propagate.proofs.Waiting.{went_trans}
use Rattle.ug_propagate.proofs.settle.propagate.Goals as goal

pub returns-in_err-told-in-None-clause-went : goal.returns-in_err-told-in-None-clause-went
returns-in_err-told-in-None-clause-went c =
    went_trans c.args.problem.now c.args.cutoff c.args.work.now c.run_rounds.new.work c.run_last.new.work
    c.run_rounds.ensures.went c.run_last.ensures.went

pub returns-in_ok-told-in-None-clause-went : goal.returns-in_ok-told-in-None-clause-went
returns-in_ok-told-in-None-clause-went c =
    went_trans c.args.problem.now c.args.cutoff c.args.work.now c.run_rounds.new.work c.run_last.new.work
    c.run_rounds.ensures.went c.run_last.ensures.went
