use Rattle.ug_base.proofs.Chains.{begun}
use Rattle.ug_base.proofs.evaluation.begin.Goals as goal

pub returns-clause-base : goal.returns-clause-base
returns-clause-base c =
    (begun c.args.problem.now c.args.whole.now c.args.cutoff c.args.open_box c.args.work.now c.go_back.new.self c.wait.new.self
    c.rows-rows.ensures.problem c.requires.whole c.requires.base c.requires.open_box c.go_back.ensures.back c.go_back.ensures.sums
    c.wait.ensures.at_fixpoint c.wait.ensures.others c.wait.ensures.width).base

pub returns-clause-kept : goal.returns-clause-kept
returns-clause-kept c =
    (begun c.args.problem.now c.args.whole.now c.args.cutoff c.args.open_box c.args.work.now c.go_back.new.self c.wait.new.self
    c.rows-rows.ensures.problem c.requires.whole c.requires.base c.requires.open_box c.go_back.ensures.back c.go_back.ensures.sums
    c.wait.ensures.at_fixpoint c.wait.ensures.others c.wait.ensures.width).kept

pub returns-clause-working : goal.returns-clause-working
returns-clause-working c =
    (begun c.args.problem.now c.args.whole.now c.args.cutoff c.args.open_box c.args.work.now c.go_back.new.self c.wait.new.self
    c.rows-rows.ensures.problem c.requires.whole c.requires.base c.requires.open_box c.go_back.ensures.back c.go_back.ensures.sums
    c.wait.ensures.at_fixpoint c.wait.ensures.others c.wait.ensures.width).working
