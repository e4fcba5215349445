use Rattle.std.proofs.Common.{subst, sym}
use Rattle.ug_problem.specs.Instances.{Instance}
use Rattle.ug_base.specs.Chains.{IsBase, IsOpenBox, area_of}
use Rattle.ug_base.specs.Evaluations.{CanEvaluate}
use Rattle.ug_base.proofs.Chains.{areas_kept, chain_kept, last_open_box}
use Rattle.ug_base.proofs.evaluation.evaluate_last.Goals as goal

pub evaluate-requires-clause-can : goal.evaluate-requires-clause-can
evaluate-requires-clause-can c =
    subst (λ (p : Instance). CanEvaluate p c.args.cutoff (area_of c.args.work.now c.args.last)) (sym c.searched.ensures.value)
    (record { problem = c.searched.ensures.problem; below = c.requires.below; small = c.requires.small })

pub evaluate-requires-clause-open_box : goal.evaluate-requires-clause-open_box
evaluate-requires-clause-open_box c =
    subst (λ (p : Instance). IsOpenBox p c.args.whole.now c.args.work.now c.args.last) (sym c.searched.ensures.value)
    (last_open_box c.args.formulation.now.searched c.args.whole.now c.args.work.now c.args.open_boxes.now c.args.last c.requires.chain c.requires.last)

pub returns-in_err-seen-clause-chain : goal.returns-in_err-seen-clause-chain
returns-in_err-seen-clause-chain c =
    chain_kept c.args.formulation.now.searched c.args.whole.now c.args.work.now c.evaluate.new.work c.args.open_boxes.now c.args.last c.requires.chain
    c.requires.last (subst (λ (p : Instance). IsBase p c.args.whole.now c.evaluate.new.work) c.searched.ensures.value c.evaluate.ensures.base)
    c.evaluate.ensures.kept

pub returns-clause-chain : goal.returns-clause-chain
returns-clause-chain c =
    chain_kept c.args.formulation.now.searched c.args.whole.now c.args.work.now c.evaluate.new.work c.args.open_boxes.now c.args.last c.requires.chain
    c.requires.last (subst (λ (p : Instance). IsBase p c.args.whole.now c.evaluate.new.work) c.searched.ensures.value c.evaluate.ensures.base)
    c.evaluate.ensures.kept

pub returns-in_err-seen-clause-areas : goal.returns-in_err-seen-clause-areas
returns-in_err-seen-clause-areas c =
    areas_kept c.args.work.now c.evaluate.new.work c.args.open_boxes.now c.args.last c.requires.chain.rising c.requires.last
    c.evaluate.ensures.kept

pub returns-clause-areas : goal.returns-clause-areas
returns-clause-areas c =
    areas_kept c.args.work.now c.evaluate.new.work c.args.open_boxes.now c.args.last c.requires.chain.rising c.requires.last
    c.evaluate.ensures.kept
