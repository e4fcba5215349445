use Rattle.std.proofs.Common.{◌≡◌, Option, subst, arith}
use Rattle.ug_propagate.specs.declared.tight.Reason.{Reason}
use Rattle.ug_propagate.specs.declared.tight.Tight.TheVariants.{Kept}
use Rattle.ug_propagate.specs.Rounds.{round}
use Rattle.ug_propagate.specs.Steps.{outcome_of}
use Rattle.ug_propagate.proofs.Bodies.{rounds_end, rounds_go, rounds_stop}
use Rattle.ug_propagate.proofs.Waiting.{rounds_rest, went_trans}
use Rattle.ug_propagate.proofs.settle.run_rounds.Goals as goal

pub returns-then-is_settled-clause-value : goal.returns-then-is_settled-clause-value
returns-then-is_settled-clause-value c =
    rounds_rest c.loop-i.i c.args.problem.now c.args.cutoff c.loop-i.work.sums.area c.loop-i.work.queued _
    c.is_settled.ensures.problem c.requires.cutoff c.loop-i.invariant.went.working.at_fixpoint
    (c.is_settled.ensures.settled c.if-is_settled.true) c.loop-i.invariant.so_far

pub returns-in_err-reason-clause-went : goal.returns-in_err-reason-clause-went
returns-in_err-reason-clause-went c =
    went_trans c.args.problem.now c.args.cutoff c.args.work.now c.loop-i.work c.run_round.new.work c.loop-i.invariant.went
    c.run_round.ensures.went

pub returns-in-Some-clause-went : goal.returns-in-Some-clause-went
returns-in-Some-clause-went c =
    went_trans c.args.problem.now c.args.cutoff c.args.work.now c.loop-i.work c.run_round.new.work c.loop-i.invariant.went
    c.run_round.ensures.went

pub returns-in-Some-clause-value : goal.returns-in-Some-clause-value
returns-in-Some-clause-value c =
    let P : Option Reason → Type 0 = λ (told : Option Reason). outcome_of told c.run_round.new.work.sums.area
    ≡ round c.args.problem.now c.args.cutoff (Kept c.loop-i.work.sums.area) in
    rounds_stop c.loop-i.i c.args.problem.now c.args.cutoff c.loop-i.work.sums.area c.in-Some.reason _
    c.loop-i-test.true (subst P c.in-Some.is c.in_ok-reason.ensures.value) c.loop-i.invariant.so_far

pub loop-i-preserved : goal.loop-i-preserved
loop-i-preserved c =
    let P : Option Reason → Type 0 = λ (told : Option Reason). outcome_of told c.run_round.new.work.sums.area
    ≡ round c.args.problem.now c.args.cutoff (Kept c.loop-i.work.sums.area) in
    record {
      went = went_trans c.args.problem.now c.args.cutoff c.args.work.now c.loop-i.work c.run_round.new.work c.loop-i.invariant.went
          c.run_round.ensures.went;
      so_far = rounds_go c.loop-i.i c.args.problem.now c.args.cutoff c.loop-i.work.sums.area c.run_round.new.work.sums.area _
          c.loop-i-test.true (subst P c.in-None.is c.in_ok-reason.ensures.value) c.loop-i.invariant.so_far;
    }

pub returns-clause-value : goal.returns-clause-value
returns-clause-value c =
    rounds_end c.loop-i.i c.args.problem.now c.args.cutoff c.loop-i.work.sums.area _
    (omega (arith, c.loop-i-test.false)) c.loop-i.invariant.so_far
