use Rattle.std.proofs.Common.{◌≡◌, Option, subst, arith}
use Rattle.ug_propagate.specs.declared.tight.Reason.{Reason}
use Rattle.ug_propagate.specs.declared.tight.Tight.TheVariants.{Kept}
use Rattle.ug_propagate.specs.Steps.{outcome_of}
use Rattle.ug_propagate.specs.Waiting.{propagated_to}
use Rattle.ug_propagate.proofs.Waiting.{propagate_first_go, propagate_first_none, round_ends, round_stops, went_same, went_trans}
use Rattle.ug_propagate.proofs.settle.run_round.Goals as goal

pub loop-r-init : goal.loop-r-init
loop-r-init c = record {
  went = went_same c.args.problem.now c.args.cutoff c.args.work.now c.requires.work;
  so_far = propagate_first_none c.args.problem.now c.args.cutoff (Kept c.args.work.now.sums.area);
  within = omega arith;
}

pub returns-in_default-clause-value : goal.returns-in_default-clause-value
returns-in_default-clause-value c =
    round_ends c.loop-r.from c.args.problem.now c.args.cutoff c.loop-r.work.sums.area c.loop-r.work.queued _
    c.in_default.ensures.problem c.requires.cutoff c.loop-r.invariant.went.working.at_fixpoint c.loop-r.invariant.within
    c.in_default.ensures.found c.loop-r.invariant.so_far

pub returns-in_err-reason-clause-went : goal.returns-in_err-reason-clause-went
returns-in_err-reason-clause-went c =
    went_trans c.args.problem.now c.args.cutoff c.args.work.now c.loop-r.work c.visit.new.work c.loop-r.invariant.went
    c.visit.ensures.went

pub returns-in-Some-2-clause-went : goal.returns-in-Some-2-clause-went
returns-in-Some-2-clause-went c =
    went_trans c.args.problem.now c.args.cutoff c.args.work.now c.loop-r.work c.visit.new.work c.loop-r.invariant.went
    c.visit.ensures.went

pub returns-in-Some-2-clause-value : goal.returns-in-Some-2-clause-value
returns-in-Some-2-clause-value c =
    let P : Option Reason → Type 0 = λ (told : Option Reason). outcome_of told c.visit.new.work.sums.area
    ≡ propagated_to c.args.problem.now c.args.cutoff c.in-Some.r c.loop-r.work.sums.area in
    round_stops c.loop-r.from c.in-Some.r c.args.problem.now c.args.cutoff c.loop-r.work.sums.area c.loop-r.work.queued _
    c.in-Some-2.reason c.in-Some.ensures.problem c.requires.cutoff c.loop-r.invariant.went.working.at_fixpoint
    c.in-Some.ensures.found (subst P c.in-Some-2.is c.in_ok-reason.ensures.value) c.loop-r.invariant.so_far

pub loop-r-preserved : goal.loop-r-preserved
loop-r-preserved c =
    let P : Option Reason → Type 0 = λ (told : Option Reason). outcome_of told c.visit.new.work.sums.area
    ≡ propagated_to c.args.problem.now c.args.cutoff c.in-Some.r c.loop-r.work.sums.area in
    record {
      went = went_trans c.args.problem.now c.args.cutoff c.args.work.now c.loop-r.work c.visit.new.work c.loop-r.invariant.went
          c.visit.ensures.went;
      so_far = propagate_first_go c.loop-r.from c.in-Some.r c.args.problem.now c.args.cutoff c.loop-r.work.sums.area c.loop-r.work.queued _
          (Kept c.visit.new.work.sums.area) c.in-Some.ensures.problem c.requires.cutoff
          c.loop-r.invariant.went.working.at_fixpoint c.in-Some.ensures.found
          (subst P c.in-None.is c.in_ok-reason.ensures.value) c.loop-r.invariant.so_far;
      within = omega (arith, c.in-Some.ensures.found.there);
    }
