use Rattle.std.proofs.Common.{◌≡◌, ◌<◌, ◌∙◌, FitsSigned, length, sym, arith, rules}
use Rattle.std.proofs.lemmas.Int.{to_z-of_z}
use mir.Syntax.{w128}
use Rattle.ug_surrogate.proofs.Sizes.{constant_within, first_side, first_size, last_side, next_side, next_size, side_fits}
use Rattle.ug_surrogate.proofs.columns.constant.Goals as goal

pub less_side-total-requires : goal.less_side-total-requires
less_side-total-requires c =
    let p = c.args.problem.now in
    let m = c.args.m.now in
    let k = c.loop-multiplier.multiplier-index in
    let same = c.as_slice-multiplier-items.ensures in
    let there : k < length m.list = rw same at c.loop-multiplier-test.true in
    record {
      side = rw same (c.requires.multipliers.sides k there);
      small = rw same (omega (arith, c.loop-multiplier.invariant.small, side_fits p m k c.requires.small there));
    }

pub loop-multiplier-init : goal.loop-multiplier-init
loop-multiplier-init c =
    let p = c.args.problem.now in
    let m = c.args.m.now in
    let total = c.objective_constant-total.result in
    let fits : FitsSigned w128 total = search rules in
    let is = to_z-of_z w128 total fits ∙ c.objective_constant-total.ensures in
    record {
      value = is ∙ sym (first_side p m);
      small = rw is (omega (arith, first_size p m));
    }

pub loop-multiplier-preserved : goal.loop-multiplier-preserved
loop-multiplier-preserved c =
    let p = c.args.problem.now in
    let m = c.args.m.now in
    let k = c.loop-multiplier.multiplier-index in
    let total = c.less_side-total.result in
    let same = c.as_slice-multiplier-items.ensures in
    let there : k < length m.list = rw same at c.loop-multiplier-test.true in
    let fits : FitsSigned w128 total = search rules in
    record {
      value = to_z-of_z w128 total fits ∙ c.less_side-total.ensures.value
          ∙ rw (same, c.loop-multiplier.invariant.value) (sym (next_side p m k there));
      small = rw (to_z-of_z w128 total fits)
          (omega (arith, rw same at c.less_side-total.ensures.small, c.loop-multiplier.invariant.small, next_size p m.list k there));
    }

pub returns : goal.returns
returns c =
    let p = c.args.problem.now in
    let m = c.args.m.now in
    let k = c.loop-multiplier.multiplier-index in
    let all : k ≡ length m.list =
    omega (arith, rw c.as_slice-multiplier-items.ensures at c.loop-multiplier-test.false, rw c.as_slice-multiplier-items.ensures at c.loop-multiplier.auto.multiplier-index-end) in
    let value = c.loop-multiplier.invariant.value ∙ last_side p m k all in
    record {
      value = value;
      small = rw value (constant_within p m c.requires.small);
    }
