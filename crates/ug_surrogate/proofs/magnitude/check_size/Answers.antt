use Rattle.std.proofs.Common.{◌≡◌, ◌∙◌, ◌^◌, ◌<◌, ◌≤◌, ℕ, length, subst, sym, arith}
use Rattle.ug_surrogate.specs.Magnitudes.{size_to}
use Rattle.ug_surrogate.proofs.Sizes.{size_more}
use Rattle.ug_surrogate.proofs.magnitude.check_size.Goals as goal

pub row_size-requires-clause-side : goal.row_size-requires-clause-side
row_size-requires-clause-side c =
    let m = c.args.m.now in
    let k = c.loop-multiplier.multiplier-index in
    let same = c.as_slice-multiplier-items.ensures in
    let there : k < length m.list = rw same at c.loop-multiplier-test.true in
    rw same (c.requires.multipliers.sides k there)

pub loop-multiplier-preserved : goal.loop-multiplier-preserved
loop-multiplier-preserved c =
    let m = c.args.m.now in
    let k = c.loop-multiplier.multiplier-index in
    let same = c.as_slice-multiplier-items.ensures in
    let there : k < length m.list = rw same at c.loop-multiplier-test.true in
    record {
      value = c.in-Some-add_size.ensures.some.0
          ∙ rw (c.loop-multiplier.invariant.value, c.row_size.ensures.value, same)
          (sym (size_more c.args.problem.now m c.args.area.now k there));
      small = c.in-Some-add_size.ensures.some.1;
    }

pub returns-clause-ok : goal.returns-clause-ok
returns-clause-ok c =
    let p = c.args.problem.now in
    let m = c.args.m.now in
    let area = c.args.area.now in
    let k = c.loop-multiplier.multiplier-index in
    let same = c.as_slice-multiplier-items.ensures in
    let all : k ≡ length m.list = omega (arith, rw same at c.loop-multiplier-test.false, rw same at c.loop-multiplier.auto.multiplier-index-end) in
    let small : size_to p m area k ≤ 10 ^ 38 = omega (arith, c.loop-multiplier.invariant.value, c.loop-multiplier.invariant.small) in
    subst (λ (n : ℕ). size_to p m area n ≤ 10 ^ 38) all small
