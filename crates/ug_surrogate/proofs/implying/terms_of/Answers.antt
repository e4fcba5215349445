use Rattle.std.proofs.Common.{◌≡◌, ℕ, length, subst, arith}
use Rattle.ug_surrogate.specs.Implied.{AreColumnsBelow}
use Rattle.ug_surrogate.proofs.implying.terms_of.Goals as goal

pub push_column-requires : goal.push_column-requires
push_column-requires c = record {
  multipliers = c.requires;
  there = rw c.columns-column-end.ensures.value at c.loop-column-test.true;
  so_far = c.loop-column.invariant;
}

pub loop-column-preserved : goal.loop-column-preserved
loop-column-preserved c = c.in_ok-push_column.ensures.ok

pub returns : goal.returns
returns c =
    let p = c.args.problem.now in
    let same = c.columns-column-end.ensures.value in
    let all : c.loop-column.column ≡ length p.columns = omega (arith, rw same at c.loop-column-test.false, rw same at c.loop-column.auto.column-end) in
    record {
      ok = subst (λ (n : ℕ). AreColumnsBelow p c.args.m.now n c.loop-column.terms.items) all c.loop-column.invariant;
      err = tt;
    }
