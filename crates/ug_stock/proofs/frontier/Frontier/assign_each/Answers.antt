use Rattle.std.proofs.Common.{ap, sym, subst, refl, length, List, arith}
use Rattle.std.proofs.lemmas.Bool.{false≢true}
use Rattle.ug_ranks.specs.declared.state.State.{State}
use Rattle.ug_stock.specs.declared.frontier.Frontier.{Frontier}
use Rattle.ug_stock.specs.Assigning.{HasAssignedPart, KeepsPlaces}
use Rattle.ug_stock.proofs.Progress.{all_assigned, one_given, one_passed, part_assigned}
use Rattle.ug_stock.proofs.frontier.Frontier.assign_each.Goals as goal

pub can_be_assigned-requires : goal.can_be_assigned-requires
can_be_assigned-requires c = omega (
  arith,
  c.loop-rank-test.true,
  ap (λ (ss : List State). length ss) c.as_slice.ensures.value,
  c.as_slice.ensures,
  c.loop-rank.invariant.wide,
)

pub loop-rank-preserved-then-not-can_be_assigned : goal.loop-rank-preserved-then-not-can_be_assigned
loop-rank-preserved-then-not-can_be_assigned c =
    one_passed c.args.terms
    c.args.self.now
    c.loop-rank.self
    c.loop-rank.steps c.loop-rank.rank
    (λ can. false≢true (c.if-not-can_be_assigned.ensures.1 can))
    c.loop-rank.invariant

pub returns-in_default-clause-err : goal.returns-in_default-clause-err
returns-in_default-clause-err c =
    let old = c.args.self.now in
    let now = c.loop-rank.self in
    let p = c.loop-rank.invariant in
    subst (λ (s : Frontier). HasAssignedPart c.args.terms old s c.loop-rank.steps)
    (sym c.in_default.ensures.err)
    (part_assigned c.args.terms old now c.loop-rank.steps c.loop-rank.rank
    (omega (
      arith,
      c.loop-rank-test.true,
      ap (λ (ss : List State). length ss) c.as_slice.ensures.value,
      c.as_slice.ensures,
      p.wide,
    ))
    (c.if-not-can_be_assigned.ensures.0 refl) p)

pub returns-in_default-clause-places : goal.returns-in_default-clause-places
returns-in_default-clause-places c =
    let old = c.args.self.now in
    subst (λ (s : Frontier). KeepsPlaces old s) (sym c.in_default.ensures.err)
    c.loop-rank.invariant.places

pub overflow_add-steps : goal.overflow_add-steps
overflow_add-steps c = omega (
  arith,
  c.loop-rank-test.true,
  c.as_slice.ensures,
  c.loop-rank.invariant.few,
)

pub loop-rank-preserved : goal.loop-rank-preserved
loop-rank-preserved c =
    one_given c.args.terms
    c.args.self.now
    c.loop-rank.self
    c.assign.new.self
    c.loop-rank.steps c.loop-rank.rank
    (omega (
      arith,
      c.loop-rank-test.true,
      ap (λ (ss : List State). length ss) c.as_slice.ensures.value,
      c.as_slice.ensures,
      c.loop-rank.invariant.wide,
    ))
    (c.if-not-can_be_assigned.ensures.0 refl) c.in-Ok.ensures.ok
    c.loop-rank.invariant

pub returns-clause-ok : goal.returns-clause-ok
returns-clause-ok c = all_assigned c.args.terms
    c.args.self.now
    c.loop-rank.self
    c.loop-rank.steps c.loop-rank.rank
    (omega (
      arith,
      c.loop-rank-test.false,
      ap (λ (ss : List State). length ss) c.as_slice.ensures.value,
      c.as_slice.ensures,
    ))
    c.loop-rank.invariant

pub returns-clause-places : goal.returns-clause-places
returns-clause-places c = c.loop-rank.invariant.places
