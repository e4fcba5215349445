use Rattle.std.proofs.Common.{arith}
use Rattle.ug_nodes.proofs.Passes.{next_told_before, not_passed, change_unfit, bounds_unfit, alone_passed, both_passed}
use Rattle.ug_nodes.proofs.outside.pass.Goals as goal

pub returns-in-Less : goal.returns-in-Less
returns-in-Less c =
    next_told_before c.args.root.now c.args.told.now c.args.changes.now c.args.i c.args.at c.requires.told c.requires.changes
    c.requires.valid c.requires.passed c.in-Less.ensures.0 c.in-Less.ensures.1

pub returns-then-is_change_within : goal.returns-then-is_change_within
returns-then-is_change_within c =
    both_passed c.args.root.now c.args.told.now c.args.changes.now c.args.i c.args.at c.requires.told c.requires.changes
    c.requires.valid c.requires.passed c.requires.there c.in-Equal.ensures.0 c.in-Equal.ensures.1
    (c.is_change_within.ensures.0 c.if-is_change_within.true)

pub returns-else-is_change_within : goal.returns-else-is_change_within
returns-else-is_change_within c =
    let same = c.in-Equal.ensures.1 in
    not_passed c.args.root.now c.args.told.now c.args.changes.now c.args.i c.args.at c.requires.told c.requires.changes
    c.requires.passed c.requires.there (λ h. omega (arith, same))
    (bounds_unfit c.args.root.now c.args.told.now c.args.changes.now c.args.i c.args.at c.requires.told c.requires.changes
    c.requires.valid c.requires.there c.in-Equal.ensures.0 same
    (λ h. let yes = c.is_change_within.ensures.1 h in cc))

pub returns-then-is_change_of : goal.returns-then-is_change_of
returns-then-is_change_of c =
    alone_passed c.args.root.now c.args.told.now c.args.changes.now c.args.i c.args.at c.requires.told c.requires.changes
    c.requires.passed c.requires.there c.in-Greater.ensures (c.is_change_of.ensures.0 c.if-is_change_of.true)

pub returns-else-is_change_of : goal.returns-else-is_change_of
returns-else-is_change_of c =
    not_passed c.args.root.now c.args.told.now c.args.changes.now c.args.i c.args.at c.requires.told c.requires.changes
    c.requires.passed c.requires.there (λ h. let lt = c.in-Greater.ensures h in omega (arith, lt))
    (change_unfit c.args.root.now c.args.told.now c.args.changes.now c.args.i c.requires.there
    (λ h. let yes = c.is_change_of.ensures.1 h in cc))
