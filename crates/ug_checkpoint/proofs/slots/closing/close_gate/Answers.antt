use Rattle.std.proofs.Common.{Bool, false, MatchBool, subst}
use Rattle.ug_disk.specs.Slots.{SlotState, MayLeave}
use Rattle.ug_checkpoint.specs.Gates.{Opens, IsShut, MayBeShut, MayBeLoose}
use Rattle.ug_checkpoint.specs.Runs.{Becomes}
use Rattle.ug_checkpoint.proofs.Going.{Becoming, becomes_joins, only_joins, only_writing, stands_after}
use Rattle.ug_checkpoint.proofs.Shutting.{loose_again}
use Rattle.ug_checkpoint.proofs.slots.closing.close_gate.Goals as goal

-- what was found of a gate that is not known to be shut
abbrev Looked : Bool → Becoming
Looked shut before after =
    Opens (MayLeave before) after × MatchBool shut (IsShut after) (MayBeShut after)

next : (a b c : SlotState) → Looked false a b → MayBeLoose b c
    → Opens (MayLeave a) c × MayBeShut c
next a b c found loose =
    let again = loose_again b c found.1 loose in
    (λ image left opened. found.0 image (again.0 image left opened) opened, again.1)

pub returns-in_err-write_gate-clause-now : goal.returns-in_err-write_gate-clause-now
returns-in_err-write_gate-clause-now g c =
    let old = (g.D.Disk.seen c.args.disk.now).told in
    let mid = (g.D.Disk.seen c.look.new.disk).told in
    let new = (g.D.Disk.seen c.write_gate.new.disk).told in
    let found = subst (λ shut. Becomes old mid c.args.slot (Looked shut)) c.if-not-branch.true
    c.in_ok-look.ensures.ok in
    let T : Becoming = λ a b. Opens (MayLeave a) b × MayBeShut b in
    becomes_joins (Looked false) MayBeLoose T old mid new c.args.slot found
    c.in_err-write_gate.ensures.err next

pub returns-in_err-write_gate-clause-any_moment : goal.returns-in_err-write_gate-clause-any_moment
returns-in_err-write_gate-clause-any_moment g c =
    let old = (g.D.Disk.seen c.args.disk.now).told in
    let mid = (g.D.Disk.seen c.look.new.disk).told in
    let new = (g.D.Disk.seen c.write_gate.new.disk).told in
    let found = subst (λ shut. Becomes old mid c.args.slot (Looked shut)) c.if-not-branch.true
    c.in_ok-look.ensures.ok in
    only_joins MayLeave MayLeave (Looked false) old mid new c.args.slot c.look.ensures.any_moment
    found (only_writing MayLeave mid new c.args.slot
    (stands_after (Looked false) MayBeShut old mid c.args.slot found (λ a b found. found.1))
    c.write_gate.ensures.any_moment)
    (λ a b image found opened left. found.0 image left opened)

pub returns-in_ok-write_gate-clause-any_moment : goal.returns-in_ok-write_gate-clause-any_moment
returns-in_ok-write_gate-clause-any_moment g c =
    let old = (g.D.Disk.seen c.args.disk.now).told in
    let mid = (g.D.Disk.seen c.look.new.disk).told in
    let new = (g.D.Disk.seen c.write_gate.new.disk).told in
    let found = subst (λ shut. Becomes old mid c.args.slot (Looked shut)) c.if-not-branch.true
    c.in_ok-look.ensures.ok in
    only_joins MayLeave MayLeave (Looked false) old mid new c.args.slot c.look.ensures.any_moment
    found (only_writing MayLeave mid new c.args.slot
    (stands_after (Looked false) MayBeShut old mid c.args.slot found (λ a b found. found.1))
    c.write_gate.ensures.any_moment)
    (λ a b image found opened left. found.0 image left opened)
