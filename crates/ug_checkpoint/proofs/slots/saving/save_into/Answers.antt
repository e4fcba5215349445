use Rattle.std.proofs.Common.{inl, inr, List, ℕ, drop}
use Rattle.ug_disk.specs.Slots.{MayLeave}
use Rattle.ug_checkpoint.specs.declared.slots.gate.Gate.{Gate}
use Rattle.ug_checkpoint.specs.Gates.{Opens, IsGate, IsSynced, HasBehind, HasBody}
use Rattle.ug_checkpoint.specs.Runs.{IsOldOrNew}
use Rattle.ug_checkpoint.proofs.Behind.{body_of_all}
use Rattle.ug_checkpoint.proofs.Going.{Becoming, Opened, becomes_joins, only_joins, only_wider}
use Rattle.ug_checkpoint.proofs.slots.saving.save_into.Goals as goal

abbrev Nothing : Opened
Nothing before image = ⊥

abbrev All : Opened
All before = HasBody (drop 1 before.bytes)

-- after the first step
abbrev Closed : Gate → Becoming
Closed gate before after = Opens (MayLeave before) after × IsGate gate after

-- after the second
abbrev Written : List ℕ → Becoming
Written body before after = IsSynced after × HasBehind body after.bytes

pub returns-in_err-write_body-clause-any_moment : goal.returns-in_err-write_body-clause-any_moment
returns-in_err-write_body-clause-any_moment g c =
    let body = g.P.Pieces.rest c.args.pieces.now in
    let old = (g.D.Disk.seen c.args.disk.now).told in
    let closed = (g.D.Disk.seen c.close_gate.new.disk).told in
    let new = (g.D.Disk.seen c.write_body.new.disk).told in
    only_joins (IsOldOrNew body) Nothing (Closed c.close_gate.new.gate) old closed new c.args.slot
    (only_wider MayLeave (IsOldOrNew body) old closed c.args.slot c.close_gate.ensures.any_moment
    (λ a image left. inl left)) c.close_gate.ensures.now
    c.write_body.ensures.any_moment (λ a b image was opened none. absurd none)

pub returns-clause-any_moment : goal.returns-clause-any_moment
returns-clause-any_moment g c =
    let body = g.P.Pieces.rest c.args.pieces.now in
    let old = (g.D.Disk.seen c.args.disk.now).told in
    let closed = (g.D.Disk.seen c.close_gate.new.disk).told in
    let wrote = (g.D.Disk.seen c.write_body.new.disk).told in
    let new = (g.D.Disk.seen c.open_gate.new.disk).told in
    let first = only_joins (IsOldOrNew body) Nothing (Closed c.close_gate.new.gate) old closed wrote
    c.args.slot
    (only_wider MayLeave (IsOldOrNew body) old closed c.args.slot c.close_gate.ensures.any_moment
    (λ a image left. inl left)) c.close_gate.ensures.now
    c.write_body.ensures.any_moment (λ a b image was opened none. absurd none) in
    let becomes = becomes_joins (Closed c.close_gate.new.gate) (Written body) (Written body) old
    closed wrote c.args.slot c.close_gate.ensures.now c.in_ok-write_body.ensures.ok
    (λ a b d was written. written) in
    only_joins (IsOldOrNew body) All (Written body) old wrote new c.args.slot first becomes
    c.open_gate.ensures.any_moment
    (λ a b image written opened all. inr (body_of_all body b.bytes image written.1 all))
