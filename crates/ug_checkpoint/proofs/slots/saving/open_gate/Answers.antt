use Rattle.std.proofs.Common.{◌≡◌, [], ◌∷◌, drop}
use Rattle.ug_disk.specs.Slots.{SlotState, synced, loosened, put_at}
use Rattle.ug_checkpoint.specs.Gates.{Opens, IsSynced, IsShut, HasBody, MayBeShut, MayBeLoose}
use Rattle.ug_checkpoint.proofs.Going.{Becoming, Opened, becomes_is, becomes_from, only_writing, stands_is}
use Rattle.ug_checkpoint.proofs.Shutting.{opens_body, opens_body_loose, opened_now}
use Rattle.ug_checkpoint.proofs.slots.saving.open_gate.Goals as goal

abbrev Shut : SlotState → Type 0
Shut state = IsShut state × IsSynced state

abbrev All : Opened
All before = HasBody (drop 1 before.bytes)

pub returns-in_err-write_gate-clause-now : goal.returns-in_err-write_gate-clause-now
returns-in_err-write_gate-clause-now g c =
    let T : Becoming = λ a b. Opens (All a) b × Unit {0} in
    becomes_from Shut MayBeLoose T (g.D.Disk.seen c.args.disk.now).told
    (g.D.Disk.seen c.write_gate.new.disk).told c.args.slot c.requires c.in_err-write_gate.ensures.err
    (λ a b shut loose. (opens_body_loose a b shut.0 shut.1 loose, tt))

pub returns-in_err-write_gate-clause-any_moment : goal.returns-in_err-write_gate-clause-any_moment
returns-in_err-write_gate-clause-any_moment g c =
    let old = (g.D.Disk.seen c.args.disk.now).told in
    only_writing All old (g.D.Disk.seen c.write_gate.new.disk).told c.args.slot
    (stands_is Shut (λ s. Opens (All s) (loosened 0 1 s)) old c.args.slot c.requires
    (λ s shut. opens_body s shut.1)) c.write_gate.ensures.any_moment

pub returns-clause-now : goal.returns-clause-now
returns-clause-now g c =
    let R : Becoming = λ a b. b ≡ synced (put_at 0 (1 ∷ []) a.bytes) in
    let T : Becoming = λ a b. Opens (All a) b × MayBeShut b in
    becomes_is R T (g.D.Disk.seen c.args.disk.now).told (g.D.Disk.seen c.write_gate.new.disk).told
    c.args.slot c.in_ok-write_gate.ensures.ok opened_now

pub returns-clause-any_moment : goal.returns-clause-any_moment
returns-clause-any_moment g c =
    let old = (g.D.Disk.seen c.args.disk.now).told in
    only_writing All old (g.D.Disk.seen c.write_gate.new.disk).told c.args.slot
    (stands_is Shut (λ s. Opens (All s) (loosened 0 1 s)) old c.args.slot c.requires
    (λ s shut. opens_body s shut.1)) c.write_gate.ensures.any_moment
