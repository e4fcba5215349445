use Rattle.ug_disk.specs.Slots.{SlotState, synced}
use Rattle.ug_checkpoint.specs.Gates.{Opens, IsShut}
use Rattle.ug_checkpoint.proofs.Going.{Becoming, Opened, becomes_steps, becomes_fails, only_steps, only_fails}
use Rattle.ug_checkpoint.proofs.Shutting.{shut_opens_nothing, shut_synced, shut_shaken}
use Rattle.ug_checkpoint.proofs.slots.blocks.write_body.Goals as goal

abbrev Nothing : Opened
Nothing before image = ⊥

abbrev StaysShut : Becoming
StaysShut before after = IsShut after

closed : (a b : SlotState) → StaysShut a b → Opens (Nothing a) b
closed a b shut = shut_opens_nothing b shut

pub returns-in_err-sync-clause-any_moment : goal.returns-in_err-sync-clause-any_moment
returns-in_err-sync-clause-any_moment g c =
    let old = (g.D.Disk.seen c.args.disk.now).told in
    let mid = (g.D.Disk.seen c.write_blocks.new.disk).told in
    let new = (g.D.Disk.seen c.sync.new.self).told in
    let failed = c.in_err-sync.ensures.err in
    only_fails Nothing StaysShut old mid new c.args.slot (λ s. s)
    c.write_blocks.ensures.any_moment failed
    (becomes_fails StaysShut StaysShut old mid new c.args.slot (λ s. s) c.write_blocks.ensures.now
    c.sync.ensures.real failed (λ a b shut real. shut)
    (λ a b bytes shut real left. shut_shaken b bytes shut left)) closed

pub returns-clause-any_moment : goal.returns-clause-any_moment
returns-clause-any_moment g c =
    let old = (g.D.Disk.seen c.args.disk.now).told in
    let mid = (g.D.Disk.seen c.write_blocks.new.disk).told in
    let new = (g.D.Disk.seen c.sync.new.self).told in
    let synced_now = c.in_ok-sync.ensures.ok in
    only_steps Nothing StaysShut old mid new c.args.slot (λ s. synced s.bytes)
    c.write_blocks.ensures.any_moment synced_now
    (becomes_steps StaysShut StaysShut old mid new c.args.slot (λ s. synced s.bytes)
    c.write_blocks.ensures.now c.sync.ensures.real synced_now
    (λ a b shut real. shut_synced b real shut)) closed
