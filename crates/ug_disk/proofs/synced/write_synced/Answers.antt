use Rattle.std.proofs.Common.{length}
use Rattle.ug_disk.specs.Slots.{synced}
use Rattle.ug_disk.specs.Crashes.{MayLeaveWriting}
use Rattle.ug_disk.proofs.Moments.{steps_on, fails_on}
use Rattle.ug_disk.proofs.Writing.{write_leaves, failed_write_leaves, after_write, after_sync, after_failed_sync}
use Rattle.ug_disk.proofs.synced.write_synced.Goals as goal

pub returns-in_err-write_at-clause-any_moment : goal.returns-in_err-write_at-clause-any_moment
returns-in_err-write_at-clause-any_moment g c =
    failed_write_leaves (g.D.Disk.seen c.args.disk.now).told (g.D.Disk.seen c.write_at.new.self).told
    c.args.slot c.args.at (length c.args.bytes.now)
    c.in_err-write_at.ensures.err

pub returns-in_err-sync-clause-any_moment : goal.returns-in_err-sync-clause-any_moment
returns-in_err-sync-clause-any_moment g c =
    let old = (g.D.Disk.seen c.args.disk.now).told in
    let mid = (g.D.Disk.seen c.write_at.new.self).told in
    let new = (g.D.Disk.seen c.sync.new.self).told in
    let P = MayLeaveWriting old c.args.slot c.args.at (length c.args.bytes.now) in
    let wrote = c.in_ok-write_at.ensures.ok in
    let now = after_write old mid c.args.slot c.args.at c.args.bytes.now c.write_at.ensures.real
    c.requires wrote in
    fails_on P old mid new c.args.slot (λ state. state) (write_leaves old mid c.args.slot c.args.at
    c.args.bytes.now c.write_at.ensures.real c.requires wrote)
    c.in_err-sync.ensures.err (after_failed_sync P mid new c.args.slot c.in_err-sync.ensures.err
    now)

pub returns-clause-any_moment : goal.returns-clause-any_moment
returns-clause-any_moment g c =
    let old = (g.D.Disk.seen c.args.disk.now).told in
    let mid = (g.D.Disk.seen c.write_at.new.self).told in
    let new = (g.D.Disk.seen c.sync.new.self).told in
    let P = MayLeaveWriting old c.args.slot c.args.at (length c.args.bytes.now) in
    let wrote = c.in_ok-write_at.ensures.ok in
    let now = after_write old mid c.args.slot c.args.at c.args.bytes.now c.write_at.ensures.real
    c.requires wrote in
    steps_on P old mid new c.args.slot (λ state. synced state.bytes) (write_leaves old mid
    c.args.slot c.args.at c.args.bytes.now c.write_at.ensures.real c.requires wrote)
    c.in_ok-sync.ensures.ok (after_sync P mid new c.args.slot c.sync.ensures.real
    c.in_ok-sync.ensures.ok now)
