use Rattle.ug_checkpoint.proofs.Syncing.{first_fails, second_fails, both, settles}
use Rattle.ug_checkpoint.proofs.slots.loading.sync_both.Goals as goal

pub returns-in_err-sync-clause-any_moment : goal.returns-in_err-sync-clause-any_moment
returns-in_err-sync-clause-any_moment g c =
    first_fails (g.D.Disk.seen c.args.disk.now).told (g.D.Disk.seen c.sync.new.self).told
    c.in_err-sync.ensures.err

pub returns-in_err-sync-2-clause-any_moment : goal.returns-in_err-sync-2-clause-any_moment
returns-in_err-sync-2-clause-any_moment g c =
    second_fails (g.D.Disk.seen c.args.disk.now).told (g.D.Disk.seen c.sync.new.self).told
    (g.D.Disk.seen c.sync-2.new.self).told c.sync.ensures.real c.in_ok-sync.ensures.ok
    c.in_err-sync-2.ensures.err

pub returns-clause-settled : goal.returns-clause-settled
returns-clause-settled g c =
    settles (g.D.Disk.seen c.args.disk.now).told (g.D.Disk.seen c.sync.new.self).told
    (g.D.Disk.seen c.sync-2.new.self).told c.sync.ensures.real c.in_ok-sync.ensures.ok
    c.in_ok-sync-2.ensures.ok

pub returns-clause-any_moment : goal.returns-clause-any_moment
returns-clause-any_moment g c =
    both (g.D.Disk.seen c.args.disk.now).told (g.D.Disk.seen c.sync.new.self).told
    (g.D.Disk.seen c.sync-2.new.self).told c.sync.ensures.real c.sync-2.ensures.real
    c.in_ok-sync.ensures.ok c.in_ok-sync-2.ensures.ok
