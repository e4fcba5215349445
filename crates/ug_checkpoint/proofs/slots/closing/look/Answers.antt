use Rattle.std.proofs.Common.{sym, subst}
use Rattle.ug_disk.specs.Slots.{MayLeave}
use Rattle.ug_disk.specs.Crashes.{Leaves}
use Rattle.ug_checkpoint.specs.Runs.{OnlyOpens}
use Rattle.ug_checkpoint.proofs.Going.{syncs_within, fails_within}
use Rattle.ug_checkpoint.proofs.slots.closing.look.Goals as goal

pub returns-in_err-sync-in-Torn-clause-any_moment :
    goal.returns-in_err-sync-in-Torn-clause-any_moment
returns-in_err-sync-in-Torn-clause-any_moment g c =
    fails_within (g.D.Disk.seen c.args.disk.now).told (g.D.Disk.seen c.sync.new.self).told c.args.slot
    c.in_err-sync-in-Torn.ensures.err

pub returns-in_ok-sync-in-Torn-clause-any_moment : goal.returns-in_ok-sync-in-Torn-clause-any_moment
returns-in_ok-sync-in-Torn-clause-any_moment g c =
    let old = (g.D.Disk.seen c.args.disk.now).told in
    subst (λ l. Leaves (OnlyOpens old c.args.slot MayLeave) old l)
    (sym c.is_shut-in-Torn.ensures.same)
    (syncs_within old (g.D.Disk.seen c.sync.new.self).told c.args.slot c.sync.ensures.real
    c.in_ok-sync-in-Torn.ensures.ok)
