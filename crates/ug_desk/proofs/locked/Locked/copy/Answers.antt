use Rattle.std.proofs.Common.{subst, sym}
use Rattle.ug_desk.specs.Entries.{IsSnapshotOf, LockedState, one_more}
use Rattle.ug_snapshot.specs.Snapshots.{SnapshotState}
use Rattle.ug_desk.specs.Views.{state_of}
use Rattle.ug_desk.proofs.Saving.{snapshot_so}
use Rattle.ug_desk.proofs.locked.Locked.copy.Goals as goal

pub new-requires : goal.new-requires
new-requires c =
    snapshot_so (state_of c.self.inside) c.in_ok-began.began c.in-Ok.image
    c.one_more.result c.self.invariant.0 c.in_ok-began.ensures c.in-Ok.ensures.moment
    c.in-Ok.ensures.image c.in-Ok.ensures.covered

pub returns-in-Ok : goal.returns-in-Ok
returns-in-Ok c =
    let s : SnapshotState = record {
      opening = c.in_ok-began.began;
      image = c.in-Ok.image;
      count = c.one_more.result;
    } in
    let l = c.args.self.now in
    subst (λ (made : SnapshotState). IsSnapshotOf l (one_more l.count) made) (sym c.new.ensures)
    (subst (λ (l : LockedState). IsSnapshotOf l (one_more l.count) s) c.self.view_is
    (record {
      its_opening = c.in_ok-began.ensures;
      moment = c.in-Ok.ensures.moment;
      calls_are = c.one_more.ensures;
    }))
