use Rattle.std.proofs.Common.{subst, sym}
use Rattle.ug_coord.specs.declared.pacing.Pacing.{Pacing}
use Rattle.ug_coord.specs.CoordinatorViews.{coordinator_seen}
use Rattle.ug_coord.specs.Coordinators.{IsKeptIn, IsRested}
use Rattle.ug_coord.specs.Checkpointers.{kept_seen}
use Rattle.ug_coord.specs.Pacing.{IsSaveDue}
use Rattle.ug_coord.proofs.Kept.{just_saved, keeps_saved}
use Rattle.ug_coord.proofs.coordinator.Coordinator.save.Goals as goal

pub returns-clause-on : goal.returns-clause-on
returns-clause-on g c from first k =
    subst (λ (p : Pacing). IsKeptIn IsRested from (record (coordinator_seen g.C.Crew.seen c.args.self.now) { pacing = p }) first
    (kept_seen c.keep.new.self (g.D.Disk.seen c.keep.new.disk)))
    (sym c.saved-self.ensures)
    (keeps_saved IsRested from (coordinator_seen g.C.Crew.seen c.args.self.now) first
    (kept_seen c.args.checkpointer.now (g.D.Disk.seen c.args.disk.now))
    (kept_seen c.keep.new.self (g.D.Disk.seen c.keep.new.disk)) c.requires.due
    c.requires.checkpointer.ours c.keep.ensures.moves c.keep.ensures.tried k)

pub returns-clause-saved : goal.returns-clause-saved
returns-clause-saved g c =
    subst (λ (p : Pacing). ¬ IsSaveDue p c.args.self.now.book) (sym c.saved-self.ensures) (just_saved c.args.self.now.book)
