use Rattle.std.proofs.Common.{refl}
use Rattle.ug_coord.specs.CoordinatorViews.{coordinator_seen}
use Rattle.ug_coord.specs.Coordinators.{IsRested}
use Rattle.ug_coord.specs.Checkpointers.{kept_seen}
use Rattle.ug_coord.proofs.Kept.{any_kept, is_on, kept_first, kept_ours, kept_up, onto, same_of}
use Rattle.ug_coord.proofs.coordinator.Coordinator.go_on.Goals as goal

pub advance-requires-clause-on : goal.advance-requires-clause-on
advance-requires-clause-on g c κs within =
    let from = onto IsRested c.requires.on.0 (coordinator_seen g.C.Crew.seen c.args.self.now)
    c.requires.on.1 in
    let k = kept_seen c.args.checkpointer.now (g.D.Disk.seen c.args.disk.now) in (
      from.0,
      is_on IsRested from.0 (coordinator_seen g.C.Crew.seen c.loop.self) k _
          (c.loop.invariant.on from.0 k
          (kept_first IsRested from.0 (coordinator_seen g.C.Crew.seen c.args.self.now) k from.1 from.2)),
    )

pub returns-then-has_stopped-clause-on : goal.returns-then-has_stopped-clause-on
returns-then-has_stopped-clause-on g c from first k =
    any_kept IsRested from (coordinator_seen g.C.Crew.seen c.loop.self) first _ (c.loop.invariant.on from first k)

pub returns-then-not-advance-clause-on : goal.returns-then-not-advance-clause-on
returns-then-not-advance-clause-on g c from first k =
    c.if-not-advance.ensures.on from first (c.loop.invariant.on from first k)

pub loop-preserved : goal.loop-preserved
loop-preserved g c = record {
  next = (tt, tt);
  on = λ from first k. c.if-not-advance.ensures.on from first (c.loop.invariant.on from first k);
  kept = kept_up (coordinator_seen g.C.Crew.seen c.args.self.now) (coordinator_seen g.C.Crew.seen c.loop.self)
      (coordinator_seen g.C.Crew.seen c.advance.new.self) _ c.loop.invariant.kept.same
      c.advance.ensures.kept;
}

pub returns-then-not-advance-clause-over : goal.returns-then-not-advance-clause-over
returns-then-not-advance-clause-over g c out_of_memory = c.if-not-advance.ensures.over refl out_of_memory

pub loop-init : goal.loop-init
loop-init g c = record {
  next = (tt, tt);
  on = λ from first k. k;
  kept = record {
    same = same_of c.args.self.now.book c.args.self.now.book refl;
    saved = c.requires.keeps.saved;
    kept = c.requires.keeps.checkpointer.kept;
  };
}

pub returns-then-has_stopped-clause-over : goal.returns-then-has_stopped-clause-over
returns-then-has_stopped-clause-over g c out_of_memory = c.if-has_stopped.ensures.stopped refl out_of_memory

pub advance-requires-clause-more : goal.advance-requires-clause-more
advance-requires-clause-more g c κs within = (c.if-has_stopped.ensures.on refl).1

pub advance-requires-clause-keeps : goal.advance-requires-clause-keeps
advance-requires-clause-keeps g c κs within =
    let from = onto IsRested c.requires.on.0 (coordinator_seen g.C.Crew.seen c.args.self.now)
    c.requires.on.1 in
    let k = kept_seen c.args.checkpointer.now (g.D.Disk.seen c.args.disk.now) in
    record {
      saved = c.loop.invariant.kept.saved;
      checkpointer = record {
        kept = c.loop.invariant.kept.kept;
        ours = kept_ours IsRested from.0 (coordinator_seen g.C.Crew.seen c.loop.self) k
            (kept_seen c.loop.checkpointer (g.D.Disk.seen c.loop.disk)) c.args.self.now.book
            c.loop.self.book
            (c.loop.invariant.on from.0 k
            (kept_first IsRested from.0 (coordinator_seen g.C.Crew.seen c.args.self.now) k from.1 from.2))
            c.loop.invariant.kept.same c.requires.keeps.checkpointer.ours;
      };
    }

pub returns-then-has_stopped-clause-kept : goal.returns-then-has_stopped-clause-kept
returns-then-has_stopped-clause-kept g c = c.loop.invariant.kept

pub returns-then-not-advance-clause-kept : goal.returns-then-not-advance-clause-kept
returns-then-not-advance-clause-kept g c =
    kept_up (coordinator_seen g.C.Crew.seen c.args.self.now) (coordinator_seen g.C.Crew.seen c.loop.self)
    (coordinator_seen g.C.Crew.seen c.advance.new.self) _ c.loop.invariant.kept.same c.advance.ensures.kept
