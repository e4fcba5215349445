use Rattle.ug_coord.specs.CoordinatorViews.{coordinator_seen}
use Rattle.ug_coord.specs.Coordinators.{AnyPhase, IsRested}
use Rattle.ug_coord.proofs.Kept.{keeps_on, ours_same, unsaved}
use Rattle.std.proofs.Common.{refl, sym, subst}
use Rattle.std.proofs.lemmas.Bool.{false≢true}
use Rattle.ug_rules.specs.State.{BookState}
use Rattle.ug_book.specs.Views.{IsSameRun}
use Rattle.ug_coord.proofs.coordinator.Coordinator.advance.Goals as goal

pub returns-then-not-step-clause-on : goal.returns-then-not-step-clause-on
returns-then-not-step-clause-on g c from first k =
    keeps_on IsRested AnyPhase from (coordinator_seen g.C.Crew.seen c.args.self.now) (coordinator_seen g.C.Crew.seen c.step.new.self)
    first _ c.if-not-step.ensures.hears.pacing c.if-not-step.ensures.on k

pub returns-then-is_due-clause-on : goal.returns-then-is_due-clause-on
returns-then-is_due-clause-on g c from first k =
    c.save.ensures.on from first (keeps_on IsRested IsRested from (coordinator_seen g.C.Crew.seen c.args.self.now)
    (coordinator_seen g.C.Crew.seen c.step.new.self) first _ c.if-not-step.ensures.hears.pacing
    c.if-not-step.ensures.on k)

pub returns-else-is_due-clause-on : goal.returns-else-is_due-clause-on
returns-else-is_due-clause-on g c from first k =
    keeps_on IsRested IsRested from (coordinator_seen g.C.Crew.seen c.args.self.now)
    (coordinator_seen g.C.Crew.seen c.step.new.self) first _ c.if-not-step.ensures.hears.pacing
    c.if-not-step.ensures.on k

pub step-requires-clause-on : goal.step-requires-clause-on
step-requires-clause-on g c κs within = c.requires.on

pub step-requires-clause-more : goal.step-requires-clause-more
step-requires-clause-more g c κs within = c.requires.more

pub returns-then-not-step-clause-over : goal.returns-then-not-step-clause-over
returns-then-not-step-clause-over g c same out_of_memory = c.if-not-step.ensures.over refl out_of_memory

pub save-requires-clause-due : goal.save-requires-clause-due
save-requires-clause-due g c = c.if-is_due.ensures

pub returns-then-is_due-clause-over : goal.returns-then-is_due-clause-over
returns-then-is_due-clause-over g c same out_of_memory = absurd (false≢true (sym same))

pub returns-else-is_due-clause-over : goal.returns-else-is_due-clause-over
returns-else-is_due-clause-over g c same out_of_memory = absurd (false≢true (sym same))

pub step-requires-clause-saved : goal.step-requires-clause-saved
step-requires-clause-saved g c κs within = c.requires.keeps.saved

pub returns-then-not-step-clause-kept : goal.returns-then-not-step-clause-kept
returns-then-not-step-clause-kept g c =
    let quiet = c.if-not-step.ensures.hears in
    record {
      same = quiet.run;
      saved = unsaved c.args.self.now.book c.step.new.self.book c.args.self.now.pacing
          c.step.new.self.pacing quiet.run.settings quiet.heard quiet.pacing c.requires.keeps.saved;
      kept = c.requires.keeps.checkpointer.kept;
    }

pub save-requires-clause-checkpointer : goal.save-requires-clause-checkpointer
save-requires-clause-checkpointer g c = record {
  kept = c.requires.keeps.checkpointer.kept;
  ours = ours_same c.args.checkpointer.now.saves c.args.self.now.book c.step.new.self.book
      c.if-not-step.ensures.hears.run c.requires.keeps.checkpointer.ours;
}

pub returns-then-is_due-clause-kept : goal.returns-then-is_due-clause-kept
returns-then-is_due-clause-kept g c = record {
  same = subst (λ (b : BookState). IsSameRun c.args.self.now.book b) (sym c.save.ensures.book)
      c.if-not-step.ensures.hears.run;
  saved = c.save.ensures.saved;
  kept = c.save.ensures.kept;
}

pub returns-else-is_due-clause-kept : goal.returns-else-is_due-clause-kept
returns-else-is_due-clause-kept g c = record {
  same = c.if-not-step.ensures.hears.run;
  saved = c.if-is_due.ensures;
  kept = c.requires.keeps.checkpointer.kept;
}
