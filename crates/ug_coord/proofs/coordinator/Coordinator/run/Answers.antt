use Rattle.std.proofs.Common.{[], refl, sym, subst, ◌∙◌}
use Rattle.ug_coord.specs.Ends.{IsOver}
use Rattle.ug_coord.specs.CoordinatorViews.{coordinator_seen}
use Rattle.ug_coord.specs.Coordinators.{IsRested, coordinator_state}
use Rattle.ug_coord.proofs.Kept.{kept_first, ours_same, run_on, unsaved}
use Rattle.ug_coord.proofs.Starting.{starts_and_ends}
use Rattle.ug_rules.specs.State.{BookState}
use Rattle.ug_book.specs.Views.{IsSameRun}
use Rattle.ug_coord.specs.declared.pacing.Pacing.{Pacing}
use Rattle.ug_coord.specs.Pacing.{IsSaveDue}
use Rattle.ug_coord.proofs.coordinator.Coordinator.run.Goals as goal

pub go_on-requires-clause-on : goal.go_on-requires-clause-on
go_on-requires-clause-on g c κs within =
    let (from, k) = c.requires.on in
    (from, (k.0, k.1, (c.start_all.ensures.on k.0 from k.2).on))

pub start_all-requires-clause-on : goal.start_all-requires-clause-on
start_all-requires-clause-on g c =
    let (from, k) = c.requires.on in
    (k.0, from, k.2)

pub returns-clause-ends : goal.returns-clause-ends
returns-clause-ends g c from (phase, is, k) same =
    let h = coordinator_seen g.C.Crew.seen c.start_all.new.self in
    let now = c.start_all.ensures.on phase from k in
    let mid = coordinator_state now.on.said phase h in
    starts_and_ends _ phase from h _ _ _ now (c.start_all.ensures.quiet.pacing ∙ sym same)
    (c.close.ensures.ends mid _ _ (c.go_on.ensures.on mid _ (kept_first IsRested mid h _ refl (
      phase,
      is,
      record {
        said = now.on.said;
        come = record { actions = []; trace = refl };
        shown = now.on.shown;
        fit = now.on.fit;
      },
    ))))

pub returns-clause-over : goal.returns-clause-over
returns-clause-over g c out_of_memory =
    subst IsOver (sym c.close.ensures.same.0) (c.go_on.ensures.over (sym c.close.ensures.same.1 ∙ out_of_memory))

pub go_on-requires-clause-keeps : goal.go_on-requires-clause-keeps
go_on-requires-clause-keeps g c κs within =
    let quiet = c.start_all.ensures.quiet in
    record {
      saved = unsaved c.args.self.now.book c.start_all.new.self.book c.args.self.now.pacing
          c.start_all.new.self.pacing quiet.run.settings quiet.heard quiet.pacing
          c.requires.keeps.saved;
      checkpointer = record {
        kept = c.requires.keeps.checkpointer.kept;
        ours = ours_same c.args.checkpointer.now.saves c.args.self.now.book
            c.start_all.new.self.book quiet.run c.requires.keeps.checkpointer.ours;
      };
    }

pub returns-clause-kept : goal.returns-clause-kept
returns-clause-kept g c = record {
  same = run_on c.args.self.now.book c.start_all.new.self.book c.close.new.self.book
      c.start_all.ensures.quiet.run
      (subst (λ (b : BookState). IsSameRun c.start_all.new.self.book b)
      (sym c.close.ensures.same.0) c.go_on.ensures.kept.same);
  saved = subst (λ (p : Pacing). ¬ IsSaveDue p c.close.new.self.book) (sym c.close.ensures.pacing)
      (subst (λ (b : BookState). ¬ IsSaveDue c.go_on.new.self.pacing b) (sym c.close.ensures.same.0)
      c.go_on.ensures.kept.saved);
  kept = c.go_on.ensures.kept.kept;
}
