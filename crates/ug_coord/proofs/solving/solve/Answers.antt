use Rattle.std.proofs.Common.{◌≡◌, false, refl, rules, sym, ap, subst, ◌∙◌, arith}
use Rattle.std.specs.Prelude.{replicate}
use Rattle.ug_stream.specs.Streams.{first}
use Rattle.ug_rules.specs.State.{BookState}
use Rattle.ug_rules.specs.Books.{IsBook, IsSoundBook}
use Rattle.ug_book.specs.Openings.{opening_book}
use Rattle.ug_restart.specs.Outcomes.{HasFeasible, IfAnswered, IfBook, IsRight}
use Rattle.ug_coord.specs.Ends.{is_ended, ranks_of}
use Rattle.ug_coord.specs.Coordinators.{StartsAndEnds, beginning}
use Rattle.ug_coord.specs.CoordinatorViews.{coordinator_seen}
use Rattle.ug_coord.specs.declared.pacing.Pacing.{Pacing}
use Rattle.ug_coord.specs.Keeping.{savers}
use Rattle.ug_coord.specs.Checkpointers.{kept_seen}
use Rattle.ug_coord.proofs.Starting.{begun_started}
use Rattle.ug_coord.proofs.Causes.{opening_alive}
use Rattle.ug_coord.proofs.Ends.{begun_ours, nothing_coordinated, nothing_kept, solved_coordinated, solved_kept}
use Rattle.ug_coord.proofs.Kept.{ends_ours, run_on, same_of}
use Rattle.ug_coord.proofs.solving.solve.Goals as goal

-- no save is due at the begin
begun_pacing : (b own : BookState) (p : Pacing) → b ≡ own → p ≡ record { since = b.heard; apart = 0 }
    → p ≡ record { since = own.heard; apart = 0 }
begun_pacing b own p same is =
    is ∙ ap (λ (k : BookState). record { since = k.heard; apart = 0 }) same

pub returns-in-Err-clause-coordinated : goal.returns-in-Err-clause-coordinated
returns-in-Err-clause-coordinated g c =
    nothing_coordinated (opening_book c.args.opening.now) (g.C.Crew.seen c.args.crew) (savers c.args.checkpointer.saves)
    c.nothing.result (g.D.Disk.seen c.args.disk.now) c.requires.fresh (opening_alive c.args.opening.now) c.nothing.ensures

pub returns-in-Err-clause-kept : goal.returns-in-Err-clause-kept
returns-in-Err-clause-kept g c =
    nothing_kept (opening_book c.args.opening.now) (savers c.args.checkpointer.saves) c.nothing.result
    (g.D.Disk.seen c.args.disk.now) c.nothing.ensures

pub run-requires-clause-on : goal.run-requires-clause-on
run-requires-clause-on g c κs within = (
  beginning (opening_book c.args.opening.now) (g.C.Crew.seen c.args.crew).faults,
  begun_started (opening_book c.args.opening.now) _ c.requires.fresh c.in-Ok.ensures.book
      (c.in-Ok.ensures.streams ∙ ap (λ (b : BookState). replicate (ranks_of b) first) c.in-Ok.ensures.book) refl (begun_pacing c.in-Ok.parts.book (opening_book c.args.opening.now) _ c.in-Ok.ensures.book (search rules)),
)

pub run-requires-clause-keeps : goal.run-requires-clause-keeps
run-requires-clause-keeps g c κs within = record {
  saved = search rules;
  checkpointer = record {
    kept = search rules;
    ours = begun_ours c.args.opening.now c.args.checkpointer.saves _ c.requires.begun
        c.in-Ok.ensures.book;
  };
}

pub returns-clause-coordinated : goal.returns-clause-coordinated
returns-clause-coordinated g c =
    let b = opening_book c.args.opening.now in
    let faults = (g.C.Crew.seen c.args.crew).faults in
    let old = kept_seen c.args.checkpointer (g.D.Disk.seen c.args.disk.now) in
    let mid = kept_seen c.run.new.checkpointer (g.D.Disk.seen c.run.new.disk) in
    let last = coordinator_seen g.C.Crew.seen c.run.new.self in
    let all = c.run.ensures.ends (beginning b faults)
    (begun_started (opening_book c.args.opening.now) _ c.requires.fresh c.in-Ok.ensures.book
    (c.in-Ok.ensures.streams ∙ ap (λ (b : BookState). replicate (ranks_of b) first) c.in-Ok.ensures.book) refl (begun_pacing c.in-Ok.parts.book (opening_book c.args.opening.now) _ c.in-Ok.ensures.book (search rules))) (sym (begun_pacing c.in-Ok.parts.book (opening_book c.args.opening.now) _ c.in-Ok.ensures.book (search rules))) in
    solved_coordinated b faults last old mid
    (g.D.Disk.seen c.conclude-outcome.new.disk) c.conclude-outcome.result
    (subst (λ (own : BookState). StartsAndEnds (ranks_of own) (beginning b faults) last old mid) c.in-Ok.ensures.book all)
    (record {
      made = subst IsBook c.in-Ok.ensures.book c.in-Ok.ensures.made;
      ended = subst (λ e. is_ended e c.run.new.self.book) (sym c.conclude-outcome.ensures.end)
          c.end_of-end.ensures.ended;
      lacks = subst (λ e. IfBook e (λ own. c.run.new.self.out_of_memory ≡ false)) (sym c.conclude-outcome.ensures.end)
          c.end_of-end.ensures.lacks;
      same = run_on b _ c.run.new.self.book (same_of b _ c.in-Ok.ensures.book)
          c.run.ensures.kept.same;
      within = omega arith;
      alive = opening_alive c.args.opening.now;
      feasible = subst (λ e. IfBook e HasFeasible) (sym c.conclude-outcome.ensures.end) c.end_of-end.ensures.feasible;
      right = subst (λ e. IfAnswered e (λ own. IsSoundBook own → IsRight own)) (sym c.conclude-outcome.ensures.end)
          c.end_of-end.ensures.right;
    })
    (ends_ours (beginning b faults) last old mid _ _ all.ends c.run.ensures.kept.same
    (begun_ours c.args.opening.now c.args.checkpointer.saves _ c.requires.begun c.in-Ok.ensures.book))
    c.run.ensures.kept.saved c.args.opening.now c.requires.begun
    c.conclude-outcome.ensures.concluded

pub returns-clause-kept : goal.returns-clause-kept
returns-clause-kept g c =
    let b = opening_book c.args.opening.now in
    let faults = (g.C.Crew.seen c.args.crew).faults in
    let old = kept_seen c.args.checkpointer (g.D.Disk.seen c.args.disk.now) in
    let mid = kept_seen c.run.new.checkpointer (g.D.Disk.seen c.run.new.disk) in
    let all = c.run.ensures.ends (beginning b faults)
    (begun_started (opening_book c.args.opening.now) _ c.requires.fresh c.in-Ok.ensures.book
    (c.in-Ok.ensures.streams ∙ ap (λ (b : BookState). replicate (ranks_of b) first) c.in-Ok.ensures.book) refl (begun_pacing c.in-Ok.parts.book (opening_book c.args.opening.now) _ c.in-Ok.ensures.book (search rules))) (sym (begun_pacing c.in-Ok.parts.book (opening_book c.args.opening.now) _ c.in-Ok.ensures.book (search rules))) in
    solved_kept c.args.opening.now (beginning b faults) (coordinator_seen g.C.Crew.seen c.run.new.self) old mid
    (g.D.Disk.seen c.conclude-outcome.new.disk) c.conclude-outcome.result all.ends
    (subst (λ e. is_ended e c.run.new.self.book) (sym c.conclude-outcome.ensures.end) c.end_of-end.ensures.ended)
    (ends_ours (beginning b faults) (coordinator_seen g.C.Crew.seen c.run.new.self) old mid _ _ all.ends
    c.run.ensures.kept.same
    (begun_ours c.args.opening.now c.args.checkpointer.saves _ c.requires.begun c.in-Ok.ensures.book))
    c.requires.begun c.conclude-outcome.ensures.concluded
