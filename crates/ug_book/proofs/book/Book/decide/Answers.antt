use Rattle.std.proofs.Common.{refl, sym, subst}
use Rattle.std.specs.Prelude.{IfErr, OnOk}
use Rattle.std.proofs.lemmas.Result.{IfErr-weaker, on_ok_weaker}
use Rattle.ug_rules.specs.State.{BookState}
use Rattle.ug_rules.specs.Books.{IsSoundBook}
use Rattle.ug_rules.specs.Deciding.{IsDecided, Stands}
use Rattle.ug_rules.proofs.SettledLemmas.{decided_settled}
use Rattle.ug_book.specs.Views.{IsSameRun, state_of}
use Rattle.ug_book.proofs.Runs.{same_run}
use Rattle.ug_stock.specs.Decisions.{IsUnder}
use Rattle.ug_stock.specs.Frontiers.{with_frontier}
use Rattle.ug_stock.proofs.Decisions.{decision_keeps}
use Rattle.ug_book.proofs.book.Book.decide.Goals as goal

pub invariant_of-self : goal.invariant_of-self
invariant_of-self c =
    let b : BookState = state_of c.self.inside in
    let new : BookState = with_frontier b c.decide.new.self in
    let under : IsUnder b c.self.inside.run c.self.inside.incumbent.cutoff =
    record { run = refl; settings = refl; cutoff = sym c.self.invariant.cutoff } in
    let decided : OnOk c.decide.result (IsDecided b new) =
    on_ok_weaker c.decide.result (λ f. f b under) c.decide.ensures.decided in
    let stood : IfErr c.decide.result (λ e. Stands e.stood b new) =
    IfErr-weaker c.decide.result _ _ (λ e f. f b under) c.decide.ensures.stands in
    record {
      book = (decision_keeps c.decide.result b new c.self.invariant.book decided stood).book
          c.self.invariant.book;
      cutoff = c.self.invariant.cutoff;
      small = c.self.invariant.small;
      floor = c.self.invariant.floor;
      room = c.decide.ensures.room;
    }

pub returns-clause-decided : goal.returns-clause-decided
returns-clause-decided c =
    let b : BookState = state_of c.self.inside in
    let new : BookState = with_frontier b c.decide.new.self in
    let under : IsUnder b c.self.inside.run c.self.inside.incumbent.cutoff =
    record { run = refl; settings = refl; cutoff = sym c.self.invariant.cutoff } in
    let decided : OnOk c.decide.result (IsDecided b new) =
    on_ok_weaker c.decide.result (λ f. f b under) c.decide.ensures.decided in
    subst (λ (k : BookState). OnOk c.decide.result (IsDecided k new)) c.self.view_is decided

pub returns-clause-settled : goal.returns-clause-settled
returns-clause-settled c =
    let b : BookState = state_of c.self.inside in
    let new : BookState = with_frontier b c.decide.new.self in
    let under : IsUnder b c.self.inside.run c.self.inside.incumbent.cutoff =
    record { run = refl; settings = refl; cutoff = sym c.self.invariant.cutoff } in
    let decided : OnOk c.decide.result (IsDecided b new) =
    on_ok_weaker c.decide.result (λ f. f b under) c.decide.ensures.decided in
    on_ok_weaker c.decide.result (decided_settled b new) decided

pub returns-clause-stands : goal.returns-clause-stands
returns-clause-stands c =
    let b : BookState = state_of c.self.inside in
    let new : BookState = with_frontier b c.decide.new.self in
    let under : IsUnder b c.self.inside.run c.self.inside.incumbent.cutoff =
    record { run = refl; settings = refl; cutoff = sym c.self.invariant.cutoff } in
    let stood : IfErr c.decide.result (λ e. Stands e.stood b new) =
    IfErr-weaker c.decide.result _ _ (λ e f. f b under) c.decide.ensures.stands in
    subst (λ (k : BookState). IfErr c.decide.result (λ e. Stands e.stood k new))
    c.self.view_is stood

pub returns-clause-sound : goal.returns-clause-sound
returns-clause-sound c = λ s.
    let b : BookState = state_of c.self.inside in
    let new : BookState = with_frontier b c.decide.new.self in
    let under : IsUnder b c.self.inside.run c.self.inside.incumbent.cutoff =
    record { run = refl; settings = refl; cutoff = sym c.self.invariant.cutoff } in
    let decided : OnOk c.decide.result (IsDecided b new) =
    on_ok_weaker c.decide.result (λ f. f b under) c.decide.ensures.decided in
    let stood : IfErr c.decide.result (λ e. Stands e.stood b new) =
    IfErr-weaker c.decide.result _ _ (λ e f. f b under) c.decide.ensures.stands in
    (decision_keeps c.decide.result b new c.self.invariant.book decided stood).sound
    c.self.invariant.book (subst IsSoundBook (sym c.self.view_is) s)

pub returns-clause-same : goal.returns-clause-same
returns-clause-same c =
    let b : BookState = state_of c.self.inside in
    let new : BookState = with_frontier b c.decide.new.self in
    let under : IsUnder b c.self.inside.run c.self.inside.incumbent.cutoff =
    record { run = refl; settings = refl; cutoff = sym c.self.invariant.cutoff } in
    let decided : OnOk c.decide.result (IsDecided b new) =
    on_ok_weaker c.decide.result (λ f. f b under) c.decide.ensures.decided in
    let stood : IfErr c.decide.result (λ e. Stands e.stood b new) =
    IfErr-weaker c.decide.result _ _ (λ e f. f b under) c.decide.ensures.stands in
    subst (λ (k : BookState). IsSameRun k new) c.self.view_is
    (same_run b new c.self.invariant.book ((decision_keeps c.decide.result b new c.self.invariant.book decided stood).book
    c.self.invariant.book)
    refl refl refl)
