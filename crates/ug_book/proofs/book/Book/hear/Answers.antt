use Rattle.std.proofs.Common.{◌<◌, length, subst, refl, sym, ap, ◌∙◌}
use Rattle.ug_rules.specs.State.{BookState}
use Rattle.ug_rules.specs.Books.{IsBook, IsSoundBook}
use Rattle.ug_rules.specs.Hearing.{IsDue, after_hearing}
use Rattle.ug_rules.specs.HearingLaws.{IsTrueReport}
use Rattle.ug_rules.proofs.HearingLemmas.{hearing_keeps_book, hearing_keeps_sound}
use Rattle.ug_book.specs.Views.{IsSameRun, state_of}
use Rattle.ug_book.proofs.Runs.{same_run}
use Rattle.ug_book.specs.Heard.{with_held}
use Rattle.ug_book.proofs.Taken.{rank_taken}
use Rattle.ug_book.proofs.After.{heard_so}
use Rattle.ug_book.proofs.book.Book.hear.Goals as goal

pub end_by-requires-clause-there : goal.end_by-requires-clause-there
end_by-requires-clause-there c =
    let b : BookState = state_of c.self.inside in
    let there = subst (λ (k : BookState). c.args.rank < length k.ranks) (sym c.self.view_is)
    c.requires.there in
    let told = c.take_report-answer.ensures.answered b (record { problem = refl; settings = refl }) in
    rank_taken b _ c.take_report-answer.result c.args.rank c.args.report there told.taken

pub end_by-requires-clause-room : goal.end_by-requires-clause-room
end_by-requires-clause-room c = c.take_report-answer.ensures.room (state_of c.self.inside)

pub invariant_of-self : goal.invariant_of-self
invariant_of-self c =
    let b : BookState = state_of c.self.inside in
    let there = subst (λ (k : BookState). c.args.rank < length k.ranks) (sym c.self.view_is)
    c.requires.there in
    let taken : BookState = with_held b c.take_report-answer.new.incumbent.best
    c.take_report-answer.new.frontier in
    let told = c.take_report-answer.ensures.answered b (record { problem = refl; settings = refl }) in
    let is = heard_so b _ _ c.take_report-answer.result c.args.rank c.args.report
    c.heard_after-self-inside.result told.taken (c.end_by.ensures.ended taken)
    c.heard_after-self-inside.ensures in
    record {
      book = subst IsBook (sym is)
          (hearing_keeps_book b c.args.rank c.args.report c.take_report-answer.result there told.due
          c.take_report-answer.ensures.rising c.self.invariant.book);
      cutoff = c.take_report-answer.ensures.compares.cutoff;
      small = c.take_report-answer.ensures.compares.small;
      floor = c.self.invariant.floor;
      room = c.end_by.ensures.room;
    }

pub returns-clause-due : goal.returns-clause-due
returns-clause-due c =
    let b : BookState = state_of c.self.inside in
    let told = c.take_report-answer.ensures.answered b (record { problem = refl; settings = refl }) in
    subst (λ (k : BookState). IsDue k c.args.rank c.args.report c.take_report-answer.result)
    c.self.view_is told.due

pub returns-clause-done : goal.returns-clause-done
returns-clause-done c =
    let b : BookState = state_of c.self.inside in
    let taken : BookState = with_held b c.take_report-answer.new.incumbent.best
    c.take_report-answer.new.frontier in
    let told = c.take_report-answer.ensures.answered b (record { problem = refl; settings = refl }) in
    heard_so b taken _ c.take_report-answer.result c.args.rank c.args.report
    c.heard_after-self-inside.result told.taken (c.end_by.ensures.ended taken)
    c.heard_after-self-inside.ensures
    ∙ ap
    (λ (k : BookState). after_hearing c.take_report-answer.result c.args.rank c.args.report k)
    c.self.view_is

pub returns-clause-sound : goal.returns-clause-sound
returns-clause-sound c = λ true_ sound.
    let b : BookState = state_of c.self.inside in
    let there = subst (λ (k : BookState). c.args.rank < length k.ranks) (sym c.self.view_is)
    c.requires.there in
    let taken : BookState = with_held b c.take_report-answer.new.incumbent.best
    c.take_report-answer.new.frontier in
    let told = c.take_report-answer.ensures.answered b (record { problem = refl; settings = refl }) in
    let is = heard_so b _ _ c.take_report-answer.result c.args.rank c.args.report
    c.heard_after-self-inside.result told.taken (c.end_by.ensures.ended taken)
    c.heard_after-self-inside.ensures in
    subst IsSoundBook (sym is)
    (hearing_keeps_sound b c.args.rank c.args.report c.take_report-answer.result there told.due
    (subst (λ (k : BookState). IsTrueReport k c.args.rank c.args.report) (sym c.self.view_is) true_)
    c.self.invariant.book (subst IsSoundBook (sym c.self.view_is) sound))

pub returns-clause-same : goal.returns-clause-same
returns-clause-same c =
    let b : BookState = state_of c.self.inside in
    let there = subst (λ (k : BookState). c.args.rank < length k.ranks) (sym c.self.view_is)
    c.requires.there in
    let taken : BookState = with_held b c.take_report-answer.new.incumbent.best
    c.take_report-answer.new.frontier in
    let told = c.take_report-answer.ensures.answered b (record { problem = refl; settings = refl }) in
    let is = heard_so b _ _ c.take_report-answer.result c.args.rank c.args.report
    c.heard_after-self-inside.result told.taken (c.end_by.ensures.ended taken)
    c.heard_after-self-inside.ensures in
    let new : BookState = record taken {
      pool = c.end_by.new.frontier.pool.entries;
      ranks = c.end_by.new.frontier.ranks;
      raced = c.end_by.new.frontier.raced;
      last = c.end_by.new.frontier.last;
      orders = c.end_by.new.frontier.orders.orders;
      announced = c.end_by.new.frontier.announced;
      heard = c.heard_after-self-inside.result;
    } in
    subst (λ (k : BookState). IsSameRun k new) c.self.view_is
    (same_run b new c.self.invariant.book (subst IsBook (sym is)
    (hearing_keeps_book b c.args.rank c.args.report c.take_report-answer.result there told.due
    c.take_report-answer.ensures.rising c.self.invariant.book))
    refl refl refl)
