use Rattle.std.proofs.Common.{refl, ◌<◌, length, List, subst, sym, ap, arith}
use Rattle.ug_ranks.specs.declared.state.State.{State}
use Rattle.ug_frames.specs.declared.report.Report.TheVariants.{Ready}
use Rattle.ug_rules.specs.State.{BookState, nodes_of}
use Rattle.ug_rules.specs.Books.{IsBook, IsSoundBook}
use Rattle.ug_rules.proofs.EventLemmas.{ready_keeps}
use Rattle.ug_rules.proofs.RoomLemmas.{kept_takes_none}
use Rattle.ug_book.specs.Views.{IsSameRun, state_of}
use Rattle.ug_book.proofs.Runs.{same_run}
use Rattle.ug_book.proofs.book.Book.join.Goals as goal

pub invariant_of-self : goal.invariant_of-self
invariant_of-self c =
    let b : BookState = state_of c.self.inside in
    let there = subst (λ (k : BookState). c.args.rank < length k.ranks) (sym c.self.view_is)
    c.requires in
    let none = kept_takes_none b c.args.rank Ready there in
    let work = ap (λ (ss : List State). length (nodes_of ss)) c.idle.ensures in
    record {
      book = subst (λ (ss : List State). IsBook (record b { ranks = ss })) (sym c.idle.ensures)
          ((ready_keeps b c.args.rank there).book c.self.invariant.book);
      cutoff = c.self.invariant.cutoff;
      small = c.self.invariant.small;
      floor = c.self.invariant.floor;
      room = record {
        pool = omega (arith, none.work, work, c.self.invariant.room.pool);
        orders = omega (arith, none.work, work, c.self.invariant.room.orders);
      };
    }

pub returns-clause-sound : goal.returns-clause-sound
returns-clause-sound c = λ s.
    let b : BookState = state_of c.self.inside in
    let there = subst (λ (k : BookState). c.args.rank < length k.ranks) (sym c.self.view_is)
    c.requires in
    subst (λ (ss : List State). IsSoundBook (record b { ranks = ss })) (sym c.idle.ensures)
    ((ready_keeps b c.args.rank there).sound c.self.invariant.book
    (subst IsSoundBook (sym c.self.view_is) s))

pub returns-clause-same : goal.returns-clause-same
returns-clause-same c =
    let b : BookState = state_of c.self.inside in
    let there = subst (λ (k : BookState). c.args.rank < length k.ranks) (sym c.self.view_is)
    c.requires in
    let new : BookState = record b { ranks = c.idle.new.self } in
    subst (λ (k : BookState). IsSameRun k new) c.self.view_is
    (same_run b new c.self.invariant.book (subst (λ (ss : List State). IsBook (record b { ranks = ss })) (sym c.idle.ensures)
    ((ready_keeps b c.args.rank there).book c.self.invariant.book))
    refl refl refl)
