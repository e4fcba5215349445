use Rattle.std.proofs.Common.{refl, ◌<◌, length, subst, sym}
use Rattle.ug_rules.specs.State.{BookState}
use Rattle.ug_rules.specs.Books.{IsBook, IsSoundBook}
use Rattle.ug_rules.proofs.EventLemmas.{death_keeps}
use Rattle.ug_book.specs.Views.{IsSameRun, state_of}
use Rattle.ug_book.proofs.Runs.{same_run}
use Rattle.ug_book.proofs.book.Book.gone.Goals as goal

pub invariant_of-self : goal.invariant_of-self
invariant_of-self c =
    let b : BookState = state_of c.self.inside in
    let there = subst (λ (k : BookState). c.args.rank < length k.ranks) (sym c.self.view_is)
    c.requires in
    record {
      book = subst IsBook (sym (c.die.ensures.died b))
          ((death_keeps b c.args.rank there).book c.self.invariant.book);
      cutoff = c.self.invariant.cutoff;
      small = c.self.invariant.small;
      floor = c.self.invariant.floor;
      room = c.die.ensures.room;
    }

pub returns-clause-sound : goal.returns-clause-sound
returns-clause-sound c = λ s.
    let b : BookState = state_of c.self.inside in
    let there = subst (λ (k : BookState). c.args.rank < length k.ranks) (sym c.self.view_is)
    c.requires in
    subst IsSoundBook (sym (c.die.ensures.died b))
    ((death_keeps b c.args.rank there).sound c.self.invariant.book
    (subst IsSoundBook (sym c.self.view_is) s))

pub returns-clause-same : goal.returns-clause-same
returns-clause-same c =
    let b : BookState = state_of c.self.inside in
    let there = subst (λ (k : BookState). c.args.rank < length k.ranks) (sym c.self.view_is)
    c.requires in
    let new : BookState = record b {
      pool = c.die.new.self.pool.entries;
      ranks = c.die.new.self.ranks;
      raced = c.die.new.self.raced;
      last = c.die.new.self.last;
      orders = c.die.new.self.orders.orders;
      announced = c.die.new.self.announced;
    } in
    subst (λ (k : BookState). IsSameRun k new) c.self.view_is
    (same_run b new c.self.invariant.book (subst IsBook (sym (c.die.ensures.died b))
    ((death_keeps b c.args.rank there).book c.self.invariant.book))
    refl refl refl)
