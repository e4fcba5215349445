use Rattle.std.proofs.Common.{◌≡◌, ℕ, length, List, [], subst, sym, ap, ◌∙◌, arith}
use Rattle.std.specs.Prelude.{All, Option}
use Rattle.ug_problem.specs.Instances.{Instance}
use Rattle.ug_problem.specs.Limits.{IsProblem}
use Rattle.ug_pool.specs.declared.entry.Entry.{Entry}
use Rattle.ug_ranks.specs.declared.state.State.{State}
use Rattle.ug_rules.specs.State.{nodes_of, raced_node}
use Rattle.ug_rules.specs.Books.{HasItsFloor, IsBook, IsSoundBook}
use Rattle.ug_book.specs.Starts.{start_entries, with_entries}
use Rattle.ug_book.proofs.Starts.{no_work, start_book, start_is_sound, started_is}
use Rattle.ug_book.proofs.book.Book.new.Goals as goal

pub invariant_of-result : goal.invariant_of-result
invariant_of-result c =
    let o = c.args.opening.now in
    let run = c.in_ok-run.run' in
    let frontier = c.in-Ok-first_frontier.frontier in
    let r = c.in_ok-run.ensures in
    let f = c.in-Ok-first_frontier.ensures in
    let own : c.new-incumbent.result.best ≡ o.best =
    c.new-incumbent.ensures.best ∙ (c.new.ensures ∙ (c.in-Ok.ensures ∙ c.as_ref.ensures.value)) in
    let is = started_is o.problem run.problem o.run run.number o.best c.new-incumbent.result.best o.boxes
    o.settings run.settings frontier.pool.entries frontier.ranks frontier.raced frontier.last
    frontier.orders.orders frontier.announced r.problem r.number r.settings own f.pool f.ranks f.raced
    f.last f.orders (f.announced ∙ c.new-incumbent.ensures.cutoff) in
    let none = ap (λ (ss : List State). length (nodes_of ss)) f.ranks in
    let work = ap length (no_work run.settings.solvers) in
    let raced = ap (λ (e : Option Entry). length (raced_node e)) f.raced in
    let floors = subst
    (λ (n : ℕ). All (HasItsFloor o.problem) (with_entries (start_entries o.problem n 0 o.boxes) []))
    r.number
    (subst (λ (q : Instance). All (HasItsFloor q)
    (with_entries (start_entries q run.number 0 o.boxes) [])) r.problem
    (subst (λ (es : List Entry). All (HasItsFloor run.problem) es) f.pool f.floors)) in
    record {
      book = subst IsBook (sym is) (start_book o.problem o.run o.best o.boxes o.settings
          (subst IsProblem r.problem r.sound) c.requires.run c.requires.best c.requires.settings
          floors);
      cutoff = c.new-incumbent.ensures.cutoff;
      small = c.new-incumbent.ensures.small;
      floor = r.floor;
      room = record {
        pool = omega (arith, none, work, raced);
        orders = omega (arith, none, work);
      };
    }

pub returns-in-Ok-first_frontier-clause-sound : goal.returns-in-Ok-first_frontier-clause-sound
returns-in-Ok-first_frontier-clause-sound c =
    let o = c.args.opening.now in
    let run = c.in_ok-run.run' in
    let frontier = c.in-Ok-first_frontier.frontier in
    let r = c.in_ok-run.ensures in
    let f = c.in-Ok-first_frontier.ensures in
    let own : c.new-incumbent.result.best ≡ o.best =
    c.new-incumbent.ensures.best ∙ (c.new.ensures ∙ (c.in-Ok.ensures ∙ c.as_ref.ensures.value)) in
    let is = started_is o.problem run.problem o.run run.number o.best c.new-incumbent.result.best o.boxes
    o.settings run.settings frontier.pool.entries frontier.ranks frontier.raced frontier.last
    frontier.orders.orders frontier.announced r.problem r.number r.settings own f.pool f.ranks f.raced
    f.last f.orders (f.announced ∙ c.new-incumbent.ensures.cutoff) in
    let both = start_is_sound o.problem o.run o.best o.boxes o.settings in
    (λ s. both.0 (subst IsSoundBook is s), λ covered. subst IsSoundBook (sym is) (both.1 covered))
