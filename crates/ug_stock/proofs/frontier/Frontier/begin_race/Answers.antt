use Rattle.std.proofs.Common.{◌≡◌, ◌∙◌, ap, sym, subst, List}
use Rattle.std.specs.Prelude.{All, Some}
use Rattle.std.proofs.lemmas.List.Elements.{All-replicate}
use Rattle.ug_nodes.specs.declared.change.Change.{Change}
use Rattle.ug_stock.specs.Queues.{Queued}
use Rattle.ug_pool.specs.declared.entry.Entry.{Entry}
use Rattle.ug_rules.specs.Ranks.{ranks_that}
use Rattle.ug_ranks.specs.Looks.{is_idle}
use Rattle.ug_rules.specs.Deciding.{race_begun_with, raced_by_all}
use Rattle.ug_stock.specs.Frontiers.{with_frontier}
use Rattle.ug_stock.proofs.FirstOfPool.{same_first}
use Rattle.ug_stock.proofs.frontier.Frontier.begin_race.Goals as goal

pub returns-in-Some-take_first-clause-ok : goal.returns-in-Some-take_first-clause-ok
returns-in-Some-take_first-clause-ok c = λ b is.
    let entry = c.in-Some-take_first.entry in
    let first = c.in-Some-take_first.ensures.first in
    let s = c.args.self.now in
    let same = same_first s.pool.entries c.take_first.new.pool.entries
    c.in-Some.first.now entry c.in-Some.ensures first in
    c.race_all.ensures.part.joined b entry is
    (subst (λ (boxes : List (List Change)). All (λ box. entry.node.changes ≡ box) boxes)
    (sym c.in_ok-boxes.ensures)
    (All-replicate (λ (box : List Change). entry.node.changes ≡ box) c.count-counts.result.idle
    c.in-Some.first.now.node.changes same))
    ∙ (ap (λ (queue : Queued). raced_by_all (ranks_that is_idle s.ranks) entry
    (with_frontier b (record s { pool = c.take_first.new.pool; raced = Some entry; orders = queue })))
    c.in_ok-reserve.ensures.ok
    ∙ ap (λ (es : List Entry). race_begun_with es (with_frontier b s)) (sym first))
