use Rattle.std.proofs.Common.{◌≡◌, sym, subst, rules}
use Rattle.std.proofs.lemmas.Fn.{filter_same}
use Rattle.ug_nodes.specs.Lines.{is_ancestor}
use Rattle.std.specs.Prelude.{not}
use Rattle.ug_pool.specs.declared.entry.Entry.{Entry}
use Rattle.ug_pool.specs.Pools.{IsInOrder, without_below}
use Rattle.ug_pool.proofs.Rises.{filter_in_order}
use Rattle.ug_pool.proofs.pool.keep_others.Goals as goal

pub returns-clause-items : goal.returns-clause-items
returns-clause-items c = filter_same _ _ _ (λ x b f' k. search rules) _ _ c.retain.ensures.filtered

pub returns-clause-order : goal.returns-clause-order
returns-clause-order c =
    let kept : c.retain.new.self.items ≡ without_below c.args.line.now c.args.entries.now.items =
    filter_same _ _ _ (λ x b f' k. search rules) _ _ c.retain.ensures.filtered in
    subst IsInOrder (sym kept)
    (filter_in_order (λ (e : Entry). not (is_ancestor c.args.line.now e.node.line)) c.args.entries.now.items c.requires)
