use Rattle.std.proofs.Common.{◌++◌, List, take, sym, ap, ◌∙◌, arith}
use Rattle.std.specs.Prelude.{Option}
use Rattle.std.specs.Option.{option_copied}
use Rattle.std.proofs.lemmas.List.{append_assoc}
use Rattle.ug_nodes.specs.declared.node.Node.{Node}
use Rattle.ug_pool.specs.declared.entry.Entry.{Entry}
use Rattle.ug_nodes.specs.Primitive.{lent}
use Rattle.ug_rules.specs.State.{nodes_in, raced_node}
use Rattle.ug_book.proofs.Nodes.{one_entry_more}
use Rattle.ug_book.proofs.held.push_pool.Goals as goal

pub loop-at-preserved : goal.loop-at-preserved
loop-at-preserved c =
    let es = c.args.pool.now.entries in
    let k = c.loop-at.at in
    let before = lent c.args.nodes.now.items in
    c.in_ok-push_entry.ensures
    ∙ (ap (λ (ns : List Node). ns ++ raced_node (option_copied c.get.result)) c.loop-at.invariant
    ∙ (ap (λ (o : Option Entry). before ++ nodes_in (take k es) ++ raced_node o) c.get.ensures
    ∙ (append_assoc before (nodes_in (take k es)) _
    ∙ ap (λ (ns : List Node). before ++ ns)
    (sym (one_entry_more es k
    (omega (arith, c.loop-at-test.true, c.len-at-end.ensures.value)))))))
