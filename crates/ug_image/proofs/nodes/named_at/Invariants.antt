use Rattle.std.proofs.Common.{◌≡◌, ◌-◌, Some}
use Rattle.ug_fields.specs.Reading.{many_at}
use Rattle.ug_fields.proofs.Loops.{with_front}
use Rattle.ug_image.specs.declared.image.SavedNode.{SavedNode}
use Rattle.ug_image.specs.Reading.{node_at, named_at}
use Rattle.ug_image.proofs.nodes.named_at.Given as goal

abbrev pub invariant-loop : goal.invariant-loop
invariant-loop l =
    with_front l.nodes (many_at (node_at l.run l.root) (λ last (node : SavedNode). Some node.name)
    (l.count - l.counter) l.last l.rest)
    ≡ named_at l.run l.root l.count l.bytes
