use Rattle.std.proofs.Common.{◌≡◌, ◌-◌, ◌+◌}
use Rattle.ug_fields.specs.Reading.{many_at}
use Rattle.ug_fields.proofs.Loops.{with_front}
use Rattle.ug_image.specs.declared.image.SavedNode.{SavedNode}
use Rattle.ug_image.specs.Reading.{starting_at, bare_at}
use Rattle.ug_image.proofs.nodes.bare_at.Given as goal

abbrev pub invariant-loop-k : goal.invariant-loop-k
invariant-loop-k l =
    with_front l.nodes (many_at (starting_at l.run l.root) (λ k (node : SavedNode). k + 1)
    (l.count - l.k) l.k l.rest)
    ≡ bare_at l.run l.root l.count l.bytes
