use Rattle.ug_serve.specs.Actions.{Stage}
use Rattle.ug_serve.specs.Serving.{IsOpen, stands_as}
use Rattle.ug_serve.proofs.wire.Wire.next.Given as goal

abbrev pub invariant-loop : goal.invariant-loop
invariant-loop g l = record {
  stands : (stage : Stage) → IsOpen stage
      → stands_as l.initial.self.end (g.L.Link.seen l.initial.self.link) l.initial.self.orders stage
      → stands_as l.self.end (g.L.Link.seen l.self.link) l.self.orders stage;
}
