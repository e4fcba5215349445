-- The law of schedules: whatever happens, no better point is lost.
use Rattle.std.specs.Prelude.{◌≡◌, List, length, All, Contains}
use Rattle.ug_problem.specs.Instances.{root_of}
use Rattle.ug_problem.specs.Incumbents.{one_kept}
use Rattle.ug_problem.specs.Better.{Covered}
use Rattle.ug_nodes.specs.declared.node.Node.{Node}
use Rattle.ug_nodes.specs.Primitive.{IsPrimitive}
use Rattle.ug_ledger.specs.Ledgers.{boxes_of}
use Rattle.ug_frames.specs.declared.report.Report.{Report}
use Rattle.ug_rules.specs.State.{BookState, held_nodes}
use Rattle.ug_rules.specs.Books.{IsBook, IsSoundBook}
use Rattle.ug_laws.specs.declared.event.Event.{Event}
use Rattle.ug_laws.specs.Events.{IsEvent}
use Rattle.ug_laws.specs.Worlds.{IsTrace, World, opening}
use Rattle.ug_laws.specs.Honest.{IsHonest}

-- nodes that have each primitive node held are Covered: each better point lies in one of them
abbrev pub IsCoveredByPrimitive : BookState → Type 0
IsCoveredByPrimitive b =
    (nodes : List Node) → ((n : Node) → IsPrimitive (held_nodes b) n → Contains nodes n)
    → Covered b.problem b.settings.gap (one_kept b.best) (boxes_of (root_of b.problem) nodes)

-- no better point is lost: the book is sound, and its primitive nodes are Covered
pub record LosesNothing (b : BookState) : Type 0 where
  pub sound : IsSoundBook b
  pub covered : IsCoveredByPrimitive b

-- from a sound book that has given no ticket, and whatever was sent earlier: after each event of
-- each list, as long as solvers are honest, no better point is lost
abbrev pub HonestLoseNothing : Type 0
HonestLoseNothing =
    (b : BookState) (earlier : List Report) (events : List Event) (trace : List World)
    → IsBook b → IsSoundBook b → b.last ≡ 0
    → All (IsEvent (length b.ranks)) events
    → IsTrace (opening b earlier) events trace
    → All IsHonest trace → All (λ (w : World). LosesNothing w.book) trace
