-- How a sound ledger begins, what may be saved of it, and what it answers in the end.
use Rattle.std.specs.Prelude.{◌≡◌, ℤ, ◌↔◌, List, [], Contains}
use Rattle.ug_rows.specs.declared.area.Interval.{Interval}
use Rattle.ug_problem.specs.Instances.{Instance, root_of}
use Rattle.ug_problem.specs.Incumbents.{Incumbent}
use Rattle.ug_problem.specs.Better.{Covered}
use Rattle.ug_problem.specs.Right.{Right}
use Rattle.ug_nodes.specs.declared.node.Node.{Node}
use Rattle.ug_ledger.specs.Ledgers.{Ledger, boxes_of}
use Rattle.ug_ledger.specs.Sound.{IsLedger, Sound}
use Rattle.ug_ledger.specs.Starts.{IsStart}
use Rattle.ug_nodes.specs.Primitive.{IsPrimitive}

-- starting nodes are a ledger
abbrev pub StartIsLedger : Type 0
StartIsLedger = (root : List Interval) (l : Ledger) → IsStart l → IsLedger root l

-- a sound one exactly where they are Covered
abbrev pub StartIsSound : Type 0
StartIsSound =
    (p : Instance) (gap : ℤ) (best : Incumbent) (l : Ledger) → IsStart l
    → Sound p gap best l ↔ Covered p gap best (boxes_of (root_of p) l.held)

-- nodes that have each primitive node of a sound ledger are Covered
abbrev pub PrimitiveAreCovered : Type 0
PrimitiveAreCovered =
    (p : Instance) (gap : ℤ) (best : Incumbent) (l : Ledger) (nodes : List Node)
    → Sound p gap best l → ((n : Node) → IsPrimitive l.held n → Contains nodes n)
    → Covered p gap best (boxes_of (root_of p) nodes)

-- if a sound ledger holds nothing, the points kept are a right answer
abbrev pub AnswerIsRight : Type 0
AnswerIsRight =
    (p : Instance) (gap : ℤ) (best : Incumbent) (l : Ledger) → l.held ≡ []
    → Sound p gap best l → Right p gap best
