-- What a Done claims of its ticket, and when that is enough.
use Rattle.std.specs.Prelude.{ℤ, ◌≤ℤ◌, List, Option, IfSome, IsSomeAnd}
use Rattle.ug_rows.specs.Boxes.{IsInOne, IsInside}
use Rattle.ug_problem.specs.Instances.{Instance, root_of}
use Rattle.ug_problem.specs.Incumbents.{Incumbent}
use Rattle.ug_problem.specs.Better.{Better, IsGood, best_cutoff}
use Rattle.ug_nodes.specs.Nodes.{box_of}
use Rattle.ug_ledger.specs.Ledgers.{Current}

-- a Done with this cutoff is true: each better point of the ticket's box with a value below the
-- cutoff, if there is one, is in a box taken
abbrev pub IsTrueDone : Instance → ℤ → Incumbent → Option ℤ → Current → Type 0
IsTrueDone p gap best cutoff c =
    (x : List ℤ) → Better p gap best x → IsGood p cutoff x
    → IsInside (box_of (root_of p) c.node) x → IsInOne c.taken x

-- the cutoff, if there is one, is at least that of the point, which is there
abbrev pub IsBackedBy : Instance → ℤ → Option (List ℤ) → Option ℤ → Type 0
IsBackedBy p gap point cutoff =
    IfSome cutoff (λ v. IsSomeAnd (best_cutoff p gap point) (λ least. least ≤ℤ v))

-- each better point of the ticket's box is in a box taken
abbrev pub IsSearched : Instance → ℤ → Incumbent → Current → Type 0
IsSearched p gap best c =
    (x : List ℤ) → Better p gap best x → IsInside (box_of (root_of p) c.node) x → IsInOne c.taken x
