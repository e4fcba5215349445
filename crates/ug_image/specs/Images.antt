-- The saved state of a run, and the invariant of every image.
use Rattle.std.specs.Prelude.{◌≡◌, ℕ, suc, ◌<◌, ◌≤◌, ◌^◌, List, [], length, slice_index_or, IfSome}
use Rattle.ug_rows.specs.declared.area.Interval.{Interval}
use Rattle.ug_problem.specs.Instances.{root_of}
use Rattle.ug_problem.specs.Limits.{IsProblem}
use Rattle.ug_problem.specs.Feasible.{Feasible}
use Rattle.ug_problem.specs.Better.{IsGap}
use Rattle.ug_nodes.specs.Names.{IsNameBefore, no_name}
use Rattle.ug_nodes.specs.Changes.{AreChangesOf, IsRising}
use Rattle.ug_image.specs.declared.image.SavedNode.{SavedNode}
use Rattle.ug_image.specs.declared.image.Image.{Image}

-- a node that stands for one that is not there
abbrev pub no_node : SavedNode
no_node = record { name = no_name; changes = [] }

-- node k
abbrev pub node_at : List SavedNode → ℕ → SavedNode
node_at nodes k = slice_index_or nodes k no_node

-- the node is named by a ticket of the run, and its changes are those of a box below the root
pub record IsSavedNode (run : ℕ) (root : List Interval) (node : SavedNode) : Type 0 where
  pub of_run : node.name.ticket.run ≡ run
  pub number : node.name.ticket.number < 2 ^ 64
  pub hand : node.name.hand < 2 ^ 64
  pub rising : IsRising node.changes
  pub changes : AreChangesOf root node.changes

-- each of the nodes is one
abbrev pub AreSavedNodes : ℕ → List Interval → List SavedNode → Type 0
AreSavedNodes run root nodes =
    (k : ℕ) → k < length nodes → IsSavedNode run root (node_at nodes k)

-- each name is above the one before it
abbrev pub DoNamesRise : List SavedNode → Type 0
DoNamesRise nodes = (k : ℕ) → suc k < length nodes
    → IsNameBefore (node_at nodes k).name (node_at nodes (suc k)).name

-- What every image is: its run and its sequence are at least 1, its best point, if any, is
-- feasible, and its nodes are those of the run, in order of name.
pub record IsImage (image : Image) : Type 0 where
  pub run : 1 ≤ image.run
  pub run_fits : image.run < 2 ^ 64
  pub sequence : 1 ≤ image.sequence
  pub sequence_fits : image.sequence < 2 ^ 64
  pub problem : IsProblem image.problem
  pub best : IfSome image.best (Feasible image.problem)
  pub heard : image.heard < 2 ^ 64
  pub gap : IsGap image.gap
  pub count : length image.nodes < 2 ^ 64
  pub nodes : AreSavedNodes image.run (root_of image.problem) image.nodes
  pub names : DoNamesRise image.nodes
