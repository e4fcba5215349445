-- The image of one moment of a run.
use Rattle.std.specs.Prelude.{◌≡◌, ◌↔◌, ℕ, ◌<◌, ◌^◌, List, length, map, Contains}
use Rattle.std.specs.List.{AllPairs}
use Rattle.ug_rows.specs.declared.area.Interval.{Interval}
use Rattle.ug_problem.specs.Instances.{root_of}
use Rattle.ug_problem.specs.Incumbents.{one_kept}
use Rattle.ug_problem.specs.Better.{Covered}
use Rattle.ug_nodes.specs.declared.node.Node.{Node}
use Rattle.ug_nodes.specs.Names.{own_name}
use Rattle.ug_nodes.specs.Changes.{area_by}
use Rattle.ug_nodes.specs.Primitive.{IsNamedBefore, IsPrimitive}
use Rattle.ug_rules.specs.State.{BookState, held_nodes}
use Rattle.ug_image.specs.declared.image.Image.{Image}
use Rattle.ug_image.specs.declared.image.SavedNode.{SavedNode}
use Rattle.ug_image.specs.Images.{node_at}

-- the saved form of a node: its own name, and its box
abbrev pub saved_of : Node → SavedNode
saved_of n = record { name = own_name n.line; changes = n.changes }

-- the nodes are all primitive nodes of the book, in order of name
pub record ArePrimitive (b : BookState) (nodes : List Node) : Type 0 where
  pub each : (n : Node) → Contains nodes n ↔ IsPrimitive (held_nodes b) n
  pub rising : AllPairs IsNamedBefore nodes

-- the book's problem, run, incumbent, number of reports and gap under this sequence, with these
-- nodes
abbrev pub image_with : BookState → List Node → ℕ → Image
image_with b nodes sequence = record {
  run = b.run;
  sequence = sequence;
  problem = b.problem;
  best = b.best;
  heard = b.heard;
  gap = b.settings.gap;
  nodes = map saved_of nodes;
}

-- the image of a book under this sequence: the names and boxes of its nodes are those of the
-- primitive nodes, in order of name
pub record IsImageOf (b : BookState) (sequence : ℕ) (image : Image) : Type 0 where
  pub nodes : List Node
  pub primitive : ArePrimitive b nodes
  pub is : image ≡ image_with b nodes sequence

-- the boxes of the nodes that were saved
abbrev pub boxes_in : List Interval → List SavedNode → List (List Interval)
boxes_in root nodes = map (λ (node : SavedNode). area_by root node.changes) nodes

-- the image is Covered: under its gap each point better than its incumbent lies in one of its nodes
abbrev pub IsCovered : Image → Type 0
IsCovered image = Covered image.problem image.gap (one_kept image.best)
    (boxes_in (root_of image.problem) image.nodes)

-- the hand numbers are numbers of 64 bits
abbrev pub HaveHands : List SavedNode → Type 0
HaveHands nodes = (k : ℕ) → k < length nodes → (node_at nodes k).name.hand < 2 ^ 64

-- the numbers of the image are numbers of 64 bits
pub record HasNumbers (image : Image) : Type 0 where
  pub run : image.run < 2 ^ 64
  pub sequence : image.sequence < 2 ^ 64
  pub heard : image.heard < 2 ^ 64
  pub count : length image.nodes < 2 ^ 64
