-- The lines of a checkpoint.
use Rattle.std.specs.Prelude.{◌≡◌, ℕ, pos, ◌+◌, ◌<◌, List, [], ◌++◌, ◌∷◌, length, slice_index_or}
use Rattle.std.specs.Prelude.{codes}
use Rattle.std.specs.Fmt.{decimal, signed_decimal}
use Rattle.ug_problem.specs.declared.column.Column.{Column}
use Rattle.ug_nodes.specs.declared.change.Change.{Change}
use Rattle.ug_nodes.specs.Changes.{change_at}
use Rattle.ug_image.specs.declared.image.Image.{Image}
use Rattle.ug_image.specs.declared.image.SavedNode.{SavedNode}
use Rattle.ug_image.specs.Images.{node_at}
use Rattle.ug_print.specs.Lines.{line, further, named_line}
use Rattle.ug_print.specs.Limited.{IsBestWord}

-- a column that stands for one that is not there
abbrev pub no_column : Column
no_column = record { name = []; low = pos 0; high = pos 0 }

-- column k
abbrev pub column_at : List Column → ℕ → Column
column_at columns k = slice_index_or columns k no_column

-- the column's name and the bounds of the change
abbrev pub change_words : Column → Change → List ℕ
change_words column change = further column.name ++ further (signed_decimal change.low)
    ++ further (signed_decimal change.high)

-- the words of each change, in order
abbrev pub all_change_words : List Column → List Change → List ℕ
all_change_words columns [] = []
all_change_words columns (change ∷ changes) =
    change_words (column_at columns change.column) change ++ all_change_words columns changes

-- the line of a node: its place, the two numbers of its name, and its changes
abbrev pub node_line : List Column → ℕ → SavedNode → List ℕ
node_line columns place node = line (codes "node" ++ further (decimal place)
    ++ further (decimal node.name.ticket.number) ++ further (decimal node.name.hand)
    ++ all_change_words columns node.changes)

-- the lines of the nodes, the first of which has this place
abbrev pub node_lines : List Column → ℕ → List SavedNode → List ℕ
node_lines columns place [] = []
node_lines columns place (node ∷ nodes) =
    node_line columns place node ++ node_lines columns (place + 1) nodes

-- the lines of the whole, with the value of the best point as this word
abbrev pub head_lines : Image → List ℕ → List ℕ
head_lines image best =
    named_line (codes "run") (decimal image.run)
    ++ named_line (codes "sequence") (decimal image.sequence)
    ++ named_line (codes "best") best
    ++ named_line (codes "heard") (decimal image.heard)
    ++ named_line (codes "gap") (signed_decimal image.gap)
    ++ named_line (codes "nodes") (decimal (length image.nodes))

-- the lines of a checkpoint: what is said of the whole, and of each node
pub record AreCheckpointLines (image : Image) (text : List ℕ) : Type 0 where
  pub best : List ℕ
  pub value : IsBestWord image.problem image.best best
  pub is : text ≡ head_lines image best ++ node_lines image.problem.columns 0 image.nodes

-- each change is of a column that is there
abbrev pub AreWithin : List Column → List Change → Type 0
AreWithin columns changes =
    (k : ℕ) → k < length changes → (change_at changes k).column < length columns

-- so is each change of each node
abbrev pub AreNodesWithin : List Column → List SavedNode → Type 0
AreNodesWithin columns nodes =
    (k : ℕ) → k < length nodes → AreWithin columns (node_at nodes k).changes
