-- The words of the changes, and the lines of the nodes, from one on.
use Rattle.std.proofs.Common.{◌≡◌, ℕ, ◌+◌, ◌<◌, List, ◌++◌, length, get_or, drop, refl, ◌∙◌, sym, subst}
use Rattle.std.proofs.lemmas.List.{drop_more, get_or_default}
use Rattle.ug_problem.specs.declared.column.Column.{Column}
use Rattle.ug_nodes.specs.declared.change.Change.{Change}
use Rattle.ug_image.specs.declared.image.SavedNode.{SavedNode}
use Rattle.ug_image.specs.Images.{no_node}
use Rattle.ug_print.specs.Checkpoints.{change_words, all_change_words, column_at, node_line, node_lines, AreWithin, AreNodesWithin}

-- the words of change i come first
pub changes_more : (columns : List Column) (changes : List Change) (i : ℕ) (d : Change)
    → i < length changes
    → all_change_words columns (drop i changes)
    ≡ change_words (column_at columns (get_or changes i d).column) (get_or changes i d)
    ++ all_change_words columns (drop (i + 1) changes)
changes_more columns changes i d h = rw (drop_more changes i d h) refl

-- the line of node i comes first
pub nodes_more : (columns : List Column) (nodes : List SavedNode) (i : ℕ) (d : SavedNode)
    → i < length nodes
    → node_lines columns i (drop i nodes)
    ≡ node_line columns i (get_or nodes i d) ++ node_lines columns (i + 1) (drop (i + 1) nodes)
nodes_more columns nodes i d h = rw (drop_more nodes i d h) refl

-- the changes of node i, which is this one, are of columns that are there
pub node_within : (columns : List Column) (nodes : List SavedNode) (i : ℕ) (node : SavedNode)
    → AreNodesWithin columns nodes → i < length nodes → node ≡ get_or nodes i node
    → AreWithin columns node.changes
node_within columns nodes i node all here is =
    subst (λ (n : SavedNode). AreWithin columns n.changes)
    (get_or_default nodes i no_node node here ∙ sym is) (all i here)
