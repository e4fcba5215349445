-- The rest of an image's bytes from one of its lines on, each list before the next one.
use Rattle.std.specs.Prelude.{ℕ, ℤ, ◌+◌, List, [], ◌∷◌, ◌++◌, length, drop, Option, None, Some}
use Rattle.std.specs.List.{flat_map}
use Rattle.ug_fields.specs.Spelling.{count_field, bound_field, long_field, number_field}
use Rattle.ug_records.specs.Spelling.{record_of}
use Rattle.ug_records.specs.declared.stage.RecordStage.{RecordStage}
use Rattle.ug_records.specs.declared.stage.RecordStage.TheVariants.{Front as RecordFront}
use Rattle.ug_records.specs.Rests.{rest_at as record_from}
use Rattle.ug_image.specs.declared.image.Image.{Image}
use Rattle.ug_image.specs.declared.image.SavedNode.{SavedNode}
use Rattle.ug_image.specs.Images.{node_at}
use Rattle.ug_image.specs.Spelling.{name_fields, change_fields, node_fields}
use Rattle.ug_image.specs.declared.stage.Stage.{Stage}
use Rattle.ug_image.specs.declared.stage.Stage.TheVariants.{Front, Problem, Value, Node, Change}

-- the line before the record
unfoldable pub front_line : ℕ → ℕ → ℕ → List ℕ
front_line run sequence bytes =
    (3 ∷ []) ++ (long_field run ++ (long_field sequence ++ count_field bytes))

-- the line before the nodes
unfoldable pub heard_line : ℕ → ℤ → ℕ → List ℕ
heard_line heard gap nodes =
    long_field heard ++ (number_field gap ++ long_field nodes)

-- the line before the best point's values
unfoldable pub best_head : Option (List ℤ) → List ℕ
best_head None = 0 ∷ []
best_head (Some x) = 1 ∷ count_field (length x)

-- the best point's values
abbrev pub values_of : Option (List ℤ) → List ℤ
values_of None = []
values_of (Some x) = x

-- the line before a node's changes
unfoldable pub node_head : SavedNode → List ℕ
node_head node = name_fields node.name ++ count_field (length node.changes)

-- from node j on
unfoldable pub from_node : Image → ℕ → List ℕ
from_node i j = flat_map node_fields (drop j i.nodes)

-- from change k of node j on
unfoldable pub from_change : Image → ℕ → ℕ → List ℕ
from_change i j k = flat_map change_fields (drop k (node_at i.nodes j).changes)
    ++ from_node i (j + 1)

-- from the number of reports on
unfoldable pub from_heard : Image → List ℕ
from_heard i = heard_line i.heard i.gap (length i.nodes) ++ from_node i 0

-- from value k of the best point on
unfoldable pub from_value : Image → ℕ → List ℕ
from_value i k = flat_map bound_field (drop k (values_of i.best)) ++ from_heard i

-- from the best point on
unfoldable pub from_best : Image → List ℕ
from_best i = best_head i.best ++ from_value i 0

-- from a stage of the problem's record on
unfoldable pub from_problem : Image → RecordStage → List ℕ
from_problem i stage = record_from i.problem stage ++ from_best i

-- all
unfoldable pub from_front : Image → List ℕ
from_front i = front_line i.run i.sequence (length (record_of i.problem))
    ++ from_problem i RecordFront

-- from a stage on
abbrev pub rest_at : Image → Stage → List ℕ
rest_at i Front = from_front i
rest_at i (Problem stage) = from_problem i stage
rest_at i (Value k) = from_value i k
rest_at i (Node j) = from_node i j
rest_at i (Change j k) = from_change i j k
