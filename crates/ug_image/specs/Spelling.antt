-- The bytes of an image, field by field, in each version.
use Rattle.std.specs.Prelude.{◌≡◌, ℕ, ℤ, pos, ◌≤◌, ◌<◌, List, [], ◌∷◌, ◌++◌, length, nat_lt, Option}
use Rattle.std.specs.Prelude.{if◌then◌else◌}
use Rattle.std.specs.List.{flat_map}
use Rattle.ug_problem.specs.Instances.{Instance}
use Rattle.ug_nodes.specs.declared.name.Name.{Name}
use Rattle.ug_nodes.specs.declared.change.Change.{Change}
use Rattle.ug_fields.specs.Spelling.{count_field, bound_field, long_field, number_field}
use Rattle.ug_fields.specs.Spelling.{flagged_field}
use Rattle.ug_records.specs.Spelling.{record_of}
use Rattle.ug_image.specs.declared.image.SavedNode.{SavedNode}
use Rattle.ug_image.specs.declared.image.Image.{Image}
use Rattle.ug_image.specs.Images.{IsImage, node_at}

-- a problem: how long its record is, and the record
unfoldable pub problem_fields : Instance → List ℕ
problem_fields p = count_field (length (record_of p)) ++ record_of p

-- a point: how many values it has, and each
unfoldable pub point_fields : List ℤ → List ℕ
point_fields x = count_field (length x) ++ flat_map bound_field x

-- the best point, where there is one
abbrev pub best_fields : Option (List ℤ) → List ℕ
best_fields best = flagged_field point_fields best

-- a change: its column and its bounds
abbrev pub change_fields : Change → List ℕ
change_fields c = count_field c.column ++ bound_field c.low ++ bound_field c.high

-- changes: how many there are, and each
unfoldable pub changes_fields : List Change → List ℕ
changes_fields changes = count_field (length changes) ++ flat_map change_fields changes

-- a name: the number of its ticket, whose run is the image's, and its hand number
abbrev pub name_fields : Name → List ℕ
name_fields name = long_field name.ticket.number ++ long_field name.hand

-- a node: its name and its changes
unfoldable pub node_fields : SavedNode → List ℕ
node_fields node = name_fields node.name ++ changes_fields node.changes

-- a node of version 1: its changes alone
abbrev pub bare_node_fields : SavedNode → List ℕ
bare_node_fields node = changes_fields node.changes

-- the nodes of a version: from 2 on they have names
unfoldable pub nodes_fields : ℕ → List SavedNode → List ℕ
nodes_fields version nodes =
    if nat_lt 1 version then flat_map node_fields nodes else flat_map bare_node_fields nodes

-- how many reports were received, which is there from version 2 on
unfoldable pub heard_field : ℕ → ℕ → List ℕ
heard_field version heard =
    if nat_lt 1 version then long_field heard else []

-- the gap, which is there from version 3 on
unfoldable pub gap_field : ℕ → ℤ → List ℕ
gap_field version gap = if nat_lt 2 version then number_field gap else []

-- the image in a version
abbrev pub spelled_in : ℕ → Image → List ℕ
spelled_in version image = (version ∷ []) ++ long_field image.run ++ long_field image.sequence
    ++ problem_fields image.problem ++ best_fields image.best
    ++ heard_field version image.heard ++ gap_field version image.gap
    ++ long_field (length image.nodes) ++ nodes_fields version image.nodes

-- the image as every save writes it
abbrev pub spelled : Image → List ℕ
spelled image = spelled_in 3 image

-- node I, counted from 0, has the name of starting node I of the run
abbrev pub AreStarting : ℕ → List SavedNode → Type 0
AreStarting run nodes = (k : ℕ) → k < length nodes → (node_at nodes k).name
    ≡ record { ticket = record { run = run; number = 0 }; hand = k }

-- What the image must be for the version to say all of it: version 2 has no gap; version 1 has no
-- gap, no number of reports and no names, whose nodes are the starting ones.
pub record IsOfVersion (version : ℕ) (image : Image) : Type 0 where
  pub least : 1 ≤ version
  pub most : version ≤ 3
  pub gap : version ≤ 2 → image.gap ≡ pos 0
  pub heard : version ≤ 1 → image.heard ≡ 0
  pub starting : version ≤ 1 → AreStarting image.run image.nodes

-- the bytes spell the image in some version
pub record Spell (bytes : List ℕ) (image : Image) : Type 0 where
  pub is : IsImage image
  pub version : ℕ
  pub says : IsOfVersion version image
  pub spelling : bytes ≡ spelled_in version image
