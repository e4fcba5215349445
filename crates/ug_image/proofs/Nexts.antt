-- Each line of an image is the front of what is to come.
use Rattle.std.proofs.Common.{◌≡◌, ℕ, ℤ, ◌+◌, ◌<◌, ◌≤◌, Bool, true, false, List, [], ◌∷◌, ◌++◌, length, drop, get_or, Option, None, Some, append_assoc, refl, sym, ◌∙◌, ap, arith}
use Rattle.std.specs.Prelude.{◌==◌}
use Rattle.std.specs.List.{flat_map}
use Rattle.std.proofs.lemmas.Bool.{eqb-true}
use Rattle.std.proofs.lemmas.List.{append-nil, drop_all, get_or_past, length-append}
use Rattle.ug_problem.specs.Instances.{Instance}
use Rattle.ug_nodes.specs.declared.change.Change.{Change}
use Rattle.ug_fields.specs.Lines.{IsNextLine}
use Rattle.ug_fields.specs.Spelling.{count_field, bound_field, long_field}
use Rattle.ug_fields.proofs.Parts.{nothing}
use Rattle.ug_fields.proofs.Nexts.{put_next, same_next, none_next, item, past, over, here, own, lent, past_next, place_next}
use Rattle.ug_records.specs.declared.stage.RecordStage.{RecordStage}
use Rattle.ug_records.specs.declared.stage.RecordStage.TheVariants.{Front as RecordFront}
use Rattle.ug_records.specs.Spelling.{record_of}
use Rattle.ug_records.specs.Rests.{rest_at as record_from}
use Rattle.ug_image.specs.declared.image.Image.{Image}
use Rattle.ug_image.specs.declared.image.SavedNode.{SavedNode}
use Rattle.ug_image.specs.Images.{no_node}
use Rattle.ug_image.specs.Spelling.{name_fields, change_fields, changes_fields, node_fields}
use Rattle.ug_image.specs.Rests.{front_line, heard_line, best_head, node_head, values_of, from_front, from_problem, from_best, from_value, from_heard, from_node, from_change}

-- ---- nodes

none_left : (i : Image) (j : ℕ) → length i.nodes ≤ j → from_node i j ≡ []
unfolding from_node
none_left i j end = ap (flat_map node_fields) (drop_all j i.nodes end)

pub node_past : (i : Image) (j : ℕ) (nodes : List SavedNode) (line : List ℕ) → nodes ≡ i.nodes
    → length nodes ≤ j → line ≡ [] → IsNextLine (from_node i j) line (from_node i j)
node_past i j nodes line same end empty =
    let none = none_left i j (over nodes i.nodes same j end) in
    none_next (from_node i j) line (from_node i j) empty none none

node_front : (n : SavedNode) (behind : List ℕ)
    → node_fields n ++ behind ≡ node_head n ++ (flat_map change_fields n.changes ++ behind)
unfolding node_fields node_head changes_fields
node_front n behind =
    let names = name_fields n.name in
    let count = count_field (length n.changes) in
    let changes = flat_map change_fields n.changes in
    append_assoc names (count ++ changes) behind
    ∙ ap (λ t. names ++ t) (append_assoc count changes behind)
    ∙ sym (append_assoc names count (changes ++ behind))

head_some : (n : SavedNode) → 0 < length (node_head n)
unfolding node_head count_field
head_some n = omega (arith, length-append (name_fields n.name) (count_field (length n.changes)))

pub node_next : (i : Image) (j : ℕ) (nodes : List SavedNode) (n : SavedNode) (line : List ℕ)
    → nodes ≡ i.nodes → j < length nodes → n ≡ get_or nodes j n → line ≡ node_head n
    → IsNextLine (from_node i j) line (from_change i j 0)
unfolding from_node from_change
node_next i j nodes n line same there is spelled =
    put_next (from_node i j) (node_head n) line (from_change i j 0) spelled
    (sym (append-nil (flat_map node_fields (drop j i.nodes)))
    ∙ item node_fields i.nodes j n [] (here nodes i.nodes same j there)
    (own nodes i.nodes same j n is)
    ∙ ap (λ t. node_fields n ++ t) (append-nil (flat_map node_fields (drop (j + 1) i.nodes)))
    ∙ node_front n (flat_map node_fields (drop (j + 1) i.nodes))
    ∙ ap (λ (m : SavedNode). node_head n ++ (flat_map change_fields m.changes
    ++ flat_map node_fields (drop (j + 1) i.nodes))) (lent nodes i.nodes same j n no_node there is))
    (head_some n)

-- behind all nodes there are no changes
pub change_past_nodes : (i : Image) (j k : ℕ) (nodes : List SavedNode) (line : List ℕ)
    → nodes ≡ i.nodes → length nodes ≤ j → line ≡ []
    → IsNextLine (from_change i j k) line (from_node i j)
unfolding from_change
change_past_nodes i j k nodes line same end empty =
    let past_all = over nodes i.nodes same j end in
    none_next (from_change i j k) line (from_node i j) empty
    (ap (λ (m : SavedNode). flat_map change_fields (drop k m.changes) ++ from_node i (j + 1))
    (get_or_past i.nodes j no_node past_all)
    ∙ past change_fields [] k (from_node i (j + 1)) (omega arith)
    ∙ none_left i (j + 1) (omega (arith, past_all)))
    (none_left i j past_all)

changes_are : (i : Image) (j : ℕ) (nodes : List SavedNode) (n : SavedNode) (changes : List Change)
    → nodes ≡ i.nodes → j < length nodes → n ≡ get_or nodes j n → changes ≡ n.changes
    → changes ≡ (get_or i.nodes j no_node).changes
changes_are i j nodes n changes same there is list =
    list ∙ ap (λ (m : SavedNode). m.changes) (lent nodes i.nodes same j n no_node there is)

pub change_past : (i : Image) (j k : ℕ) (nodes : List SavedNode) (n : SavedNode)
    (changes : List Change) (line after : List ℕ)
    → nodes ≡ i.nodes → j < length nodes → n ≡ get_or nodes j n → changes ≡ n.changes
    → length changes ≤ k → IsNextLine (from_node i (j + 1)) line after
    → IsNextLine (from_change i j k) line after
unfolding from_change
change_past i j k nodes n changes line after same there is list end next =
    past_next change_fields changes (get_or i.nodes j no_node).changes
    (changes_are i j nodes n changes same there is list) k (from_node i (j + 1)) line after end next

pub change_next : (i : Image) (j k : ℕ) (nodes : List SavedNode) (n : SavedNode)
    (changes : List Change) (d : Change) (line : List ℕ)
    → nodes ≡ i.nodes → j < length nodes → n ≡ get_or nodes j n → changes ≡ n.changes
    → k < length changes → line ≡ change_fields (get_or changes k d)
    → IsNextLine (from_change i j k) line (from_change i j (k + 1))
unfolding from_change count_field
change_next i j k nodes n changes d line same there is list inside spelled =
    place_next change_fields changes (get_or i.nodes j no_node).changes
    (changes_are i j nodes n changes same there is list) k (from_node i (j + 1)) line d inside
    spelled (omega arith)

-- ---- the best point

pub heard_next : (i : Image) (line : List ℕ)
    → line ≡ heard_line i.heard i.gap (length i.nodes)
    → IsNextLine (from_heard i) line (from_node i 0)
unfolding from_heard heard_line long_field
heard_next i line same =
    put_next (from_heard i) (heard_line i.heard i.gap (length i.nodes)) line
    (from_node i 0) same refl (omega arith)

pub value_past : (i : Image) (k : ℕ) (values : List ℤ) (line after : List ℕ)
    → values ≡ values_of i.best → length values ≤ k → IsNextLine (from_heard i) line after
    → IsNextLine (from_value i k) line after
unfolding from_value
value_past i k values line after same end next =
    past_next bound_field values (values_of i.best) same k (from_heard i) line after end next

pub value_next : (i : Image) (k : ℕ) (values : List ℤ) (d : ℤ) (line : List ℕ)
    → values ≡ values_of i.best → k < length values → line ≡ bound_field (get_or values k d)
    → IsNextLine (from_value i k) line (from_value i (k + 1))
unfolding from_value bound_field
value_next i k values d line same there spelled =
    place_next bound_field values (values_of i.best) same k (from_heard i) line d there spelled
    (omega arith)

best_some : (b : Option (List ℤ)) → 0 < length (best_head b)
unfolding best_head
best_some None = omega arith
best_some (Some x) = omega arith

pub best_next : (i : Image) (line : List ℕ) → line ≡ best_head i.best
    → IsNextLine (from_best i) line (from_value i 0)
unfolding from_best
best_next i line same =
    put_next (from_best i) (best_head i.best) line (from_value i 0) same refl (best_some i.best)

-- ---- the problem

module _ (i : Image) (p : Instance) (is : p ≡ i.problem) (stage next : RecordStage)
    (line : List ℕ) (one : IsNextLine (record_from p stage) line (record_from p next)) where
  parts_of : from_problem i stage ≡ line ++ from_problem i next
  unfolding from_problem
  parts_of = ap (λ (q : Instance). record_from q stage ++ from_best i) (sym is)
      ∙ ap (λ r. r ++ from_best i) one.parts
      ∙ append_assoc line (record_from p next) (from_best i)
      ∙ ap (λ (q : Instance). line ++ (record_from q next ++ from_best i)) is

  -- a line of its record
  pub problem_next : 0 < length line → IsNextLine (from_problem i stage) line (from_problem i next)
  problem_next some =
      put_next (from_problem i stage) line line (from_problem i next) refl parts_of some

  -- behind its record comes the best point
  pub problem_past : (other after : List ℕ) → line ≡ [] → IsNextLine (from_best i) other after
      → IsNextLine (from_problem i stage) other after
  unfolding from_problem
  problem_past other after empty best =
      same_next (from_problem i stage) (from_best i) other after
      (ap (λ (q : Instance). record_from q stage ++ from_best i) (sym is)
      ∙ ap (λ r. r ++ from_best i)
      (one.parts ∙ (λ k. empty k ++ one.last empty k))) best

-- what a look at a line says
pub is_emptied : (seen line : List ℕ) (b : Bool) → b ≡ (length seen == 0) → seen ≡ line → b ≡ true
    → line ≡ []
is_emptied seen line b test same e =
    nothing line (ap length (sym same) ∙ eqb-true _ _ (sym test ∙ e))

pub has_some : (seen line : List ℕ) (b : Bool) → b ≡ (length seen == 0) → seen ≡ line → b ≡ false
    → 0 < length line
has_some seen [] b test same e =
    let none : b ≡ true = test ∙ ap (λ (bytes : List ℕ). length bytes == 0) same in
    absurd (cc (none, e))
has_some seen (x ∷ line) b test same e = omega arith

pub front_next : (i : Image) (line : List ℕ)
    → line ≡ front_line i.run i.sequence (length (record_of i.problem))
    → IsNextLine (from_front i) line (from_problem i RecordFront)
unfolding from_front front_line
front_next i line same =
    put_next (from_front i) (front_line i.run i.sequence (length (record_of i.problem))) line
    (from_problem i RecordFront) same refl (omega arith)
