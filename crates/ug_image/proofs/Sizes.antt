-- How many bytes the fields of an image have.
use Rattle.std.proofs.Common.{◌≡◌, ℕ, ℤ, ◌+◌, ◌*◌, ◌-◌, ◌^◌, List, [], ◌∷◌, ◌++◌, length, Some, refl, sym, ◌∙◌, ap, arith}
use Rattle.std.specs.Prelude.{min}
use Rattle.std.specs.List.{flat_map}
use Rattle.std.proofs.lemmas.List.{length-append}
use Rattle.ug_problem.specs.Instances.{Instance}
use Rattle.ug_nodes.specs.declared.change.Change.{Change}
use Rattle.ug_fields.specs.Spelling.{count_field, bound_field, long_field}
use Rattle.ug_fields.proofs.Simple.{count_long, bound_long, long_long, number_long}
use Rattle.ug_records.specs.Lengths.{capped}
use Rattle.ug_records.specs.Spelling.{record_of}
use Rattle.ug_records.proofs.Sizes.{plus}
use Rattle.ug_image.specs.declared.image.Image.{Image}
use Rattle.ug_image.specs.declared.image.SavedNode.{SavedNode}
use Rattle.ug_image.specs.Spelling.{problem_fields, point_fields, best_fields, change_fields, changes_fields, name_fields, node_fields, nodes_fields, heard_field, gap_field, spelled}

abbrev most : ℕ
most = 2 ^ 64 - 1

-- ---- fields

values_long : (x : List ℤ) → length (flat_map bound_field x) ≡ 4 * length x
values_long [] = refl
values_long (v ∷ x) = omega (
  arith,
  length-append (bound_field v) (flat_map bound_field x),
  bound_long v,
  values_long x,
)

point_long : (x : List ℤ) → length (point_fields x) ≡ 4 + 4 * length x
unfolding point_fields
point_long x = omega (
  arith,
  length-append (count_field (length x)) (flat_map bound_field x),
  count_long (length x),
  values_long x,
)

changes_long : (changes : List Change)
    → length (flat_map change_fields changes) ≡ 12 * length changes
changes_long [] = refl
changes_long (c ∷ changes) = omega (
  arith,
  length-append (change_fields c) (flat_map change_fields changes),
  length-append (count_field c.column ++ bound_field c.low) (bound_field c.high),
  length-append (count_field c.column) (bound_field c.low),
  count_long c.column,
  bound_long c.low,
  bound_long c.high,
  changes_long changes,
)

node_long : (node : SavedNode) → length (node_fields node) ≡ 20 + 12 * length node.changes
unfolding node_fields changes_fields
node_long node = omega (
  arith,
  length-append (name_fields node.name) (count_field (length node.changes)
      ++ flat_map change_fields node.changes),
  length-append (long_field node.name.ticket.number) (long_field node.name.hand),
  length-append (count_field (length node.changes)) (flat_map change_fields node.changes),
  long_long node.name.ticket.number,
  long_long node.name.hand,
  count_long (length node.changes),
  changes_long node.changes,
)

version_3 : (i : Image) → length (heard_field 3 i.heard) + length (gap_field 3 i.gap)
    ≡ 24
unfolding heard_field gap_field
version_3 i = omega (arith, long_long i.heard, number_long i.gap)

nodes_3 : (nodes : List SavedNode) → nodes_fields 3 nodes ≡ flat_map node_fields nodes
unfolding nodes_fields
nodes_3 nodes = refl

problem_long : (p : Instance) → length (problem_fields p) ≡ 4 + length (record_of p)
unfolding problem_fields
problem_long p = omega (
  arith,
  length-append (count_field (length (record_of p))) (record_of p),
  count_long (length (record_of p)),
)

image_long : (i : Image) → length (spelled i) ≡ 21 + length (record_of i.problem)
    + length (best_fields i.best) + 32 + length (flat_map node_fields i.nodes)
image_long i =
    let v : List ℕ = 3 ∷ [] in
    let run = long_field i.run in
    let sequence = long_field i.sequence in
    let problem = problem_fields i.problem in
    let best = best_fields i.best in
    let heard = heard_field 3 i.heard in
    let gap = gap_field 3 i.gap in
    let count = long_field (length i.nodes) in
    omega (
      arith,
      length-append (v ++ run ++ sequence ++ problem ++ best ++ heard ++ gap ++ count)
          (nodes_fields 3 i.nodes),
      length-append (v ++ run ++ sequence ++ problem ++ best ++ heard ++ gap) count,
      length-append (v ++ run ++ sequence ++ problem ++ best ++ heard) gap,
      length-append (v ++ run ++ sequence ++ problem ++ best) heard,
      length-append (v ++ run ++ sequence ++ problem) best,
      length-append (v ++ run ++ sequence) problem,
      length-append (v ++ run) sequence,
      length-append v run,
      long_long i.run,
      long_long i.sequence,
      long_long (length i.nodes),
      version_3 i,
      problem_long i.problem,
      ap length (nodes_3 i.nodes),
    )

-- ---- sums that stop at the greatest number

pub image_sum : (i : Image) → length (spelled i) ≡ 21 + length (record_of i.problem)
    + (length (best_fields i.best) + 32) + length (flat_map node_fields i.nodes)
image_sum i = omega (arith, image_long i)

pub one_node : (n : SavedNode) → min (min (length n.changes * 12) most + 20) most
    ≡ capped (length (node_fields n))
one_node n = grind (arith, node_long n)

pub node_sum : (front : List ℕ) (n : SavedNode)
    → min (capped (length front) + capped (length (node_fields n))) most
    ≡ capped (length (front ++ node_fields n))
node_sum front n =
    plus (length front) (length (node_fields n)) most
    ∙ ap capped (sym (length-append front (node_fields n)))

pub some_best : (x : List ℤ) → min (min (length x * 4) most + 5) most
    ≡ capped (length (best_fields (Some x)))
some_best x = grind (arith, point_long x)
