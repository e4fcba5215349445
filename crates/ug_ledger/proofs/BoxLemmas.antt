-- Which node or which box has a point.
use Rattle.std.proofs.Common.{ℕ, ℤ, zero, suc, ◌<◌, inl, inr, List, [], ◌∷◌, length, refl, sym, subst, arith}
use Rattle.std.specs.Prelude.{Contains, Option}
use Rattle.ug_rows.specs.declared.area.Interval.{Interval}
use Rattle.ug_rows.specs.Boxes.{IsInOne, IsInside, box_at}
use Rattle.ug_problem.specs.Instances.{Instance, root_of}
use Rattle.ug_problem.specs.Incumbents.{Incumbent}
use Rattle.ug_problem.specs.Better.{Better, Covered}
use Rattle.ug_nodes.specs.declared.name.Name.{Name}
use Rattle.ug_nodes.specs.declared.node.Node.{Node}
use Rattle.ug_nodes.specs.Nodes.{box_of}
use Rattle.ug_ledger.specs.Ledgers.{IsInNodeBelow, boxes_of}

-- x lies in the box of one of the nodes
pub record IsInNode (root : List Interval) (nodes : List Node) (x : List ℤ) : Type 0 where
  pub node : Node
  pub there : Contains nodes node
  pub inside : IsInside (box_of root node) x

-- what lies in one of the boxes lies in a node
pub in_node : (root : List Interval) (nodes : List Node) (x : List ℤ)
    → IsInOne (boxes_of root nodes) x → IsInNode root nodes x
in_node root [] x h = absurd h
in_node root (n ∷ nodes) x (inl h) = record { node = n; there = (0, omega arith, refl); inside = h }
in_node root (n ∷ nodes) x (inr h) =
    let m = in_node root nodes x h in
    record {
      node = m.node;
      there = (suc m.there.0, omega (arith, m.there.1), m.there.2);
      inside = m.inside;
    }

-- and the other way round
in_one : (root : List Interval) (nodes : List Node) (n : Node) (x : List ℤ) → Contains nodes n
    → IsInside (box_of root n) x → IsInOne (boxes_of root nodes) x
in_one root [] n x h inside = absurd (omega (arith, h.1))
in_one root (m ∷ nodes) n x (zero, l, e) inside =
    inl (subst (λ k. IsInside (box_of root k) x) (sym e) inside)
in_one root (m ∷ nodes) n x (suc k, l, e) inside =
    inr (in_one root nodes n x (k, omega (arith, l), e) inside)

-- each better point of the nodes' boxes lies in the others
abbrev AreIn : Instance → ℤ → Incumbent → List Node → List Node → Type 0
AreIn p gap best nodes others =
    (n : Node) → Contains nodes n → (x : List ℤ) → Better p gap best x
    → IsInside (box_of (root_of p) n) x → IsInNode (root_of p) others x

-- so these are Covered where the nodes are
pub covered_by : (p : Instance) (gap : ℤ) (best : Incumbent) (nodes others : List Node)
    → AreIn p gap best nodes others → Covered p gap best (boxes_of (root_of p) nodes)
    → Covered p gap best (boxes_of (root_of p) others)
covered_by p gap best nodes others f c = record {
  incumbent = c.incumbent;
  points = λ x b.
      let n = in_node (root_of p) nodes x (c.points x b) in
      let m = f n.node n.there x b n.inside in
      in_one (root_of p) others m.node x m.there m.inside;
}

-- what lies in a node below a name lies in it where the node is held elsewhere
pub moved : (root : List Interval) (nodes others : List Node) (name : Name) (x : List ℤ)
    (n : IsInNodeBelow root nodes name x) → Contains others n.node
    → IsInNodeBelow root others name x
moved root nodes others name x n there =
    record { node = n.node; there = there; below = n.below; inside = n.inside }

-- what lies in one of the boxes lies in box i
pub in_box : (boxes : List (List Interval)) (x : List ℤ) → IsInOne boxes x
    → (i : ℕ) × (i < length boxes) × IsInside (box_at boxes i) x
in_box [] x h = absurd h
in_box (area ∷ boxes) x (inl h) = (0, omega arith, h)
in_box (area ∷ boxes) x (inr h) = let n = in_box boxes x h in (suc n.0, omega (arith, n.1), n.2)
