-- What lies in a held node lies in a primitive one.
use Rattle.std.proofs.Common.{◌≡◌, ◌⊎◌, inl, inr, ℕ, ℤ, zero, suc, ◌<◌, List, [], ◌∷◌, length, refl, sym, subst, arith}
use Rattle.std.specs.Prelude.{Contains, slice_index_or}
use Rattle.std.proofs.lemmas.Bool.{cases_Bool}
use Rattle.ug_rows.specs.declared.area.Interval.{Interval}
use Rattle.ug_rows.specs.Boxes.{IsInside}
use Rattle.ug_rows.proofs.AreaLemmas.{inside_below}
use Rattle.ug_problem.specs.Instances.{root_of}
use Rattle.ug_nodes.specs.declared.name.Name.{Name}
use Rattle.ug_nodes.specs.declared.node.Node.{Node}
use Rattle.ug_nodes.specs.Lines.{IsAncestor, is_ancestor}
use Rattle.ug_nodes.specs.Nodes.{box_of}
use Rattle.ug_nodes.proofs.LineLemmas.{ancestor_from_test, ancestor_shorter, test_from_ancestor}
use Rattle.ug_ledger.specs.Ledgers.{Ledger}
use Rattle.ug_ledger.specs.Sound.{AreNested}
use Rattle.ug_nodes.specs.Primitive.{IsPrimitive}
use Rattle.ug_ledger.specs.EndLaws.{PrimitiveAreCovered}
use Rattle.ug_ledger.proofs.BoxLemmas.{covered_by}

-- a line is below another or not
below_or_not : (front line : List Name) → IsAncestor front line ⊎ ¬ IsAncestor front line
below_or_not front line = elim (cases_Bool (is_ancestor front line)) [
  | inl is ↦ inl (ancestor_from_test front line is)
  | inr is ↦ inr (λ h. let both = test_from_ancestor front line h in cc)
]

-- an ancestor of the node among these
record Above (nodes : List Node) (n : Node) : Type 0 where
  pub node : Node
  pub there : Contains nodes node
  pub above : IsAncestor node.line n.line

-- a node has one, or none
above_or_none : (nodes : List Node) (n : Node)
    → Above nodes n ⊎ ((a : Node) → Contains nodes a → ¬ IsAncestor a.line n.line)
above_or_none [] n = inr (λ a h. absurd (omega (arith, h.1)))
above_or_none (m ∷ nodes) n = elim (below_or_not m.line n.line) [
  | inl g ↦ inl (record { node = m; there = (0, omega arith, refl); above = g })
  | inr apart ↦ elim (above_or_none nodes n) [
    | inl o ↦ inl (record {
      node = o.node;
      there = (suc o.there.0, omega (arith, o.there.1), o.there.2);
      above = o.above;
    })
    | inr none ↦ inr (λ a h. later apart none a h.0 h.1 h.2)
  ]
]
  where
    later : ¬ IsAncestor m.line n.line
        → ((a : Node) → Contains nodes a → ¬ IsAncestor a.line n.line)
        → (a : Node) (k : ℕ) → k < length (m ∷ nodes) → slice_index_or (m ∷ nodes) k a ≡ a
        → ¬ IsAncestor a.line n.line
    later apart none a zero l e =
        λ g. apart (subst (λ (z : Node). IsAncestor z.line n.line) (sym e) g)
    later apart none a (suc k) l e = none a (k, omega (arith, l), e)

-- a point of a held node lies in a primitive one: by the length of the node's line
up : (root : List Interval) (l : Ledger) → AreNested root l → (k : ℕ) (n : Node)
    → length n.line < k → Contains l.held n → (x : List ℤ) → IsInside (box_of root n) x
    → (m : Node) × IsPrimitive l.held m × IsInside (box_of root m) x
up root l nested zero n short h x inside = absurd (omega (arith, short))
up root l nested (suc k) n short h x inside = elim (above_or_none l.held n) [
  | inr none ↦ (n, record { held = h; first = none }, inside)
  | inl a ↦
      let shorter = ancestor_shorter a.node.line n.line a.above in
      let below = nested a.node n a.there h a.above in
      up root l nested k a.node (omega (arith, short, shorter)) a.there x
      (inside_below (box_of root n) (box_of root a.node) x below inside)
]

pub primitive_covered : PrimitiveAreCovered
primitive_covered p gap best l nodes s all = covered_by p gap best l.held nodes
    (λ n h x b inside.
    let m = up (root_of p) l s.nested (suc (length n.line)) n (omega arith) h x inside in
    record { node = m.0; there = all m.0 m.1; inside = m.2 })
    s.covered
