-- A death that takes in what is held below the rank's node.
use Rattle.std.proofs.Common.{inl, inr, ℕ, ℤ, List, subst}
use Rattle.std.specs.Prelude.{Contains, Option}
use Rattle.ug_rows.specs.declared.area.Interval.{Interval}
use Rattle.ug_rows.specs.Boxes.{IsInside}
use Rattle.ug_rows.proofs.AreaLemmas.{inside_below}
use Rattle.ug_problem.specs.Instances.{Instance, root_of}
use Rattle.ug_problem.specs.Incumbents.{Incumbent}
use Rattle.ug_nodes.specs.declared.node.Node.{Node}
use Rattle.ug_nodes.specs.Lines.{IsAncestor}
use Rattle.ug_nodes.specs.Nodes.{box_of}
use Rattle.ug_nodes.proofs.LineLemmas.{ancestor_not_itself}
use Rattle.ug_ledger.specs.Ledgers.{Current, IsCurrent, Ledger, hand_name}
use Rattle.ug_ledger.specs.Sound.{IsLedger, LosesNone}
use Rattle.ug_ledger.specs.Moves.{HasTakenIn, KeepsWork}
use Rattle.ug_ledger.specs.LedgerLaws.{TakenInIsLedger}
use Rattle.ug_ledger.specs.SoundLaws.{TakenInIsSound}
use Rattle.ug_ledger.proofs.BoxLemmas.{covered_by, moved}
use Rattle.ug_ledger.proofs.LessLemmas.{less_ledger}
use Rattle.ug_ledger.proofs.LineLemmas.{fork}
use Rattle.ug_ledger.proofs.NameLemmas.{one_line}
use Rattle.ug_ledger.proofs.SoundLemmas.{is_ledger, is_sound, loses_none}

taken_in_keeps_work : (old new : Ledger) (r : ℕ) (c : Current) → HasTakenIn old new r c
    → KeepsWork old new
taken_in_keeps_work old new r c m q d h there n hn below = elim (m.tickets q d h) [
  | inl e ↦ absurd (m.gone n hn (subst (λ (k : Node). IsAncestor k.line n.line) e below))
  | inr o ↦ elim o [
    | inl under ↦ absurd (m.gone d.node there under)
    | inr k ↦ k
  ]
]

pub taken_in_ledger : TakenInIsLedger
taken_in_ledger root r c old new m l =
    less_ledger root old new (m.less, taken_in_keeps_work old new r c m) l

module _ (root : List Interval) (old new : Ledger) (r : ℕ) (c : Current)
    (l : IsLedger root old) (m : HasTakenIn old new r c) where
  -- the dead rank's node stays
  node_stays : Contains new.held c.node
  node_stays = elim (m.others c.node (l.ticketed.held r c m.current)) [
    | inl itself ↦ absurd (ancestor_not_itself c.node.line itself)
    | inr k ↦ k
  ]

  -- and has what the nodes below it have
  takes_in : (n : Node) → Contains old.held n → IsAncestor c.node.line n.line → (x : List ℤ)
      → IsInside (box_of root n) x → IsInside (box_of root c.node) x
  takes_in n h below x inside = inside_below (box_of root n) (box_of root c.node) x
      (l.nested c.node n (l.ticketed.held r c m.current) h below) inside

  -- it is below a hand that a node that went was below
  below_too : (q : ℕ) (d : Current) → IsCurrent new q d → (n : Node) → Contains old.held n
      → IsAncestor c.node.line n.line → (i : ℕ) → Contains n.line (hand_name d.ticket i)
      → Contains c.node.line (hand_name d.ticket i)
  below_too q d h n held below i name =
      let was = m.less.current q d h in
      let t = l.ticketed in
      let g = l.handed q d was n held i name in
      elim (fork n.line c.node.line d.node.line (hand_name d.ticket i) below g.on) [
        | inl k ↦ k
        | inr o ↦ elim o [
          | inl e ↦ absurd (m.ended q d h
              (one_line old.held t.named d.node c.node (t.held q d was) (t.held r c m.current) e))
          | inr under ↦ absurd (m.gone d.node (m.less.still q d h) under)
        ]
      ]

module _ (p : Instance) (gap : ℤ) (best : Incumbent) (old new : Ledger) (r : ℕ) (c : Current)
    (l : IsLedger (root_of p) old) (m : HasTakenIn old new r c) where
  -- no point is lost by it
  pub taken_in_lossless : LosesNone p gap best old → LosesNone p gap best new
  taken_in_lossless s =
      let root = root_of p in
      let stays = node_stays root old new r c l m in
      let takes = takes_in root old new r c l m in
      record {
        covered = covered_by p gap best old.held new.held (λ n h x b inside. elim (m.others n h) [
          | inl below ↦ record { node = c.node; there = stays; inside = takes n h below x inside }
          | inr k ↦ record { node = n; there = k; inside = inside }
        ]) s.covered;
        backed = λ q d h i short x b inside.
            let n = s.backed q d (m.less.current q d h) i short x b inside in
            elim (m.others n.node n.there) [
              | inl below ↦ record {
                node = c.node;
                there = stays;
                below = below_too root old new r c l m q d h n.node n.there below i n.below;
                inside = takes n.node n.there below x n.inside;
              }
              | inr k ↦ moved root old.held new.held (hand_name d.ticket i) x n k
            ];
      }

pub taken_in_sound : TakenInIsSound
taken_in_sound p gap best r c old new m s =
    let l = is_ledger p gap best old s in
    is_sound p gap best new (taken_in_ledger (root_of p) r c old new m l)
    (taken_in_lossless p gap best old new r c l m (loses_none p gap best old s))
