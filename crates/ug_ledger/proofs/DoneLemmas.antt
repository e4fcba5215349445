-- A node that was worked off, and what its Done reports.
use Rattle.std.proofs.Common.{inl, inr, ℕ, ℤ, ◌≤ℤ◌, ◌<ℤ◌, List, ◌∷◌, subst, arith}
use Rattle.std.specs.Prelude.{Contains, Option, Some, None, IfSome, IsSomeAnd}
use Rattle.std.proofs.lemmas.Int.{ints}
use Rattle.ug_rows.specs.Boxes.{IsInside}
use Rattle.ug_rows.specs.Rows.{value_of}
use Rattle.ug_problem.specs.Instances.{Instance, root_of}
use Rattle.ug_problem.specs.Incumbents.{Incumbent, cutoff_point}
use Rattle.ug_problem.specs.Better.{Better, best_cutoff}
use Rattle.ug_problem.proofs.Cutoffs.{better_is_good}
use Rattle.ug_nodes.specs.declared.name.Name.{Name}
use Rattle.ug_nodes.specs.declared.node.Node.{Node}
use Rattle.ug_nodes.specs.Nodes.{box_of}
use Rattle.ug_nodes.proofs.LineLemmas.{begins_has}
use Rattle.ug_nodes.proofs.Orders.{ticket_not_itself}
use Rattle.ug_ledger.specs.Ledgers.{Current, IsCurrent, IsInNodeBelow, Ledger, hand_name}
use Rattle.ug_ledger.specs.Sound.{AreTicketed, IsLedger, LosesNone}
use Rattle.ug_ledger.specs.Moves.{HasDone, KeepsWork}
use Rattle.ug_ledger.specs.Dones.{IsSearched}
use Rattle.ug_ledger.specs.LedgerLaws.{DoneIsLedger}
use Rattle.ug_ledger.specs.SoundLaws.{DoneIsSearched, DoneIsSound}
use Rattle.ug_ledger.proofs.BoxLemmas.{covered_by, in_box, moved}
use Rattle.ug_ledger.proofs.LessLemmas.{less_ledger}
use Rattle.ug_ledger.proofs.SoundLemmas.{is_ledger, is_sound, loses_none}

-- the line of a ticket's node has no name of the ticket
pub not_own : (l : Ledger) (r : ℕ) (c : Current) → AreTicketed l → IsCurrent l r c → (i : ℕ)
    → Contains c.node.line (hand_name c.ticket i) → ⊥
not_own l r c t h i k = ticket_not_itself c.ticket (t.after r c h (hand_name c.ticket i) k)

done_keeps_work : (old new : Ledger) (r : ℕ) (c : Current) → HasDone old new r c
    → KeepsWork old new
done_keeps_work old new r c m q d h there n hn below = elim (m.tickets q d h) [
  | inl e ↦ absurd (m.gone (subst (Contains new.held) e there))
  | inr k ↦ k
]

pub done_ledger : DoneIsLedger
done_ledger root r c old new m l =
    less_ledger root old new (m.less, done_keeps_work old new r c m) l

module _ (p : Instance) (gap : ℤ) (best : Incumbent) (old new : Ledger) (r : ℕ) (c : Current)
    (l : IsLedger (root_of p) old) (m : HasDone old new r c) where
  -- the box of a node has the point
  abbrev HasPoint : List ℤ → Node → Type 0
  HasPoint x n = IsInside (box_of (root_of p) n) x

  -- a better point of the box that was searched lies in a node below it that stays
  passed_on : IsSearched p gap best c → LosesNone p gap best old → (x : List ℤ)
      → Better p gap best x → HasPoint x c.node
      → (i : ℕ) × IsInNodeBelow (root_of p) new.held (hand_name c.ticket i) x
  passed_on searched s x b inside =
      let at = in_box c.taken x (searched x b inside) in
      let name = hand_name c.ticket at.0 in
      let n = s.backed r c m.current at.0 at.1 x b at.2 in
      let stays : Contains new.held n.node = elim (m.others n.node n.there) [
        | inl e ↦ absurd (not_own old r c l.ticketed m.current at.0
            (subst (λ (k : Node). Contains k.line name) e n.below))
        | inr h ↦ h
      ] in
      (at.0, moved (root_of p) old.held new.held name x n stays)

  -- a name in the line of the node that went is in the lines of the nodes below it
  in_line_below : (n : Node) → Contains new.held n → (i : ℕ)
      → Contains n.line (hand_name c.ticket i) → (name : Name) → Contains c.node.line name
      → Contains n.line name
  in_line_below n h i below name k =
      let g = l.handed r c m.current n (m.less.held n h) i below in
      begins_has n.line c.node.line name (hand_name c.ticket i ∷ g.on.0, g.on.1) k

  -- if a ticket's box was searched, its node may go
  pub done_lossless : IsSearched p gap best c → LosesNone p gap best old → LosesNone p gap best new
  done_lossless searched s = record {
    covered = covered_by p gap best old.held new.held (λ n h x b inside. elim (m.others n h) [
      | inl e ↦
          let o = (passed_on searched s x b (subst (HasPoint x) e inside)).1 in
          record { node = o.node; there = o.there; inside = o.inside }
      | inr k ↦ record { node = n; there = k; inside = inside }
    ]) s.covered;
    backed = λ q d h i short x b inside.
        let n = s.backed q d (m.less.current q d h) i short x b inside in
        let name = hand_name d.ticket i in
        elim (m.others n.node n.there) [
          | inl e ↦
              let o = passed_on searched s x b (subst (HasPoint x) e n.inside) in
              let up = subst (λ (k : Node). Contains k.line name) e n.below in
              record {
                node = o.1.node;
                there = o.1.there;
                below = in_line_below o.1.node o.1.there o.0 o.1.below name up;
                inside = o.1.inside;
              }
          | inr k ↦ moved (root_of p) old.held new.held name x n k
        ];
  }

pub done_sound : DoneIsSound
done_sound p gap best r c searched old new m s =
    let l = is_ledger p gap best old s in
    is_sound p gap best new (done_ledger (root_of p) r c old new m l)
    (done_lossless p gap best old new r c l m searched (loses_none p gap best old s))

-- a point below the incumbent's cutoff is below each cutoff that the incumbent backs
backed_below : (cutoff best : Option ℤ) (v : ℤ)
    → IfSome cutoff (λ c. IsSomeAnd best (λ least. least ≤ℤ c))
    → IfSome best (λ least. v <ℤ least) → IfSome cutoff (λ c. v <ℤ c)
backed_below None best v h k = tt
backed_below (Some c) None v h k = absurd h
backed_below (Some c) (Some least) v h k = omega (arith, ints, h, k)

pub done_searched : DoneIsSearched
done_searched p gap best cutoff c backed is_true x b inside =
    let good = better_is_good p gap best x b in
    is_true x b (record {
      feasible = good.feasible;
      less = backed_below cutoff (best_cutoff p gap (cutoff_point best)) (value_of p.objective x) backed
          good.less;
    }) inside
