-- A box that was handed under a current ticket: who works on what after it; no point is lost.
use Rattle.std.proofs.Common.{inl, inr, ℕ, ℤ, ◌<◌, List, [], ◌∷◌, length, ap, sym, ◌∙◌, subst, arith}
use Rattle.std.specs.Prelude.{Contains, Option}
use Rattle.std.proofs.lemmas.Bool.{cases_eq}
use Rattle.std.proofs.lemmas.List.{get_or_append_left, get_or_push, length_push}
use Rattle.std.proofs.lemmas.List.Elements.{Contains-push}
use Rattle.std.proofs.lemmas.Option.{same_Some}
use Rattle.ug_rows.specs.declared.area.Interval.{Interval}
use Rattle.ug_rows.specs.Boxes.{IsInside, box_at}
use Rattle.ug_problem.specs.Instances.{Instance, root_of}
use Rattle.ug_problem.specs.Incumbents.{Incumbent}
use Rattle.ug_problem.specs.Better.{Better}
use Rattle.ug_nodes.specs.declared.change.Change.{Change}
use Rattle.ug_nodes.specs.declared.name.Name.{Name}
use Rattle.ug_nodes.specs.declared.node.Node.{Node}
use Rattle.ug_nodes.specs.Lines.{GoesOn}
use Rattle.ug_nodes.specs.Nodes.{box_of}
use Rattle.ug_ledger.specs.Ledgers.{Current, IsCurrent, IsInNodeBelow, Ledger, hand_name}
use Rattle.ug_ledger.specs.Sound.{AreBacked, AreWorkedOn, IsLedger, IsWorkedOn, LosesNone}
use Rattle.ug_ledger.specs.Moves.{HasHanded, handed_node, next_hand, with_taken}
use Rattle.ug_ledger.specs.LedgerLaws.{HandedIsLedger}
use Rattle.ug_ledger.specs.SoundLaws.{HandedIsSound}
use Rattle.ug_ledger.proofs.BoxLemmas.{covered_by, moved}
use Rattle.ug_ledger.proofs.HandedLemmas.{cases, handed_handed, handed_nested, handed_ticketed, made_above_none}
use Rattle.ug_ledger.proofs.LineLemmas.{goes_on_child}
use Rattle.ug_ledger.proofs.NameLemmas.{one_line}
use Rattle.ug_ledger.proofs.RankLemmas.{set_here, set_kept}
use Rattle.ug_ledger.proofs.SoundLemmas.{is_ledger, is_sound, loses_none}

module _ (root : List Interval) (old new : Ledger) (r : ℕ) (c : Current) (changes : List Change)
    (m : HasHanded root old new r c changes) (l : IsLedger root old) where
  abbrev made : Node
  made = handed_node c changes

  abbrev longer : Current
  longer = with_taken c (box_of root made)

  -- what was worked on is
  work_stays : (a : Node) (name : Name) → IsWorkedOn old a name.ticket
      → IsWorkedOn new a name.ticket
  work_stays a name o = elim (cases_eq o.rank r) [
    | inl e ↦
        let here : IsCurrent old r o.work = subst (λ k. IsCurrent old k o.work) e o.current in
        let same = same_Some c o.work (sym m.current ∙ here) in
        record {
          rank = r;
          work = longer;
          current = set_here old new r longer m.there m.ranks;
          its_node = ap (λ (z : Current). z.node) same ∙ o.its_node;
          its_ticket = ap (λ (z : Current). z.ticket) same ∙ o.its_ticket;
        }
    | inr ne ↦ record {
      rank = o.rank;
      work = o.work;
      current = set_kept old new r longer m.there m.ranks o.rank o.work ne o.current;
      its_node = o.its_node;
      its_ticket = o.its_ticket;
    }
  ]

  -- so are the ancestors of the new node
  work_over : (a : Node) → Contains old.held a → (name : Name) → GoesOn made.line a.line name
      → IsWorkedOn new a name.ticket
  work_over a h name g =
      let its = l.ticketed.held r c m.current in
      elim (goes_on_child a.line c.node.line name (next_hand c) g) [
        | inl e ↦ record {
          rank = r;
          work = longer;
          current = set_here old new r longer m.there m.ranks;
          its_node = one_line old.held l.ticketed.named c.node a its h (sym e.0);
          its_ticket = ap (λ (z : Name). z.ticket) (sym e.1);
        }
        | inr above ↦ work_stays a name (l.worked a c.node h its name above)
      ]

  handed_worked : AreWorkedOn new
  handed_worked a b ha hb name g = elim (m.held a ha) [
    | inl oa ↦ elim (m.held b hb) [
      | inl ob ↦ work_stays a name (l.worked a b oa ob name g)
      | inr eb ↦ work_over a oa name (subst (λ (n : Node). GoesOn n.line a.line name) eb g)
    ]
    | inr ea ↦ absurd (made_above_none root old new r c changes m l b hb
        (name, subst (λ (n : Node). GoesOn b.line n.line name) ea g))
  ]

pub handed_ledger : HandedIsLedger
handed_ledger root r c changes old new m l = record {
  ticketed = handed_ticketed root old new r c changes m l;
  nested = handed_nested root old new r c changes m l;
  handed = handed_handed root old new r c changes m l;
  worked = handed_worked root old new r c changes m l;
}

module _ (p : Instance) (gap : ℤ) (best : Incumbent) (old new : Ledger) (r : ℕ) (c : Current)
    (changes : List Change) (m : HasHanded (root_of p) old new r c changes)
    (l : IsLedger (root_of p) old) where
  abbrev area : List Interval
  area = box_of (root_of p) (handed_node c changes)

  -- the point lies in a held node below the hand
  abbrev IsHeld : Ledger → List ℤ → ℕ → Current → Type 0
  IsHeld held x i d = IsInNodeBelow (root_of p) held.held (hand_name d.ticket i) x

  -- a better point of a box taken from the rank lies in one
  own_backed : AreBacked p gap best old → (i : ℕ) → i < length (with_taken c area).taken
      → (x : List ℤ) → Better p gap best x → IsInside (box_at (with_taken c area).taken i) x
      → IsHeld new x i c
  own_backed backed i short x b inside = elim (cases_eq i (length c.taken)) [
    | inl e ↦ record {
      node = handed_node c changes;
      there = m.node;
      below = subst (λ k. Contains (handed_node c changes).line (hand_name c.ticket k)) (sym e)
          (Contains-push c.node.line (next_hand c));
      inside = subst (λ z. IsInside z x) (get_or_push c.taken area [] i (sym e)) inside;
    }
    | inr ne ↦
        let before : i < length c.taken = omega (arith, ne, short, length_push c.taken area) in
        let same = get_or_append_left c.taken (area ∷ []) [] i before in
        let was = subst (λ z. IsInside z x) same inside in
        let n = backed r c m.current i before x b was in
        moved (root_of p) old.held new.held (hand_name c.ticket i) x n (m.kept n.node n.there)
  ]

  -- a point of the box of hand i has such a node
  abbrev IsSafe : List ℤ → ℕ → Current → Type 0
  IsSafe x i d = i < length d.taken → IsInside (box_at d.taken i) x → IsHeld new x i d

  pub handed_lossless : LosesNone p gap best old → LosesNone p gap best new
  handed_lossless s = record {
    covered = covered_by p gap best old.held new.held
        (λ n h x b inside. record { node = n; there = m.kept n h; inside = inside }) s.covered;
    backed = λ q d h i short x b inside.
        elim (cases (root_of p) old new r c changes m l q d h) [
          | inl e ↦
              let own : IsSafe x i (with_taken c area) = λ k at. own_backed s.backed i k x b at in
              (subst (IsSafe x i) (sym e.1) own) short inside
          | inr o ↦
              let n = s.backed q d o.1 i short x b inside in
              moved (root_of p) old.held new.held (hand_name d.ticket i) x n
              (m.kept n.node n.there)
        ];
  }

pub handed_sound : HandedIsSound
handed_sound p gap best r c changes old new m s =
    let l = is_ledger p gap best old s in
    is_sound p gap best new (handed_ledger (root_of p) r c changes old new m l)
    (handed_lossless p gap best old new r c changes m l (loses_none p gap best old s))
