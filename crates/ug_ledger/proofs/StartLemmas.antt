-- How a ledger begins.
use Rattle.std.proofs.Common.{◌≡◌, ℤ, ◌≤ℤ◌, zero, suc, List, [], ◌∷◌, length, refl, ap, ◌∙◌, subst, arith}
use Rattle.std.specs.Prelude.{Contains, Option, Some, None}
use Rattle.std.proofs.lemmas.Int.{ints}
use Rattle.ug_problem.specs.Instances.{Instance, root_of}
use Rattle.ug_problem.specs.Incumbents.{Incumbent}
use Rattle.ug_problem.specs.Better.{Better}
use Rattle.ug_nodes.specs.declared.name.Name.{Name}
use Rattle.ug_nodes.specs.declared.node.Node.{Node}
use Rattle.ug_nodes.specs.Lines.{DoTicketsRise, IsAncestor, line_name_at}
use Rattle.ug_nodes.proofs.LineLemmas.{ancestor_shorter}
use Rattle.ug_ledger.specs.Ledgers.{IsGiven, Ledger, hand_name}
use Rattle.ug_ledger.specs.Sound.{AreTicketed}
use Rattle.ug_ledger.specs.Starts.{IsStart}
use Rattle.ug_ledger.specs.EndLaws.{StartIsLedger, StartIsSound}
use Rattle.ug_ledger.proofs.SoundLemmas.{is_sound}

-- a line of one name
one_rises : (line : List Name) (name : Name) → line ≡ name ∷ [] → DoTicketsRise line
one_rises line name e i k ik h = absurd (omega (arith, ik, h, ap length e))

one_has : (line : List Name) (name m : Name) → line ≡ name ∷ [] → Contains line m → name ≡ m
one_has line name m e h = only (subst (λ l. Contains l m) e h)
  where
    only : Contains (name ∷ []) m → name ≡ m
    only (zero, l, f) = f
    only (suc k, l, f) = absurd (omega (arith, l))

module _ (l : Ledger) (s : IsStart l) where
  start_given : (n : Node) → Contains l.held n → (name : Name) → Contains n.line name
      → IsGiven l.last name.ticket
  start_given n h name k =
      let at = s.lines n h in
      let same = one_has n.line (hand_name l.last at.0) name at.1 k in
      subst (λ (m : Name). IsGiven l.last m.ticket) same
      (record { run = refl; number = omega arith })

  start_ticketed : AreTicketed l
  start_ticketed = record {
    named = record { some = λ n h. omega (arith, ap length (s.lines n h).1); once = s.once };
    rise = λ n h. one_rises n.line (hand_name l.last (s.lines n h).0) (s.lines n h).1;
    first = λ n h. ap (λ line. (line_name_at line 0).ticket.number) (s.lines n h).1 ∙ s.unused;
    given = start_given;
    current = λ r c h. absurd (s.none r c h);
    held = λ r c h. absurd (s.none r c h);
    after = λ r c h. absurd (s.none r c h);
    differ = λ q r c d h. absurd (s.none q c h);
  }

  -- no starting node is below another
  none_under : (a b : Node) → Contains l.held a → Contains l.held b → IsAncestor a.line b.line → ⊥
  none_under a b ha hb up =
      let one = ap length (s.lines a ha).1 in
      let also_one = ap length (s.lines b hb).1 in
      omega (arith, one, also_one, ancestor_shorter a.line b.line up)

pub start_ledger : StartIsLedger
start_ledger root l s = record {
  ticketed = start_ticketed l s;
  nested = λ a b ha hb up. absurd (none_under l s a b ha hb up);
  handed = λ r c h. absurd (s.none r c h);
  worked = λ a b ha hb name g. absurd (none_under l s a b ha hb (name, g));
}

pub start_sound : StartIsSound
start_sound p gap best l s = (
  λ h. h.covered,
  λ h. is_sound p gap best l (start_ledger (root_of p) l s)
      (record { covered = h; backed = λ r c k. absurd (s.none r c k) }),
)
