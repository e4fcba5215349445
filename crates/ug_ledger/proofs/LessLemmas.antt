-- Fewer nodes and tickets: what is left is a ledger; ended tickets and dropped nodes lose no point.
use Rattle.std.proofs.Common.{◌≡◌, ℤ, inl, inr, List, sym, ◌∙◌, subst}
use Rattle.std.specs.Prelude.{Contains, Option, Some, None, slice_index_or}
use Rattle.ug_rows.specs.Boxes.{IsInside}
use Rattle.ug_problem.specs.Instances.{Instance, root_of}
use Rattle.ug_problem.specs.Incumbents.{Incumbent}
use Rattle.ug_problem.specs.Better.{Better}
use Rattle.ug_nodes.specs.declared.name.Ticket.{Ticket}
use Rattle.ug_nodes.specs.declared.node.Node.{Node}
use Rattle.ug_nodes.specs.Lines.{GoesOn, IsAncestor}
use Rattle.ug_nodes.specs.Nodes.{box_of}
use Rattle.ug_nodes.proofs.LineLemmas.{ancestor_not_itself}
use Rattle.ug_ledger.specs.Ledgers.{IsGiven, Ledger, hand_name}
use Rattle.ug_ledger.specs.Sound.{AreTicketed, AreWorkedOn, LosesNone}
use Rattle.ug_ledger.specs.Moves.{HasDropped, HasEnded, IsLess, KeepsWork}
use Rattle.ug_ledger.specs.LedgerLaws.{AloneKeepsWork, DroppedIsLedger, EndedIsLedger, LessIsLedger}
use Rattle.ug_ledger.specs.SoundLaws.{DroppedIsSound, EndedIsSound}
use Rattle.ug_ledger.proofs.BoxLemmas.{covered_by, moved}
use Rattle.ug_ledger.proofs.NameLemmas.{fewer_named}
use Rattle.ug_ledger.proofs.SoundLemmas.{is_ledger, is_sound, loses_none}

-- a given ticket is given where the last one is the same
pub still_given : (last same ticket : Ticket) → same ≡ last → IsGiven last ticket
    → IsGiven same ticket
still_given last same ticket e g = subst (λ t. IsGiven t ticket) (sym e) g

module _ (old new : Ledger) (s : IsLess old new) where
  less_ticketed : AreTicketed old → AreTicketed new
  less_ticketed t =
      let same = still_given old.last new.last in
      record {
        named = fewer_named old.held new.held s.held s.counts t.named;
        rise = λ n h. t.rise n (s.held n h);
        first = λ n h. t.first n (s.held n h);
        given = λ n h name k. same name.ticket s.last (t.given n (s.held n h) name k);
        current = λ r c h. same c.ticket s.last (t.current r c (s.current r c h));
        held = s.still;
        after = λ r c h. t.after r c (s.current r c h);
        differ = λ q r c d h k. t.differ q r c d (s.current q c h) (s.current r d k);
      }

  less_worked : KeepsWork old new → AreWorkedOn old → AreWorkedOn new
  less_worked keeps w a b ha hb name g =
      let o = w a b (s.held a ha) (s.held b hb) name g in
      let there = subst (Contains new.held) (sym o.its_node) ha in
      let on : GoesOn b.line o.work.node.line name =
      subst (λ (n : Node). GoesOn b.line n.line name) (sym o.its_node) g in
      record {
        rank = o.rank;
        work = o.work;
        current = keeps o.rank o.work o.current there b hb (name, on);
        its_node = o.its_node;
        its_ticket = o.its_ticket;
      }

pub less_ledger : LessIsLedger
less_ledger root old new (s, keeps) l = record {
  ticketed = less_ticketed old new s l.ticketed;
  nested = λ a b ha hb. l.nested a b (s.held a ha) (s.held b hb);
  handed = λ r c h n k. l.handed r c (s.current r c h) n (s.held n k);
  worked = less_worked old new s keeps l.worked;
}

pub alone_keeps_work : AloneKeepsWork
alone_keeps_work old new only alone r c h there n hn below =
    let same = alone n hn ∙ sym (alone c.node there) in
    absurd (ancestor_not_itself c.node.line
    (subst (λ (m : Node). IsAncestor c.node.line m.line) same below))

pub ended_ledger : EndedIsLedger
ended_ledger root old new e l = less_ledger root old new (e.less, e.work) l

pub dropped_ledger : DroppedIsLedger
dropped_ledger root p gap best old new d l =
    let keeps : KeepsWork old new = λ r c h there n hn below.
    subst (λ rs. slice_index_or rs r None ≡ Some c) (sym d.ranks) h in
    less_ledger root old new (d.less, keeps) l

module _ (p : Instance) (gap : ℤ) (best : Incumbent) (old new : Ledger) where
  -- a node with a better point stays
  abbrev DoStay : Type 0
  DoStay =
      (n : Node) → Contains old.held n → (x : List ℤ) → Better p gap best x
      → IsInside (box_of (root_of p) n) x → Contains new.held n

  -- then no point is lost
  stay_lossless : IsLess old new → DoStay → LosesNone p gap best old → LosesNone p gap best new
  stay_lossless less stay s = record {
    covered = covered_by p gap best old.held new.held
        (λ n h x b inside. record { node = n; there = stay n h x b inside; inside = inside })
        s.covered;
    backed = λ r c h i l x b inside.
        let n = s.backed r c (less.current r c h) i l x b inside in
        moved (root_of p) old.held new.held (hand_name c.ticket i) x n
        (stay n.node n.there x b n.inside);
  }

  pub ended_lossless : HasEnded old new → LosesNone p gap best old → LosesNone p gap best new
  ended_lossless e = stay_lossless e.less (λ n h x b inside. e.kept n h)

  pub dropped_lossless : HasDropped p gap best old new → LosesNone p gap best old
      → LosesNone p gap best new
  dropped_lossless d = stay_lossless d.less (λ n h x b inside. elim (d.dropped n h) [
    | inl none ↦ absurd (none x b inside)
    | inr k ↦ k
  ])

pub ended_sound : EndedIsSound
ended_sound p gap best old new e s = is_sound p gap best new
    (ended_ledger (root_of p) old new e (is_ledger p gap best old s))
    (ended_lossless p gap best old new e (loses_none p gap best old s))

pub dropped_sound : DroppedIsSound
dropped_sound p gap best old new d s = is_sound p gap best new
    (dropped_ledger (root_of p) p gap best old new d (is_ledger p gap best old s))
    (dropped_lossless p gap best old new d (loses_none p gap best old s))
