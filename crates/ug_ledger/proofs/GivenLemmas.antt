-- A held node that was given with a new ticket.
use Rattle.std.proofs.Common.{◌≡◌, ◌≢◌, ◌⊎◌, inl, inr, ℕ, ℤ, ◌<◌, List, [], length, refl, ap, sym, ◌∙◌, subst, arith}
use Rattle.std.specs.Prelude.{Contains, Option}
use Rattle.std.proofs.lemmas.Option.{none-some}
use Rattle.ug_rows.specs.declared.area.Interval.{Interval}
use Rattle.ug_problem.specs.Instances.{Instance, root_of}
use Rattle.ug_problem.specs.Incumbents.{Incumbent}
use Rattle.ug_nodes.specs.declared.name.Ticket.{Ticket}
use Rattle.ug_nodes.specs.declared.name.Name.{Name}
use Rattle.ug_nodes.specs.Names.{IsTicketBefore}
use Rattle.ug_ledger.specs.Ledgers.{Current, IsCurrent, IsGiven, Ledger, hand_name}
use Rattle.ug_ledger.specs.Sound.{AreHanded, AreTicketed, AreWorkedOn, LosesNone}
use Rattle.ug_ledger.specs.Moves.{HasGiven}
use Rattle.ug_ledger.specs.LedgerLaws.{GivenIsLedger}
use Rattle.ug_ledger.specs.SoundLaws.{GivenIsSound}
use Rattle.ug_ledger.proofs.BoxLemmas.{covered_by, moved}
use Rattle.ug_ledger.proofs.NameLemmas.{fewer_named}
use Rattle.ug_ledger.proofs.RankLemmas.{set_cases, set_kept}
use Rattle.ug_ledger.proofs.SoundLemmas.{is_ledger, is_sound, loses_none}

-- the ticket is after all in the line of its node
abbrev IsAfterAll : Current → Type 0
IsAfterAll c = (name : Name) → Contains c.node.line name → IsTicketBefore name.ticket c.ticket

module _ (old new : Ledger) (r : ℕ) (c : Current) (m : HasGiven old new r c) where
  -- a ticket is the new one, of that rank, or was current before
  cases : (q : ℕ) (d : Current) → IsCurrent new q d
      → ((q ≡ r) × (d ≡ c)) ⊎ ((q ≢ r) × IsCurrent old q d)
  cases = set_cases old new r c m.there m.ranks

  -- what was given before is given, and before the new ticket
  given_later : (t : Ticket) → IsGiven old.last t → IsGiven new.last t
  given_later t g = subst (λ last. IsGiven last t) (sym m.last) (record {
    run = g.run ∙ sym m.run;
    number = omega (arith, g.number, m.number);
  })

  given_before : (t : Ticket) → IsGiven old.last t → IsTicketBefore t c.ticket
  given_before t g = inr (g.run ∙ sym m.run, omega (arith, g.number, m.number))

  -- so is the new ticket, which was not given before
  given_itself : IsGiven new.last c.ticket
  given_itself = subst (λ last. IsGiven last c.ticket) (sym m.last)
      (record { run = refl; number = omega arith })

  not_before : (t : Ticket) → IsGiven old.last t → t ≡ c.ticket → ⊥
  not_before t g e = omega (arith, (subst (IsGiven old.last) e g).number, m.number)

  -- a fact of each ticket that was current, and of the new one, is one of each that is current
  each_current : (P : Current → Type 0) → ((q : ℕ) (d : Current) → IsCurrent old q d → P d) → P c
      → (q : ℕ) (d : Current) → IsCurrent new q d → P d
  each_current P f g q d h = elim (cases q d h) [
    | inl e ↦ subst P (sym e.1) g
    | inr o ↦ f q d o.1
  ]

  -- no rank but this has the new ticket
  given_alone : AreTicketed old → (q s : ℕ) (d f : Current) → (d ≡ c) → IsCurrent old s f
      → d.ticket ≡ f.ticket → q ≡ s
  given_alone t q s d f e k same = absurd (not_before f.ticket (t.current s f k)
      (sym same ∙ ap (λ (z : Current). z.ticket) e))

  given_differ : AreTicketed old → (q s : ℕ) (d f : Current) → IsCurrent new q d
      → IsCurrent new s f → d.ticket ≡ f.ticket → q ≡ s
  given_differ t q s d f h k same = elim (cases q d h) [
    | inl e ↦ elim (cases s f k) [
      | inl g ↦ e.0 ∙ sym g.0
      | inr o ↦ given_alone t q s d f e.1 o.1 same
    ]
    | inr o ↦ elim (cases s f k) [
      | inl g ↦ sym (given_alone t s q f d g.1 o.1 (sym same))
      | inr u ↦ t.differ q s d f o.1 u.1 same
    ]
  ]

  given_ticketed : AreTicketed old → AreTicketed new
  given_ticketed t = record {
    named = fewer_named old.held new.held m.held m.counts t.named;
    rise = λ n h. t.rise n (m.held n h);
    first = λ n h. t.first n (m.held n h);
    given = λ n h name k. given_later name.ticket (t.given n (m.held n h) name k);
    current = each_current (λ d. IsGiven new.last d.ticket)
        (λ q d h. given_later d.ticket (t.current q d h)) given_itself;
    held = each_current (λ d. Contains new.held d.node)
        (λ q d h. m.kept d.node (t.held q d h)) (m.kept c.node m.node);
    after = each_current IsAfterAll t.after
        (λ name k. given_before name.ticket (t.given c.node m.node name k));
    differ = given_differ t;
  }

  given_handed : AreTicketed old → AreHanded old → AreHanded new
  given_handed t handed q d h n k i name = elim (cases q d h) [
    | inl e ↦ absurd (not_before d.ticket (t.given n (m.held n k) (hand_name d.ticket i) name)
        (ap (λ (z : Current). z.ticket) e.1))
    | inr o ↦ handed q d o.1 n (m.held n k) i name
  ]

  given_worked : AreWorkedOn old → AreWorkedOn new
  given_worked w a b ha hb name g =
      let o = w a b (m.held a ha) (m.held b hb) name g in
      let here = λ (e : o.rank ≡ r). subst (λ k. IsCurrent old k o.work) e o.current in
      let other : o.rank ≢ r = λ e. none-some o.work (sym m.free ∙ here e) in
      record {
        rank = o.rank;
        work = o.work;
        current = set_kept old new r c m.there m.ranks o.rank o.work other o.current;
        its_node = o.its_node;
        its_ticket = o.its_ticket;
      }

pub given_ledger : GivenIsLedger
given_ledger root r c old new m l = record {
  ticketed = given_ticketed old new r c m l.ticketed;
  nested = λ a b ha hb. l.nested a b (m.held a ha) (m.held b hb);
  handed = given_handed old new r c m l.ticketed l.handed;
  worked = given_worked old new r c m l.worked;
}

none_taken : (c d : Current) (i : ℕ) → c.taken ≡ [] → d ≡ c → i < length d.taken → ⊥
none_taken c d i fresh e h =
    let short : i < length c.taken = subst (λ (z : Current). i < length z.taken) e h in
    let none : i < 0 = subst (λ (ts : List (List Interval)). i < length ts) fresh short in
    omega (arith, none)

module _ (p : Instance) (gap : ℤ) (best : Incumbent) (old new : Ledger) where
  -- no point is lost by it
  pub given_lossless : (r : ℕ) (c : Current) → HasGiven old new r c → LosesNone p gap best old
      → LosesNone p gap best new
  given_lossless r c m s = record {
    covered = covered_by p gap best old.held new.held
        (λ n h x b inside. record { node = n; there = m.kept n h; inside = inside }) s.covered;
    backed = λ q d h i short x b inside. elim (cases old new r c m q d h) [
      | inl e ↦ absurd (none_taken c d i m.fresh e.1 short)
      | inr o ↦
          let n = s.backed q d o.1 i short x b inside in
          moved (root_of p) old.held new.held (hand_name d.ticket i) x n (m.kept n.node n.there)
    ];
  }

pub given_sound : GivenIsSound
given_sound p gap best r c old new m s = is_sound p gap best new
    (given_ledger (root_of p) r c old new m (is_ledger p gap best old s))
    (given_lossless p gap best old new r c m (loses_none p gap best old s))
