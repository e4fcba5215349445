-- A box that was handed under a current ticket: names, boxes and lines after it.
use Rattle.std.proofs.Common.{◌≡◌, ◌≢◌, ◌⊎◌, inl, inr, ℕ, ◌-◌, ◌<◌, ◌≤◌, List, [], ◌∷◌, ◌++◌, length, refl, ap, sym, ◌∙◌, subst, arith}
use Rattle.std.specs.Prelude.{Contains}
use Rattle.std.proofs.lemmas.List.{append_assoc, get_or_append_left, get_or_push, length_push}
use Rattle.std.proofs.lemmas.List.Elements.{Contains-push, Contains-push_cases}
use Rattle.ug_rows.specs.declared.area.Interval.{Interval}
use Rattle.ug_rows.specs.Boxes.{IsBelow}
use Rattle.ug_rows.proofs.AreaLemmas.{below_trans}
use Rattle.ug_nodes.specs.declared.change.Change.{Change}
use Rattle.ug_nodes.specs.declared.name.Name.{Name}
use Rattle.ug_nodes.specs.declared.node.Node.{Node}
use Rattle.ug_nodes.specs.Lines.{DoTicketsRise, IsAncestor, line_name_at}
use Rattle.ug_nodes.specs.Names.{IsTicketBefore, no_name, own_name}
use Rattle.ug_nodes.specs.Nodes.{box_of}
use Rattle.ug_nodes.proofs.LineLemmas.{ancestor_not_itself, ancestor_of_child, begins_from_ancestor, begins_has, rises_push}
use Rattle.ug_ledger.specs.Ledgers.{Current, IsCurrent, IsGiven, Ledger, hand_name}
use Rattle.ug_ledger.specs.Names.{AreNamed}
use Rattle.ug_ledger.specs.Sound.{AreHanded, AreNested, AreTicketed, GoesThrough, IsLedger}
use Rattle.ug_ledger.specs.Moves.{HasHanded, handed_node, next_hand, with_taken}
use Rattle.ug_ledger.proofs.DoneLemmas.{not_own}
use Rattle.ug_ledger.proofs.LessLemmas.{still_given}
use Rattle.ug_ledger.proofs.NameLemmas.{has_own, one_line, own_or_none, times_at_most, times_none}
use Rattle.ug_ledger.proofs.RankLemmas.{set_cases}
use Rattle.ug_nodes.specs.Primitive.{times}

-- the line that the next hand makes goes through this hand
goes_itself : (c : Current) (area : List Interval) (i : ℕ) → i ≡ length c.taken
    → GoesThrough (c.node.line ++ next_hand c ∷ []) (with_taken c area) i
goes_itself c area i e = record {
  on = ([], ap (λ k. c.node.line ++ hand_name c.ticket k ∷ []) (sym e));
  kept = omega (arith, e, length_push c.taken area);
}

-- a line with a name more goes through what it went through
goes_longer : (line : List Name) (d : Current) (i : ℕ) (name : Name) → GoesThrough line d i
    → GoesThrough (line ++ name ∷ []) d i
goes_longer line d i name g =
    let front = d.node.line in
    let assoc = append_assoc front (hand_name d.ticket i ∷ g.on.0) (name ∷ []) in
    record {
      on = (g.on.0 ++ name ∷ [], ap (λ ns. ns ++ name ∷ []) g.on.1 ∙ assoc);
      kept = g.kept;
    }

-- so does each line where a box more is taken
goes_still : (c : Current) (area : List Interval) (line : List Name) (i : ℕ) → GoesThrough line c i
    → GoesThrough line (with_taken c area) i
goes_still c area line i g =
    record { on = g.on; kept = omega (arith, g.kept, length_push c.taken area) }

module _ (root : List Interval) (old new : Ledger) (r : ℕ) (c : Current) (changes : List Change)
    (m : HasHanded root old new r c changes) (l : IsLedger root old) where
  abbrev made : Node
  made = handed_node c changes

  abbrev longer : Current
  longer = with_taken c (box_of root made)

  -- a ticket is that of the rank, with a box more, or was current before
  pub cases : (q : ℕ) (d : Current) → IsCurrent new q d
      → ((q ≡ r) × (d ≡ longer)) ⊎ ((q ≢ r) × IsCurrent old q d)
  cases = set_cases old new r longer m.there m.ranks

  its_node : Contains old.held c.node
  its_node = l.ticketed.held r c m.current

  -- no held line has the name of the next hand
  not_held : (n : Node) → Contains old.held n → Contains n.line (next_hand c) → ⊥
  not_held n h k =
      let g = l.handed r c m.current n h (length c.taken) k in
      omega (arith, g.kept)

  -- a fact of each node that was held, and of the new one, is one of each that is held
  each_held : (P : Node → Type 0) → ((n : Node) → Contains old.held n → P n) → P made
      → (n : Node) → Contains new.held n → P n
  each_held P f g n h = elim (m.held n h) [
    | inl o ↦ f n o
    | inr e ↦ subst P (sym e) g
  ]

  -- the new name belongs to no held node
  own_made : own_name made.line ≡ next_hand c
  own_made =
      let last = length_push c.node.line (next_hand c) in
      get_or_push c.node.line (next_hand c) no_name (length made.line - 1) (omega (arith, last))

  new_name : AreNamed old.held → (name : Name) → own_name made.line ≡ name
      → (n : Node) → Contains old.held n → own_name n.line ≡ name → ⊥
  new_name named name is n h e =
      let same = e ∙ (sym is ∙ own_made) in
      not_held n h (subst (Contains n.line) same (has_own n (named.some n h)))

  -- so each name is once there
  handed_once : AreNamed old.held → (name : Name) → times name new.held ≤ 1
  handed_once named name = elim (own_or_none name made) [
    | inl is ↦
        let none = times_none name old.held (new_name named name is) in
        omega (arith, m.counts name, none, times_at_most name made [])
    | inr other ↦ omega (arith, m.counts name, named.once name, other)
  ]

  handed_named : AreNamed old.held → AreNamed new.held
  handed_named named = record {
    some = each_held (λ n. 0 < length n.line) named.some
        (omega (arith, length_push c.node.line (next_hand c)));
    once = handed_once named;
  }

  -- the new line begins as that of its parent
  first_made : (line_name_at made.line 0).ticket.number ≡ 0
  first_made =
      let t = l.ticketed in
      let some = t.named.some c.node its_node in
      let same = get_or_append_left c.node.line (next_hand c ∷ []) no_name 0 some in
      subst (λ (n : Name). n.ticket.number ≡ 0) (sym same) (t.first c.node its_node)

  -- its tickets are given
  given_made : (name : Name) → Contains made.line name → IsGiven old.last name.ticket
  given_made name k = elim (Contains-push_cases c.node.line (next_hand c) name k) [
    | inl o ↦ l.ticketed.given c.node its_node name o
    | inr e ↦ subst (λ (n : Name). IsGiven old.last n.ticket) e (l.ticketed.current r c m.current)
  ]

  -- the rank had the ticket before, for the same node
  was_current : (q : ℕ) (d : Current) → IsCurrent new q d
      → (b : Current) × IsCurrent old q b × (b.ticket ≡ d.ticket) × (b.node ≡ d.node)
  was_current q d h = elim (cases q d h) [
    | inl e ↦ (
      c,
      subst (λ k. IsCurrent old k c) (sym e.0) m.current,
      ap (λ (z : Current). z.ticket) (sym e.1),
      ap (λ (z : Current). z.node) (sym e.1),
    )
    | inr o ↦ (d, o.1, refl, refl)
  ]

  -- the tickets of the line are given
  abbrev AreGiven : Node → Type 0
  AreGiven n = (name : Name) → Contains n.line name → IsGiven old.last name.ticket

  pub handed_ticketed : AreTicketed new
  handed_ticketed =
      let t = l.ticketed in
      let same = still_given old.last new.last in
      record {
        named = handed_named t.named;
        rise = each_held (λ n. DoTicketsRise n.line) t.rise
            (rises_push c.node.line (next_hand c) (t.rise c.node its_node) (t.after r c m.current));
        first = each_held (λ n. (line_name_at n.line 0).ticket.number ≡ 0) t.first first_made;
        given = λ n h name k.
            same name.ticket m.last (each_held AreGiven t.given given_made n h name k);
        current = λ q d h.
            let b = was_current q d h in
            same d.ticket m.last (subst (IsGiven old.last) b.2 (t.current q b.0 b.1));
        held = λ q d h.
            let b = was_current q d h in
            m.kept d.node (subst (Contains old.held) b.3 (t.held q b.0 b.1));
        after = λ q d h name k.
            let b = was_current q d h in
            let up = subst (λ (n : Node). Contains n.line name) (sym b.3) k in
            subst (IsTicketBefore name.ticket) b.2 (t.after q b.0 b.1 name up);
        differ = λ q s d f h k e.
            let b = was_current q d h in
            let g = was_current s f k in
            t.differ q s b.0 g.0 b.1 g.1 (b.2 ∙ (e ∙ sym g.2));
      }

  -- the new node's box is below that of each held ancestor
  made_under : (a : Node) → Contains old.held a → IsAncestor a.line made.line
      → IsBelow (box_of root made) (box_of root a)
  made_under a h up = elim (ancestor_of_child a.line c.node.line (next_hand c) up) [
    | inl e ↦
        let same = one_line old.held l.ticketed.named c.node a its_node h (sym e) in
        subst (λ n. IsBelow (box_of root made) (box_of root n)) same m.below
    | inr above ↦ below_trans (box_of root made) (box_of root c.node) (box_of root a) m.below
        (l.nested a c.node h its_node above)
  ]

  -- and it is an ancestor of none
  pub made_above_none : (b : Node) → Contains new.held b → IsAncestor made.line b.line → ⊥
  made_above_none b h below = elim (m.held b h) [
    | inl o ↦ not_held b o (begins_has b.line made.line (next_hand c)
        (begins_from_ancestor made.line b.line below) (Contains-push c.node.line (next_hand c)))
    | inr e ↦ ancestor_not_itself made.line
        (subst (λ (n : Node). IsAncestor made.line n.line) e below)
  ]

  pub handed_nested : AreNested root new
  handed_nested a b ha hb up = elim (m.held a ha) [
    | inl oa ↦ elim (m.held b hb) [
      | inl ob ↦ l.nested a b oa ob up
      | inr eb ↦ subst (λ n. IsBelow (box_of root n) (box_of root a)) (sym eb)
          (made_under a oa (subst (λ (n : Node). IsAncestor a.line n.line) eb up))
    ]
    | inr ea ↦
        absurd (made_above_none b hb (subst (λ (n : Node). IsAncestor n.line b.line) ea up))
  ]

  -- a line with the name of a hand under the ticket goes through it
  abbrev GoThrough : Current → Current → ℕ → Node → Type 0
  GoThrough named d i n = Contains n.line (hand_name named.ticket i) → GoesThrough n.line d i

  own_handed : (n : Node) → Contains new.held n → (i : ℕ) → GoThrough c longer i n
  own_handed n h i = each_held (GoThrough c longer i)
      (λ z hz k. goes_still c (box_of root made) z.line i (l.handed r c m.current z hz i k))
      (λ k. elim (Contains-push_cases c.node.line (next_hand c) (hand_name c.ticket i) k) [
        | inl up ↦ absurd (not_own old r c l.ticketed m.current i up)
        | inr same ↦
            goes_itself c (box_of root made) i (sym (ap (λ (z : Name). z.hand) same))
      ]) n h

  -- and so with that of another ticket
  other_handed : (q : ℕ) (d : Current) → q ≢ r → IsCurrent old q d → (n : Node)
      → Contains new.held n → (i : ℕ) → GoThrough d d i n
  other_handed q d ne h n hn i = each_held (GoThrough d d i)
      (λ z hz. l.handed q d h z hz i)
      (λ k. elim (Contains-push_cases c.node.line (next_hand c) (hand_name d.ticket i) k) [
        | inl up ↦
            goes_longer c.node.line d i (next_hand c) (l.handed q d h c.node its_node i up)
        | inr same ↦ absurd (ne (l.ticketed.differ q r d c h m.current
            (sym (ap (λ (z : Name). z.ticket) same))))
      ]) n hn

  pub handed_handed : AreHanded new
  handed_handed q d h n k i = elim (cases q d h) [
    | inl e ↦ subst (λ (z : Current). GoThrough z z i n) (sym e.1) (own_handed n k i)
    | inr o ↦ other_handed q d o.0 o.1 n k i
  ]
