-- The death of a rank that works: its node takes in what is held below, and goes back to the pool.
use Rattle.std.proofs.Common.{◌≡◌, ◌≢◌, ◌⊎◌, inl, inr, ℕ, ◌<◌, ◌≤◌, true, false, List, [], ◌∷◌, length, refl, ap, sym, ◌∙◌, subst, arith}
use Rattle.std.specs.Prelude.{Contains, if◌then◌else◌, Option, Some, None, not, slice_set}
use Rattle.std.proofs.lemmas.Bool.{cases_eq, cases_Bool, false≢true}
use Rattle.std.proofs.lemmas.List.{length-map, length-set}
use Rattle.std.proofs.lemmas.List.Elements.{All-filter, All-set}
use Rattle.std.proofs.lemmas.Option.{none-some, same_Some}
use Rattle.ug_problem.specs.Instances.{root_of}
use Rattle.ug_problem.specs.Incumbents.{one_kept}
use Rattle.ug_nodes.specs.declared.name.Name.{Name}
use Rattle.ug_nodes.specs.declared.node.Node.{Node}
use Rattle.ug_nodes.specs.Lines.{IsAncestor, is_ancestor}
use Rattle.ug_nodes.proofs.LineLemmas.{ancestor_from_test, ancestor_not_itself, test_from_ancestor}
use Rattle.ug_pool.specs.declared.entry.Entry.{Entry}
use Rattle.ug_pool.specs.Pools.{without_below}
use Rattle.ug_ranks.specs.declared.state.Work.{Work}
use Rattle.ug_ranks.specs.declared.state.Off.TheVariants.{Died}
use Rattle.ug_ranks.specs.declared.state.State.{State}
use Rattle.ug_ranks.specs.declared.state.State.TheVariants.{Absent, Idle, Racing, Active, Dead}
use Rattle.ug_ranks.specs.States.{state_at}
use Rattle.ug_ledger.specs.Ledgers.{Current, IsCurrent}
use Rattle.ug_ledger.specs.Names.{AreNamed}
use Rattle.ug_nodes.specs.Primitive.{times}
use Rattle.ug_ledger.specs.Moves.{HasTakenIn}
use Rattle.ug_ledger.proofs.TakenInLemmas.{taken_in_ledger, taken_in_sound}
use Rattle.ug_rules.specs.State.{BookState, current_for, current_of, held_nodes, ledger_of, node_at, nodes_in, nodes_of, raced_node}
use Rattle.ug_rules.specs.Deaths.{called_off, entry_of, killed_at, works_below}
use Rattle.ug_rules.specs.Books.{HasItsFloor, IsBook, IsSoundBook, KeepsItsFloor}
use Rattle.ug_rules.proofs.OrderLemmas.{dead_carried}
use Rattle.ug_rules.proofs.WorkLemmas.{WorksOn, dead_is_free, free_old, idled_kept, idled_old, others_kept, state_failed, state_there, works_at, works_from, works_to}
use Rattle.ug_rules.proofs.HeldLemmas.{current_cases, current_is, held_cases, in_pool, in_race, in_work, is_current, still}
use Rattle.ug_rules.proofs.TicketLemmas.{free_current, idled_current, others_current}
use Rattle.ug_rules.proofs.CountLemmas.{of_entry, of_failed, of_held, of_idled, of_none, of_set, times_adds}
use Rattle.ug_rules.proofs.PoolLemmas.{above_in_order, above_kept, above_old, all_put, entry_kept, entry_new, entry_old, put_in_order}
use Rattle.ug_rules.proofs.RacerLemmas.{idled_fewer_races, set_fewer_races}
use Rattle.ug_rules.proofs.OwnLemmas.{own_current, own_gone, own_held, own_node, own_ticket}
use Rattle.ug_rules.proofs.BookLemmas.{book_changed, floor_at, floors_idled, no_race, none_races, nothing_raced, written}

-- if none is raced, no node is
none_there : (raced : Option Entry) → raced ≡ None → (n : Node) → Contains (raced_node raced) n → ⊥
none_there raced e n h =
    let none = subst (λ (o : Option Entry). Contains (raced_node o) n) e h in
    omega (arith, none.1)

module _ (b : BookState) (r : ℕ) (work : Work) (there : r < length b.ranks)
    (is : state_at b.ranks r ≡ Active work) where
  abbrev line : List Name
  line = work.node.line

  abbrev dead : List State
  dead = slice_set b.ranks r (Dead Died)

  abbrev new : BookState
  new = killed_at (Active work) r b

  -- a node that a rank works on still is not below the dead rank's, and another rank worked on it
  not_below : (n : Node) → Contains (nodes_of new.ranks) n
      → WorksOn dead n × (is_ancestor line n.line ≡ false)
  not_below n h =
      let o = idled_old (works_below line) refl dead n (works_from (called_off line dead) n h) in
      (o.0, subst (λ (m : Node). is_ancestor line m.line ≡ false) o.0.node o.1)

  worked_before : (n : Node) → Contains (nodes_of new.ranks) n → Contains (nodes_of b.ranks) n
  worked_before n h =
      let o = free_old b.ranks r (Dead Died) n there dead_is_free (not_below n h).0 in
      works_to b.ranks n o.0

  held_before : (raced : b.raced ≡ None) (n : Node) → Contains (held_nodes new) n
      → Contains (held_nodes b) n
  held_before raced n h = held_cases new (Contains (held_nodes b) n) n
      (λ p. elim (entry_old (entry_of work) (without_below line b.pool) n p) [
        | inl o ↦ in_pool b n (above_old line b.pool n o).0
        | inr e ↦ subst (λ m. Contains (held_nodes b) m) e (own_held b r work there is)
      ])
      (λ w. in_work b n (worked_before n w))
      (λ k. in_race b n k) h

  counts : (name : Name) → times name (held_nodes new) ≤ times name (held_nodes b)
  counts name =
      let f = times name in
      let adds = times_adds name in
      let now = of_held f adds new in
      let before = of_held f adds b in
      let put = of_entry f adds (entry_of work) (without_below line b.pool) in
      let fewer : f (nodes_in (without_below line b.pool)) ≤ f (nodes_in b.pool) =
      of_failed f adds (λ (e : Entry). is_ancestor line e.node.line) b.pool in
      let off = of_idled f adds (works_below line) dead in
      let set_to = of_set f adds b.ranks r (Dead Died) there in
      let had : f (node_at (state_at b.ranks r)) ≡ f (work.node ∷ []) =
      ap (λ (s : State). f (node_at s)) is in
      omega (arith, now, before, put, fewer, off, set_to, had, of_none f adds)

  -- a ticket that is current still is that of another rank, and was current
  ticket_before : (q : ℕ) (d : Current) → IsCurrent (ledger_of new) q d
      → (q ≢ r) × (current_of b.raced (state_at b.ranks q) ≡ Some d)
  ticket_before q d h = free_current b.raced b.ranks r (Dead Died) q d there refl
      (idled_current (works_below line) refl b.raced dead q d (current_is new q d h))

  gone : (raced : b.raced ≡ None) (n : Node) → Contains (held_nodes new) n
      → ¬ IsAncestor line n.line
  gone raced n h = held_cases new (¬ IsAncestor line n.line) n
      (λ p. elim (entry_old (entry_of work) (without_below line b.pool) n p) [
        | inl o ↦ (above_old line b.pool n o).1
        | inr e ↦ λ up. ancestor_not_itself line
            (subst (λ (m : Node). IsAncestor line m.line) (sym e) up)
      ])
      (λ w. λ up. false≢true (sym (not_below n w).1 ∙ test_from_ancestor line n.line up))
      (λ k. absurd (none_there b.raced raced n k)) h

  others : (raced : b.raced ≡ None) (n : Node) → Contains (held_nodes b) n
      → IsAncestor line n.line ⊎ Contains (held_nodes new) n
  others raced n h = held_cases b (IsAncestor line n.line ⊎ Contains (held_nodes new) n) n
      (λ p. elim (above_kept line b.pool n p) [
        | inl up ↦ inl up
        | inr k ↦ inr (in_pool new n (entry_kept (entry_of work) (without_below line b.pool) n k))
      ])
      (λ w.
      let t = works_from b.ranks n w in
      elim (cases_eq t.rank r) [
        | inl e ↦ inr (in_pool new n
            (subst (λ m. Contains (nodes_in new.pool) m) (own_node b r work there is n t e)
            (entry_new (entry_of work) (without_below line b.pool))))
        | inr ne ↦
            let k = others_kept b.ranks r (Dead Died) n t ne in
            elim (cases_Bool (is_ancestor line n.line)) [
              | inl up ↦ inl (ancestor_from_test line n.line up)
              | inr apart ↦
                  let test = subst (λ (m : Node). is_ancestor line m.line ≡ false)
                  (sym k.node) apart in
                  inr (in_work new n (works_to new.ranks n
                  (idled_kept (works_below line) refl dead n k test)))
            ]
      ])
      (λ k. absurd (none_there b.raced raced n k)) h

  ended : (raced : b.raced ≡ None) → AreNamed (held_nodes b) → (q : ℕ) (d : Current)
      → IsCurrent (ledger_of new) q d → d.node ≢ work.node
  ended raced named q d h e =
      let o = ticket_before q d h in
      elim (current_cases b.raced (state_at b.ranks q) d o.1) [
        | inl t ↦
            let at = state_there b.ranks r (Dead Died) q o.0 ∙ t.state in
            let node = ap (λ (c : Current). c.node) t.told ∙ e in
            own_gone b r work there is (Dead Died) refl named
            (in_work (written r (Dead Died) b) work.node
            (subst (λ m. Contains (nodes_of dead) m) node (works_at dead q t.work at)))
        | inr t ↦ none-some t.entry (sym raced ∙ t.is_raced)
      ]

  tickets : (raced : b.raced ≡ None) (q : ℕ) (d : Current) → IsCurrent (ledger_of b) q d
      → (d.node ≡ work.node) ⊎ (IsAncestor line d.node.line ⊎ IsCurrent (ledger_of new) q d)
  tickets raced q d h = elim (cases_eq q r) [
    | inl e ↦
        let at = subst (λ k. IsCurrent (ledger_of b) k d) e h in
        inl (sym (ap (λ (c : Current). c.node) (own_ticket b r work there is d at)))
    | inr ne ↦
        let was = others_current b.raced b.ranks r (Dead Died) q d ne (current_is b q d h) in
        elim (cases_Bool (works_below line (state_at dead q))) [
          | inl off ↦ inr (inl (below_line (state_at dead q) d was off))
          | inr on ↦ inr (inr (is_current new q d
              (ap (current_of b.raced) (state_failed (works_below line) refl dead q on) ∙ was)))
        ]
  ]
    where
      below_line : (s : State) (c : Current) → current_of b.raced s ≡ Some c
          → works_below line s ≡ true → IsAncestor line c.node.line
      below_line (Active w) c told off =
          subst (λ (k : Current). IsAncestor line k.node.line) (same_Some (current_for w) c told)
          (ancestor_from_test line w.node.line off)
      below_line Absent c told off = absurd (false≢true off)
      below_line Idle c told off = absurd (false≢true off)
      below_line (Racing racer) c told off = absurd (false≢true off)
      below_line (Dead how) c told off = absurd (false≢true off)

  -- the ledger's move
  pub death_takes_in : b.raced ≡ None → AreNamed (held_nodes b)
      → HasTakenIn (ledger_of b) (ledger_of new) r (current_for work)
  death_takes_in raced named = record {
    less = record {
      held = held_before raced;
      counts = counts;
      current = λ q d h. is_current b q d (ticket_before q d h).1;
      still = still new;
      last = refl;
    };
    current = own_current b r work there is;
    gone = gone raced;
    others = others raced;
    ended = ended raced named;
    tickets = tickets raced;
  }

  -- the book is one, and sound where it was
  pub death_at_work_keeps : IsBook b → IsBook new
  death_at_work_keeps h =
      let raced = nothing_raced b r work h.race is in
      let moved = death_takes_in raced h.ledger.ticketed.named in
      let p = b.problem in
      book_changed b new.pool new.ranks b.raced new.orders h (dead_carried b h r line)
      (length-map dead (λ (s : State). if works_below line s then Idle else s)
      ∙ length-set b.ranks r (Dead Died))
      (put_in_order (entry_of work) (without_below line b.pool)
      (above_in_order line b.pool h.order))
      (record {
        pool = all_put (HasItsFloor p) (entry_of work) (without_below line b.pool)
            (subst (KeepsItsFloor p) is (floor_at b r there h.floors))
            (All-filter (λ e. not (is_ancestor line e.node.line)) (HasItsFloor p) b.pool
            h.floors.pool);
        ranks = floors_idled p (works_below line) dead
            (All-set (KeepsItsFloor p) b.ranks r (Dead Died) tt h.floors.ranks);
        raced = h.floors.raced;
      })
      (taken_in_ledger (root_of p) r (current_for work) (ledger_of b) (ledger_of new) moved
      h.ledger)
      (no_race new
      (λ t. none_races b r work h.race is (set_fewer_races b.ranks r (Dead Died) there refl
      (idled_fewer_races (works_below line) refl dead t).0))
      raced)

  pub death_at_work_sound : IsBook b → IsSoundBook b → IsSoundBook new
  death_at_work_sound h s =
      let raced = nothing_raced b r work h.race is in
      let moved = death_takes_in raced h.ledger.ticketed.named in
      taken_in_sound b.problem b.settings.gap (one_kept b.best) r (current_for work) (ledger_of b)
      (ledger_of new) moved s
