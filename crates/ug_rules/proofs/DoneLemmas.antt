-- The Done of a rank that works: its node is lost.
use Rattle.std.proofs.Common.{◌≡◌, ◌⊎◌, inl, inr, ℕ, ◌<◌, ◌≤◌, length, refl, ap, sym, subst, arith}
use Rattle.std.specs.Prelude.{Contains}
use Rattle.std.proofs.lemmas.Bool.{cases_eq}
use Rattle.std.proofs.lemmas.List.{length-set}
use Rattle.std.proofs.lemmas.List.Elements.{All-set}
use Rattle.ug_problem.specs.Instances.{root_of}
use Rattle.ug_problem.specs.Incumbents.{one_kept}
use Rattle.ug_nodes.specs.declared.name.Name.{Name}
use Rattle.ug_nodes.specs.declared.node.Node.{Node}
use Rattle.ug_ranks.specs.declared.state.Work.{Work}
use Rattle.ug_ranks.specs.declared.state.State.TheVariants.{Idle, Active}
use Rattle.ug_ranks.specs.States.{state_at}
use Rattle.ug_ledger.specs.Ledgers.{Current, IsCurrent}
use Rattle.ug_ledger.specs.Names.{AreNamed}
use Rattle.ug_nodes.specs.Primitive.{times}
use Rattle.ug_ledger.specs.Moves.{HasDone}
use Rattle.ug_ledger.specs.Dones.{IsSearched}
use Rattle.ug_ledger.proofs.DoneLemmas.{done_ledger, done_sound}
use Rattle.ug_rules.specs.State.{BookState, current_for, held_nodes, ledger_of, nodes_of}
use Rattle.ug_rules.specs.Hearing.{done_at}
use Rattle.ug_rules.specs.Books.{IsBook, IsSoundBook, KeepsItsFloor}
use Rattle.ug_rules.proofs.WorkLemmas.{free_old, idle_is_free, others_kept, works_from, works_to}
use Rattle.ug_rules.proofs.HeldLemmas.{current_is, held_cases, in_pool, in_race, in_work, is_current, still}
use Rattle.ug_rules.proofs.TicketLemmas.{free_current, others_current}
use Rattle.ug_rules.proofs.CountLemmas.{of_held, of_none, of_set, times_adds}
use Rattle.ug_rules.proofs.RacerLemmas.{set_fewer_races}
use Rattle.ug_rules.proofs.OwnLemmas.{own_current, own_gone, own_node, own_ticket}
use Rattle.ug_rules.proofs.BookLemmas.{book_changed, no_race, none_races, nothing_raced}

module _ (b : BookState) (r : ℕ) (work : Work) (there : r < length b.ranks)
    (is : state_at b.ranks r ≡ Active work) where
  abbrev new : BookState
  new = done_at (Active work) r b

  worked_before : (n : Node) → Contains (nodes_of new.ranks) n → Contains (nodes_of b.ranks) n
  worked_before n h =
      let o = free_old b.ranks r Idle n there idle_is_free (works_from new.ranks n h) in
      works_to b.ranks n o.0

  counts : (name : Name) → times name (held_nodes new) ≤ times name (held_nodes b)
  counts name =
      let f = times name in
      let adds = times_adds name in
      let set_to = of_set f adds b.ranks r Idle there in
      omega (arith, of_held f adds new, of_held f adds b, set_to, of_none f adds)

  ticket_before : (q : ℕ) (d : Current) → IsCurrent (ledger_of new) q d
      → IsCurrent (ledger_of b) q d
  ticket_before q d h = is_current b q d
      (free_current b.raced b.ranks r Idle q d there refl (current_is new q d h)).1

  others : (n : Node) → Contains (held_nodes b) n
      → (n ≡ work.node) ⊎ Contains (held_nodes new) n
  others n h = held_cases b ((n ≡ work.node) ⊎ Contains (held_nodes new) n) n
      (λ p. inr (in_pool new n p))
      (λ w.
      let t = works_from b.ranks n w in
      elim (cases_eq t.rank r) [
        | inl e ↦ inl (sym (own_node b r work there is n t e))
        | inr ne ↦
            inr (in_work new n (works_to new.ranks n (others_kept b.ranks r Idle n t ne)))
      ])
      (λ k. inr (in_race new n k)) h

  tickets : (q : ℕ) (d : Current) → IsCurrent (ledger_of b) q d
      → (d.node ≡ work.node) ⊎ IsCurrent (ledger_of new) q d
  tickets q d h = elim (cases_eq q r) [
    | inl e ↦
        let at = subst (λ k. IsCurrent (ledger_of b) k d) e h in
        inl (sym (ap (λ (c : Current). c.node) (own_ticket b r work there is d at)))
    | inr ne ↦ inr (is_current new q d
        (others_current b.raced b.ranks r Idle q d ne (current_is b q d h)))
  ]

  -- the ledger's move
  pub done_works_off : AreNamed (held_nodes b)
      → HasDone (ledger_of b) (ledger_of new) r (current_for work)
  done_works_off named = record {
    less = record {
      held = λ n h. held_cases new (Contains (held_nodes b) n) n (λ p. in_pool b n p)
          (λ w. in_work b n (worked_before n w)) (λ k. in_race b n k) h;
      counts = counts;
      current = ticket_before;
      still = still new;
      last = refl;
    };
    current = own_current b r work there is;
    gone = own_gone b r work there is Idle refl named;
    others = others;
    tickets = tickets;
  }

  -- the book is one, and sound where it was, if the ticket's box was searched
  pub done_at_work_keeps : IsBook b → IsBook new
  done_at_work_keeps h =
      book_changed b b.pool new.ranks b.raced b.orders h h.orders (length-set b.ranks r Idle) h.order
      (record {
        pool = h.floors.pool;
        ranks = All-set (KeepsItsFloor b.problem) b.ranks r Idle tt h.floors.ranks;
        raced = h.floors.raced;
      })
      (done_ledger (root_of b.problem) r (current_for work) (ledger_of b) (ledger_of new)
      (done_works_off h.ledger.ticketed.named) h.ledger)
      (no_race new
      (λ t. none_races b r work h.race is (set_fewer_races b.ranks r Idle there refl t))
      (nothing_raced b r work h.race is))

  pub done_at_work_sound : IsBook b
      → IsSearched b.problem b.settings.gap (one_kept b.best) (current_for work)
      → IsSoundBook b → IsSoundBook new
  done_at_work_sound h searched s =
      done_sound b.problem b.settings.gap (one_kept b.best) r (current_for work) searched
      (ledger_of b) (ledger_of new) (done_works_off h.ledger.ticketed.named) s
