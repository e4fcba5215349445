-- The death of a racer, and a Done in a race.
use Rattle.std.proofs.Common.{◌≡◌, ◌≢◌, ◌⊎◌, inl, inr, ℕ, ◌<◌, ◌≤◌, List, [], ◌∷◌, ◌++◌, length, refl, ap, sym, ◌∙◌, subst, arith}
use Rattle.std.specs.Prelude.{All, Contains, IsSome, IfSome, if◌then◌else◌, Option, Some, None}
use Rattle.std.proofs.lemmas.Bool.{false≢true, true≢false}
use Rattle.std.proofs.lemmas.List.{length-map, length-set}
use Rattle.std.proofs.lemmas.List.Elements.{All-cons, All-nil, All-set}
use Rattle.std.proofs.lemmas.Option.{none-some}
use Rattle.ug_problem.specs.Instances.{root_of}
use Rattle.ug_problem.specs.Incumbents.{one_kept}
use Rattle.ug_nodes.specs.declared.name.Name.{Name}
use Rattle.ug_nodes.specs.declared.node.Node.{Node}
use Rattle.ug_pool.specs.declared.entry.Entry.{Entry}
use Rattle.ug_pool.specs.Pools.{with_entry}
use Rattle.ug_ranks.specs.declared.state.Racer.{Racer}
use Rattle.ug_ranks.specs.declared.state.Off.TheVariants.{Died}
use Rattle.ug_ranks.specs.declared.state.State.{State}
use Rattle.ug_ranks.specs.declared.state.State.TheVariants.{Idle, Racing, Dead}
use Rattle.ug_ranks.specs.States.{state_at}
use Rattle.ug_ledger.specs.Ledgers.{Current, IsCurrent}
use Rattle.ug_nodes.specs.Primitive.{times}
use Rattle.ug_ledger.specs.Moves.{HasDone, HasEnded}
use Rattle.ug_ledger.specs.Dones.{IsSearched}
use Rattle.ug_ledger.proofs.LessLemmas.{alone_keeps_work, ended_ledger, ended_sound}
use Rattle.ug_ledger.proofs.DoneLemmas.{done_ledger, done_sound}
use Rattle.ug_rules.specs.State.{BookState, current_of, held_nodes, ledger_of, node_at, nodes_in, nodes_of, raced_node}
use Rattle.ug_rules.specs.Ranks.{ranks_that}
use Rattle.ug_ranks.specs.Looks.{is_racing}
use Rattle.ug_rules.specs.Deaths.{killed_at, lost_by, put_back, with_dead}
use Rattle.ug_rules.specs.Hearing.{done_at}
use Rattle.ug_rules.specs.Books.{HasItsFloor, IsBook, IsRaceAlone, IsSoundBook, KeepsItsFloor}
use Rattle.ug_rules.proofs.WorkLemmas.{idled_old, same_nodes, works_from, works_to}
use Rattle.ug_rules.proofs.HeldLemmas.{current_is, held_cases, is_current, raced_is, still}
use Rattle.ug_rules.proofs.TicketLemmas.{free_current, idled_current, without_race}
use Rattle.ug_rules.proofs.CountLemmas.{of_held, of_idled, of_none, times_adds}
use Rattle.ug_rules.proofs.PoolLemmas.{put_in_order}
use Rattle.ug_rules.proofs.RacerLemmas.{SomeRaces, are_racing, idled_fewer_races}
use Rattle.ug_rules.proofs.BookLemmas.{book_changed, floors_idled, no_race}

-- the node that is raced is there, or not
raced_entry : (raced : Option Entry) → IsSome raced → (entry : Entry) × (raced ≡ Some entry)
raced_entry None h = absurd (false≢true h)
raced_entry (Some entry) h = (entry, refl)

-- the ranks that race are some, or none
some_or_none : (ss : List State)
    → ((first : ℕ) × (rest : List ℕ) × (ranks_that is_racing ss ≡ first ∷ rest))
    ⊎ (ranks_that is_racing ss ≡ [])
some_or_none ss = by (ranks_that is_racing ss) refl
  where
    by : (rs : List ℕ) → ranks_that is_racing ss ≡ rs
        → ((first : ℕ) × (rest : List ℕ) × (ranks_that is_racing ss ≡ first ∷ rest))
        ⊎ (ranks_that is_racing ss ≡ [])
    by [] e = inr e
    by (first ∷ rest) e = inl (first, rest, e)

-- if one node alone is held, and still is, tickets that end leave it
ended_alone : (old new : BookState) (only : Node) → held_nodes new ≡ held_nodes old
    → ((n : Node) → Contains (held_nodes old) n → n ≡ only)
    → ((q : ℕ) (d : Current) → IsCurrent (ledger_of new) q d → IsCurrent (ledger_of old) q d)
    → (ledger_of new).last ≡ (ledger_of old).last
    → HasEnded (ledger_of old) (ledger_of new)
ended_alone old new only same alone tickets last = record {
  less = record {
    held = λ n h. subst (λ ns. Contains ns n) same h;
    counts = λ name. let e = ap (times name) same in omega (arith, e);
    current = tickets;
    still = still new;
    last = last;
  };
  kept = λ n h. subst (λ ns. Contains ns n) (sym same) h;
  work = alone_keeps_work (ledger_of old) (ledger_of new) only
      (λ n h. alone n (subst (λ ns. Contains ns n) same h));
}

module _ (b : BookState) (r : ℕ) (racer : Racer) (there : r < length b.ranks)
    (is : state_at b.ranks r ≡ Racing racer) (alone : IsRaceAlone b) where
  races : SomeRaces b.ranks
  races = (r, ap is_racing is)

  pub racing_pool : b.pool ≡ []
  racing_pool = alone.pool (are_racing b.ranks races)

  pub racing_nodes : nodes_of b.ranks ≡ []
  racing_nodes = alone.ranks (are_racing b.ranks races)

  pub racing_entry : (entry : Entry) × (b.raced ≡ Some entry)
  racing_entry = raced_entry b.raced (alone.racing (are_racing b.ranks races))

  -- the node that is raced is the only one held
  only_one : (entry : Entry) → b.raced ≡ Some entry → (n : Node) → Contains (held_nodes b) n
      → n ≡ entry.node
  only_one entry e n h = held_cases b (n ≡ entry.node) n
      (λ p. absurd (nowhere (nodes_in b.pool) (ap nodes_in racing_pool) p))
      (λ w. absurd (nowhere (nodes_of b.ranks) racing_nodes w))
      (λ k. sym (raced_is entry n (subst (λ (o : Option Entry). Contains (raced_node o) n) e k))) h
    where
      nowhere : (ns : List Node) → ns ≡ [] → Contains ns n → ⊥
      nowhere ns none k =
          let there_is = subst (λ ms. Contains ms n) none k in omega (arith, there_is.1)

  -- 1: a racer was lost, and others race
  abbrev fewer : BookState
  fewer = with_dead r b

  dead_nodes : nodes_of fewer.ranks ≡ nodes_of b.ranks
  dead_nodes = same_nodes b.ranks r (Dead Died) (sym (ap node_at is))

  fewer_ended : HasEnded (ledger_of b) (ledger_of fewer)
  fewer_ended = ended_alone b fewer racing_entry.0.node
      (ap (λ (ns : List Node). nodes_in b.pool ++ ns ++ raced_node b.raced) dead_nodes)
      (only_one racing_entry.0 racing_entry.1)
      (λ q d h. is_current b q d
      (free_current b.raced b.ranks r (Dead Died) q d there refl (current_is fewer q d h)).1)
      refl

  fewer_keeps : ranks_that is_racing fewer.ranks ≢ [] → IsBook b → IsBook fewer
  fewer_keeps some h =
      book_changed b b.pool fewer.ranks b.raced b.orders h h.orders (length-set b.ranks r (Dead Died)) h.order
      (record {
        pool = h.floors.pool;
        ranks = All-set (KeepsItsFloor b.problem) b.ranks r (Dead Died) tt h.floors.ranks;
        raced = h.floors.raced;
      })
      (ended_ledger (root_of b.problem) (ledger_of b) (ledger_of fewer) fewer_ended h.ledger)
      (record {
        raced = λ k. some;
        racing = λ k. alone.racing (are_racing b.ranks races);
        pool = λ k. racing_pool;
        ranks = λ k. dead_nodes ∙ racing_nodes;
      })

  -- 2: the last racer was lost
  module _ (entry : Entry) (raced : b.raced ≡ Some entry) where
    abbrev lost : BookState
    lost = put_back entry (record fewer { raced = None })

    lost_held : held_nodes lost ≡ held_nodes b
    lost_held =
        let pool_now : nodes_in (with_entry entry b.pool) ≡ entry.node ∷ [] =
        ap (λ es. nodes_in (with_entry entry es)) racing_pool in
        let ranks_now : nodes_of fewer.ranks ≡ [] = dead_nodes ∙ racing_nodes in
        let pool_was : nodes_in b.pool ≡ [] = ap nodes_in racing_pool in
        let raced_was : raced_node b.raced ≡ entry.node ∷ [] = ap raced_node raced in
        side (nodes_in lost.pool) (nodes_of lost.ranks) (nodes_in b.pool) (nodes_of b.ranks)
        (raced_node b.raced) pool_now ranks_now pool_was racing_nodes raced_was
      where
        side : (ps ws qs vs rs : List Node) → ps ≡ entry.node ∷ [] → ws ≡ [] → qs ≡ [] → vs ≡ []
            → rs ≡ entry.node ∷ [] → ps ++ ws ++ [] ≡ qs ++ vs ++ rs
        side ps ws qs vs rs a c d e f = rw (a, c, d, e, f) refl

    lost_ended : HasEnded (ledger_of b) (ledger_of lost)
    lost_ended = ended_alone b lost entry.node lost_held (only_one entry raced)
        (λ q d h. is_current b q d (free_current b.raced b.ranks r (Dead Died) q d there refl
        (without_race b.raced (state_at fewer.ranks q) d (current_is lost q d h))).1)
        refl

    lost_keeps : ranks_that is_racing fewer.ranks ≡ [] → IsBook b → IsBook lost
    lost_keeps none h =
        let p = b.problem in
        let own : HasItsFloor p entry =
        subst (λ (o : Option Entry). IfSome o (HasItsFloor p)) raced h.floors.raced in
        let one : All (HasItsFloor p) (with_entry entry []) =
        All-cons (HasItsFloor p) entry [] own (All-nil (HasItsFloor p)) in
        book_changed b lost.pool fewer.ranks None b.orders h h.orders (length-set b.ranks r (Dead Died))
        (put_in_order entry b.pool h.order)
        (record {
          pool = subst (λ es. All (HasItsFloor p) (with_entry entry es)) (sym racing_pool) one;
          ranks = All-set (KeepsItsFloor p) b.ranks r (Dead Died) tt h.floors.ranks;
          raced = tt;
        })
        (ended_ledger (root_of p) (ledger_of b) (ledger_of lost) lost_ended h.ledger)
        (no_race lost (λ t. are_racing fewer.ranks t none) refl)

  -- so the book is one after the death of a racer, and sound where it was
  racer_lost : (rs : List ℕ) (raced : Option Entry) → ranks_that is_racing fewer.ranks ≡ rs
      → b.raced ≡ raced → (Q : BookState → Type 0)
      → (ranks_that is_racing fewer.ranks ≢ [] → Q fewer)
      → ((entry : Entry) → (e : b.raced ≡ Some entry) → ranks_that is_racing fewer.ranks ≡ []
      → Q (put_back entry (record fewer { raced = None })))
      → Q (lost_by rs raced fewer)
  racer_lost (q ∷ rs) raced some e Q f g = f (λ none. not_none (sym some ∙ none))
    where
      not_none : (q ∷ rs) ≡ [] → ⊥
      not_none h = cc
  racer_lost [] None none e Q f g = absurd (none-some racing_entry.0 (sym e ∙ racing_entry.1))
  racer_lost [] (Some entry) none e Q f g = g entry e none

  pub death_in_race_keeps : IsBook b → IsBook (killed_at (Racing racer) r b)
  death_in_race_keeps h = racer_lost (ranks_that is_racing fewer.ranks) b.raced refl refl IsBook
      (λ some. fewer_keeps some h) (λ entry e none. lost_keeps entry e none h)

  pub death_in_race_ends : HasEnded (ledger_of b) (ledger_of (killed_at (Racing racer) r b))
  death_in_race_ends = racer_lost (ranks_that is_racing fewer.ranks) b.raced refl refl
      (λ k. HasEnded (ledger_of b) (ledger_of k)) (λ some. fewer_ended)
      (λ entry e none. lost_ended entry e)

  pub death_in_race_sound : IsSoundBook b → IsSoundBook (killed_at (Racing racer) r b)
  death_in_race_sound s =
      racer_lost (ranks_that is_racing fewer.ranks) b.raced refl refl IsSoundBook
      (λ some. ended_sound b.problem b.settings.gap (one_kept b.best) (ledger_of b) (ledger_of fewer)
      fewer_ended s)
      (λ entry e none. ended_sound b.problem b.settings.gap (one_kept b.best) (ledger_of b)
      (ledger_of (put_back entry (record fewer { raced = None }))) (lost_ended entry e) s)

  -- 3: a racer is done
  abbrev over : BookState
  over = done_at (Racing racer) r b

  over_worked : (n : Node) → Contains (nodes_of over.ranks) n → Contains (nodes_of b.ranks) n
  over_worked n h =
      works_to b.ranks n (idled_old is_racing refl b.ranks n (works_from over.ranks n h)).0

  over_none : (n : Node) → Contains (held_nodes over) n → ⊥
  over_none n h = held_cases over ⊥ n
      (λ p. nowhere (nodes_in b.pool) (ap nodes_in racing_pool) p)
      (λ w. nowhere (nodes_of b.ranks) racing_nodes (over_worked n w))
      (λ k. omega (arith, k.1)) h
    where
      nowhere : (ns : List Node) → ns ≡ [] → Contains ns n → ⊥
      nowhere ns none k =
          let there_is = subst (λ ms. Contains ms n) none k in omega (arith, there_is.1)

  over_counts : (name : Name) → times name (held_nodes over) ≤ times name (held_nodes b)
  over_counts name =
      let f = times name in
      let adds = times_adds name in
      omega (
        arith,
        of_held f adds over,
        of_held f adds b,
        of_idled f adds is_racing b.ranks,
        of_none f adds,
      )

  -- what the racer's ticket is current for
  abbrev raced_work : Entry → Current
  raced_work entry = record { ticket = racer.ticket; node = entry.node; taken = [] }

  pub done_ends_race : (entry : Entry) → b.raced ≡ Some entry
      → HasDone (ledger_of b) (ledger_of over) r (raced_work entry)
  done_ends_race entry raced = record {
    less = record {
      held = λ n h. absurd (over_none n h);
      counts = over_counts;
      current = λ q d h. is_current b q d (without_race b.raced (state_at b.ranks q) d
          (idled_current is_racing refl None b.ranks q d (current_is over q d h)));
      still = still over;
      last = refl;
    };
    current = is_current b r (raced_work entry)
        (ap (current_of b.raced) is ∙ ap (λ (o : Option Entry). current_of o (Racing racer)) raced);
    gone = over_none entry.node;
    others = λ n h. inl (only_one entry raced n h);
    tickets = λ q d h. inl (only_one entry raced d.node (still b q d h));
  }

  pub done_in_race_keeps : IsBook b → IsBook over
  done_in_race_keeps h =
      let entry = racing_entry.0 in
      book_changed b b.pool over.ranks None b.orders h h.orders
      (length-map b.ranks (λ (s : State). if is_racing s then Idle else s)) h.order
      (record {
        pool = h.floors.pool;
        ranks = floors_idled b.problem is_racing b.ranks h.floors.ranks;
        raced = tt;
      })
      (done_ledger (root_of b.problem) r (raced_work entry) (ledger_of b) (ledger_of over)
      (done_ends_race entry racing_entry.1) h.ledger)
      (no_race over
      (λ t.
      let o = idled_fewer_races is_racing refl b.ranks t in
      true≢false (sym o.0.1 ∙ o.1))
      refl)

  pub done_in_race_sound : (entry : Entry) → b.raced ≡ Some entry
      → IsSearched b.problem b.settings.gap (one_kept b.best) (raced_work entry)
      → IsSoundBook b → IsSoundBook over
  done_in_race_sound entry raced searched s =
      done_sound b.problem b.settings.gap (one_kept b.best) r (raced_work entry) searched
      (ledger_of b) (ledger_of over) (done_ends_race entry raced) s
