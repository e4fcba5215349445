-- After the first of the pool was given to an idle rank, nothing is lost.
use Rattle.std.proofs.Common.{◌≡◌, ◌≢◌, ◌⊎◌, inl, inr, ℕ, zero, suc, ◌+◌, ◌^◌, ◌<◌, ◌≤◌, List, [], ◌∷◌, length, set, refl, ap, sym, ◌∙◌, subst, arith, false}
use Rattle.std.specs.Prelude.{All, Contains}
use Rattle.std.proofs.lemmas.Bool.{cases_eq}
use Rattle.std.proofs.lemmas.List.{length-map, length-set, map-set}
use Rattle.std.proofs.lemmas.List.Elements.{All-get_or, All-set, All-tail, Contains-append_right}
use Rattle.ug_problem.specs.Instances.{root_of}
use Rattle.ug_problem.specs.Incumbents.{one_kept}
use Rattle.ug_nodes.specs.declared.name.Name.{Name}
use Rattle.ug_nodes.specs.declared.node.Node.{Node}
use Rattle.ug_pool.specs.declared.entry.Entry.{Entry}
use Rattle.ug_pool.specs.Pools.{IsInOrder}
use Rattle.ug_pool.proofs.Places.{rest_in_order}
use Rattle.ug_nodes.specs.Primitive.{times}
use Rattle.ug_ranks.specs.declared.state.Work.{Work}
use Rattle.ug_ranks.specs.declared.state.State.{State}
use Rattle.ug_ranks.specs.declared.state.State.TheVariants.{Absent, Idle, Racing, Active, Dead}
use Rattle.ug_ranks.specs.States.{state_at}
use Rattle.ug_ranks.specs.Changes.{work_of}
use Rattle.ug_ledger.specs.Ledgers.{Current}
use Rattle.ug_ledger.specs.Moves.{HasGiven}
use Rattle.ug_ledger.proofs.GivenLemmas.{given_ledger, given_sound}
use Rattle.ug_rules.specs.State.{BookState, current_of, held_nodes, ledger_of, node_at, nodes_in, nodes_of, ticket_with}
use Rattle.ug_rules.specs.Books.{HasItsFloor, IsBook, IsSoundBook, KeepsItsFloor}
use Rattle.ug_rules.specs.Deciding.{given_to, usual_params}
use Rattle.ug_rules.proofs.OrderLemmas.{given_carried}
use Rattle.ug_rules.proofs.WorkLemmas.{WorksOn, idle_is_free, others_kept, state_here, state_there, works_at, works_from, works_to}
use Rattle.ug_rules.proofs.HeldLemmas.{current_by, held_cases, in_pool, in_race, in_work}
use Rattle.ug_rules.proofs.CountLemmas.{of_held, of_set, times_adds}
use Rattle.ug_rules.proofs.RacerLemmas.{SomeRaces, are_racing, set_fewer_races, some_races}
use Rattle.ug_rules.proofs.BookLemmas.{no_race, none_raced}

-- a rank is idle, the pool has a node, and a ticket number is left
pub record CanBeGiven (b : BookState) (r : ℕ) (entry : Entry) (rest : List Entry) : Type 0 where
  pub there : r < length b.ranks
  pub idle : state_at b.ranks r ≡ Idle
  pub pool : b.pool ≡ entry ∷ rest
  pub number : b.last + 1 < 2 ^ 64

module _ (b : BookState) (r : ℕ) (entry : Entry) (rest : List Entry)
    (can : CanBeGiven b r entry rest) where
  -- the work, and what its ticket is current for
  abbrev its_work : Work
  its_work = work_of (ticket_with b (b.last + 1)) entry.node entry.floor (usual_params b)

  abbrev its_current : Current
  its_current = record { ticket = ticket_with b (b.last + 1); node = entry.node; taken = [] }

  abbrev after : BookState
  after = given_to r entry rest b

  first_there : Contains (nodes_in b.pool) entry.node
  first_there = subst (λ es. Contains (nodes_in es) entry.node) (sym can.pool)
      (0, omega arith, refl)

  rest_there : (n : Node) → Contains (nodes_in rest) n → Contains (nodes_in b.pool) n
  rest_there n h = subst (λ es. Contains (nodes_in es) n) (sym can.pool)
      (Contains-append_right (entry.node ∷ []) (nodes_in rest) n h)

  first_or_rest : (n : Node) → Contains (entry.node ∷ nodes_in rest) n
      → (entry.node ≡ n) ⊎ Contains (nodes_in rest) n
  first_or_rest n (zero, l, same) = inl same
  first_or_rest n (suc k, l, same) = inr (k, omega (arith, l), same)

  -- the node of a rank that works then
  work_old : (n : Node) → WorksOn (set b.ranks r (Active its_work)) n → Contains (held_nodes b) n
  work_old n t = elim (cases_eq t.rank r) [
    | inl e ↦
        let here = subst (λ q. state_at (set b.ranks r (Active its_work)) q
        ≡ Active t.work) e t.state in
        let same = sym (state_here b.ranks r (Active its_work) can.there) ∙ here in
        subst (λ m. Contains (held_nodes b) m) (ap node_in same ∙ t.node)
        (in_pool b entry.node first_there)
    | inr ne ↦ in_work b n (works_to b.ranks n (record {
      rank = t.rank;
      work = t.work;
      state = sym (state_there b.ranks r (Active its_work) t.rank ne) ∙ t.state;
      node = t.node;
    }))
  ]
    where
      node_in : State → Node
      node_in Absent = entry.node
      node_in Idle = entry.node
      node_in (Racing racer) = entry.node
      node_in (Active work) = work.node
      node_in (Dead how) = entry.node

  given_old : (n : Node) → Contains (held_nodes after) n → Contains (held_nodes b) n
  given_old n h = held_cases after (Contains (held_nodes b) n) n
      (λ pool. in_pool b n (rest_there n pool))
      (λ work. work_old n (works_from (set b.ranks r (Active its_work)) n work))
      (λ race. in_race b n race) h

  first_at_work : Contains (held_nodes after) entry.node
  first_at_work = in_work after entry.node
      (works_at (set b.ranks r (Active its_work)) r its_work
      (state_here b.ranks r (Active its_work) can.there))

  work_kept : (n : Node) (t : WorksOn b.ranks n) → Contains (held_nodes after) n
  work_kept n t =
      let ne : t.rank ≢ r = λ e.
      idle_is_free t.work (sym can.idle
      ∙ subst (λ q. state_at b.ranks q ≡ Active t.work) e t.state) in
      in_work after n (works_to (set b.ranks r (Active its_work)) n
      (others_kept b.ranks r (Active its_work) n t ne))

  given_kept : (n : Node) → Contains (held_nodes b) n → Contains (held_nodes after) n
  given_kept n h = held_cases b (Contains (held_nodes after) n) n
      (λ pool. elim (first_or_rest n (subst (λ es. Contains (nodes_in es) n) can.pool pool)) [
        | inl same ↦ subst (λ m. Contains (held_nodes after) m) same first_at_work
        | inr more ↦ in_pool after n more
      ])
      (λ work. work_kept n (works_from b.ranks n work))
      (λ race. in_race after n race) h

  given_times : (name : Name) → times name (held_nodes after) ≤ times name (held_nodes b)
  given_times name =
      let f = times name in
      let adds = times_adds name in
      let wrote = subst
      (λ s. f (nodes_of (set b.ranks r (Active its_work))) + f (node_at s)
      ≡ f (nodes_of b.ranks) + f (entry.node ∷ []))
      can.idle (of_set f adds b.ranks r (Active its_work) can.there) in
      let took : f (nodes_in b.pool) ≡ f (entry.node ∷ []) + f (nodes_in rest) =
      ap (λ es. f (nodes_in es)) can.pool ∙ adds (entry.node ∷ []) (nodes_in rest) in
      omega (arith, of_held f adds b, of_held f adds after, wrote, took)

  has_given : HasGiven (ledger_of b) (ledger_of after) r its_current
  has_given = record {
    there = subst (λ n. r < n) (sym (length-map b.ranks (current_of b.raced))) can.there;
    free = current_by b.raced b.ranks r ∙ ap (current_of b.raced) can.idle;
    held = given_old;
    kept = given_kept;
    counts = given_times;
    node = in_pool b entry.node first_there;
    fresh = refl;
    run = refl;
    number = omega arith;
    ranks = map-set (current_of b.raced) b.ranks r (Active its_work);
    last = refl;
  }

  none_there : IsBook b → SomeRaces b.ranks → ⊥
  none_there h t =
      let none = h.race.pool (are_racing b.ranks t) in
      let there = subst (λ es. Contains (nodes_in es) entry.node) none first_there in
      omega (arith, there.1)

  pub given_book : IsBook b → IsBook after
  given_book h = record {
    problem = h.problem;
    run = h.run;
    settings = h.settings;
    incumbent = h.incumbent;
    ranks = length-set b.ranks r (Active its_work) ∙ h.ranks;
    order = rest_in_order entry rest (subst IsInOrder can.pool h.order);
    floors = record {
      pool = All-tail (HasItsFloor b.problem) entry rest pool_floors;
      ranks = All-set (KeepsItsFloor b.problem) b.ranks r (Active its_work)
          (All-get_or (HasItsFloor b.problem) (entry ∷ rest) 0 entry (omega arith) pool_floors)
          h.floors.ranks;
      raced = h.floors.raced;
    };
    ledger = given_ledger (root_of b.problem) r its_current (ledger_of b)
        (ledger_of after) has_given h.ledger;
    race = no_race after
        (λ t. none_there h (set_fewer_races b.ranks r (Active its_work) can.there refl t))
        (none_raced b.raced (λ some. none_there h (some_races b.ranks (h.race.raced some))));
    number = can.number;
    orders = given_carried b h.run h.problem h.settings.gap h.incumbent r (b.last + 1) (usual_params b)
        false entry (omega arith)
        (All-get_or (HasItsFloor b.problem) (entry ∷ rest) 0 entry (omega arith) pool_floors)
        h.orders;
  }
    where
      pool_floors : All (HasItsFloor b.problem) (entry ∷ rest)
      pool_floors = subst (λ es. All (HasItsFloor b.problem) es) can.pool h.floors.pool

  pub given_stays_sound : IsSoundBook b → IsSoundBook after
  given_stays_sound s = given_sound b.problem b.settings.gap (one_kept b.best) r its_current (ledger_of b)
      (ledger_of after) has_given s
