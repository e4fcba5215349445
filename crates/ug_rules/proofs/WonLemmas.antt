-- After a race was won, nothing is lost: the node that was raced is the winner's.
use Rattle.std.proofs.Common.{◌≡◌, inl, inr, ℕ, zero, suc, ◌+◌, ◌<◌, ◌≤◌, List, [], ◌∷◌, length, set, refl, ap, sym, ◌∙◌, subst, arith}
use Rattle.std.specs.Prelude.{Contains, if◌then◌else◌, IfSome, IsSome, Option, Some, None}
use Rattle.std.proofs.lemmas.Bool.{cases_eq, false≢true}
use Rattle.std.proofs.lemmas.List.{length-map, length-set}
use Rattle.std.proofs.lemmas.List.Elements.{All-set, Contains-append_cases}
use Rattle.ug_problem.specs.Instances.{root_of}
use Rattle.ug_problem.specs.Incumbents.{one_kept}
use Rattle.ug_nodes.specs.declared.name.Name.{Name}
use Rattle.ug_nodes.specs.declared.node.Node.{Node}
use Rattle.ug_pool.specs.declared.entry.Entry.{Entry}
use Rattle.ug_nodes.specs.Primitive.{times}
use Rattle.ug_rules.specs.declared.contender.Contender.{Contender}
use Rattle.ug_ranks.specs.declared.state.Racer.{Racer}
use Rattle.ug_ranks.specs.declared.state.Work.{Work}
use Rattle.ug_ranks.specs.declared.state.State.{State}
use Rattle.ug_ranks.specs.declared.state.State.TheVariants.{Absent, Idle, Racing, Active, Dead}
use Rattle.ug_ranks.specs.States.{state_at}
use Rattle.ug_ranks.specs.Changes.{won, work_of}
use Rattle.ug_ledger.specs.Ledgers.{Current, IsCurrent}
use Rattle.ug_ledger.specs.Moves.{HasEnded}
use Rattle.ug_ledger.proofs.LessLemmas.{alone_keeps_work, ended_ledger, ended_sound}
use Rattle.ug_rules.specs.State.{BookState, current_of, held_nodes, ledger_of, node_at, nodes_in, nodes_of, raced_node}
use Rattle.ug_rules.specs.Ranks.{of_ranks, racer_at}
use Rattle.ug_ranks.specs.Looks.{is_racing}
use Rattle.ug_rules.specs.Books.{HasItsFloor, IsBook, Keeps, KeepsItsFloor}
use Rattle.ug_rules.specs.Deciding.{IsRaceWon, race_won, ranks_won}
use Rattle.ug_rules.proofs.OrderLemmas.{won_carried}
use Rattle.ug_rules.proofs.WorkLemmas.{WorksOn, idled, idled_old, state_here, state_there, state_passed, works_at, works_from, works_to}
use Rattle.ug_rules.proofs.HeldLemmas.{current_is, held_cases, in_pool, in_race, in_work, is_current, raced_is, still}
use Rattle.ug_rules.proofs.TicketLemmas.{idled_current, without_race}
use Rattle.ug_rules.proofs.CountLemmas.{of_held, of_idled, of_set, times_adds}
use Rattle.ug_rules.proofs.RacerLemmas.{SomeRaces, are_racing, idled_fewer_races, set_fewer_races}
use Rattle.ug_rules.proofs.BookLemmas.{book_changed, floors_idled, no_race}

-- racer number q of the states, counted from k
pub record IsRacerFrom (k : ℕ) (ss : List State) (racer : Contender) : Type 0 where
  pub place : ℕ
  pub there : place < length ss
  pub named : racer.rank ≡ k + place
  pub its : Racer
  pub state : state_at ss place ≡ Racing its

pub racer_from : (k : ℕ) (ss : List State) (racer : Contender) → Contains (of_ranks racer_at k ss) racer
    → IsRacerFrom k ss racer
racer_from k [] racer h = absurd (omega (arith, h.1))
racer_from k (s ∷ ss) racer h =
    elim (Contains-append_cases (racer_at k s) (of_ranks racer_at (k + 1) ss) racer h) [
      | inl own ↦ here s own
      | inr more ↦
          let t = racer_from (k + 1) ss racer more in
          record {
            place = suc t.place;
            there = omega (arith, t.there);
            named = omega (arith, t.named);
            its = t.its;
            state = t.state;
          }
    ]
  where
    here : (t : State) → Contains (racer_at k t) racer → IsRacerFrom k (t ∷ ss) racer
    here (Racing its) (zero, l, same) = record {
      place = 0;
      there = omega arith;
      named = omega (arith, ap (λ (x : Contender). x.rank) same);
      its = its;
      state = refl;
    }
    here (Racing its) (suc j, l, same) = absurd (omega (arith, l))
    here Absent at = absurd (omega (arith, at.1))
    here Idle at = absurd (omega (arith, at.1))
    here (Active work) at = absurd (omega (arith, at.1))
    here (Dead how) at = absurd (omega (arith, at.1))

-- a rank races for the node of this entry, and has won
pub record HasWon (b : BookState) (rank : ℕ) (its : Racer) (entry : Entry) : Type 0 where
  pub there : rank < length b.ranks
  pub state : state_at b.ranks rank ≡ Racing its
  pub raced : b.raced ≡ Some entry
  pub pool : b.pool ≡ []
  pub none : nodes_of b.ranks ≡ []

is_some : (raced : Option Entry) → IsSome raced → (entry : Entry) × (raced ≡ Some entry)
is_some None h = absurd (false≢true h)
is_some (Some entry) h = (entry, refl)

has_won : (b : BookState) (rank : ℕ) → IsBook b → IsRaceWon b rank
    → (its : Racer) × (entry : Entry) × HasWon b rank its entry
has_won b rank h w =
    let t = racer_from 0 b.ranks w.winner.racer w.winner.first.among in
    let same : t.place ≡ rank = omega (arith, t.named, w.winner.named) in
    let at = subst (λ q. state_at b.ranks q ≡ Racing t.its) same t.state in
    let some = are_racing b.ranks (rank, ap is_racing at) in
    let raced = is_some b.raced (h.race.racing some) in (
      t.its,
      raced.0,
      record {
        there = omega (arith, t.there, same);
        state = at;
        raced = raced.1;
        pool = h.race.pool some;
        none = h.race.ranks some;
      },
    )

module _ (b : BookState) (rank : ℕ) (its : Racer) (entry : Entry)
    (w : HasWon b rank its entry) where
  abbrev its_work : Work
  its_work = record (work_of its.ticket entry.node entry.floor its.params) {
    «open» = its.«open»;
    reported = its.floor;
  }

  abbrev freed : List State
  freed = idled is_racing b.ranks

  abbrev ranks_after : List State
  ranks_after = set freed rank (Active its_work)

  abbrev after : BookState
  after = record (race_won rank b) { ranks = ranks_after }

  is_after : race_won rank b ≡ after
  is_after = ap (λ ss. record (race_won rank b) { ranks = ss })
      (ap (λ raced. ranks_won rank raced b.ranks) w.raced
      ∙ ap (λ s. set freed rank (won entry.node entry.floor s)) w.state)

  wide : rank < length freed
  wide = subst (λ n. rank < n)
      (sym (length-map b.ranks
      (λ (state : State). if is_racing state then Idle else state))) w.there

  winner_works : Contains (held_nodes after) entry.node
  winner_works = in_work after entry.node
      (works_at ranks_after rank its_work (state_here freed rank (Active its_work) wide))

  node_or : Node → State → Node
  node_or n Absent = n
  node_or n Idle = n
  node_or n (Racing racer) = n
  node_or n (Active work) = work.node
  node_or n (Dead how) = n

  -- the one node that is held then
  only : (n : Node) → Contains (held_nodes after) n → n ≡ entry.node
  unfolding node_or
  only n h = held_cases after (n ≡ entry.node) n
      (λ pool. absurd (omega (arith, (subst (λ es. Contains (nodes_in es) n) w.pool pool).1)))
      (λ work. works (works_from ranks_after n work))
      (λ race. absurd (omega (arith, race.1))) h
    where
      works : WorksOn ranks_after n → n ≡ entry.node
      works t = elim (cases_eq t.rank rank) [
        | inl e ↦
            let at = subst (λ q. state_at ranks_after q ≡ Active t.work) e t.state in
            let same = sym (state_here freed rank (Active its_work) wide) ∙ at in
            sym (ap (node_or n) same ∙ t.node)
        | inr ne ↦
            let old = (idled_old is_racing refl b.ranks n (record {
              rank = t.rank;
              work = t.work;
              state = sym (state_there freed rank (Active its_work) t.rank ne) ∙ t.state;
              node = t.node;
            })).0 in
            absurd (omega (arith, (subst (λ ns. Contains ns n) w.none (works_to b.ranks n old)).1))
      ]

  raced_held : Contains (held_nodes b) entry.node
  raced_held = in_race b entry.node
      (subst (λ raced. Contains (raced_node raced) entry.node) (sym w.raced) (0, omega arith, refl))

  won_old : (n : Node) → Contains (held_nodes after) n → Contains (held_nodes b) n
  won_old n h = subst (λ m. Contains (held_nodes b) m) (sym (only n h)) raced_held

  won_kept : (n : Node) → Contains (held_nodes b) n → Contains (held_nodes after) n
  won_kept n h = held_cases b (Contains (held_nodes after) n) n
      (λ pool. in_pool after n pool)
      (λ work. absurd (omega (arith, (subst (λ ns. Contains ns n) w.none work).1)))
      (λ race. subst (λ m. Contains (held_nodes after) m)
      (raced_is entry n (subst (λ raced. Contains (raced_node raced) n) w.raced race)) winner_works)
      h

  won_times : (name : Name) → times name (held_nodes after) ≤ times name (held_nodes b)
  won_times name =
      let f = times name in
      let adds = times_adds name in
      let idle = state_passed is_racing refl b.ranks rank (ap is_racing w.state) in
      let wrote = subst
      (λ s. f (nodes_of ranks_after) + f (node_at s) ≡ f (nodes_of freed) + f (entry.node ∷ []))
      idle (of_set f adds freed rank (Active its_work) wide) in
      let fewer = of_idled f adds is_racing b.ranks in
      let raced : f (raced_node b.raced)
      ≡ f (entry.node ∷ []) = ap (λ raced. f (raced_node raced)) w.raced in
      omega (arith, of_held f adds b, of_held f adds after, wrote, fewer, raced)

  won_current : (q : ℕ) (d : Current) → IsCurrent (ledger_of after) q d
      → IsCurrent (ledger_of b) q d
  won_current q d h = elim (cases_eq q rank) [
    | inl e ↦
        let new : current_of None (Active its_work) ≡ Some d =
        ap (current_of None) (sym (state_here freed rank (Active its_work) wide))
        ∙ subst (λ k. current_of None (state_at ranks_after k) ≡ Some d) e
        (current_is after q d h) in
        let old : current_of b.raced (state_at b.ranks rank) ≡ Some d =
        ap (λ s. current_of b.raced s) w.state
        ∙ (ap (λ raced. current_of raced (Racing its)) w.raced ∙ new) in
        subst (λ k. IsCurrent (ledger_of b) k d) (sym e) (is_current b rank d old)
    | inr ne ↦
        let new = current_is after q d h in
        let freed_ = ap (current_of None) (sym (state_there freed rank (Active its_work) q ne))
        ∙ new in
        is_current b q d (without_race b.raced (state_at b.ranks q) d
        (idled_current is_racing refl None b.ranks q d freed_))
  ]

  has_ended : HasEnded (ledger_of b) (ledger_of after)
  has_ended = record {
    less = record {
      held = won_old;
      counts = won_times;
      current = won_current;
      still = λ q d h. still after q d h;
      last = refl;
    };
    kept = won_kept;
    work = alone_keeps_work (ledger_of b) (ledger_of after) entry.node only;
  }

  after_book : IsBook b → IsBook after
  after_book h = book_changed b b.pool ranks_after None after.orders h
      (won_carried b h rank)
      (length-set freed rank (Active its_work)
      ∙ length-map b.ranks (λ (state : State). if is_racing state then Idle else state))
      h.order
      (record {
        pool = h.floors.pool;
        ranks = All-set (KeepsItsFloor b.problem) freed rank (Active its_work)
            (subst (λ raced. IfSome raced (HasItsFloor b.problem)) w.raced h.floors.raced)
            (floors_idled b.problem is_racing b.ranks h.floors.ranks);
        raced = tt;
      })
      (ended_ledger (root_of b.problem) (ledger_of b) (ledger_of after) has_ended h.ledger)
      (no_race after none refl)
    where
      none : SomeRaces ranks_after → ⊥
      none t =
          let fewer = set_fewer_races freed rank (Active its_work) wide refl t in
          let old = idled_fewer_races is_racing refl b.ranks fewer in
          false≢true (sym old.1 ∙ old.0.1)

  after_keeps : Keeps b after
  after_keeps = record {
    book = after_book;
    sound = λ h s. ended_sound b.problem b.settings.gap (one_kept b.best) (ledger_of b)
        (ledger_of after) has_ended s;
  }

pub won_keeps : (b : BookState) (rank : ℕ) → IsBook b → IsRaceWon b rank → Keeps b (race_won rank b)
won_keeps b rank h w =
    let t = has_won b rank h w in
    subst (λ c. Keeps b c) (sym (is_after b rank t.0 t.1 t.2)) (after_keeps b rank t.0 t.1 t.2)
