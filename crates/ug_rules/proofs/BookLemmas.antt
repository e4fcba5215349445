-- What every book is stays: if what it is not about changed, where one rank has another state
-- for the same work, and where pool, ranks and race changed as they may.
use Rattle.std.proofs.Common.{◌≡◌, ◌≢◌, ◌⊎◌, inl, inr, ℕ, ℤ, ◌<◌, Bool, List, [], ◌∷◌, ◌++◌, length, map, refl, ap, sym, ◌∙◌, subst, arith}
use Rattle.std.specs.Prelude.{All, Contains, IfSome, if◌then◌else◌, IsSome, Option, Some, None, slice_set}
use Rattle.std.proofs.lemmas.Bool.{cases_Bool, false≢true}
use Rattle.std.proofs.lemmas.List.{length-set}
use Rattle.std.proofs.lemmas.List.Elements.{All-get_or, All-map, All-set, All-tail, All-weaker}
use Rattle.ug_problem.specs.Feasible.{Feasible}
use Rattle.ug_problem.specs.Instances.{Instance, root_of}
use Rattle.ug_problem.specs.Incumbents.{one_kept}
use Rattle.ug_nodes.specs.declared.node.Node.{Node}
use Rattle.ug_pool.specs.declared.entry.Entry.{Entry}
use Rattle.ug_pool.specs.Pools.{IsInOrder}
use Rattle.ug_ranks.specs.declared.state.Work.{Work}
use Rattle.ug_ranks.specs.declared.state.Off.TheVariants.{Died}
use Rattle.ug_ranks.specs.declared.state.State.{State}
use Rattle.ug_ranks.specs.declared.state.State.TheVariants.{Absent, Idle, Racing, Active, Dead}
use Rattle.ug_ranks.specs.States.{state_at}
use Rattle.ug_ranks.specs.Changes.{asked_for, joined, noted}
use Rattle.ug_ledger.specs.Ledgers.{Current, Ledger}
use Rattle.ug_ledger.specs.Sound.{IsLedger, Sound}
use Rattle.ug_rules.specs.declared.told.Told.{Told}
use Rattle.ug_rules.specs.State.{BookState, current_of, ledger_of, node_at, nodes_in, nodes_of, raced_node, ticket_with}
use Rattle.ug_rules.specs.Ranks.{ranks_that}
use Rattle.ug_ranks.specs.Looks.{is_racing}
use Rattle.ug_frames.specs.Orders.{IsOrder}
use Rattle.ug_rules.specs.Books.{AreOrders, IsBook, IsRaceAlone, IsSoundBook, KeepFloors, KeepsItsFloor}
use Rattle.ug_rules.proofs.WorkLemmas.{idled, same_nodes, works_at}
use Rattle.ug_rules.proofs.TicketLemmas.{same_tickets}
use Rattle.ug_rules.proofs.RacerLemmas.{SomeRaces, are_racing, set_same_races, set_still_races, some_races}

-- the book with another incumbent that is feasible, other orders, another count, and another cutoff
-- announced
pub book_told : (b : BookState) (best : Option (List ℤ)) (orders : List Told) (heard : ℕ)
    (announced : Option ℤ) → IfSome best (Feasible b.problem) → AreOrders orders → IsBook b
    → IsBook (record b { best = best; orders = orders; heard = heard; announced = announced })
book_told b best orders heard announced feasible carried h = record {
  problem = h.problem;
  run = h.run;
  settings = h.settings;
  incumbent = feasible;
  ranks = h.ranks;
  order = h.order;
  floors = record { pool = h.floors.pool; ranks = h.floors.ranks; raced = h.floors.raced };
  ledger = h.ledger;
  race = record {
    raced = h.race.raced;
    racing = h.race.racing;
    pool = h.race.pool;
    ranks = h.race.ranks;
  };
  number = h.number;
  orders = carried;
}

-- the book of which the earliest order was sent
pub book_with_rest : (b : BookState) (told : Told) (rest : List Told) → b.orders ≡ told ∷ rest
    → IsBook b → IsBook (record b { orders = rest })
book_with_rest b told rest first h = book_told b b.best rest b.heard b.announced h.incumbent
    (All-tail (λ (one : Told). IsOrder one.order) told rest
    (subst (λ (orders : List Told). AreOrders orders) first h.orders)) h

-- the book with another state at a rank
abbrev pub written : ℕ → State → BookState → BookState
written r s b = record b { ranks = slice_set b.ranks r s }

-- the new state is of the same node and ticket as the old one, and races as that did
pub record IsAlike (old new : State) : Type 0 where
  pub nodes : node_at new ≡ node_at old
  pub current : (raced : Option Entry) → current_of raced new ≡ current_of raced old
  pub racing : is_racing new ≡ is_racing old
  pub floor : (p : Instance) → KeepsItsFloor p old → KeepsItsFloor p new

-- so is the state itself
alike_itself : (s : State) → IsAlike s s
alike_itself s =
    record { nodes = refl; current = λ raced. refl; racing = refl; floor = λ p h. h }

-- a rank that was absent or idle is dead alike: it has no ticket either way
pub absent_or_idle : (s : State) → (s ≡ Absent) ⊎ (s ≡ Idle) → IsAlike s (Dead Died)
absent_or_idle s (inl e) = subst (λ t. IsAlike t (Dead Died)) (sym e)
    (record { nodes = refl; current = λ raced. refl; racing = refl; floor = λ p h. h })
absent_or_idle s (inr e) = subst (λ t. IsAlike t (Dead Died)) (sym e)
    (record { nodes = refl; current = λ raced. refl; racing = refl; floor = λ p h. h })

pub joined_alike : (s : State) → IsAlike s (joined s)
joined_alike Absent =
    record { nodes = refl; current = λ raced. refl; racing = refl; floor = λ p h. h }
joined_alike Idle = alike_itself Idle
joined_alike (Racing racer) = alike_itself (Racing racer)
joined_alike (Active work) = alike_itself (Active work)
joined_alike (Dead how) =
    record { nodes = refl; current = λ raced. refl; racing = refl; floor = λ p h. h }

pub noted_alike : (count : ℕ) (floor : ℤ) (s : State) → IsAlike s (noted count floor s)
noted_alike count floor Absent = alike_itself Absent
noted_alike count floor Idle = alike_itself Idle
noted_alike count floor (Racing racer) =
    record { nodes = refl; current = raced_alike; racing = refl; floor = λ p h. h }
  where
    raced_alike : (raced : Option Entry)
        → current_of raced (noted count floor (Racing racer)) ≡ current_of raced (Racing racer)
    raced_alike None = refl
    raced_alike (Some entry) = refl
noted_alike count floor (Active work) =
    record { nodes = refl; current = λ raced. refl; racing = refl; floor = λ p h. h }
noted_alike count floor (Dead how) = alike_itself (Dead how)

pub asked_alike : (count : ℕ) (s : State) → IsAlike s (asked_for count s)
asked_alike count Absent = alike_itself Absent
asked_alike count Idle = alike_itself Idle
asked_alike count (Racing racer) = alike_itself (Racing racer)
asked_alike count (Active work) =
    record { nodes = refl; current = λ raced. refl; racing = refl; floor = λ p h. h }
asked_alike count (Dead how) = alike_itself (Dead how)

-- so the ledger is the same
pub same_ledger : (b : BookState) (r : ℕ) (s : State) → IsAlike (state_at b.ranks r) s
    → ledger_of (written r s b) ≡ ledger_of b
same_ledger b r s a =
    let tickets = same_tickets b.raced b.ranks r s (a.current b.raced) in
    let nodes = same_nodes b.ranks r s a.nodes in
    with_nodes (nodes_of (slice_set b.ranks r s)) (nodes_of b.ranks) nodes
    ∙ ap (λ (cs : List (Option Current)). made_of (nodes_of b.ranks) cs) tickets
  where
    made_of : List Node → List (Option Current) → Ledger
    made_of ns cs = record {
      held = nodes_in b.pool ++ ns ++ raced_node b.raced;
      ranks = cs;
      last = ticket_with b b.last;
    }

    with_nodes : (ms ns : List Node) → ms ≡ ns
        → made_of ms (map (current_of b.raced) (slice_set b.ranks r s))
        ≡ made_of ns (map (current_of b.raced) (slice_set b.ranks r s))
    with_nodes ms ns e =
        ap (λ (ls : List Node). made_of ls (map (current_of b.raced) (slice_set b.ranks r s))) e

-- a race stands alone, said of the states
pub alone_from : (b : BookState) → (IsSome b.raced → SomeRaces b.ranks)
    → (SomeRaces b.ranks → IsSome b.raced) → (SomeRaces b.ranks → b.pool ≡ [])
    → (SomeRaces b.ranks → nodes_of b.ranks ≡ []) → IsRaceAlone b
alone_from b f g pool ranks = record {
  raced = λ h. are_racing b.ranks (f h);
  racing = λ h. g (some_races b.ranks h);
  pool = λ h. pool (some_races b.ranks h);
  ranks = λ h. ranks (some_races b.ranks h);
}

-- so it is where no rank races, and no node is raced
pub no_race : (b : BookState) → (SomeRaces b.ranks → ⊥) → b.raced ≡ None → IsRaceAlone b
no_race b none raced = alone_from b
    (λ h. absurd (false≢true (subst (λ (o : Option Entry). IsSome o) raced h)))
    (λ h. absurd (none h)) (λ h. absurd (none h)) (λ h. absurd (none h))

pub none_raced : (raced : Option Entry) → (IsSome raced → ⊥) → raced ≡ None
none_raced None h = refl
none_raced (Some entry) h = absurd (h refl)

-- if a rank works none races
pub none_races : (b : BookState) (r : ℕ) (work : Work) → IsRaceAlone b
    → state_at b.ranks r ≡ Active work → SomeRaces b.ranks → ⊥
none_races b r work alone is t =
    let none = alone.ranks (are_racing b.ranks t) in
    let there = subst (λ ns. Contains ns work.node) none (works_at b.ranks r work is) in
    omega (arith, there.1)

-- and no node is raced
pub nothing_raced : (b : BookState) (r : ℕ) (work : Work) → IsRaceAlone b
    → state_at b.ranks r ≡ Active work → b.raced ≡ None
nothing_raced b r work alone is = none_raced b.raced
    (λ h. none_races b r work alone is (some_races b.ranks (alone.raced h)))

-- the floor at a rank
pub floor_at : (b : BookState) (r : ℕ) → r < length b.ranks → KeepFloors b
    → KeepsItsFloor b.problem (state_at b.ranks r)
floor_at b r l h = All-get_or (KeepsItsFloor b.problem) b.ranks r (Dead Died) l h.ranks

-- and those of all ranks where some became idle
pub floors_idled : (p : Instance) (test : State → Bool) (ss : List State) → All (KeepsItsFloor p) ss
    → All (KeepsItsFloor p) (idled test ss)
floors_idled p test ss h =
    let f : State → State = λ s. if test s then Idle else s in
    All-map (KeepsItsFloor p) f ss
    (All-weaker (KeepsItsFloor p) (λ s. KeepsItsFloor p (f s)) (λ s k. one s k) ss h)
  where
    one : (s : State) → KeepsItsFloor p s → KeepsItsFloor p (if test s then Idle else s)
    one s k = elim (cases_Bool (test s)) [ inl passes ↦ rw passes tt | inr fails ↦ rw fails k ]

-- the book with another pool, other ranks and another race, where each is as it may be
pub book_changed : (b : BookState) (pool : List Entry) (ranks : List State) (raced : Option Entry)
    (orders : List Told) → IsBook b → AreOrders orders → length ranks ≡ length b.ranks → IsInOrder pool
    → KeepFloors (record b { pool = pool; ranks = ranks; raced = raced; orders = orders })
    → IsLedger (root_of b.problem)
    (ledger_of (record b { pool = pool; ranks = ranks; raced = raced; orders = orders }))
    → IsRaceAlone (record b { pool = pool; ranks = ranks; raced = raced; orders = orders })
    → IsBook (record b { pool = pool; ranks = ranks; raced = raced; orders = orders })
book_changed b pool ranks raced orders h carried size order floors ledger race = record {
  problem = h.problem;
  run = h.run;
  settings = h.settings;
  incumbent = h.incumbent;
  ranks = size ∙ h.ranks;
  order = order;
  floors = floors;
  ledger = ledger;
  race = race;
  number = h.number;
  orders = carried;
}

-- a rank's state for the same work
pub book_written : (b : BookState) (r : ℕ) (s : State) → r < length b.ranks
    → IsAlike (state_at b.ranks r) s → IsBook b → IsBook (written r s b)
book_written b r s l a h =
    let alone = h.race in
    let new = written r s b in
    let nodes = same_nodes b.ranks r s a.nodes in
    let before : SomeRaces new.ranks → ranks_that is_racing b.ranks ≢ [] =
    λ t. are_racing b.ranks (set_same_races b.ranks r s l a.racing t) in
    book_changed b b.pool new.ranks b.raced b.orders h h.orders (length-set b.ranks r s) h.order
    (record {
      pool = h.floors.pool;
      ranks = All-set (KeepsItsFloor b.problem) b.ranks r s
          (a.floor b.problem (floor_at b r l h.floors)) h.floors.ranks;
      raced = h.floors.raced;
    })
    (subst (λ (k : Ledger). IsLedger (root_of b.problem) k) (sym (same_ledger b r s a)) h.ledger)
    (alone_from new
    (λ some. set_still_races b.ranks r s l a.racing (some_races b.ranks (alone.raced some)))
    (λ t. alone.racing (before t)) (λ t. alone.pool (before t))
    (λ t. nodes ∙ alone.ranks (before t)))

pub sound_written : (b : BookState) (r : ℕ) (s : State) → IsAlike (state_at b.ranks r) s
    → IsSoundBook b → IsSoundBook (written r s b)
sound_written b r s a h =
    subst (λ (k : Ledger). Sound b.problem b.settings.gap (one_kept b.best) k)
    (sym (same_ledger b r s a)) h
