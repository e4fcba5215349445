-- While ranks take part in a race one by one, and after, nothing is lost.
use Rattle.std.proofs.Common.{◌≡◌, inl, inr, ℕ, suc, ◌+◌, ◌%◌, ◌^◌, ◌<◌, ◌≤◌, List, [], ◌∷◌, ◌++◌, length, map, set, refl, ap, sym, ◌∙◌, subst, arith, true}
use Rattle.std.specs.Prelude.{All, Contains, IfSome, IsSome, Some}
use Rattle.std.proofs.lemmas.Bool.{cases_Bool}
use Rattle.std.proofs.lemmas.List.{length-map, length-set, map-set}
use Rattle.std.proofs.lemmas.List.Elements.{All-set}
use Rattle.ug_problem.specs.Instances.{root_of}
use Rattle.ug_problem.specs.Incumbents.{one_kept}
use Rattle.ug_problem.specs.Limits.{IsProblem}
use Rattle.ug_problem.specs.Feasible.{Feasible}
use Rattle.ug_pool.specs.declared.entry.Entry.{Entry}
use Rattle.ug_pool.specs.Pools.{IsInOrder}
use Rattle.ug_nodes.specs.Primitive.{times}
use Rattle.ug_ranks.specs.declared.state.Racer.{Racer}
use Rattle.ug_ranks.specs.declared.state.State.{State}
use Rattle.ug_ranks.specs.declared.state.State.TheVariants.{Idle, Racing}
use Rattle.ug_ranks.specs.States.{state_at}
use Rattle.ug_ranks.specs.Changes.{racer_of}
use Rattle.ug_ledger.specs.Ledgers.{Current}
use Rattle.ug_ledger.specs.Sound.{IsLedger}
use Rattle.ug_ledger.specs.Moves.{HasGiven}
use Rattle.ug_ledger.proofs.GivenLemmas.{given_ledger, given_sound}
use Rattle.ug_rules.specs.State.{BookState, current_of, held_nodes, ledger_of, node_at, nodes_in, nodes_of, raced_node, ticket_with}
use Rattle.ug_rules.specs.Ranks.{of_ranks, rank_if, ranks_that}
use Rattle.ug_ranks.specs.Looks.{is_idle, is_racing}
use Rattle.ug_rules.specs.Books.{AreOrders, AreSettings, HasItsFloor, IsBook, IsSoundBook, KeepsItsFloor}
use Rattle.ug_rules.specs.Deciding.{racer_params, raced_by, raced_by_all}
use Rattle.ug_rules.proofs.OrderLemmas.{given_carried}
use Rattle.ug_rules.proofs.WorkLemmas.{same_nodes, state_here, state_there}
use Rattle.ug_rules.proofs.HeldLemmas.{current_by, in_race}
use Rattle.ug_rules.proofs.RacerLemmas.{SomeRaces}
use Rattle.ug_rules.proofs.FirstLemmas.{idle_is}
use Rattle.ug_rules.proofs.BookLemmas.{alone_from}

-- a list of ranks from k on, rising, each with a fact
abbrev pub Rise : (ℕ → Type 0) → ℕ → List ℕ → Type 0
Rise P k [] = Unit {0}
Rise P k (r ∷ rs) = (k ≤ r) × P r × Rise P (r + 1) rs

rise_later : (P : ℕ → Type 0) (k : ℕ) (rs : List ℕ) → Rise P (k + 1) rs → Rise P k rs
rise_later P k [] t = tt
rise_later P k (r ∷ rs) t = (omega (arith, t.0), t.1, t.2)

rise_weaker : (P Q : ℕ → Type 0) (k : ℕ) (rs : List ℕ) → ((q : ℕ) → k ≤ q → P q → Q q)
    → Rise P k rs → Rise Q k rs
rise_weaker P Q k [] f t = tt
rise_weaker P Q k (r ∷ rs) f t = (
  t.0,
  f r t.0 t.1,
  rise_weaker P Q (r + 1) rs (λ q le. f q (omega (arith, le, t.0))) t.2,
)

-- the rank is there and idle
pub record IsIdleAt (ss : List State) (r : ℕ) : Type 0 where
  pub there : r < length ss
  pub idle : state_at ss r ≡ Idle

rise_from : (P : ℕ → Type 0) (k : ℕ) (ss : List State)
    → ((j : ℕ) → j < length ss → state_at ss j ≡ Idle → P (k + j))
    → Rise P k (of_ranks (rank_if is_idle) k ss)
rise_from P k [] f = tt
rise_from P k (s ∷ ss) f =
    let rest = rise_from P (k + 1) ss
    (λ j lt e. subst P (omega arith) (f (suc j) (omega (arith, lt)) e)) in
    elim (cases_Bool (is_idle s)) [
      | inl is ↦ rw is (omega arith, subst P (omega arith) (f 0 (omega arith) (idle_is s is)), rest)
      | inr fails ↦ rw fails (rise_later P k (of_ranks (rank_if is_idle) (k + 1) ss) rest)
    ]

pub idle_rise : (ss : List State) → Rise (IsIdleAt ss) 0 (ranks_that is_idle ss)
idle_rise ss = rise_from (IsIdleAt ss) 0 ss
    (λ j lt e. subst (IsIdleAt ss) (omega arith) (record { there = lt; idle = e }))

few_from : (k : ℕ) (ss : List State) → length (of_ranks (rank_if is_idle) k ss) ≤ length ss
few_from k [] = omega arith
few_from k (s ∷ ss) =
    let rest = few_from (k + 1) ss in
    elim (cases_Bool (is_idle s)) [
      | inl is ↦ rw is (omega (arith, rest))
      | inr fails ↦ rw fails (omega (arith, rest))
    ]

pub few_idle : (ss : List State) → length (ranks_that is_idle ss) ≤ length ss
few_idle ss = few_from 0 ss

-- a book in which this node is raced, if by none as yet
pub record IsInRace (b : BookState) (entry : Entry) : Type 0 where
  pub problem : IsProblem b.problem
  pub run : 0 < b.run
  pub settings : AreSettings b.settings
  pub incumbent : IfSome b.best (Feasible b.problem)
  pub ranks : length b.ranks ≡ b.settings.solvers
  pub floors : All (KeepsItsFloor b.problem) b.ranks
  pub floor : HasItsFloor b.problem entry
  pub ledger : IsLedger (root_of b.problem) (ledger_of b)
  pub raced : b.raced ≡ Some entry
  pub pool : b.pool ≡ []
  pub none : nodes_of b.ranks ≡ []
  pub number : b.last < 2 ^ 64
  pub orders : AreOrders b.orders

module _ (b : BookState) (r : ℕ) (entry : Entry) (h : IsInRace b entry) (i : IsIdleAt b.ranks r)
    (left : b.last + 1 < 2 ^ 64) where
  abbrev its : Racer
  its = racer_of (ticket_with b (b.last + 1)) (racer_params r)

  abbrev its_current : Current
  its_current = record { ticket = ticket_with b (b.last + 1); node = entry.node; taken = [] }

  abbrev after : BookState
  after = raced_by r entry b

  nodes_same : nodes_of (set b.ranks r (Racing its)) ≡ nodes_of b.ranks
  nodes_same = same_nodes b.ranks r (Racing its) (ap node_at (sym i.idle))

  held_same : held_nodes after ≡ held_nodes b
  held_same = ap (λ ns. nodes_in b.pool ++ ns ++ raced_node b.raced) nodes_same

  raced_there : Contains (held_nodes b) entry.node
  raced_there = in_race b entry.node
      (subst (λ raced. Contains (raced_node raced) entry.node) (sym h.raced) (0, omega arith, refl))

  has_given : HasGiven (ledger_of b) (ledger_of after) r its_current
  has_given = record {
    there = subst (λ n. r < n) (sym (length-map b.ranks (current_of b.raced))) i.there;
    free = current_by b.raced b.ranks r ∙ ap (current_of b.raced) i.idle;
    held = λ n at. subst (λ ns. Contains ns n) held_same at;
    kept = λ n at. subst (λ ns. Contains ns n) (sym held_same) at;
    counts = λ name. subst (λ ns. times name ns ≤ times name (held_nodes b)) (sym held_same)
        (omega arith);
    node = raced_there;
    fresh = refl;
    run = refl;
    number = omega arith;
    ranks = map-set (current_of b.raced) b.ranks r (Racing its)
        ∙ ap (λ c. set (map (current_of b.raced) b.ranks) r c)
        (ap (λ raced. current_of raced (Racing its)) h.raced);
    last = refl;
  }

  in_race_after : IsInRace after entry
  in_race_after = record {
    problem = h.problem;
    run = h.run;
    settings = h.settings;
    incumbent = h.incumbent;
    ranks = length-set b.ranks r (Racing its) ∙ h.ranks;
    floors = All-set (KeepsItsFloor b.problem) b.ranks r (Racing its) tt h.floors;
    floor = h.floor;
    ledger = given_ledger (root_of b.problem) r its_current (ledger_of b)
        (ledger_of after) has_given h.ledger;
    raced = h.raced;
    pool = h.pool;
    none = nodes_same ∙ h.none;
    number = left;
    orders = given_carried b h.run h.problem h.settings.gap h.incumbent r (b.last + 1)
        (racer_params r) true entry (omega arith) h.floor h.orders;
  }

  after_sound : IsSoundBook b → IsSoundBook after
  after_sound s = given_sound b.problem b.settings.gap (one_kept b.best) r its_current (ledger_of b)
      (ledger_of after) has_given s

  races_after : SomeRaces after.ranks
  races_after = (r, ap is_racing (state_here b.ranks r (Racing its) i.there))

  -- those after it are idle as before
  idle_after : (rs : List ℕ) → Rise (IsIdleAt b.ranks) (r + 1) rs
      → Rise (IsIdleAt after.ranks) (r + 1) rs
  idle_after rs t = rise_weaker (IsIdleAt b.ranks) (IsIdleAt after.ranks) (r + 1) rs
      (λ q le at. record {
        there = subst (λ n. q < n) (sym (length-set b.ranks r (Racing its))) at.there;
        idle = state_there b.ranks r (Racing its) q (λ e. omega (arith, le, e)) ∙ at.idle;
      }) t

-- what stays while these ranks take part
pub record Opens (old new : BookState) (entry : Entry) : Type 0 where
  pub opened : IsInRace new entry
  pub sound : IsSoundBook old → IsSoundBook new
  pub races : SomeRaces old.ranks → SomeRaces new.ranks

pub opens : (rs : List ℕ) (k : ℕ) (b : BookState) (entry : Entry) → IsInRace b entry
    → Rise (IsIdleAt b.ranks) k rs → b.last + length rs < 2 ^ 64
    → Opens b (raced_by_all rs entry b) entry
opens [] k b entry h t left = record { opened = h; sound = λ s. s; races = λ s. s }
opens (r ∷ rs) k b entry h t left =
    let one : b.last + 1 < 2 ^ 64 = omega (arith, left) in
    let rest = opens rs (r + 1) (raced_by r entry b) entry (in_race_after b r entry h t.1 one)
    (idle_after b r entry h t.1 one rs t.2) (omega (arith, left)) in
    record {
      opened = rest.opened;
      sound = λ s. rest.sound (after_sound b r entry h t.1 one s);
      races = λ some. rest.races (races_after b r entry h t.1 one);
    }

-- some rank races after one took part
pub some_open : (rs : List ℕ) (k : ℕ) (b : BookState) (entry : Entry) → IsInRace b entry
    → Rise (IsIdleAt b.ranks) k rs → b.last + length rs < 2 ^ 64 → 0 < length rs
    → SomeRaces (raced_by_all rs entry b).ranks
some_open [] k b entry h t left some = absurd (omega (arith, some))
some_open (r ∷ rs) k b entry h t left some =
    let one : b.last + 1 < 2 ^ 64 = omega (arith, left) in
    let rest = opens rs (r + 1) (raced_by r entry b) entry (in_race_after b r entry h t.1 one)
    (idle_after b r entry h t.1 one rs t.2) (omega (arith, left)) in
    rest.races (races_after b r entry h t.1 one)

-- then there is a book again
pub race_open : (b : BookState) (entry : Entry) → IsInRace b entry → SomeRaces b.ranks → IsBook b
race_open b entry h some = record {
  problem = h.problem;
  run = h.run;
  settings = h.settings;
  incumbent = h.incumbent;
  ranks = h.ranks;
  order = subst IsInOrder (sym h.pool) (λ i k lt less. absurd (omega (arith, less)));
  floors = record {
    pool = subst (λ es. All (HasItsFloor b.problem) es) (sym h.pool)
        (λ k d lt. absurd (omega (arith, lt)));
    ranks = h.floors;
    raced = subst (λ raced. IfSome raced (HasItsFloor b.problem)) (sym h.raced) h.floor;
  };
  ledger = h.ledger;
  race = alone_from b (λ is. some) (λ t. subst (λ raced. IsSome raced) (sym h.raced) refl)
      (λ t. h.pool) (λ t. h.none);
  number = h.number;
  orders = h.orders;
}
