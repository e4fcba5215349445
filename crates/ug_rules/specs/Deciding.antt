-- What a decision does, part by part, and what stands of it where memory ended it.
use Rattle.std.specs.Prelude.{◌≡◌, ◌≢◌, if◌then◌else◌, ℕ, zero, suc, ℤ, ◌+◌, ◌-◌, ◌*◌, ◌/◌, ◌%◌, ◌^◌, ◌≤◌}
use Rattle.std.specs.Prelude.{◌⊎◌, min, Bool, true, false, ◌==◌, ◌&&◌, nat_lt, nat_eq, List, []}
use Rattle.std.specs.Prelude.{◌∷◌, ◌++◌, length, All, Option, Some, None, slice_set}
use Rattle.std.specs.Ordering.{int_eq}
use Rattle.ug_branch.specs.declared.params.Params.{Params}
use Rattle.ug_branch.specs.declared.params.Pick.TheVariants.{Place, Width}
use Rattle.ug_branch.specs.declared.params.End.TheVariants.{Lowest, Highest}
use Rattle.ug_branch.specs.declared.params.Half.TheVariants.{Lower, Upper}
use Rattle.ug_branch.specs.declared.params.Base.TheVariants.{Bound, Surrogate}
use Rattle.ug_branch.specs.Numbers.{first_params}
use Rattle.ug_pool.specs.declared.entry.Entry.{Entry}
use Rattle.ug_pool.specs.Pools.{with_floor_below}
use Rattle.ug_rules.specs.declared.contender.Contender.{Contender}
use Rattle.ug_rules.specs.Winning.{IsWinner}
use Rattle.ug_rules.specs.declared.demand.Wanted.{Wanted}
use Rattle.ug_rules.specs.declared.demand.Wanted.TheVariants.{Ask, Enough, Nothing}
use Rattle.ug_rules.specs.Wants.{IsWanted}
use Rattle.ug_frames.specs.declared.order.Order.TheVariants.{Work as WorkOrder, Incumbent}
use Rattle.ug_frames.specs.declared.order.Order.TheVariants.{CollectIn, CollectOut, Winner, Stop}
use Rattle.ug_ranks.specs.declared.state.State.{State}
use Rattle.ug_ranks.specs.declared.state.State.TheVariants.{Racing, Active}
use Rattle.ug_ranks.specs.States.{state_at}
use Rattle.ug_ranks.specs.Changes.{asked_for, racer_of, won, work_of}
use Rattle.ug_rules.specs.declared.told.Told.{Told}
use Rattle.ug_rules.specs.State.{BookState, cutoff_of_best, held_nodes, ticket_with}
use Rattle.ug_rules.specs.Ranks.{members_in, of_ranks, racers_freed}
use Rattle.ug_ranks.specs.Looks.{is_absent, is_idle, is_joined}
use Rattle.ug_rules.specs.Ranks.{racers_in, ranks_that}

-- 1: the nodes of the pool whose floor is at least the cutoff are dropped
abbrev pub below_cutoff : Option ℤ → List Entry → List Entry
below_cutoff None pool = pool
below_cutoff (Some cutoff) pool = with_floor_below cutoff pool

abbrev pub dropped : BookState → BookState
dropped b = record b { pool = below_cutoff (cutoff_of_best b) b.pool }

-- 2: if the cutoff is not the one announced, it is sent to each joined live rank
abbrev pub same_cutoff : Option ℤ → ℤ → Bool
same_cutoff None cutoff = false
same_cutoff (Some known) cutoff = int_eq known cutoff

abbrev pub announcement : ℤ → ℕ → State → List Told
announcement cutoff r state =
    (if is_joined state then record { rank = r; order = Incumbent cutoff } ∷ [] else [])

abbrev pub announcements : ℤ → List State → List Told
announcements cutoff states = of_ranks (announcement cutoff) 0 states

abbrev pub announced_as : Option ℤ → BookState → BookState
announced_as None b = b
announced_as (Some cutoff) b =
    (if same_cutoff b.announced cutoff
    then b
    else record b { orders = b.orders ++ announcements cutoff b.ranks; announced = Some cutoff })

abbrev pub announced : BookState → BookState
announced b = announced_as (cutoff_of_best b) b

-- 3: if each racer has reported and one of them has enough open nodes, it wins
abbrev pub racers_of : BookState → List Contender
racers_of b = racers_in b.ranks

-- the racer has reported
abbrev pub HasReported : Contender → Type 0
HasReported racer = racer.«open» ≢ 0

pub record IsRaceWon (b : BookState) (rank : ℕ) : Type 0 where
  pub reported : All HasReported (racers_of b)
  pub winner : IsWinner b.settings.winner (racers_of b) rank

-- the Stop of each racer but the winner, and what its ticket was
abbrev pub loser_stop : ℕ → ℕ → State → List Told
loser_stop winner r (Racing racer) =
    (if r == winner then [] else record { rank = r; order = Stop racer.ticket } ∷ [])
loser_stop winner r state = []

abbrev pub loser_stops : ℕ → List State → List Told
loser_stops winner states = of_ranks (loser_stop winner) 0 states

-- the Winner order of a racer
abbrev pub winner_order : ℕ → State → List Told
winner_order r (Racing racer) = record { rank = r; order = Winner racer.ticket } ∷ []
winner_order r state = []

-- the losers are idle, and the raced node is the winner's
abbrev pub ranks_won : ℕ → Option Entry → List State → List State
ranks_won rank None states = racers_freed states
ranks_won rank (Some entry) states =
    slice_set (racers_freed states) rank (won entry.node entry.floor (state_at states rank))

abbrev pub race_won : ℕ → BookState → BookState
race_won rank b = record b {
  ranks = ranks_won rank b.raced b.ranks;
  raced = None;
  orders = b.orders ++ winner_order rank (state_at b.ranks rank) ++ loser_stops rank b.ranks;
}

-- it is won by this rank
pub record IsWonBy (rank : ℕ) (old new : BookState) : Type 0 where
  pub won : IsRaceWon old rank
  pub done : new ≡ race_won rank old

-- it is not won
pub record IsNotWon (old new : BookState) : Type 0 where
  pub none : (rank : ℕ) → ¬ IsRaceWon old rank
  pub same : new ≡ old

abbrev pub IsRaceEnded : BookState → BookState → Type 0
IsRaceEnded old new = ((rank : ℕ) × IsWonBy rank old new) ⊎ IsNotWon old new

-- 4: a race is set where no ticket was given and one node is held
abbrev pub is_race_set : BookState → Bool
is_race_set b = b.settings.racing && (nat_eq b.last 0 && nat_eq (length (held_nodes b)) 1)

-- it is awaited while some rank is absent, and begins once none is and two at least are idle
abbrev pub is_race_awaited : BookState → Bool
is_race_awaited b = is_race_set b && nat_lt 0 (length (ranks_that is_absent b.ranks))

abbrev pub is_race_due : BookState → Bool
is_race_due b =
    is_race_set b && (nat_eq (length (ranks_that is_absent b.ranks)) 0 && nat_lt 1
    (length (ranks_that is_idle b.ranks)))

-- the params with this number, below 16
abbrev pub params_with : ℕ → Params
params_with n = record {
  pick = (if nat_eq (n % 2) 0 then Place else Width);
  end = (if nat_lt (n % 4) 2 then Lowest else Highest);
  half = (if nat_lt (n % 8) 4 then Lower else Upper);
  base = (if nat_lt (n % 16) 8 then Bound else Surrogate);
}

-- the parameters of racer r: the racers alternate between the bases, and no two of 16 racers have
-- the same parameters
abbrev pub racer_params : ℕ → Params
racer_params r = params_with (r % 2 * 8 + r / 2 % 8)

-- the parameters of all work outside a race
abbrev pub usual_params : BookState → Params
usual_params b = first_params b.settings.base

-- the order of an assignment
abbrev pub work_order : BookState → ℕ → ℕ → Params → Bool → Entry → Told
work_order b r number params race entry = record {
  rank = r;
  order = WorkOrder (ticket_with b number) params race (cutoff_of_best b) entry.node.changes;
}

-- the first of the pool is given to this rank, with the next ticket
abbrev pub given_to : ℕ → Entry → List Entry → BookState → BookState
given_to r entry rest b = record b {
  pool = rest;
  ranks = slice_set b.ranks r
      (Active (work_of (ticket_with b (b.last + 1)) entry.node entry.floor (usual_params b)));
  last = b.last + 1;
  orders = b.orders ++ work_order b r (b.last + 1) (usual_params b) false entry ∷ [];
}

abbrev pub assigned_by : List ℕ → List Entry → BookState → BookState
assigned_by [] pool b = b
assigned_by (r ∷ rs) [] b = b
assigned_by (r ∷ rs) (entry ∷ rest) b = given_to r entry rest b

-- the least node of the pool is given to the lowest idle rank
abbrev pub assigned : BookState → BookState
assigned b = assigned_by (ranks_that is_idle b.ranks) b.pool b

-- n times
abbrev pub assigned_times : ℕ → BookState → BookState
assigned_times zero b = b
assigned_times (suc n) b = assigned_times n (assigned b)

-- how often that can be done: there are idle ranks, nodes and tickets
abbrev pub assignments : BookState → ℕ
assignments b =
    min (length (ranks_that is_idle b.ranks)) (min (length b.pool) (2 ^ 64 - 1 - b.last))

-- the rank takes part in the race with the next ticket
abbrev pub raced_by : ℕ → Entry → BookState → BookState
raced_by r entry b = record b {
  ranks = slice_set b.ranks r
      (Racing (racer_of (ticket_with b (b.last + 1)) (racer_params r)));
  last = b.last + 1;
  orders = b.orders ++ work_order b r (b.last + 1) (racer_params r) true entry ∷ [];
}

abbrev pub raced_by_all : List ℕ → Entry → BookState → BookState
raced_by_all [] entry b = b
raced_by_all (r ∷ rs) entry b = raced_by_all rs entry (raced_by r entry b)

abbrev pub race_begun_with : List Entry → BookState → BookState
race_begun_with [] b = b
race_begun_with (entry ∷ rest) b =
    raced_by_all (ranks_that is_idle b.ranks) entry (record b { pool = rest; raced = Some entry })

-- the race begins: the one node held is raced by each idle rank
abbrev pub race_begun : BookState → BookState
race_begun b = race_begun_with b.pool b

-- how many steps the fourth part has: the begin of a race, or the assignments, or none while a
-- race is awaited
abbrev pub handouts : BookState → ℕ
handouts b = (if is_race_due b then 1 else (if is_race_awaited b then 0 else assignments b))

-- the book after n of them
abbrev pub given : ℕ → BookState → BookState
given zero b = b
given (suc n) b = (if is_race_due b then race_begun b else assigned_times (suc n) b)

-- 5: the requests to the ranks that work are sent
abbrev pub collect_in : ℕ → ℕ → State → List Told
collect_in r count (Active work) = record { rank = r; order = CollectIn work.ticket count } ∷ []
collect_in r count state = []

abbrev pub collect_out : ℕ → State → List Told
collect_out r (Active work) = record { rank = r; order = CollectOut work.ticket } ∷ []
collect_out r state = []

abbrev pub stopped_collecting : List ℕ → BookState → BookState
stopped_collecting [] b = b
stopped_collecting (r ∷ rs) b = stopped_collecting rs (record b {
  ranks = slice_set b.ranks r (asked_for 0 (state_at b.ranks r));
  orders = b.orders ++ collect_out r (state_at b.ranks r);
})

abbrev pub collected : Wanted → BookState → BookState
collected (Ask r count) b = record b {
  ranks = slice_set b.ranks r (asked_for count (state_at b.ranks r));
  orders = b.orders ++ collect_in r count (state_at b.ranks r);
}
collected (Enough ranks) b = stopped_collecting ranks b
collected Nothing b = b

pub record IsCollected (old new : BookState) : Type 0 where
  pub demand : Wanted
  pub wanted : IsWanted (length old.pool) old.settings.low old.settings.high
      (members_in old.ranks) demand
  pub done : new ≡ collected demand old

-- the first three parts are made
abbrev pub IsReadied : BookState → BookState → Type 0
IsReadied old new = IsRaceEnded (announced (dropped old)) new

-- all five parts are made
pub record IsDecided (old new : BookState) : Type 0 where
  pub ready : BookState
  pub readied : IsReadied old ready
  pub collected_ : IsCollected (given (handouts ready) ready) new

-- the first three parts, and `steps` steps of the fourth
pub record IsGivenOut (steps : ℕ) (old new : BookState) : Type 0 where
  pub ready : BookState
  pub readied : IsReadied old ready
  pub some : steps ≤ handouts ready
  pub given_ : new ≡ given steps ready

-- this number of steps stands
abbrev pub Stands : ℕ → BookState → BookState → Type 0
Stands zero old new = new ≡ old
Stands (suc zero) old new = new ≡ dropped old
Stands (suc (suc zero)) old new = new ≡ announced (dropped old)
Stands (suc (suc (suc steps))) old new = IsGivenOut steps old new
