-- Questions about the states of ranks.
use Rattle.std.specs.Prelude.{if◌then◌else◌, ℕ, ◌+◌, Bool, not, ◌==◌, List, [], ◌∷◌}
use Rattle.std.specs.Prelude.{◌++◌, map}
use Rattle.ug_ranks.specs.declared.state.State.{State}
use Rattle.ug_ranks.specs.declared.state.State.TheVariants.{Idle, Racing, Active}
use Rattle.ug_ranks.specs.Looks.{is_racing}
use Rattle.ug_rules.specs.declared.member.Member.{Member}
use Rattle.ug_rules.specs.declared.contender.Contender.{Contender}

-- what f gives for each rank from r on, in order
abbrev pub of_ranks : {A : Type 0} → (ℕ → State → List A) → ℕ → List State → List A
of_ranks f r [] = []
of_ranks f r (state ∷ states) = f r state ++ of_ranks f (r + 1) states

-- the rank, where the test is true of its state
abbrev pub rank_if : (State → Bool) → ℕ → State → List ℕ
rank_if test r state = (if test state then r ∷ [] else [])

-- the ranks of which the test is true, rising
abbrev pub ranks_that : (State → Bool) → List State → List ℕ
ranks_that test states = of_ranks (rank_if test) 0 states

-- the racer that a rank is, if it races
abbrev pub racer_at : ℕ → State → List Contender
racer_at r (Racing racer) = record { rank = r; «open» = racer.«open»; floor = racer.floor } ∷ []
racer_at r state = []

-- the racers, rising in rank
abbrev pub racers_in : List State → List Contender
racers_in states = of_ranks racer_at 0 states

-- the member that a rank is, if it works
abbrev pub member_at : ℕ → State → List Member
member_at r (Active work) =
    record {
      rank = r;
      «open» = work.«open»;
      floor = work.reported;
      collecting = not
          (work.asked == 0);
    } ∷ []
member_at r state = []

-- the members that work, rising in rank
abbrev pub members_in : List State → List Member
members_in states = of_ranks member_at 0 states

-- each racer idle again
abbrev pub racers_freed : List State → List State
racers_freed states = map (λ (state : State). if is_racing state then Idle else state) states
