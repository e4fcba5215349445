-- Who wins a race, and how many orders report so.
use Rattle.std.proofs.Common.{◌≡◌, ◌≢◌, inr, ℕ, zero, suc, ◌==◌, ◌+◌, ◌<◌, ◌≤◌, Bool, true, false, if◌then◌else◌, List, [], ◌∷◌, length, refl, sym, ap, ◌∙◌, subst, arith}
use Rattle.std.specs.Prelude.{Option, Some, None}
use Rattle.std.specs.Option.{is_some}
use Rattle.std.proofs.lemmas.Bool.{eq-eqb, false≢true}
use Rattle.std.proofs.lemmas.Option.{none-some}
use Rattle.std.proofs.lemmas.List.{length-append, length-map}
use Rattle.ug_frames.specs.declared.order.Order.TheVariants.{Stop}
use Rattle.ug_nodes.specs.declared.node.Node.{Node}
use Rattle.ug_pool.specs.declared.entry.Entry.{Entry}
use Rattle.ug_rules.specs.declared.contender.Contender.{Contender}
use Rattle.ug_rules.specs.Winning.{IsWinner}
use Rattle.ug_ranks.specs.declared.state.State.{State}
use Rattle.ug_ranks.specs.declared.state.State.TheVariants.{Absent, Idle, Racing, Active, Dead}
use Rattle.ug_ranks.specs.States.{IsRacing, state_at}
use Rattle.ug_rules.specs.declared.told.Told.{Told}
use Rattle.ug_ranks.specs.Changes.{won}
use Rattle.ug_rules.specs.State.{BookState, node_at, nodes_of, raced_node}
use Rattle.ug_rules.specs.Ranks.{of_ranks, racer_at, racers_freed, racers_in, ranks_that}
use Rattle.ug_ranks.specs.Looks.{is_racing}
use Rattle.ug_rules.specs.Deciding.{IsRaceEnded, IsRaceWon, loser_stop, loser_stops, ranks_won, winner_order}
use Rattle.ug_rules.proofs.RacerLemmas.{are_racing}
use Rattle.ug_rules.proofs.RoomLemmas.{freeing_takes_none, writing_counts}
use Rattle.ug_rules.proofs.WonLemmas.{racer_from}
use Rattle.ug_stock.specs.Races.{IsRacer, IsWonAmong, StandsAlone}

-- if no rank wins among the racers, none does so after each has reported
pub not_won : (enough : ℕ) (racers : List Contender) (result : Option ℕ) (rank : ℕ) → result ≡ None
    → ((r : ℕ) → IsWinner enough racers r → result ≡ Some r) → IsWonAmong enough racers rank → ⊥
not_won enough racers result rank none only won =
    none-some rank (sym none ∙ only rank won.winner)

-- the rank that wins is one that races
pub winner_there : (enough : ℕ) (ss : List State) (rank : ℕ) → IsWonAmong enough (racers_in ss) rank
    → IsRacer rank ss
winner_there enough ss rank w =
    let t = racer_from 0 ss w.winner.racer w.winner.first.among in
    let same : t.place ≡ rank = omega (arith, t.named, w.winner.named) in
    record {
      there = omega (arith, t.there, same);
      racing = subst IsRacing (sym t.state ∙ ap (λ q. state_at ss q) same) tt;
    }

racing_some : (ss : List State) (rank : ℕ) → IsRacing (state_at ss rank)
    → ranks_that is_racing ss ≢ []
racing_some ss rank h = are_racing ss (rank, by (state_at ss rank) h)
  where
    by : (s : State) → IsRacing s → is_racing s ≡ true
    by (Racing racer) h = refl
    by Absent h = absurd h
    by Idle h = absurd h
    by (Active work) h = absurd h
    by (Dead how) h = absurd h

-- then some rank races, and none works
pub none_works : (enough : ℕ) (ss : List State) (raced : Option Entry) (rank : ℕ)
    → StandsAlone ss raced → IsWonAmong enough (racers_in ss) rank → length (nodes_of ss) ≡ 0
none_works enough ss raced rank alone w =
    ap (λ (ns : List Node). length ns)
    (alone.none_works (racing_some ss rank (winner_there enough ss rank w).racing))

-- a racer that loses is sent its order once, and any other rank not at all
one_stop : (w k : ℕ) (s : State) → length (loser_stop w k s) ≤ length (racer_at k s)
one_stop w k Absent = omega arith
one_stop w k Idle = omega arith
one_stop w k (Racing racer) = by (k == w) (record { rank = k; order = Stop racer.ticket })
  where
    by : (b : Bool) (told : Told) → length (if b then [] else told ∷ []) ≤ 1
    by true told = omega arith
    by false told = omega arith
one_stop w k (Active work) = omega arith
one_stop w k (Dead how) = omega arith

stops_within : (w k : ℕ) (ss : List State)
    → length (of_ranks (loser_stop w) k ss) ≤ length (of_ranks racer_at k ss)
stops_within w k [] = omega arith
stops_within w k (s ∷ ss) = omega (
  arith,
  one_stop w k s,
  stops_within w (k + 1) ss,
  length-append (loser_stop w k s) (of_ranks (loser_stop w) (k + 1) ss),
  length-append (racer_at k s) (of_ranks racer_at (k + 1) ss),
)

-- the winner is sent nothing else
no_stop : (w k : ℕ) (s : State) → k ≡ w → IsRacing s
    → length (loser_stop w k s) + 1 ≤ length (racer_at k s)
no_stop w k (Racing racer) e h = rw (eq-eqb k w e) (omega arith)
no_stop w k Absent e h = absurd h
no_stop w k Idle e h = absurd h
no_stop w k (Active work) e h = absurd h
no_stop w k (Dead how) e h = absurd h

stops_fewer : (w k j : ℕ) (ss : List State) → k + j ≡ w → IsRacing (state_at ss j)
    → length (of_ranks (loser_stop w) k ss) + 1 ≤ length (of_ranks racer_at k ss)
stops_fewer w k j [] e h = absurd h
stops_fewer w k zero (s ∷ ss) e h = omega (
  arith,
  no_stop w k s (omega (arith, e)) h,
  stops_within w (k + 1) ss,
  length-append (loser_stop w k s) (of_ranks (loser_stop w) (k + 1) ss),
  length-append (racer_at k s) (of_ranks racer_at (k + 1) ss),
)
stops_fewer w k (suc j) (s ∷ ss) e h = omega (
  arith,
  one_stop w k s,
  stops_fewer w (k + 1) j ss (omega (arith, e)) h,
  length-append (loser_stop w k s) (of_ranks (loser_stop w) (k + 1) ss),
  length-append (racer_at k s) (of_ranks racer_at (k + 1) ss),
)

-- there is one order for each racer at most
pub one_each : (w : ℕ) (ss : List State) → IsRacing (state_at ss w)
    → length (winner_order w (state_at ss w)) + length (loser_stops w ss) ≤ length (racers_in ss)
one_each w ss h =
    let fewer = stops_fewer w 0 w ss (omega arith) h in
    omega (arith, fewer, told_once w (state_at ss w))
  where
    told_once : (r : ℕ) (s : State) → length (winner_order r s) ≤ 1
    told_once r Absent = omega arith
    told_once r Idle = omega arith
    told_once r (Racing racer) = omega arith
    told_once r (Active work) = omega arith
    told_once r (Dead how) = omega arith

-- a node that is raced is one
pub one_raced : (raced : Option Entry) → is_some raced ≡ true → length (raced_node raced) ≡ 1
one_raced (Some entry) e = refl
one_raced None e = absurd (false≢true e)

-- the book of the racers in which the rank wins
pub is_won : (b : BookState) (enough rank : ℕ) → b.settings.winner ≡ enough
    → IsWonAmong enough (racers_in b.ranks) rank → IsRaceWon b rank
is_won b enough rank e w = record {
  reported = w.reported;
  winner = subst (λ n. IsWinner n (racers_in b.ranks) rank) (sym e) w.winner;
}

-- and back
won_is : (b : BookState) (enough rank : ℕ) → b.settings.winner ≡ enough
    → IsRaceWon b rank → IsWonAmong enough (racers_in b.ranks) rank
won_is b enough rank e w = record {
  reported = w.reported;
  winner = subst (λ n. IsWinner n (racers_in b.ranks) rank) e w.winner;
}

pub none_won : (b : BookState) (enough : ℕ) → b.settings.winner ≡ enough
    → ((rank : ℕ) → IsWonAmong enough (racers_in b.ranks) rank → ⊥) → IsRaceEnded b b
none_won b enough e none = inr (record {
  none = λ rank w. none rank (won_is b enough rank e w);
  same = refl;
})

-- if no node is raced there is no race to end
pub none_raced : (b : BookState) → StandsAlone b.ranks b.raced → is_some b.raced ≡ false
    → IsRaceEnded b b
none_raced b alone e = none_won b b.settings.winner refl
    (λ rank w. false≢true (sym e ∙ alone.raced (racing_some b.ranks rank
    (winner_there b.settings.winner b.ranks rank w).racing)))

-- the winner's node is the only one that is worked on anew
pub work_won : (ss : List State) (rank : ℕ) (entry : Entry) → rank < length ss
    → length (nodes_of (ranks_won rank (Some entry) ss)) ≤ length (nodes_of ss) + 1
work_won ss rank entry there =
    let wide = length-map ss (λ (state : State). if is_racing state then Idle else state) in
    let new = won entry.node entry.floor (state_at ss rank) in omega (
      arith,
      writing_counts (racers_freed ss) rank new (omega (arith, there, wide)),
      freeing_takes_none ss,
      one_node new,
    )
  where
    one_node : (s : State) → length (node_at s) ≤ 1
    one_node Absent = omega arith
    one_node Idle = omega arith
    one_node (Racing racer) = omega arith
    one_node (Active work) = omega arith
    one_node (Dead how) = omega arith
