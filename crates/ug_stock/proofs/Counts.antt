-- How many ranks are sent a cutoff, and how many work.
use Rattle.std.proofs.Common.{◌≡◌, ℕ, ◌+◌, ◌<◌, ◌++◌, Bool, true, false, if◌then◌else◌, List, [], ◌∷◌, length, take, refl, ap, ◌∙◌, arith}
use Rattle.std.specs.Prelude.{ℤ}
use Rattle.std.proofs.lemmas.List.{append-nil, length-append, take_more}
use Rattle.std.proofs.lemmas.Grind.{flat_map-append}
use Rattle.ug_frames.specs.declared.order.Order.TheVariants.{Incumbent}
use Rattle.ug_nodes.specs.declared.node.Node.{Node}
use Rattle.ug_ranks.specs.declared.state.Off.TheVariants.{Died}
use Rattle.ug_ranks.specs.declared.state.State.{State}
use Rattle.ug_ranks.specs.declared.state.State.TheVariants.{Absent, Idle, Racing, Active, Dead}
use Rattle.ug_ranks.specs.States.{state_at}
use Rattle.ug_rules.specs.declared.told.Told.{Told}
use Rattle.ug_rules.specs.State.{node_at, nodes_of}
use Rattle.ug_rules.specs.Ranks.{member_at, members_in, of_ranks, rank_if, ranks_that}
use Rattle.ug_ranks.specs.Looks.{is_joined}
use Rattle.ug_rules.specs.Deciding.{announcement, announcements}
use Rattle.ug_stock.proofs.Loops.{more_told}

-- a rank is sent a cutoff once, if it has joined
one_told : (joined : Bool) (told : Told) (r : ℕ)
    → length (if joined then told ∷ [] else []) ≡ length (if joined then r ∷ [] else [])
one_told true told r = refl
one_told false told r = refl

told_from : (cutoff : ℤ) (k : ℕ) (ss : List State)
    → length (of_ranks (announcement cutoff) k ss) ≡ length (of_ranks (rank_if is_joined) k ss)
told_from cutoff k [] = refl
told_from cutoff k (s ∷ ss) = omega (
  arith,
  told_from cutoff (k + 1) ss,
  one_told (is_joined s) (record { rank = k; order = Incumbent cutoff }) k,
  length-append (announcement cutoff k s) (of_ranks (announcement cutoff) (k + 1) ss),
  length-append (rank_if is_joined k s) (of_ranks (rank_if is_joined) (k + 1) ss),
)

pub each_told : (cutoff : ℤ) (ss : List State)
    → length (announcements cutoff ss) ≡ length (ranks_that is_joined ss)
each_told cutoff ss = told_from cutoff 0 ss

-- one member for each node that is worked on
members_from : (k : ℕ) (ss : List State)
    → length (of_ranks member_at k ss) ≡ length (nodes_of ss)
members_from k [] = refl
members_from k (s ∷ ss) = omega (
  arith,
  members_from (k + 1) ss,
  one_member s,
  length-append (member_at k s) (of_ranks member_at (k + 1) ss),
  length-append (node_at s) (nodes_of ss),
)
  where
    one_member : (t : State) → length (member_at k t) ≡ length (node_at t)
    one_member Absent = refl
    one_member Idle = refl
    one_member (Racing racer) = refl
    one_member (Active work) = refl
    one_member (Dead how) = refl

pub members_work : (ss : List State) → length (members_in ss) ≡ length (nodes_of ss)
members_work ss = members_from 0 ss

-- the nodes worked on with one rank more
nodes_more : (ss : List State) (k : ℕ) → k < length ss
    → length (nodes_of (take (k + 1) ss))
    ≡ length (nodes_of (take k ss)) + length (node_at (state_at ss k))
nodes_more ss k there =
    ap (λ (xs : List State). length (nodes_of xs)) (take_more ss k (Dead Died) there)
    ∙ (ap (λ (ns : List Node). length ns) (flat_map-append node_at (take k ss)
    (state_at ss k ∷ []))
    ∙ (length-append (nodes_of (take k ss)) (node_at (state_at ss k) ++ [])
    ∙ ap (λ (ns : List Node). length (nodes_of (take k ss)) + length ns)
    (append-nil (node_at (state_at ss k)))))

-- the places wanted with one rank more
abbrev pub places_of : List State → ℕ
places_of ss = length (ranks_that is_joined ss) + length (nodes_of ss)

pub places_more : (ss : List State) (k : ℕ) → k < length ss
    → places_of (take (k + 1) ss)
    ≡ places_of (take k ss)
    + (length (rank_if is_joined k (state_at ss k)) + length (node_at (state_at ss k)))
places_more ss k there = omega (
  arith,
  ap (λ (rs : List ℕ). length rs) (more_told (rank_if is_joined) ss k there),
  length-append (ranks_that is_joined (take k ss)) (rank_if is_joined k (state_at ss k)),
  nodes_more ss k there,
)
