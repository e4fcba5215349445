-- To be ahead in a race is a strict order, and of two racers one is ahead or they have one rank.
use Rattle.std.proofs.Common.{◌≡◌, ℕ, pos, ◌<◌, inl, inr, List, [], ◌∷◌, ◌++◌, All, sym, ◌∙◌, arith}
use Rattle.std.proofs.lemmas.Int.{ints}
use Rattle.std.proofs.lemmas.List.Elements.{All-weaker}
use Rattle.ug_rules.specs.declared.contender.Contender.{Contender}
use Rattle.ug_rules.specs.Winning.{HasEnough, HasMore, IsShort, LeadsOver, IsLeader, IsWinner}
use Rattle.ug_stock.proofs.Numbers.{same_int, same_nat}
use Rattle.ug_stock.proofs.FirstOf.{IsStrict, first_stays, first_changes, first_alone, first_not_ahead, none_first}

-- a racer that stands for one that is not there
abbrev pub no_racer : Contender
no_racer = record { rank = 0; «open» = 0; floor = pos 0 }

not_ahead_same : (a : Contender) → LeadsOver a a → ⊥
not_ahead_same a (inl h) = omega (arith, ints)
not_ahead_same a (inr h) = grind (arith, h.1)

more_along : (a b c : Contender) → HasMore a b → HasMore b c → HasMore a c
more_along a b c h k = grind arith

ahead_along : (a b c : Contender) → LeadsOver a b → LeadsOver b c → LeadsOver a c
ahead_along a b c (inl h) (inl k) = inl (omega (arith, ints))
ahead_along a b c (inl h) (inr k) = inl (omega (arith, ints))
ahead_along a b c (inr h) (inl k) = inl (omega (arith, ints))
ahead_along a b c (inr h) (inr k) = inr (h.0 ∙ k.0, more_along a b c h.1 k.1)

strict : IsStrict LeadsOver
strict = record { apart = not_ahead_same; along = ahead_along }

same_rank : (a b : Contender) → (LeadsOver a b → ⊥) → (LeadsOver b a → ⊥) → a.rank ≡ b.rank
same_rank a b h k =
    let floors : a.floor ≡ b.floor = same_int a.floor b.floor (λ l. k (inl l)) (λ l. h (inl l)) in
    let opens : a.«open» ≡ b.«open» = same_nat a.«open» b.«open»
    (λ l. k (inr (sym floors, inl l))) (λ l. h (inr (floors, inl l))) in
    same_nat a.rank b.rank (λ l. h (inr (floors, inr (opens, l))))
    (λ l. k (inr (sym floors, inr (sym opens, l))))

-- a racer with too few open nodes changes nothing
pub winner_stays_short : (w : ℕ) (racers : List Contender) (before racer : Contender)
    → IsLeader w racers before → racer.«open» < w → IsLeader w (racers ++ racer ∷ []) before
winner_stays_short w racers before racer h few =
    first_stays (HasEnough w) LeadsOver racers before racer h (λ enough _. omega arith)

-- nor does one that is not ahead
pub winner_stays : (w : ℕ) (racers : List Contender) (before racer : Contender)
    → IsLeader w racers before → (LeadsOver racer before → ⊥) → IsLeader w (racers ++ racer ∷ []) before
winner_stays w racers before racer h behind =
    first_stays (HasEnough w) LeadsOver racers before racer h (λ _. behind)

-- one that is ahead is the first
pub winner_changes : (w : ℕ) (racers : List Contender) (before racer : Contender)
    → IsLeader w racers before → HasEnough w racer → LeadsOver racer before → IsLeader w (racers ++ racer ∷ []) racer
winner_changes w racers before racer = first_changes (HasEnough w) LeadsOver strict racers before racer

none_has : (w : ℕ) (racers : List Contender) → All (IsShort w) racers → All (λ racer. HasEnough w racer → ⊥) racers
none_has w racers = All-weaker (IsShort w) (λ racer. HasEnough w racer → ⊥) (λ racer few enough. omega arith) racers

-- one with enough open nodes, where no other has, is the first
pub winner_alone : (w : ℕ) (racers : List Contender) (racer : Contender)
    → All (IsShort w) racers → HasEnough w racer → IsLeader w (racers ++ racer ∷ []) racer
winner_alone w racers racer few = first_alone (HasEnough w) LeadsOver strict racers racer (none_has w racers few)

-- if each has too few, none is the first
pub not_all_short : (w : ℕ) (racers : List Contender) (racer : Contender)
    → IsLeader w racers racer → All (IsShort w) racers → ⊥
not_all_short w racers racer h few = none_first (HasEnough w) LeadsOver racers racer (none_has w racers few) h

-- and no rank is a winner
pub no_winner : (w : ℕ) (racers : List Contender) (rank : ℕ)
    → All (IsShort w) racers → IsWinner w racers rank → ⊥
no_winner w racers rank few h = not_all_short w racers h.racer h.first few

-- there is one winner
pub one_winner : (w : ℕ) (racers : List Contender) (racer : Contender) (rank : ℕ)
    → IsLeader w racers racer → IsWinner w racers rank → racer.rank ≡ rank
one_winner w racers racer rank h other = same_rank racer other.racer
    (first_not_ahead (HasEnough w) LeadsOver racers racer other.racer h other.first)
    (first_not_ahead (HasEnough w) LeadsOver racers other.racer racer other.first h)
    ∙ other.named
