-- A rank that was taken for gone is dead, and stays so as others are.
use Rattle.std.proofs.Common.{◌≡◌, inl, inr, ℕ, zero, suc, ◌+◌, ◌<◌, false, List, [], ◌∷◌, Option, None, Some, refl, sym, subst, arith}
use Rattle.std.proofs.lemmas.Bool.{cases_lt, false≢true}
use Rattle.std.specs.Prelude.{if◌then◌else◌, slice_set}
use Rattle.ug_nodes.specs.declared.name.Name.{Name}
use Rattle.ug_pool.specs.declared.entry.Entry.{Entry}
use Rattle.ug_ranks.specs.Looks.{is_alive, is_racing}
use Rattle.ug_ranks.specs.States.{state_at}
use Rattle.ug_ranks.specs.declared.state.State.{State}
use Rattle.ug_ranks.specs.declared.state.State.TheVariants.{Absent, Idle, Racing, Active, Dead}
use Rattle.ug_ranks.specs.declared.state.Off.TheVariants.{Died}
use Rattle.ug_rules.specs.State.{BookState}
use Rattle.ug_rules.specs.Deaths.{called_off, killed, killed_at, lost_by, with_dead, works_below}
use Rattle.ug_rules.specs.Ranks.{ranks_that}

abbrev pub IsDead : List State → ℕ → Type 0
IsDead states rank = is_alive (state_at states rank) ≡ false

set_here : (states : List State) (at : ℕ) → IsDead (slice_set states at (Dead Died)) at
set_here [] at = refl
set_here (first ∷ states) zero = refl
set_here (first ∷ states) (suc at) = set_here states at

set_stays : (states : List State) (at rank : ℕ) → IsDead states rank
    → IsDead (slice_set states at (Dead Died)) rank
set_stays [] at rank dead = dead
set_stays (first ∷ states) zero zero dead = refl
set_stays (first ∷ states) zero (suc rank) dead = dead
set_stays (first ∷ states) (suc at) zero dead = dead
set_stays (first ∷ states) (suc at) (suc rank) dead = set_stays states at rank dead

off_stays : (line : List Name) (state : State) → is_alive state ≡ false
    → is_alive (if works_below line state then Idle else state) ≡ false
off_stays line Absent dead = dead
off_stays line Idle dead = dead
off_stays line (Racing racer) dead = dead
off_stays line (Active work) dead = absurd (false≢true (sym dead))
off_stays line (Dead how) dead = dead

called_stays : (line : List Name) (states : List State) (rank : ℕ) → IsDead states rank
    → IsDead (called_off line states) rank
called_stays line [] rank dead = dead
called_stays line (state ∷ states) zero dead = off_stays line state dead
called_stays line (state ∷ states) (suc rank) dead = called_stays line states rank dead

lost_stays : (ranks : List ℕ) (raced : Option Entry) (b : BookState) (rank : ℕ)
    → IsDead b.ranks rank
    → IsDead (lost_by ranks raced b).ranks rank
lost_stays (r ∷ rs) raced b rank dead = dead
lost_stays [] None b rank dead = dead
lost_stays [] (Some entry) b rank dead = dead

killed_so : (state : State) (r rank : ℕ) (b : BookState) → IsDead (with_dead r b).ranks rank
    → (is_alive state ≡ false → IsDead b.ranks rank) → IsDead (killed_at state r b).ranks rank
killed_so Absent r rank b dead was = dead
killed_so Idle r rank b dead was = dead
killed_so (Racing racer) r rank b dead was =
    let mid : BookState = with_dead r b in
    lost_stays (ranks_that is_racing mid.ranks) mid.raced mid rank dead
killed_so (Active work) r rank b dead was =
    called_stays work.node.line (with_dead r b).ranks rank dead
killed_so (Dead how) r rank b dead was = was refl

killed_dead : (r : ℕ) (b : BookState) → IsDead (killed r b).ranks r
killed_dead r b = killed_so (state_at b.ranks r) r r b (set_here b.ranks r) (λ was. was)

dead_stays : (r rank : ℕ) (b : BookState) → IsDead b.ranks rank → IsDead (killed r b).ranks rank
dead_stays r rank b dead =
    killed_so (state_at b.ranks r) r rank b (set_stays b.ranks r rank dead) (λ was. dead)

-- once each rank below n was, and n is
pub dead_below : (n : ℕ) (old new : BookState) → new ≡ killed n old
    → ((rank : ℕ) → rank < n → IsDead old.ranks rank) → (rank : ℕ) → rank < n + 1
    → IsDead new.ranks rank
dead_below n old new is below rank less =
    subst (λ (b : BookState). IsDead b.ranks rank) (sym is) (elim (cases_lt rank n) [
      | inl before ↦ dead_stays n rank old (below rank before)
      | inr past ↦ subst (λ (r : ℕ). IsDead (killed n old).ranks r) (omega (arith, past, less))
          (killed_dead n old)
    ])
