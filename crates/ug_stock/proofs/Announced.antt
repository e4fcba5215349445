-- Which of the first ranks were sent a cutoff.
use Rattle.std.proofs.Common.{◌≡◌, ℕ, ◌+◌, ◌<◌, ◌++◌, List, length, take, sym, ap, ◌∙◌, arith}
use Rattle.std.specs.Prelude.{ℤ}
use Rattle.std.proofs.lemmas.List.{append_assoc, length-append}
use Rattle.ug_stock.specs.Queues.{Queued}
use Rattle.ug_ranks.specs.declared.state.State.{State}
use Rattle.ug_ranks.specs.States.{state_at}
use Rattle.ug_rules.specs.declared.told.Told.{Told}
use Rattle.ug_rules.specs.Deciding.{announcement, announcements}
use Rattle.ug_stock.proofs.Loops.{more_told}

-- the ranks before k were sent the cutoff
pub record AreTold (cutoff : ℤ) (ss : List State) (old now : Queued) (k : ℕ) : Type 0 where
  pub told : now.orders ≡ old.orders ++ announcements cutoff (take k ss)
  pub places : now.spare + length (announcements cutoff (take k ss)) ≡ old.spare

pub one_told : (cutoff : ℤ) (ss : List State) (old now next : Queued) (k : ℕ) → k < length ss
    → AreTold cutoff ss old now k
    → next.orders ≡ now.orders ++ announcement cutoff k (state_at ss k)
    → next.spare + length (announcement cutoff k (state_at ss k)) ≡ now.spare
    → AreTold cutoff ss old next (k + 1)
one_told cutoff ss old now next k there t told spare =
    let own = announcement cutoff k (state_at ss k) in
    let more = more_told (announcement cutoff) ss k there in
    record {
      told = told
          ∙ (ap (λ (ts : List Told). ts ++ own) t.told
          ∙ (append_assoc old.orders (announcements cutoff (take k ss)) own
          ∙ ap (λ (ts : List Told). old.orders ++ ts) (sym more)));
      places = omega (
        arith,
        t.places,
        spare,
        ap (λ (ts : List Told). length ts) more,
        length-append (announcements cutoff (take k ss)) own,
      );
    }
