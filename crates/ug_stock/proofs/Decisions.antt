-- The parts of a decision, one after another, are a decision.
use Rattle.std.proofs.Common.{◌≡◌, inl, inr, ℕ, suc, ◌+◌, ◌<◌, ◌≤◌, ◌^◌, Bool, true, false, if◌then◌else◌, List, [], ◌∷◌, ◌++◌, length, refl, sym, ap, ◌∙◌, subst, arith, Result, Ok, Err}
use Rattle.std.specs.Prelude.{ℤ, Option, Some, None, int_lt, not, IfErr, OnOk}
use Rattle.std.proofs.lemmas.Bool.{cases_Bool}
use Rattle.std.proofs.lemmas.List.{length-append, length-map, length-set}
use Rattle.std.proofs.lemmas.List.Filters.{length-filter_both}
use Rattle.ug_pool.specs.declared.entry.Entry.{Entry}
use Rattle.ug_pool.specs.Pools.{with_floor_below}
use Rattle.ug_ranks.specs.declared.state.State.{State}
use Rattle.ug_ranks.specs.declared.state.State.TheVariants.{Idle}
use Rattle.ug_ranks.specs.States.{state_at}
use Rattle.ug_ranks.specs.Changes.{won}
use Rattle.ug_rules.specs.State.{BookState, cutoff_of_best}
use Rattle.ug_rules.specs.Ranks.{of_ranks, racers_freed, rank_if}
use Rattle.ug_ranks.specs.Looks.{is_idle, is_racing}
use Rattle.ug_rules.specs.Books.{IsBook, Keeps}
use Rattle.ug_rules.proofs.DecidedLemmas.{decided_keeps, stands_keeps}
use Rattle.ug_stock.specs.declared.unfinished.Unfinished.{Unfinished}
use Rattle.ug_rules.specs.Deciding.{IsCollected, IsDecided, IsRaceEnded, IsReadied, Stands, announced, announced_as, announcements, assignments, dropped, given, handouts, is_race_awaited, is_race_due, ranks_won, same_cutoff}

-- the nodes that a cutoff leaves are no more than there were
pub fewer_below : (value : ℤ) (es : List Entry) → length (with_floor_below value es) ≤ length es
fewer_below value es = omega (
  arith,
  length-filter_both (λ (entry : Entry). int_lt entry.floor value)
      (λ (entry : Entry). not (int_lt entry.floor value)) (λ entry. refl) es,
)

-- some of the ranks are no more than all
few_that : (test : State → Bool) (r : ℕ) (ss : List State)
    → length (of_ranks (rank_if test) r ss) ≤ length ss
few_that test r [] = omega arith
few_that test r (s ∷ ss) =
    let rest = few_that test (r + 1) ss in
    let all = length-append (rank_if test r s) (of_ranks (rank_if test) (r + 1) ss) in
    elim (cases_Bool (test s)) [
      | inl is ↦
          let one = ap (λ (b : Bool). length (if b then r ∷ [] else [])) is in
          omega (arith, rest, all, one)
      | inr fails ↦
          let none = ap (λ (b : Bool). length (if b then r ∷ [] else [])) fails in
          omega (arith, rest, all, none)
    ]

-- nor are the steps of the fourth part
few_steps : (b : BookState) → handouts b ≤ 1 + length b.ranks
few_steps b = by (is_race_due b) (is_race_awaited b)
  where
    idle : assignments b ≤ 1 + length b.ranks
    idle = let few = few_that is_idle 0 b.ranks in omega (arith, few)

    by : (due waits : Bool)
        → (if due then 1 else (if waits then 0 else assignments b)) ≤ 1 + length b.ranks
    by true waits = omega arith
    by false true = omega arith
    by false false = idle

-- the end of a race leaves as many ranks
freed_wide : (ss : List State) → length (racers_freed ss) ≡ length ss
freed_wide ss = length-map ss (λ (state : State). if is_racing state then Idle else state)

won_wide : (rank : ℕ) (raced : Option Entry) (ss : List State)
    → length (ranks_won rank raced ss) ≡ length ss
won_wide rank None ss = freed_wide ss
won_wide rank (Some entry) ss =
    length-set (racers_freed ss) rank (won entry.node entry.floor (state_at ss rank))
    ∙ freed_wide ss

ended_wide : (old new : BookState) → IsRaceEnded old new → length new.ranks ≡ length old.ranks
ended_wide old new (inl t) =
    ap (λ (k : BookState). length k.ranks) t.1.done ∙ won_wide t.0 old.raced old.ranks
ended_wide old new (inr t) = ap (λ (k : BookState). length k.ranks) t.same

told_wide : (cutoff : Option ℤ) (b : BookState)
    → length (announced_as cutoff b).ranks ≡ length b.ranks
told_wide None b = refl
told_wide (Some cutoff) b = by (same_cutoff b.announced cutoff)
  where
    by : (same : Bool)
        → length (if same then b
        else record b { orders = b.orders ++ announcements cutoff b.ranks; announced = Some cutoff }).ranks
        ≡ length b.ranks
    by true = refl
    by false = refl

module _ (b b1 b2 b3 : BookState) (cut : b1 ≡ dropped b) (told : b2 ≡ announced b1)
    (ended : IsRaceEnded b2 b3) where
  pub two_stand : b2 ≡ announced (dropped b)
  two_stand = told ∙ ap announced cut

  readied : IsReadied b b3
  readied = subst (λ k. IsRaceEnded k b3) two_stand ended

  pub all_made : (n : ℕ) (b4 b5 : BookState) → n ≡ handouts b3 → b4 ≡ given n b3
      → IsCollected b4 b5 → IsDecided b b5
  all_made n b4 b5 count is collected = record {
    ready = b3;
    readied = readied;
    collected_ = subst (λ k. IsCollected k b5) (is ∙ ap (λ k. given k b3) count) collected;
  }

  pub some_made : (n m : ℕ) (b4 : BookState) → n ≤ handouts b3 → b4 ≡ given n b3 → m ≡ n + 3
      → Stands m b b4
  some_made n m b4 count is e =
      let stood : m ≡ suc (suc (suc n)) = omega (arith, e) in
      subst (λ k. Stands k b b4) (sym stood)
      (record { ready = b3; readied = readied; some = count; given_ = is })

  pub few_made : (n : ℕ) → n ≤ handouts b3 → length b.ranks < 2 ^ 32 → n ≤ 2 ^ 32
  few_made n count few =
      let wide = ended_wide b2 b3 ended in
      let same = ap (λ (k : BookState). length k.ranks) two_stand in
      omega (arith, count, few_steps b3, wide, same, few, kept_wide)
    where
      kept_wide : length (announced (dropped b)).ranks ≡ length b.ranks
      kept_wide = told_wide (cutoff_of_best (dropped b)) (dropped b)

-- whether it was made or memory ended it, a decision keeps what every book is
pub decision_keeps : {T : Type 0} (r : Result T Unfinished) (b new : BookState) → IsBook b
    → OnOk r (IsDecided b new) → IfErr r (λ e. Stands e.stood b new) → Keeps b new
decision_keeps (Ok t) b new book decided stood = decided_keeps b new book decided
decision_keeps (Err e) b new book decided stood = stands_keeps e.stood b new book stood
