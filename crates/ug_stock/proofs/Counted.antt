-- How many ranks are in which state, with one rank more.
use Rattle.std.proofs.Common.{◌≡◌, inl, inr, ℕ, zero, suc, ◌+◌, ◌<◌, ◌≤◌, Bool, List, [], ◌∷◌, length, take, refl, ap, ◌∙◌, subst, arith}
use Rattle.std.proofs.lemmas.Bool.{cases_Bool}
use Rattle.std.proofs.lemmas.List.{length-append, take_all}
use Rattle.ug_ranks.specs.declared.state.State.{State}
use Rattle.ug_ranks.specs.States.{state_at}
use Rattle.ug_rules.specs.State.{node_at, nodes_of}
use Rattle.ug_rules.specs.Ranks.{rank_if, ranks_that}
use Rattle.ug_ranks.specs.Looks.{is_absent, is_idle}
use Rattle.ug_stock.proofs.Loops.{more_told}
use Rattle.ug_stock.proofs.Works.{at_most_one_node}
use Rattle.ug_stock.specs.declared.counting.Counts.{Counts}
use Rattle.ug_stock.specs.Counting.{AreCounted}

one_long : (test : State → Bool) (r : ℕ) (s : State)
    → length (rank_if test r s) ≡ length (rank_if test 0 s)
one_long test r s = elim (cases_Bool (test s)) [
  | inl is ↦ rw is refl
  | inr fails ↦ rw fails refl
]

pub one_more : (test : State → Bool) (ss : List State) (k : ℕ) → k < length ss
    → length (ranks_that test (take (k + 1) ss))
    ≡ length (ranks_that test (take k ss)) + length (rank_if test 0 (state_at ss k))
one_more test ss k there =
    ap (λ (rs : List ℕ). length rs) (more_told (rank_if test) ss k there)
    ∙ (length-append (ranks_that test (take k ss)) (rank_if test k (state_at ss k))
    ∙ ap (λ (n : ℕ). length (ranks_that test (take k ss)) + n) (one_long test k (state_at ss k)))

work_more : (ss : List State) (k : ℕ) → k < length ss
    → length (nodes_of (take (suc k) ss))
    ≡ length (nodes_of (take k ss)) + length (node_at (state_at ss k))
work_more [] k there = absurd (omega (arith, there))
work_more (s ∷ ss) zero there = omega (arith, length-append (node_at s) [])
work_more (s ∷ ss) (suc k) there =
    let rest = work_more ss k (omega (arith, there)) in
    omega (
      arith,
      rest,
      length-append (node_at s) (nodes_of (take (suc k) ss)),
      length-append (node_at s) (nodes_of (take k ss)),
    )

pub one_work_more : (ss : List State) (k : ℕ) → k < length ss
    → length (nodes_of (take (k + 1) ss))
    ≡ length (nodes_of (take k ss)) + length (node_at (state_at ss k))
one_work_more ss k there =
    let same : k + 1 ≡ suc k = omega arith in
    ap (λ (n : ℕ). length (nodes_of (take n ss))) same ∙ work_more ss k there

pub at_most_one : (test : State → Bool) (s : State) → length (rank_if test 0 s) ≤ 1
at_most_one test s = elim (cases_Bool (test s)) [
  | inl is ↦ rw is (omega arith)
  | inr fails ↦ rw fails (omega arith)
]

-- the first ranks are counted, and none of the counts is beyond their number
pub record AreCountedTo (k : ℕ) (ss : List State) (counts : Counts) : Type 0 where
  pub counted : AreCounted (take k ss) counts
  pub absent : counts.absent ≤ k
  pub idle : counts.idle ≤ k
  pub working : counts.working ≤ k

pub none_counted : (ss : List State)
    → AreCountedTo 0 ss (record { absent = 0; idle = 0; working = 0 })
none_counted ss = record {
  counted = record { absent = refl; idle = refl; working = refl };
  absent = omega arith;
  idle = omega arith;
  working = omega arith;
}

pub one_counted : (ss : List State) (k : ℕ) (s : State) (old new : Counts) → k < length ss
    → s ≡ state_at ss k → new.absent ≡ old.absent + length (rank_if is_absent 0 s)
    → new.idle ≡ old.idle + length (rank_if is_idle 0 s)
    → new.working ≡ old.working + length (node_at s) → AreCountedTo k ss old
    → AreCountedTo (k + 1) ss new
one_counted ss k s old new there is absent idle working t = record {
  counted = record {
    absent = omega (
      arith,
      absent,
      t.counted.absent,
      one_more is_absent ss k there,
      ap (λ (z : State). length (rank_if is_absent 0 z)) is,
    );
    idle = omega (
      arith,
      idle,
      t.counted.idle,
      one_more is_idle ss k there,
      ap (λ (z : State). length (rank_if is_idle 0 z)) is,
    );
    working = omega (
      arith,
      working,
      t.counted.working,
      one_work_more ss k there,
      ap (λ (z : State). length (node_at z)) is,
    );
  };
  absent = omega (arith, absent, t.absent, at_most_one is_absent s);
  idle = omega (arith, idle, t.idle, at_most_one is_idle s);
  working = omega (arith, working, t.working, at_most_one_node s);
}

pub all_counted : (ss : List State) (k : ℕ) (counts : Counts) → length ss ≤ k
    → AreCountedTo k ss counts → AreCounted ss counts
all_counted ss k counts end t =
    subst (λ (xs : List State). AreCounted xs counts) (take_all k ss end) t.counted
