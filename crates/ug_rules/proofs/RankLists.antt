-- Reports of each rank in turn.
use Rattle.std.proofs.Common.{◌≡◌, ℕ, zero, suc, ◌+◌, ◌<◌, List, [], ◌∷◌, ◌++◌, length, take, sym, ap, ◌∙◌, subst, arith}
use Rattle.std.proofs.lemmas.List.{append-nil, append_assoc}
use Rattle.ug_ranks.specs.declared.state.State.{State}
use Rattle.ug_ranks.specs.States.{state_at}
use Rattle.ug_rules.specs.Ranks.{of_ranks}

-- one rank more
pub of_ranks_more : {A : Type 0} (f : ℕ → State → List A) (r : ℕ) (states : List State) (k : ℕ)
    → k < length states
    → of_ranks f r (take (k + 1) states)
    ≡ of_ranks f r (take k states) ++ f (r + k) (state_at states k)
of_ranks_more f r [] k there = absurd (omega (arith, there))
of_ranks_more {A = A} f r (state ∷ states) zero there =
    let same : r ≡ r + 0 = omega arith in append-nil (f r state) ∙ ap (λ (n : ℕ). f n state) same
of_ranks_more {A = A} f r (state ∷ states) (suc k) there =
    let P : ℕ → Type 0 = λ (n : ℕ). of_ranks f (r + 1) (take (k + 1) states)
    ≡ of_ranks f (r + 1) (take k states) ++ f n (state_at states k) in
    let next : P (r + suc k) = subst P (omega arith)
    (of_ranks_more f (r + 1) states k (omega arith)) in
    let longer : of_ranks f r (take (suc k + 1) (state ∷ states))
    ≡ f r state ++ of_ranks f (r + 1) (take (k + 1) states) =
    let e : suc k + 1 ≡ suc (k + 1) = omega arith in ap
    (λ (n : ℕ). of_ranks f r (take n (state ∷ states))) e in
    longer ∙ ap (λ (told : List A). f r state ++ told) next
    ∙ sym (append_assoc (f r state) (of_ranks f (r + 1) (take k states))
    (f (r + suc k) (state_at states k)))
