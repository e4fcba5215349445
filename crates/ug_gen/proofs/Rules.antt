-- Lists that a rule gives, number by number.
use Rattle.std.proofs.Common.{◌≡◌, ℕ, ◌+◌, ◌*◌, ◌%◌, ◌<◌, List, [], ◌∷◌, ◌++◌, length, get_or, refl, add-one, sym, subst, arith}
use Rattle.std.specs.Prelude.{sum, All}
use Rattle.std.proofs.lemmas.List.FromFn.{length-map-range_with_len, get_or-map-range_with_len, map-range_with_len_more}
use Rattle.std.proofs.lemmas.List.Sums.{sum_by_push}
use Rattle.ug_gen.specs.Draws.{number, each}

pub number_next : (seed i : ℕ) → number seed (i + 1) ≡ (16807 * number seed i) % 2147483647
unfolding number
number_next seed i = rw add-one refl

pub number_first : (seed : ℕ) → number seed 0 ≡ seed
unfolding number
number_first seed = refl

pub each_more : {X : Type 0} (rule : ℕ → X) → (n : ℕ) → each rule (n + 1) ≡ each rule n ++ rule n ∷ []
each_more rule n = map-range_with_len_more rule 0 n n (omega arith)

pub length_each : {X : Type 0} (rule : ℕ → X) → (n : ℕ) → length (each rule n) ≡ n
length_each rule n = length-map-range_with_len rule 0 n

pub at_each : {X : Type 0} (rule : ℕ → X) → (n i : ℕ) (d : X) → i < n → get_or (each rule n) i d ≡ rule i
at_each rule n i d h = get_or-map-range_with_len rule 0 n i i d h (omega arith)

pub sum_more : (xs : List ℕ) (x : ℕ) → sum (xs ++ x ∷ []) ≡ sum xs + x
sum_more xs x = sum_by_push (λ x. x) xs x

-- what holds of each value of the rule below n holds of the list
pub all_each : {X : Type 0} (P : X → Type 0) (rule : ℕ → X) → (n : ℕ) → ((i : ℕ) → i < n → P (rule i)) → All P (each rule n)
all_each P rule n f = λ k d h.
    let within : k < n = omega (arith, length_each rule n) in
    subst P (sym (at_each rule n k d within)) (f k within)
