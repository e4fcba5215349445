-- The terms of the weighted sum, column by column, and the row that it makes under a cutoff.
use Rattle.std.proofs.Common.{◌≡◌, ◌≢◌, ◌∙◌, refl, sym, ap, subst, inl, inr, ℕ, zero, suc, ◌+◌, ◌^◌, ◌<◌, ◌≤◌, ℤ, pos, negsuc, ◌+ℤ◌, ◌-ℤ◌, ◌*ℤ◌, ◌≤ℤ◌, ◌<ℤ◌, List, [], ◌∷◌, ◌++◌, length, unsigned_abs, Some, None, FitsSigned, arith}
use Rattle.std.proofs.lemmas.Int.{ints, fits_signed_from_abs}
use Rattle.std.proofs.lemmas.Bool.{cases_lt}
use Rattle.std.proofs.lemmas.List.{length-append}
use Rattle.std.proofs.lemmas.List.Elements.{All-push}
use lib.IntN.{zero-*ℤ}
use mir.Syntax.{w128}
use Rattle.ug_rows.specs.declared.row.Term.{Term}
use Rattle.ug_rows.specs.Boxes.{value_at}
use Rattle.ug_rows.specs.Rows.{sum_at, term_at, value_of}
use Rattle.ug_rows.proofs.EndBounds.{mul_pos}
use Rattle.ug_problem.specs.Instances.{AreTerms, Instance}
use Rattle.ug_problem.specs.Limits.{IsProblem}
use Rattle.ug_surrogate.specs.declared.multipliers.Multipliers.{Multipliers}
use Rattle.ug_surrogate.specs.Columns.{WeightedTerms, factor_of, parts_of}
use Rattle.ug_surrogate.specs.Implied.{AreColumnsBelow, ImpliedIsKept, IsImplied, columns_at, implied_high}
use Rattle.ug_surrogate.specs.Weights.{AreMultipliers}
use Rattle.ug_surrogate.proofs.Below.{weighted_below}
use Rattle.ug_surrogate.proofs.Exchange.{parts_below, parts_more, parts_none, parts_there, parts_whole, weighted_split}

-- what does not fit is large
pub too_long : (z : ℤ) → (FitsSigned w128 z → ⊥) → 2 ^ 127 ≤ unsigned_abs z
too_long z h = elim (cases_lt (unsigned_abs z) (2 ^ 127)) [
  | inl less ↦ absurd (h (fits_signed_from_abs w128 z less))
  | inr more ↦ more
]

-- and stays so less a constant
pub far_below : (z k : ℤ) → 2 ^ 127 ≤ unsigned_abs z → unsigned_abs k ≤ 10 ^ 38 → 10 ^ 37 < unsigned_abs (z -ℤ k)
far_below (pos z) (pos zero) h k = omega (arith, ints, h, k)
far_below (pos z) (pos (suc n)) h k = omega (arith, ints, h, k)
far_below (pos z) (negsuc n) h k = omega (arith, ints, h, k)
far_below (negsuc z) (pos zero) h k = omega (arith, ints, h, k)
far_below (negsuc z) (pos (suc n)) h k = omega (arith, ints, h, k)
far_below (negsuc z) (negsuc n) h k = omega (arith, ints, h, k)

columns_are : (n : ℕ) (parts : List WeightedTerms) (x : List ℤ) → columns_at n parts x ≡ parts_below n parts x
columns_are zero parts x = sym (parts_none parts x)
columns_are (suc n) parts x = omega (arith, ints, columns_are n parts x, parts_more n parts x)

columns_next : (n : ℕ) (parts : List WeightedTerms) (x : List ℤ)
    → columns_at (n + 1) parts x ≡ columns_at n parts x +ℤ (factor_of n parts *ℤ value_at x n)
columns_next n parts x = let e : n + 1 ≡ suc n = omega arith in ap (λ (k : ℕ). columns_at k parts x) e

wider : (n k : ℕ) (terms : List Term) → n ≤ k → AreTerms n terms → AreTerms k terms
wider n k terms h are = record {
  rising = are.rising;
  within = λ i lt. omega (arith, are.within i lt, h);
  nonzero = are.nonzero;
}

pub nothing_below : (p : Instance) (m : Multipliers) → AreColumnsBelow p m 0 []
nothing_below p m = record {
  formed = record { rising = λ i k a b. absurd (omega arith); within = λ k a. absurd (omega arith); nonzero = λ k a. absurd (omega arith) };
  small = λ k d lt. absurd (omega arith);
  sum = λ x. refl;
}

-- a column without a coefficient adds nothing
pub without_factor : (p : Instance) (m : Multipliers) (n : ℕ) (terms : List Term) → AreColumnsBelow p m n terms
    → factor_of n (parts_of p m) ≡ pos 0 → AreColumnsBelow p m (n + 1) terms
without_factor p m n terms are e = record {
  formed = wider n (n + 1) terms (omega arith) are.formed;
  small = are.small;
  sum = λ x.
      let z = ap (λ (f : ℤ). f *ℤ value_at x n) e in
      omega (arith, ints, are.sum x, columns_next n (parts_of p m) x, z, zero-*ℤ (value_at x n));
}

sum_push : (ts : List Term) (t : Term) (x : List ℤ) → sum_at (ts ++ t ∷ []) x ≡ sum_at ts x +ℤ (t.factor *ℤ value_at x t.column)
sum_push [] t x = omega (arith, ints)
sum_push (u ∷ ts) t x = omega (arith, ints, sum_push ts t x)

term_before : (ts : List Term) (t : Term) (k : ℕ) → k < length ts → term_at (ts ++ t ∷ []) k ≡ term_at ts k
term_before [] t k h = absurd (omega arith)
term_before (u ∷ ts) t zero h = refl
term_before (u ∷ ts) t (suc k) h = term_before ts t k (omega arith)

term_last : (ts : List Term) (t : Term) (k : ℕ) → k ≡ length ts → term_at (ts ++ t ∷ []) k ≡ t
term_last [] t k h = ap (λ (i : ℕ). term_at (t ∷ []) i) h
term_last (u ∷ ts) t zero h = absurd (omega (arith, h))
term_last (u ∷ ts) t (suc k) h = term_last ts t k (omega (arith, h))

pushed_length : (ts : List Term) (t : Term) → length (ts ++ t ∷ []) ≡ length ts + 1
pushed_length ts t = length-append ts (t ∷ [])

-- each term of a longer list is one of the list or the last
pushed_each : (P : Term → Type 0) (ts : List Term) (t : Term) → ((k : ℕ) → k < length ts → P (term_at ts k)) → P t
    → (k : ℕ) → k < length (ts ++ t ∷ []) → P (term_at (ts ++ t ∷ []) k)
pushed_each P ts t each last k lt = elim (cases_lt k (length ts)) [
  | inl less ↦ subst P (sym (term_before ts t k less)) (each k less)
  | inr more ↦ subst P (sym (term_last ts t k (omega (arith, more, lt, pushed_length ts t)))) last
]

pushed_rising : (n : ℕ) (ts : List Term) (t : Term) → AreTerms n ts → t.column ≡ n
    → (i k : ℕ) → i < k → k < length (ts ++ t ∷ []) → (term_at (ts ++ t ∷ []) i).column < (term_at (ts ++ t ∷ []) k).column
pushed_rising n ts t are e i k less lt =
    let first : i < length ts = omega (arith, less, lt, pushed_length ts t) in
    let before = term_before ts t i first in
    subst (λ (u : Term). u.column < (term_at (ts ++ t ∷ []) k).column) (sym before) (elim (cases_lt k (length ts)) [
      | inl inner ↦ subst (λ (u : Term). (term_at ts i).column < u.column) (sym (term_before ts t k inner)) (are.rising i k less inner)
      | inr more ↦ subst (λ (u : Term). (term_at ts i).column < u.column) (sym (term_last ts t k (omega (arith, more, lt, pushed_length ts t))))
          (omega (arith, are.within i first, e))
    ])

-- a column with a coefficient adds a term
pub with_factor : (p : Instance) (m : Multipliers) (n : ℕ) (f : ℤ) (terms : List Term) → AreColumnsBelow p m n terms
    → f ≡ factor_of n (parts_of p m) → f ≢ pos 0 → unsigned_abs f ≤ 10 ^ 24
    → AreColumnsBelow p m (n + 1) (terms ++ record { column = n; factor = f } ∷ [])
with_factor p m n f terms are e some small =
    let t : Term = record { column = n; factor = f } in
    record {
      formed = record {
        rising = pushed_rising n terms t are.formed refl;
        within = pushed_each (λ (u : Term). u.column < n + 1) terms t (λ k lt. omega (arith, are.formed.within k lt)) (omega arith);
        nonzero = pushed_each (λ (u : Term). u.factor ≢ pos 0) terms t are.formed.nonzero some;
      };
      small = All-push (λ (u : Term). unsigned_abs u.factor ≤ 10 ^ 24) terms t are.small small;
      sum = λ x.
          let z = ap (λ (g : ℤ). g *ℤ value_at x n) e in
          omega (arith, ints, sum_push terms t x, are.sum x, columns_next n (parts_of p m) x, z);
    }

-- the row of all columns
pub is_implied : (p : Instance) (m : Multipliers) (cutoff high : ℤ) (terms : List Term) → IsProblem p → AreMultipliers p m
    → AreColumnsBelow p m (length p.columns) terms → high ≡ implied_high p m cutoff → unsigned_abs high ≤ 10 ^ 37
    → IsImplied p m cutoff (record { terms = terms; low = None; high = Some high })
is_implied p m cutoff high terms problem are below e small = record {
  terms = below.formed;
  narrow = record { factors = below.small; low = tt; high = small };
  keeps = λ x.
      let parts = parts_of p m in
      let sum = columns_are (length p.columns) parts x ∙ parts_whole (length p.columns) parts x (parts_there p m problem are) in (
        λ keeps. omega (arith, ints, keeps.high, e, below.sum x, sum, weighted_split p m x),
        λ most. record { low = tt; high = omega (arith, ints, most, e, below.sum x, sum, weighted_split p m x) },
      );
}

less_one : (v c : ℤ) → v <ℤ c → v ≤ℤ (c -ℤ pos 1)
less_one v c h = omega (arith, ints, h)

-- a good point satisfies it
pub implied_is_kept : ImpliedIsKept
implied_is_kept p m cutoff row are implied x good =
    (implied.keeps x).1 (omega (
      arith,
      ints,
      weighted_below p m x are good.feasible,
      mul_pos m.d (value_of p.objective x) (cutoff -ℤ pos 1) (less_one (value_of p.objective x) cutoff good.less),
    ))
