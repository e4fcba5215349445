-- What a look at the objective has: a cutoff, less one and less the constant.
use lib.Signed.{le_z}
use Rattle.std.proofs.Common.{◌≡◌, ◌∙◌, refl, sym, subst, ap, true, ◌*◌, ◌^◌, ◌≤◌, ◌≤ℤ◌, ℕ, ℤ, pos, ◌-ℤ◌, List, length, Some, None, unsigned_abs, FitsSigned, arith}
use Rattle.std.proofs.lemmas.Int.{ints}
use mir.Syntax.{w128}
use mir.Val.{to_z, of_z}
use Rattle.ug_rows.specs.declared.row.Objective.{Objective}
use Rattle.ug_rows.specs.declared.row.Term.{Term}
use Rattle.ug_rows.proofs.Products.{abs_sub}
use Rattle.ug_problem.specs.Instances.{Instance}
use Rattle.ug_problem.specs.Limits.{IsProblem}
use Rattle.ug_propagate.specs.Steps.{IsPropagable}
use Rattle.ug_propagate.proofs.Bodies.{ready_objective}
use Rattle.ug_propagate.proofs.Machine.{slack_same}
use Rattle.ug_propagate.proofs.Words.{small_fits}

pub at_most_true : (a b : ℤ) → le_z a b ≡ true → a ≤ℤ b
at_most_true a b h = omega (arith, ints)

one_less : (k : ℤ) → unsigned_abs k ≤ 2 * 10 ^ 37 → unsigned_abs (k -ℤ pos 1) ≤ 3 * 10 ^ 37
one_less k small = omega (arith, abs_sub k (pos 1), small)

pub one_less_fits : (k : ℤ) → unsigned_abs k ≤ 2 * 10 ^ 37 → FitsSigned w128 (to_z w128 (of_z w128 k) -ℤ pos 1)
one_less_fits k small =
    rw (slack_same k (omega (arith, small))) (small_fits (k -ℤ pos 1) (omega (arith, one_less k small)))

word_less : (k : ℤ) → unsigned_abs k ≤ 2 * 10 ^ 37 → to_z w128 (of_z w128 (to_z w128 (of_z w128 k) -ℤ pos 1)) ≡ k -ℤ pos 1
word_less k small =
    rw (slack_same k (omega (arith, small))) (slack_same (k -ℤ pos 1) (omega (arith, one_less k small)))

both_less : (k m : ℤ) → unsigned_abs k ≤ 2 * 10 ^ 37 → unsigned_abs m ≤ 10 ^ 37 → unsigned_abs (k -ℤ pos 1 -ℤ m) ≤ 4 * 10 ^ 37
both_less k m small const = omega (arith, abs_sub (k -ℤ pos 1) m, one_less k small, const)

pub both_less_fits : (k m : ℤ) → unsigned_abs k ≤ 2 * 10 ^ 37 → unsigned_abs m ≤ 10 ^ 37
    → FitsSigned w128 (to_z w128 (of_z w128 (to_z w128 (of_z w128 k) -ℤ pos 1)) -ℤ to_z w128 (of_z w128 m))
both_less_fits k m small const =
    rw (word_less k small, slack_same m (omega (arith, const)))
    (small_fits (k -ℤ pos 1 -ℤ m) (omega (arith, both_less k m small const)))

pub word_both_less : (k m : ℤ) → unsigned_abs k ≤ 2 * 10 ^ 37 → unsigned_abs m ≤ 10 ^ 37
    → to_z w128 (of_z w128 (to_z w128 (of_z w128 (to_z w128 (of_z w128 k) -ℤ pos 1)) -ℤ to_z w128 (of_z w128 m))) ≡ k -ℤ pos 1 -ℤ m
word_both_less k m small const =
    rw (word_less k small, slack_same m (omega (arith, const)))
    (slack_same (k -ℤ pos 1 -ℤ m) (omega (arith, both_less k m small const)))

-- the objective is ready to be examined under a cutoff, whatever name it has
pub propagable_under : (width : ℕ) (p : Instance) (k high : ℤ) (objective : Objective) (terms : List Term) → IsProblem p
    → unsigned_abs k ≤ 2 * 10 ^ 37 → objective ≡ p.objective → terms ≡ objective.terms → width ≡ length p.columns
    → high ≡ k -ℤ pos 1 -ℤ objective.constant
    → IsPropagable width (record { row = None; low = None; high = Some high }) terms
propagable_under width p k high objective terms problem small same same_terms wide is =
    let limit : high ≡ k -ℤ pos 1 -ℤ p.objective.constant = is ∙ ap (λ (o : Objective). k -ℤ pos 1 -ℤ o.constant) same in
    let here : terms ≡ p.objective.terms = same_terms ∙ ap (λ (o : Objective). o.terms) same in
    subst (λ (n : ℕ). IsPropagable n (record { row = None; low = None; high = Some high }) terms) (sym wide)
    (subst (λ (ts : List Term). IsPropagable (length p.columns) (record { row = None; low = None; high = Some high }) ts) (sym here)
    (ready_objective p (record { row = None; low = None; high = Some high }) k problem small refl (ap (λ (v : ℤ). Some v) limit)))
