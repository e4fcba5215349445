use Rattle.std.proofs.Common.{◌≡◌, ℤ, ◌+ℤ◌, ◌≤ℤ◌, FitsSigned, List, length, arith, ap, subst, sym, ◌∙◌, rules}
use Rattle.std.proofs.lemmas.Int.{to_z-of_z}
use mir.Syntax.{w128}
use Rattle.ug_rows.specs.declared.area.Interval.{Interval}
use Rattle.ug_rows.specs.declared.row.Objective.{Objective}
use Rattle.ug_rows.specs.declared.row.Term.{Term}
use Rattle.ug_rows.specs.Boxes.{IsInside}
use Rattle.ug_rows.specs.Rows.{sum_at}
use Rattle.ug_rows.specs.declared.sums.Extreme.TheVariants.{Greatest}
use Rattle.ug_rows.specs.Sums.{end_sum, greatest_sum}
use Rattle.ug_surrogate.specs.Stronger.{IsAtMost}
use Rattle.ug_rows.proofs.Products.{abs_add}
use Rattle.ug_surrogate.proofs.Follows.{at_most}
use Rattle.ug_surrogate.proofs.Machine.{small_fits}
use Rattle.ug_surrogate.proofs.Parts.{objective_linear}
use Rattle.ug_surrogate.proofs.further.greatest_value.Goals as goal

pub returns-clause-most : goal.returns-clause-most
returns-clause-most c =
    let p = c.args.problem.now in
    let area = c.args.area.now in
    let g : ℤ = c.sum_of_ends-greatest.result in
    let k : ℤ = c.objective-objective.result.now.constant in
    let same = c.objective-objective.ensures.value in
    let fits : FitsSigned w128 g = search rules in
    let fits_k : FitsSigned w128 k = search rules in
    let fits_sum : FitsSigned w128 (g +ℤ k) = search rules in
    let most : (x : List ℤ) → IsInside area x → sum_at p.objective.terms x ≤ℤ g =
    subst (λ (ts : List Term). (x : List ℤ) → IsInside area x → sum_at ts x ≤ℤ g)
    (c.as_slice.ensures ∙ ap (λ (o : Objective). o.terms) same)
    (subst (λ (a : List Interval). (x : List ℤ) → IsInside a x → sum_at c.as_slice.result.now x ≤ℤ g)
    c.as_slice-2.ensures c.sum_of_ends-greatest.ensures.bound) in
    rw (to_z-of_z w128 g fits, to_z-of_z w128 k fits_k, to_z-of_z w128 (g +ℤ k) fits_sum)
    (subst (λ (z : ℤ). IsAtMost p area (g +ℤ z)) (sym (ap (λ (o : Objective). o.constant) same))
    (at_most p area g most))

pub sum_of_ends-greatest-requires : goal.sum_of_ends-greatest-requires
sum_of_ends-greatest-requires c =
    let terms = c.as_slice.ensures ∙ ap (λ (o : Objective). o.terms) c.objective-objective.ensures.value in
    rw (c.as_slice-2.ensures, terms)
    (objective_linear c.args.problem.now (length c.args.area.now) c.objective-objective.ensures.problem c.requires)

pub overflow_add-result : goal.overflow_add-result
overflow_add-result c =
    let p = c.args.problem.now in
    let g : ℤ = c.sum_of_ends-greatest.result in
    let fits : FitsSigned w128 g = search rules in
    let fits_k : FitsSigned w128 p.objective.constant = small_fits p.objective.constant (omega (arith, c.objective-objective.ensures.problem.objective.constant)) in
    rw (ap (λ (o : Objective). o.constant) c.objective-objective.ensures.value, to_z-of_z w128 g fits, to_z-of_z w128 p.objective.constant fits_k)
    (small_fits (g +ℤ p.objective.constant)
    (omega (arith, abs_add g p.objective.constant, c.sum_of_ends-greatest.ensures.small, c.objective-objective.ensures.problem.objective.constant)))

pub returns-clause-small : goal.returns-clause-small
returns-clause-small c =
    let p = c.args.problem.now in
    let g : ℤ = c.sum_of_ends-greatest.result in
    let fits : FitsSigned w128 g = search rules in
    let fits_k : FitsSigned w128 p.objective.constant = small_fits p.objective.constant (omega (arith, c.objective-objective.ensures.problem.objective.constant)) in
    rw (
      ap (λ (o : Objective). o.constant) c.objective-objective.ensures.value,
      to_z-of_z w128 g fits,
      to_z-of_z w128 p.objective.constant fits_k,
      to_z-of_z w128 (g +ℤ p.objective.constant) (small_fits (g +ℤ p.objective.constant) (omega (arith, abs_add g p.objective.constant, c.sum_of_ends-greatest.ensures.small, c.objective-objective.ensures.problem.objective.constant))),
    )
    (omega (arith, abs_add g p.objective.constant, c.sum_of_ends-greatest.ensures.small, c.objective-objective.ensures.problem.objective.constant))

pub returns-clause-value : goal.returns-clause-value
returns-clause-value c =
    let p = c.args.problem.now in
    let area = c.args.area.now in
    let g : ℤ = c.sum_of_ends-greatest.result in
    let k : ℤ = c.objective-objective.result.now.constant in
    let same = c.objective-objective.ensures.value in
    let fits : FitsSigned w128 g = search rules in
    let fits_k : FitsSigned w128 k = search rules in
    let fits_sum : FitsSigned w128 (g +ℤ k) = search rules in
    let sum : g ≡ greatest_sum p.objective.terms area =
    c.sum_of_ends-greatest.ensures.sum
    ∙ (ap (λ (ts : List Term). end_sum Greatest ts c.as_slice-2.result.now) (c.as_slice.ensures ∙ ap (λ (o : Objective). o.terms) same)
    ∙ ap (λ (a : List Interval). end_sum Greatest p.objective.terms a) c.as_slice-2.ensures) in
    rw (to_z-of_z w128 g fits, to_z-of_z w128 k fits_k, to_z-of_z w128 (g +ℤ k) fits_sum)
    (ap (λ (z : ℤ). z +ℤ k) sum ∙ ap (λ (o : Objective). greatest_sum p.objective.terms area +ℤ o.constant) same)
