use Rattle.std.proofs.Common.{◌∙◌, ℕ, FitsSigned, List, length, subst, sym, rules}
use Rattle.std.proofs.lemmas.Int.{to_z-of_z}
use mir.Syntax.{w64, w128}
use Rattle.ug_rows.specs.declared.row.Term.{Term}
use Rattle.ug_rows.specs.Rows.{IsLinear}
use Rattle.ug_propagate.specs.Shorts.{IsShortMeasured}
use Rattle.ug_propagate.proofs.Fresh.{short_push}
use Rattle.ug_propagate.proofs.Running.{linear_terms}
use Rattle.ug_propagate.proofs.rows.add_short.Goals as goal

pub measure_short-requires : goal.measure_short-requires
measure_short-requires c =
    let p = c.args.problem.now in
    let P : List Term → Type 0 = λ (ts : List Term). IsLinear (length p.columns) ts in
    let Q : ℕ → Type 0 = λ (width : ℕ). IsLinear width c.terms_at.result.now in
    subst Q (sym c.requires.width)
    (subst P (sym c.terms_at.ensures.value) (linear_terms p c.args.r c.terms_at.ensures.problem c.requires.there))

pub returns-in_ok-push-in-Some-2 : goal.returns-in_ok-push-in-Some-2
returns-in_ok-push-in-Some-2 c so =
    let P : List Term → Type 0 = λ (ts : List Term). IsShortMeasured ts c.args.area.now c.in-Some.ends in
    let ends = c.in-Some.ends in
    let least : FitsSigned w64 ends.least = search rules in
    let greatest : FitsSigned w64 ends.greatest = search rules in
    let widest : FitsSigned w64 ends.widest = search rules in
    let wide : FitsSigned w128 c.from.result = search rules in
    rw (
      c.in_ok-push-in-Some.ensures.items,
      c.in_ok-push-in-Some-2.ensures.items,
      to_z-of_z w64 ends.least least,
      to_z-of_z w64 ends.greatest greatest,
      to_z-of_z w128 c.from.result wide ∙ c.from.ensures ∙ to_z-of_z w64 ends.widest widest,
    )
    (short_push c.args.problem.now c.args.area.now c.args.r c.args.sums.now.items c.args.max_span.now.items ends c.requires.so_far
    (subst P c.terms_at.ensures.value c.in-Some.ensures))
