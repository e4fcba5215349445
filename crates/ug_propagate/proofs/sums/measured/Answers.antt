use Rattle.std.proofs.Common.{ℕ, List, length, subst, sym}
use Rattle.ug_rows.specs.declared.row.Term.{Term}
use Rattle.ug_rows.specs.Rows.{IsLinear}
use Rattle.ug_propagate.proofs.Running.{linear_terms}
use Rattle.ug_propagate.proofs.sums.measured.Goals as goal

pub measure-requires : goal.measure-requires
measure-requires c =
    let p = c.args.problem.now in
    let P : List Term → Type 0 = λ (ts : List Term). IsLinear (length p.columns) ts in
    let Q : ℕ → Type 0 = λ (width : ℕ). IsLinear width c.terms_at.result.now in
    subst Q (sym c.requires.width)
    (subst P (sym c.terms_at.ensures.value) (linear_terms p c.args.r c.terms_at.ensures.problem c.requires.there))
