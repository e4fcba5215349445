use Rattle.std.proofs.Common.{◌≡◌, ◌≢◌, ◌∙◌, ◌+◌, ◌^◌, ◌≤◌, ◌++◌, ◌∷◌, [], ℤ, pos, List, FitsSigned, ap, subst, sym, unsigned_abs, arith, rules}
use Rattle.std.proofs.lemmas.Int.{to_z-of_z}
use mir.Syntax.{w128}
use mir.Val.{to_z, of_z}
use Rattle.std.proofs.lemmas.Result.{on_ok_weaker}
use Rattle.ug_rows.specs.declared.row.Term.{Term}
use Rattle.ug_surrogate.specs.Implied.{AreColumnsBelow}
use Rattle.ug_surrogate.proofs.Combined.{with_factor, without_factor}
use Rattle.ug_surrogate.proofs.implying.push_column.Goals as goal

pub returns-then-factor-eq0-clause-ok : goal.returns-then-factor-eq0-clause-ok
returns-then-factor-eq0-clause-ok c =
    let f : ℤ = c.factor-factor.result in
    let fits : FitsSigned w128 f = search rules in
    let zero : f ≡ pos 0 = sym (to_z-of_z w128 f fits) ∙ ap (to_z w128) c.if-factor-eq0.true in
    without_factor c.args.problem.now c.args.m.now c.args.column c.args.terms.now.items c.requires.so_far
    (sym c.factor-factor.ensures.value ∙ zero)

pub overflow_cast-column : goal.overflow_cast-column
overflow_cast-column c = omega (arith, c.requires.there, c.factor-factor.ensures.problem.counts.columns)

pub returns-clause-ok : goal.returns-clause-ok
returns-clause-ok c =
    let p = c.args.problem.now in
    let m = c.args.m.now in
    let n = c.args.column in
    let terms = c.args.terms.now.items in
    let f : ℤ = c.factor-factor.result in
    let fits : FitsSigned w128 f = search rules in
    let same = to_z-of_z w128 f fits in
    let some : f ≢ pos 0 = λ e. c.if-factor-eq0.false (ap (of_z w128) e) in
    let small : unsigned_abs f ≤ 10 ^ 24 =
    omega (arith, c.if-unsigned_abs-gt-MOST_FACTOR.false, c.unsigned_abs.ensures.value ∙ ap unsigned_abs same) in
    let more : AreColumnsBelow p m (n + 1) (terms ++ record { column = n; factor = f } ∷ []) =
    with_factor p m n f terms c.requires.so_far c.factor-factor.ensures.value some small in
    on_ok_weaker c.push_term.result
    (λ put. subst (λ (ts : List Term). AreColumnsBelow p m (n + 1) ts) (sym (rw same at put)) more) c.push_term.ensures.ok
