use Rattle.std.proofs.Common.{ℤ, List, FitsSigned, Some, None, rules, ap, subst, sym, ◌∙◌}
use Rattle.std.proofs.lemmas.Int.{to_z-of_z}
use mir.Syntax.{w128}
use Rattle.ug_rows.specs.declared.row.Term.{Term}
use Rattle.ug_surrogate.specs.Implied.{IsImplied, implied_high}
use Rattle.ug_surrogate.proofs.Combined.{is_implied}
use Rattle.ug_surrogate.proofs.implying.implied.Goals as goal

pub returns-clause-ok : goal.returns-clause-ok
returns-clause-ok c =
    let p = c.args.problem.now in
    let m = c.args.m.now in
    let high : ℤ = c.in-Some.high in
    let terms : List Term = c.in_ok-terms.terms.items in
    let fits : FitsSigned w128 high = search rules in
    let made = is_implied p m c.args.cutoff high terms c.check_size.ensures.problem c.requires.multipliers c.in_ok-terms.ensures.ok
    (c.in-Some.ensures.some.0 ∙ ap (implied_high p m) (to_z-of_z w128 c.args.cutoff c.ranges.cutoff)) c.in-Some.ensures.some.1 in
    subst (λ (h : ℤ). IsImplied p m c.args.cutoff (record { terms = c.from_vec.result; low = None; high = Some h })) (sym (to_z-of_z w128 high fits))
    (subst (λ (ts : List Term). IsImplied p m c.args.cutoff (record { terms = ts; low = None; high = Some high })) (sym c.from_vec.ensures) made)
