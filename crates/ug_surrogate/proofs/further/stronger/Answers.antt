use Rattle.std.proofs.Common.{ℤ, to_z, of_z, FitsSigned, Option, Some, IfNone, IfSome, ◌≡◌, inl, inr, rules, subst, sym}
use Rattle.std.proofs.lemmas.Result.{IfOk-weaker}
use Rattle.std.proofs.lemmas.Option.{IfSome_then}
use Rattle.std.proofs.lemmas.Int.{to_z-of_z}
use mir.Syntax.{w128}
use Rattle.ug_problem.specs.Instances.{Instance}
use Rattle.ug_surrogate.specs.Complete.{HasNoCutoff, IsComplete}
use Rattle.ug_surrogate.specs.Stronger.{Follows, StandFor}
use Rattle.ug_surrogate.proofs.Follows.{follows_over, more_formed}
use Rattle.ug_surrogate.proofs.Complete.{complete_problem, complete_under, not_none}
use Rattle.ug_surrogate.proofs.further.stronger.Goals as goal

pub with_rows-requires-clause-formed : goal.with_rows-requires-clause-formed
with_rows-requires-clause-formed c =
    let p = c.args.problem.now in
    let stand = subst (λ o. IfSome o (λ rows. StandFor p c.args.area.now
    (Some (to_z w128 (of_z w128 c.in-Some.over))) rows.items))
    c.in-Some-2.is c.in_ok-rows.ensures.rows in
    more_formed p c.args.area.now _ c.in-Some-2.rows.items stand

pub returns-in-Some-2-clause-follows : goal.returns-in-Some-2-clause-follows
returns-in-Some-2-clause-follows c =
    let p = c.args.problem.now in
    let rows = c.in-Some-2.rows.items in
    let over : ℤ = c.in-Some.over in
    let fits : FitsSigned w128 over = search rules in
    let raw = subst (λ o. IfSome o (λ rows. StandFor p c.args.area.now
    (Some (to_z w128 (of_z w128 c.in-Some.over))) rows.items))
    c.in-Some-2.is c.in_ok-rows.ensures.rows in
    let stand : StandFor p c.args.area.now (Some over) rows =
    subst (λ (z : ℤ). StandFor p c.args.area.now (Some z) rows) (to_z-of_z w128 over fits) raw in
    let P : Instance → Type 0 = λ (s : Instance). s ≡ record p { rows = rows } in
    let Q : Instance → Type 0 = Follows p c.args.area.now c.args.cutoff in
    let follows : (s : Instance) → P s → Q s =
    λ s same. follows_over p c.args.area.now c.args.cutoff over rows s c.in-Some.ensures.over stand
    same in
    IfOk-weaker c.with_rows.result (λ (o : Option Instance). IfSome o P)
    (λ (o : Option Instance). IfSome o Q)
    (λ o h. IfSome_then o h follows) c.with_rows.ensures.made

pub with_rows-requires-clause-within : goal.with_rows-requires-clause-within
with_rows-requires-clause-within c =
    let p = c.args.problem.now in
    let area = c.args.area.now in
    let lists = c.args.lists.now in
    let rows = c.in-Some-2.rows.items in
    let stand = subst (λ o. IfSome o (λ rows. StandFor p area
    (Some (to_z w128 (of_z w128 c.in-Some.over))) rows.items))
    c.in-Some-2.is c.in_ok-rows.ensures.rows in
    let complete = subst (λ o. IfSome o (λ rows. IsComplete p area
    (Some (to_z w128 (of_z w128 c.in-Some.over))) lists rows.items))
    c.in-Some-2.is c.in_ok-rows.ensures.complete in
    complete_problem p area _ lists rows c.all_rows.ensures.problem
    (more_formed p area _ rows stand) complete

pub returns-in-Some-2-clause-complete : goal.returns-in-Some-2-clause-complete
returns-in-Some-2-clause-complete c =
    let p = c.args.problem.now in
    let area = c.args.area.now in
    let lists = c.args.lists.now in
    let rows = c.in-Some-2.rows.items in
    let over : ℤ = c.in-Some.over in
    let fits : FitsSigned w128 over = search rules in
    let raw = subst (λ o. IfSome o (λ rows. IsComplete p area
    (Some (to_z w128 (of_z w128 c.in-Some.over))) lists rows.items))
    c.in-Some-2.is c.in_ok-rows.ensures.complete in
    let complete : IsComplete p area c.args.cutoff lists rows =
    complete_under p area c.args.cutoff over lists rows c.in-Some.ensures.value
    (subst (λ (z : ℤ). IsComplete p area (Some z) lists rows) (to_z-of_z w128 over fits) raw) in
    let P : Instance → Type 0 = λ (s : Instance). s ≡ record p { rows = rows } in
    let Q : Instance → Type 0 = λ (s : Instance). IsComplete p area c.args.cutoff lists s.rows in
    IfOk-weaker c.with_rows.result (λ (o : Option Instance). IfSome o P)
    (λ (o : Option Instance). IfSome o Q)
    (λ o h. IfSome_then o h (λ s same. subst Q (sym same) complete)) c.with_rows.ensures.made

pub returns-in-Some-2-clause-unchanged : goal.returns-in-Some-2-clause-unchanged
returns-in-Some-2-clause-unchanged c =
    IfOk-weaker c.with_rows.result _ _ (λ o some. not_none _ o some) c.with_rows.ensures.some

pub returns-in_default-clause-unchanged : goal.returns-in_default-clause-unchanged
returns-in_default-clause-unchanged c =
    inl (subst (λ (o : Option ℤ). IfNone o (HasNoCutoff c.args.problem.now c.args.area.now
    c.args.cutoff)) c.in_default.is
    c.cutoff_over.ensures.none)

pub returns-in-None-clause-unchanged : goal.returns-in-None-clause-unchanged
returns-in-None-clause-unchanged c =
    let p = c.args.problem.now in
    let area = c.args.area.now in
    let lists = c.args.lists.now in
    let over : ℤ = c.in-Some.over in
    let fits : FitsSigned w128 over = search rules in
    let raw = subst (λ o. IfNone o (IsComplete p area (Some (to_z w128 (of_z w128 c.in-Some.over)))
    lists p.rows))
    c.in-None.is c.in_ok-rows.ensures.unchanged in
    inr (complete_under p area c.args.cutoff over lists p.rows c.in-Some.ensures.value
    (subst (λ (z : ℤ). IsComplete p area (Some z) lists p.rows) (to_z-of_z w128 over fits) raw))
