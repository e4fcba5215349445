use Rattle.std.proofs.Common.{◌∙◌}
use Rattle.std.proofs.lemmas.Result.{IfOk-weaker}
use Rattle.ug_surrogate.proofs.Follows.{own_stand}
use Rattle.ug_surrogate.proofs.further.own_rows.Goals as goal

pub returns-clause-stand : goal.returns-clause-stand
returns-clause-stand c =
    IfOk-weaker c.copied_rows.result _ _
    (λ rows same. own_stand c.args.problem.now c.args.area.now rows.items c.rows.ensures.problem
    (same ∙ c.rows.ensures.value))
    c.copied_rows.ensures

pub returns-clause-own : goal.returns-clause-own
returns-clause-own c =
    IfOk-weaker c.copied_rows.result _ _ (λ rows same. same ∙ c.rows.ensures.value)
    c.copied_rows.ensures
