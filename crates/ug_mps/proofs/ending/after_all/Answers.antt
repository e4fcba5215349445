use Rattle.std.proofs.Common.{◌++◌, sym, ap, subst, ◌∙◌}
use Rattle.ug_mps.specs.Ending.{StopsFirst, IsUnended, begins_legibly}
use Rattle.ug_mps.proofs.LineTails.{stop_first, stop_legible, stop_unended, none_unended, found_none, legible_more}
use Rattle.ug_mps.proofs.ending.after_all.Goals as goal

pub after_stop-requires : goal.after_stop-requires
after_stop-requires c = subst StopsFirst (sym c.behind.ensures) (stop_first c.args.bytes.now c.in-Some.at c.in-Some.ensures)

pub returns-in-Some-clause-legible : goal.returns-in-Some-clause-legible
returns-in-Some-clause-legible c = λ more.
    stop_legible c.args.bytes.now more c.in-Some.at c.in-Some.ensures
    ∙ ap (λ l. begins_legibly (l ++ more)) (sym c.behind.ensures)
    ∙ c.after_stop.ensures.legible more

pub returns-in-Some-clause-unended : goal.returns-in-Some-clause-unended
returns-in-Some-clause-unended c =
    stop_unended c.after_stop.result c.args.bytes.now c.in-Some.at c.in-Some.ensures (subst (IsUnended c.after_stop.result) c.behind.ensures c.after_stop.ensures.unended)

pub returns-in-None-clause-legible : goal.returns-in-None-clause-legible
returns-in-None-clause-legible c = λ more. legible_more c.args.bytes.now more (found_none _ c.args.bytes.now c.in-None.ensures)

pub returns-in-None-clause-unended : goal.returns-in-None-clause-unended
returns-in-None-clause-unended c = none_unended c.args.bytes.now c.in-None.ensures
