use Rattle.std.proofs.Common.{refl, length, arith}
use Rattle.ug_problem.specs.ColumnEntries.{term_of}
use Rattle.ug_problem.proofs.Linear.{linear_objective}
use Rattle.ug_propagate.proofs.Slacks.{greatest_small, least_small}
use Rattle.ug_propagate.proofs.Running.{among_small, summed_new, summed_other}
use Rattle.ug_propagate.proofs.sums.objective_with.Goals as goal

pub moved_by-requires-clause-least : goal.moved_by-requires-clause-least
moved_by-requires-clause-least c =
    let p = c.args.problem.now in
    least_small (length p.columns) p.objective.terms c.args.area.now c.args.ends
    (linear_objective p c.objective_entry.ensures.problem) c.requires.summed

pub moved_by-requires-clause-greatest : goal.moved_by-requires-clause-greatest
moved_by-requires-clause-greatest c =
    let p = c.args.problem.now in
    greatest_small (length p.columns) p.objective.terms c.args.area.now c.args.ends
    (linear_objective p c.objective_entry.ensures.problem) c.requires.summed

pub moved_by-requires-clause-factor : goal.moved_by-requires-clause-factor
moved_by-requires-clause-factor c =
    let p = c.args.problem.now in
    among_small (length p.columns) p.objective.terms (term_of c.args.column c.in-Some.entry)
    (linear_objective p c.objective_entry.ensures.problem).small c.in-Some.ensures.entry

pub returns-in-Some : goal.returns-in-Some
returns-in-Some c =
    let p = c.args.problem.now in
    summed_new (length p.columns) c.args.column p.objective.terms (term_of c.args.column c.in-Some.entry) c.args.area.now
    c.args.side c.args.ends c.moved_by.result (linear_objective p c.objective_entry.ensures.problem) c.in-Some.ensures.entry
    refl (omega (arith, c.requires.there, c.requires.width)) c.moved_by.ensures.after c.requires.summed c.moved_by.ensures.least c.moved_by.ensures.greatest

pub returns-in-None : goal.returns-in-None
returns-in-None c =
    summed_other c.args.column c.args.problem.now.objective.terms c.args.area.now c.args.side c.args.ends
    c.in-None.ensures.entry c.requires.summed
