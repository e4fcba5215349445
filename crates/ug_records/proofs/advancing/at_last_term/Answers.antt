use Rattle.std.proofs.Common.{◌∙◌, ap}
use Rattle.ug_rows.specs.declared.row.Objective.{Objective}
use Rattle.ug_records.proofs.Nexts.{last_term_past, last_term_next}
use Rattle.ug_records.proofs.advancing.at_last_term.Goals as goal

pub returns-then-k-terms : goal.returns-then-k-terms
returns-then-k-terms c =
    last_term_past c.args.problem.now c.args.k _ c.args.line.now
    (c.as_slice-terms.ensures ∙ ap (λ (o : Objective). o.terms) c.objective.ensures.value)
    c.if-k-terms.true c.requires

pub returns : goal.returns
returns c =
    last_term_next c.args.problem.now c.args.k _ _ c.put_term.new.line
    (c.as_slice-terms.ensures ∙ ap (λ (o : Objective). o.terms) c.objective.ensures.value)
    c.if-k-terms.false c.put_term.ensures
