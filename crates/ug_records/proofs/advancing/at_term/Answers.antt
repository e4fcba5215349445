use Rattle.std.proofs.Common.{◌∙◌, ap, sym}
use Rattle.std.proofs.lemmas.List.{get_or_default}
use Rattle.ug_problem.specs.declared.column.NamedRow.{NamedRow}
use Rattle.ug_records.proofs.Nexts.{term_past_rows, term_past, term_next}
use Rattle.ug_records.proofs.advancing.at_term.Goals as goal

pub returns-then-j-rows : goal.returns-then-j-rows
returns-then-j-rows c =
    term_past_rows c.args.problem.now c.args.j c.args.k _ c.at_objective.new.line _
    c.rows-rows.ensures.value c.if-j-rows.true c.at_objective.ensures

pub returns-then-k-terms : goal.returns-then-k-terms
returns-then-k-terms c =
    term_past c.args.problem.now c.args.j c.args.k _ c.index-rows-j.result _ c.at_row.new.line _
    c.rows-rows.ensures.value c.if-j-rows.false c.index-rows-j.is
    (c.as_slice-terms.ensures ∙ ap (λ (r : NamedRow). r.row.terms)
    (get_or_default c.rows-rows.result.now c.args.j _ c.index-rows-j.result c.if-j-rows.false
    ∙ sym c.index-rows-j.is)) c.if-k-terms.true c.at_row.ensures

pub returns : goal.returns
returns c =
    term_next c.args.problem.now c.args.j c.args.k _ c.index-rows-j.result _ _ c.put_term.new.line
    c.rows-rows.ensures.value c.if-j-rows.false c.index-rows-j.is
    (c.as_slice-terms.ensures ∙ ap (λ (r : NamedRow). r.row.terms)
    (get_or_default c.rows-rows.result.now c.args.j _ c.index-rows-j.result c.if-j-rows.false
    ∙ sym c.index-rows-j.is)) c.if-k-terms.false c.put_term.ensures
