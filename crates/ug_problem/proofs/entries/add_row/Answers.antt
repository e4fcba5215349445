use Rattle.std.proofs.Common.{ap, ◌∙◌, length}
use Rattle.std.proofs.lemmas.List.{get_or_read}
use Rattle.ug_problem.specs.declared.column.NamedRow.{NamedRow}
use Rattle.ug_problem.specs.Instances.{no_row}
use Rattle.ug_problem.proofs.Gathered.{named_gathered}
use Rattle.ug_problem.proofs.entries.add_row.Goals as goal

pub returns : goal.returns
returns c =
    let before = c.args.lists.now in
    let named = get_or_read c.args.rows.now c.args.r c.index-rows-r.result c.requires.there c.index-rows-r.is no_row in
    named_gathered (length before) c.args.rows.now c.args.r c.as_slice.result.now before c.add_terms.new.lists
    c.requires.there (c.as_slice.ensures ∙ ap (λ (n : NamedRow). n.row.terms) named)
    c.requires.so_far c.add_terms.auto.lists c.in_ok-add_terms.ensures
