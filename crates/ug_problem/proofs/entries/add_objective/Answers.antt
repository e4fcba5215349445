use Rattle.std.proofs.Common.{ap, ◌∙◌, ◌++◌, length, List}
use Rattle.ug_rows.specs.declared.row.Term.{Term}
use Rattle.ug_problem.specs.ColumnEntries.{entries_at, entries_in}
use Rattle.ug_problem.proofs.Gathered.{last_gathered}
use Rattle.ug_problem.proofs.entries.add_objective.Goals as goal

pub returns : goal.returns
returns c =
    let before = c.args.lists.now in
    last_gathered (length before) c.args.rows.now c.args.objective.now.terms before c.add_terms.new.lists
    c.requires.so_far c.add_terms.auto.lists
    (λ j at. c.in_ok-add_terms.ensures j at
    ∙ ap (λ (ts : List Term). entries_at before j ++ entries_in j (length c.args.rows.now) ts) c.as_slice.ensures)
