use Rattle.std.proofs.Common.{List, ◌∷◌, Err, refl}
use Rattle.ug_lines.specs.declared.section.Section.TheVariants.{Endata}
use Rattle.ug_mps.specs.Entries.{Entry, header}
use Rattle.ug_mps.proofs.EndLemmas.{columns_good, columns_bad, rows_decimal, rows_good, rows_bad, stated_end}
use Rattle.ug_mps.proofs.draft.Draft.finish.Goals as goal

pub returns-in-Err : goal.returns-in-Err
returns-in-Err c = λ h d.
    columns_bad c.args.boxed (header Endata ∷ h) c.args.self d _ _ c.into_parts-names.ensures.names c.into_parts-names.ensures.drafts
    c.in-Err.error (Err c.in-Err.error) c.in-Err.ensures refl

pub make_rows-requires : goal.make_rows-requires
make_rows-requires c =
    rows_decimal c.args.boxed (header Endata ∷ c.requires.ended.0) c.args.self c.requires.ended.1 _ _ c.into_parts-names-2.ensures.names c.into_parts-names-2.ensures.drafts

pub returns-in-Err-make_rows : goal.returns-in-Err-make_rows
returns-in-Err-make_rows c = λ h d.
    let end : List Entry = header Endata ∷ h in
    let columns = columns_good c.args.boxed end c.args.self d _ _ c.into_parts-names.ensures.names c.into_parts-names.ensures.drafts _ c.in-Ok.ensures in
    rows_bad c.args.boxed end c.args.self d _ _ c.into_parts-names-2.ensures.names c.into_parts-names-2.ensures.drafts _ columns
    c.in-Err-make_rows.error (Err c.in-Err-make_rows.error) c.in-Err-make_rows.ensures refl

pub problem_of-requires : goal.problem_of-requires
problem_of-requires c =
    let end : List Entry = header Endata ∷ c.requires.ended.0 in
    let d = c.requires.ended.1 in
    let columns = columns_good c.args.boxed end c.args.self d _ _ c.into_parts-names.ensures.names c.into_parts-names.ensures.drafts _ c.in-Ok.ensures in
    (c.args.boxed, end, rows_good c.args.boxed end c.args.self d _ _ c.into_parts-names-2.ensures.names c.into_parts-names-2.ensures.drafts c.requires.boxed _ columns _ c.in-Ok-make_rows.ensures)

pub returns-in-Ok-make_rows : goal.returns-in-Ok-make_rows
returns-in-Ok-make_rows c = λ h d.
    let end : List Entry = header Endata ∷ h in
    let columns = columns_good c.args.boxed end c.args.self d _ _ c.into_parts-names.ensures.names c.into_parts-names.ensures.drafts _ c.in-Ok.ensures in
    stated_end c.args.boxed end _ c.problem_of.result
    (rows_good c.args.boxed end c.args.self d _ _ c.into_parts-names-2.ensures.names c.into_parts-names-2.ensures.drafts c.requires.boxed _ columns _ c.in-Ok-make_rows.ensures)
    c.problem_of.ensures
