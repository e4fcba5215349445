use Rattle.std.proofs.Common.{◌++◌, [], sym, ◌∙◌, ap}
use Rattle.std.proofs.lemmas.Bool.{false≢true}
use Rattle.ug_records.proofs.Verdicts.{records_are_unique}
use Rattle.ug_restart.proofs.compare.check_problem.Goals as goal

pub unreachable-requires : goal.unreachable-requires
unreachable-requires c =
    let same = sym c.in_ok-a.ensures ∙ sym c.as_slice.ensures ∙ c.in-None.ensures
    ∙ c.as_slice-2.ensures ∙ c.in_ok-b.ensures in
    let one = records_are_unique c.args.kept.now c.args.read.now [] [] c.columns-kept_columns.ensures.problem
    c.columns-read_columns.ensures.problem
    (ap (λ bytes. bytes ++ []) same) in
    false≢true (sym c.if-is.false ∙ c.is.ensures.1 one.0)
