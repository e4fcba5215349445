use Rattle.std.proofs.Common.{arith}
use Rattle.ug_records.proofs.Verdicts.{what_is_read, made_is_record, made_is_it}
use Rattle.ug_records.proofs.reading.from_record.Goals as goal

pub whole_problem-requires : goal.whole_problem-requires
whole_problem-requires c =
    let is = what_is_read c.args.bytes.now _ (λ i. omega (arith, c.type_inv.bytes i))
    c.in-Ok.ensures in
    is.0

pub returns-in-Ok-clause-read : goal.returns-in-Ok-clause-read
returns-in-Ok-clause-read c =
    made_is_record c.whole_problem.result c.args.bytes.now _ c.whole_problem.ensures
    (what_is_read c.args.bytes.now _ (λ i. omega (arith, c.type_inv.bytes i)) c.in-Ok.ensures)

pub returns-in-Ok-clause-every : goal.returns-in-Ok-clause-every
returns-in-Ok-clause-every c =
    made_is_it c.whole_problem.result c.args.bytes.now _ c.whole_problem.ensures c.in-Ok.ensures

pub returns-in-Err-Bad-clause-every : goal.returns-in-Err-Bad-clause-every
returns-in-Err-Bad-clause-every c = λ p is. absurd (c.first_bad.ensures.none p is)
