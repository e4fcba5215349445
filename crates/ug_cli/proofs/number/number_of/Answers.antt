use Rattle.std.proofs.Common.{rules}
use Rattle.ug_cli.proofs.Spelled.{number_from_read, plain_from_number, read_from_number}
use Rattle.ug_cli.proofs.number.number_of.Goals as goal

pub returns-in-Ok-clause-found : goal.returns-in-Ok-clause-found
returns-in-Ok-clause-found c =
    number_from_read _ _ _ _ _ c.parse.ensures.value.0 c.in-Ok.is (search rules) (search rules)
    (c.is_plain.ensures.0 c.if-is_plain.true)

pub returns-in_default-clause-none : goal.returns-in_default-clause-none
returns-in_default-clause-none c = λ n number. search (rules, plain_from_number _ _ _ _ c.ranges.most.fits number)

pub returns-in_default-2-clause-none : goal.returns-in_default-2-clause-none
returns-in_default-2-clause-none c =
    λ n number. search (rules, read_from_number _ _ _ _ _ c.ranges.most.fits number c.parse.ensures.value.0)

pub returns-in_default-3-clause-none : goal.returns-in_default-3-clause-none
returns-in_default-3-clause-none c =
    λ n number. search (rules, read_from_number _ _ _ _ _ c.ranges.most.fits number c.parse.ensures.value.0)

pub returns-in_default-4-clause-none : goal.returns-in_default-4-clause-none
returns-in_default-4-clause-none c =
    λ n number. search (rules, read_from_number _ _ _ _ _ c.ranges.most.fits number c.parse.ensures.value.0)
