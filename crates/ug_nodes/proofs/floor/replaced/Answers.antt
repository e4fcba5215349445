use Rattle.std.proofs.Common.{◌≤◌, ◌*◌, ◌^◌, unsigned_abs, arith}
use Rattle.std.proofs.lemmas.Int.{ints}
use Rattle.ug_nodes.proofs.Floors.{replaced_in_code, replaced_in_range, replaced_small}
use Rattle.ug_nodes.proofs.floor.replaced.Goals as goal

pub overflow_add-result : goal.overflow_add-result
overflow_add-result c =
    replaced_in_range c.args.total c.add_end-old.result c.add_end-new.result c.requires.total
    (omega (arith, c.add_end-old.ensures.small)) (omega (arith, c.add_end-new.ensures.small))

pub returns-clause-value : goal.returns-clause-value
returns-clause-value c =
    rw (replaced_in_code c.args.total c.add_end-old.result c.add_end-new.result c.requires.total
    (omega (arith, c.add_end-old.ensures.small)) (omega (arith, c.add_end-new.ensures.small)))
    (omega (arith, ints, c.add_end-old.ensures.value, c.add_end-new.ensures.value))

pub returns-clause-small : goal.returns-clause-small
returns-clause-small c =
    let old : unsigned_abs c.add_end-old.result ≤ 10 ^ 24 * 2 ^ 31 = omega (arith, c.add_end-old.ensures.small) in
    let new : unsigned_abs c.add_end-new.result ≤ 10 ^ 24 * 2 ^ 31 = omega (arith, c.add_end-new.ensures.small) in
    rw (replaced_in_code c.args.total c.add_end-old.result c.add_end-new.result c.requires.total old new)
    (replaced_small c.args.total c.add_end-old.result c.add_end-new.result old new)
