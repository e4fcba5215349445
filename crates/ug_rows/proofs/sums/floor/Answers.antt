use Rattle.std.proofs.Common.{ap, subst, sym, arith}
use Rattle.std.proofs.lemmas.Int.{ints}
use Rattle.ug_rows.specs.Boxes.{IsInside}
use Rattle.ug_rows.specs.Rows.{sum_at}
use Rattle.ug_rows.proofs.sums.floor.Goals as goal

pub returns-clause-bound : goal.returns-clause-bound
returns-clause-bound c = λ x i.
    let b = c.sum_of_ends-least.ensures.bound x (subst (λ a. IsInside a x) (sym c.as_slice-2.ensures) i) in
    let same = ap (λ t. sum_at t x) c.as_slice.ensures in
    let s = c.sum_of_ends-least.ensures.small in
    let k = c.requires.constant in
    omega (arith, ints, b, same)
