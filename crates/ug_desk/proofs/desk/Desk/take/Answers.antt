use Rattle.std.proofs.Common.{Some, sym, ap, ◌∙◌}
use Rattle.std.specs.Box.{with_value}
use Rattle.ug_desk.specs.Histories.{Entry, taken}
use Rattle.ug_desk.specs.Givens.{taken_by}
use Rattle.ug_desk.proofs.Taking.{opened_in}
use Rattle.ug_desk.proofs.Turns.{called_home, may_put}
use Rattle.ug_desk.proofs.desk.Desk.take.Goals as goal

pub put-requires-clause-may : goal.put-requires-clause-may
put-requires-clause-may g c =
    may_put c.pass.inside.rank (taken (taken_by c.take-given.result)) _ _ _ c.out-locked_book.result (record { locked = with_value c.out-locked_book.result.locked c.take-given.new.self }) _
    (ap (λ (e : Entry). Some e) c.taken-entry.ensures) c.out-locked_book.ensures.taken c.pass.invariant.own c.deref_mut.ensures.value
    c.take-given.ensures

pub returns-clause-taken : goal.returns-clause-taken
returns-clause-taken g c = opened_in c.take-given.result c.opened.result c.take-given.new.self _ _ c.opened.ensures (
    called_home (taken (taken_by c.take-given.result)) _ c.pass.inside.rank _ _ _ _ _ _ c.out-locked_book.result (record { locked = with_value c.out-locked_book.result.locked c.take-given.new.self }) _
    (ap (λ (e : Entry). Some e) c.taken-entry.ensures) c.out-locked_book.ensures.taken c.pass.invariant.own c.deref_mut.ensures.value
    c.take-given.ensures
    c.put.ensures.put c.pass.view_is
    (c.put.ensures.lock ∙ (c.out-locked_book.ensures.out.lock_is ∙ sym c.requires))
    )
