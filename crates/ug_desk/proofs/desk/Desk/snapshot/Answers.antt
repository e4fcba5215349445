use Rattle.std.proofs.Common.{Some, sym, ap, ◌∙◌}
use Rattle.std.specs.Box.{with_value}
use Rattle.ug_desk.specs.Histories.{Entry, copied}
use Rattle.ug_desk.proofs.Turns.{called_home, may_put}
use Rattle.ug_desk.proofs.Turns.{copy_behind}
use Rattle.ug_desk.proofs.desk.Desk.snapshot.Goals as goal

pub put-requires-clause-may : goal.put-requires-clause-may
put-requires-clause-may g c =
    may_put c.pass.inside.rank copied _ _ _ c.out-locked_book.result (record { locked = with_value c.out-locked_book.result.locked c.snapshot-copy.new.self }) _
    (ap (λ (e : Entry). Some e) c.copied-entry.ensures) c.out-locked_book.ensures.taken c.pass.invariant.own c.deref_mut.ensures.value
    c.in-Ok.ensures.ok

pub returns-in-Ok-clause-ok : goal.returns-in-Ok-clause-ok
returns-in-Ok-clause-ok g c = record {
  after = c.snapshot-copy.new.self;
  called = called_home copied _ c.pass.inside.rank _ _ _ _ _ _ c.out-locked_book.result (record { locked = with_value c.out-locked_book.result.locked c.snapshot-copy.new.self }) _
      (ap (λ (e : Entry). Some e) c.copied-entry.ensures) c.out-locked_book.ensures.taken c.pass.invariant.own c.deref_mut.ensures.value
      c.in-Ok.ensures.ok
      c.put.ensures.put c.pass.view_is
      (c.put.ensures.lock ∙ (c.out-locked_book.ensures.out.lock_is ∙ sym c.requires));
  copy = copy_behind c.pass.inside.rank _ _ _ _ c.in-Ok.ensures.made c.in-Ok.ensures.ok;
}
