use Rattle.std.proofs.Common.{Some, sym, ap, ◌∙◌, rules}
use Rattle.std.specs.Box.{with_value}
use Rattle.ug_desk.specs.Histories.{Entry, handed}
use Rattle.ug_desk.proofs.Turns.{called_home, may_put}
use Rattle.ug_desk.proofs.desk.Desk.hand.Goals as goal

pub put-requires-2-clause-may : goal.put-requires-2-clause-may
put-requires-2-clause-may g c =
    may_put c.pass.inside.rank (handed c.args.number c.args.area.now c.hand-heard.result) _ _ _ c.out-locked_book.result (record { locked = with_value c.out-locked_book.result.locked c.hand-heard.new.self }) _
    (ap (λ (e : Entry). Some e) c.handed-entry.ensures) c.out-locked_book.ensures.taken c.pass.invariant.own c.deref_mut.ensures.value
    c.hand-heard.ensures

pub returns : goal.returns
returns g c = record {
  after = c.hand-heard.new.self;
  wide = λ wide. called_home (handed c.args.number c.args.area.now c.hand-heard.result) _ c.pass.inside.rank _ _ _ _ _ _ c.out-locked_book.result (record { locked = with_value c.out-locked_book.result.locked c.hand-heard.new.self }) _
      (ap (λ (e : Entry). Some e) c.handed-entry.ensures) c.out-locked_book.ensures.taken c.pass.invariant.own c.deref_mut.ensures.value
      c.hand-heard.ensures
      c.put-2.ensures.put c.pass.view_is
      (c.put-2.ensures.lock ∙ (c.out-locked_book.ensures.out.lock_is ∙ sym c.requires));
  other = λ other. absurd (other (search rules));
}
