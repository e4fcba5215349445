use Rattle.std.proofs.Common.{List, Some, sym, ap, ◌∙◌}
use Rattle.std.specs.Prelude.{ℤ}
use Rattle.std.specs.Box.{with_value}
use Rattle.ug_desk.specs.Histories.{Entry, offered}
use Rattle.ug_desk.proofs.Turns.{called_home, may_put}
use Rattle.ug_desk.proofs.desk.Desk.solution.Goals as goal

pub put-requires-clause-may : goal.put-requires-clause-may
put-requires-clause-may g c =
    may_put c.pass.inside.rank (offered c.args.point c.solution-heard.result) _ _ _ c.out-locked_book.result (record { locked = with_value c.out-locked_book.result.locked c.solution-heard.new.self }) _
    (ap (λ (e : Entry). Some e) c.offered-entry.ensures
    ∙ ap (λ (x : List ℤ). Some (record { pass = c.pass.inside.rank; call = offered x c.solution-heard.result })) c.of-said.ensures) c.out-locked_book.ensures.taken c.pass.invariant.own c.deref_mut.ensures.value
    c.solution-heard.ensures

pub returns : goal.returns
returns g c = (
  c.solution-heard.new.self,
  called_home (offered c.args.point c.solution-heard.result) _ c.pass.inside.rank _ _ _ _ _ _ c.out-locked_book.result (record { locked = with_value c.out-locked_book.result.locked c.solution-heard.new.self }) _
      (ap (λ (e : Entry). Some e) c.offered-entry.ensures
      ∙ ap (λ (x : List ℤ). Some (record { pass = c.pass.inside.rank; call = offered x c.solution-heard.result })) c.of-said.ensures) c.out-locked_book.ensures.taken c.pass.invariant.own c.deref_mut.ensures.value
      c.solution-heard.ensures
      c.put.ensures.put c.pass.view_is
      (c.put.ensures.lock ∙ (c.out-locked_book.ensures.out.lock_is ∙ sym c.requires)),
)
