use Rattle.std.proofs.Common.{subst, Some, sym, ap, ◌∙◌}
use Rattle.std.specs.Prelude.{ℤ}
use mir.Syntax.{w128}
use Rattle.std.proofs.lemmas.Int.{to_z-of_z}
use Rattle.ug_desk.specs.Entries.{HasEntered}
use Rattle.std.specs.Box.{with_value}
use Rattle.ug_desk.specs.Histories.{Entry, stated}
use Rattle.ug_desk.proofs.Turns.{called_home, may_put}
use Rattle.ug_desk.proofs.desk.Desk.state.Goals as goal

pub put-requires-clause-may : goal.put-requires-clause-may
put-requires-clause-may g c =
    may_put c.pass.inside.rank (stated c.args.left c.args.floor c.state-reply.result) _ _ _ c.out-locked_book.result (record { locked = with_value c.out-locked_book.result.locked c.state-reply.new.self }) _
    (ap (λ (e : Entry). Some e) c.stated-entry.ensures
    ∙ ap (λ (z : ℤ). Some (record { pass = c.pass.inside.rank; call = stated c.args.left z c.state-reply.result })) (to_z-of_z w128 c.args.floor c.ranges.floor)) c.out-locked_book.ensures.taken c.pass.invariant.own c.deref_mut.ensures.value
    (subst (λ (z : ℤ). HasEntered c.pass.inside.rank (stated c.args.left z c.state-reply.result) c.deref_mut.result.now c.state-reply.new.self) (to_z-of_z w128 c.args.floor c.ranges.floor) c.state-reply.ensures.entered)

pub returns-clause-called : goal.returns-clause-called
returns-clause-called g c = (
  c.state-reply.new.self,
  called_home (stated c.args.left c.args.floor c.state-reply.result) _ c.pass.inside.rank _ _ _ _ _ _ c.out-locked_book.result (record { locked = with_value c.out-locked_book.result.locked c.state-reply.new.self }) _
      (ap (λ (e : Entry). Some e) c.stated-entry.ensures
      ∙ ap (λ (z : ℤ). Some (record { pass = c.pass.inside.rank; call = stated c.args.left z c.state-reply.result })) (to_z-of_z w128 c.args.floor c.ranges.floor)) c.out-locked_book.ensures.taken c.pass.invariant.own c.deref_mut.ensures.value
      (subst (λ (z : ℤ). HasEntered c.pass.inside.rank (stated c.args.left z c.state-reply.result) c.deref_mut.result.now c.state-reply.new.self) (to_z-of_z w128 c.args.floor c.ranges.floor) c.state-reply.ensures.entered)
      c.put.ensures.put c.pass.view_is
      (c.put.ensures.lock ∙ (c.out-locked_book.ensures.out.lock_is ∙ sym c.requires.lock)),
)
