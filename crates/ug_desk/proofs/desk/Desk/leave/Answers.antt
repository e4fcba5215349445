use Rattle.std.proofs.Common.{◌≡◌, inl, inr, false, subst, Some, refl, sym, ap, ◌∙◌, rules}
use Rattle.ug_ranks.specs.Looks.{is_alive}
use Rattle.ug_ranks.specs.States.{state_at}
use Rattle.ug_desk.specs.Entries.{HasEntered, LockedState}
use Rattle.ug_desk.specs.Passes.{PassState}
use Rattle.std.specs.Box.{with_value}
use Rattle.ug_desk.specs.Histories.{Entry, left}
use Rattle.ug_desk.proofs.Turns.{called_home, may_put}
use Rattle.ug_desk.proofs.Turns.{if_alive, if_dead, none_home}
use Rattle.ug_desk.proofs.desk.Desk.leave.Goals as goal

pub put-requires-2-clause-may : goal.put-requires-2-clause-may
put-requires-2-clause-may g c =
    may_put c.pass.inside.rank left _ _ _ c.out-locked_book.result (record { locked = with_value c.out-locked_book.result.locked c.leave-lived.new.self }) _
    (ap (λ (e : Entry). Some e) c.left-entry.ensures) c.out-locked_book.ensures.taken c.pass.invariant.own c.deref_mut.ensures.value
    (if_alive (is_alive (state_at c.deref_mut.result.now.now.book.ranks c.pass.inside.rank)) (HasEntered c.pass.inside.rank left c.deref_mut.result.now c.leave-lived.new.self) (c.leave-lived.new.self ≡ c.deref_mut.result.now) c.leave-lived.ensures.done (search rules))

pub returns : goal.returns
returns g c = inl (
  c.leave-lived.new.self,
  called_home left _ c.pass.inside.rank _ _ _ _ _ _ c.out-locked_book.result (record { locked = with_value c.out-locked_book.result.locked c.leave-lived.new.self }) _
      (ap (λ (e : Entry). Some e) c.left-entry.ensures) c.out-locked_book.ensures.taken c.pass.invariant.own c.deref_mut.ensures.value
      (if_alive (is_alive (state_at c.deref_mut.result.now.now.book.ranks c.pass.inside.rank)) (HasEntered c.pass.inside.rank left c.deref_mut.result.now c.leave-lived.new.self) (c.leave-lived.new.self ≡ c.deref_mut.result.now) c.leave-lived.ensures.done (search rules))
      c.put-2.ensures.put c.pass.view_is
      (c.put-2.ensures.lock ∙ (c.out-locked_book.ensures.out.lock_is ∙ sym c.requires)),
)

pub returns-then-not-lived : goal.returns-then-not-lived
returns-then-not-lived g c =
    let dead : (is_alive (state_at c.deref_mut.result.now.now.book.ranks c.pass.inside.rank)) ≡ false = search rules in
    let same = if_dead (is_alive (state_at c.deref_mut.result.now.now.book.ranks c.pass.inside.rank)) (HasEntered c.pass.inside.rank left c.deref_mut.result.now c.leave-lived.new.self) (c.leave-lived.new.self ≡ c.deref_mut.result.now) c.leave-lived.ensures.done dead in
    inr (record {
      after = c.leave-lived.new.self;
      called = none_home _ c.pass.inside.rank _ _ _ _ _ _ c.out-locked_book.result
          (record { locked = with_value c.out-locked_book.result.locked c.leave-lived.new.self }) refl
          c.out-locked_book.ensures.taken c.pass.invariant.own (same ∙ c.deref_mut.ensures.value) c.put.ensures.put
          c.pass.view_is (c.put.ensures.lock ∙ (c.out-locked_book.ensures.out.lock_is ∙ sym c.requires));
      gone = subst (λ (l : LockedState). is_alive (state_at l.now.book.ranks c.args.pass.now.rank) ≡ false) (sym same)
          (subst (λ r. is_alive (state_at c.deref_mut.result.now.now.book.ranks r) ≡ false)
          (ap (λ (p : PassState). p.rank) c.pass.view_is) dead);
    })
