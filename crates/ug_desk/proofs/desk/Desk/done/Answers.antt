use Rattle.std.proofs.Common.{◌≡◌, inl, inr, subst, Some, refl, sym, ap, ◌∙◌, rules}
use Rattle.ug_rules.specs.declared.heard.Heard.TheVariants.{Stale}
use Rattle.ug_desk.specs.Dones.{IsOfTicket}
use Rattle.ug_desk.specs.Entries.{LockedState}
use Rattle.ug_desk.specs.Passes.{IsItsProblem, PassState}
use Rattle.std.specs.Box.{with_value}
use Rattle.ug_desk.specs.Histories.{Entry, ended}
use Rattle.ug_turn.specs.Seats.{lock_of, view_of}
use Rattle.ug_desk.specs.Backing.{Backs, IsKnownBacked}
use Rattle.ug_desk.proofs.Backing.{done_backed, known_out, stale_backed}
use Rattle.ug_desk.proofs.Turns.{called_home, may_put, problem_out}
use Rattle.ug_desk.proofs.Turns.{entered_of, none_home, other_of}
use Rattle.ug_desk.proofs.desk.Desk.done.Goals as goal

pub done-heard-requires-clause-problem : goal.done-heard-requires-clause-problem
done-heard-requires-clause-problem g c =
    problem_out (view_of c.pass.inside.seat) c.out-locked_book.result c.args.task c.deref_mut.result.now c.out-locked_book.ensures.taken.opened
    c.out-locked_book.ensures.out.locked c.deref_mut.ensures.value
    (subst (λ (p : PassState). IsItsProblem p c.args.task.problem) (sym c.pass.view_is)
    c.requires.problem)

pub put-requires-2-clause-may : goal.put-requires-2-clause-may
put-requires-2-clause-may g c =
    may_put c.pass.inside.rank (ended c.args.task c.done-heard.result) _ _ _ c.out-locked_book.result (record { locked = with_value c.out-locked_book.result.locked c.done-heard.new.self }) _
    (ap (λ (e : Entry). Some e) c.ended-entry.ensures) c.out-locked_book.ensures.taken c.pass.invariant.own c.deref_mut.ensures.value
    (entered_of c.pass.inside.rank c.args.task c.done-heard.result _ _ (search rules) c.done-heard.ensures)

pub returns-clause-ended : goal.returns-clause-ended
returns-clause-ended g c = inl (
  c.done-heard.new.self,
  called_home (ended c.args.task c.done-heard.result) _ c.pass.inside.rank _ _ _ _ _ _ c.out-locked_book.result (record { locked = with_value c.out-locked_book.result.locked c.done-heard.new.self }) _
      (ap (λ (e : Entry). Some e) c.ended-entry.ensures) c.out-locked_book.ensures.taken c.pass.invariant.own c.deref_mut.ensures.value
      (entered_of c.pass.inside.rank c.args.task c.done-heard.result _ _ (search rules) c.done-heard.ensures)
      c.put-2.ensures.put c.pass.view_is
      (c.put-2.ensures.lock ∙ (c.out-locked_book.ensures.out.lock_is ∙ sym c.requires.lock)),
)

pub returns-then-eq-clause-ended : goal.returns-then-eq-clause-ended
returns-then-eq-clause-ended g c =
    let stale : c.done-heard.result ≡ Stale = search rules in
    let o = other_of c.pass.inside.rank c.args.task c.done-heard.result _ _ stale c.done-heard.ensures in
    inr (record {
      after = c.done-heard.new.self;
      called = none_home _ c.pass.inside.rank _ _ _ _ _ _ c.out-locked_book.result
          (record { locked = with_value c.out-locked_book.result.locked c.done-heard.new.self }) refl
          c.out-locked_book.ensures.taken c.pass.invariant.own (o.same ∙ c.deref_mut.ensures.value) c.put.ensures.put
          c.pass.view_is (c.put.ensures.lock ∙ (c.out-locked_book.ensures.out.lock_is ∙ sym c.requires.lock));
      other = subst (λ (l : LockedState). ¬ IsOfTicket l.now.book c.args.pass.now.rank c.args.task) (sym o.same)
          (subst (λ r. ¬ IsOfTicket c.deref_mut.result.now.now.book r c.args.task)
          (ap (λ (p : PassState). p.rank) c.pass.view_is) o.other);
      stale = stale;
    })

pub returns-clause-backed : goal.returns-clause-backed
returns-clause-backed g c =
    done_backed c.pass.inside.rank c.args.task c.done-heard.result _ _ c.done-heard.ensures
    (subst (λ (l : LockedState). Backs l.now.book c.args.task.cutoff) (sym c.deref_mut.ensures.value)
    (known_out (lock_of c.pass.inside.seat) c.pass.inside.rank _ _ c.out-locked_book.result c.args.task.cutoff c.out-locked_book.ensures.taken
    (subst (λ (p : PassState). IsKnownBacked p c.args.task.cutoff) (sym c.pass.view_is) c.requires.known)))

pub returns-then-eq-clause-backed : goal.returns-then-eq-clause-backed
returns-then-eq-clause-backed g c = λ unbacked.
    stale_backed c.done-heard.result (search rules) unbacked
