use Rattle.std.proofs.Common.{ap, sym, ◌∙◌, subst}
use Rattle.ug_turn.specs.Locks.{id_of}
use Rattle.ug_desk.specs.Entries.{LockedState}
use Rattle.ug_desk.specs.Passes.{IsNewPass}
use Rattle.ug_desk.specs.LockedBooks.{IsFreshSeat}
use Rattle.ug_desk.proofs.Seating.{fresh_new}
use Rattle.ug_desk.proofs.desk.Desk.new.Goals as goal

pub passes-requires-clause-fresh : goal.passes-requires-clause-fresh
passes-requires-clause-fresh c = λ r s there.
    subst (λ o. IsFreshSeat (id_of c.in_ok-turn.turn) o r s)
    (ap (λ (l : LockedState). l.opening) c.in_ok-locked_book.ensures ∙ sym c.of-began.ensures)
    (fresh_new (id_of c.in_ok-turn.turn) _ _ _ r s (c.in_ok-turn.ensures.each r s there))

pub returns-in-Ok-passes-clause-each : goal.returns-in-Ok-passes-clause-each
returns-in-Ok-passes-clause-each c = λ r p there.
    subst (λ t. IsNewPass (id_of t) c.args.opening r p) (sym c.over.ensures)
    (subst (λ o. IsNewPass (id_of c.in_ok-turn.turn) o r p) c.of-began.ensures
    (c.in-Ok-passes.ensures.each r p there))
