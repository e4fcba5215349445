use Rattle.std.proofs.Common.{refl, subst}
use Rattle.ug_desk.specs.Histories.{taken}
use Rattle.ug_desk.specs.Entries.{HasEntered, LockedState}
use Rattle.ug_desk.specs.Givens.{taken_by}
use Rattle.ug_desk.specs.Views.{state_of}
use Rattle.ug_desk.proofs.Entering.{entered, given_step, given_wide, word_after}
use Rattle.ug_desk.proofs.locked.Locked.take.Goals as goal

pub invariant_of-self : goal.invariant_of-self
invariant_of-self c =
    let l : LockedState = state_of c.self.inside in
    let step = given_step c.take-given.result c.args.rank l.now c.take-given.new.book
    c.note.new.tickets.items c.take-given.ensures.ok c.take-given.ensures.err c.note.ensures.ok
    c.note.ensures.err in (
      entered l _ c.args.rank (taken (taken_by c.take-given.result)) c.self.invariant.0
          (record { step = step; opening = refl; count = c.one_more-self-inside.ensures })
          c.take-given.ensures.same c.take-given.ensures.sound
          (given_wide c.take-given.result c.args.rank l.now.tickets c.note.new.tickets.items
          c.note.ensures.ok c.note.ensures.err),
      word_after c.self.inside.word c.args.rank (taken (taken_by c.take-given.result)) l.now _
          c.self.invariant.1 tt step,
    )

pub returns : goal.returns
returns c =
    let l : LockedState = state_of c.self.inside in
    subst (λ (old : LockedState). HasEntered c.args.rank (taken (taken_by c.take-given.result)) old (record {
      opening = l.opening;
      now = record { book = c.take-given.new.book; tickets = c.note.new.tickets.items };
      count = c.one_more-self-inside.result;
    })) c.self.view_is
    (record {
      step = given_step c.take-given.result c.args.rank l.now c.take-given.new.book
          c.note.new.tickets.items c.take-given.ensures.ok c.take-given.ensures.err c.note.ensures.ok
          c.note.ensures.err;
      opening = refl;
      count = c.one_more-self-inside.ensures;
    })
