use Rattle.std.proofs.Common.{◌≡◌, ap, sym, subst, ◌∙◌, refl}
use mir.Syntax.{w128}
use Rattle.std.proofs.lemmas.Int.{to_z-of_z}
use Rattle.ug_desk.specs.DeskStates.{own_ticket}
use Rattle.ug_desk.specs.Histories.{stated}
use Rattle.ug_desk.specs.Entries.{HasEntered, LockedState}
use Rattle.ug_desk.specs.Views.{state_of}
use Rattle.ug_desk.proofs.Entering.{entered_none, stated_by}
use Rattle.ug_desk.proofs.locked.Locked.state.Goals as goal

pub invariant_of-self : goal.invariant_of-self
invariant_of-self c =
    let l : LockedState = state_of c.self.inside in
    let ticket : c.ticket-ticket.result ≡ own_ticket l.now c.args.rank =
    c.ticket-ticket.ensures
    ∙ sym (ap (λ (k : LockedState). own_ticket k.now c.args.rank) c.self.view_is) in
    entered_none l _ _ c.args.rank c.self.inside.word (stated c.args.left c.args.floor c.state-reply.result)
    c.self.invariant
    (stated_by c.state-reply.result c.args.rank c.args.left _ c.args.floor l.now
    c.ticket-ticket.result c.state-reply.new.book ticket
    (to_z-of_z w128 c.args.floor c.ranges.floor) c.state-reply.ensures.ok c.state-reply.ensures.err)
    c.state-reply.ensures.same c.state-reply.ensures.sound c.one_more-self-inside.ensures tt

pub returns-clause-entered : goal.returns-clause-entered
returns-clause-entered c =
    let l : LockedState = state_of c.self.inside in
    let ticket : c.ticket-ticket.result ≡ own_ticket l.now c.args.rank =
    c.ticket-ticket.ensures
    ∙ sym (ap (λ (k : LockedState). own_ticket k.now c.args.rank) c.self.view_is) in
    subst (λ (old : LockedState). HasEntered c.args.rank (stated c.args.left c.args.floor c.state-reply.result) old (record {
      opening = l.opening;
      now = record { book = c.state-reply.new.book; tickets = l.now.tickets };
      count = c.one_more-self-inside.result;
    }))
    c.self.view_is
    (record {
      step = stated_by c.state-reply.result c.args.rank c.args.left _ c.args.floor l.now
          c.ticket-ticket.result c.state-reply.new.book ticket
          (to_z-of_z w128 c.args.floor c.ranges.floor) c.state-reply.ensures.ok
          c.state-reply.ensures.err;
      opening = refl;
      count = c.one_more-self-inside.ensures;
    })
