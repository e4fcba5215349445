use Rattle.std.proofs.Common.{◌≡◌, ap, sym, subst, ◌∙◌}
use Rattle.ug_desk.specs.DeskStates.{own_ticket}
use Rattle.ug_desk.specs.Reports.{HasOffered}
use Rattle.ug_desk.specs.Entries.{LockedState}
use Rattle.ug_desk.specs.Views.{state_of}
use Rattle.ug_desk.proofs.Entering.{entered_point}
use Rattle.ug_desk.proofs.locked.Locked.solution.Goals as goal

pub invariant_of-self : goal.invariant_of-self
invariant_of-self c =
    let l : LockedState = state_of c.self.inside in
    let ticket : c.ticket-ticket.result ≡ own_ticket l.now c.args.rank =
    c.ticket-ticket.ensures
    ∙ sym (ap (λ (k : LockedState). own_ticket k.now c.args.rank) c.self.view_is) in
    entered_point l _ _ c.args.rank _ c.self.inside.word c.args.point c.hear-heard.result c.self.invariant
    (subst
    (λ ticket. HasOffered c.args.rank ticket c.args.point c.hear-heard.result
    c.self.inside.book c.hear-heard.new.self)
    ticket
    (record { due = c.hear-heard.ensures.due; done = c.hear-heard.ensures.done }))
    c.hear-heard.ensures.same (c.hear-heard.ensures.sound tt)
    c.one_more-self-inside.ensures c.word_behind-self-inside.ensures.kept c.word_behind-self-inside.ensures.other
