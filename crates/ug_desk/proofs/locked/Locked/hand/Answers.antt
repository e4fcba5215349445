use Rattle.std.proofs.Common.{◌≡◌, ap, sym, subst, ◌∙◌, refl}
use Rattle.ug_desk.specs.DeskStates.{own_ticket}
use Rattle.ug_desk.specs.Histories.{handed}
use Rattle.ug_desk.specs.Reports.{HasHanded}
use Rattle.ug_desk.specs.Entries.{LockedState}
use Rattle.ug_desk.specs.Views.{state_of}
use Rattle.ug_desk.proofs.Entering.{entered_none}
use Rattle.ug_desk.proofs.locked.Locked.hand.Goals as goal

pub invariant_of-self : goal.invariant_of-self
invariant_of-self c =
    let l : LockedState = state_of c.self.inside in
    let ticket : c.ticket.result ≡ own_ticket l.now c.args.rank =
    c.ticket.ensures
    ∙ sym (ap (λ (k : LockedState). own_ticket k.now c.args.rank) c.self.view_is) in
    entered_none l _ _ c.args.rank c.self.inside.word (handed c.args.number c.args.area.now c.hand-heard.result) c.self.invariant
    (record {
      book = subst
          (λ ticket. HasHanded c.args.rank ticket c.args.number c.args.area.now c.hand-heard.result
          c.self.inside.book c.hand-heard.new.book)
          ticket c.hand-heard.ensures.handed;
      tickets = refl;
    })
    c.hand-heard.ensures.same c.hand-heard.ensures.sound
    c.one_more-self-inside.ensures tt
