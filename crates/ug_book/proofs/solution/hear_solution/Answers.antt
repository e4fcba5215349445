use Rattle.std.proofs.Common.{refl, sym, ◌∙◌}
use Rattle.std.proofs.lemmas.Bool.{false≢true}
use Rattle.ug_frames.specs.declared.report.Report.TheVariants.{Solution}
use Rattle.ug_book.proofs.Due.{due_now, due_stale, solution_now}
use Rattle.ug_book.proofs.solution.hear_solution.Goals as goal

pub returns-then-not-has_ticket-clause-due : goal.returns-then-not-has_ticket-clause-due
returns-then-not-has_ticket-clause-due c = λ b problem best.
    due_stale b c.args.state.now c.args.ticket (Solution c.args.ticket c.args.point) _
    (λ same. false≢true (sym c.if-not-has_ticket.true ∙ c.has_ticket.ensures.1 same)) refl

pub returns-clause-due : goal.returns-clause-due
returns-clause-due c = λ b problem best.
    let current = c.has_ticket.ensures.0 c.if-not-has_ticket.false in
    due_now b c.args.state.now c.args.ticket (Solution c.args.ticket c.args.point) _ current
    (solution_now b c.args.state.now c.args.ticket c.args.point _ current
    (c.offer.ensures.due b problem best))
