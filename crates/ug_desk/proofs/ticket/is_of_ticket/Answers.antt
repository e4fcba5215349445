use Rattle.std.proofs.Common.{◌≡◌, ◌∙◌, sym, subst}
use Rattle.ug_problem.specs.Instances.{Instance}
use Rattle.ug_desk.specs.Dones.{IsTaskOf}
use Rattle.ug_desk.proofs.Works.{of_ticket, ticket_of}
use Rattle.ug_desk.proofs.ticket.is_of_ticket.Goals as goal

pub returns-in-Some : goal.returns-in-Some
returns-in-Some c =
    let work = c.in-Some.work in
    let same : c.problem-in-Some.result.now ≡ c.args.book.now.problem =
    c.problem-in-Some.ensures.value ∙ c.problem.ensures.value in (
      λ yes. of_ticket c.args.book.now c.args.rank work c.args.task.now c.in-Some.ensures
          (subst (λ (p : Instance). IsTaskOf p work.ticket work.node.now c.args.task.now) same
          (c.is_task_of.ensures.0 yes)),
      λ of. c.is_task_of.ensures.1
          (subst (λ (p : Instance). IsTaskOf p work.ticket work.node.now c.args.task.now)
          (sym same) (ticket_of c.args.book.now c.args.rank work c.args.task.now c.in-Some.ensures of)),
    )
