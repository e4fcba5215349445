use Rattle.std.proofs.Common.{◌∙◌, List, ap, subst}
use Rattle.ug_rows.specs.declared.area.Interval.{Interval}
use Rattle.ug_rows.specs.Boxes.{IsBelow}
use Rattle.ug_problem.specs.Instances.{root_of}
use Rattle.ug_nodes.specs.Changes.{AreChangesOf, IsAreaRefused, area_by}
use Rattle.ug_serve.specs.Actions.{task_of}
use Rattle.ug_serve.specs.Seats.{basis_of}
use Rattle.ug_serve.proofs.link_seat.LinkSeat.task.Goals as goal

pub made-requires-clause-below : goal.made-requires-clause-below
made-requires-clause-below g c =
    subst (λ (root : List Interval). IsBelow c.in-Ok.area root)
    (c.root.ensures.value ∙ ap root_of c.problem-problem.ensures.value) c.in-Ok.ensures.below

pub returns-in-Err : goal.returns-in-Err
returns-in-Err g c =
    subst (λ (root : List Interval). IsAreaRefused root c.args.changes.now c.in-Err.error)
    (c.root.ensures.value ∙ ap root_of c.problem-problem.ensures.value) c.in-Err.ensures.outcome

pub returns-in-Ok-made : goal.returns-in-Ok-made
returns-in-Ok-made g c =
    let same = c.root.ensures.value ∙ ap root_of c.problem-problem.ensures.value in
    record {
      valid = subst (λ (root : List Interval). AreChangesOf root c.args.changes.now) same
          c.in-Ok.ensures.outcome.valid;
      same = c.in-Ok-made.ensures
          ∙ ap (task_of (basis_of c.args.self.now.kept) c.args.ticket c.args.params c.args.cutoff)
          (c.in-Ok.ensures.value
          ∙ ap (λ (root : List Interval). area_by root c.args.changes.now) same);
    }

pub returns-in-Err-made : goal.returns-in-Err-made
returns-in-Err-made g c =
    subst (λ (root : List Interval). AreChangesOf root c.args.changes.now)
    (c.root.ensures.value ∙ ap root_of c.problem-problem.ensures.value)
    c.in-Ok.ensures.outcome.valid
