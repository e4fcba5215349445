use Rattle.std.proofs.Common.{◌≡◌, ◌∷◌, [], None, refl, rules, subst}
use Rattle.ug_rows.specs.Sums.{box_floor}
use Rattle.ug_propagate.specs.declared.fixpoint.Fixpoint.TheVariants.{Unknown}
use Rattle.ug_problem.specs.Instances.{Instance}
use Rattle.ug_problem.specs.Limits.{IsProblem}
use Rattle.ug_propagate.specs.Working.{IsBox}
use Rattle.ug_base.proofs.TaskLemmas.{new_chain, new_task}
use Rattle.ug_base.proofs.Through.{searches_itself}
use Rattle.ug_base.proofs.task.Task.new.Goals as goal

pub invariant_of-result : goal.invariant_of-result
invariant_of-result c =
    let work = c.in-Ok.begun.work in
    rw (c.own.ensures, c.plain.ensures) (record {
      task = new_task _ work c.in-Ok.begun.open_boxes c.args.gap _ (subst IsProblem c.problem.ensures.value c.columns-columns.ensures.problem)
          c.requires.below c.requires.cutoff c.requires.gap (search rules) c.in-Ok.ensures.open_boxes c.in-Ok.ensures.trail
          c.in-Ok.ensures.area refl c.new.ensures;
      chain = new_chain c.args.problem c.args.whole work c.in-Ok.begun.open_boxes
          (subst (λ (p : Instance). c.in-Ok.begun.open_boxes ≡ record {
            depth = 0;
            cut = None;
            floor = box_floor p.objective work.sums.area;
            fixpoint = Unknown;
            closed = 0;
          } ∷ []) c.problem-3.ensures.value c.in-Ok.ensures.open_boxes)
          (subst (λ (p : Instance). IsBox p work) c.problem-3.ensures.value c.in-Ok.ensures.work) c.in-Ok.ensures.trail c.in-Ok.ensures.area;
      searched = searches_itself c.args.params.base c.args.problem c.args.whole c.args.cutoff;
    })
