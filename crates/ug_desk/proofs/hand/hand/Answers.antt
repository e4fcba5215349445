use Rattle.std.proofs.Common.{◌≡◌, ◌∙◌, ap, subst, inl, List}
use Rattle.ug_rows.specs.declared.area.Interval.{Interval}
use Rattle.ug_problem.specs.Instances.{Instance, root_of}
use Rattle.ug_nodes.specs.Changes.{Tell}
use Rattle.ug_desk.proofs.hand.hand.Goals as goal

pub returns-clause-handed : goal.returns-clause-handed
returns-clause-handed c =
    let root : c.root.result.now ≡ root_of c.args.book.now.problem =
    c.root.ensures.value
    ∙ ap (λ (p : Instance). root_of p) (c.problem-2.ensures.value ∙ c.problem.ensures.value) in
    inl (record {
      changes = c.in-Ok.changes;
      rising = c.in-Ok.ensures.rising;
      told = subst (λ (area : List Interval). Tell area c.in-Ok.changes c.args.handed.area.now) root
          c.in-Ok.ensures.told;
      heard = record { due = c.hear.ensures.due; done = c.hear.ensures.done };
    })
