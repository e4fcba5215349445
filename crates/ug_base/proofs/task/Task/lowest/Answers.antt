use Rattle.ug_base.specs.Views.{state_of}
use Rattle.ug_base.proofs.Through.{follows_of}
use Rattle.ug_base.proofs.Floors.{lowest_bounds, lowest_of, lowest_small}
use Rattle.ug_base.proofs.task.Task.lowest.Goals as goal

pub returns-clause-some : goal.returns-clause-some
returns-clause-some c = rw (← c.self.view_is)
    (lowest_of c.self.inside.formulation.problem c.self.inside.formulation.searched c.self.inside.whole c.self.inside.work c.self.inside.open_boxes _
    (follows_of c.self.inside.scores.base c.self.inside.formulation.problem c.self.inside.whole c.self.inside.cutoff
    c.self.inside.formulation.searched c.self.invariant.searched).objective c.self.invariant.chain c.lowest.ensures.some)

pub returns-clause-bound : goal.returns-clause-bound
returns-clause-bound c = rw (← c.self.view_is)
    (lowest_bounds (state_of c.self.inside) _ c.self.invariant.task
    (lowest_of c.self.inside.formulation.problem c.self.inside.formulation.searched c.self.inside.whole c.self.inside.work c.self.inside.open_boxes _
    (follows_of c.self.inside.scores.base c.self.inside.formulation.problem c.self.inside.whole c.self.inside.cutoff
    c.self.inside.formulation.searched c.self.invariant.searched).objective c.self.invariant.chain c.lowest.ensures.some))

pub returns-clause-small : goal.returns-clause-small
returns-clause-small c = lowest_small (state_of c.self.inside) _ c.self.invariant.task
    (lowest_of c.self.inside.formulation.problem c.self.inside.formulation.searched c.self.inside.whole c.self.inside.work c.self.inside.open_boxes _
    (follows_of c.self.inside.scores.base c.self.inside.formulation.problem c.self.inside.whole c.self.inside.cutoff
    c.self.inside.formulation.searched c.self.invariant.searched).objective c.self.invariant.chain c.lowest.ensures.some)
