use Rattle.std.proofs.Common.{refl}
use Rattle.ug_base.specs.Views.{state_of}
use Rattle.ug_base.proofs.Chains.{chain_rest, first_open_box}
use Rattle.ug_base.proofs.HandLemmas.{handed_task}
use Rattle.ug_base.proofs.task.Task.give.Goals as goal

pub move_first-requires-clause-deep : goal.move_first-requires-clause-deep
move_first-requires-clause-deep c =
    (first_open_box c.self.inside.formulation.searched c.self.inside.whole c.self.inside.work c.self.inside.open_boxes c.in-Some.first
    c.self.invariant.chain c.in-Some.ensures).deep

pub invariant_of-self-2 : goal.invariant_of-self-2
invariant_of-self-2 c =
    let t = state_of c.self.inside in
    let m = c.in_ok-area.ensures.ok in
    record {
      task = handed_task t c.self.inside.work c.self.inside.open_boxes _ _ c.in_ok-area.area refl c.self.invariant.task m;
      chain = chain_rest c.self.inside.formulation.searched c.self.inside.whole c.self.inside.work m.open_box c.self.inside.open_boxes m.rest _
          c.self.invariant.chain m.first m.left;
      searched = c.self.invariant.searched;
    }
