-- What contracts see of a task.
use Rattle.ug_base.specs.declared.task.Task.TheInside.{Inside}
use Rattle.ug_base.specs.Chains.{IsChain, areas_of}
use Rattle.ug_base.specs.Formulations.{Searches}
use Rattle.ug_base.specs.Tasks.{TaskState, IsTask}

-- the state that the fields of a task say
abbrev pub state_of : Inside → TaskState
state_of t = record {
  problem = t.formulation.problem;
  ticket = t.ticket;
  params = t.scores;
  whole = t.whole;
  cutoff = t.cutoff;
  gap = t.gap;
  boxes = areas_of t.work t.open_boxes;
  handed = t.handed;
}

-- the fields are those of a task, whose boxes are parts of its working box over what is searched
pub record AreOfTask (t : Inside) : Type 0 where
  pub task : IsTask (state_of t)
  pub chain : IsChain t.formulation.searched t.whole t.work t.open_boxes
  pub searched : Searches t.scores.base t.formulation.problem t.whole t.cutoff
      t.formulation.searched
