-- A rank's work until its task is made.
use Rattle.std.specs.Prelude.{[], ◌∷◌}
use Rattle.ug_problem.specs.Better.{IsGap, IsSmallCutoff}
use Rattle.ug_problem.specs.Instances.{root_of}
use Rattle.ug_nodes.specs.Changes.{AreChangesOf, area_by}
use Rattle.ug_base.specs.Tasks.{TaskState}
use Rattle.ug_desk.specs.declared.parcel.Parcel.TheInside.{Inside}

-- the task that is made of it: the whole box is left
abbrev pub task_in : Inside → TaskState
task_in p = record {
  problem = p.problem;
  ticket = p.ticket;
  params = p.params;
  whole = area_by (root_of p.problem) p.changes;
  cutoff = p.cutoff;
  gap = p.gap;
  boxes = area_by (root_of p.problem) p.changes ∷ [];
  handed = [];
}

-- its node has a box, and a task may have its cutoff and its gap
pub record IsParcel (p : Inside) : Type 0 where
  pub changes : AreChangesOf (root_of p.problem) p.changes
  pub cutoff : IsSmallCutoff p.cutoff
  pub gap : IsGap p.gap
