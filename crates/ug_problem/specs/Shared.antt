-- A problem that many may hold.
use Rattle.std.specs.Arc.{arc_value}
use Rattle.ug_problem.specs.Instances.{Instance}
use Rattle.ug_problem.specs.declared.shared.Holder.{Holder}
use Rattle.ug_problem.specs.declared.shared.Holder.TheVariants.{Own, Counted}

-- the problem that is held
abbrev pub held_by : Holder → Instance
held_by (Own p) = p
held_by (Counted place) = arc_value place
