-- The formulation of a problem that is searched: its own rows, or more that follow from them.
use Rattle.std.specs.Prelude.{◌≡◌, ℤ, List, Option, Some, None}
use Rattle.ug_rows.specs.declared.area.Interval.{Interval}
use Rattle.ug_branch.specs.declared.params.Base.{Base}
use Rattle.ug_branch.specs.declared.params.Base.TheVariants.{Bound, Surrogate}
use Rattle.ug_problem.specs.Instances.{Instance}
use Rattle.ug_surrogate.specs.Stronger.{Follows}

-- a problem, and what is searched
pub record FormulationState : Type 0 where
  pub problem : Instance
  pub searched : Instance

-- the problem itself, where there is no other
abbrev pub searched_of : Instance → Option Instance → Instance
searched_of p None = p
searched_of p (Some s) = s

-- the formulation that is searched for a box under a cutoff: the problem, or one that follows from
-- it
abbrev pub Searches : Base → Instance → List Interval → Option ℤ → Instance → Type 0
Searches Bound p whole cutoff s = s ≡ p
Searches Surrogate p whole cutoff s = Follows p whole cutoff s
