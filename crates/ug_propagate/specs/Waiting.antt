-- Rounds over rows that wait: a row that is at fixpoint is passed over.
use Rattle.std.specs.Prelude.{◌≡◌, ℕ, suc, zero, ℤ, ◌<◌, ◌≤◌, List, length, Option, Some, None}
use Rattle.ug_rows.specs.declared.area.Interval.{Interval}
use Rattle.ug_problem.specs.Instances.{Instance}
use Rattle.ug_problem.specs.ColumnEntries.{terms_of}
use Rattle.ug_propagate.specs.declared.row_sides.Propagated.{Propagated}
use Rattle.ug_propagate.specs.declared.tight.Tight.{Tight}
use Rattle.ug_propagate.specs.declared.tight.Tight.TheVariants.{Kept, Empty}
use Rattle.ug_propagate.specs.Queued.{bit_of}
use Rattle.ug_propagate.specs.Rounds.{row_step}
use Rattle.ug_propagate.specs.Steps.{propagated_of, row_of}
use Rattle.ug_propagate.specs.Working.{IsLater, IsSame, IsWorking, AtFixpointWhereChanged, AtFixpointWhereSame, WorkState, sides_for}

-- what the propagation of row r makes of a box under a cutoff
abbrev pub propagated_to : Instance → Option ℤ → ℕ → List Interval → Tight
propagated_to p cutoff r area =
    row_step (sides_for p cutoff r).row (row_of (sides_for p cutoff r) (terms_of p r)) area

-- what the propagation of row r made of a working box under a cutoff, and what it reports of how
-- the row rests
pub record HasPropagated (p : Instance) (cutoff : Option ℤ) (r : ℕ) (old new : WorkState) (propagated : Propagated) :
    Type 0 where
  pub value : propagated_of propagated new.sums.area ≡ propagated_to p cutoff r old.sums.area
  pub same : IsSame propagated old new
  pub rest : AtFixpointWhereSame propagated (sides_for p cutoff r) (terms_of p r) old.sums.area
  pub snug : AtFixpointWhereChanged propagated (sides_for p cutoff r) (terms_of p r) new.sums.area

-- the same, where the box is not yet found empty
abbrev pub then_propagate : Instance → Option ℤ → ℕ → Tight → Tight
then_propagate p cutoff r (Empty reason) = Empty reason
then_propagate p cutoff r (Kept area) = propagated_to p cutoff r area

-- propagates the first n rows, in order
unfoldable pub propagate_first : ℕ → Instance → Option ℤ → Tight → Tight
propagate_first zero p cutoff outcome = outcome
propagate_first (suc n) p cutoff outcome = then_propagate p cutoff n (propagate_first n p cutoff outcome)

-- no row from this one on is queued
abbrev pub NoneQueuedFrom : Instance → List ℕ → ℕ → Type 0
NoneQueuedFrom p queued from = (r : ℕ) → from ≤ r → r ≤ length p.rows → bit_of queued r ≡ 0

-- r is the first row from this one on that is queued
pub record IsNextRow (p : Instance) (queued : List ℕ) (from r : ℕ) : Type 0 where
  pub least : from ≤ r
  pub there : r ≤ length p.rows
  pub between : (k : ℕ) → from ≤ k → k < r → bit_of queued k ≡ 0

-- the first row from this one on that is queued, if there is one
abbrev pub IsRowFound : Instance → List ℕ → ℕ → Option ℕ → Type 0
IsRowFound p queued from None = NoneQueuedFrom p queued from
IsRowFound p queued from (Some r) = IsNextRow p queued from r

-- a working box continued to another under a cutoff
pub record WentOn (p : Instance) (cutoff : Option ℤ) (old new : WorkState) : Type 0 where
  pub working : IsWorking p cutoff new
  pub later : IsLater old new
