-- What a step does: it takes the last box left, and drops it, finds its one point good, or branches
-- it.
use Rattle.std.specs.Prelude.{◌≡◌, ℤ, ◌<◌, List, [], ◌∷◌, ◌++◌, Option, Some}
use Rattle.ug_rows.specs.declared.area.Interval.{Interval}
use Rattle.ug_rows.specs.Boxes.{IsBelow, IsInside, IsNonEmpty, IsCrossed, IsFixed}
use Rattle.ug_branch.specs.declared.params.Base.{Base}
use Rattle.ug_branch.specs.declared.params.Base.TheVariants.{Bound, Surrogate}
use Rattle.ug_problem.specs.Instances.{Instance}
use Rattle.ug_propagate.specs.declared.tight.Tight.{Tight}
use Rattle.ug_propagate.specs.declared.tight.Tight.TheVariants.{Kept, Empty as NothingLeft}
use Rattle.ug_problem.specs.Better.{AreAllHanded, HasNoGood, IsGood, cutoff_of}
use Rattle.ug_propagate.specs.Rounds.{rounds}
use Rattle.ug_base.specs.declared.step.Step.{Step}
use Rattle.ug_base.specs.declared.step.Step.TheVariants.{Pruned, Found, Split, Empty}
use Rattle.ug_base.specs.declared.branching.Branching.{Branching}
use Rattle.ug_base.specs.Branchings.{MayBranch, first_half, other_half}
use Rattle.ug_base.specs.Points.{measure_of}
use Rattle.ug_base.specs.Tasks.{TaskState}

-- bound propagation left nothing of a box, or a box that has no point
abbrev pub IsHopeless : Tight → Type 0
IsHopeless (NothingLeft _) = Unit {0}
IsHopeless (Kept inner) = IsCrossed inner

-- nothing is left of a box: nothing by bound propagation over the problem's rows, or no good point
abbrev pub LeavesNone : Base → Instance → Option ℤ → List Interval → Type 0
LeavesNone Bound p cutoff area = IsHopeless (rounds p cutoff area)
LeavesNone Surrogate p cutoff area = HasNoGood p cutoff area

-- the inner box is below the other, and has each good point of it
pub record HasAllGood (p : Instance) (cutoff : Option ℤ) (area inner : List Interval) : Type 0 where
  pub below : IsBelow inner area
  pub kept : (x : List ℤ) → IsInside area x → IsGood p cutoff x → IsInside inner x

-- this is left of a box: what bound propagation over the problem's rows leaves, or a box below it
-- that has each good point of it
abbrev pub Leaves : Base → Instance → Option ℤ → List Interval → List Interval → Type 0
Leaves Bound p cutoff area inner = rounds p cutoff area ≡ Kept inner
Leaves Surrogate p cutoff area inner = HasAllGood p cutoff area inner

-- the last box had no good point, and is dropped
pub record IsPruned (old new : TaskState) : Type 0 where
  pub last : List Interval
  pub boxes : old.boxes ≡ new.boxes ++ last ∷ []
  pub same : new ≡ record old { boxes = new.boxes }
  pub hopeless : LeavesNone old.params.base old.problem old.cutoff last

-- of the last box the point x was left, which is good; the box is dropped, and the cutoff is now
-- that of x under the gap
pub record IsFound (old new : TaskState) (x : List ℤ) : Type 0 where
  pub last : List Interval
  pub boxes : old.boxes ≡ new.boxes ++ last ∷ []
  pub inner : List Interval
  pub left : Leaves old.params.base old.problem old.cutoff last inner
  pub fixed : IsFixed inner
  pub point : IsInside inner x
  pub good : IsGood old.problem old.cutoff x
  pub same : new ≡ record old { boxes = new.boxes; cutoff = Some (cutoff_of old.problem old.gap x) }

-- what was left of the last box has more points than one, and its two branches are in the box's
-- place, the first the last
pub record IsSplit (old new : TaskState) : Type 0 where
  pub before : List (List Interval)
  pub last : List Interval
  pub boxes : old.boxes ≡ before ++ last ∷ []
  pub inner : List Interval
  pub left : Leaves old.params.base old.problem old.cutoff last inner
  pub some : IsNonEmpty inner
  pub branching : Branching
  pub may : MayBranch old.params.base old.params inner branching
  pub same : new ≡ record old {
    boxes = before ++ other_half branching.first inner branching.branch
        ∷ first_half branching.first inner branching.branch ∷ [];
  }

-- no box was left, so each good point of the whole box lies in a box handed, and none is good where
-- none was; nothing changed
pub record IsEnded (old new : TaskState) : Type 0 where
  pub none : old.boxes ≡ []
  pub same : new ≡ old
  pub searched : AreAllHanded new.problem new.cutoff new.whole new.handed
  pub alone : new.handed ≡ [] → HasNoGood new.problem new.cutoff new.whole

-- the step with this answer
abbrev pub TookStep : TaskState → TaskState → Step → Type 0
TookStep old new Pruned = IsPruned old new
TookStep old new (Found x) = IsFound old new x
TookStep old new Split = IsSplit old new
TookStep old new Empty = IsEnded old new

-- each step but the last leaves less to search
abbrev pub LeavesLess : TaskState → TaskState → Step → Type 0
LeavesLess old new Pruned = measure_of new.boxes < measure_of old.boxes
LeavesLess old new (Found x) = measure_of new.boxes < measure_of old.boxes
LeavesLess old new Split = measure_of new.boxes < measure_of old.boxes
LeavesLess old new Empty = Unit {0}
