-- The passes of a solve, and their threads.
use Rattle.std.specs.Prelude.{◌≡◌, ◌⊎◌, ℕ, ◌+◌, ◌<◌, ◌≤◌, List, [], length, Some}
use Rattle.std.specs.Prelude.{slice_get, vec_capacity}
use Rattle.std.specs.declared.thread.PromisedHandle.{PromisedHandle}
use Rattle.ug_desk.specs.Passes.{PassState, width_of}
use Rattle.ug_threads.specs.declared.crew.Back.{Back}
use Rattle.ug_threads.specs.declared.crew.Crew.{Crew}
use Rattle.ug_threads.specs.declared.crew.Started.{Started}
use Rattle.ug_threads.specs.declared.crew.Started.TheVariants.{Works, Left}
use Rattle.ug_threads.specs.declared.crew.Table.{Table}
use Rattle.ug_threads.specs.Places.{IsAt}

-- the pass is one of the table's desk
abbrev pub IsPassAt : Table → PassState → Type 0
IsPassAt table p = IsAt table.desk.now table.began.now p

abbrev pub ArePassesAt : Table → List PassState → Type 0
ArePassesAt table passes =
    (k : ℕ) (p : PassState) → slice_get passes k ≡ Some p → IsPassAt table p

-- the pass that comes back from a thread is one of it
pub record IsPromise (table : Table) (b : Back) : Type 0 where
  pub desk : b.desk.value ≡ table.desk.now
  pub began : b.began.value ≡ table.began.now

-- one of these passes is of rank r
abbrev pub HasRank : List PassState → ℕ → Type 0
HasRank passes r = (k : ℕ) × (p : PassState) × (slice_get passes k ≡ Some p) × (p.rank ≡ r)

-- one of these promises is
abbrev pub PromiseRank : List (PromisedHandle PassState Back) → ℕ → Type 0
PromiseRank handles r =
    (k : ℕ) × (h : PromisedHandle PassState Back) × (slice_get handles k ≡ Some h)
    × (h.promise.rank ≡ r)

-- the crew has the pass of rank r, wherever it is
abbrev pub HasPass : Crew → ℕ → Type 0
HasPass c r = HasRank c.waiting.items r ⊎ (PromiseRank c.working.items r ⊎ HasRank c.back.items r)

abbrev pub ArePromised : Table → List (PromisedHandle PassState Back) → Type 0
ArePromised table handles =
    (k : ℕ) (h : PromisedHandle PassState Back) → slice_get handles k ≡ Some h
    → IsPromise table h.promise

-- how many passes there are
abbrev pub count_of : Crew → ℕ
count_of c = length c.waiting.items + (length c.working.items + length c.back.items)

-- all passes are of the table's desk, one of each rank, and there is room for each wherever it goes
pub record IsCrewAt (table : Table) (c : Crew) : Type 0 where
  pub waiting : ArePassesAt table c.waiting.items
  pub working : ArePromised table c.working.items
  pub back : ArePassesAt table c.back.items
  pub each : (r : ℕ) → r < width_of table.desk.now → HasPass c r
  pub hands : count_of c ≤ vec_capacity c.working
  pub room : count_of c ≤ vec_capacity c.back

-- all passes wait
pub record IsNewCrew (passes : List PassState) (c : Crew) : Type 0 where
  pub waiting : c.waiting.items ≡ passes
  pub working : c.working.items ≡ []
  pub back : c.back.items ≡ []
  pub hands : length passes ≤ vec_capacity c.working
  pub room : length passes ≤ vec_capacity c.back

-- a thread works with the pass of this rank, or the pass is back
abbrev pub HasStarted : Table → ℕ → Started → Type 0
HasStarted table r (Works handle) = IsPromise table handle.promise × (handle.promise.rank ≡ r)
HasStarted table r (Left pass) = IsPassAt table pass × (pass.rank ≡ r)
