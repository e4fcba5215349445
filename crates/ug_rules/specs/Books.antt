-- The invariant of every book, whatever was received, and when a book is sound.
use Rattle.std.specs.Prelude.{◌≡◌, ◌≢◌, ◌<◌, ◌≤◌, ◌^◌, List, [], length, All, IfSome, IsSome}
use Rattle.ug_rows.specs.Sums.{box_floor}
use Rattle.ug_problem.specs.Instances.{Instance, root_of}
use Rattle.ug_problem.specs.Incumbents.{one_kept}
use Rattle.ug_problem.specs.Limits.{IsProblem}
use Rattle.ug_problem.specs.Feasible.{Feasible}
use Rattle.ug_problem.specs.Better.{IsGap}
use Rattle.ug_nodes.specs.Changes.{AreChangesOf, IsRising}
use Rattle.ug_nodes.specs.Nodes.{box_of}
use Rattle.ug_pool.specs.declared.entry.Entry.{Entry}
use Rattle.ug_pool.specs.Pools.{IsInOrder}
use Rattle.ug_ranks.specs.declared.state.State.{State}
use Rattle.ug_ranks.specs.declared.state.State.TheVariants.{Absent, Idle, Racing, Active, Dead}
use Rattle.ug_frames.specs.Orders.{IsOrder}
use Rattle.ug_ledger.specs.Sound.{IsLedger, Sound}
use Rattle.ug_rules.specs.declared.settings.Settings.{Settings}
use Rattle.ug_rules.specs.declared.told.Told.{Told}
use Rattle.ug_rules.specs.State.{BookState, ledger_of, nodes_of}
use Rattle.ug_rules.specs.Ranks.{ranks_that}
use Rattle.ug_ranks.specs.Looks.{is_racing}

-- there are 1 to 2^32 - 1 ranks, the low mark is at most the high one, and the gap is one
pub record AreSettings (settings : Settings) : Type 0 where
  pub some : 0 < settings.solvers
  pub few : settings.solvers < 2 ^ 32
  pub marks : settings.low ≤ settings.high
  pub gap : IsGap settings.gap

-- the changes rise and describe a box below the root's, and the entry has its floor
pub record HasItsFloor (p : Instance) (entry : Entry) : Type 0 where
  pub rising : IsRising entry.node.changes
  pub changes : AreChangesOf (root_of p) entry.node.changes
  pub floor : entry.floor ≡ box_floor p.objective (box_of (root_of p) entry.node)

-- so it is of the node that a rank works on
abbrev pub KeepsItsFloor : Instance → State → Type 0
KeepsItsFloor p Absent = Unit {0}
KeepsItsFloor p Idle = Unit {0}
KeepsItsFloor p (Racing racer) = Unit {0}
KeepsItsFloor p (Active work) = HasItsFloor p (record { floor = work.floor; node = work.node })
KeepsItsFloor p (Dead how) = Unit {0}

-- the floors beside all nodes held
pub record KeepFloors (b : BookState) : Type 0 where
  pub pool : All (HasItsFloor b.problem) b.pool
  pub ranks : All (KeepsItsFloor b.problem) b.ranks
  pub raced : IfSome b.raced (HasItsFloor b.problem)

-- a race stands alone: a node is raced exactly where some rank races, and then nothing is in the
-- pool and none works
pub record IsRaceAlone (b : BookState) : Type 0 where
  pub raced : IsSome b.raced → ranks_that is_racing b.ranks ≢ []
  pub racing : ranks_that is_racing b.ranks ≢ [] → IsSome b.raced
  pub pool : ranks_that is_racing b.ranks ≢ [] → b.pool ≡ []
  pub ranks : ranks_that is_racing b.ranks ≢ [] → nodes_of b.ranks ≡ []

-- a frame can carry each of these orders
abbrev pub AreOrders : List Told → Type 0
AreOrders orders = All (λ (told : Told). IsOrder told.order) orders

-- the invariant of every book, whatever was received
pub record IsBook (b : BookState) : Type 0 where
  pub problem : IsProblem b.problem
  pub run : 0 < b.run
  pub settings : AreSettings b.settings
  pub incumbent : IfSome b.best (Feasible b.problem)
  pub ranks : length b.ranks ≡ b.settings.solvers
  pub order : IsInOrder b.pool
  pub floors : KeepFloors b
  pub ledger : IsLedger (root_of b.problem) (ledger_of b)
  pub race : IsRaceAlone b
  pub number : b.last < 2 ^ 64
  pub orders : AreOrders b.orders

-- a sound book: each better point lies in a held node, and in one below its hand
abbrev pub IsSoundBook : BookState → Type 0
IsSoundBook b = Sound b.problem b.settings.gap (one_kept b.best) (ledger_of b)

-- the new book is one where the old was, and sound where that was
pub record Keeps (old new : BookState) : Type 0 where
  pub book : IsBook old → IsBook new
  pub sound : IsBook old → IsSoundBook old → IsSoundBook new
