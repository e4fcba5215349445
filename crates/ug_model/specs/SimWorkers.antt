-- The workers of a crew in memory, each at its link.
use Rattle.std.specs.Prelude.{◌≡◌, ℕ, List, [], Option, None, Some}
use Rattle.std.specs.Prelude.{slice_index_or}
use Rattle.ug_io.specs.declared.crew.Exchange.{Exchange}
use Rattle.ug_serve.specs.declared.server.Server.{Server}
use Rattle.ug_serve.specs.Servers.{IsServer}
use Rattle.ug_serve.specs.Worked.{AreAlwaysWorked, heard_at, told_at}
use Rattle.ug_model.specs.Queues.{IsQueue, Queue, queue_seen}

-- the rank's worker: all that was sent to the rank was put into its link, and what was received
-- from the rank was taken out
pub record IsManned (said : List Exchange) (rank : ℕ) (server : Server Queue) : Type 0 where
  pub serves : IsServer queue_seen server
  pub queue : IsQueue server.wire.link
  pub put : server.wire.link.put ≡ told_at rank said
  pub taken : server.wire.link.taken ≡ heard_at rank said

-- nothing went between
pub record IsUnmanned (said : List Exchange) (rank : ℕ) : Type 0 where
  pub told : told_at rank said ≡ []
  pub heard : heard_at rank said ≡ []

-- the rank has a worker, or none yet
abbrev pub IsPlace : List Exchange → ℕ → Option (Server Queue) → Type 0
IsPlace said rank None = IsUnmanned said rank
IsPlace said rank (Some server) = IsManned said rank server

-- a worker at the place continues as it has to, or its service has ended
abbrev pub IsSteady : Option (Server Queue) → Type 0
IsSteady None = Unit {0}
IsSteady (Some server) = IsServer queue_seen server

-- so it is of each rank
abbrev pub ArePlaces : List Exchange → List (Option (Server Queue)) → Type 0
ArePlaces said slots = (rank : ℕ) → IsPlace said rank (slice_index_or slots rank None)

-- so it is of each rank, and what went between was worked at each moment
pub record AreSimWorkers (said : List Exchange) (workers : List (Option (Server Queue))) : Type 0 where
  pub slots : ArePlaces said workers
  pub always : AreAlwaysWorked said

-- no rank has one
abbrev pub AreEmpty : List (Option (Server Queue)) → Type 0
AreEmpty slots = (rank : ℕ) → slice_index_or slots rank None ≡ None
