-- What waits to go to a connection, and what was written to it.
use Rattle.std.specs.Prelude.{◌≡◌, ℕ, true, List, [], ◌++◌, drop, Option, None, Some}
use Rattle.std.specs.Io.KnownBytes.{Appends}
use Rattle.ug_real.specs.declared.send_queue.SendQueue.{SendQueue}
use Rattle.ug_real.specs.declared.send_queue.Unsent.{Unsent}
use Rattle.ug_real.specs.declared.send_queue.Unsent.TheVariants.{Memory, Cut}

-- the rest of shared bytes of which this many went
abbrev pub rest_of : Option (List ℕ) → ℕ → List ℕ
rest_of None gone = []
rest_of (Some bytes) gone = drop gone bytes

-- the bytes that did not go yet, but for the shared ones
abbrev pub own_waiting : SendQueue → List ℕ
own_waiting send_queue = drop send_queue.sent send_queue.bytes.items

-- the bytes that did not go yet: the shared ones first
abbrev pub waiting : SendQueue → List ℕ
waiting send_queue = rest_of send_queue.ahead send_queue.gone ++ own_waiting send_queue

-- a prefix of the bytes was written, where the writer's contents are known, and the rest is left
pub record HasWritten (old new : Option (List ℕ)) (bytes left : List ℕ) : Type 0 where
  pub gone : List ℕ
  pub whole : bytes ≡ gone ++ left
  pub written : Appends old new gone

-- out of memory the same bytes wait, and after a failed write the send queue is closed
abbrev pub IsUnsent : SendQueue → SendQueue → Unsent → Type 0
IsUnsent old new Memory = waiting new ≡ waiting old
IsUnsent old new (Cut error) = new.is_closed ≡ true
