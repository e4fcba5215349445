-- What goes over a link in memory between a worker and a coordinator that are moved by turns.
use Rattle.std.specs.Prelude.{◌≡◌, ℕ, ◌≤◌, List, ◌++◌, false, length, take, Some}
use Rattle.ug_io.specs.declared.link.Said.{Said}
use Rattle.ug_io.specs.Links.{LinkSeen}
use Rattle.ug_serve.specs.LinkBytes.{heard_in, told_in}

-- what was received and sent; the bytes that were put in; those that were taken out; and how often
-- a call failed
pub record Queue : Type 0 where
  pub said : List Said
  pub put : List ℕ
  pub taken : List ℕ
  pub faults : ℕ

abbrev pub queue_of : List Said → List ℕ → List ℕ → ℕ → Queue
queue_of said put taken faults =
    record { said = said; put = put; taken = taken; faults = faults }

-- the observation of it as a link
abbrev pub queue_seen : Queue → LinkSeen
queue_seen q = record { said = Some q.said; ended = false; faults = q.faults }

-- what was received is a prefix of what was put in, and what was taken out one of what was sent
pub record IsQueue (q : Queue) : Type 0 where
  pub ahead : List ℕ
  pub heard : q.put ≡ heard_in q.said ++ ahead
  pub behind : List ℕ
  pub told : told_in q.said ≡ q.taken ++ behind

-- the same, by how many bytes were received, may be received, and were taken out
pub record IsKept (said : List Said) (put sent : List ℕ) (heard given taken : ℕ) : Type 0 where
  pub front : heard_in said ≡ take heard put
  pub whole : told_in said ≡ sent
  pub allowed : heard ≤ given
  pub within : given ≤ length put
  pub out : taken ≤ length sent

-- nothing was put in or taken out
pub record IsUntouched (old new : Queue) : Type 0 where
  pub put : new.put ≡ old.put
  pub taken : new.taken ≡ old.taken
