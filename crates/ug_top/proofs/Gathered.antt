-- How far the source was read, by how a command ended.
use Rattle.std.proofs.Common.{ℕ, List, Option}
use Rattle.ug_mps.specs.Enough.{StopsAtEnd}
use Rattle.ug_mps.proofs.Gathered.{stops_at_once}
use Rattle.ug_top.specs.declared.ended.Ended.{Ended}
use Rattle.ug_top.specs.declared.ended.Ended.TheVariants.{Lines, Quiet, Refused, ReadFault, Memory}
use Rattle.ug_top.specs.Unread.{HasStopped}

-- if a file was gathered
pub has_stopped : (a b : Option (List ℕ)) (e : Ended) → StopsAtEnd a b → HasStopped a b e
has_stopped a b (Lines status told best) h = h
has_stopped a b (Quiet status) h = h
has_stopped a b (Refused refusal told) h = h
has_stopped a b ReadFault h = tt
has_stopped a b Memory h = tt

-- if nothing was read
pub stops_unread : (a : Option (List ℕ)) (e : Ended) → HasStopped a a e
stops_unread a e = has_stopped a a e (stops_at_once a)
