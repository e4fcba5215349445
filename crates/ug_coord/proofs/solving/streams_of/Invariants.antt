use Rattle.std.proofs.Common.{◌≡◌}
use Rattle.std.specs.Prelude.{replicate}
use Rattle.ug_stream.specs.Streams.{first}
use Rattle.ug_coord.proofs.solving.streams_of.Given as goal

abbrev pub invariant-loop : goal.invariant-loop
invariant-loop l = l.streams.items ≡ replicate l.counter first
