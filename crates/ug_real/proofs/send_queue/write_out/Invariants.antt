use Rattle.std.proofs.Common.{◌≤◌, length, take}
use Rattle.std.specs.Io.KnownBytes.{Appends}
use Rattle.ug_real.proofs.send_queue.write_out.Given as goal

-- the first `sent` bytes were written
abbrev pub invariant-loop : goal.invariant-loop
invariant-loop g l = (l.sent ≤ length l.bytes)
    × Appends (g.W.Write.contents l.initial.to) (g.W.Write.contents l.to) (take l.sent l.bytes)
