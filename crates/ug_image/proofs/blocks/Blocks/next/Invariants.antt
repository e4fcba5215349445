use Rattle.std.proofs.Common.{◌≡◌, ◌-◌, ◌≤◌, length, take, drop}
use Rattle.ug_image.proofs.blocks.Blocks.next.Given as goal

abbrev pub invariant-loop-n : goal.invariant-loop-n
invariant-loop-n l =
    (l.n ≤ length l.buffer) × (l.n ≤ length l.fn.self)
    × (take l.n l.buffer ≡ take l.n l.fn.self) × (l.self ≡ drop l.n l.fn.self)
    × (length l.buffer ≡ length l.fn.buffer)

abbrev pub decreases-loop-n : goal.decreases-loop-n
decreases-loop-n l = length l.buffer - l.n
