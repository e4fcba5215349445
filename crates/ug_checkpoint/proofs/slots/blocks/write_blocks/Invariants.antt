use Rattle.std.proofs.Common.{◌≡◌, ◌<◌, ◌≤◌, length, take, drop}
use Rattle.ug_disk.specs.Crashes.{Leaves}
use Rattle.ug_checkpoint.specs.Gates.{IsShut, HasBehind}
use Rattle.ug_checkpoint.specs.Runs.{Becomes, OnlyOpens}
use Rattle.ug_checkpoint.proofs.slots.blocks.write_blocks.Given as goal

abbrev pub invariant-loop-slot : goal.invariant-loop-slot
invariant-loop-slot g l =
    let body = g.P.Pieces.rest l.initial.pieces in
    let old = (g.D.Disk.seen l.initial.disk).told in
    record {
      state : Becomes old (g.D.Disk.seen l.disk).told l.slot (λ before after.
          IsShut after × HasBehind (take l.written body) after.bytes);
      leaves : Leaves (OnlyOpens old l.slot (λ before image. ⊥)) old (g.D.Disk.seen l.disk).told;
      rest : g.P.Pieces.rest l.pieces ≡ drop l.written body;
      within : l.written ≤ length body;
      room : 0 < length l.buffer;
      calm : (g.D.Disk.seen l.disk).faults ≡ (g.D.Disk.seen l.initial.disk).faults;
    }

abbrev pub decreases-loop-slot : goal.decreases-loop-slot
decreases-loop-slot g l = length (g.P.Pieces.rest l.pieces)
