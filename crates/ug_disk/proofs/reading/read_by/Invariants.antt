use Rattle.std.proofs.Common.{◌≡◌, ◌-◌, ◌^◌, ◌<◌, vec_len, length, take}
use Rattle.ug_disk.specs.Histories.{Reads}
use Rattle.ug_disk.proofs.reading.read_by.Given as goal

abbrev pub invariant-loop-n : goal.invariant-loop-n
invariant-loop-n g l = record {
  same : (g.D.Disk.seen l.disk).told ≡ (g.D.Disk.seen l.initial.disk).told;
  came : Reads (g.D.Disk.seen l.initial.disk).told l.slot (λ there. l.bytes.items ≡ take
      (vec_len l.bytes) there);
  room : 0 < length l.buffer;
  calm : (g.D.Disk.seen l.disk).faults ≡ (g.D.Disk.seen l.initial.disk).faults;
}

abbrev pub decreases-loop-n : goal.decreases-loop-n
decreases-loop-n g l = 2 ^ 64 - vec_len l.bytes
