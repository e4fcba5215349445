-- What contracts see of a snapshot.
use Rattle.ug_snapshot.specs.declared.snapshot.Snapshot.TheInside.{Inside}
use Rattle.ug_snapshot.specs.Snapshots.{SnapshotState}

-- what its fields say
abbrev pub snapshot_of : Inside → SnapshotState
snapshot_of s = record { opening = s.began; image = s.image; count = s.count }
