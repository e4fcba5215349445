-- What contracts see of what saves a coordinator's book.
use Rattle.ug_disk.specs.Histories.{DiskSeen}
use Rattle.ug_coord.specs.declared.checkpointer.Checkpointer.{Checkpointer}
use Rattle.ug_coord.specs.Keeping.{KeptSeen}

-- with what is seen of its disk
abbrev pub kept_seen : Checkpointer → DiskSeen → KeptSeen
kept_seen checkpointer disk = record { saves = checkpointer.saves; disk = disk }
