use Rattle.ug_model.specs.Machines.{store}
use Rattle.ug_laws.specs.Machines.{beginning}
use Rattle.ug_model.specs.Machines.{world_of}
use Rattle.ug_model.proofs.DiskPlays.{IsOnTheWay}
use Rattle.ug_model.proofs.disk_schedule.play_disk.Given as goal

abbrev pub invariant-loop-done : goal.invariant-loop-done
invariant-loop-done l =
    IsOnTheWay (beginning l.fn.book (store l.fn.saver l.fn.disk)) l.events l.done
    (world_of l.machine)
