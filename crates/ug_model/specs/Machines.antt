-- A machine as it is seen: a coordinator, its solvers and the disk of its images.
use Rattle.ug_disk.specs.Memories.{faults_of, history_of}
use Rattle.ug_disk.specs.declared.memory.MemoryDisk.{MemoryDisk}
use Rattle.ug_checkpoint.specs.declared.saver.Saver.{Saver}
use Rattle.ug_laws.specs.Machines.{DiskWorld}
use Rattle.ug_laws.specs.Saves.{Store}
use Rattle.ug_model.specs.declared.machine.Machine.{Machine}

-- what the fields of a machine say
abbrev pub world_of : Machine → DiskWorld
world_of m = record {
  world = m.playing;
  saver = m.saver;
  noted = m.noted;
  refused = m.refused;
  told = history_of m.disk;
  faults = faults_of m.disk;
  attempts = m.attempts.items;
}

-- a saver and a disk in memory
abbrev pub store : Saver → MemoryDisk → Store
store saver disk =
    record { saver = saver; told = history_of disk; faults = faults_of disk }
