-- What a command reads, where it saves, and with whom it works.
use Rattle.std.specs.Prelude.{Option}
use Rattle.std.specs.Option.{option_map}
use Rattle.ug_io.specs.Crews.{CrewSeen}
use Rattle.ug_io.specs.Links.{LinkSeen}
use Rattle.ug_io.specs.Outside.{SourceSeen}
use Rattle.ug_disk.specs.Histories.{DiskSeen}
use Rattle.ug_top.specs.declared.objects.Objects.{Objects}

-- the observation at one time of the source that it reads, of the disk on which it saves, and of
-- its crew and its link, if it has them
pub record Outside : Type 0 where
  pub source : SourceSeen
  pub disk : DiskSeen
  pub crew : Option CrewSeen
  pub link : Option LinkSeen

-- the observation of an object that may be there
abbrev pub seen_if : {X Seen : Type 0} → (X → Seen) → Option X → Option Seen
seen_if seen x = option_map seen x

-- the observation of a run's objects
abbrev pub outside : {S D C L : Type 0} → (S → SourceSeen) → (D → DiskSeen) → (C → CrewSeen)
    → (L → LinkSeen) → Objects S D C L → Outside
outside source disk crew link objects = record {
  source = source objects.input;
  disk = disk objects.disk;
  crew = seen_if crew objects.crew;
  link = seen_if link objects.link;
}
