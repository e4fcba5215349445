-- What contracts see of a worker's seat at a link.
use Rattle.ug_io.specs.Links.{LinkSeen}
use Rattle.ug_serve.specs.declared.wire.Wire.{Wire}
use Rattle.ug_serve.specs.declared.kept.Kept.{Kept}
use Rattle.ug_serve.specs.Seats.{SeatSeen}

-- what the wire shows, and what is kept
abbrev pub seat_seen : {L : Type 0} → (L → LinkSeen) → Wire L → Kept → SeatSeen
seat_seen seen wire kept = record {
  end = wire.end;
  link = seen wire.link;
  waiting = wire.orders;
  at = wire.at;
  keeps = kept;
}
