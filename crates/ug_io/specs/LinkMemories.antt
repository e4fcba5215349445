-- What a link in memory shows.
use Rattle.std.specs.Prelude.{ℕ, List, length, Some}
use Rattle.ug_io.specs.declared.link.Said.{Said}
use Rattle.ug_io.specs.declared.link_memory.MemoryLink.{MemoryLink}
use Rattle.ug_io.specs.Links.{LinkSeen}
use Rattle.ug_io.specs.Scripted.{faults_of}

-- the bytes received and sent
abbrev pub said_of : MemoryLink → List Said
said_of l = l.said.items

-- the link as it is seen
abbrev pub seen_of : MemoryLink → LinkSeen
seen_of l = record { said = Some (said_of l); ended = l.ended; faults = faults_of l.script }

-- how many bytes are left of the piece that comes
abbrev pub left_of : MemoryLink → ℕ
left_of l = length l.piece.now
