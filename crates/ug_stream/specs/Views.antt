-- What contracts see of an assembler.
use Rattle.std.specs.Prelude.{drop}
use Rattle.ug_stream.specs.declared.assembler.Assembler.TheInside.{Inside}
use Rattle.ug_stream.specs.Streams.{Waiting}

-- the bytes that came but for those that were given
abbrev pub waiting_of : Inside → Waiting
waiting_of a = record { at = a.at; bytes = drop a.given a.bytes.items; bad = a.bad }
