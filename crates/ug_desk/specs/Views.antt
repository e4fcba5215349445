-- What contracts see of the value behind the lock, and of an entry of its history.
use Rattle.ug_desk.specs.declared.locked.Locked.TheInside.{Inside}
use Rattle.ug_desk.specs.declared.entry.Entry.TheInside as entry
use Rattle.ug_desk.specs.declared.entry.Said.{Said}
use Rattle.ug_desk.specs.declared.entry.Said.TheVariants.{Taken, Offered, Handed, Stated, Ended, Left, Copied}
use Rattle.ug_desk.specs.Histories.{Call, Entry, taken, offered, handed, stated, ended, left, copied}
use Rattle.ug_desk.specs.Entries.{LockedState}
use Rattle.ug_desk.specs.Givens.{taken_by}

-- what its fields say
abbrev pub state_of : Inside → LockedState
state_of l = record {
  opening = l.began;
  now = record { book = l.book; tickets = l.tickets.items };
  count = l.count;
}

-- what was called, and what was answered
abbrev pub call_of : Said → Call
call_of (Taken given) = taken (taken_by given.value)
call_of (Offered point heard) = offered point.value heard.value
call_of (Handed number area heard) = handed number area.value heard.value
call_of (Stated count floor reply) = stated count floor.value reply.value
call_of (Ended task heard) = ended task.value heard.value
call_of Left = left
call_of Copied = copied

abbrev pub entry_of : entry.Inside → Entry
entry_of e = record { pass = e.pass; call = call_of e.said }
