-- How a command ends that reads no problem.
use Rattle.std.specs.Prelude.{◌≡◌, ℕ, List, Option}
use Rattle.ug_io.specs.Outside.{Rose}
use Rattle.ug_drafts.specs.declared.fault.MpsFault.{MpsFault}
use Rattle.ug_mps.specs.Reads.{FirstFault}
use Rattle.ug_print.specs.Refusals.{refused_line}
use Rattle.ug_top.specs.declared.ended.Ended.{Ended}
use Rattle.ug_top.specs.declared.ended.Ended.TheVariants.{Lines, Quiet, Refused, ReadFault, Memory}
use Rattle.ug_mps.specs.Enough.{StopsAtEnd}
use Rattle.ug_top.specs.Lines.{IsFaultLine, IsRefusedLine}

-- the file has a first fault, which is reported; or memory ran out
abbrev pub IsTextUnread : Option ℕ → List ℕ → Ended → Type 0
IsTextUnread boxed text (Refused refusal told) =
    (f : MpsFault) × FirstFault text boxed f × (told.items ≡ refused_line f) × (refusal.line ≡ f.line)
IsTextUnread boxed text Memory = Unit {0}
IsTextUnread boxed text ended = ⊥

-- the first fault of the source's bytes is reported; or the source failed; or memory ran out
abbrev pub IsUnread : Option ℕ → Option (List ℕ) → Ended → Type 0
IsUnread boxed left (Lines status told best) = ⊥
IsUnread boxed left (Quiet status) = ⊥
IsUnread boxed left (Refused refusal told) =
    IsRefusedLine boxed left told.items × IsFaultLine boxed left refusal.line
IsUnread boxed left ReadFault = Unit {0}
IsUnread boxed left Memory = Unit {0}

-- if lines are printed, reading stopped with the line ENDATA
abbrev pub HasStopped : Option (List ℕ) → Option (List ℕ) → Ended → Type 0
HasStopped old new (Lines status told best) = StopsAtEnd old new
HasStopped old new (Quiet status) = StopsAtEnd old new
HasStopped old new (Refused refusal told) = StopsAtEnd old new
HasStopped old new ReadFault = Unit {0}
HasStopped old new Memory = Unit {0}

-- how often the source failed: it did only where a read fault is reported
abbrev pub unread_cause : Ended → ℕ → ℕ → Type 0
unread_cause ReadFault old new = Rose old new
unread_cause ended old new = new ≡ old
