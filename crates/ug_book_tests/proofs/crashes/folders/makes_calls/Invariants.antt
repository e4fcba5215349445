use Rattle.std.proofs.Common.{Some}
use Rattle.ug_disk.specs.Memories.{history_of}
use Rattle.ug_checkpoint.specs.Savers.{IsKept}
use Rattle.ug_book_tests.proofs.crashes.folders.makes_calls.Given as goal

abbrev pub invariant-loop-sequence : goal.invariant-loop-sequence
invariant-loop-sequence g l = IsKept l.saver (Some (history_of l.disk.folder.disk))
