-- The saves of a coordinator's book, if there are any, over time.
use Rattle.std.specs.Prelude.{◌≡◌, ◌⊎◌, ◌≤◌, ◌+◌, ◌-◌, ◌^◌, ℕ, Option, None, Some, IfSome, IsNone}
use Rattle.std.specs.Prelude.{IsSomeAnd}
use Rattle.ug_disk.specs.Crashes.{Leaves}
use Rattle.ug_disk.specs.Histories.{DiskSeen, History}
use Rattle.ug_rules.specs.State.{BookState}
use Rattle.ug_rules.specs.Books.{IsSoundBook}
use Rattle.ug_checkpoint.specs.declared.saver.Saver.{Saver}
use Rattle.ug_checkpoint.specs.Savers.{IsKept, sequence_of}
use Rattle.ug_book.specs.declared.opening.Opening.{Opening}
use Rattle.ug_book.specs.Views.{IsSameRun}
use Rattle.ug_snapshot.specs.Moments.{IsImageOf}
use Rattle.ug_restart.specs.declared.outcome.Attempt.{Attempt}
use Rattle.ug_restart.specs.declared.outcome.Attempt.TheVariants.{Saved}
use Rattle.ug_restart.specs.declared.outcome.End.{End}
use Rattle.ug_restart.specs.declared.outcome.End.TheVariants.{Memory}
use Rattle.ug_restart.specs.declared.outcome.Outcome.{Outcome}
use Rattle.ug_restart.specs.declared.saves.Saves.{Saves}
use Rattle.ug_restart.specs.Saves.{IsOfBook, begun, book_of, missed_of, opening_of, saver_of}
use Rattle.ug_restart.specs.Saves.{sequence_at, unsaved_of}
use Rattle.ug_restart.specs.Moments.{AllCovered, FindsIn, FindsOne, IsCoveredNow, IsFoundNow, IsOfRun}
use Rattle.ug_restart.specs.Going.{GoesOn, IsAttempted, time}
use Rattle.ug_restart.specs.Outcomes.{IfBook, IsMissedByFaults, IsSavedOrCounted, IsUntouched}

-- what was saved and counted, if there is a saver, and what was then seen of the disk
pub record KeptSeen : Type 0 where
  pub saves : Option Saves
  pub disk : DiskSeen

-- the saver has what its disk holds
abbrev pub IsKeptBy : KeptSeen → Type 0
IsKeptBy k = IfSome k.saves (λ s. IsKept (saver_of s) k.disk.told)

-- the saves are of this book's run
abbrev pub IsOurs : KeptSeen → BookState → Type 0
IsOurs k b = IfSome k.saves (λ s. IsSameRun (book_of s) b)

-- the saver has what its disk holds, and what is saved is of this book's run
pub record IsCheckpointerOf (k : KeptSeen) (b : BookState) : Type 0 where
  pub kept : IsKeptBy k
  pub ours : IsOurs k b

-- the saves continue; without a saver the disk is not touched
abbrev pub moves : Type 0 → Type 0 → Option Saves → DiskSeen → Option Saves → DiskSeen → Type 0
moves Covers Ours None old None new = new ≡ old
moves Covers Ours None old (Some after) new = ⊥
moves Covers Ours (Some before) old None new = ⊥
moves Covers Ours (Some before) old (Some after) new =
    GoesOn Covers Ours (time before old) (time after new)

abbrev pub Moves : Type 0 → Type 0 → KeptSeen → KeptSeen → Type 0
Moves Covers Ours old new = moves Covers Ours old.saves old.disk new.saves new.disk

-- an image of this book was to be saved, whatever became of that
abbrev pub has_saved : BookState → Option Saves → DiskSeen → Option Saves → DiskSeen → Type 0
has_saved b None old after new = Unit {0}
has_saved b (Some before) old None new = ⊥
has_saved b (Some before) old (Some after) new = (attempt : Attempt)
    × IsAttempted (IsOfBook b) attempt (time before old) (time after new)

abbrev pub HasSaved : BookState → KeptSeen → KeptSeen → Type 0
HasSaved b old new = has_saved b old.saves old.disk new.saves new.disk

-- what became of the save of the ending book; without a saver there was none
abbrev pub end_kept : End → Option Attempt → Option Saves → DiskSeen → Option Saves → DiskSeen → Type 0
end_kept end last None old after new = last ≡ None
end_kept end last (Some before) old None new = ⊥
end_kept end last (Some before) old (Some after) new = IfBook end (λ b.
    IsSomeAnd last (λ attempt. IsAttempted (IsOfBook b) attempt (time before old) (time after new)))

abbrev pub IsEndKept : End → Option Attempt → KeptSeen → KeptSeen → Type 0
IsEndKept end last old new = end_kept end last old.saves old.disk new.saves new.disk

-- the number of saves tried: those acknowledged, each under the next sequence, those missed, and
-- those for which memory ran out
abbrev pub tried_of : Saves → ℕ
tried_of saves = sequence_at saves + missed_of saves + unsaved_of saves

-- a count of failed saves is at its largest value
abbrev pub IsFull : ℕ → ℕ → Type 0
IsFull missed unsaved = (2 ^ 64 - 1 ≤ missed) ⊎ (2 ^ 64 - 1 ≤ unsaved)

-- this many more saves were tried, and no count of failed ones fell
pub record Tries (count : ℕ) (before after : Saves) : Type 0 where
  pub more : (tried_of after ≡ tried_of before + count)
      ⊎ IsFull (missed_of after) (unsaved_of after)
  pub missed : missed_of before ≤ missed_of after
  pub unsaved : unsaved_of before ≤ unsaved_of after

-- so it was, where there is a saver
abbrev pub has_tried : ℕ → Option Saves → Option Saves → Type 0
has_tried count None None = Unit {0}
has_tried count None (Some after) = ⊥
has_tried count (Some before) None = ⊥
has_tried count (Some before) (Some after) = Tries count before after

abbrev pub HasTried : ℕ → KeptSeen → KeptSeen → Type 0
HasTried count old new = has_tried count old.saves new.saves

-- the number of saves missed, and the number not made because memory ran out
abbrev pub missed_by : Option Saves → ℕ
missed_by None = 0
missed_by (Some saves) = missed_of saves

abbrev pub unsaved_by : Option Saves → ℕ
unsaved_by None = 0
unsaved_by (Some saves) = unsaved_of saves

-- a saver of the run that began with the opening, which has saved nothing since, if there is one
abbrev pub Begins : Opening → Option Saver → Option Saves → Type 0
Begins opening None None = Unit {0}
Begins opening None (Some saves) = ⊥
Begins opening (Some saver) None = ⊥
Begins opening (Some saver) (Some saves) = saves ≡ begun saver opening

-- saves of the run that began with the opening, none of which was missed or is unsaved
pub record IsBegun (opening : Opening) (saves : Saves) : Type 0 where
  pub own : opening_of saves ≡ opening
  pub missed : missed_of saves ≡ 0
  pub unsaved : unsaved_of saves ≡ 0

-- the saver of what is saved, if there is one
abbrev pub savers : Option Saves → Option Saver
savers None = None
savers (Some saves) = Some (saver_of saves)

-- if everything was Covered with the saver, it stays so at each moment
abbrev pub IsKeptSafe : Option Saver → DiskSeen → DiskSeen → Type 0
IsKeptSafe saver old new =
    IfSome saver (λ s. IsCoveredNow s old.told → AllCovered old.told new.told)

-- The number of saves tried while it worked, and one of the final book: each that succeeded has the
-- next sequence, and the others are counted. If the last one succeeded, recovery finds the final
-- book's image under that sequence.
pub record IsEachSaved (saver : Saver) (count : ℕ) (outcome : Outcome) (told : Option History)
    (b : BookState) : Type 0 where
  pub sequence : ℕ
  pub tried : (sequence + outcome.missed + outcome.unsaved ≡ sequence_of saver + count + 1)
      ⊎ IsFull outcome.missed outcome.unsaved
  pub found : outcome.last ≡ Some Saved → FindsOne (IsImageOf b sequence) told

-- so it was, if there is a saver, and the run ended with a book
abbrev pub AreEachSaved : Option Saver → Outcome → DiskSeen → ℕ → Type 0
AreEachSaved saver outcome new count =
    IfSome saver (λ s. IfBook outcome.end (IsEachSaved s count outcome new.told))

-- The state of the disk at the end. Without a saver it was not touched. With one the final book is
-- saved, or that is counted; if recovery found an image of the run, it does so at each moment; and
-- saves are missed as often as the disk failed.
pub record HasKept (b : BookState) (saver : Option Saver) (outcome : Outcome) (old new : DiskSeen)
    : Type 0 where
  pub untouched : IsNone saver → IsUntouched outcome old new
  pub saved : IfSome saver (λ s. IsSavedOrCounted outcome new.told)
  pub found : IfSome saver (λ s. IsFoundNow (IsOfRun b) s old.told
      → Leaves (FindsIn (IsOfRun b)) old.told new.told)
  pub missed : IsMissedByFaults outcome old new

-- memory ran out before anything was done
pub record IsNothing (outcome : Outcome) : Type 0 where
  pub ended : outcome.end ≡ Memory
  pub missed : outcome.missed ≡ 0
  pub unsaved : outcome.unsaved ≡ 0

-- the final book was saved, if it was to be, and the outcome says what became of all saves
pub record HasConcluded (outcome : Outcome) (old : KeptSeen) (disk : DiskSeen) : Type 0 where
  pub saves : Option Saves
  pub moves : Moves (IfBook outcome.end IsSoundBook) (IfBook outcome.end (IsOurs old)) old
      (record { saves = saves; disk = disk })
  pub became : IsEndKept outcome.end outcome.last old (record { saves = saves; disk = disk })
  pub missed : outcome.missed ≡ missed_by saves
  pub unsaved : outcome.unsaved ≡ unsaved_by saves
