-- What a run saves after its first image, and what it counts.
use Rattle.std.specs.Prelude.{◌≡◌, ◌≢◌, ◌⊎◌, ℕ, ◌+◌, ◌-◌, ◌^◌, ◌≤◌, ◌<◌, min}
use Rattle.ug_image.specs.declared.image.Image.{Image}
use Rattle.ug_image.specs.Images.{IsImage}
use Rattle.ug_checkpoint.specs.declared.saver.Saver.{Saver}
use Rattle.ug_checkpoint.specs.Savers.{sequence_of}
use Rattle.ug_rules.specs.State.{BookState}
use Rattle.ug_snapshot.specs.Moments.{IsImageOf}
use Rattle.ug_book.specs.declared.opening.Opening.{Opening}
use Rattle.ug_book.specs.Openings.{opening_book}
use Rattle.ug_snapshot.specs.Snapshots.{SnapshotState}
use Rattle.ug_restart.specs.declared.saves.Saves.{Saves}

-- the saver, and what the run began with
abbrev pub saver_of : Saves → Saver
saver_of saves = saves.saver

abbrev pub opening_of : Saves → Opening
opening_of saves = saves.opening

-- the book with which the run began
abbrev pub book_of : Saves → BookState
book_of saves = opening_book saves.opening

-- the sequence of the last acknowledged image
abbrev pub sequence_at : Saves → ℕ
sequence_at saves = sequence_of saves.saver

-- how many calls the history of the last snapshot had that was saved
abbrev pub calls_of : Saves → ℕ
calls_of saves = saves.calls

-- the number of saves missed, since the disk failed in them, and the number not made, since memory
-- ran out
abbrev pub missed_of : Saves → ℕ
missed_of saves = saves.missed

abbrev pub unsaved_of : Saves → ℕ
unsaved_of saves = saves.unsaved

-- with nothing saved yet but the first image
abbrev pub begun : Saver → Opening → Saves
begun saver opening =
    record { saver = saver; opening = opening; calls = 0; missed = 0; unsaved = 0 }

-- one more, up to the end of the count
abbrev pub one_more : ℕ → ℕ
one_more count = min (count + 1) (2 ^ 64 - 1)

-- a snapshot is passed over that is of another opening, or whose history is no longer than that of
-- the last that was saved
abbrev pub IsPassedOver : Saves → SnapshotState → Type 0
IsPassedOver saves s = (s.opening ≢ opening_of saves) ⊎ (s.count ≤ calls_of saves)

-- any other is saved: it is of the same opening, and newer
pub record IsDue (saves : Saves) (s : SnapshotState) : Type 0 where
  pub same : s.opening ≡ opening_of saves
  pub newer : calls_of saves < s.count

-- the image under another sequence
abbrev pub under : ℕ → Image → Image
under sequence image = record image { sequence = sequence }

-- it is the image of the snapshot, under some sequence
pub record IsOfSnapshot (s : SnapshotState) (made : Image) : Type 0 where
  pub sequence : ℕ
  pub is : made ≡ under sequence s.image

-- it is an image of the book, under some sequence
pub record IsOfBook (b : BookState) (made : Image) : Type 0 where
  pub sequence : ℕ
  pub moment : IsImageOf b sequence made

-- it has P, and the sequence of the last acknowledged image
pub record IsLastWith (P : Image → Type 0) (saves : Saves) (made : Image) : Type 0 where
  pub is : P made
  pub sequence : made.sequence ≡ sequence_at saves

-- it may be saved next
pub record IsNext (saver : Saver) (made : Image) : Type 0 where
  pub is : IsImage made
  pub next : made.sequence ≡ sequence_of saver + 1

-- no save was counted, and each count could have risen
pub record NoneIsCounted (old new : Saves) : Type 0 where
  pub missed : missed_of new ≡ missed_of old
  pub unsaved : unsaved_of new ≡ unsaved_of old
  pub missed_room : missed_of old < 2 ^ 64 - 1
  pub unsaved_room : unsaved_of old < 2 ^ 64 - 1

-- of the two counts at most one rose, and by one; so did the sequence of the last image
pub record StepsByOne (old new : Saves) : Type 0 where
  pub missed : missed_of new ≤ missed_of old + 1
  pub unsaved : unsaved_of new ≤ unsaved_of old + 1
  pub one : (missed_of new ≡ missed_of old) ⊎ (unsaved_of new ≡ unsaved_of old)
  pub sequence : sequence_of (saver_of new) ≤ sequence_of (saver_of old) + 1
