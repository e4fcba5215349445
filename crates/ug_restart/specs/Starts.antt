-- How a run begins on a disk, by what recovery finds there.
use Rattle.std.specs.Prelude.{◌≡◌, ◌≢◌, ◌⊎◌, ℕ, ◌+◌, ◌≤◌, ◌<ℤ◌, ◌≤ℤ◌, ◌^◌, List, [], ◌∷◌, map, take}
use Rattle.std.specs.Prelude.{slice_get, Option, None, Some, IsSomeAnd}
use Rattle.ug_disk.specs.Histories.{History}
use Rattle.ug_problem.specs.Instances.{Instance}
use Rattle.ug_nodes.specs.declared.change.Change.{Change}
use Rattle.ug_records.specs.Spelling.{record_of}
use Rattle.ug_rules.specs.declared.settings.Settings.{Settings}
use Rattle.ug_rules.specs.State.{BookState}
use Rattle.ug_book.specs.Starts.{started}
use Rattle.ug_image.specs.declared.image.Image.{Image}
use Rattle.ug_image.specs.declared.image.SavedNode.{SavedNode}
use Rattle.ug_checkpoint.specs.Runs.{CouldLeave}
use Rattle.ug_checkpoint.specs.declared.found.Found.{Found}
use Rattle.ug_checkpoint.specs.Recovery.{Recovered, HasFound, Loaded, IsFirstBadSlot}
use Rattle.ug_checkpoint.specs.Savers.{CouldFind}
use Rattle.ug_snapshot.specs.Moments.{IsImageOf}
use Rattle.ug_restart.specs.declared.fault.StartFault.{StartFault}
use Rattle.ug_restart.specs.declared.fault.StartFault.TheVariants.{Memory, DiskFault, BadImage}
use Rattle.ug_restart.specs.declared.fault.StartFault.TheVariants.{NoCheckpoint, OtherProblem}
use Rattle.ug_restart.specs.declared.fault.StartFault.TheVariants.{SmallerGap, Spent}

-- the run after the one that is stored, and the first where none is
abbrev pub next_run : Option Found → ℕ
next_run None = 1
next_run (Some found) = found.image.run + 1

-- the sequence that is stored, and 0 where none is
abbrev pub sequence_in : Option Found → ℕ
sequence_in None = 0
sequence_in (Some found) = found.image.sequence

-- the run or the sequence that is stored is 2^62 or more
abbrev pub IsSpent : Option Found → Type 0
IsSpent None = ⊥
IsSpent (Some found) = (2 ^ 62 ≤ found.image.run) ⊎ (2 ^ 62 ≤ found.image.sequence)

-- the boxes that were saved, each as its changes
abbrev pub boxes_saved : List SavedNode → List (List Change)
boxes_saved nodes = map (λ (node : SavedNode). node.changes) nodes

-- the book of a new solve of the problem, where this is found on the disk: the root is left
abbrev pub begun : Instance → Settings → Option Found → BookState
begun p settings found = started p (next_run found) None ([] ∷ []) settings

-- the book that resumes from an image: its incumbent, its boxes, and the gap of the settings
abbrev pub gone_on : Instance → Settings → Found → BookState
gone_on p settings found = started p (next_run (Some found)) found.image.best
    (boxes_saved found.image.nodes) settings

-- the book begins on a disk where this was found, whatever it is, or resumes from it, if it is
-- there
abbrev pub BeginsAt : Instance → Settings → Option Found → BookState → Type 0
BeginsAt p settings found book = book ≡ begun p settings found

abbrev pub GoesOnFrom : Instance → Settings → Option Found → BookState → Type 0
GoesOnFrom p settings found book = IsSomeAnd found (λ f. book ≡ gone_on p settings f)

-- Two lists of bytes are the same up to this place, where they have these, of which one is past
-- the end or which differ.
pub record IsFirstDifference (a b : List ℕ) (at : ℕ) (kept read : Option ℕ) : Type 0 where
  pub same : take at a ≡ take at b
  pub in_a : kept ≡ slice_get a at
  pub in_b : read ≡ slice_get b at
  pub differ : kept ≢ read

-- why a new solve does not begin
abbrev pub IsNotBegun : Option History → Option History → StartFault → Type 0
IsNotBegun old new Memory = Unit {0}
IsNotBegun old new DiskFault = Unit {0}
IsNotBegun old new (BadImage slot at) =
    Loaded (λ zero one. IsFirstBadSlot zero one slot at) old new
IsNotBegun old new Spent = (found : Option Found) × HasFound old new found × IsSpent found
IsNotBegun old new fault = ⊥

-- recovery finds a checkpoint, which has P
pub record HasCheckpoint (old new : Option History) (P : Image → Type 0) : Type 0 where
  pub found : Found
  pub has : HasFound old new (Some found)
  pub is : P found.image

-- why no run resumes from a checkpoint: the first of these that applies
abbrev pub IsNotGoneOn : Instance → Settings → Option History → Option History → StartFault
    → Type 0
IsNotGoneOn p settings old new Memory = Unit {0}
IsNotGoneOn p settings old new DiskFault = Unit {0}
IsNotGoneOn p settings old new (BadImage slot at) =
    Loaded (λ zero one. IsFirstBadSlot zero one slot at) old new
IsNotGoneOn p settings old new NoCheckpoint = HasFound old new None
IsNotGoneOn p settings old new (OtherProblem at kept read) = HasCheckpoint old new (λ image.
    IsFirstDifference (record_of image.problem) (record_of p) at kept read)
IsNotGoneOn p settings old new (SmallerGap kept asked) = HasCheckpoint old new (λ image.
    (image.problem ≡ p) × (kept ≡ image.gap) × (asked ≡ settings.gap) × (asked <ℤ kept))
IsNotGoneOn p settings old new Spent = HasCheckpoint old new (λ image.
    (image.problem ≡ p) × (image.gap ≤ℤ settings.gap)
    × ((2 ^ 62 ≤ image.run) ⊎ (2 ^ 62 ≤ image.sequence)))

-- This was found before, it is not spent, and the book is the one that begins there.
pub record IsBegun (p : Instance) (settings : Settings) (old : Option History) (book : BookState)
    : Type 0 where
  pub found : Option Found
  pub could : CouldFind old found
  pub room : ¬ IsSpent found
  pub is : book ≡ begun p settings found

-- This checkpoint of the problem was found before, with no larger gap and numbers left, and the
-- book is the one that resumes from it.
pub record IsGoneOn (p : Instance) (settings : Settings) (old : Option History) (book : BookState)
    : Type 0 where
  pub found : Found
  pub could : CouldFind old (Some found)
  pub problem : found.image.problem ≡ p
  pub gap : found.image.gap ≤ℤ settings.gap
  pub room : ¬ IsSpent (Some found)
  pub is : book ≡ gone_on p settings found

-- an image of the book is found, under some sequence
pub record IsFirstImage (book : BookState) (found : Found) : Type 0 where
  pub sequence : ℕ
  pub image : IsImageOf book sequence found.image

-- What a start may leave: such images as a crash could leave before, or two in which recovery finds
-- what it could find before, or an image of a book that P holds of.
abbrev pub IsSafeStart : Option History → (BookState → Type 0) → List ℕ → List ℕ → Type 0
IsSafeStart told P zero one = CouldLeave told zero one
    ⊎ ((found : Option Found) × Recovered zero one found
    × (CouldFind told found
    ⊎ ((new : Found) × (found ≡ Some new) × ((book : BookState) × P book × IsFirstImage book new))))
