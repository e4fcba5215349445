-- Reading the stream of a rank.
use Rattle.std.specs.Prelude.{◌≡◌, ◌<◌, ℕ, List, Option, Some, length, slice_index_or, slice_set}
use Rattle.std.specs.Option.{ForSome}
use Rattle.ug_io.specs.Crews.{Adds, CrewSeen, HasLost, IsAlive, IsSilent, heard_from}
use Rattle.ug_io.specs.Outside.{Rose}
use Rattle.ug_frames.specs.declared.report.Report.{Report}
use Rattle.ug_frames.specs.ReportFrames as reports
use Rattle.ug_stream.specs.declared.next.Next.{Next}
use Rattle.ug_stream.specs.Streams.{IsNext, Waiting, fed, first, shut}
use Rattle.ug_rules.specs.State.{BookState}
use Rattle.ug_coord.specs.Actions.{HasMore}
use Rattle.ug_coord.specs.Ends.{ranks_of}
use Rattle.ug_coord.specs.declared.streams.Turn.{Turn}
use Rattle.ug_coord.specs.declared.streams.Turn.TheVariants.{Fed, Gone, Failed, Wanting}

-- only of this rank, if it is one, more may be there
pub record AreReadBut (last : Option ℕ) (streams : List Waiting) : Type 0 where
  pub there : ForSome last (λ rank. rank < length streams)
  pub only : (rank : ℕ) → HasMore (slice_index_or streams rank first) → last ≡ Some rank

-- the rank is one of the book's, and its bytes came last
pub record IsLastFed (last : Option ℕ) (b : BookState) (rank : ℕ) : Type 0 where
  pub there : rank < ranks_of b
  pub came : last ≡ Some rank

-- this came next of the rank
pub record HasRead (old new : List Waiting) (rank : ℕ) (next : Next Report) : Type 0 where
  pub stream : Waiting
  pub is : IsNext reports.IsCarried reports.spelled (slice_index_or old rank first) stream next
  pub set : new ≡ slice_set old rank stream

-- bytes came from a rank that lives, and were fed to its stream
pub record HasFed (old new : CrewSeen) (before after : List Waiting) (rank : ℕ) : Type 0 where
  pub bytes : List ℕ
  pub alive : IsAlive old rank
  pub said : Adds old.said new.said (heard_from rank bytes)
  pub lives : new.lives ≡ old.lives
  pub faults : new.faults ≡ old.faults
  pub streams : after ≡ slice_set before rank (fed (slice_index_or before rank first) bytes)

-- bytes came from a live rank, and memory ran out while keeping them: its stream is shut
pub record HasLacked (old new : CrewSeen) (before after : List Waiting) (rank : ℕ) : Type 0 where
  pub bytes : List ℕ
  pub alive : IsAlive old rank
  pub said : Adds old.said new.said (heard_from rank bytes)
  pub lives : new.lives ≡ old.lives
  pub faults : new.faults ≡ old.faults
  pub streams : after ≡ slice_set before rank (shut (slice_index_or before rank first))

-- a live rank is lost
pub record HasGone (old new : CrewSeen) (before after : List Waiting) (rank : ℕ) : Type 0 where
  pub lost : HasLost old new rank
  pub streams : after ≡ before

-- the turn failed
pub record HasBroken (old new : CrewSeen) (before after : List Waiting) : Type 0 where
  pub silent : IsSilent old new
  pub faults : Rose old.faults new.faults
  pub streams : after ≡ before

-- the result of a turn
abbrev pub HasTaken : CrewSeen → CrewSeen → List Waiting → List Waiting → Turn → Type 0
HasTaken old new before after (Fed rank) = HasFed old new before after rank
HasTaken old new before after (Gone rank) = HasGone old new before after rank
HasTaken old new before after Failed = HasBroken old new before after
HasTaken old new before after (Wanting rank) = HasLacked old new before after rank
