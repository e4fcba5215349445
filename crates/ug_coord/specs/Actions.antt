-- What happens between a coordinator and its crew, and what the coordinator does at each piece of
-- it.
use Rattle.std.specs.Prelude.{◌≡◌, ◌≢◌, ◌⊎◌, ℕ, ◌+◌, ◌<◌, Bool, true, false, List, [], ◌∷◌, ◌++◌, length}
use Rattle.std.specs.Prelude.{slice_index_or, slice_set}
use Rattle.std.specs.List.{Contains}
use Rattle.ug_io.specs.declared.crew.Exchange.{Exchange}
use Rattle.ug_io.specs.declared.crew.Exchange.TheVariants.{Gone}
use Rattle.ug_io.specs.Crews.{heard_from, told_to}
use Rattle.ug_io.specs.Outside.{Rose}
use Rattle.ug_records.specs.Answers.{IsRecordOf}
use Rattle.ug_frames.specs.declared.order.Order.{Order}
use Rattle.ug_frames.specs.declared.order.Order.TheVariants.{Setup, End}
use Rattle.ug_frames.specs.declared.report.Report.{Report}
use Rattle.ug_frames.specs.Fronts.{IsCutShort}
use Rattle.ug_frames.specs.OrderFrames as orders
use Rattle.ug_frames.specs.ReportFrames as reports
use Rattle.ug_stream.specs.Streams.{IsBadAt, IsGiven, Waiting, fed, first, shut}
use Rattle.ug_rules.specs.declared.heard.Heard.{Heard}
use Rattle.ug_rules.specs.declared.heard.Heard.TheVariants.{Memory}
use Rattle.ug_rules.specs.State.{BookState}
use Rattle.ug_rules.specs.Books.{IsSoundBook}
use Rattle.ug_rules.specs.Deaths.{killed}
use Rattle.ug_rules.specs.Deciding.{IsDecided, Stands}
use Rattle.ug_rules.specs.Hearing.{IsDue, after_hearing}
use Rattle.ug_book.specs.Reads.{IsOrderTold}
use Rattle.ug_coord.specs.declared.pacing.Pacing.{Pacing}
use Rattle.ug_coord.specs.Ends.{IsOver}
use Rattle.ug_coord.specs.Pacing.{IsSaveDue, saved_at}

-- what a coordinator does next: it decides; or it has decided, and it receives what comes; or
-- something came, and it reads what that is; or a turn failed, or the end is being sent, and it
-- does neither any more
pub data Pace : Type 0 where
  Deciding : Pace
  Hearing : Pace
  Reading : Pace
  Closing : Pace

-- a decision was not what came last
abbrev pub MayDecide : Pace → Type 0
MayDecide Deciding = Unit {0}
MayDecide Hearing = ⊥
MayDecide Reading = Unit {0}
MayDecide Closing = ⊥

-- the bytes that are there may be read
abbrev pub MayBeRead : Pace → Type 0
MayBeRead Deciding = ⊥
MayBeRead Hearing = Unit {0}
MayBeRead Reading = Unit {0}
MayBeRead Closing = ⊥

-- the events of the crew; which ranks are alive; how often the crew failed, and whether a turn did;
-- whether memory ran out; what comes next; when the next save may come; the bytes of each rank of
-- which no report was taken yet; and the book
pub record CoordinatorState : Type 0 where
  pub said : List Exchange
  pub lives : List Bool
  pub faults : ℕ
  pub link_failed : Bool
  pub out_of_memory : Bool
  pub pace : Pace
  pub pacing : Pacing
  pub streams : List Waiting
  pub book : BookState

-- why a rank is lost: the crew says so; a call of the crew failed; or its bytes are not a report
pub data Cause : Type 0 where
  Ended : Cause
  Failed : Cause
  Nonsense : Cause

-- A rank was started; the problem or the end was sent to it; bytes came from it; a report of it was
-- received, and so answered; it is lost; a decision was made; an order of the book was sent to its
-- rank, or could not be, or was dropped; a turn failed; the end could not be sent; and memory ran
-- out: the first steps of a decision stand, an order of the book could not be put into bytes, the
-- bytes that came from a rank could not be kept, or a report could not be read. Or the book was
-- saved, if it is to be.
pub data Action : Type 0 where
  Launched : ℕ → Action
  SetUp : ℕ → List ℕ → Action
  Closed : ℕ → Action
  Came : ℕ → List ℕ → Action
  Took : ℕ → Report → Heard → Action
  Lost : ℕ → Cause → Action
  Decided : Action
  Sent : ℕ → Order → Action
  Unsent : ℕ → Order → Action
  Passed : ℕ → Order → Action
  Broke : Action
  Unclosed : ℕ → Action
  Halted : ℕ → Action
  Unwritten : ℕ → Order → Action
  Unfed : ℕ → List ℕ → Action
  Unread : Action
  Kept : Action

abbrev pub lives_at : CoordinatorState → ℕ → Bool
lives_at s rank = slice_index_or s.lives rank false

abbrev pub stream_at : CoordinatorState → ℕ → Waiting
stream_at s rank = slice_index_or s.streams rank first

-- a whole report waits in it, or bad bytes, and not just a frame that is cut short
pub record HasMore (w : Waiting) : Type 0 where
  pub fine : w.bad ≡ false
  pub more : ¬ IsCutShort w.bytes

-- of no rank more is there: all that came was read, but for frames that are cut short
abbrev pub AreReadOut : List Waiting → Type 0
AreReadOut streams = (rank : ℕ) → ¬ HasMore (slice_index_or streams rank first)

-- No end is due, and no order is queued: each was sent to its rank, or that failed, or the rank is
-- lost.
pub record IsSettled (b : BookState) : Type 0 where
  pub more : ¬ IsOver b
  pub told : b.orders ≡ []

-- and it was decided since the last report, and all that came was read: so more may be asked for
pub record IsHearing (old : CoordinatorState) : Type 0 where
  pub settled : IsSettled old.book
  pub decided : old.pace ≡ Hearing
  pub read : AreReadOut old.streams

-- and it was decided, or something came
pub record IsReading (old : CoordinatorState) : Type 0 where
  pub settled : IsSettled old.book
  pub decided : MayBeRead old.pace

-- a decision is due, and no end, nor a save: so a save comes right behind the report that asks for
-- it
pub record IsDeciding (old : CoordinatorState) : Type 0 where
  pub more : ¬ IsOver old.book
  pub due : MayDecide old.pace
  pub saved : ¬ IsSaveDue old.pacing old.book

-- the problem's order, with the book's gap
pub record IsSetUp (old new : CoordinatorState) (rank : ℕ) (bytes : List ℕ) : Type 0 where
  pub its : IsRecordOf bytes old.book.problem
  pub carried : orders.IsCarried (Setup old.book.settings.gap bytes)
  pub alive : lives_at old rank ≡ true
  pub rest : new ≡ record old {
    said = old.said ++ told_to rank (orders.spelled (Setup old.book.settings.gap bytes));
  }

-- if memory has not run out now, it had not before, nor for the answer
pub record IsMoreWanted (answer : Heard) (old new : Bool) : Type 0 where
  pub before : new ≡ false → old ≡ false
  pub now : new ≡ false → answer ≢ Memory

-- a report was given by the bytes of its rank, and received
pub record IsTaken (old new : CoordinatorState) (rank : ℕ) (report : Report) (answer : Heard)
    : Type 0 where
  pub there : rank < length old.book.ranks
  pub reading : IsReading old
  pub stream : Waiting
  pub given : IsGiven reports.IsCarried reports.spelled (stream_at old rank) stream report
  pub due : IsDue old.book rank report answer
  pub out_of_memory : IsMoreWanted answer old.out_of_memory new.out_of_memory
  pub rest : new ≡ record old {
    out_of_memory = new.out_of_memory;
    streams = slice_set old.streams rank stream;
    pace = Deciding;
    book = after_hearing answer rank report old.book;
  }

-- the bytes of the rank that wait are bad, or bad ones came before
pub record IsNonsense (old new : CoordinatorState) (rank : ℕ) : Type 0 where
  pub reading : IsReading old
  pub said : new.said ≡ old.said
  pub stream : Waiting
  pub at : ℕ
  pub bad : IsBadAt reports.IsCarried reports.spelled (stream_at old rank) stream at
  pub streams : new.streams ≡ slice_set old.streams rank stream
  pub faults : new.faults ≡ old.faults

-- it ended, and the crew says so, which counts as a fault
pub record HasEnded (old new : CoordinatorState) (rank : ℕ) : Type 0 where
  pub hearing : IsHearing old
  pub alive : lives_at old rank ≡ true
  pub said : new.said ≡ old.said ++ Gone rank ∷ []
  pub streams : new.streams ≡ old.streams
  pub faults : Rose old.faults new.faults

-- a turn failed before, or a call for the rank did now
abbrev pub IsFault : CoordinatorState → CoordinatorState → Type 0
IsFault old new = ((old.link_failed ≡ true) × (new.faults ≡ old.faults)) ⊎ Rose old.faults new.faults

-- why it is lost, and what the crew says of it then
abbrev pub IsCause : CoordinatorState → CoordinatorState → ℕ → Cause → Type 0
IsCause old new rank Ended = HasEnded old new rank
IsCause old new rank Failed = (new.said ≡ old.said) × IsFault old new × (new.streams ≡ old.streams)
IsCause old new rank Nonsense = IsNonsense old new rank

-- what comes next
abbrev pub next_after : Cause → Pace → Pace
next_after Ended pace = Deciding
next_after Failed pace = pace
next_after Nonsense pace = Deciding

-- the rank is lost, to the book too, and is not alive any more
pub record IsLost (old new : CoordinatorState) (rank : ℕ) (cause : Cause) : Type 0 where
  pub there : rank < length old.book.ranks
  pub why : IsCause old new rank cause
  pub lives : new.lives ≡ slice_set old.lives rank false
  pub link_failed : new.link_failed ≡ old.link_failed
  pub out_of_memory : new.out_of_memory ≡ old.out_of_memory
  pub pace : new.pace ≡ next_after cause old.pace
  pub pacing : new.pacing ≡ old.pacing
  pub book : new.book ≡ killed rank old.book

-- the first queued order of the book was sent to its rank
pub record IsSent (old new : CoordinatorState) (rank : ℕ) (order : Order) : Type 0 where
  pub alive : lives_at old rank ≡ true
  pub carried : orders.IsCarried order
  pub told : IsOrderTold old.book new.book (record { rank = rank; order = order })
  pub rest : new ≡ record old {
    said = old.said ++ told_to rank (orders.spelled order);
    book = new.book;
  }

-- it was passed over, since its rank does not live
pub record IsPassed (old new : CoordinatorState) (rank : ℕ) (order : Order) : Type 0 where
  pub away : lives_at old rank ≡ false
  pub told : IsOrderTold old.book new.book (record { rank = rank; order = order })
  pub rest : new ≡ record old { book = new.book }

-- it could not be sent, so its rank is lost
pub record IsUnsent (old new : CoordinatorState) (rank : ℕ) (order : Order) : Type 0 where
  pub there : rank < length old.book.ranks
  pub alive : lives_at old rank ≡ true
  pub without : BookState
  pub told : IsOrderTold old.book without (record { rank = rank; order = order })
  pub faults : Rose old.faults new.faults
  pub rest : new ≡ record old {
    lives = slice_set old.lives rank false;
    faults = new.faults;
    book = killed rank without;
  }

-- it could not be put into bytes
pub record IsUnwritten (old new : CoordinatorState) (rank : ℕ) (order : Order) : Type 0 where
  pub alive : lives_at old rank ≡ true
  pub told : IsOrderTold old.book new.book (record { rank = rank; order = order })
  pub rest : new ≡ record old { out_of_memory = true; book = new.book }

-- bytes came, and are in the stream of their rank
pub record IsFed (old new : CoordinatorState) (rank : ℕ) (bytes : List ℕ) : Type 0 where
  pub hearing : IsHearing old
  pub alive : lives_at old rank ≡ true
  pub rest : new ≡ record old {
    said = old.said ++ heard_from rank bytes;
    streams = slice_set old.streams rank (fed (stream_at old rank) bytes);
    pace = Reading;
  }

-- bytes came, and memory ran out while keeping them, so nothing more is read of their rank
pub record IsUnfed (old new : CoordinatorState) (rank : ℕ) (bytes : List ℕ) : Type 0 where
  pub hearing : IsHearing old
  pub alive : lives_at old rank ≡ true
  pub rest : new ≡ record old {
    said = old.said ++ heard_from rank bytes;
    out_of_memory = true;
    streams = slice_set old.streams rank (shut (stream_at old rank));
    pace = Reading;
  }

-- it was decided, or the first steps of that stand; and whether memory ran out then
pub record HasDecided (Is : BookState → BookState → Type 0) (out_of_memory : Bool) (old new : CoordinatorState)
    : Type 0 where
  pub deciding : IsDeciding old
  pub is : Is old.book new.book
  pub rest : new ≡ record old { out_of_memory = out_of_memory; book = new.book; pace = Hearing }

-- the end was sent to a live rank
pub record IsClosed (old new : CoordinatorState) (rank : ℕ) : Type 0 where
  pub alive : lives_at old rank ≡ true
  pub rest : new ≡ record old {
    said = old.said ++ told_to rank (orders.spelled End);
    pace = Closing;
  }

-- that failed
pub record IsUnclosed (old new : CoordinatorState) : Type 0 where
  pub faults : Rose old.faults new.faults
  pub rest : new ≡ record old { faults = new.faults; pace = Closing }

-- a turn failed, so nothing is decided or received any more: the run ends once each rank is lost
pub record HasBroken (old new : CoordinatorState) : Type 0 where
  pub hearing : IsHearing old
  pub faults : Rose old.faults new.faults
  pub rest : new ≡ record old { faults = new.faults; link_failed = true; pace = Closing }

-- a save was due, and was tried
pub record IsKept (old new : CoordinatorState) : Type 0 where
  pub due : IsSaveDue old.pacing old.book
  pub rest : new ≡ record old { pacing = saved_at old.book }

-- what an action does
abbrev pub NextState : CoordinatorState → Action → CoordinatorState → Type 0
NextState old (Launched rank) new = (lives_at old rank ≡ false)
    × (new ≡ record old { lives = slice_set old.lives rank true })
NextState old (SetUp rank bytes) new = IsSetUp old new rank bytes
NextState old (Closed rank) new = IsClosed old new rank
NextState old (Came rank bytes) new = IsFed old new rank bytes
NextState old (Took rank report answer) new = IsTaken old new rank report answer
NextState old (Lost rank cause) new = IsLost old new rank cause
NextState old Decided new = HasDecided IsDecided old.out_of_memory old new
NextState old (Sent rank order) new = IsSent old new rank order
NextState old (Unsent rank order) new = IsUnsent old new rank order
NextState old (Passed rank order) new = IsPassed old new rank order
NextState old Broke new = HasBroken old new
NextState old (Unclosed rank) new = IsUnclosed old new
NextState old (Halted steps) new = HasDecided (Stands steps) true old new
NextState old (Unwritten rank order) new = IsUnwritten old new rank order
NextState old (Unfed rank bytes) new = IsUnfed old new rank bytes
NextState old Unread new = IsReading old × (new ≡ record old { out_of_memory = true; pace = Deciding })
NextState old Kept new = IsKept old new

-- the end was sent to the rank in one of the actions, or that failed
abbrev pub IsToldEnd : ℕ → List Action → Type 0
IsToldEnd rank actions = Contains actions (Closed rank) ⊎ Contains actions (Unclosed rank)

-- how many saves an action is
abbrev pub saves_of : Action → ℕ
saves_of Kept = 1
saves_of action = 0

-- how many of the actions are saves
abbrev pub saves_in : List Action → ℕ
saves_in [] = 0
saves_in (action ∷ actions) = saves_of action + saves_in actions

-- the actions lead from one state to the other
abbrev pub IsTrace : CoordinatorState → List Action → CoordinatorState → Type 0
IsTrace old [] new = new ≡ old
IsTrace old (action ∷ actions) new = (mid : CoordinatorState) × NextState old action mid × IsTrace mid actions new

-- through all of them the book is sound
abbrev pub AreSound : (old : CoordinatorState) (actions : List Action) (new : CoordinatorState) → IsTrace old actions new → Type 0
AreSound old [] new trace = IsSoundBook old.book
AreSound old (action ∷ actions) new (mid, does, more) = IsSoundBook old.book × AreSound mid actions new more
