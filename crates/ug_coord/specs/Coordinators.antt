-- How a coordinator stands to its crew, and how its work ends.
use Rattle.std.specs.Prelude.{◌≡◌, ◌⊎◌, ◌+◌, ℕ, ◌<◌, ◌≤◌, Bool, true, false, List, [], length}
use Rattle.std.specs.Prelude.{replicate, slice_index_or, slice_set, IfSome}
use Rattle.ug_io.specs.declared.crew.Exchange.{Exchange}
use Rattle.ug_io.specs.Crews.{Adds, CrewSeen, told_to}
use Rattle.ug_io.specs.Outside.{Rose}
use Rattle.ug_records.specs.Answers.{IsRecordOf}
use Rattle.ug_frames.specs.declared.order.Order.TheVariants.{Setup}
use Rattle.ug_frames.specs.OrderFrames as orders
use Rattle.ug_stream.specs.declared.next.Next.TheVariants.{NeedMore}
use Rattle.ug_stream.specs.Streams.{Waiting, first}
use Rattle.ug_rules.specs.State.{BookState}
use Rattle.ug_rules.specs.Books.{IsBook, IsSoundBook}
use Rattle.ug_book.specs.Views.{IsSameRun}
use Rattle.ug_rules.specs.Deaths.{killed}
use Rattle.ug_rules.specs.declared.heard.Heard.{Heard}
use Rattle.ug_rules.specs.Hearing.{IsDue, after_hearing}
use Rattle.ug_frames.specs.declared.report.Report.{Report}
use Rattle.ug_restart.specs.declared.outcome.End.{End}
use Rattle.ug_restart.specs.Outcomes.{HasFeasible, IfAnswered, IfBook, IfLimited, IsRight}
use Rattle.ug_coord.specs.Ends.{IsAtLimit, IsExactly, is_ended, ranks_of}
use Rattle.ug_coord.specs.Actions.{AreSound, Closing, Deciding, Action, IsTrace, IsMoreWanted, IsToldEnd}
use Rattle.ug_coord.specs.Actions.{AreReadOut, CoordinatorState, MayBeRead, MayDecide, Pace, lives_at}
use Rattle.ug_coord.specs.Actions.{saves_in}
use Rattle.ug_coord.specs.declared.pacing.Pacing.{Pacing}
use Rattle.ug_coord.specs.Pacing.{IsSaveDue}
use Rattle.ug_ranks.specs.Looks.{is_alive}
use Rattle.ug_ranks.specs.States.{state_at}
use Rattle.ug_coord.specs.Causes.{HasCause, IsShownGone}
use Rattle.ug_coord.specs.Starts.{AreStarted, AreStarts, HasStarted}
use Rattle.ug_coord.specs.Keeping.{HasTried, IsCheckpointerOf, IsKeptBy, KeptSeen, Moves}
use Rattle.ug_coord.specs.Reading.{HasRead}

-- with a crew of which nothing was said yet, no rank of which lives
abbrev pub beginning : BookState → ℕ → CoordinatorState
beginning b faults = record {
  said = [];
  lives = replicate (ranks_of b) false;
  faults = faults;
  link_failed = false;
  out_of_memory = false;
  pace = Deciding;
  pacing = record { since = b.heard; apart = 0 };
  streams = replicate (ranks_of b) first;
  book = b;
}

-- actions lead from the one state to the other
pub record Reaches (from now : CoordinatorState) : Type 0 where
  pub actions : List Action
  pub trace : IsTrace from actions now

-- and through all of them the book is sound
abbrev pub StaysSound : (from now : CoordinatorState) → Reaches from now → Type 0
StaysSound from now come = AreSound from come.actions now come.trace

-- a coordinator as it is seen: its crew, whether memory ran out, when the next save may come, the
-- bytes of each rank of which no report was taken yet, and its book
pub record CoordinatorSeen : Type 0 where
  pub crew : CrewSeen
  pub out_of_memory : Bool
  pub pacing : Pacing
  pub streams : List Waiting
  pub book : BookState

-- bytes were sent to the rank, and nothing else changed
pub record HasSentTo (old new : CoordinatorSeen) (rank : ℕ) (bytes : List ℕ) : Type 0 where
  pub said : Adds old.crew.said new.crew.said (told_to rank bytes)
  pub rest : new ≡ record old { crew = record old.crew { said = new.crew.said } }

-- a call for the rank failed, and it is lost, to the book too
pub record HasFailed (old new : CoordinatorSeen) (rank : ℕ) : Type 0 where
  pub there : rank < ranks_of old.book
  pub faults : Rose old.crew.faults new.crew.faults
  pub ranks : ranks_of new.book ≡ ranks_of old.book
  pub rest : new ≡ record old {
    crew = record old.crew {
      lives = slice_set old.crew.lives rank false;
      faults = new.crew.faults;
    };
    book = killed rank old.book;
  }

-- the rank is lost, to the book too
abbrev pub without : ℕ → CoordinatorSeen → CoordinatorSeen
without rank h = record h {
  crew = record h.crew { lives = slice_set h.crew.lives rank false };
  book = killed rank h.book;
}

-- these bytes were sent, or a call failed
abbrev pub sent_or_failed : Bool → CoordinatorSeen → CoordinatorSeen → ℕ → List ℕ → Type 0
sent_or_failed true old new rank bytes = HasSentTo old new rank bytes
sent_or_failed false old new rank bytes = HasFailed old new rank

-- the rank was started, or a call failed
abbrev pub launched_or_failed : Bool → CoordinatorSeen → CoordinatorSeen → ℕ → Type 0
launched_or_failed true old new rank =
    new ≡ record old { crew = record old.crew { lives = slice_set old.crew.lives rank true } }
launched_or_failed false old new rank = HasFailed old new rank

-- each rank has its place with the crew and among the streams
pub record IsFit (h : CoordinatorSeen) : Type 0 where
  pub lives : length h.crew.lives ≡ ranks_of h.book
  pub streams : length h.streams ≡ ranks_of h.book

-- whether a turn failed, and what comes next
pub record Phase : Type 0 where
  pub link_failed : Bool
  pub pace : Pace

-- what was said, and the phase, with what is seen
abbrev pub coordinator_state : List Exchange → Phase → CoordinatorSeen → CoordinatorState
coordinator_state said phase h = record {
  said = said;
  lives = h.crew.lives;
  faults = h.crew.faults;
  link_failed = phase.link_failed;
  out_of_memory = h.out_of_memory;
  pace = phase.pace;
  pacing = h.pacing;
  streams = h.streams;
  book = h.book;
}

-- actions led here from that state, and the crew, if it shows its events, shows the same
pub record IsOnAs (phase : Phase) (from : CoordinatorState) (h : CoordinatorSeen) : Type 0 where
  pub said : List Exchange
  pub come : Reaches from (coordinator_state said phase h)
  pub shown : IfSome h.crew.said (λ told. told ≡ said)
  pub fit : IsFit h

-- in a phase that has P
abbrev pub IsOnIn : (Phase → Type 0) → CoordinatorState → CoordinatorSeen → Type 0
IsOnIn P from h = (phase : Phase) × P phase × IsOnAs phase from h

-- what comes next is this
abbrev pub is_next : Pace → Phase → Type 0
is_next pace phase = phase.pace ≡ pace

-- a decision is not what was made last; one may be due
abbrev pub IsRested : Phase → Type 0
IsRested phase = MayDecide phase.pace

-- the bytes that are there may be read
abbrev pub MayRead : Phase → Type 0
MayRead phase = MayBeRead phase.pace

-- a turn failed, and nothing is decided or received any more
pub record IsBrokenOff (phase : Phase) : Type 0 where
  pub link_failed : phase.link_failed ≡ true
  pub closing : phase.pace ≡ Closing

abbrev pub AnyPhase : Phase → Type 0
AnyPhase phase = Unit {0}

-- actions led here from that state, which are the starts of the first n ranks; no other lives yet
pub record IsStartedAs (n : ℕ) (phase : Phase) (from : CoordinatorState) (h : CoordinatorSeen) : Type 0 where
  pub on : IsOnAs phase from h
  pub starts : AreStarts n on.come.actions
  pub later : (rank : ℕ) → n ≤ rank → slice_index_or h.crew.lives rank false ≡ false

-- in a phase that has P
abbrev pub IsStartedIn : (Phase → Type 0) → ℕ → CoordinatorState → CoordinatorSeen → Type 0
IsStartedIn P n from h = (phase : Phase) × P phase × IsStartedAs n phase from h

-- and the saves continued beside them, with one save tried in each action that is one: if each book
-- of them was sound, everything stays Covered
pub record IsKeptIn (P : Phase → Type 0) (from : CoordinatorState) (h : CoordinatorSeen) (old new : KeptSeen)
    : Type 0 where
  pub phase : Phase
  pub is : P phase
  pub on : IsOnAs phase from h
  pub moves : Moves (StaysSound from (coordinator_state on.said phase h) on.come) (Unit {0}) old new
  pub tried : HasTried (saves_in on.come.actions) old new

-- the end was sent to each live rank below n, or that failed
pub record IsClosedBelow (n : ℕ) (from : CoordinatorState) (h : CoordinatorSeen) (old new : KeptSeen) : Type 0 where
  pub kept : IsKeptIn AnyPhase from h old new
  pub closed : (rank : ℕ) → rank < n → slice_index_or h.crew.lives rank false ≡ true
      → IsToldEnd rank kept.on.come.actions

-- the bytes are the order that comes first
pub record IsSetUpFrame (b : BookState) (spelled : List ℕ) : Type 0 where
  pub bytes : List ℕ
  pub its : IsRecordOf bytes b.problem
  pub carried : orders.IsCarried (Setup b.settings.gap bytes)
  pub frame : spelled ≡ orders.spelled (Setup b.settings.gap bytes)

-- nothing was said yet, and no rank lives
pub record IsFresh (seen : CrewSeen) (ranks : ℕ) : Type 0 where
  pub said : IfSome seen.said (λ said. said ≡ [])
  pub lives : seen.lives ≡ replicate ranks false

-- Deeds led from that state to one with this book, and memory ran out or not. The crew, if it shows
-- its events, shows the same, and has failed as often. Each live rank was sent the end, or that
-- failed. The saves continued beside them, with one save tried in each action that is one.
pub record EndsFrom (from : CoordinatorState) (h : CoordinatorSeen) (old new : KeptSeen) : Type 0 where
  pub now : CoordinatorState
  pub come : Reaches from now
  pub shown : IfSome h.crew.said (λ told. told ≡ now.said)
  pub its : now.book ≡ h.book
  pub pacing : now.pacing ≡ h.pacing
  pub out_of_memory : now.out_of_memory ≡ h.out_of_memory
  pub faults : now.faults ≡ h.crew.faults
  pub closed : (rank : ℕ) → lives_at now rank ≡ true → IsToldEnd rank come.actions
  pub moves : Moves (StaysSound from now come) (Unit {0}) old new
  pub tried : HasTried (saves_in come.actions) old new

-- and each rank was started before anything else was done
pub record StartsAndEnds (ranks : ℕ) (from : CoordinatorState) (h : CoordinatorSeen) (old new : KeptSeen)
    : Type 0 where
  pub ends : EndsFrom from h old new
  pub started : AreStarted ranks ends.come.actions

-- How the work ended: actions led from the beginning with this book and a crew that had failed this
-- often to the end, none if memory ran out for the book itself. The first of them start each rank.
-- The crew, if it shows its events, shows the same, and has failed as often. Each live rank was
-- sent the end, or that failed. It ended so exactly when that was due. Memory ran out in none of
-- the actions if there is a book, and no save is due any more. Each dead rank is so for a cause,
-- which the count of faults shows, or its bytes. As many saves were tried as there are actions that
-- are one. If each book of them was sound, it was safe.
pub record HasCoordinated (b : BookState) (faults : ℕ) (seen : CrewSeen) (end : End)
    (Tried : ℕ → Type 0) (Safe : Type 0) : Type 0 where
  pub now : CoordinatorState
  pub come : Reaches (beginning b faults) now
  pub made : IsBook b ⊎ (come.actions ≡ [])
  pub started : HasStarted (ranks_of b) come.actions end
  pub shown : IfSome seen.said (λ told. told ≡ now.said)
  pub closed : (rank : ℕ) → lives_at now rank ≡ true → IsToldEnd rank come.actions
  pub ended : is_ended end now.book
  pub exact : IfBook end (IsExactly end)
  pub failed : now.faults ≡ seen.faults
  pub out_of_memory : IfBook end (λ book. now.out_of_memory ≡ false)
  pub saved : IfBook end (λ book. ¬ IsSaveDue now.pacing book)
  pub same : IfBook end (IsSameRun b)
  pub feasible : IfBook end HasFeasible
  pub limited : IfLimited end IsAtLimit
  pub causes : (rank : ℕ) → rank < ranks_of b → is_alive (state_at now.book.ranks rank) ≡ false
      → HasCause rank come.actions
  pub shows : (rank : ℕ) → rank < ranks_of b → is_alive (state_at now.book.ranks rank) ≡ false
      → IsShownGone faults seen.faults rank come.actions
  pub right : IfAnswered end (λ book. IsSoundBook book → IsRight book)
  pub tried : Tried (saves_in come.actions)
  pub safe : StaysSound (beginning b faults) now come → Safe

-- none, or one more
abbrev pub IsOneMore : ℕ → ℕ → Type 0
IsOneMore old new = (new ≡ old) ⊎ (new ≡ old + 1)

-- the run is the same, no report was received, and the next save may come when it might before
pub record IsQuiet (old new : CoordinatorSeen) : Type 0 where
  pub run : IsSameRun old.book new.book
  pub heard : new.book.heard ≡ old.book.heard
  pub pacing : new.pacing ≡ old.pacing

-- so it is, but one report may have been received
pub record HearsOne (old new : CoordinatorSeen) : Type 0 where
  pub run : IsSameRun old.book new.book
  pub heard : IsOneMore old.book.heard new.book.heard
  pub pacing : new.pacing ≡ old.pacing

-- the saves keep up with the book: no save is due, and they are of the book's run
pub record KeepsUp (h : CoordinatorSeen) (k : KeptSeen) : Type 0 where
  pub saved : ¬ IsSaveDue h.pacing h.book
  pub checkpointer : IsCheckpointerOf k h.book

-- the run is the same, no save is due, and the saver has what its disk holds
pub record HasKeptUp (old new : CoordinatorSeen) (k : KeptSeen) : Type 0 where
  pub same : IsSameRun old.book new.book
  pub saved : ¬ IsSaveDue new.pacing new.book
  pub kept : IsKeptBy k

-- of the rank only a frame that is cut short was there, and of no rank more is; the book stays
pub record HasReadAll (old new : CoordinatorSeen) (rank : ℕ) : Type 0 where
  pub short : HasRead old.streams new.streams rank NeedMore
  pub read : AreReadOut new.streams
  pub nothing : new.book ≡ old.book

-- a report of the rank was received, and so answered
pub record HasHeardReport (old new : CoordinatorSeen) (rank : ℕ) (report : Report) : Type 0 where
  pub there : rank < ranks_of old.book
  pub answer : Heard
  pub due : IsDue old.book rank report answer
  pub ranks : ranks_of new.book ≡ ranks_of old.book
  pub out_of_memory : IsMoreWanted answer old.out_of_memory new.out_of_memory
  pub rest : new ≡ record old {
    out_of_memory = new.out_of_memory;
    book = after_hearing answer rank report old.book;
  }
