-- The world between two events, and what an event does: the rules of the coordinator, and the list
-- of what was sent.
use Rattle.std.specs.Prelude.{◌≡◌, ℕ, List, [], ◌∷◌, ◌++◌, Some, slice_get}
use Rattle.ug_frames.specs.declared.report.Report.{Report}
use Rattle.ug_frames.specs.declared.report.Report.TheVariants.{Ready}
use Rattle.ug_rules.specs.declared.heard.Heard.{Heard}
use Rattle.ug_rules.specs.declared.told.Told.{Told}
use Rattle.ug_rules.specs.State.{BookState}
use Rattle.ug_rules.specs.Deaths.{killed}
use Rattle.ug_rules.specs.Deciding.{IsDecided, Stands}
use Rattle.ug_rules.specs.Hearing.{IsDue, after_hearing, kept}
use Rattle.ug_rules.specs.HearingLaws.{HasRisingChanges}
use Rattle.ug_laws.specs.declared.decision.Decision.{Decision}
use Rattle.ug_laws.specs.declared.decision.Decision.TheVariants.{Whole, CutShort}
use Rattle.ug_laws.specs.declared.event.Event.{Event}
use Rattle.ug_laws.specs.declared.event.Event.TheVariants.{Send, Hear, Join, Gone, Decide, Tell}

-- the book, the orders of its run that were sent, the reports that were sent, the answers to those
-- that were received, and how far each decision went, each with the earliest first
pub record World : Type 0 where
  pub book : BookState
  pub told : List Told
  pub sent : List Report
  pub replies : List Heard
  pub decisions : List Decision

-- before the first event: these reports were sent earlier, as those of earlier runs
abbrev pub opening : BookState → List Report → World
opening b earlier = record { book = b; told = []; sent = earlier; replies = []; decisions = [] }

-- the report at this place, whose changes rise as their type has it, is received from a rank and
-- gets the answer that is due, which may be that memory ran out for a hand; it stays among those
-- that were sent
pub record IsHeard (old : World) (place rank : ℕ) (new : World) : Type 0 where
  pub report : Report
  pub answer : Heard
  pub there : slice_get old.sent place ≡ Some report
  pub rising : HasRisingChanges report
  pub due : IsDue old.book rank report answer
  pub done : new ≡ record old {
    book = after_hearing answer rank report old.book;
    replies = old.replies ++ answer ∷ [];
  }

-- a decision that went this far: it was made, or memory ran out and this number of its steps stand
abbrev pub IsMadeAsFar : Decision → BookState → BookState → Type 0
IsMadeAsFar Whole old new = IsDecided old new
IsMadeAsFar (CutShort steps) old new = Stands steps old new

-- the coordinator decides as far as memory goes, and how far that was is recorded
pub record HasDecided (old new : World) : Type 0 where
  pub decision : Decision
  pub made : IsMadeAsFar decision old.book new.book
  pub rest : new ≡ record old {
    book = new.book;
    decisions = old.decisions ++ decision ∷ [];
  }

-- the first queued order, if there is one, is sent: it leaves the queue
abbrev pub told_first : List Told → World → World
told_first [] w = w
told_first (first ∷ rest) w =
    record w { book = record w.book { orders = rest }; told = w.told ++ first ∷ [] }

-- what an event does. A rank that joins does what one does whose Ready is kept
abbrev pub Happens : World → Event → World → Type 0
Happens old (Send report) new = new ≡ record old { sent = old.sent ++ report ∷ [] }
Happens old (Hear place rank) new = IsHeard old place rank new
Happens old (Join rank) new = new ≡ record old { book = kept rank Ready old.book }
Happens old (Gone rank) new = new ≡ record old { book = killed rank old.book }
Happens old Decide new = HasDecided old new
Happens old Tell new = new ≡ told_first old.book.orders old

-- the worlds after each of the events, one after another
abbrev pub IsTrace : World → List Event → List World → Type 0
IsTrace old [] [] = Unit {0}
IsTrace old (event ∷ events) (new ∷ trace) = Happens old event new × IsTrace new events trace
IsTrace old [] (new ∷ trace) = ⊥
IsTrace old (event ∷ events) [] = ⊥

-- the world at the end of a trace
abbrev pub end_of : World → List World → World
end_of old [] = old
end_of old (new ∷ trace) = end_of new trace
