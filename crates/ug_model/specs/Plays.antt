-- What a schedule that was played leaves.
use Rattle.std.specs.Prelude.{◌≡◌, ℕ, ◌<◌, List, [], length, take, All, Option, Some, None, Result}
use Rattle.std.specs.Prelude.{Ok, Err, slice_get}
use Rattle.ug_rules.specs.State.{BookState}
use Rattle.ug_laws.specs.declared.event.Event.{Event}
use Rattle.ug_laws.specs.declared.event.Event.TheVariants.{Send, Hear, Decide, Tell}
use Rattle.ug_model.specs.declared.schedule.Played.{Played}
use Rattle.ug_model.specs.declared.schedule.PlayFault.{PlayFault}
use Rattle.ug_model.specs.declared.schedule.PlayFault.TheVariants.{NoSuch, Memory}
use Rattle.ug_laws.specs.Events.{IsMissing}
use Rattle.ug_laws.specs.Worlds.{IsTrace, World, end_of, opening}
use Rattle.ug_laws.specs.Honest.{IsHonest}
use Rattle.ug_laws.specs.Laws.{LosesNothing}

-- the effect of the next event, if there is one, when a schedule stops: none if a report is not
-- sent or received, an order not sent, or a decision not begun; no rank fails to join or to be lost
abbrev pub IsLeftBy : Option Event → BookState → BookState → Type 0
IsLeftBy None old new = new ≡ old
IsLeftBy (Some (Send report)) old new = new ≡ old
IsLeftBy (Some (Hear place rank)) old new = new ≡ old
IsLeftBy (Some Decide) old new = new ≡ old
IsLeftBy (Some Tell) old new = new ≡ old
IsLeftBy event old new = ⊥

-- this number of events happened to the book, with nothing sent earlier, and this is the world
pub record IsAfter (b : BookState) (events : List Event) (done : ℕ) (trace : List World)
    (left : BookState) : Type 0 where
  pub happened : IsTrace (opening b []) (take done events) trace
  pub stands : IsLeftBy (slice_get events done) (end_of (opening b []) trace).book left

-- all of the events happened
pub record IsPlayed (b : BookState) (events : List Event) (played : Played) : Type 0 where
  pub trace : List World
  pub after : IsAfter b events (length events) trace played.book
  pub replies : played.replies ≡ (end_of (opening b []) trace).replies
  pub decisions : played.decisions ≡ (end_of (opening b []) trace).decisions

-- this number of events happened, and the next is the first that receives a report that was not
-- sent
pub record IsNoSuch (b : BookState) (events : List Event) (place : ℕ) (left : BookState)
    : Type 0 where
  pub done : ℕ
  pub trace : List World
  pub after : IsAfter b events done trace left
  pub missing : IsMissing events done place
  pub first : (k other : ℕ) → k < done → ¬ IsMissing events k other

-- this number of events happened, and memory ran out in the next
pub record IsOutOfMemory (b : BookState) (events : List Event) (done : ℕ) (left : BookState)
    : Type 0 where
  pub there : done < length events
  pub trace : List World
  pub after : IsAfter b events done trace left

-- why not all of the events happened
abbrev pub IsStopped : BookState → List Event → PlayFault → Type 0
IsStopped b events (NoSuch place left) = IsNoSuch b events place left
IsStopped b events (Memory left done) = IsOutOfMemory b events done left

-- no event receives a report that was not sent
abbrev pub AreAllThere : List Event → Type 0
AreAllThere events = (k place : ℕ) → ¬ IsMissing events k place

-- the book that a play leaves
abbrev pub book_left : Result Played PlayFault → BookState
book_left (Ok played) = played.book
book_left (Err (NoSuch place left)) = left
book_left (Err (Memory left done)) = left

-- as long as solvers are honest, no better point is lost, wherever the play stopped
abbrev pub HonestLeave : BookState → List Event → BookState → Type 0
HonestLeave b events left =
    (done : ℕ) (trace : List World) → IsAfter b events done trace left
    → All IsHonest trace → LosesNothing left
