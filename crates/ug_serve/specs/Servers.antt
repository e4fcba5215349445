-- How a worker at a link stands between two steps.
use Rattle.std.specs.Prelude.{◌≡◌, Option, None, Some}
use Rattle.ug_io.specs.Links.{LinkSeen}
use Rattle.ug_serve.specs.declared.served.Served.{Served}
use Rattle.ug_serve.specs.declared.server.Moved.{Moved}
use Rattle.ug_serve.specs.declared.server.Post.{Post}
use Rattle.ug_serve.specs.declared.server.Progress.{Progress}
use Rattle.ug_serve.specs.declared.server.Progress.TheVariants.{GoesOn, Waits, Ended}
use Rattle.ug_serve.specs.declared.server.Server.{Server}
use Rattle.ug_serve.specs.declared.wire.Wire.{Wire}
use Rattle.ug_serve.specs.Traces.{ServerState}
use Rattle.ug_serve.specs.Actions.{Blank}
use Rattle.ug_serve.specs.SeatViews.{seat_seen}
use Rattle.ug_serve.specs.Seats.{IsSeated}
use Rattle.ug_serve.specs.Serving.{HasServed, IsOn, StandsOn}
use Rattle.ug_worker.specs.Workers.{IsAtWork}

-- a worker's actions led from the beginning to a state, and its link shows them; or its service
-- has ended
abbrev pub IsServing : LinkSeen → Progress → Type 0
IsServing seen GoesOn = (now : ServerState) × IsOn seen now
IsServing seen Waits = (now : ServerState) × IsOn seen now
IsServing seen (Ended end) = HasServed seen end

module _ {L : Type 0} (seen : L → LinkSeen) where
  -- its seat, and what it keeps, stand to its task, if it has one
  abbrev pub IsBusyAs : Wire L → Post → Type 0
  IsBusyAs wire post =
      IsAtWork (IsSeated (seat_seen seen wire post.kept)) post.worker.round_count post.worker.search

  -- the problem is there, or nothing was ordered yet
  abbrev pub is_posted : Option Post → Wire L → Type 0
  is_posted None wire = StandsOn (seen wire.link) wire.orders Blank
  is_posted (Some post) wire = IsBusyAs wire post

  -- the service continues, or has ended
  abbrev pub is_server : Option Served → Option Post → Wire L → Type 0
  is_server None post wire = is_posted post wire
  is_server (Some end) post wire = HasServed (seen wire.link) end

  abbrev pub IsServer : Server L → Type 0
  IsServer server = is_server server.wire.end server.post server.wire

  -- a step was made
  pub record HasMoved (moved : Moved L) : Type 0 where
    pub server : IsServer moved.server
    pub serving : IsServing (seen moved.server.wire.link) moved.progress

-- two workers at links that show the same
pub record IsAlike {L M : Type 0} (seen : L → LinkSeen) (other : M → LinkSeen) (a : Server L)
    (b : Server M) : Type 0 where
  pub link : other b.wire.link ≡ seen a.wire.link
  pub orders : b.wire.orders ≡ a.wire.orders
  pub at : b.wire.at ≡ a.wire.at
  pub end : b.wire.end ≡ a.wire.end
  pub post : b.post ≡ a.post
