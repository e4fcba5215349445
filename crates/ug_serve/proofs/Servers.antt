-- What a step, a rest and an end make of a worker at a link.
use Rattle.std.proofs.Common.{◌≡◌, Option, None, Some, refl, sym, subst}
use Rattle.ug_io.specs.Links.{LinkSeen}
use Rattle.ug_stream.specs.Streams.{Waiting}
use Rattle.ug_worker.specs.declared.pace.Pace.{Pace}
use Rattle.ug_worker.specs.declared.pace.Pace.TheVariants as pace
use Rattle.ug_worker.specs.declared.search.Search.{Search}
use Rattle.ug_serve.specs.declared.kept.Kept.{Kept}
use Rattle.ug_worker.specs.declared.round_count.RoundCount.{RoundCount}
use Rattle.ug_serve.specs.declared.served.Served.{Served}
use Rattle.ug_serve.specs.declared.served.Served.TheVariants.{BadFrame, Ended, LinkFault, Memory}
use Rattle.ug_serve.specs.declared.server.Post.{Post}
use Rattle.ug_serve.specs.declared.server.Progress.{Progress}
use Rattle.ug_serve.specs.declared.server.Server.{Server}
use Rattle.ug_serve.specs.declared.wire.Wire.{Wire}
use Rattle.ug_serve.specs.Traces.{ServerState}
use Rattle.ug_serve.specs.Actions.{Basis, Blank, Stage}
use Rattle.ug_worker.specs.Engagements.{Engaged}
use Rattle.ug_serve.specs.SeatViews.{seat_seen}
use Rattle.ug_serve.specs.Seats.{IsSeated, IsOver, SeatSeen, basis_of, stage_of}
use Rattle.ug_serve.specs.Servers.{IsAlike, IsBusyAs, IsServer, IsServing, is_posted, is_server}
use Rattle.ug_serve.specs.Serving.{HasServed, IsFront, IsOn, IsOpen, StandsOn, has_ended, stands_as}
use Rattle.ug_worker.specs.Workers.{HasPaced, IsAtWork}
use Rattle.ug_serve.proofs.Wires.{said_front}

pub open_stage : (basis : Basis) (round_count : RoundCount) (some : Option Engaged) → IsOpen (stage_of basis round_count some)
open_stage basis round_count None = tt
open_stage basis round_count (Some e) = tt

-- ---- the seat between two steps

-- the task that the worker has, and how the seat stands to it
pub record IsSeatedAs (s : SeatSeen) : Type 0 where
  pub round_count : RoundCount
  pub some : Option Engaged
  pub seated : IsSeated s round_count some

pub work_seated : (s : SeatSeen) (round_count : RoundCount) (search : Option Search) → IsAtWork (IsSeated s) round_count search
    → IsSeatedAs s
work_seated s round_count None h = record { round_count = round_count; some = None; seated = h }
work_seated s round_count (Some search) h = record { round_count = search.round_count; some = Some h.now; seated = h.at }

module _ {L : Type 0} (seen : L → LinkSeen) where
  -- ---- a server of its parts

  pub blank_server : (end : Option Served) (wire : Wire L)
      → stands_as end (seen wire.link) wire.orders Blank → is_server seen end None wire
  blank_server None wire h = h
  blank_server (Some end) wire h = h

  pub ended_server : (end : Option Served) (post : Option Post) (wire : Wire L)
      → has_ended end (seen wire.link) → is_server seen end post wire
  ended_server None post wire h = absurd h
  ended_server (Some end) post wire h = h

  busy_by : (end : Option Served) (post : Post) (wire : Wire L) → wire.end ≡ end
      → IsBusyAs seen wire post → is_server seen end (Some post) wire
  busy_by None post wire same h = h
  busy_by (Some end) post wire same h =
      let s = seat_seen seen wire post.kept in
      let w = work_seated s post.worker.round_count post.worker.search h in
      subst (λ (e : Option Served).
      stands_as e (seen wire.link) wire.orders (stage_of (basis_of post.kept) w.round_count w.some)) same w.seated.stands

  pub busy_server : (post : Post) (wire : Wire L) → IsBusyAs seen wire post
      → is_server seen wire.end (Some post) wire
  busy_server post wire h = busy_by wire.end post wire refl h

  -- ---- a step

  paced_by : (pace : Pace) (post : Post) (wire : Wire L)
      → HasPaced (IsSeated (seat_seen seen wire post.kept)) (IsOver (seat_seen seen wire post.kept))
      post.worker.round_count post.worker.search pace → is_server seen wire.end (Some post) wire
  paced_by pace.On post wire h = busy_server post wire h
  paced_by pace.Waits post wire (none, at) =
      busy_server post wire
      (subst (IsAtWork (IsSeated (seat_seen seen wire post.kept)) post.worker.round_count) (sym none) at)
  paced_by pace.Over post wire h = ended_server wire.end (Some post) wire h

  pub paced_server : (pace : Pace) (post : Post) (wire : Wire L)
      → HasPaced (IsSeated (seat_seen seen wire post.kept)) (IsOver (seat_seen seen wire post.kept))
      post.worker.round_count post.worker.search pace → is_server seen wire.end (Some post) wire
  paced_server pace post wire h = paced_by pace post wire h

  -- ---- what the link shows

  posted_on : (post : Option Post) (wire : Wire L) → wire.end ≡ None → is_posted seen post wire
      → (now : ServerState) × IsOn (seen wire.link) now
  posted_on None wire none h = (record { said = h.said; waiting = wire.orders; stage = Blank }, h.on)
  posted_on (Some post) wire none h =
      let w = work_seated (seat_seen seen wire post.kept) post.worker.round_count post.worker.search h in
      let stage = stage_of (basis_of post.kept) w.round_count w.some in
      let on : StandsOn (seen wire.link) wire.orders stage = subst (λ (e : Option Served).
      stands_as e (seen wire.link) wire.orders stage) none w.seated.stands in
      (record { said = on.said; waiting = wire.orders; stage = stage }, on.on)

  pub server_on : (post : Option Post) (wire : Wire L) → wire.end ≡ None
      → is_server seen wire.end post wire → (now : ServerState) × IsOn (seen wire.link) now
  server_on post wire none h =
      posted_on post wire none (subst (λ (e : Option Served). is_server seen e post wire) none h)

  pub server_served : (end : Served) (post : Option Post) (wire : Wire L) → wire.end ≡ Some end
      → is_server seen wire.end post wire → HasServed (seen wire.link) end
  server_served end post wire some h =
      subst (λ (e : Option Served). is_server seen e post wire) some h

  -- ---- a rest

  rested_by : (post : Option Post) (old new : Wire L)
      → ((stage : Stage) → IsOpen stage → stands_as old.end (seen old.link) old.orders stage
      → stands_as new.end (seen new.link) new.orders stage)
      → old.end ≡ None → is_posted seen post old → is_server seen new.end post new
  rested_by None old new heard none h =
      blank_server new.end new (heard Blank tt
      (subst (λ (e : Option Served). stands_as e (seen old.link) old.orders Blank) (sym none) h))
  rested_by (Some post) old new heard none h = busy_server post new (rested_work post.worker.round_count post.worker.search h)
    where
      again : (round_count : RoundCount) (some : Option Engaged) → IsSeated (seat_seen seen old post.kept) round_count some
          → IsSeated (seat_seen seen new post.kept) round_count some
      again round_count some s = record {
        gap = s.gap;
        agrees = s.agrees;
        stands = heard (stage_of (basis_of post.kept) round_count some) (open_stage (basis_of post.kept) round_count some) s.stands;
      }

      rested_work : (round_count : RoundCount) (search : Option Search)
          → IsAtWork (IsSeated (seat_seen seen old post.kept)) round_count search
          → IsAtWork (IsSeated (seat_seen seen new post.kept)) round_count search
      rested_work round_count None h = again round_count None h
      rested_work round_count (Some search) h = record {
        now = h.now;
        at = again search.round_count (Some h.now) h.at;
        since = h.since;
        due = h.due;
        racing = h.racing;
      }

  pub rested : (post : Option Post) (old new : Wire L)
      → ((stage : Stage) → IsOpen stage → stands_as old.end (seen old.link) old.orders stage
      → stands_as new.end (seen new.link) new.orders stage)
      → old.end ≡ None → is_server seen old.end post old → is_server seen new.end post new
  rested post old new heard none h =
      rested_by post old new heard none (subst (λ (e : Option Served). is_server seen e post old) none h)

-- ---- the same at another link that shows the same

-- the seat shows the same
same_seat : {L M : Type 0} (seen : L → LinkSeen) (other : M → LinkSeen) (v : Wire L) (w : Wire M) (k : Kept)
    → other w.link ≡ seen v.link → w.orders ≡ v.orders → w.at ≡ v.at → w.end ≡ v.end
    → seat_seen other w k ≡ seat_seen seen v k
same_seat seen other v w k link orders at end = λ i. record {
  end = end i;
  link = link i;
  waiting = orders i;
  at = at i;
  keeps = k;
}

same_by : {L M : Type 0} (seen : L → LinkSeen) (other : M → LinkSeen) (end : Option Served) (post : Option Post)
    (v : Wire L) (w : Wire M) → other w.link ≡ seen v.link → w.orders ≡ v.orders → w.at ≡ v.at → w.end ≡ v.end
    → is_server seen end post v → is_server other end post w
same_by seen other (Some served) post v w link orders at end h =
    subst (λ (s : LinkSeen). HasServed s served) (sym link) h
same_by seen other None None v w link orders at end h =
    subst (λ (o : Waiting). StandsOn (other w.link) o Blank) (sym orders)
    (subst (λ (s : LinkSeen). StandsOn s v.orders Blank) (sym link) h)
same_by seen other None (Some post) v w link orders at end h =
    subst (λ (s : SeatSeen). IsAtWork (IsSeated s) post.worker.round_count post.worker.search)
    (sym (same_seat seen other v w post.kept link orders at end)) h

pub same_server : {L M : Type 0} (seen : L → LinkSeen) (other : M → LinkSeen) (a : Server L) (b : Server M)
    → IsAlike seen other a b → IsServer seen a → IsServer other b
same_server seen other a b alike h =
    subst (λ (end : Option Served). is_server other end b.post b.wire) (sym alike.end)
    (subst (λ (post : Option Post). is_server other a.wire.end post b.wire) (sym alike.post)
    (same_by seen other a.wire.end a.post a.wire b.wire alike.link alike.orders alike.at alike.end h))

pub same_serving : (progress : Progress) (a b : LinkSeen) → b ≡ a → IsServing a progress → IsServing b progress
same_serving progress a b same h = subst (λ (s : LinkSeen). IsServing s progress) (sym same) h

-- ---- what a link shows that says what was said

front_on : (seen : LinkSeen) (now : ServerState) → IsOn seen now → IsFront seen now
front_on seen now on = record { come = on.come; said = said_front now seen.said on.said }

front_served : (seen : LinkSeen) (end : Served) → HasServed seen end → (now : ServerState) × IsFront seen now
front_served seen Ended h = (h.now, front_on seen h.now h.on)
front_served seen LinkFault h = (h.now, h.front)
front_served seen (BadFrame at) h = (h.now, front_on seen h.now h.on)
front_served seen Memory h = (h.now, h.front)

front_by : {L : Type 0} (seen : L → LinkSeen) (end : Option Served) (post : Option Post) (wire : Wire L)
    → wire.end ≡ end → is_server seen end post wire → (now : ServerState) × IsFront (seen wire.link) now
front_by seen None post wire same h =
    let on = posted_on seen post wire same h in (on.0, front_on (seen wire.link) on.0 on.1)
front_by seen (Some end) post wire same h = front_served (seen wire.link) end h

-- a worker's actions led to a standing, and its link shows that, or a part of a report more
pub server_front : {L : Type 0} (seen : L → LinkSeen) (server : Server L) → IsServer seen server
    → (now : ServerState) × IsFront (seen server.wire.link) now
server_front seen server h = front_by seen server.wire.end server.post server.wire refl h
