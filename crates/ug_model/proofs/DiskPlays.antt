-- A schedule that is played is a trace of events.
use Rattle.std.proofs.Common.{◌≡◌, ℕ, ◌+◌, List, [], ◌∷◌, ◌++◌, length, take, Option, None, Some, refl, sym, ap, subst}
use Rattle.std.specs.Prelude.{All, slice_get}
use Rattle.ug_rules.specs.Books.{IsSoundBook}
use Rattle.ug_disk.specs.Histories.{History}
use Rattle.ug_disk.specs.Crashes.{Leaves}
use Rattle.ug_snapshot.specs.Moments.{IsCovered}
use Rattle.ug_restart.specs.Moments.{FindsIn}
use Rattle.ug_laws.specs.declared.event.Event.{Event}
use Rattle.ug_laws.proofs.Traces.{loses_nothing}
use Rattle.ug_model.proofs.Leaves.{left_sound}
use Rattle.ug_laws.specs.declared.disk_event.DiskEvent.{DiskEvent}
use Rattle.ug_laws.specs.declared.disk_event.DiskEvent.TheVariants.{World as InWorld, Note, Save, Crash, Stop}
use Rattle.ug_model.specs.declared.halt.Halted.{Halted}
use Rattle.ug_model.specs.declared.halt.Halted.TheVariants.{NoSuch, NoRank, NotAllowed, Refused, Memory}
use Rattle.ug_model.specs.declared.disk_schedule.PlayedDisk.{PlayedDisk}
use Rattle.ug_laws.specs.Machines.{DiskWorld, HappensOnDisk, IsAble, IsDiskTrace, disk_end_of, last_left}
use Rattle.ug_model.specs.DiskHalts.{IsNotLeft, IsOutOfWorld, IsStill}
use Rattle.ug_laws.specs.DiskLaws.{HasBegun, IsHonestOnDisk}
use Rattle.ug_model.specs.DiskPlays.{Reaches, IsHaltedAt, IsLeftOf, NothingIsLost}
use Rattle.ug_laws.proofs.DiskLaws.{Holds, begun_holds, trace_holds}

-- the events happened, and what stands may continue
pub record IsOnTheWay (start : DiskWorld) (events : List DiskEvent) (done : ℕ) (w : DiskWorld)
    : Type 0 where
  pub come : Reaches start events done w
  pub able : IsAble w

pub at_start : (start : DiskWorld) (events : List DiskEvent) → IsAble start
    → IsOnTheWay start events 0 start
at_start start events able = record {
  come = record { trace = []; happened = tt; ends = refl };
  able = able;
}

trace_more : (old new : DiskWorld) (events : List DiskEvent) (event : DiskEvent)
    (trace : List DiskWorld) → IsDiskTrace old events trace
    → HappensOnDisk (disk_end_of old trace) event new
    → IsDiskTrace old (events ++ event ∷ []) (trace ++ new ∷ [])
trace_more old new [] event [] t h = (h, tt)
trace_more old new (first ∷ events) event (next ∷ trace) t h =
    (t.0, trace_more next new events event trace t.1 h)
trace_more old new [] event (next ∷ trace) t h = absurd t
trace_more old new (first ∷ events) event [] t h = absurd t

end_more : (old new : DiskWorld) (trace : List DiskWorld)
    → disk_end_of old (trace ++ new ∷ []) ≡ new
end_more old new [] = refl
end_more old new (next ∷ trace) = end_more next new trace

pub one_more : (start old new : DiskWorld) (events : List DiskEvent) (done : ℕ)
    (event : DiskEvent) → IsOnTheWay start events done old → HappensOnDisk old event new
    → IsAble new → take (done + 1) events ≡ take done events ++ event ∷ []
    → IsOnTheWay start events (done + 1) new
one_more start old new events done event t h able more = record {
  come = record {
    trace = t.come.trace ++ new ∷ [];
    happened = subst (λ es. IsDiskTrace start es (t.come.trace ++ new ∷ [])) (sym more)
        (trace_more start new (take done events) event t.come.trace t.come.happened
        (subst (λ w. HappensOnDisk w event new) (sym t.come.ends) h));
    ends = end_more start new t.come.trace;
  };
  able = able;
}

-- ---- the rest

come_holds : (start w : DiskWorld) (events : List DiskEvent) (done : ℕ) → HasBegun start
    → (come : Reaches start events done w) → All IsHonestOnDisk come.trace
    → Holds (last_left start.told (take done events)) w
come_holds start w events done begins come honest =
    subst (Holds (last_left start.told (take done events))) come.ends
    (trace_holds start.told start (take done events) come.trace come.happened honest
    (begun_holds start begins))

-- no better point is lost by these, since then
pub record Stays (since : History) (w new : DiskWorld) : Type 0 where
  pub sound : w.refused ≡ None → IsSoundBook new.world.book
  pub each : Leaves (FindsIn IsCovered) (Some since) (Some new.told)

left_lost : (since : History) (w new : DiskWorld) (left : PlayedDisk) → IsLeftOf new left
    → Stays since w new → NothingIsLost since w left
left_lost since w new left is t = record {
  book = λ goes_on. loses_nothing left.book (subst IsSoundBook (sym is.book) (t.sound goes_on));
  disk = subst (λ h. Leaves (FindsIn IsCovered) (Some since) (Some h)) (sym is.disk) t.each;
}

stays : (since : History) (w : DiskWorld) → Holds since w → Stays since w w
stays since w h = record { sound = λ goes_on. (h.runs goes_on).holds.sound; each = h.each }

pub played_lost : (start w : DiskWorld) (events : List DiskEvent) (left : PlayedDisk)
    → HasBegun start → (come : Reaches start events (length events) w)
    → All IsHonestOnDisk come.trace → IsLeftOf w left
    → NothingIsLost (last_left start.told (take (length events) events)) w left
played_lost start w events left begins come honest is =
    let since = last_left start.told (take (length events) events) in
    left_lost since w w left is
    (stays since w (come_holds start w events (length events) begins come honest))

-- if nothing changed
same_lost : (since : History) (w new : DiskWorld) → new ≡ w → Holds since w → Stays since w new
same_lost since w new same h = subst (Stays since w) (sym same) (stays since w h)

still_lost : (since : History) (w new : DiskWorld) (why : Halted) → IsStill w new why
    → Holds since w → Stays since w new
still_lost since w new (NoSuch place) t h = absurd t
still_lost since w new (NoRank rank) t h = absurd t
still_lost since w new (NotAllowed slot) t h = absurd t
still_lost since w new (Refused fault) t h = same_lost since w new t.1 h
still_lost since w new Memory t h = same_lost since w new t h

world_lost : (since : History) (event : Event) (w new : DiskWorld) (why : Halted)
    → IsOutOfWorld event w new why → Holds since w → Stays since w new
world_lost since event w new (NoSuch place) t h = same_lost since w new t.1 h
world_lost since event w new (NoRank rank) t h = same_lost since w new t.2 h
world_lost since event w new (NotAllowed slot) t h = absurd t
world_lost since event w new (Refused fault) t h = same_lost since w new t.1 h
world_lost since event w new Memory t h = record {
  sound = λ goes_on. left_sound (Some event) w.world.book new.world.book
      (h.runs goes_on).holds.book (h.runs goes_on).holds.sound t.0;
  each = subst (λ k. Leaves (FindsIn IsCovered) (Some since) (Some k))
      (sym (ap (λ (v : DiskWorld). v.told) t.1)) h.each;
}

crash_lost : (since : History) (zero one : List ℕ) (w new : DiskWorld) (why : Halted)
    → IsNotLeft zero one w new why → Holds since w → Stays since w new
crash_lost since zero one w new (NoSuch place) t h = absurd t
crash_lost since zero one w new (NoRank rank) t h = absurd t
crash_lost since zero one w new (NotAllowed slot) t h = same_lost since w new t.1 h
crash_lost since zero one w new (Refused fault) t h = absurd t
crash_lost since zero one w new Memory t h = same_lost since w new t h

halted_lost : (since : History) (next : Option DiskEvent) (w new : DiskWorld) (why : Halted)
    → IsHaltedAt next w new why → Holds since w → Stays since w new
halted_lost since None w new why t h = same_lost since w new t.1 h
halted_lost since (Some (InWorld event)) w new why t h = world_lost since event w new why t h
halted_lost since (Some Note) w new why t h = still_lost since w new why t h
halted_lost since (Some Save) w new why t h = still_lost since w new why t h
halted_lost since (Some (Crash zero one settings)) w new why t h =
    crash_lost since zero.items one.items w new why t h
halted_lost since (Some (Stop settings)) w new why t h = absurd t

pub stopped_lost : (start w new : DiskWorld) (events : List DiskEvent) (done : ℕ) (why : Halted)
    (left : PlayedDisk) → HasBegun start → (come : Reaches start events done w)
    → All IsHonestOnDisk come.trace → IsHaltedAt (slice_get events done) w new why
    → IsLeftOf new left → NothingIsLost (last_left start.told (take done events)) w left
stopped_lost start w new events done why left begins come honest halted is =
    let since = last_left start.told (take done events) in
    left_lost since w new left is
    (halted_lost since (slice_get events done) w new why halted
    (come_holds start w events done begins come honest))
