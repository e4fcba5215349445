use Rattle.std.proofs.Common.{Bool, List, true, false, refl, subst, ◌<◌, ℕ, length, sym, ap, ◌∙◌}
use Rattle.std.specs.Prelude.{MatchBool}
use Rattle.ug_stream.specs.Streams.{Waiting}
use Rattle.ug_coord.specs.Actions.{Deciding, Reading, CoordinatorState}
use Rattle.ug_coord.specs.CoordinatorViews.{coordinator_seen}
use Rattle.ug_coord.specs.Coordinators.{CoordinatorSeen, IsBrokenOff, IsOnAs, IsOnIn, IsRested, MayRead, Phase, is_next}
use Rattle.ug_coord.specs.Reading.{AreReadBut, HasBroken, HasFed, HasGone, HasLacked}
use Rattle.ug_coord.proofs.Coursing.{any_in, broke_by, deciding_rests, fed_by, gone_by, lacked_by, reading_reads, reading_rests, stays_in}
use Rattle.ug_coord.proofs.ReadOut.{fed_but, lacked_but}
use Rattle.ug_coord.proofs.Whole.{as_long, broken_whole, fed_whole, gone_whole, lacked_whole, room_whole}
use Rattle.ug_coord.proofs.Counts.{hears_after, lost_quiet, quiet_none, quiet_on, quiet_one}
use Rattle.ug_coord.proofs.coordinator.Coordinator.turn.Goals as goal

pub read_rests : (result : Bool) (from : CoordinatorState) (h new : CoordinatorSeen)
    → MatchBool result
    ((b : CoordinatorState) → IsOnIn MayRead b h → IsOnIn (is_next Deciding) b new)
    ((phase : Phase) (b : CoordinatorState) → IsOnAs phase b h → IsOnAs phase b new)
    → IsOnIn (is_next Reading) from h → IsOnIn IsRested from new
read_rests true from h new goes on = deciding_rests from new (goes from (reading_reads from h on))
read_rests false from h new goes on =
    reading_rests from new (stays_in (is_next Reading) from h new (λ phase is. goes phase from is) on)

pub lose_all-requires : goal.lose_all-requires
lose_all-requires g c =
    let link_failed : HasBroken (g.C.Crew.seen c.args.self.now.crew) (g.C.Crew.seen c.take_turn.new.crew)
    c.args.self.now.streams.items c.take_turn.new.streams =
    subst (λ (l : List Waiting). HasBroken (g.C.Crew.seen c.args.self.now.crew)
    (g.C.Crew.seen c.take_turn.new.crew) l c.take_turn.new.streams) c.deref_mut.ensures.value
    c.in-Failed.ensures in record {
      on = (
        c.requires.on.0,
        broke_by c.requires.on.0 (coordinator_seen g.C.Crew.seen c.args.self.now) _ c.requires.settled.more
            c.requires.settled.told c.requires.read
            (broken_whole c.args.self.now.streams.len (g.C.Crew.seen c.args.self.now.crew)
            (g.C.Crew.seen c.take_turn.new.crew)
            c.args.self.now.streams.items c.take_turn.new.streams
            (as_long c.deref_mut.ensures.value c.deref_mut.ensures.len) link_failed) refl refl refl
            c.requires.on.1,
      );
    }

pub hear_next-requires-clause-on : goal.hear_next-requires-clause-on
hear_next-requires-clause-on g c κs within =
    let fed : HasFed (g.C.Crew.seen c.args.self.now.crew) (g.C.Crew.seen c.take_turn.new.crew)
    c.args.self.now.streams.items c.take_turn.new.streams c.in-Fed.rank =
    subst (λ (l : List Waiting). HasFed (g.C.Crew.seen c.args.self.now.crew)
    (g.C.Crew.seen c.take_turn.new.crew) l c.take_turn.new.streams c.in-Fed.rank) c.deref_mut.ensures.value
    c.in-Fed.ensures in (
      c.requires.on.0,
      any_in (is_next Reading) c.requires.on.0 _
          (fed_by c.requires.on.0 (coordinator_seen g.C.Crew.seen c.args.self.now) _ c.in-Fed.rank
          c.requires.settled.more c.requires.settled.told
          c.requires.read (fed_whole c.args.self.now.streams.len (g.C.Crew.seen c.args.self.now.crew) (g.C.Crew.seen c.take_turn.new.crew)
          c.args.self.now.streams.items c.take_turn.new.streams c.in-Fed.rank (as_long c.deref_mut.ensures.value c.deref_mut.ensures.len) fed) refl refl refl c.requires.on.1),
    )

pub returns-in-Fed-clause-on : goal.returns-in-Fed-clause-on
returns-in-Fed-clause-on g c from on =
    let fed : HasFed (g.C.Crew.seen c.args.self.now.crew) (g.C.Crew.seen c.take_turn.new.crew)
    c.args.self.now.streams.items c.take_turn.new.streams c.in-Fed.rank =
    subst (λ (l : List Waiting). HasFed (g.C.Crew.seen c.args.self.now.crew)
    (g.C.Crew.seen c.take_turn.new.crew) l c.take_turn.new.streams c.in-Fed.rank) c.deref_mut.ensures.value
    c.in-Fed.ensures in
    read_rests c.hear_next.result from _ (coordinator_seen g.C.Crew.seen c.hear_next.new.self) c.hear_next.ensures.on
    (fed_by from (coordinator_seen g.C.Crew.seen c.args.self.now) _ c.in-Fed.rank c.requires.settled.more
    c.requires.settled.told
    c.requires.read (fed_whole c.args.self.now.streams.len (g.C.Crew.seen c.args.self.now.crew) (g.C.Crew.seen c.take_turn.new.crew)
    c.args.self.now.streams.items c.take_turn.new.streams c.in-Fed.rank (as_long c.deref_mut.ensures.value c.deref_mut.ensures.len) fed) refl refl refl on)

pub returns-in-Gone-clause-on : goal.returns-in-Gone-clause-on
returns-in-Gone-clause-on g c from on =
    let gone : HasGone (g.C.Crew.seen c.args.self.now.crew) (g.C.Crew.seen c.take_turn.new.crew)
    c.args.self.now.streams.items c.take_turn.new.streams c.in-Gone.rank =
    subst (λ (l : List Waiting). HasGone (g.C.Crew.seen c.args.self.now.crew)
    (g.C.Crew.seen c.take_turn.new.crew) l c.take_turn.new.streams c.in-Gone.rank) c.deref_mut.ensures.value
    c.in-Gone.ensures in
    deciding_rests from _ (gone_by from (coordinator_seen g.C.Crew.seen c.args.self.now) _ c.in-Gone.rank
    c.requires.settled.more
    c.requires.settled.told c.requires.read
    (gone_whole c.args.self.now.streams.len (g.C.Crew.seen c.args.self.now.crew) (g.C.Crew.seen c.take_turn.new.crew)
    c.args.self.now.streams.items c.take_turn.new.streams c.in-Gone.rank (as_long c.deref_mut.ensures.value c.deref_mut.ensures.len) gone) c.gone.ensures.done
    c.gone.ensures.same.wide refl refl on)

pub returns-in-Failed-clause-on : goal.returns-in-Failed-clause-on
returns-in-Failed-clause-on g c from on =
    let link_failed : HasBroken (g.C.Crew.seen c.args.self.now.crew) (g.C.Crew.seen c.take_turn.new.crew)
    c.args.self.now.streams.items c.take_turn.new.streams =
    subst (λ (l : List Waiting). HasBroken (g.C.Crew.seen c.args.self.now.crew)
    (g.C.Crew.seen c.take_turn.new.crew) l c.take_turn.new.streams) c.deref_mut.ensures.value
    c.in-Failed.ensures in
    any_in IsBrokenOff from (coordinator_seen g.C.Crew.seen c.lose_all.new.self) (c.lose_all.ensures.on from
    (broke_by from (coordinator_seen g.C.Crew.seen c.args.self.now) _ c.requires.settled.more
    c.requires.settled.told c.requires.read
    (broken_whole c.args.self.now.streams.len (g.C.Crew.seen c.args.self.now.crew) (g.C.Crew.seen c.take_turn.new.crew)
    c.args.self.now.streams.items c.take_turn.new.streams (as_long c.deref_mut.ensures.value c.deref_mut.ensures.len) link_failed) refl refl refl on))

pub returns-in-Wanting-clause-on : goal.returns-in-Wanting-clause-on
returns-in-Wanting-clause-on g c from on =
    let lacked : HasLacked (g.C.Crew.seen c.args.self.now.crew) (g.C.Crew.seen c.take_turn.new.crew)
    c.args.self.now.streams.items c.take_turn.new.streams c.in-Wanting.rank =
    subst (λ (l : List Waiting). HasLacked (g.C.Crew.seen c.args.self.now.crew)
    (g.C.Crew.seen c.take_turn.new.crew) l c.take_turn.new.streams c.in-Wanting.rank) c.deref_mut.ensures.value
    c.in-Wanting.ensures in
    reading_rests from _ (lacked_by from (coordinator_seen g.C.Crew.seen c.args.self.now) _
    c.in-Wanting.rank c.requires.settled.more
    c.requires.settled.told c.requires.read (lacked_whole c.args.self.now.streams.len
    (g.C.Crew.seen c.args.self.now.crew) (g.C.Crew.seen c.take_turn.new.crew)
    c.args.self.now.streams.items c.take_turn.new.streams c.in-Wanting.rank (as_long c.deref_mut.ensures.value c.deref_mut.ensures.len) lacked) refl refl refl on)

pub returns-in-Gone-clause-hears : goal.returns-in-Gone-clause-hears
returns-in-Gone-clause-hears g c =
    quiet_one (coordinator_seen g.C.Crew.seen c.args.self.now) _
    (lost_quiet c.in-Gone.rank (coordinator_seen g.C.Crew.seen c.args.self.now) _ c.gone.ensures.same
    c.gone.ensures.done refl)

pub returns-in-Failed-clause-hears : goal.returns-in-Failed-clause-hears
returns-in-Failed-clause-hears g c =
    quiet_on (coordinator_seen g.C.Crew.seen c.args.self.now) _ (coordinator_seen g.C.Crew.seen c.lose_all.new.self)
    (quiet_none (coordinator_seen g.C.Crew.seen c.args.self.now) _ refl refl) c.lose_all.ensures.quiet

pub take_turn-requires-clause-room : goal.take_turn-requires-clause-room
take_turn-requires-clause-room g c =
    subst (λ (l : List ℕ). 0 < length l) (sym c.deref_mut-2.ensures.value) c.args.self.now.room

pub take_turn-requires-clause-fit : goal.take_turn-requires-clause-fit
take_turn-requires-clause-fit g c =
    c.requires.on.1.2.fit.lives ∙ sym c.requires.on.1.2.fit.streams
    ∙ ap (λ (l : List Waiting). length l) (sym c.deref_mut.ensures.value)

pub invariant_of-self : goal.invariant_of-self
invariant_of-self g c =
    let came : HasFed (g.C.Crew.seen c.args.self.now.crew) (g.C.Crew.seen c.take_turn.new.crew)
    c.args.self.now.streams.items c.take_turn.new.streams c.in-Fed.rank =
    subst (λ (l : List Waiting). HasFed (g.C.Crew.seen c.args.self.now.crew)
    (g.C.Crew.seen c.take_turn.new.crew) l c.take_turn.new.streams c.in-Fed.rank) c.deref_mut.ensures.value
    c.in-Fed.ensures in
    record {
      room = room_whole c.args.self.now.input c.deref_mut-2.result.now c.take_turn.new.buffer
          c.deref_mut-2.ensures.value
          c.deref_mut-2.ensures.len c.take_turn.auto.buffer c.args.self.now.room;
      read = fed_but _ _ c.args.self.now.streams.items _ c.in-Fed.rank
          (fed_whole c.args.self.now.streams.len (g.C.Crew.seen c.args.self.now.crew)
          (g.C.Crew.seen c.take_turn.new.crew) c.args.self.now.streams.items c.take_turn.new.streams c.in-Fed.rank
          (as_long c.deref_mut.ensures.value c.deref_mut.ensures.len) came)
          (subst (λ (n : ℕ). c.in-Fed.rank < n) (c.requires.on.1.2.fit.lives ∙ sym c.requires.on.1.2.fit.streams)
          c.in-Fed.ensures.alive.there) c.requires.read;
    }

pub invariant_of-self-in-Gone : goal.invariant_of-self-in-Gone
invariant_of-self-in-Gone g c =
    let came : HasGone (g.C.Crew.seen c.args.self.now.crew) (g.C.Crew.seen c.take_turn.new.crew)
    c.args.self.now.streams.items c.take_turn.new.streams c.in-Gone.rank =
    subst (λ (l : List Waiting). HasGone (g.C.Crew.seen c.args.self.now.crew)
    (g.C.Crew.seen c.take_turn.new.crew) l c.take_turn.new.streams c.in-Gone.rank) c.deref_mut.ensures.value
    c.in-Gone.ensures in
    let whole = (gone_whole c.args.self.now.streams.len (g.C.Crew.seen c.args.self.now.crew)
    (g.C.Crew.seen c.take_turn.new.crew) c.args.self.now.streams.items c.take_turn.new.streams c.in-Gone.rank
    (as_long c.deref_mut.ensures.value c.deref_mut.ensures.len) came) in
    record {
      room = room_whole c.args.self.now.input c.deref_mut-2.result.now c.take_turn.new.buffer
          c.deref_mut-2.ensures.value
          c.deref_mut-2.ensures.len c.take_turn.auto.buffer c.args.self.now.room;
      read = subst (AreReadBut c.args.self.now.last) (sym whole.streams) c.args.self.now.read;
    }

pub invariant_of-self-in-Failed : goal.invariant_of-self-in-Failed
invariant_of-self-in-Failed g c =
    let came : HasBroken (g.C.Crew.seen c.args.self.now.crew) (g.C.Crew.seen c.take_turn.new.crew)
    c.args.self.now.streams.items c.take_turn.new.streams =
    subst (λ (l : List Waiting). HasBroken (g.C.Crew.seen c.args.self.now.crew)
    (g.C.Crew.seen c.take_turn.new.crew) l c.take_turn.new.streams) c.deref_mut.ensures.value
    c.in-Failed.ensures in
    let whole = (broken_whole c.args.self.now.streams.len (g.C.Crew.seen c.args.self.now.crew)
    (g.C.Crew.seen c.take_turn.new.crew) c.args.self.now.streams.items c.take_turn.new.streams
    (as_long c.deref_mut.ensures.value c.deref_mut.ensures.len) came) in
    record {
      room = room_whole c.args.self.now.input c.deref_mut-2.result.now c.take_turn.new.buffer
          c.deref_mut-2.ensures.value
          c.deref_mut-2.ensures.len c.take_turn.auto.buffer c.args.self.now.room;
      read = subst (AreReadBut c.args.self.now.last) (sym whole.streams) c.args.self.now.read;
    }

pub invariant_of-self-in-Wanting : goal.invariant_of-self-in-Wanting
invariant_of-self-in-Wanting g c =
    let came : HasLacked (g.C.Crew.seen c.args.self.now.crew) (g.C.Crew.seen c.take_turn.new.crew)
    c.args.self.now.streams.items c.take_turn.new.streams c.in-Wanting.rank =
    subst (λ (l : List Waiting). HasLacked (g.C.Crew.seen c.args.self.now.crew)
    (g.C.Crew.seen c.take_turn.new.crew) l c.take_turn.new.streams c.in-Wanting.rank) c.deref_mut.ensures.value
    c.in-Wanting.ensures in
    let whole = (lacked_whole c.args.self.now.streams.len (g.C.Crew.seen c.args.self.now.crew)
    (g.C.Crew.seen c.take_turn.new.crew) c.args.self.now.streams.items c.take_turn.new.streams c.in-Wanting.rank
    (as_long c.deref_mut.ensures.value c.deref_mut.ensures.len) came) in
    record {
      room = room_whole c.args.self.now.input c.deref_mut-2.result.now c.take_turn.new.buffer
          c.deref_mut-2.ensures.value
          c.deref_mut-2.ensures.len c.take_turn.auto.buffer c.args.self.now.room;
      read = lacked_but _ _ c.args.self.now.last c.args.self.now.streams.items _ c.in-Wanting.rank whole
          (subst (λ (n : ℕ). c.in-Wanting.rank < n) (c.requires.on.1.2.fit.lives ∙ sym c.requires.on.1.2.fit.streams)
          c.in-Wanting.ensures.alive.there) c.requires.read c.args.self.now.read;
    }

pub gone-requires : goal.gone-requires
gone-requires g c =
    subst (λ (n : ℕ). c.in-Gone.rank < n) c.requires.on.1.2.fit.lives
    c.in-Gone.ensures.lost.alive.there

pub returns-in-Fed-clause-hears : goal.returns-in-Fed-clause-hears
returns-in-Fed-clause-hears g c =
    hears_after (coordinator_seen g.C.Crew.seen c.args.self.now) _
    (coordinator_seen g.C.Crew.seen c.hear_next.new.self)
    (quiet_none (coordinator_seen g.C.Crew.seen c.args.self.now) _ refl refl) c.hear_next.ensures.hears

pub returns-in-Wanting-clause-hears : goal.returns-in-Wanting-clause-hears
returns-in-Wanting-clause-hears g c =
    quiet_one (coordinator_seen g.C.Crew.seen c.args.self.now) _
    (quiet_none (coordinator_seen g.C.Crew.seen c.args.self.now) _ refl refl)

pub hear_next-requires-clause-last : goal.hear_next-requires-clause-last
hear_next-requires-clause-last g c κs within = record {
  there = subst (λ (n : ℕ). c.in-Fed.rank < n) c.requires.on.1.2.fit.lives
      c.in-Fed.ensures.alive.there;
  came = refl;
}

pub hear_next-requires-clause-settled : goal.hear_next-requires-clause-settled
hear_next-requires-clause-settled g c κs within = c.requires.settled
