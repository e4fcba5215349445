use Rattle.std.proofs.Common.{refl, rules, ◌∙◌, ◌<◌, ℕ, List, length, Option, sym, ap, subst}
use Rattle.ug_stream.specs.declared.next.Next.TheVariants.{BadFrame, Message, NeedMore}
use Rattle.ug_coord.specs.CoordinatorViews.{coordinator_seen}
use Rattle.ug_coord.specs.Reading.{AreReadBut, HasRead}
use Rattle.ug_coord.proofs.Coursing.{nonsense_by, still_by, took_by, unread_by}
use Rattle.ug_coord.proofs.ReadOut.{bad_out, but_none, short_out, took_but}
use Rattle.ug_coord.proofs.Whole.{as_long, lent, read_whole, same_whole}
use Rattle.std.proofs.lemmas.Bool.{false≢true}
use Rattle.ug_stream.specs.Streams.{Waiting}
use Rattle.ug_coord.proofs.Counts.{hears_after, quiet_none, quiet_on, quiet_one}
use Rattle.ug_coord.proofs.coordinator.Coordinator.hear_next.Goals as goal

pub returns-in-Ok-Message-clause-on : goal.returns-in-Ok-Message-clause-on
returns-in-Ok-Message-clause-on g c from on =
    let read : HasRead c.args.self.now.streams.items c.next_of.new.streams c.args.rank
    (Message c.in-Ok-Message.report) = search rules in
    took_by from (coordinator_seen g.C.Crew.seen c.args.self.now) _ (coordinator_seen g.C.Crew.seen c.hear.new.self) c.args.rank
    c.in-Ok-Message.report c.requires.settled.more c.requires.settled.told
    (read_whole c.args.self.now.streams.len c.args.self.now.streams.items c.next_of.new.streams c.args.rank _
    (as_long c.deref_mut.ensures.value c.deref_mut.ensures.len) read)
    refl c.hear.ensures.heard on

pub returns-in-Ok-NeedMore-clause-on : goal.returns-in-Ok-NeedMore-clause-on
returns-in-Ok-NeedMore-clause-on g c phase from on =
    let read : HasRead c.args.self.now.streams.items c.next_of.new.streams c.args.rank NeedMore = search rules in
    still_by phase from (coordinator_seen g.C.Crew.seen c.args.self.now) _ c.args.rank
    (read_whole c.args.self.now.streams.len c.args.self.now.streams.items c.next_of.new.streams c.args.rank _
    (as_long c.deref_mut.ensures.value c.deref_mut.ensures.len) read) refl on

pub returns-in-Ok-BadFrame-clause-on : goal.returns-in-Ok-BadFrame-clause-on
returns-in-Ok-BadFrame-clause-on g c from on =
    let read : HasRead c.args.self.now.streams.items c.next_of.new.streams c.args.rank
    (BadFrame c.in-Ok-BadFrame.field-0-0) = search rules in
    nonsense_by from (coordinator_seen g.C.Crew.seen c.args.self.now) _ (coordinator_seen g.C.Crew.seen c.lose.new.self) c.args.rank
    c.in-Ok-BadFrame.field-0-0 c.requires.settled.more c.requires.settled.told
    (read_whole c.args.self.now.streams.len c.args.self.now.streams.items c.next_of.new.streams c.args.rank _
    (as_long c.deref_mut.ensures.value c.deref_mut.ensures.len) read)
    refl c.lose.ensures.seen c.lose.ensures.quiet.run.wide c.requires.last.there on

pub returns-in-Err-clause-on : goal.returns-in-Err-clause-on
returns-in-Err-clause-on g c from on =
    unread_by from (coordinator_seen g.C.Crew.seen c.args.self.now) _ c.requires.settled.more
    c.requires.settled.told refl
    (same_whole c.args.self.now.streams.len c.args.self.now.streams.items c.next_of.new.streams
    (as_long c.deref_mut.ensures.value c.deref_mut.ensures.len) (c.in-Err.ensures.err ∙ c.deref_mut.ensures.value)) on

pub next_of-requires : goal.next_of-requires
next_of-requires g c =
    subst (λ (n : ℕ). c.args.rank < n) (sym c.requires.on.1.2.fit.streams
    ∙ ap (λ (l : List Waiting). length l) (sym c.deref_mut.ensures.value)) c.requires.last.there

pub invariant_of-self : goal.invariant_of-self
invariant_of-self g c =
    let read : HasRead c.args.self.now.streams.items c.next_of.new.streams c.args.rank
    (Message c.in-Ok-Message.report) = search rules in
    let whole = read_whole c.args.self.now.streams.len c.args.self.now.streams.items c.next_of.new.streams c.args.rank _
    (as_long c.deref_mut.ensures.value c.deref_mut.ensures.len) read in
    record {
      room = c.args.self.now.room;
      read = subst (λ (last : Option ℕ). AreReadBut last
          (lent c.args.self.now.streams.len c.args.self.now.streams.items c.next_of.new.streams))
          (sym c.requires.last.came)
          (took_but c.args.self.now.streams.items _ c.args.rank whole.stream whole.set
          (subst (λ (last : Option ℕ). AreReadBut last c.args.self.now.streams.items)
          c.requires.last.came
          c.args.self.now.read));
    }

pub invariant_of-self-in-Ok-NeedMore : goal.invariant_of-self-in-Ok-NeedMore
invariant_of-self-in-Ok-NeedMore g c =
    let read : HasRead c.args.self.now.streams.items c.next_of.new.streams c.args.rank NeedMore = search rules in
    let all = short_out c.args.self.now.streams.items _ c.args.rank
    (read_whole c.args.self.now.streams.len c.args.self.now.streams.items c.next_of.new.streams c.args.rank _
    (as_long c.deref_mut.ensures.value c.deref_mut.ensures.len) read)
    (subst (λ (last : Option ℕ). AreReadBut last c.args.self.now.streams.items) c.requires.last.came
    c.args.self.now.read) in
    record { room = c.args.self.now.room; read = but_none _ all }

pub invariant_of-self-in-Ok-BadFrame : goal.invariant_of-self-in-Ok-BadFrame
invariant_of-self-in-Ok-BadFrame g c =
    let read : HasRead c.args.self.now.streams.items c.next_of.new.streams c.args.rank
    (BadFrame c.in-Ok-BadFrame.field-0-0) = search rules in
    let all = bad_out c.args.self.now.streams.items _ c.args.rank c.in-Ok-BadFrame.field-0-0
    (read_whole c.args.self.now.streams.len c.args.self.now.streams.items c.next_of.new.streams c.args.rank _
    (as_long c.deref_mut.ensures.value c.deref_mut.ensures.len) read)
    (subst (λ (last : Option ℕ). AreReadBut last c.args.self.now.streams.items) c.requires.last.came
    c.args.self.now.read) in
    record { room = c.args.self.now.room; read = but_none _ all }

pub invariant_of-self-in-Err : goal.invariant_of-self-in-Err
invariant_of-self-in-Err g c = record {
  room = c.args.self.now.room;
  read = subst (AreReadBut c.args.self.now.last)
      (sym (same_whole c.args.self.now.streams.len c.args.self.now.streams.items c.next_of.new.streams
      (as_long c.deref_mut.ensures.value c.deref_mut.ensures.len) (c.in-Err.ensures.err ∙ c.deref_mut.ensures.value)))
      c.args.self.now.read;
}

pub hear-requires-clause-there : goal.hear-requires-clause-there
hear-requires-clause-there g c κs within = c.requires.last.there

pub returns-in-Ok-Message-clause-hears : goal.returns-in-Ok-Message-clause-hears
returns-in-Ok-Message-clause-hears g c =
    hears_after (coordinator_seen g.C.Crew.seen c.args.self.now) _ (coordinator_seen g.C.Crew.seen c.hear.new.self)
    (quiet_none (coordinator_seen g.C.Crew.seen c.args.self.now) _ refl refl) c.hear.ensures.hears

pub returns-in-Ok-NeedMore-clause-hears : goal.returns-in-Ok-NeedMore-clause-hears
returns-in-Ok-NeedMore-clause-hears g c =
    quiet_one (coordinator_seen g.C.Crew.seen c.args.self.now) _
    (quiet_none (coordinator_seen g.C.Crew.seen c.args.self.now) _ refl refl)

pub returns-in-Ok-BadFrame-clause-hears : goal.returns-in-Ok-BadFrame-clause-hears
returns-in-Ok-BadFrame-clause-hears g c =
    quiet_one (coordinator_seen g.C.Crew.seen c.args.self.now) _
    (quiet_on (coordinator_seen g.C.Crew.seen c.args.self.now) _ (coordinator_seen g.C.Crew.seen c.lose.new.self)
    (quiet_none (coordinator_seen g.C.Crew.seen c.args.self.now) _ refl refl) c.lose.ensures.quiet)

pub returns-in-Err-clause-hears : goal.returns-in-Err-clause-hears
returns-in-Err-clause-hears g c =
    quiet_one (coordinator_seen g.C.Crew.seen c.args.self.now) _
    (quiet_none (coordinator_seen g.C.Crew.seen c.args.self.now) _ refl refl)

pub returns-in-Ok-Message-clause-read : goal.returns-in-Ok-Message-clause-read
returns-in-Ok-Message-clause-read g c same = absurd (false≢true (sym same))

pub returns-in-Ok-NeedMore-clause-read : goal.returns-in-Ok-NeedMore-clause-read
returns-in-Ok-NeedMore-clause-read g c same =
    let read : HasRead c.args.self.now.streams.items c.next_of.new.streams c.args.rank NeedMore = search rules in
    let whole = read_whole c.args.self.now.streams.len c.args.self.now.streams.items
    c.next_of.new.streams c.args.rank _
    (as_long c.deref_mut.ensures.value c.deref_mut.ensures.len) read in
    record {
      short = whole;
      read = short_out c.args.self.now.streams.items _ c.args.rank whole
          (subst (λ (last : Option ℕ). AreReadBut last c.args.self.now.streams.items)
          c.requires.last.came c.args.self.now.read);
      nothing = refl;
    }

pub returns-in-Ok-BadFrame-clause-read : goal.returns-in-Ok-BadFrame-clause-read
returns-in-Ok-BadFrame-clause-read g c same = absurd (false≢true (sym same))

pub returns-in-Err-clause-read : goal.returns-in-Err-clause-read
returns-in-Err-clause-read g c same = absurd (false≢true (sym same))
