use Rattle.std.proofs.Common.{refl, ap}
use Rattle.ug_frames.specs.declared.report.Report.TheVariants.{Ready, State as Reported, Done}
use Rattle.ug_pool.specs.Pools.{Pooled}
use Rattle.ug_stock.specs.Queues.{Queued}
use Rattle.ug_book.proofs.Taken.{room_taken}
use Rattle.ug_book.proofs.report.take_report.Goals as goal

pub returns-in-Ready-clause-room : goal.returns-in-Ready-clause-room
returns-in-Ready-clause-room c = λ b.
    let old = c.args.frontier.now in
    let new = record old { ranks = c.hear_ready.new.ranks } in
    room_taken b old new c.hear_ready.result c.args.rank Ready c.requires.can.there
    (c.hear_ready.ensures.ranks (record b {
      pool = old.pool.entries;
      raced = old.raced;
      last = old.last;
      orders = old.orders.orders;
      announced = old.announced;
    })) refl refl c.requires.can.room

pub returns-in-State-clause-room : goal.returns-in-State-clause-room
returns-in-State-clause-room c = λ b.
    let old = c.args.frontier.now in
    let new = record old { ranks = c.hear_state.new.ranks } in
    room_taken b old new c.hear_state.result c.args.rank
    (Reported c.in-State.ticket c.in-State.«open» _) c.requires.can.there
    (c.hear_state.ensures.taken (record b {
      pool = old.pool.entries;
      raced = old.raced;
      last = old.last;
      orders = old.orders.orders;
      announced = old.announced;
    })) refl refl c.requires.can.room

pub returns-in-Done-clause-room : goal.returns-in-Done-clause-room
returns-in-Done-clause-room c = λ b.
    room_taken b c.args.frontier.now c.hear_done.new.frontier c.hear_done.result c.args.rank
    (Done c.in-Done.ticket c.in-Done.cutoff c.in-Done.count c.in-Done._end) c.requires.can.there
    (c.hear_done.ensures.taken b c.in-Done._end)
    (ap (λ (p : Pooled). p.spare) c.hear_done.ensures.pool)
    (ap (λ (q : Queued). q.spare) c.hear_done.ensures.orders) c.requires.can.room
