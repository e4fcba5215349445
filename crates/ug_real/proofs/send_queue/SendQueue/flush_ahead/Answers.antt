use Rattle.std.proofs.Common.{take, subst}
use Rattle.std.specs.Io.KnownBytes.{Appends}
use Rattle.ug_real.specs.SendQueues.{own_waiting, rest_of}
use Rattle.ug_real.proofs.Writing.{ahead_whole}
use Rattle.ug_real.proofs.send_queue.SendQueue.flush_ahead.Goals as goal

pub returns-in-Ok-clause-ok : goal.returns-in-Ok-clause-ok
returns-in-Ok-clause-ok g c =
    let box = c.args.self.now in
    let new = c.forget_ahead.new.self in
    let n = c.in-Ok.n in
    let from = g.W.Write.contents c.args.to.now in
    let to = g.W.Write.contents c.write_out.new.to in
    record {
      gone = take n (rest_of box.ahead box.gone);
      whole = ahead_whole n (rest_of box.ahead box.gone) (rest_of new.ahead new.gone) (own_waiting box)
          (own_waiting new) c.forget_ahead.ensures.rest c.forget_ahead.ensures.own;
      written = subst (λ l. Appends from to (take n l)) c.rest_ahead.ensures c.in-Ok.ensures.written;
    }
