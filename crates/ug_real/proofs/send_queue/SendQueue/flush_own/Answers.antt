use Rattle.std.proofs.Common.{ap, take, sym, subst, ◌∙◌, ◌++◌}
use Rattle.std.specs.Io.KnownBytes.{Appends}
use Rattle.ug_real.specs.SendQueues.{own_waiting}
use Rattle.ug_real.proofs.Writing.{left_whole, waiting_own}
use Rattle.ug_real.proofs.send_queue.SendQueue.flush_own.Goals as goal

pub returns-in-Ok : goal.returns-in-Ok
returns-in-Ok g c =
    let box = c.args.self.now in
    let new = c.forget.new.self in
    let n = c.in-Ok.n in
    let from = g.W.Write.contents c.args.to.now in
    let to = g.W.Write.contents c.write_out.new.to in
    record {
      ok = record {
        gone = take n (own_waiting box);
        whole = waiting_own box c.requires ∙ (left_whole box.sent n box.bytes.items
            ∙ ap (λ l. take n (own_waiting box) ++ l)
            (sym (waiting_own new (c.forget.ensures.ahead ∙ c.requires) ∙ c.forget.ensures.waiting)));
        written = subst (λ l. Appends from to (take n l)) c.rest.ensures c.in-Ok.ensures.written;
      };
    }
