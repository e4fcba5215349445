use Rattle.std.proofs.Common.{ℕ, List, inr, refl, subst}
use Rattle.ug_io.specs.Outside.{TakesFront}
use Rattle.ug_top.proofs.running.tell.Goals as goal

pub returns-in-Err : goal.returns-in-Err
returns-in-Err g c = inr (record {
  is = refl;
  front = subst (λ (t : List ℕ). TakesFront (g.K.Sink.seen c.args.out.now).written
      (g.K.Sink.seen c.write_all.new.out).written t) c.text.ensures c.in-Err.ensures.front;
  fault = c.in-Err.ensures.cause;
})
