use Rattle.ug_threads.proofs.Traces.{stayed_copy, stayed_not, stayed_then}
use Rattle.ug_threads.proofs.desk_seat.progress.Goals as goal

pub returns-in_err-ok : goal.returns-in_err-ok
returns-in_err-ok g c =
    stayed_then c.args.pass.now c.bound-held.new.pass c.snapshot.new.pass
    (stayed_not c.bound-held.ensures.0 c.args.pass.now c.bound-held.new.pass c.bound-held.ensures.1)
    (stayed_copy c.snapshot.result c.bound-held.new.pass c.snapshot.new.pass c.snapshot.ensures.ok
    c.snapshot.ensures.err)

pub returns : goal.returns
returns g c =
    stayed_then c.args.pass.now c.bound-held.new.pass c.snapshot.new.pass
    (stayed_not c.bound-held.ensures.0 c.args.pass.now c.bound-held.new.pass c.bound-held.ensures.1)
    (stayed_copy c.snapshot.result c.bound-held.new.pass c.snapshot.new.pass c.snapshot.ensures.ok
    c.snapshot.ensures.err)
