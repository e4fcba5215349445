use Rattle.ug_threads.proofs.Rooms.{worked_of}
use Rattle.ug_threads.proofs.together.closed.Goals as goal

pub returns-in-Ok : goal.returns-in-Ok
returns-in-Ok c =
    let opened = c.in-Ok.ensures.ok.opened c.args.opening.now (λ k p there. (c.requires.at k p there).opened) in
    c.of_opening.ensures c.args.opening.now opened
    (worked_of c.args.desk c.args.opening.now c.args.passes.items c.in-Ok.locked c.requires c.in-Ok.ensures.ok)
