use Rattle.ug_cli.proofs.options.command.Goals as goal

pub returns : goal.returns
returns c =
    let one = c.with-program.ensures _ _ c.bare.ensures c.solve.ensures.app in
    let two = c.with-program-2.ensures _ _ one c.restart.ensures.app in
    let three = c.with-program-3.ensures _ _ two c.worker.ensures.app in
    let four = c.with-program-4.ensures _ _ three c.show.ensures.app in
    c.with.ensures _ _ four c.generate.ensures.app
