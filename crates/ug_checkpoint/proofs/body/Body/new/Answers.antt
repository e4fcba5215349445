use Rattle.ug_checkpoint.proofs.Giving.{given_all}
use Rattle.ug_checkpoint.proofs.body.Body.new.Goals as goal

pub returns-clause-rest : goal.returns-clause-rest
returns-clause-rest c =
    given_all c.args.image.now c.in_ok-blocks.blocks c.length.result c.requires.fits
    c.length.ensures c.in_ok-blocks.ensures
