use Rattle.std.proofs.Common.{◌∙◌}
use Rattle.ug_restart.proofs.Firsts.{next_saver}
use Rattle.ug_restart.proofs.Goings.{kept_makes}
use Rattle.ug_restart.proofs.books.next_start.Goals as goal

pub returns-in-Ok-into_counted-clause-made : goal.returns-in-Ok-into_counted-clause-made
returns-in-Ok-into_counted-clause-made c =
    kept_makes c.args.problem c.in-Ok-into_counted.problem c.args.found c.in-Ok.run'
    c.in-Ok-kept_of.kept.best c.in-Ok-kept_of.kept.boxes c.args.settings c.new-saver.result
    c.in-Ok-into_counted.ensures c.in-Ok.ensures.run c.in-Ok-kept_of.ensures.best
    c.in-Ok-kept_of.ensures.boxes c.requires.image c.requires.settings
    (c.in-Ok.ensures.may.problem ∙ c.problem.ensures.value) c.in-Ok.ensures.may.gap
    (next_saver c.args.found c.new-saver.result c.new-saver.ensures.sequence c.new-saver.ensures.last
    c.new-saver.ensures.kept c.in-Ok.ensures.may.room)
