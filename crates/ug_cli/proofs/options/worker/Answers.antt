use Rattle.std.proofs.Common.{codes}
use Rattle.clap.specs.Words.{app_of, new_app}
use Rattle.ug_cli.proofs.Added.{by_rule}
use Rattle.ug_cli.proofs.options.worker.Goals as goal

pub returns-clause-app : goal.returns-clause-app
returns-clause-app c =
    by_rule app_of _ (new_app (codes "worker")) _ _ c.demanded.ensures.rule (c.add.ensures.app _ c.new.ensures.app)
