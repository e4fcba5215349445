use Rattle.std.proofs.Common.{codes}
use Rattle.clap.specs.Words.{app_of, new_app, with_rule}
use Rattle.ug_cli.specs.Options.{demanded, positional, ranks_rules, with_rules}
use Rattle.ug_cli.proofs.Added.{by_rule}
use Rattle.ug_cli.proofs.options.restart.Goals as goal

pub returns-clause-app : goal.returns-clause-app
returns-clause-app c =
    let none = new_app (codes "restart") in
    let file = with_rule none (positional (codes "file")) in
    let folder = with_rule file (demanded (codes "checkpoint")) in
    let one = by_rule app_of _ none _ _ c.positional.ensures.rule (c.add-command.ensures.app none c.new.ensures.app) in
    let two = by_rule app_of _ file _ _ c.demanded.ensures.rule (c.add-command-2.ensures.app file one) in
    c.with_bounds.ensures.app (with_rules folder ranks_rules) (c.with_ranks.ensures.app folder two)
