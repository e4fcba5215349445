use Rattle.std.proofs.Common.{codes}
use Rattle.clap.specs.Words.{app_of, new_app, with_rule}
use Rattle.ug_cli.specs.Options.{positional}
use Rattle.ug_cli.proofs.Added.{by_rule}
use Rattle.ug_cli.proofs.options.generate.Goals as goal

pub returns-clause-app : goal.returns-clause-app
returns-clause-app c =
    let none = new_app (codes "gen") in
    let seed = with_rule none (positional (codes "seed")) in
    let size = with_rule seed (positional (codes "size")) in
    let one = by_rule app_of _ none _ _ c.positional.ensures.rule (c.add-command.ensures.app none c.new.ensures.app) in
    let two = by_rule app_of _ seed _ _ c.positional-2.ensures.rule (c.add-command-2.ensures.app seed one) in
    by_rule app_of _ size _ _ c.defaulted.ensures.rule (c.add.ensures.app size two)
