use Rattle.clap.specs.Words.{app_of}
use Rattle.ug_cli.proofs.Added.{by_rule}
use Rattle.ug_cli.proofs.options.with_ranks.Goals as goal

pub returns-clause-app : goal.returns-clause-app
returns-clause-app c = λ app is.
    let one = by_rule app_of _ _ _ _ c.defaulted.ensures.rule (c.add-command.ensures.app _ is) in
    let two = by_rule app_of _ _ _ _ c.defaulted-2.ensures.rule (c.add-command-2.ensures.app _ one) in
    let three = by_rule app_of _ _ _ _ c.flag.ensures.rule (c.add-command-3.ensures.app _ two) in
    let four = by_rule app_of _ _ _ _ c.defaulted-3.ensures.rule (c.add-command-4.ensures.app _ three) in
    let five = by_rule app_of _ _ _ _ c.optional.ensures.rule (c.add-command-5.ensures.app _ four) in
    by_rule app_of _ _ _ _ c.optional-2.ensures.rule (c.add.ensures.app _ five)
