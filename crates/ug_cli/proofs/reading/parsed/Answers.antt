use Rattle.std.proofs.Common.{◌∙◌}
use Rattle.ug_cli.specs.Taken.{texts}
use Rattle.ug_cli.proofs.Parses.{faultless, faulty}
use Rattle.ug_cli.proofs.reading.parsed.Goals as goal

pub returns-in-Ok : goal.returns-in-Ok
returns-in-Ok c =
    faultless _ (texts c.args.words.now) c.in-Ok.matches c.in_ok-command.ensures c.in-Ok.ensures.kinds c.in-Ok.ensures.matches

pub returns-in_default : goal.returns-in_default
returns-in_default c =
    faulty _ (texts c.args.words.now) c.in-Err.error c.in_ok-command.ensures c.in-Err.ensures.kinds
    (λ memory. c.in_default.not-OutOfMemory (c.kind-kind.ensures ∙ memory))
