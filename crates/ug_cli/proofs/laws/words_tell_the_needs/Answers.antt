use Rattle.clap.specs.Simple.{subcommand_of}
use Rattle.ug_cli.specs.Options.{ug}
use Rattle.ug_cli.proofs.Exclusive.{same_needs}
use Rattle.ug_cli.proofs.laws.words_tell_the_needs.Goals as goal

pub returns : goal.returns
returns c = λ words plan other taken too.
    same_needs (subcommand_of ug words) plan other taken.asked.asks too.asked.asks
