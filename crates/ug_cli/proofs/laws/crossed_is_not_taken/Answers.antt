use Rattle.std.proofs.Common.{◌<◌, arith}
use Rattle.clap.specs.Simple.{subcommand_of}
use Rattle.ug_cli.specs.Options.{ug}
use Rattle.ug_cli.proofs.Exclusive.{not_both}
use Rattle.ug_cli.proofs.laws.crossed_is_not_taken.Goals as goal

pub returns : goal.returns
returns c = λ words low high plan crossed taken.
    let below : crossed.ranks.high < crossed.ranks.low = omega (arith, crossed.low_is, crossed.high_is, crossed.below) in
    not_both (subcommand_of ug words) crossed.plan plan crossed.ranks crossed.asked.asks taken.asked.asks
    crossed.has below taken.order
