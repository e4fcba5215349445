use Rattle.std.proofs.Common.{◌∙◌}
use Rattle.clap.proofs.WalkLemmas.{first_value-rows}
use Rattle.clap.specs.Matches.{found_of}
use Rattle.ug_cli.specs.Taken.{word_of}
use Rattle.ug_cli.proofs.given.text_of.Goals as goal

pub returns : goal.returns
unfolding word_of
returns c = c.get_str.ensures ∙ first_value-rows (found_of c.args.matches.now) c.args.name.now
