use Rattle.std.proofs.Common.{subst, ap, ◌∙◌}
use Rattle.std.specs.Prelude.{◌==◌}
use Rattle.std.specs.List.{position}
use Rattle.ug_mps.specs.Ending.{HasNoFeed}
use Rattle.ug_mps.proofs.LineTails.{found_none}
use Rattle.ug_mps.proofs.EndingLemmas.{feed_there}
use Rattle.ug_mps.proofs.ending.feed_from.Goals as goal

pub returns-in-Some : goal.returns-in-Some
returns-in-Some c =
    feed_there c.args.bytes.now c.args.from c.in-Some.at (c.in-Some.ensures ∙ ap (position (λ b. b == 10)) c.behind.ensures)

pub returns-in-None : goal.returns-in-None
returns-in-None c = subst HasNoFeed c.behind.ensures (found_none (λ b. b == 10) c.behind.result.now c.in-None.ensures)
