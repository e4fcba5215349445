use Rattle.std.proofs.Common.{arith, sym, ◌∙◌}
use Rattle.ug_drafts.proofs.ScalingLemmas.{most_at, wide_at}
use Rattle.ug_drafts.proofs.scaling.scaled_terms.Goals as goal

pub scaled_factor-requires-clause-whole : goal.scaled_factor-requires-clause-whole
scaled_factor-requires-clause-whole c =
    let most = most_at c.args.terms.now c.loop-term.term-index c.loop-term-test.true in
    let whole = c.requires.whole in
    omega (arith, most, whole)

pub returns-in_default : goal.returns-in_default
returns-in_default c =
    wide_at c.args.scale c.args.terms.now c.loop-term.term-index c.loop-term-test.true (sym c.in_default.is ∙ c.scaled_factor.ensures)
