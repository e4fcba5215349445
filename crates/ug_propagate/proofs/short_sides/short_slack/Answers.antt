use Rattle.std.proofs.Common.{◌∙◌, FitsSigned, rules}
use Rattle.std.proofs.lemmas.Int.{to_z-of_z}
use mir.Syntax.{w64}
use Rattle.ug_rows.specs.declared.sums.Extreme.TheVariants.{Greatest, Least}
use Rattle.ug_problem.specs.ColumnEntries.{terms_of}
use Rattle.ug_propagate.specs.Running.{widened}
use Rattle.ug_propagate.proofs.Near.{near_slacks, side_high, side_low, summed_at}
use Rattle.ug_propagate.proofs.Running.{summed_short}
use Rattle.ug_propagate.proofs.short_sides.short_slack.Goals as goal

pub shortened-ends-requires-clause-least : goal.shortened-ends-requires-clause-least
shortened-ends-requires-clause-least c =
    summed_short Least (terms_of c.args.problem.now c.args.s.r) c.args.work.now.sums.area c.ends.result
    (c.requires.row_sides.short c.args.s.r c.requires.row_sides.there)
    (summed_at c.args.problem.now c.args.work.now c.args.s.r c.ends.result c.requires.work c.requires.row_sides.there c.ends.ensures)

pub shortened-ends-requires-clause-greatest : goal.shortened-ends-requires-clause-greatest
shortened-ends-requires-clause-greatest c =
    summed_short Greatest (terms_of c.args.problem.now c.args.s.r) c.args.work.now.sums.area c.ends.result
    (c.requires.row_sides.short c.args.s.r c.requires.row_sides.there)
    (summed_at c.args.problem.now c.args.work.now c.args.s.r c.ends.result c.requires.work c.requires.row_sides.there c.ends.ensures)

pub slack_within-requires-clause-high : goal.slack_within-requires-clause-high
slack_within-requires-clause-high c = side_high c.args.s.row_sides.high c.args.s.high c.requires.row_sides.high

pub slack_within-requires-clause-low : goal.slack_within-requires-clause-low
slack_within-requires-clause-low c = side_low c.args.s.row_sides.low c.args.s.low c.requires.row_sides.low

pub slack_within-requires-clause-least : goal.slack_within-requires-clause-least
slack_within-requires-clause-least c =
    let fits : FitsSigned w64 c.shortened-ends.result.least = search rules in
    rw (to_z-of_z w64 c.shortened-ends.result.least fits)
    (summed_short Least (terms_of c.args.problem.now c.args.s.r) c.args.work.now.sums.area (widened c.shortened-ends.result)
    (c.requires.row_sides.short c.args.s.r c.requires.row_sides.there)
    (summed_at c.args.problem.now c.args.work.now c.args.s.r (widened c.shortened-ends.result) c.requires.work c.requires.row_sides.there
    (c.shortened-ends.ensures ∙ c.ends.ensures)))

pub slack_within-requires-clause-greatest : goal.slack_within-requires-clause-greatest
slack_within-requires-clause-greatest c =
    let fits : FitsSigned w64 c.shortened-ends.result.greatest = search rules in
    rw (to_z-of_z w64 c.shortened-ends.result.greatest fits)
    (summed_short Greatest (terms_of c.args.problem.now c.args.s.r) c.args.work.now.sums.area (widened c.shortened-ends.result)
    (c.requires.row_sides.short c.args.s.r c.requires.row_sides.there)
    (summed_at c.args.problem.now c.args.work.now c.args.s.r (widened c.shortened-ends.result) c.requires.work c.requires.row_sides.there
    (c.shortened-ends.ensures ∙ c.ends.ensures)))

pub returns : goal.returns
returns c =
    let least : FitsSigned w64 c.shortened-ends.result.least = search rules in
    let greatest : FitsSigned w64 c.shortened-ends.result.greatest = search rules in
    near_slacks c.args.problem.now c.args.work.now c.args.s c.shortened-ends.result c.slack_within.result c.requires.row_sides
    (summed_at c.args.problem.now c.args.work.now c.args.s.r (widened c.shortened-ends.result) c.requires.work c.requires.row_sides.there
    (c.shortened-ends.ensures ∙ c.ends.ensures))
    (rw (to_z-of_z w64 c.shortened-ends.result.least least) at c.slack_within.ensures.high)
    (rw (to_z-of_z w64 c.shortened-ends.result.greatest greatest) at c.slack_within.ensures.low)
