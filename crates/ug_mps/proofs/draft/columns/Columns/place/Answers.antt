use Rattle.std.proofs.Common.{refl, sym, ◌∙◌}
use Rattle.ug_mps.proofs.ColumnsLemmas.{place_goes_on, place_refused, place_new}
use Rattle.ug_mps.proofs.draft.columns.Columns.place.Goals as goal

pub returns-then-at-count-clause-place : goal.returns-then-at-count-clause-place
returns-then-at-count-clause-place c = place_goes_on c.args.name.now c.args.self.now c.in-Some.at c.find_last.ensures.distinct c.in-Some.ensures.found (c.if-at-count.true ∙ c.len-count.ensures.names)

pub returns-else-at-count-clause-place : goal.returns-else-at-count-clause-place
returns-else-at-count-clause-place c = place_refused c.args.name.now c.args.self.now c.in-Some.at c.find_last.ensures.distinct c.in-Some.ensures.found (λ e. c.if-at-count.false (e ∙ sym c.len-count.ensures.names))

pub returns-in-None-clause-place : goal.returns-in-None-clause-place
returns-in-None-clause-place c = place_new c.args.name.now c.args.self.now c.len-count.result (c.in-None.ensures.none.0 refl) c.len-count.ensures.names
