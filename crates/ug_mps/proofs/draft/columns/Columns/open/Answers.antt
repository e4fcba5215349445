use Rattle.ug_mps.proofs.ColumnsLemmas.{open_going, open_new}
use Rattle.ug_mps.proofs.draft.columns.Columns.open.Goals as goal

pub returns : goal.returns
returns c = open_going c.args.line c.args.name.now c.args.integer c.args.place.new c.args.self.now c.if-place.false

pub returns-then-place : goal.returns-then-place
returns-then-place c = open_new c.args.line c.args.name.now c.args.integer c.args.place.new c.args.self.now c.add.new.self c.if-place.true (c.requires.new c.if-place.true).gone c.in_ok-add.ensures
