use Rattle.std.proofs.Common.{◌∙◌, sym}
use Rattle.ug_mps.proofs.Finds.{found_some, found_none}
use Rattle.ug_mps.proofs.SideLines.{column_among, either_set, either_word}
use Rattle.ug_mps.proofs.draft.Draft.either.Goals as goal

pub returns-then-is_some : goal.returns-then-is_some
returns-then-is_some c = λ h d.
    either_set h c.args.self.now _ c.args.line c.args.kind c.args.first.now c.args.second.now c.bound.result d.columns
    (column_among h c.args.self.now.columns c.args.second.now d.columns ∙ found_some c.args.self.now.columns.names c.args.second.now c.find.result c.find.ensures.found (sym c.is_some.ensures ∙ c.if-is_some.true))
    (c.bound.ensures h d)

pub returns-else-is_some : goal.returns-else-is_some
returns-else-is_some c = λ h d.
    either_word h c.args.self.now _ c.args.line c.args.kind c.args.first.now c.args.second.now c.bound-else-is_some.result d.columns
    (column_among h c.args.self.now.columns c.args.second.now d.columns ∙ found_none c.args.self.now.columns.names c.args.second.now c.find.result c.find.ensures.none (sym c.is_some.ensures ∙ c.if-is_some.false))
    (c.bound-else-is_some.ensures h d)
