use Rattle.std.proofs.Common.{sym, subst}
use Rattle.ug_lines.specs.declared.shape.LineShape.{LineShape}
use Rattle.ug_lines.specs.Shaped.{shape_shaped}
use Rattle.ug_mps.specs.Drafts.{TakesShape}
use Rattle.ug_mps.proofs.draft.Draft.take.Goals as goal

pub returns-in-Sense : goal.returns-in-Sense
returns-in-Sense c =
    subst (λ (s : LineShape). TakesShape c.args.line (shape_shaped s) c.args.self.now c.sense.new.self c.sense.result) (sym c.in-Sense.is) c.sense.ensures

pub returns-in-Row : goal.returns-in-Row
returns-in-Row c =
    subst (λ (s : LineShape). TakesShape c.args.line (shape_shaped s) c.args.self.now c.row.new.self c.row.result) (sym c.in-Row.is) c.row.ensures

pub returns-in-Marker : goal.returns-in-Marker
returns-in-Marker c =
    subst (λ (s : LineShape). TakesShape c.args.line (shape_shaped s) c.args.self.now c.marker.new.self c.marker.result) (sym c.in-Marker.is) c.marker.ensures

pub returns-in-Column : goal.returns-in-Column
returns-in-Column c =
    subst (λ (s : LineShape). TakesShape c.args.line (shape_shaped s) c.args.self.now c.column.new.self c.column.result) (sym c.in-Column.is) c.column.ensures

pub returns-in-Sides : goal.returns-in-Sides
returns-in-Sides c =
    subst (λ (s : LineShape). TakesShape c.args.line (shape_shaped s) c.args.self.now c.sides.new.self c.sides.result) (sym c.in-Sides.is) c.sides.ensures

pub returns-in-Bound : goal.returns-in-Bound
returns-in-Bound c =
    subst (λ (s : LineShape). TakesShape c.args.line (shape_shaped s) c.args.self.now c.bound.new.self c.bound.result) (sym c.in-Bound.is) c.bound.ensures

pub returns-in-Either : goal.returns-in-Either
returns-in-Either c =
    subst (λ (s : LineShape). TakesShape c.args.line (shape_shaped s) c.args.self.now c.either.new.self c.either.result) (sym c.in-Either.is) c.either.ensures
