use Rattle.std.proofs.Common.{◌≤◌, ◌*◌, ◌^◌, List, length, subst, sym, unsigned_abs}
use Rattle.ug_rows.specs.declared.row.Term.{Term}
use Rattle.ug_propagate.specs.declared.sums.Extremes.{Extremes}
use Rattle.ug_propagate.specs.Running.{IsSummed, extremes_at}
use Rattle.ug_propagate.proofs.Slacks.{greatest_small, least_small}
use Rattle.ug_propagate.proofs.row128.slack_of.Goals as goal

pub slack_between-requires-clause-least : goal.slack_between-requires-clause-least
slack_between-requires-clause-least c =
    let w = c.args.work.now.sums in
    let P : List Term → Type 0 = λ (ts : List Term). IsSummed ts w.area (extremes_at w.sums c.args.r) in
    let Q : Extremes → Type 0 = λ (e : Extremes). unsigned_abs e.least ≤ 3 * 10 ^ 37 in
    subst Q (sym c.ends.ensures)
    (least_small (length w.area) c.args.terms.now w.area (extremes_at w.sums c.args.r) c.requires.row.linear
    (subst P (sym c.requires.terms) (c.requires.work.sums.each c.args.r c.requires.there)))

pub slack_between-requires-clause-greatest : goal.slack_between-requires-clause-greatest
slack_between-requires-clause-greatest c =
    let w = c.args.work.now.sums in
    let P : List Term → Type 0 = λ (ts : List Term). IsSummed ts w.area (extremes_at w.sums c.args.r) in
    let Q : Extremes → Type 0 = λ (e : Extremes). unsigned_abs e.greatest ≤ 3 * 10 ^ 37 in
    subst Q (sym c.ends.ensures)
    (greatest_small (length w.area) c.args.terms.now w.area (extremes_at w.sums c.args.r) c.requires.row.linear
    (subst P (sym c.requires.terms) (c.requires.work.sums.each c.args.r c.requires.there)))
