use Rattle.std.proofs.Common.{◌≤◌, ◌*◌, ◌^◌, length, subst, sym, unsigned_abs}
use Rattle.ug_propagate.specs.declared.sums.Extremes.{Extremes}
use Rattle.ug_problem.specs.ColumnEntries.{terms_of}
use Rattle.ug_propagate.specs.Running.{extremes_at}
use Rattle.ug_propagate.proofs.Slacks.{least_small}
use Rattle.ug_propagate.proofs.Running.{linear_terms}
use Rattle.ug_propagate.proofs.sums.Sums.least.Goals as goal

pub least_in-requires : goal.least_in-requires
least_in-requires c =
    let p = c.args.problem.now in
    let r = c.row_index.result in
    let Q : Extremes → Type 0 = λ (e : Extremes). unsigned_abs e.least ≤ 3 * 10 ^ 37 in
    subst Q (sym c.ends.ensures)
    (least_small (length p.columns) (terms_of p r) c.args.self.now.area (extremes_at c.args.self.now.sums r)
    (linear_terms p r c.row_index.ensures.problem c.row_index.ensures.there)
    (c.requires.sums.each r c.row_index.ensures.there))
