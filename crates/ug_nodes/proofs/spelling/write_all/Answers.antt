use Rattle.std.proofs.Common.{◌∙◌, set, sym, ap}
use Rattle.ug_nodes.specs.Changes.{change_at, change_bounds}
use Rattle.ug_nodes.proofs.Areas.{area_by_more}
use Rattle.ug_nodes.proofs.spelling.write_all.Goals as goal

pub loop-change-preserved : goal.loop-change-preserved
loop-change-preserved c =
    let n = c.loop-change.change-index in
    let change = change_at c.args.changes.now n in
    ap (λ b. set c.loop-change.sides.items change.column b) c.bounds.ensures
    ∙ ap (λ s. set s change.column (change_bounds change)) c.loop-change.invariant
    ∙ sym (area_by_more c.args.sides.now.items c.args.changes.now n c.loop-change-test.true)
