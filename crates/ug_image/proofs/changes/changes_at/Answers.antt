use Rattle.std.proofs.Common.{◌^◌, arith, subst, sym}
use Rattle.ug_nodes.specs.Changes.{IsRising}
use Rattle.ug_fields.proofs.Simple.{count_reader}
use Rattle.ug_image.proofs.Verdicts.{changes_rise}
use Rattle.ug_image.proofs.changes.changes_at.Goals as goal

pub new-requires : goal.new-requires
new-requires c =
    let counted = (count_reader (10 ^ 4)).taken c.args.bytes.now c.in_ok-count.count
    c.in_ok-count.rest.now (λ i. omega (arith, c.type_inv.bytes i)) c.in_ok-count.ensures in
    subst IsRising (sym c.into_vec.ensures)
    (changes_rise c.args.root.now c.in_ok-count.count c.in_ok-count.rest.now
    c.in-Ok.rest.now c.changes_from.new.changes c.in-Ok.field-0-0
    counted.0.rest_fits c.in-Ok.ensures)
