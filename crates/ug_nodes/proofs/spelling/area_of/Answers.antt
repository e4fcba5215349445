use Rattle.std.proofs.Common.{sym, subst}
use Rattle.ug_nodes.specs.Changes.{Spells}
use Rattle.ug_nodes.proofs.Lists.{one_box}
use Rattle.ug_nodes.proofs.spelling.area_of.Goals as goal

pub returns-clause-back : goal.returns-clause-back
returns-clause-back c = λ area s.
    let root = c.args.root.now in
    let changes = c.args.changes.now in
    let made : Spells root changes c.in_ok-sides.sides.items =
    subst (λ r. Spells r changes c.in_ok-sides.sides.items) c.as_slice-3.ensures
    (subst (λ list. Spells c.as_slice-3.result.now list c.in_ok-sides.sides.items) c.as_slice-4.ensures.value c.in_ok-sides.ensures) in
    one_box root c.from_vec.result area changes (subst (λ sides. Spells root changes sides) (sym c.from_vec.ensures) made) s
