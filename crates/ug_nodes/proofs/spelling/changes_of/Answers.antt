use Rattle.std.proofs.Common.{length, sym, subst}
use Rattle.ug_nodes.specs.Changes.{Spells}
use Rattle.ug_nodes.specs.Steps.{IsToldTo}
use Rattle.ug_nodes.proofs.Lists.{told, spelled}
use Rattle.ug_nodes.proofs.spelling.changes_of.Goals as goal

pub returns-clause-below : goal.returns-clause-below
returns-clause-below c = λ b.
    let root = c.args.root.now in
    let area = c.args.area.now in
    let changes = c.in_ok-changes.changes.items in
    let t : IsToldTo (length root) root area changes =
    subst (λ r. IsToldTo (length r) r area changes) c.as_slice.ensures
    (subst (λ a. IsToldTo (length c.as_slice.result.now) c.as_slice.result.now a changes) c.as_slice-2.ensures c.in_ok-changes.ensures) in
    subst (λ list. Spells root list area) (sym c.new.ensures) (spelled root area changes (told root area changes c.requires.width t) b)
