use Rattle.std.proofs.Common.{List, sym, subst, ◌+◌, ◌++◌, ◌∷◌, []}
use Rattle.ug_nodes.specs.declared.change.Change.{Change}
use Rattle.ug_nodes.specs.Steps.{IsToldTo}
use Rattle.ug_nodes.proofs.Steps.{other_told}
use Rattle.ug_nodes.proofs.spelling.look_at.Goals as goal

pub returns-in_ok-push : goal.returns-in_ok-push
returns-in_ok-push c =
    let root = c.args.root.now in
    let area = c.args.area.now in
    let j = c.args.j in
    subst (λ changes. IsToldTo (j + 1) root area changes) (sym {A = List Change} c.in_ok-push.ensures.items)
    (subst (λ change. IsToldTo (j + 1) root area (c.args.changes.now.items ++ change ∷ [])) (sym c.change_to.ensures)
    (other_told j root area c.args.changes.now.items c.requires.told c.requires.there c.if-differ.ensures))
