use Rattle.std.specs.Prelude.{IsTrue, ◌↔◌}
use Rattle.std.proofs.Common.{List, subst}
use Rattle.ug_nodes.specs.declared.name.Name.{Name}
use Rattle.ug_nodes.specs.Lines.{IsAncestor}
use Rattle.ug_nodes.proofs.LineLemmas.{is_ancestor_test}
use Rattle.ug_nodes.proofs.line.is_ancestor.Goals as goal

pub returns-clause-test : goal.returns-clause-test
returns-clause-test c =
    let r = c.is_proper_front.result in
    let front : List Name = c.args.front.now in
    let line : List Name = c.args.line.now in
    let meaning : IsTrue r ↔ IsAncestor front line =
    subst (λ f. IsTrue r ↔ IsAncestor f line) c.as_slice.ensures.value
    (subst (λ l. IsTrue r ↔ IsAncestor c.as_slice.result.now l) c.as_slice-2.ensures.value c.is_proper_front.ensures) in
    is_ancestor_test front line r meaning
