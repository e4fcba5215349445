-- A node of an image has few changes.
use Rattle.std.proofs.Common.{◌≡◌, ℕ, ◌^◌, ◌<◌, List, length, get_or, ◌∙◌, ap, subst, arith}
use Rattle.std.proofs.lemmas.List.{get_or_default}
use Rattle.ug_image.specs.declared.image.Image.{Image}
use Rattle.ug_image.specs.declared.image.SavedNode.{SavedNode}
use Rattle.ug_image.specs.Images.{IsImage, node_at, no_node}
use Rattle.ug_image.proofs.Wholes.{few}

pub few_changes : (i : Image) (j : ℕ) (xs : List SavedNode) (n : SavedNode) → IsImage i
    → xs ≡ i.nodes → j < length xs → n ≡ get_or xs j n → length n.changes < 2 ^ 32
few_changes i j xs n is same here own =
    let there : j < length i.nodes = subst (λ (ys : List SavedNode). j < length ys) same here in
    let one = is.nodes j there in
    let node : n ≡ node_at i.nodes j = own ∙ ap (λ (ys : List SavedNode). get_or ys j n) same
    ∙ get_or_default i.nodes j n no_node there in
    let less = few i.problem (node_at i.nodes j).changes is.problem one.rising one.changes in
    omega (arith, less, ap (λ (m : SavedNode). length m.changes) node)
