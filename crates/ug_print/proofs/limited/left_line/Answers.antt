use Rattle.std.proofs.Common.{◌≡◌, ℕ, ℤ, List, length, Option, ◌∙◌, ap, subst, arith}
use Rattle.std.specs.Borrow.{Bor}
use Rattle.std.proofs.lemmas.List.{length-map}
use Rattle.std.proofs.lemmas.Result.{IfOk-weaker}
use Rattle.ug_problem.specs.Instances.{Instance}
use Rattle.ug_nodes.specs.declared.node.Node.{Node}
use Rattle.ug_nodes.specs.Primitive.{lent}
use Rattle.ug_print.specs.Limited.{left_line, IsBestWord}
use Rattle.ug_print.proofs.limited.left_line.Goals as goal

-- the nodes are those that the book lends
pub returns : goal.returns
returns c =
    let nodes = lent c.in_ok-nodes.nodes.items in
    let best = c.in_ok-best.best in
    let count : c.len.result ≡ length nodes = omega (
      arith,
      c.len.ensures,
      c.in_ok-nodes.nodes.ok.0,
      length-map c.in_ok-nodes.nodes.items (λ (node : Bor Node). node.now),
    ) in
    let value : IsBestWord c.args.book.now.problem c.args.book.now.best best =
    subst (λ (p : Instance). IsBestWord p c.args.book.now.best best)
    (c.problem.ensures.value ∙ c.problem-problem.ensures.value)
    (subst (λ (b : Option (List ℤ)). IsBestWord c.problem.result.now b best) c.best.ensures
    c.in_ok-best.ensures) in
    IfOk-weaker c.left_words.result _ _
    (λ text is. record {
      best = best;
      nodes = nodes;
      value = value;
      primitive = record {
        each = c.in_ok-nodes.ensures.each;
        rising = c.in_ok-nodes.ensures.rising;
      };
      is = is ∙ (ap (λ (w : List ℕ). left_line c.args.name.now w c.len.result) c.as_slice.ensures
          ∙ ap (left_line c.args.name.now best) count);
    })
    c.left_words.ensures
