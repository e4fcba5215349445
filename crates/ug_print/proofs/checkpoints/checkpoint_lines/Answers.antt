use Rattle.std.proofs.Common.{ℕ, ℤ, List, Option, ◌++◌, ◌∙◌, ap, sym, subst}
use Rattle.std.proofs.lemmas.Result.{IfOk-weaker}
use Rattle.ug_problem.specs.Instances.{Instance}
use Rattle.ug_problem.specs.declared.column.Column.{Column}
use Rattle.ug_print.specs.Limited.{IsBestWord}
use Rattle.ug_print.specs.Checkpoints.{head_lines, node_lines, AreNodesWithin}
use Rattle.ug_print.proofs.Widths.{changes_within}
use Rattle.ug_print.proofs.checkpoints.checkpoint_lines.Goals as goal

pub whole_lines-requires : goal.whole_lines-requires
whole_lines-requires c =
    let columns = c.columns.ensures.value
    ∙ ap (λ (p : Instance). p.columns) c.problem-problem.ensures.value in
    subst (λ (columns : List Column). AreNodesWithin columns c.args.image.now.nodes) (sym columns)
    (changes_within c.args.image.now c.requires)

pub returns : goal.returns
returns c =
    let image = c.args.image.now in
    let best = c.in_ok-best.best in
    let columns = c.columns.ensures.value
    ∙ ap (λ (p : Instance). p.columns) c.problem-problem.ensures.value in
    let value : IsBestWord image.problem image.best best =
    subst (λ (p : Instance). IsBestWord p image.best best) c.problem-problem.ensures.value
    (subst (λ (b : Option (List ℤ)). IsBestWord c.problem-problem.result.now b best)
    c.as_ref.ensures.value c.in_ok-best.ensures) in
    IfOk-weaker c.whole_lines.result _ _
    (λ text is. record {
      best = best;
      value = value;
      is = is ∙ (ap (λ (w : List ℕ). head_lines image w
          ++ node_lines c.columns.result.now 0 image.nodes) c.as_slice.ensures
          ∙ ap (λ (columns : List Column). head_lines image best
          ++ node_lines columns 0 image.nodes) columns);
    })
    c.whole_lines.ensures
