use Rattle.std.proofs.Common.{◌≡◌, ◌∙◌, ℕ, suc, ◌-◌, ◌<◌, length, take, Some, ap, rules, sym, arith}
use Rattle.std.proofs.lemmas.Int.{to_z-of_z}
use Rattle.std.proofs.lemmas.List.{get_or_read}
use mir.Syntax.{w128}
use Rattle.ug_base.specs.declared.open_boxes.Kept.{Kept}
use Rattle.ug_base.specs.Floors.{least_of}
use Rattle.ug_base.proofs.Leasts.{least_of_first, no_kept}
use Rattle.ug_base.proofs.open_boxes.least_before_last.Goals as goal

pub returns-then-last-gt0 : goal.returns-then-last-gt0
returns-then-last-gt0 c =
    let kept = c.args.kept.now.items in
    let k = c.len-last.result - 1 - 1 in
    let there : k < length kept = omega (arith, c.len-last.ensures, c.args.kept.now.ok.0, c.if-last-gt0.true) in
    let last : length kept - 1 ≡ suc k = omega (arith, c.len-last.ensures, c.args.kept.now.ok.0, c.if-last-gt0.true) in
    ap Some (to_z-of_z w128 c.least_up_to.result (search rules) ∙ c.least_up_to.ensures
    ∙ ap (λ (one : Kept). one.least) (get_or_read kept k c.index.result.now there c.index.ensures no_kept))
    ∙ sym (ap (λ (n : ℕ). least_of c.args.before (take n kept)) last ∙ least_of_first c.args.before kept k there)
