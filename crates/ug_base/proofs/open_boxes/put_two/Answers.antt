use Rattle.std.proofs.Common.{◌≡◌, ◌∙◌, ◌-◌, ◌++◌, ◌∷◌, [], ℕ, ℤ, List, Some, ap, length, rules, slice_set, arith}
use Rattle.std.proofs.lemmas.Int.{to_z-of_z}
use mir.Syntax.{w128}
use Rattle.ug_base.specs.declared.open_boxes.Kept.{Kept}
use Rattle.ug_base.specs.Floors.{with_least}
use Rattle.ug_base.proofs.Leasts.{halves_renewed}
use Rattle.ug_base.proofs.open_boxes.put_two.Goals as goal

pub returns-clause-ok : goal.returns-clause-ok
returns-clause-ok c =
    let old = c.args.kept.now.items in
    let first = c.kept_behind-first.result in
    let second = c.kept_behind-second.result in
    let pushed : c.push_back.new.self.items ≡ old ++ first ∷ [] = search rules in
    let at : c.len-at.result - 1 ≡ length old - 1 = omega (arith, c.len-at.ensures, c.args.kept.now.ok.0) in
    ap (λ (ks : List Kept). slice_set ks (c.len-at.result - 1) second) pushed
    ∙ ap (λ (n : ℕ). slice_set (old ++ first ∷ []) n second) at
    ∙ halves_renewed old c.args.first c.args.second first second c.args.before c.least_before_last.result c.requires
    c.least_before_last.ensures c.kept_behind-second.ensures
    (c.kept_behind-first.ensures
    ∙ ap (λ (l : ℤ). with_least (Some l) c.args.first) (to_z-of_z w128 second.least (search rules)))
