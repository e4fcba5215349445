use Rattle.std.proofs.Common.{◌≡◌, ◌∙◌, refl, ℤ, ap, FitsSigned, arith}
use Rattle.std.proofs.lemmas.Int.{fits_signed_from_abs, to_z-of_z}
use mir.Syntax.{w64, w128}
use mir.Val.{to_z, of_z}
use Rattle.ug_propagate.proofs.Machine.{slack_same}
use Rattle.ug_propagate.proofs.Running.{moved_short}
use Rattle.ug_propagate.proofs.moving.shift_short_row.Goals as goal

pub returns : goal.returns
returns c =
    let f = c.args.entry.factor in
    let fits : FitsSigned w64 f = fits_signed_from_abs w64 f (omega (arith, c.requires.factor)) in
    let same : to_z w64 (of_z w64 (to_z w128 (of_z w128 f))) ≡ f =
    ap (λ (v : ℤ). to_z w64 (of_z w64 v)) (slack_same f (omega (arith, c.requires.factor))) ∙ to_z-of_z w64 f fits in
    moved_short f _ c.args.moves c.args.entry.row c.args.sums.now _ c.move_short_sums.new.sums same c.requires.there refl
    c.move_short_sums.ensures.least c.move_short_sums.ensures.greatest
