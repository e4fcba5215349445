use Rattle.std.proofs.Common.{◌∙◌, sym}
use Rattle.std.specs.List.{each_same}
use Rattle.ug_surrogate.proofs.Same.{same_row}
use Rattle.ug_surrogate.proofs.further.copied_rows.Goals as goal

pub returns : goal.returns
returns c =
    c.in_ok-copies.ensures.items_if_clones_equal
    (λ x y w. same_row x y (sym w.0.3 ∙ each_same _ _ w.0.4.0 ∙ w.0.2) w.1)
