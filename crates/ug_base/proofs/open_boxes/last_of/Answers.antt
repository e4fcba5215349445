use Rattle.std.proofs.Common.{Bor, ◌-◌, ℕ, ap}
use Rattle.ug_base.specs.declared.open_boxes.Kept.{Kept}
use Rattle.ug_base.proofs.LastBox.{last_read}
use Rattle.ug_base.proofs.open_boxes.last_of.Goals as goal

pub returns : goal.returns
returns c =
    last_read (λ (one : Bor Kept). one.now) c.args.kept.now.items _ _ (ap (λ (n : ℕ). n - 1) c.args.kept.now.ok.0) c.back.ensures.item
