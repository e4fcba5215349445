use Rattle.std.proofs.Common.{ℕ, ◌+◌, ◌∙◌, ap}
use Rattle.ug_image.specs.declared.image.Image.{Image}
use Rattle.ug_book.specs.Openings.{opening_book}
use Rattle.ug_restart.proofs.First.{not_begun, saving}
use Rattle.ug_restart.proofs.opening.save_first.Goals as goal

pub returns-in_default-clause-any_moment : goal.returns-in_default-clause-any_moment
returns-in_default-clause-any_moment g c =
    not_begun c.args.saver.now _ (opening_book c.args.opening.now)

pub returns-in-Err-clause-any_moment : goal.returns-in-Err-clause-any_moment
returns-in-Err-clause-any_moment g c =
    saving c.args.saver.now _ _ (opening_book c.args.opening.now) c.in-Ok.image _
    c.in-Ok.ensures.moment c.save-saved.ensures.any_moment

pub returns-in-Ok-saved-clause-any_moment : goal.returns-in-Ok-saved-clause-any_moment
returns-in-Ok-saved-clause-any_moment g c =
    saving c.args.saver.now _ _ (opening_book c.args.opening.now) c.in-Ok.image _
    c.in-Ok.ensures.moment c.save-saved.ensures.any_moment

pub returns-in-Ok-saved-clause-sequence : goal.returns-in-Ok-saved-clause-sequence
returns-in-Ok-saved-clause-sequence g c =
    c.in-Ok-saved.ensures.sequence ∙ ap (λ (i : Image). i.sequence) c.in-Ok.ensures.moment.is
    ∙ ap (λ (n : ℕ). n + 1) c.sequence.ensures
