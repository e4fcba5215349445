use Rattle.std.proofs.Common.{◌≡◌, ap, ◌∙◌}
use Rattle.ug_book.specs.declared.opening.Opening.{Opening}
use Rattle.ug_book_tests.proofs.Both.{new_at}
use Rattle.ug_book_tests.proofs.desks.opened.open.Goals as goal

pub with_both-requires : goal.with_both-requires
with_both-requires c = record {
  at = new_at c.in-Ok-new.desk c.in-Ok.opening c.in-Ok-new.passes.items c.in-Ok-new.ensures.each;
  two = c.in-Ok-new.ensures.width
      ∙ (ap (λ (o : Opening). o.settings.solvers) c.in-Ok.ensures.made ∙ c.settings.ensures.two);
}
