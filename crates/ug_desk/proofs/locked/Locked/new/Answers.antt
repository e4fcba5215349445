use Rattle.std.proofs.Common.{◌≡◌, ◌∙◌, subst, sym}
use Rattle.ug_book.specs.declared.opening.Opening.{Opening}
use Rattle.ug_book.specs.Openings.{opening_book}
use Rattle.ug_desk.specs.Entries.{IsLocked}
use Rattle.ug_desk.proofs.Begun.{begun}
use Rattle.ug_desk.proofs.locked.Locked.new.Goals as goal

pub invariant_of-result : goal.invariant_of-result
invariant_of-result c =
    let book = c.in-Ok-new-2.book in
    let its : opening_book c.args.opening ≡ book =
    subst (λ (o : Opening). opening_book o ≡ book) (c.opening.ensures ∙ c.in_ok-began.ensures)
    (sym c.in-Ok-new-2.ensures.made) in (
      subst (λ (o : Opening). IsLocked (record {
        opening = o;
        now = record { book = book; tickets = c.in-Ok.tickets.items };
        count = 0;
      })) (sym c.in_ok-began.ensures) (begun c.args.opening book c.in-Ok.tickets.items its c.in-Ok.ensures),
      c.word_of-word.ensures,
    )
