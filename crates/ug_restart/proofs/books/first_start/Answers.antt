use Rattle.std.proofs.Common.{◌∙◌, ap, subst, sym, refl}
use Rattle.ug_book.specs.declared.opening.Opening.{Opening}
use Rattle.ug_book.specs.Openings.{IsCoveredOpening, opening_book, whole}
use Rattle.ug_restart.proofs.Firsts.{root_covers, saver_of, some_run}
use Rattle.ug_restart.proofs.books.first_start.Goals as goal

pub returns-in-Ok-new-clause-made : goal.returns-in-Ok-new-clause-made
returns-in-Ok-new-clause-made c =
    let p = c.args.problem in
    let settings = c.args.settings in
    let is = c.in-Ok-new.ensures.made in
    record {
      book = ap (λ (o : Opening). opening_book o) is
          ∙ ap (λ n. opening_book (whole p n settings)) c.in-Ok.ensures.run;
      opening = c.in-Ok-new.ensures.makes (some_run c.args.found c.in-Ok.run' c.in-Ok.ensures.run)
          c.requires;
      covered = subst IsCoveredOpening (sym is) (root_covers p settings.gap _ refl);
      saver = saver_of c.args.found c.new-saver.result c.new-saver.ensures.sequence
          c.new-saver.ensures.last c.new-saver.ensures.kept c.in-Ok.ensures.room;
    }
