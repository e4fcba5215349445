use Rattle.std.proofs.Common.{ℕ, ◌+◌, IfErr, Result, ap, ◌∙◌, subst}
use Rattle.ug_book.specs.Openings.{opening_book}
use Rattle.ug_restart.specs.Openings.{IsNotSaved}
use Rattle.ug_restart.specs.declared.fault.StartFault.{StartFault}
use Rattle.ug_restart.specs.Starts.{IsBegun, begun}
use Rattle.ug_restart.proofs.Composes.{alone, beginning, both, not_saved, saver_last, saver_sequence, was_found}
use Rattle.ug_restart.proofs.start.begin.Goals as goal

pub returns-in-Err-clause-any_moment : goal.returns-in-Err-clause-any_moment
returns-in-Err-clause-any_moment g c = alone _ _ _ c.load.ensures.any_moment

pub returns-in-Err-started-clause-any_moment : goal.returns-in-Err-started-clause-any_moment
returns-in-Err-started-clause-any_moment g c = alone _ _ _ c.load.ensures.any_moment

pub returns-in-Ok-save_first-clause-any_moment : goal.returns-in-Ok-save_first-clause-any_moment
returns-in-Ok-save_first-clause-any_moment g c =
    both (IsBegun c.args.problem c.args.settings (g.D.Disk.seen c.args.disk.now).told) _ _ _
    c.in-Ok.found c.in-Ok-started.start.saver (opening_book c.in-Ok-started.start.opening) c.in-Ok.ensures.found
    (saver_last c.in-Ok.found _ c.in-Ok-started.start.saver c.as_ref.ensures.value
    c.in-Ok-started.ensures.made.saver)
    (beginning c.args.problem c.args.settings _ _ c.in-Ok.found _ (opening_book c.in-Ok-started.start.opening)
    c.in-Ok.ensures.found c.as_ref.ensures.value c.in-Ok-started.ensures.room
    c.in-Ok-started.ensures.made.book)
    c.load.ensures.any_moment c.save_first.ensures.any_moment

pub returns-in-Err-save_first-clause-any_moment : goal.returns-in-Err-save_first-clause-any_moment
returns-in-Err-save_first-clause-any_moment g c =
    both (IsBegun c.args.problem c.args.settings (g.D.Disk.seen c.args.disk.now).told) _ _ _
    c.in-Ok.found c.in-Ok-started.start.saver (opening_book c.in-Ok-started.start.opening) c.in-Ok.ensures.found
    (saver_last c.in-Ok.found _ c.in-Ok-started.start.saver c.as_ref.ensures.value
    c.in-Ok-started.ensures.made.saver)
    (beginning c.args.problem c.args.settings _ _ c.in-Ok.found _ (opening_book c.in-Ok-started.start.opening)
    c.in-Ok.ensures.found c.as_ref.ensures.value c.in-Ok-started.ensures.room
    c.in-Ok-started.ensures.made.book)
    c.load.ensures.any_moment c.save_first.ensures.any_moment

pub returns-in-Err-save_first-clause-refused : goal.returns-in-Err-save_first-clause-refused
returns-in-Err-save_first-clause-refused g c =
    let P : Result Unit StartFault → Type 0 = λ r. IfErr r IsNotSaved in
    not_saved _ _ c.in-Err-save_first.fault (subst P c.in-Err-save_first.is c.save_first.ensures.refused)

pub returns-in-Ok-save_first-clause-started : goal.returns-in-Ok-save_first-clause-started
returns-in-Ok-save_first-clause-started g c = record {
  book = beginning c.args.problem c.args.settings _ _ c.in-Ok.found _
      (opening_book c.in-Ok-started.start.opening)
      c.in-Ok.ensures.found c.as_ref.ensures.value c.in-Ok-started.ensures.room
      c.in-Ok-started.ensures.made.book;
  opening = c.in-Ok-started.ensures.made.opening;
  acknowledged = c.in-Ok-save_first.ensures.acknowledged;
  kept = c.save_first.ensures.kept;
}

pub returns-in-Ok-save_first-clause-found : goal.returns-in-Ok-save_first-clause-found
returns-in-Ok-save_first-clause-found g c = record {
  found = c.in-Ok.found;
  was = was_found _ _ _ _ c.in-Ok.found c.in-Ok.ensures.found c.load.ensures.any_moment
      c.save_first.ensures.any_moment;
  book = c.in-Ok-started.ensures.made.book
      ∙ ap (begun c.args.problem c.args.settings) c.as_ref.ensures.value;
  covered = λ trusted. c.in-Ok-started.ensures.made.covered;
  one = c.in-Ok-save_first.ensures.sequence
      ∙ ap (λ (n : ℕ). n + 1) (saver_sequence c.in-Ok.found _ c.in-Ok-started.start.saver
      c.as_ref.ensures.value c.in-Ok-started.ensures.made.saver);
}
