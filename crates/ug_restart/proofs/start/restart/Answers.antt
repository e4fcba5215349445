use Rattle.std.proofs.Common.{ℕ, ◌+◌, Some, ap, ◌∙◌, subst}
use Rattle.ug_checkpoint.specs.Recovery.{HasFound}
use Rattle.ug_book.specs.Openings.{opening_book}
use Rattle.ug_restart.specs.Starts.{IsGoneOn}
use Rattle.ug_restart.proofs.Composes.{alone, both, was_found}
use Rattle.ug_restart.proofs.Goings.{going_on, image_of_loaded}
use Rattle.ug_restart.proofs.start.restart.Goals as goal

pub returns-in-Err-clause-any_moment : goal.returns-in-Err-clause-any_moment
returns-in-Err-clause-any_moment g c = alone _ _ _ c.load.ensures.any_moment

pub returns-in-Ok-None-clause-any_moment : goal.returns-in-Ok-None-clause-any_moment
returns-in-Ok-None-clause-any_moment g c = alone _ _ _ c.load.ensures.any_moment

pub next_start-requires-clause-image : goal.next_start-requires-clause-image
next_start-requires-clause-image g c =
    image_of_loaded _ _ c.in-Ok-Some.found
    (subst (HasFound _ _) c.in-Ok-Some.field-0-is c.in-Ok-Some.ensures.found)

pub returns-in-Err-next_start-clause-any_moment : goal.returns-in-Err-next_start-clause-any_moment
returns-in-Err-next_start-clause-any_moment g c = alone _ _ _ c.load.ensures.any_moment

pub returns-in-Ok-save_first-clause-started : goal.returns-in-Ok-save_first-clause-started
returns-in-Ok-save_first-clause-started g c =
    let has = subst (HasFound _ _) c.in-Ok-Some.field-0-is c.in-Ok-Some.ensures.found in
    record {
      book = going_on c.args.problem c.args.settings _ _ c.in-Ok-Some.found
          (opening_book c.in-Ok.start.opening) has c.in-Ok.ensures.may c.in-Ok.ensures.made.book;
      opening = c.in-Ok.ensures.made.opening;
      acknowledged = c.in-Ok-save_first.ensures.acknowledged;
      kept = c.save_first.ensures.kept;
    }

pub returns-in-Ok-save_first-clause-any_moment : goal.returns-in-Ok-save_first-clause-any_moment
returns-in-Ok-save_first-clause-any_moment g c =
    let has = subst (HasFound _ _) c.in-Ok-Some.field-0-is c.in-Ok-Some.ensures.found in
    both (IsGoneOn c.args.problem c.args.settings (g.D.Disk.seen c.args.disk.now).told) _ _ _
    (Some c.in-Ok-Some.found) c.in-Ok.start.saver (opening_book c.in-Ok.start.opening) has c.in-Ok.ensures.made.saver.last
    (going_on c.args.problem c.args.settings _ _ c.in-Ok-Some.found (opening_book c.in-Ok.start.opening) has
    c.in-Ok.ensures.may c.in-Ok.ensures.made.book)
    c.load.ensures.any_moment c.save_first.ensures.any_moment

pub returns-in-Err-save_first-clause-any_moment : goal.returns-in-Err-save_first-clause-any_moment
returns-in-Err-save_first-clause-any_moment g c =
    let has = subst (HasFound _ _) c.in-Ok-Some.field-0-is c.in-Ok-Some.ensures.found in
    both (IsGoneOn c.args.problem c.args.settings (g.D.Disk.seen c.args.disk.now).told) _ _ _
    (Some c.in-Ok-Some.found) c.in-Ok.start.saver (opening_book c.in-Ok.start.opening) has c.in-Ok.ensures.made.saver.last
    (going_on c.args.problem c.args.settings _ _ c.in-Ok-Some.found (opening_book c.in-Ok.start.opening) has
    c.in-Ok.ensures.may c.in-Ok.ensures.made.book)
    c.load.ensures.any_moment c.save_first.ensures.any_moment

pub returns-in-Ok-save_first-clause-found : goal.returns-in-Ok-save_first-clause-found
returns-in-Ok-save_first-clause-found g c =
    let has = subst (HasFound _ _) c.in-Ok-Some.field-0-is c.in-Ok-Some.ensures.found in
    record {
      found = Some c.in-Ok-Some.found;
      was = was_found _ _ _ _ (Some c.in-Ok-Some.found) has c.load.ensures.any_moment
          c.save_first.ensures.any_moment;
      book = c.in-Ok.ensures.made.book;
      covered = c.in-Ok.ensures.made.covered;
      one = c.in-Ok-save_first.ensures.sequence
          ∙ ap (λ (n : ℕ). n + 1) c.in-Ok.ensures.made.saver.sequence;
    }
