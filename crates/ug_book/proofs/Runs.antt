-- What no call changes.
use Rattle.std.proofs.Common.{◌≡◌, ◌∙◌, sym, ap}
use Rattle.ug_rules.specs.declared.settings.Settings.{Settings}
use Rattle.ug_rules.specs.State.{BookState}
use Rattle.ug_rules.specs.Books.{IsBook}
use Rattle.ug_book.specs.Views.{IsSameRun}

-- of books of one problem, run and settings
pub same_run : (old new : BookState) → IsBook old → IsBook new → new.problem ≡ old.problem
    → new.run ≡ old.run → new.settings ≡ old.settings → IsSameRun old new
same_run old new was is problem run settings = record {
  problem = problem;
  run = run;
  settings = settings;
  wide = is.ranks ∙ (ap (λ (s : Settings). s.solvers) settings ∙ sym was.ranks);
}
