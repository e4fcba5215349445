-- What a run of the whole problem begins with makes a book.
use Rattle.std.proofs.Common.{ℕ, ◌<◌, [], arith}
use Rattle.std.proofs.lemmas.List.Elements.{All-cons, All-nil}
use Rattle.ug_problem.specs.Instances.{Instance, root_of}
use Rattle.ug_nodes.specs.Changes.{AreChangesOf}
use Rattle.ug_rules.specs.declared.settings.Settings.{Settings}
use Rattle.ug_rules.specs.Books.{AreSettings}
use Rattle.ug_book.specs.Openings.{IsOpening, whole}

pub whole_makes : (p : Instance) (run : ℕ) (settings : Settings) → 0 < run → AreSettings settings
    → IsOpening (whole p run settings)
whole_makes p run settings some fit = record {
  run = some;
  best = tt;
  boxes = All-cons (AreChangesOf (root_of p)) [] [] (λ k low. absurd (omega (arith, low)))
      (All-nil (AreChangesOf (root_of p)));
  settings = fit;
}
