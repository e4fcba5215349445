-- What a run begins with, and the book that is made of it.
use Rattle.std.specs.Prelude.{ℕ, ◌<◌, [], ◌∷◌, None, All, IfSome, map}
use Rattle.ug_problem.specs.Instances.{Instance, root_of}
use Rattle.ug_problem.specs.Incumbents.{one_kept}
use Rattle.ug_problem.specs.Feasible.{Feasible}
use Rattle.ug_problem.specs.Better.{Covered}
use Rattle.ug_nodes.specs.Changes.{AreChangesOf, area_by}
use Rattle.ug_rules.specs.declared.settings.Settings.{Settings}
use Rattle.ug_rules.specs.State.{BookState}
use Rattle.ug_rules.specs.Books.{AreSettings}
use Rattle.ug_book.specs.Starts.{started}
use Rattle.ug_book.specs.declared.opening.Opening.{Opening}

-- the book that starts with the opening, as it is made
abbrev pub opening_book : Opening → BookState
opening_book o = started o.problem o.run o.best o.boxes o.settings

-- the root is left, and there is no incumbent
abbrev pub whole : Instance → ℕ → Settings → Opening
whole p run settings =
    record { problem = p; run = run; best = None; boxes = [] ∷ []; settings = settings }

-- a book can be made of it: it has a run number, its incumbent is feasible, its boxes are changes
-- of the root's, and its settings are within their limits
pub record IsOpening (o : Opening) : Type 0 where
  pub run : 0 < o.run
  pub best : IfSome o.best (Feasible o.problem)
  pub boxes : All (AreChangesOf (root_of o.problem)) o.boxes
  pub settings : AreSettings o.settings

-- each better point lies in one of the opening's boxes
abbrev pub IsCoveredOpening : Opening → Type 0
IsCoveredOpening o =
    Covered o.problem o.settings.gap (one_kept o.best)
    (map (area_by (root_of o.problem)) o.boxes)
