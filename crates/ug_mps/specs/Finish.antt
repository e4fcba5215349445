-- The end of a file: what is found once all lines are taken.
use Rattle.std.specs.Prelude.{◌≡◌, ℕ, List, Option, None}
use Rattle.ug_problem.specs.Instances.{Instance}
use Rattle.ug_drafts.specs.declared.fault.MpsError.{MpsError}
use Rattle.ug_drafts.specs.Bounds.{IsBox}
use Rattle.ug_drafts.specs.FirstFaults.{IsOf}
use Rattle.ug_mps.specs.Entries.{Entry}
use Rattle.ug_mps.specs.Good.{Good}
use Rattle.ug_mps.specs.Reads.{end_fault}
use Rattle.ug_mps.specs.Stated.{stated}

-- why lines that are all good state no problem: the first fault of a column or a row, or want of
-- memory
abbrev pub IsEndFault : Option ℕ → List Entry → MpsError → Type 0
IsEndFault boxed h e = IsOf (end_fault boxed h) e

-- the parts are those that a good history without faults states
pub record AreStated (boxed : Option ℕ) (h : List Entry) (p : Instance) : Type 0 where
  pub good : Good h
  pub box : IsBox boxed
  pub none : end_fault boxed h ≡ None
  pub parts : p ≡ stated boxed h
