-- The two passes of a desk.
use Rattle.std.proofs.Common.{◌≡◌, ℕ, List, Some}
use Rattle.std.specs.Prelude.{slice_get}
use Rattle.ug_book.specs.declared.opening.Opening.{Opening}
use Rattle.ug_desk.specs.declared.desk.Desk.{Desk}
use Rattle.ug_desk.specs.Passes.{AreNewPasses, PassState, lock_of_desk}

-- the passes with which a desk is opened are its own
pub new_at : (desk : Desk) (o : Opening) (passes : List PassState) → AreNewPasses (lock_of_desk desk) o passes
    → (k : ℕ) (p : PassState) → slice_get passes k ≡ Some p → p.lock ≡ lock_of_desk desk
new_at desk o passes new k p there = (new k p there).lock_is
