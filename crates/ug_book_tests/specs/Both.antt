-- A desk with its two passes.
use Rattle.std.specs.Prelude.{◌≡◌, ℕ, List, Some, slice_get}
use Rattle.ug_desk.specs.declared.desk.Desk.{Desk}
use Rattle.ug_desk.specs.Passes.{PassState, lock_of_desk, width_of}

-- both passes are the desk's, which has two
pub record AreTwo (desk : Desk) (first second : PassState) : Type 0 where
  pub first_is : first.lock ≡ lock_of_desk desk
  pub second_is : second.lock ≡ lock_of_desk desk
  pub two : width_of desk ≡ 2

-- the passes are the desk's, which has two
pub record AreBoth (desk : Desk) (passes : List PassState) : Type 0 where
  pub at : (k : ℕ) (p : PassState) → slice_get passes k ≡ Some p → p.lock ≡ lock_of_desk desk
  pub two : width_of desk ≡ 2
