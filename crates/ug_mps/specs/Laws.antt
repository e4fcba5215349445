-- Laws on what texts state.
use Rattle.std.specs.Prelude.{◌≡◌, ◌⊎◌, ℕ, List, Option}
use Rattle.ug_problem.specs.Instances.{Instance}
use Rattle.ug_drafts.specs.declared.fault.MpsFault.{MpsFault}
use Rattle.ug_mps.specs.Reads.{Reads, FirstFault}

-- a file states a problem or has a first fault, never both, and only one of it
pub record HasOneOutcome (text : List ℕ) (boxed : Option ℕ) : Type 0 where
  pub some : ((p : Instance) × Reads text boxed p) ⊎ ((f : MpsFault) × FirstFault text boxed f)
  pub problem : (p q : Instance) → Reads text boxed p → Reads text boxed q → p ≡ q
  pub fault : (f g : MpsFault) → FirstFault text boxed f → FirstFault text boxed g → f ≡ g
  pub apart : (p : Instance) (f : MpsFault) → Reads text boxed p → FirstFault text boxed f → ⊥

-- what the first text states, the second does too
pub record StatesSame (text other : List ℕ) : Type 0 where
  pub problem : (boxed : Option ℕ) (p : Instance) → Reads text boxed p → Reads other boxed p
  pub fault : (boxed : Option ℕ) (f : MpsFault) → FirstFault text boxed f → FirstFault other boxed f
