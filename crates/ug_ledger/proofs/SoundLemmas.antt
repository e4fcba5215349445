-- A sound ledger is a ledger that loses none.
use Rattle.std.proofs.Common.{ℤ, List}
use Rattle.std.specs.Prelude.{Option}
use Rattle.ug_problem.specs.Instances.{Instance, root_of}
use Rattle.ug_problem.specs.Incumbents.{Incumbent}
use Rattle.ug_ledger.specs.Ledgers.{Ledger}
use Rattle.ug_ledger.specs.Sound.{IsLedger, LosesNone, Sound}
use Rattle.ug_ledger.specs.FactLaws.{SoundIsBoth}

module _ (p : Instance) (gap : ℤ) (best : Incumbent) (l : Ledger) where
  pub is_ledger : Sound p gap best l → IsLedger (root_of p) l
  is_ledger s = record {
    ticketed = s.ticketed;
    nested = s.nested;
    handed = s.handed;
    worked = s.worked;
  }

  pub loses_none : Sound p gap best l → LosesNone p gap best l
  loses_none s = record { covered = s.covered; backed = s.backed }

  pub is_sound : IsLedger (root_of p) l → LosesNone p gap best l → Sound p gap best l
  is_sound g s = record {
    covered = s.covered;
    ticketed = g.ticketed;
    nested = g.nested;
    handed = g.handed;
    backed = s.backed;
    worked = g.worked;
  }

pub sound_is_both : SoundIsBoth
sound_is_both p gap best l = (
  λ s. (is_ledger p gap best l s, loses_none p gap best l s),
  λ h. is_sound p gap best l h.0 h.1,
)
