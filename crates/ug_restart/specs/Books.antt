-- What a run begins with, and its saver, by what was found on its disk.
use Rattle.std.specs.Prelude.{◌≡◌, ◌<◌, ◌<ℤ◌, ◌≤ℤ◌, ◌^◌, MatchOption, Option, None, Some}
use Rattle.ug_disk.specs.Histories.{History}
use Rattle.ug_problem.specs.Instances.{Instance}
use Rattle.ug_records.specs.Spelling.{record_of}
use Rattle.ug_rules.specs.declared.settings.Settings.{Settings}
use Rattle.ug_checkpoint.specs.declared.found.Found.{Found}
use Rattle.ug_checkpoint.specs.declared.saver.Saver.{Saver}
use Rattle.ug_checkpoint.specs.Recovery.{HasFound}
use Rattle.ug_checkpoint.specs.Savers.{IsKept, last_slot, sequence_of}
use Rattle.ug_book.specs.Openings.{IsCoveredOpening, IsOpening, opening_book}
use Rattle.ug_snapshot.specs.Moments.{IsCovered}
use Rattle.ug_restart.specs.Starts.{IsFirstDifference, IsSpent, begun, gone_on, sequence_in}
use Rattle.ug_restart.specs.declared.start.Start.{Start}
use Rattle.ug_restart.specs.declared.fault.StartFault.{StartFault}
use Rattle.ug_restart.specs.declared.fault.StartFault.TheVariants.{Memory}
use Rattle.ug_restart.specs.declared.fault.StartFault.TheVariants.{OtherProblem}
use Rattle.ug_restart.specs.declared.fault.StartFault.TheVariants.{SmallerGap, Spent}

-- a saver of a disk on which this was found: it keeps what was found until an image is acknowledged
pub record IsSaverOf (found : Option Found) (saver : Saver) : Type 0 where
  pub last : MatchOption found (last_slot saver ≡ None) (λ f. last_slot saver ≡ Some f.slot)
  pub sequence : sequence_of saver ≡ sequence_in found
  pub kept : (old new : Option History) → HasFound old new found → IsKept saver new
  pub room : sequence_of saver < 2 ^ 62

-- the start of a new solve, where this is found on the disk
pub record IsFirstStart (p : Instance) (settings : Settings) (found : Option Found) (s : Start)
    : Type 0 where
  pub book : opening_book s.opening ≡ begun p settings found
  pub opening : IsOpening s.opening
  pub covered : IsCoveredOpening s.opening
  pub saver : IsSaverOf found s.saver

-- the start that resumes from what was found; if that was Covered, so is what it begins with
pub record IsNextStart (p : Instance) (settings : Settings) (found : Found) (s : Start)
    : Type 0 where
  pub book : opening_book s.opening ≡ gone_on p settings found
  pub opening : IsOpening s.opening
  pub covered : IsCovered found.image → IsCoveredOpening s.opening
  pub saver : IsSaverOf (Some found) s.saver

-- why no new book is made
abbrev pub HasNoFirst : Option Found → StartFault → Type 0
HasNoFirst found Memory = Unit {0}
HasNoFirst found Spent = IsSpent found
HasNoFirst found fault = ⊥

-- a run of the problem, under these settings, may resume from what was found
pub record MayGoOn (p : Instance) (settings : Settings) (found : Found) : Type 0 where
  pub problem : found.image.problem ≡ p
  pub gap : found.image.gap ≤ℤ settings.gap
  pub room : ¬ IsSpent (Some found)

-- why no book resumes from what was found: the first of these that applies
abbrev pub HasNoNext : Instance → Settings → Found → StartFault → Type 0
HasNoNext p settings found Memory = Unit {0}
HasNoNext p settings found (OtherProblem at kept read) =
    IsFirstDifference (record_of found.image.problem) (record_of p) at kept read
HasNoNext p settings found (SmallerGap kept asked) =
    (found.image.problem ≡ p) × (kept ≡ found.image.gap) × (asked ≡ settings.gap)
    × (asked <ℤ kept)
HasNoNext p settings found Spent =
    (found.image.problem ≡ p) × (found.image.gap ≤ℤ settings.gap) × IsSpent (Some found)
HasNoNext p settings found fault = ⊥
