-- What a run begins with, and its saver.
use Rattle.std.proofs.Common.{◌≡◌, inl, inr, ℕ, ◌≤◌, ◌<◌, ◌^◌, ℤ, List, [], ◌∷◌, map, Option, None, Some, Bor, sym, subst, arith}
use Rattle.std.specs.Prelude.{MatchOption}
use Rattle.std.proofs.Math.Nat.{lt_of_not-le}
use Rattle.std.specs.Option.{option_copied}
use Rattle.ug_disk.specs.Histories.{History}
use Rattle.ug_problem.specs.Instances.{Instance, root_of}
use Rattle.ug_problem.specs.Incumbents.{one_kept}
use Rattle.ug_problem.specs.Feasible.{Feasible}
use Rattle.ug_problem.proofs.Incumbents.{all_of_one}
use Rattle.ug_problem.specs.Better.{Covered}
use Rattle.ug_nodes.specs.declared.change.Change.{Change}
use Rattle.ug_nodes.specs.Changes.{area_by}
use Rattle.ug_checkpoint.specs.declared.found.Found.{Found}
use Rattle.ug_checkpoint.specs.declared.saver.Saver.{Saver}
use Rattle.ug_checkpoint.specs.Recovery.{HasFound}
use Rattle.ug_checkpoint.specs.Savers.{IsKept, last_slot, sequence_of}
use Rattle.ug_restart.specs.Starts.{IsSpent, next_run}
use Rattle.ug_restart.specs.Books.{IsSaverOf}

-- each point lies in the root
pub root_covers : (p : Instance) (gap : ℤ) (boxes : List (List Change)) → boxes ≡ [] ∷ []
    → Covered p gap (one_kept None) (map (area_by (root_of p)) boxes)
root_covers p gap boxes root =
    subst (λ b. Covered p gap (one_kept None) (map (area_by (root_of p)) b)) (sym root) (record {
      incumbent = all_of_one (Feasible p) None tt;
      points = λ x better. inl better.feasible.inside;
    })

-- the saver that is made of what was found
pub saver_of : (lent : Option (Bor Found)) (saver : Saver)
    → MatchOption lent (sequence_of saver ≡ 0) (λ f. sequence_of saver ≡ f.now.image.sequence)
    → MatchOption lent (last_slot saver ≡ None) (λ f. last_slot saver ≡ Some f.now.slot)
    → ((old new : Option History) → HasFound old new (option_copied lent) → IsKept saver new)
    → ¬ IsSpent (option_copied lent) → IsSaverOf (option_copied lent) saver
saver_of None saver same last kept room =
    record { last = last; sequence = same; kept = kept; room = omega (arith, same) }
saver_of (Some lent) saver same last kept room = record {
  last = last;
  sequence = same;
  kept = kept;
  room = subst (λ n. n < 2 ^ 62) (sym same)
      (lt_of_not-le (λ great. room (inr great)));
}

-- so it is of one that was found
pub next_saver : (found : Found) (saver : Saver) → sequence_of saver ≡ found.image.sequence
    → last_slot saver ≡ Some found.slot
    → ((old new : Option History) → HasFound old new (Some found) → IsKept saver new)
    → ¬ IsSpent (Some found) → IsSaverOf (Some found) saver
next_saver found saver same last kept room = record {
  last = last;
  sequence = same;
  kept = kept;
  room = subst (λ n. n < 2 ^ 62) (sym same) (lt_of_not-le (λ great. room (inr great)));
}

-- the run after one is not run 0
pub some_run : (lent : Option (Bor Found)) (run : ℕ) → run ≡ next_run (option_copied lent)
    → 0 < run
some_run None run is = omega (arith, is)
some_run (Some found) run is = omega (arith, is)
