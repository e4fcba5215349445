-- A better incumbent, and what is answered where nothing is held.
use Rattle.std.proofs.Common.{◌≡◌, ℤ, ◌+ℤ◌, ◌≤ℤ◌, ◌<ℤ◌, List, [], subst, arith}
use Rattle.std.specs.Prelude.{Option, Some, None}
use Rattle.std.proofs.lemmas.Int.{ints, by_lt_z}
use Rattle.ug_rows.specs.Boxes.{IsInOne}
use Rattle.ug_rows.specs.Rows.{value_of}
use Rattle.ug_problem.specs.Instances.{Instance, root_of}
use Rattle.ug_problem.specs.Incumbents.{Incumbent}
use Rattle.ug_problem.specs.Better.{Better}
use Rattle.ug_ledger.specs.Ledgers.{Ledger, boxes_of}
use Rattle.ug_ledger.specs.Sound.{Sound}
use Rattle.ug_ledger.specs.Moves.{HasImproved}
use Rattle.ug_ledger.specs.EndLaws.{AnswerIsRight}
use Rattle.ug_ledger.specs.SoundLaws.{ImprovedIsSound}

pub improved_sound : ImprovedIsSound
improved_sound p gap old new l m s = record {
  covered =
      record { incumbent = m.feasible; points = λ x b. s.covered.points x (m.falls x b) };
  ticketed = s.ticketed;
  nested = s.nested;
  handed = s.handed;
  backed = λ r c h i short x b inside. s.backed r c h i short x (m.falls x b) inside;
  worked = s.worked;
}

-- no point is better where nothing is held
none_better : (p : Instance) (gap : ℤ) (best : Incumbent) (l : Ledger) → l.held ≡ []
    → Sound p gap best l → (x : List ℤ) → Better p gap best x → ⊥
none_better p gap best l e s x b =
    subst (λ nodes. IsInOne (boxes_of (root_of p) nodes) x) e (s.covered.points x b)

pub answer_right : AnswerIsRight
answer_right p gap best l e s =
    record { feasible = s.covered.incumbent; unbeaten = none_better p gap best l e s }
