-- What a sink of snapshots becomes as it takes them.
use Rattle.std.proofs.Common.{◌≡◌, ◌∙◌, refl, subst, sym}
use Rattle.ug_book.specs.Openings.{IsCoveredOpening}
use Rattle.ug_restart.specs.Saves.{opening_of}
use Rattle.ug_restart.specs.Going.{GoesOn, Time}
use Rattle.ug_restart.proofs.Going.{goes_nowhere, goes_on, goes_where}

pub unheard : Unit {0}
unheard = tt

pub heard_both : Unit {0}
heard_both = tt

-- with no snapshot
pub nothing_heard : {A : Type 0} (x : A) (a : Time)
    → (x ≡ x) × GoesOn (IsCoveredOpening (opening_of a.saves)) (Unit {0}) a a
nothing_heard x a = (refl, goes_nowhere (IsCoveredOpening (opening_of a.saves)) (Unit {0}) a)

-- some, and then others
pub one_after_another : {A : Type 0} (x y z : A) (a b c : Time)
    → (y ≡ x) × GoesOn (IsCoveredOpening (opening_of a.saves)) (Unit {0}) a b
    → (z ≡ y) × GoesOn (IsCoveredOpening (opening_of b.saves)) (Unit {0}) b c
    → (z ≡ x) × GoesOn (IsCoveredOpening (opening_of a.saves)) (Unit {0}) a c
one_after_another x y z a b c first second = (
  second.0 ∙ first.0,
  goes_on (IsCoveredOpening (opening_of a.saves)) (Unit {0}) a b c first.1
      (goes_where (IsCoveredOpening (opening_of b.saves)) (IsCoveredOpening (opening_of a.saves))
      (Unit {0}) (Unit {0}) b c
      (λ covered. subst IsCoveredOpening (sym first.1.opening) covered) (λ ours. ours) second.1),
)
