-- What was given out.
use Rattle.std.specs.Prelude.{◌≡◌, ℕ, ◌<◌}
use Rattle.ug_rules.specs.State.{BookState}
use Rattle.ug_rules.specs.Deciding.{given, handouts}
use Rattle.ug_stock.specs.declared.terms.Terms.{Terms}
use Rattle.ug_stock.specs.declared.frontier.Frontier.{Frontier}
use Rattle.ug_stock.specs.Frontiers.{AreTermsOf, with_frontier}

-- all steps of a book were made, and this is their number
pub record IsAllGiven (steps : ℕ) (old new : BookState) : Type 0 where
  pub count : steps ≡ handouts old
  pub given_ : new ≡ given steps old

-- this number of steps was made, and some were not
pub record IsPartGiven (steps : ℕ) (old new : BookState) : Type 0 where
  pub count : steps < handouts old
  pub given_ : new ≡ given steps old

-- so it is whatever else the book has, if these are its terms
abbrev pub HasGivenAll : Terms → Frontier → Frontier → ℕ → Type 0
HasGivenAll terms old new steps =
    (b : BookState) → AreTermsOf b terms → IsAllGiven steps (with_frontier b old) (with_frontier b new)

-- and so is this
abbrev pub HasGivenPart : Terms → Frontier → Frontier → ℕ → Type 0
HasGivenPart terms old new steps =
    (b : BookState) → AreTermsOf b terms → IsPartGiven steps (with_frontier b old) (with_frontier b new)
