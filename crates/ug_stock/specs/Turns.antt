-- What may be assigned.
use Rattle.std.specs.Prelude.{◌≡◌, true, false}
use Rattle.ug_rules.specs.State.{BookState}
use Rattle.ug_rules.specs.Deciding.{is_race_awaited, is_race_due}
use Rattle.ug_stock.specs.declared.terms.Terms.{Terms}
use Rattle.ug_stock.specs.declared.turns.Turn.{Turn}
use Rattle.ug_stock.specs.declared.turns.Turn.TheVariants.{Race, Wait, Nodes}
use Rattle.ug_stock.specs.declared.frontier.Frontier.{Frontier}
use Rattle.ug_stock.specs.Frontiers.{AreTermsOf, with_frontier}

-- it is what the book's race is at
abbrev pub IsTurnOf : BookState → Turn → Type 0
IsTurnOf b Race = is_race_due b ≡ true
IsTurnOf b Wait = (is_race_due b ≡ false) × (is_race_awaited b ≡ true)
IsTurnOf b Nodes = (is_race_due b ≡ false) × (is_race_awaited b ≡ false)

-- so it is whatever else the book has, if these are its terms
abbrev pub HasTurn : Terms → Frontier → Turn → Type 0
HasTurn terms frontier turn =
    (b : BookState) → AreTermsOf b terms → IsTurnOf (with_frontier b frontier) turn
