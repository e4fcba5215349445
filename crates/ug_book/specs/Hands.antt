-- When a hand of a rank is taken.
use Rattle.std.specs.Prelude.{◌≡◌, ℕ, List}
use Rattle.ug_rows.specs.declared.area.Interval.{Interval}
use Rattle.ug_nodes.specs.declared.change.Change.{Change}
use Rattle.ug_ranks.specs.declared.state.State.{State}
use Rattle.ug_ranks.specs.declared.state.State.TheVariants.{Absent, Idle, Racing, Active, Dead}
use Rattle.ug_stock.specs.Hands.{IsNext, IsRefused}
use Rattle.ug_rules.specs.declared.heard.Heard.{Heard}
use Rattle.ug_rules.specs.declared.heard.Heard.TheVariants.{InRace}

-- the rank works, and the hand is its next, of a box below that of its node
abbrev pub IsToBeTaken : List Interval → State → ℕ → List Change → Type 0
IsToBeTaken root (Active work) number changes = IsNext root work number changes
IsToBeTaken root state number changes = ⊥

-- it is not to be taken, and gets this answer
abbrev pub IsNotTaken : List Interval → State → ℕ → List Change → Heard → Type 0
IsNotTaken root Absent number changes answer = answer ≡ InRace
IsNotTaken root Idle number changes answer = answer ≡ InRace
IsNotTaken root (Racing racer) number changes answer = answer ≡ InRace
IsNotTaken root (Active work) number changes answer = IsRefused root work number changes answer
IsNotTaken root (Dead how) number changes answer = answer ≡ InRace
