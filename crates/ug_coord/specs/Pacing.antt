-- When a coordinator's book is saved.
use Rattle.std.specs.Prelude.{◌≡◌, ◌+◌, ◌-◌, ◌*◌, ◌^◌, ◌%◌, ◌<◌, ◌≤◌, ℕ, Bool, true, false, nat_eq, min}
use Rattle.std.specs.Prelude.{if◌then◌else◌, length}
use Rattle.ug_rules.specs.State.{BookState}
use Rattle.ug_coord.specs.declared.pacing.Pacing.{Pacing}

-- whether the report of this number asks for a save: it is a multiple of `every`, which is not 0
abbrev pub is_due : ℕ → ℕ → Bool
is_due every count = (if nat_eq every 0 then false else nat_eq (count % every) 0)

-- since the last save a report was received, and as many as must lie between two
pub record IsApart (pacing : Pacing) (heard : ℕ) : Type 0 where
  pub since : pacing.since < heard
  pub apart : pacing.since + pacing.apart ≤ heard

-- a save is due: the last report asks for one, and it is no sooner than it may be
pub record IsSaveDue (pacing : Pacing) (b : BookState) : Type 0 where
  pub may : IsApart pacing b.heard
  pub due : is_due b.settings.every b.heard ≡ true

-- the least number of reports between a save with this number of open nodes and the next: eight for
-- each node, as far as a number of 64 bits goes
abbrev pub apart_after : ℕ → ℕ
apart_after nodes = min (nodes * 8) (2 ^ 64 - 1)

-- the book was saved
abbrev pub saved_at : BookState → Pacing
saved_at b = record { since = b.heard; apart = apart_after (length b.pool) }
