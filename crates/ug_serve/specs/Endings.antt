-- The law of the end of a service: what is seen of a link shows how its service ended.
use Rattle.std.specs.Prelude.{◌≡◌, ◌⊎◌, ◌<◌, ℕ, true, List, Some}
use Rattle.ug_io.specs.declared.link.Said.{Said}
use Rattle.ug_io.specs.Links.{LinkSeen}
use Rattle.ug_serve.specs.Serving.{HasEnded, HasMetBad}

-- a call of the link failed, or it has ended
abbrev pub IsLost : LinkSeen → Type 0
IsLost seen = (0 < seen.faults) ⊎ (seen.ended ≡ true)

-- If the link is lost no service ended well, nor for what is no order. If it says what was
-- said, none ended in both of these ways.
pub record ServicesEndInOneWay : Type 0 where
  pub lost_not_ended : (seen : LinkSeen) → IsLost seen → ¬ HasEnded seen
  pub lost_not_bad : (seen : LinkSeen) (at : ℕ) → IsLost seen → ¬ HasMetBad seen at
  pub ended_not_bad : (seen : LinkSeen) (said : List Said) (at : ℕ) → seen.said ≡ Some said
      → HasEnded seen → ¬ HasMetBad seen at
