-- The answers to hands are those of the rules.
use Rattle.ug_rules.specs.declared.heard.Heard.TheVariants.{Kept, Stale, Early, Broken, NotBetter, InRace, Again, Gap, Outside, Unbacked, Short, Memory}
use Rattle.ug_stock.specs.Hands.{NextIsNextHand, RefusedIsDue}

pub next_is_next : NextIsNextHand
next_is_next b work number changes t = record { next = t.next; below = t.below }

pub refused_is_due : RefusedIsDue
refused_is_due b work number changes Again t = t
refused_is_due b work number changes (Gap want got) t = t
refused_is_due b work number changes (Outside column) t = record { next = t.next; first = t.first }
refused_is_due b work number changes Kept t = absurd t
refused_is_due b work number changes Stale t = absurd t
refused_is_due b work number changes Early t = absurd t
refused_is_due b work number changes (Broken first) t = absurd t
refused_is_due b work number changes (NotBetter kept given) t = absurd t
refused_is_due b work number changes InRace t = absurd t
refused_is_due b work number changes (Unbacked cutoff incumbent) t = absurd t
refused_is_due b work number changes (Short told taken) t = absurd t
refused_is_due b work number changes Memory t = absurd t
