-- What a plan of the words needs, each plan of them does.
use Rattle.std.proofs.Common.{List, Option, None, Some, IfSome, subst}
use Rattle.clap.specs.Walk.{Text}
use Rattle.ug_cli.specs.declared.plan.Plan.{Plan}
use Rattle.ug_cli.specs.Taken.{Needs, TakenWords, WordsTellTheNeeds, needs_of}
use Rattle.ug_top.specs.Ends.{HasCrewFor, HasLinkFor, HasNeeds, IsPlanOf}
use Rattle.ug_top.specs.Outside.{Outside}

needs_for : WordsTellTheNeeds → (words : List Text) (plan other : Plan) (now : Outside) → TakenWords words plan
    → TakenWords words other → HasCrewFor (needs_of plan).crew now.crew
    → HasLinkFor (needs_of plan).link now.link → HasNeeds other now
needs_for law words plan other now taken too crew link =
    let same = law words plan other taken too in
    record {
      crew = subst (λ (n : Needs). HasCrewFor n.crew now.crew) same crew;
      link = subst (λ (n : Needs). HasLinkFor n.link now.link) same link;
    }

pub has_needs : WordsTellTheNeeds → (words : List Text) (plan : Option Plan) (now : Outside)
    → IsPlanOf words plan → IfSome plan (λ p. HasCrewFor (needs_of p).crew now.crew)
    → IfSome plan (λ p. HasLinkFor (needs_of p).link now.link) → (other : Plan) → TakenWords words other
    → HasNeeds other now
has_needs law words None now none crew link other taken = absurd (none other taken)
has_needs law words (Some plan) now is crew link other taken =
    needs_for law words plan other now is taken crew link
