-- What the ending book of a run is.
use Rattle.std.proofs.Common.{◌≡◌, [], Option, Some, IfSome, sym, ◌∙◌, ap, subst}
use Rattle.ug_rules.specs.State.{BookState, held_nodes}
use Rattle.ug_rules.specs.Books.{IsBook, IsSoundBook}
use Rattle.ug_book.proofs.Starts.{start_is_sound}
use Rattle.ug_restart.specs.declared.outcome.End.{End}
use Rattle.ug_restart.specs.declared.outcome.End.TheVariants.{Answered, Limited, Stranded, Memory}
use Rattle.ug_book.specs.declared.opening.Opening.{Opening}
use Rattle.ug_book.specs.Openings.{IsCoveredOpening, opening_book}
use Rattle.ug_restart.specs.Outcomes.{IfBook}
use Rattle.ug_restart.specs.Outcomes.{HasFeasible, IfAnswered, IfLimited, IsLimited}
use Rattle.ug_threads.specs.Traces.{IsLedByWorkers}
use Rattle.ug_threads.specs.Ends.{IsEnding, IsReplayOf}
use Rattle.ug_restart.specs.Outcomes.{IsRight, IsStranded}
use Rattle.ug_threads.specs.Outcomes.{HasEnded}

-- an opening is covered where its book is sound
pub opening_covered : (o : Opening) (given : BookState) → opening_book o ≡ given
    → IsSoundBook given → IsCoveredOpening o
opening_covered o given same sound =
    (start_is_sound o.problem o.run o.best o.boxes o.settings).0
    (subst IsSoundBook (sym same) sound)

replay_of : (o : Opening) (given b : BookState) → opening_book o ≡ given → IsEnding o b
    → IsReplayOf given b
replay_of o given b same ending = record {
  state = ending.state;
  locked = ending.locked;
  began = ap opening_book ending.began ∙ same;
  worked = subst (λ (k : Opening). IsLedByWorkers k ending.state) (sym ending.began) ending.worked;
  is = ending.is;
}

sound_of : (o : Opening) (given b : BookState) → opening_book o ≡ given → IsEnding o b
    → IsSoundBook given → IsSoundBook b
sound_of o given b same ending sound =
    subst IsSoundBook ending.is (ending.locked.sound
    (subst IsCoveredOpening (sym ending.began) (opening_covered o given same sound)))

its_ending : (o : Opening) (ended : Option BookState) (b : BookState) → IfSome ended (IsEnding o)
    → ended ≡ Some b → IsEnding o b
its_ending o ended b is same = subst (λ e. IfSome e (IsEnding o)) same is

-- what each book's incumbent is
pub book_feasible : (b : BookState) → IsBook b → HasFeasible b
book_feasible b is = is.incumbent

-- how a run ended that began with the opening
pub has_ended : (o : Opening) (given : BookState) (ended : Option BookState) (end : End)
    → opening_book o ≡ given → IfSome ended (IsEnding o) → IfBook end (λ b. ended ≡ Some b)
    → IfBook end HasFeasible → IfAnswered end (λ b. held_nodes b ≡ [])
    → IfAnswered end (λ b. IsSoundBook b → IsRight b) → IfLimited end IsLimited
    → (IsStranded end → ⊥) → HasEnded given end
has_ended o given ended (Answered b) same is own feasible none right limited stranded =
    let ending = its_ending o ended b is own in
    let sound = sound_of o given b same ending in record {
      replayed = replay_of o given b same ending;
      feasible = feasible;
      sound = sound;
      answered = none;
      right = λ given_sound. right (sound given_sound);
      limited = limited;
      stranded = stranded;
    }
has_ended o given ended (Limited b) same is own feasible none right limited stranded =
    let ending = its_ending o ended b is own in record {
      replayed = replay_of o given b same ending;
      feasible = feasible;
      sound = sound_of o given b same ending;
      answered = none;
      right = λ given_sound. tt;
      limited = limited;
      stranded = stranded;
    }
has_ended o given ended (Stranded b) same is own feasible none right limited stranded =
    absurd (stranded tt)
has_ended o given ended Memory same is own feasible none right limited stranded = record {
  replayed = tt;
  feasible = tt;
  sound = λ given_sound. tt;
  answered = tt;
  right = λ given_sound. tt;
  limited = tt;
  stranded = stranded;
}

-- without a book nothing is promised of one
pub none_ended : (given : BookState) → HasEnded given Memory
none_ended given = record {
  replayed = tt;
  feasible = tt;
  sound = λ given_sound. tt;
  answered = tt;
  right = λ given_sound. tt;
  limited = tt;
  stranded = λ stranded. stranded;
}
