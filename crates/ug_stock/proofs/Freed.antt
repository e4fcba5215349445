-- A rank that does not race stays as it is.
use Rattle.std.proofs.Common.{◌≡◌, Bool, false, if◌then◌else◌, ℕ, List, set, sym, ap, ◌∙◌}
use Rattle.std.proofs.lemmas.List.{set-get_or}
use Rattle.ug_ranks.specs.declared.state.Off.TheVariants.{Died}
use Rattle.ug_ranks.specs.declared.state.State.{State}
use Rattle.ug_ranks.specs.declared.state.State.TheVariants.{Idle, Dead}
use Rattle.ug_ranks.specs.States.{state_at}
use Rattle.ug_ranks.specs.Looks.{is_racing}

pub kept_one : (ss : List State) (r : ℕ) → is_racing (state_at ss r) ≡ false
    → ss ≡ set ss r (if is_racing (state_at ss r) then Idle else state_at ss r)
kept_one ss r e =
    let same : (if is_racing (state_at ss r) then Idle else state_at ss r) ≡ state_at ss r =
    ap (λ (b : Bool). if b then Idle else state_at ss r) e in
    sym (ap (λ (s : State). set ss r s) same ∙ set-get_or ss r (Dead Died))
