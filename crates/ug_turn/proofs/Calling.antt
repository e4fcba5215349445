-- The result of a call in a turn of its own.
use Rattle.std.proofs.Common.{ℕ, List, ◌++◌, Option, sym, ap, ◌∙◌, subst}
use Rattle.ug_turn.specs.declared.view.View.{View}
use Rattle.ug_turn.specs.Histories.{told}
use Rattle.ug_turn.specs.Steps.{HasTaken, MayPut, HasPut}
use Rattle.ug_turn.specs.Calls.{HasCalled}

module _ {V O E : Type 0} (opening : V → O) (replays : V → List E → Type 0) (by : E → ℕ) (cutoff : V → ℕ) where
  pub called : (old mid new : View O E) (before after : V) (entry : Option E) → HasTaken opening replays by cutoff old before mid → MayPut opening replays by cutoff mid after entry → HasPut by cutoff mid after entry new
      → HasCalled replays by old after entry new
  called old mid new before after entry taken may put = record {
    between = taken.begins.0;
    seen = ap (λ (v : View O E). v.seen) put.view ∙ ap (λ l. l ++ told entry) (sym taken.begins.1);
    replayed = subst (replays after) (sym (ap (λ (v : View O E). v.seen) put.view)) may.replayed;
    mine = ap (λ (v : View O E). v.mine) put.view ∙ ap (λ (v : View O E). v.mine ++ told entry) taken.same;
    own = put.own;
    pass = ap (λ (v : View O E). v.pass) put.view ∙ ap (λ (v : View O E). v.pass) taken.same;
    opening = ap (λ (v : View O E). v.opening) put.view ∙ ap (λ (v : View O E). v.opening) taken.same;
  }
