-- One call in a turn of its own: the value was taken, called, and put home.
use Rattle.std.specs.Prelude.{◌≡◌, ℕ, List, ◌++◌, Option}
use Rattle.ug_turn.specs.declared.view.View.{View}
use Rattle.ug_turn.specs.Histories.{calls_by, told}

-- there is one history that leads to the value as it then stands: it begins with all that the pass
-- had seen, ends with what this call added, and the pass's own calls are in it, each once
pub record HasCalled {V O E : Type 0} (replays : V → List E → Type 0) (by : E → ℕ)
    (old : View O E) (value : V) (entry : Option E) (new : View O E) : Type 0 where
  pub between : List E
  pub seen : new.seen ≡ (old.seen ++ between) ++ told entry
  pub replayed : replays value new.seen
  pub mine : new.mine ≡ old.mine ++ told entry
  pub own : calls_by by new.pass new.seen ≡ new.mine
  pub pass : new.pass ≡ old.pass
  pub opening : new.opening ≡ old.opening
