-- What each step shows the seat that makes it.
use Rattle.std.specs.Prelude.{◌≡◌, ◌≢◌, ℕ, ◌%◌, ◌^◌, ◌≤◌, List, [], ◌∷◌, ◌++◌, Option, Some}
use mathlib.Core.List.{IsPrefix}
use Rattle.atomic_table.specs.Table.{Me, Step}
use Rattle.ug_turn.specs.declared.view.View.{View}
use Rattle.ug_turn.specs.declared.held.Held.{Held}
use Rattle.ug_turn.specs.Histories.{calls_by, told, longer}

-- what a seat knows of the value that it took out
pub record HasTaken {V O E : Type 0} (opening : V → O) (replays : V → List E → Type 0)
    (by : E → ℕ) (cutoff : V → ℕ) (old : View O E) (value : V) (new : View O E) : Type 0 where
  pub opened : old.opening ≡ Some (opening value)
  pub replayed : replays value new.seen
  pub begins : IsPrefix old.seen new.seen
  pub own : calls_by by old.pass new.seen ≡ old.mine
  pub lower : cutoff value ≤ old.known
  pub same : new ≡ record old {
    step = new.step;
    waits = new.waits;
    number = new.number;
    seen = new.seen;
    level = cutoff value;
  }

-- what a turn may put home: the value that the history, with what was added, leads to
pub record MayPut {V O E : Type 0} (opening : V → O) (replays : V → List E → Type 0)
    (by : E → ℕ) (cutoff : V → ℕ) (old : View O E) (value : V) (entry : Option E) : Type 0 where
  pub opened : old.opening ≡ Some (opening value)
  pub replayed : replays value (old.seen ++ told entry)
  pub own : (e : E) → entry ≡ Some e → by e ≡ old.pass
  pub lower : cutoff value ≤ old.level

-- what the seat knows where the value is home again, and the turn passed on
pub record HasPut {V O E : Type 0} (by : E → ℕ) (cutoff : V → ℕ) (old : View O E) (value : V)
    (entry : Option E) (new : View O E) : Type 0 where
  pub view : new ≡ record old {
    waits = 0;
    step = 0;
    seen = old.seen ++ told entry;
    mine = old.mine ++ told entry;
    known = cutoff value;
    level = cutoff value;
  }
  pub own : calls_by by new.pass new.seen ≡ new.mine

-- a seat's view, and what is out with it
abbrev pub Seated : Type 0 → Type 0 → Type 0 → Type 0
Seated V O E = Me (Option (Held V E)) (View O E)

module _ {V O E : Type 0} where
  -- a number is drawn
  pub record Drew (st : Step (Option (Held V E)))
      (m : Seated V O E) (found : ℕ) (m' : Seated V O E) : Type 0 where
    pub number : ℕ
    pub found_is : number % 2 ^ 64 ≡ found
    pub view : m'.0 ≡ record m.0 { waits = 1; number = number }
    pub slots : m'.1 ≡ m.1

  -- the turn is seen, where the word found is the seat's number
  pub record Saw (st : Step (Option (Held V E)))
      (m : Seated V O E) (found : ℕ) (m' : Seated V O E) : Type 0 where
    pub turn : found ≡ m.0.number % 2 ^ 64 → m'.0 ≡ record m.0 { step = 1 }
    pub other : found ≢ m.0.number % 2 ^ 64 → m'.0 ≡ m.0
    pub slots : m'.1 ≡ m.1

  -- the value is taken out
  pub record Took (opening : V → O) (replays : V → List E → Type 0) (by : E → ℕ)
      (cutoff : V → ℕ) (st : Step (Option (Held V E)))
      (m : Seated V O E) (found : ℕ) (m' : Seated V O E) : Type 0 where
    pub held : Held V E
    pub taken : HasTaken opening replays by cutoff m.0 held.value m'.0
    pub step : m'.0 ≡ record m.0 { step = 2; seen = m'.0.seen; level = cutoff held.value }
    pub slots : m'.1 ≡ (0, Some held) ∷ m.1

  -- it is put home, with what was added
  pub record Gave (by : E → ℕ) (cutoff : V → ℕ) (st : Step (Option (Held V E)))
      (m : Seated V O E) (found : ℕ) (m' : Seated V O E) : Type 0 where
    pub view : (h : Held V E) → m.1 ≡ (0, Some h) ∷ [] → m'.0 ≡ record m.0 {
      step = 3;
      seen = m.0.seen ++ told h.said.value;
      mine = m.0.mine ++ told h.said.value;
      level = cutoff h.value;
    }
    pub own : calls_by by m'.0.pass m'.0.seen ≡ m'.0.mine
    pub slots : m'.1 ≡ []

  -- the cutoff word is lowered to the value's
  pub record Lowered (st : Step (Option (Held V E)))
      (m : Seated V O E) (found : ℕ) (m' : Seated V O E) : Type 0 where
    pub view : m'.0 ≡ record m.0 { known = st.first }
    pub slots : m'.1 ≡ m.1

  -- the turn is passed on
  pub record Passed (st : Step (Option (Held V E)))
      (m : Seated V O E) (found : ℕ) (m' : Seated V O E) : Type 0 where
    pub view : m'.0 ≡ record m.0 { waits = 0; step = 0 }
    pub slots : m'.1 ≡ m.1

  -- the cutoff word is read
  pub record Looked (st : Step (Option (Held V E)))
      (m : Seated V O E) (found : ℕ) (m' : Seated V O E) : Type 0 where
    pub view : m'.0 ≡ record m.0 { known = found }
    pub falls : found ≤ m.0.known
    pub slots : m'.1 ≡ m.1

  -- what a note has is seen: both lists begin one history
  pub record Met (st : Step (Option (Held V E)))
      (m : Seated V O E) (found : ℕ) (m' : Seated V O E) : Type 0 where
    pub view : m'.0 ≡ record m.0 { seen = longer m.0.seen m.0.told; told = [] }
    pub mine : IsPrefix m.0.seen m'.0.seen
    pub theirs : IsPrefix m.0.told m'.0.seen
    pub slots : m'.1 ≡ m.1
