-- What contracts say of a seat.
use Rattle.std.specs.Prelude.{◌≡◌, ℕ, ◌%◌, ◌^◌, ◌≤◌, min, List, [], ◌∷◌, Some, None}
use Rattle.std.specs.Prelude.{slice_get, ◌+◌, length}
use mathlib.Core.Option.{some}
use mathlib.Core.List.{IsPrefix}
use lib.ListN.{get_elem?}
use Rattle.ug_turn.specs.declared.view.Ended.{Ended}
use Rattle.ug_turn.specs.Views.{end_of}
use Rattle.ug_turn.specs.Histories.{calls_by, longer}
use Rattle.atomic_table.specs.Seated.{TableId}
use Rattle.ug_turn.specs.declared.view.View.{View}
use Rattle.ug_turn.specs.declared.seat.Seat.{Seat}

module _ {V O E : Type 0} where
  -- what the seat knows
  abbrev pub view_of : Seat V O E → View O E
  view_of s = s.place.me.0

  -- the lock at which it sits
  abbrev pub lock_of : Seat V O E → TableId
  lock_of s = s.place.table_id

  -- it has a pass, and no number out
  pub record IsAtRest (s : Seat V O E) : Type 0 where
    pub role : (view_of s).role ≡ 1
    pub parts : (view_of s).parts ≡ 1
    pub waits : (view_of s).waits ≡ 0
    pub step : (view_of s).step ≡ 0
    pub told : (view_of s).told ≡ []
    pub ended : (view_of s).ended ≡ []
    pub slots : s.place.me.1 ≡ []

  -- it has a number out, and is at this step
  pub record IsAt (step : ℕ) (s : Seat V O E) : Type 0 where
    pub role : (view_of s).role ≡ 1
    pub parts : (view_of s).parts ≡ 1
    pub waits : (view_of s).waits ≡ 1
    pub step_is : (view_of s).step ≡ step
    pub number : s.number ≡ (view_of s).number % 2 ^ 64
    pub told : (view_of s).told ≡ []
    pub ended : (view_of s).ended ≡ []

  -- it has a number out, and has no value
  pub record IsWaiting (step : ℕ) (s : Seat V O E) : Type 0 where
    pub at : IsAt step s
    pub slots : s.place.me.1 ≡ []

  -- the value is out with it
  pub record IsOut (s : Seat V O E) : Type 0 where
    pub at : IsAt 2 s
    pub slots : s.place.me.1 ≡ (0, None) ∷ []

-- a new seat of pass k, which knows what the maker of passes knew
pub record IsNewSeat {V O E : Type 0} (lock : TableId) (v : View O E) (k : ℕ) (s : Seat V O E)
    : Type 0 where
  pub lock_is : lock_of s ≡ lock
  pub rest : IsAtRest s
  pub view : view_of s ≡ record v { role = 1; parts = 1; pass = k }

-- each seat is new, and of the pass of its place
abbrev pub AreNewSeats : {V O E : Type 0} → TableId → View O E → List (Seat V O E) → Type 0
AreNewSeats {V} {O} {E} lock v seats =
    (k : ℕ) (s : Seat V O E) → slice_get seats k ≡ Some s → IsNewSeat lock v k s

-- the maker of passes, which has this many to make
pub record IsMaking {O E : Type 0} (passes : ℕ) (v : View O E) : Type 0 where
  pub role : v.role ≡ 2
  pub parts : v.parts ≡ passes
  pub waits : v.waits ≡ 0
  pub step : v.step ≡ 0
  pub told : v.told ≡ []
  pub mine : v.mine ≡ []
  pub ended : v.ended ≡ []

-- a note that was made of what this seat had seen
pub record IsNoteOf {V O E : Type 0} (s note : Seat V O E) : Type 0 where
  pub lock : lock_of note ≡ lock_of s
  pub parts : (view_of note).parts ≡ 0
  pub seen : (view_of note).seen ≡ (view_of s).seen
  pub known : (view_of note).known ≡ (view_of s).known
  pub slots : note.place.me.1 ≡ []

-- a seat that is a note, not a pass
pub record IsNote {V O E : Type 0} (note : Seat V O E) : Type 0 where
  pub parts : (view_of note).parts ≡ 0
  pub slots : note.place.me.1 ≡ []

-- what a seat knows that was given a note: the longer list, which both begin
pub record HasMet {O E : Type 0} (old : View O E) (seen : List E) (known : ℕ) (new : View O E)
    : Type 0 where
  pub view : new ≡ record old {
    seen = longer old.seen seen;
    known = min old.known known;
    told = [];
  }
  pub mine : IsPrefix old.seen new.seen
  pub theirs : IsPrefix seen new.seen

-- a seat at rest at this lock
pub record IsAtRestAt {V O E : Type 0} (lock : TableId) (s : Seat V O E) : Type 0 where
  pub lock_is : lock_of s ≡ lock
  pub rest : IsAtRest s

-- each seat is at rest at this lock
abbrev pub AreAtRest : {V O E : Type 0} → TableId → List (Seat V O E) → Type 0
AreAtRest {V} {O} {E} lock seats =
    (k : ℕ) (s : Seat V O E) → slice_get seats k ≡ Some s → IsAtRestAt lock s

-- a seat that takes in passes which end
pub record IsGathering {V O E : Type 0} (lock : TableId) (s : Seat V O E) : Type 0 where
  pub lock_is : lock_of s ≡ lock
  pub role : (view_of s).role ≡ 1
  pub step : (view_of s).step ≡ 0
  pub slots : s.place.me.1 ≡ []

-- what each of these seats knew is kept
abbrev pub AreEnded : {V O E : Type 0} → List (Seat V O E) → List (Ended E) → Type 0
AreEnded {V} {O} {E} seats ended =
    (k : ℕ) (s : Seat V O E) → slice_get seats k ≡ Some s
    → (i : ℕ) × (get_elem? ended i ≡ some (end_of (view_of s)))

-- the passes of these seats have ended with a seat, which else is as it was
pub record HasGathered {V O E : Type 0} (old : View O E) (seats : List (Seat V O E))
    (new : View O E) : Type 0 where
  pub view : new ≡ record old { parts = old.parts + length seats; ended = new.ended }
  pub ended : AreEnded seats new.ended

-- what stands for one pass where the lock is closed: the history begins with what it has seen, and
-- its entries there are its own calls, each once
pub record IsInHistory {O E : Type 0} (by : E → ℕ) (history : List E) (v : View O E) : Type 0 where
  pub begins : IsPrefix v.seen history
  pub own : calls_by by v.pass history ≡ v.mine

-- one of these seats began with this opening, and so did all
pub record HaveOpening {V O E : Type 0} (seats : List (Seat V O E)) (opening : O) : Type 0 where
  pub opener : Seat V O E
  pub place : ℕ
  pub there : slice_get seats place ≡ Some opener
  pub same : (view_of opener).opening ≡ Some opening

-- what stands where the lock is closed: the value is what a history leads to, in which each pass
-- has its calls, and nobody else has one
pub record IsClosed {V O E : Type 0} (opening : V → O) (replays : V → List E → Type 0)
    (by : E → ℕ) (passes : ℕ) (seats : List (Seat V O E)) (value : V) : Type 0 where
  pub history : List E
  pub replayed : replays value history
  pub opened : HaveOpening seats (opening value)
  pub each : (k : ℕ) (s : Seat V O E) → slice_get seats k ≡ Some s
      → IsInHistory by history (view_of s)
  pub none : (p : ℕ) → passes ≤ p → calls_by by p history ≡ []

-- a value at the end: it is what a history leads to, which begins with what the seat and each pass
-- that ended with it had seen, and in which the entries of each pass are its own calls
pub record EndsWith {V O E : Type 0} (opening : V → O) (replays : V → List E → Type 0)
    (by : E → ℕ) (passes : ℕ) (v : View O E) (value : V) : Type 0 where
  pub history : List E
  pub replayed : replays value history
  pub opened : v.opening ≡ Some (opening value)
  pub begins : IsPrefix v.seen history
  pub own : calls_by by v.pass history ≡ v.mine
  pub ended : (k : ℕ) (e : Ended E) → get_elem? v.ended k ≡ some e
      → IsPrefix e.seen history × (calls_by by e.pass history ≡ e.mine)
  pub none : (p : ℕ) → passes ≤ p → calls_by by p history ≡ []
