-- What seats know: plain views, of which no value is made.
use Rattle.std.specs.Prelude.{ℕ, ◌+◌, ◌-◌, ◌^◌, min, [], ◌∷◌, ◌++◌, Some, None}
use Rattle.ug_turn.specs.declared.view.View.{View}
use Rattle.ug_turn.specs.declared.view.Ended.{Ended}

module _ {O E : Type 0} where
  -- the maker at the beginning: it has the right to make all passes
  abbrev pub maker : ℕ → O → ℕ → View O E
  maker passes opening word = record {
    role = 2;
    parts = passes;
    waits = 0;
    number = 0;
    step = 0;
    pass = 0;
    opening = Some opening;
    seen = [];
    told = [];
    mine = [];
    known = word;
    level = 0;
    ended = [];
  }

  -- what the maker has left where a pass is made
  abbrev pub less_one : View O E → View O E
  less_one v = record v { parts = v.parts - 1; pass = v.pass + 1 }

  -- the pass that is made has the next number, and has made no call
  abbrev pub next_pass : View O E → View O E
  next_pass v = record v { role = 1; parts = 1; mine = [] }

  -- a note of what was seen
  abbrev pub note_of : View O E → View O E
  note_of v = record {
    role = 0;
    parts = 0;
    waits = 0;
    number = 0;
    step = 0;
    pass = 0;
    opening = None;
    seen = v.seen;
    told = [];
    mine = [];
    known = v.known;
    level = 0;
    ended = [];
  }

  -- a seat that was joined to another knows nothing
  abbrev pub spent : View O E
  spent = record {
    role = 0;
    parts = 0;
    waits = 0;
    number = 0;
    step = 0;
    pass = 0;
    opening = None;
    seen = [];
    told = [];
    mine = [];
    known = 2 ^ 64 - 1;
    level = 0;
    ended = [];
  }

  -- a note was given to the seat
  abbrev pub informed : View O E → View O E → View O E
  informed v w = record v { told = w.seen; known = min v.known w.known }

  -- the record of a pass that has ended
  abbrev pub end_of : View O E → Ended E
  end_of v = record { pass = v.pass; seen = v.seen; mine = v.mine }

  -- a pass took in another, which has ended
  abbrev pub with_ended : View O E → View O E → View O E
  with_ended v w = record v { parts = v.parts + w.parts; ended = v.ended ++ end_of w ∷ [] }
