-- What stands where a value was put home.
use Rattle.std.proofs.Common.{◌≡◌, ℕ, ◌%◌, ◌^◌, List, [], ◌∷◌, ◌++◌, sym, ap, ◌∙◌, subst, Option, Some, None}
use mathlib.Core.Option.{none}
use Rattle.atomic_table.specs.Table.{Me, Step, step, Allows, rest}
use Rattle.ug_turn.specs.declared.view.View.{View}
use Rattle.ug_turn.specs.declared.held.Held.{Held}
use Rattle.ug_turn.specs.declared.seat.Seat.{Seat}
use Rattle.ug_turn.specs.Histories.{told}
use Rattle.ug_turn.specs.Steps.{MayPut, Gave}
use Rattle.ug_turn.specs.Seats.{IsAt, IsWaiting, view_of}
use Rattle.ug_turn.proofs.Keeping.{Rule, puts_home}

module _ {V O E : Type 0} (opening : V → O) (replays : V → List E → Type 0) (by : E → ℕ) (cutoff : V → ℕ) (passes : ℕ) (start : O) where
  -- the step, where what is out is known by an equation, and the entry too
  pub puts_home_as : (slots id : ℕ) (me : Me (Option (Held V E)) (View O E)) (v : View O E) (h : Held V E) (entry : Option E) → me ≡ (v, (0, Some h) ∷ []) → h.said.value ≡ entry → v.role ≡ 1 → v.step ≡ 2 → MayPut opening replays by cutoff v h.value entry
      → Allows (Rule opening replays by cutoff passes start) slots id me 1 (λ n. n) (Gave by cutoff (step slots 1 0 0 none) me)
  puts_home_as slots id me v h entry is said its_pass is_out may =
      subst (λ (m : Me (Option (Held V E)) (View O E)). Allows (Rule opening replays by cutoff passes start) slots id m 1 (λ n. n) (Gave by cutoff (step slots 1 0 0 none) m)) (sym is)
      (puts_home opening replays by cutoff passes start slots id v h its_pass is_out (subst (λ e. MayPut opening replays by cutoff v h.value e) (sym said) may))

module _ {V O E : Type 0} where
  -- the value that is out, if the slot that was taken is written
  pub written : (m m' : Me (Option (Held V E)) (View O E)) (h : Held V E) → m' ≡ (m.0, (0, Some h) ∷ rest m.1) → m.1 ≡ (0, None) ∷ [] → m' ≡ (m.0, (0, Some h) ∷ [])
  written m m' h now was = now ∙ ap (λ (l : List (ℕ × Option (Held V E))). (m.0, (0, Some h) ∷ rest l)) was

module _ {V O E : Type 0} (by : E → ℕ) (cutoff : V → ℕ) where
  -- the view after it
  pub given : (st : Step (Option (Held V E))) (m m' : Me (Option (Held V E)) (View O E)) (found : ℕ) (v : View O E) (h : Held V E) (entry : Option E) → Gave by cutoff st m found m' → m ≡ (v, (0, Some h) ∷ []) → h.said.value ≡ entry
      → m'.0 ≡ record v { step = 3; seen = v.seen ++ told entry; mine = v.mine ++ told entry; level = cutoff h.value }
  given st m m' found v h entry gave is said =
      gave.view h (ap (λ (x : Me (Option (Held V E)) (View O E)). x.1) is)
      ∙ ap (λ (x : View O E × Option E). record x.0 { step = 3; seen = x.0.seen ++ told x.1; mine = x.0.mine ++ told x.1; level = cutoff h.value }) (λ i. ((is i).0, said i))

  -- the seat waits to pass the turn on
  pub given_seat : (s s' : Seat V O E) (entry : Option E) (value : V) → IsAt 2 s → s'.number ≡ s.number → s'.place.me.1 ≡ []
      → view_of s' ≡ record (view_of s) { step = 3; seen = (view_of s).seen ++ told entry; mine = (view_of s).mine ++ told entry; level = cutoff value } → IsWaiting 3 s'
  given_seat s s' entry value at number slots view = record {
    at = record {
      role = ap (λ (v : View O E). v.role) view ∙ at.role;
      parts = ap (λ (v : View O E). v.parts) view ∙ at.parts;
      waits = ap (λ (v : View O E). v.waits) view ∙ at.waits;
      step_is = ap (λ (v : View O E). v.step) view;
      number = number ∙ (at.number ∙ sym (ap (λ (v : View O E). v.number % 2 ^ 64) view));
      told = ap (λ (v : View O E). v.told) view ∙ at.told;
      ended = ap (λ (v : View O E). v.ended) view ∙ at.ended;
    };
    slots = slots;
  }
