-- The rule of a lock by turns. Word 0 is the next number, word 1 the number that is served, word 2
-- the cutoff; slot 0 has the value.
use Rattle.std.specs.Prelude.{◌≡◌, ◌≢◌, ℕ, ◌+◌, ◌%◌, ◌^◌, ◌<◌, ◌≤◌, List, [], ◌∷◌, length}
use Rattle.std.specs.Prelude.{slice_index, Option, Some}
use mathlib.Core.Option.{some}
use mathlib.Core.List.{IsPrefix}
use lib.ListN.{get_elem?}
use Rattle.atomic_table.specs.Table.{State}
use Rattle.ug_turn.specs.declared.view.View.{View}
use Rattle.ug_turn.specs.declared.view.Ended.{Ended}
use Rattle.ug_turn.specs.declared.held.Held.{Held}
use Rattle.ug_turn.specs.Histories.{calls_by}

-- the state at a moment, over all seats: the numbers drawn and served, who drew each, which seat
-- has each pass, what the history began with, the history, and the cutoffs of value and word
pub record Moment (O E : Type 0) : Type 0 where
  pub drawn : ℕ
  pub served : ℕ
  pub owner : ℕ → ℕ
  pub seat_of : ℕ → ℕ
  pub start : O
  pub log : List E
  pub level : ℕ
  pub word : ℕ

-- a sum over all views
abbrev pub total : {O E : Type 0} → (View O E → ℕ) → List (View O E) → ℕ
total f [] = 0
total f (v ∷ vs) = f v + total f vs

-- a pass that has ended and is kept by seat j, beside the pass that this seat has
pub record KeepsEnd {E : Type 0} (by : E → ℕ) (seat_of : ℕ → ℕ) (log : List E) (j pass : ℕ)
    (e : Ended E) : Type 0 where
  pub seen : IsPrefix e.seen log
  pub mine : calls_by by e.pass log ≡ e.mine
  pub kept : seat_of e.pass ≡ j
  pub other : e.pass ≢ pass

-- seat j has a pass: the history's entries of the pass are its own calls, each once
pub record FitsPass {E : Type 0} (by : E → ℕ) (passes : ℕ) (seat_of : ℕ → ℕ) (log : List E)
    (j pass : ℕ) (mine : List E) (ended : List (Ended E)) : Type 0 where
  pub below : pass < passes
  pub its : seat_of pass ≡ j
  pub own : calls_by by pass log ≡ mine
  pub ends : (k : ℕ) (e : Ended E) → get_elem? ended k ≡ some e → KeepsEnd by seat_of log j pass e

-- the maker at seat j has the passes from some number on, and these have no entry
pub record FitsMaker {E : Type 0} (by : E → ℕ) (seat_of : ℕ → ℕ) (log : List E) (j pass : ℕ)
    : Type 0 where
  pub its : (p : ℕ) → pass ≤ p → seat_of p ≡ j
  pub none : (p : ℕ) → pass ≤ p → calls_by by p log ≡ []

-- what the rule says of seat j
pub record Fits {O E : Type 0} (by : E → ℕ) (passes : ℕ) (m : Moment O E) (j : ℕ)
    (v : View O E) : Type 0 where
  pub few : v.waits ≤ v.parts
  pub number : 0 < v.waits
      → (m.served ≤ v.number) × (v.number < m.drawn) × (m.owner v.number ≡ j)
  pub turn : 0 < v.step → (0 < v.waits) × (v.number ≡ m.served)
  pub opening : 0 < v.role → v.opening ≡ Some m.start
  pub seen : IsPrefix v.seen m.log
  pub told : IsPrefix v.told m.log
  pub whole : 1 < v.step → (v.seen ≡ m.log) × (v.level ≡ m.level)
  pub known : m.word ≤ v.known
  pub pass : v.role ≡ 1 → FitsPass by passes m.seat_of m.log j v.pass v.mine v.ended
  pub maker : v.role ≡ 2 → FitsMaker by m.seat_of m.log j v.pass

-- the value replays the history from its opening, and has this cutoff
pub record IsHome {V O E : Type 0} (opening : V → O) (replays : V → List E → Type 0)
    (cutoff : V → ℕ) (start : O) (log : List E) (level : ℕ) (h : Held V E) : Type 0 where
  pub opening_is : opening h.value ≡ start
  pub replayed : replays h.value log
  pub level_is : cutoff h.value ≡ level

-- all that holds between two steps, with this many passes and this opening
pub record Turns {V O E : Type 0} (opening : V → O) (replays : V → List E → Type 0)
    (by : E → ℕ) (cutoff : V → ℕ) (passes : ℕ) (start : O)
    (s : State (Option (Held V E)) (View O E)) : Type 0 where
  pub m : Moment O E
  pub started : m.start ≡ start
  pub few : passes < 2 ^ 64
  pub three : length s.words ≡ 3
  pub one : length s.homes ≡ 1
  pub next_is : slice_index s.words 0 ≡ m.drawn % 2 ^ 64
  pub serving_is : slice_index s.words 1 ≡ m.served % 2 ^ 64
  pub word_is : slice_index s.words 2 ≡ m.word
  pub small : m.word < 2 ^ 64
  pub lower : m.level ≤ m.word
  pub waiting : total (λ v. v.waits) s.views + m.served ≡ m.drawn
  pub parts : total (λ v. v.parts) s.views ≡ passes
  pub none : (p : ℕ) → passes ≤ p → calls_by by p m.log ≡ []
  pub each : (j : ℕ) (v : View O E) → get_elem? s.views j ≡ some v → Fits by passes m j v
  -- the value is at home unless a seat has it out
  pub home : ((j : ℕ) (v : View O E) → get_elem? s.views j ≡ some v → v.step ≢ 2)
      → (h : Held V E) × (get_elem? s.homes 0 ≡ some (some (Some h)))
      × IsHome opening replays cutoff m.start m.log m.level h
