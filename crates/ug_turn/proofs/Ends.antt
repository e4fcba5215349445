-- What stands when a lock is closed by a seat that has all passes.
use Rattle.std.proofs.Common.{◌≡◌, ◌≢◌, ◌⊎◌, ℕ, zero, suc, ◌+◌, ◌<◌, ◌≤◌, List, [], ◌∷◌, ◌++◌, length, inl, inr, ⊎_elim, refl, sym, ap, ◌∙◌, subst, arith, append_assoc, Option, Some, slice_get}
use Rattle.std.specs.Prelude.{Bool, true, false, slice_index_or}
use mathlib.Core.List.{IsPrefix}
use Rattle.atomic_table.specs.Seated.{TableId}
use Rattle.atomic_table.proofs.Lists.{at_last, at_longer}
use Rattle.ug_turn.specs.declared.view.Ended.{Ended}
use Rattle.ug_turn.specs.declared.seat.Seat.{Seat}
use Rattle.ug_turn.specs.Histories.{calls_by}
use Rattle.ug_turn.specs.Views.{end_of, with_ended}
use mathlib.Core.Logic.{dite}
use native.Mathlib.Decide.{ℕ_discrete}
use mathlib.Core.Option.{some, some-injective}
use lib.ListN.{get_elem?}
use Rattle.atomic_table.specs.Table.{State, Final, Seen}
use Rattle.ug_turn.specs.declared.view.View.{View}
use Rattle.ug_turn.specs.declared.held.Held.{Held}
use Rattle.ug_turn.specs.Seats.{AreEnded, AreNewSeats, EndsWith, HasGathered, IsAtRestAt, IsClosed, IsGathering, IsInHistory, IsNewSeat, view_of}
use Rattle.ug_turn.proofs.Lists.{total_two}
use Rattle.ug_turn.proofs.Keeping.{Rule}

module _ {V O E : Type 0} (opening : V → O) (replays : V → List E → Type 0) (by : E → ℕ) (cutoff : V → ℕ) (passes : ℕ) (start : O) where
  -- nobody has the value where one seat has all passes and no turn
  nobody : (s : State (Option (Held V E)) (View O E)) (r : Rule opening replays by cutoff passes start s) (id : ℕ) (v : View O E) → get_elem? s.views id ≡ some v → v.parts ≡ passes → v.step ≡ 0
      → (j : ℕ) (u : View O E) → get_elem? s.views j ≡ some u → u.step ≢ 2
  nobody s r id v at all no_turn j u e two =
      dite (ℕ_discrete j id)
      (λ same. let is : u ≡ v = some-injective u v (sym e ∙ (ap (λ (i : ℕ). get_elem? s.views i) same ∙ at)) in let same' = ap (λ (x : View O E). x.step) is in omega arith)
      (λ other.
      let two' = total_two (λ x. x.parts) s.views id j v u other at e in
      let parts = r.parts in
      let g = r.each j u e in
      let few = g.few in
      let turn = (g.turn (omega arith)).0 in
      omega arith)

  -- the value is there, and its history has all that the seat and the passes that ended with it
  -- knew
  pub closes : (ws : List ℕ) (xs : List (Option (Held V E))) (id : ℕ) (v : View O E) → v.role ≡ 1 → v.parts ≡ passes → v.step ≡ 0
      → Final (Seen (Rule opening replays by cutoff passes start) id v) ws xs
      → (h : Held V E) × (get_elem? xs 0 ≡ some (Some h)) × EndsWith opening replays by passes v h.value
  closes ws xs id v its_pass all no_turn final =
      let s = final.0 in
      let r = final.1.0 in
      let at = final.1.1 in
      let f = r.each id v at in
      let q = f.pass its_pass in
      let x = r.home (nobody s r id v at all no_turn) in
      let ish = x.2 in (
        x.0,
        final.4 0 (Some x.0) x.1,
        record {
          history = r.m.log;
          replayed = ish.replayed;
          opened = f.opening (omega arith) ∙ ap Some (sym ish.opening_is);
          begins = f.seen;
          own = q.own;
          ended = λ k e there. let z = q.ends k e there in (z.seen, z.mine);
          none = r.none;
        },
      )

-- ---- lists of seats

module _ {A : Type 0} where
  pub snoc_get : (xs : List A) (a b : A) (k : ℕ) → slice_get (xs ++ a ∷ []) k ≡ Some b → (slice_get xs k ≡ Some b) ⊎ ((k ≡ length xs) × (a ≡ b))
  snoc_get [] a b zero e = inr (refl, cc (e))
  snoc_get [] a b (suc k) e = absurd (cc (e))
  snoc_get (x ∷ xs) a b zero e = inl e
  snoc_get (x ∷ xs) a b (suc k) e = ⊎_elim (λ t. inl t) (λ t. inr (ap suc t.0, t.1)) (snoc_get xs a b k e)

  -- an item of a prefix is in the whole
  pub front_get : (xs ys : List A) (k : ℕ) (a : A) → slice_get xs k ≡ Some a → slice_get (xs ++ ys) k ≡ Some a
  front_get [] ys k a e = absurd (cc (e))
  front_get (x ∷ xs) ys zero a e = e
  front_get (x ∷ xs) ys (suc k) a e = front_get xs ys k a e

  -- the last follows the others
  pub last_get : (xs : List A) (a : A) → slice_get (xs ++ a ∷ []) (length xs) ≡ Some a
  last_get [] a = refl
  last_get (x ∷ xs) a = last_get xs a

-- the element that was taken from the end, where others were taken before
pub popped_get : {A : Type 0} (all old new gone : List A) (x : A) → all ≡ old ++ gone → old ≡ new ++ x ∷ [] → slice_get all (length new) ≡ Some x
popped_get all old new gone x is was =
    subst (λ (l : List _). slice_get l (length new) ≡ Some x) (sym is)
    (front_get old gone (length new) x (subst (λ (l : List _). slice_get l (length new) ≡ Some x) (sym was) (last_get new x)))

-- the rest, and what was taken
pub popped_rest : {A : Type 0} (all old new gone : List A) (x : A) → all ≡ old ++ gone → old ≡ new ++ x ∷ [] → all ≡ new ++ x ∷ gone
popped_rest all old new gone x is was = is ∙ (ap (λ l. l ++ gone) was ∙ append_assoc new (x ∷ []) gone)

module _ {V O E : Type 0} where
  -- one new seat more
  pub new_more : (lock : TableId) (v : View O E) (xs : List (Seat V O E)) (x : Seat V O E) → AreNewSeats lock v xs → IsNewSeat lock v (length xs) x → AreNewSeats lock v (xs ++ x ∷ [])
  new_more lock v xs x all one k s e =
      ⊎_elim (λ was. all k s was) (λ (t : (k ≡ length xs) × (x ≡ s)). subst (λ (y : ℕ × Seat V O E). IsNewSeat lock v y.0 y.1) (λ i. (sym t.0 i, t.1 i)) one) (snoc_get xs x s k e)

  -- one pass more has ended
  pub ended_more : (xs : List (Seat V O E)) (x : Seat V O E) (ended : List (Ended E)) → AreEnded xs ended → AreEnded (x ∷ xs) (ended ++ end_of (view_of x) ∷ [])
  ended_more xs x ended all zero s e =
      let is : x ≡ s = cc (e) in
      (length ended, subst (λ (y : Seat V O E). get_elem? (ended ++ end_of (view_of x) ∷ []) (length ended) ≡ some (end_of (view_of y))) is (at_last ended (end_of (view_of x)) (length ended) refl))
  ended_more xs x ended all (suc k) s e =
      let was = all k s e in (was.0, at_longer ended (end_of (view_of x) ∷ []) was.0 (end_of (view_of s)) was.1)

  -- no pass has ended
  pub gathered_none : (v : View O E) → HasGathered {V = V} v [] v
  gathered_none v = record {
    view = let same : v.parts ≡ v.parts + 0 = omega arith in ap (λ (n : ℕ). record v { parts = n }) same;
    ended = λ k s e. absurd (cc (e));
  }

  -- one pass more has ended
  pub gathered_more : (v v' v'' : View O E) (gone : List (Seat V O E)) (x : Seat V O E) → HasGathered v gone v' → v'' ≡ with_ended v' (view_of x) → (view_of x).parts ≡ 1 → HasGathered v (x ∷ gone) v''
  gathered_more v v' v'' gone x g is one =
      let parts : v'.parts ≡ v.parts + length gone = ap (λ (y : View O E). y.parts) g.view in
      let more : v'.parts + (view_of x).parts ≡ v.parts + length (x ∷ gone) = omega arith in
      let ended : v''.ended ≡ v'.ended ++ end_of (view_of x) ∷ [] = ap (λ (y : View O E). y.ended) is in record {
        view = is ∙ (ap (λ (y : View O E). record y { parts = v'.parts + (view_of x).parts; ended = v'.ended ++ end_of (view_of x) ∷ [] }) g.view
            ∙ ap (λ (y : ℕ × List (Ended E)). record v { parts = y.0; ended = y.1 }) (λ i. (more i, sym ended i)));
        ended = subst (AreEnded (x ∷ gone)) (sym ended) (ended_more gone x v'.ended g.ended);
      }

  -- a seat at rest may take in others
  pub may_gather : (lock : TableId) (s : Seat V O E) → IsAtRestAt lock s → IsGathering lock s
  may_gather lock s at = record { lock_is = at.lock_is; role = at.rest.role; step = at.rest.step; slots = at.rest.slots }

  -- a fact about a seat and about those that ended with it holds of all of them
  pub closed_of : (opening : V → O) (replays : V → List E → Type 0) (by : E → ℕ) (passes : ℕ) (seats front : List (Seat V O E)) (last : Seat V O E) (v : View O E) (value : V)
      → seats ≡ front ++ last ∷ [] → HasGathered (view_of last) front v → EndsWith opening replays by passes v value → IsClosed opening replays by passes seats value
  closed_of opening replays by passes seats front last v value is gathered ends = record {
    history = ends.history;
    replayed = ends.replayed;
    opened = record {
      opener = last;
      place = length front;
      there = subst (λ l. slice_get l (length front) ≡ Some last) (sym is) (last_get front last);
      same = sym (ap (λ (w : View O E). w.opening) gathered.view) ∙ ends.opened;
    };
    each = λ k s e. ⊎_elim
        (λ was. let there = gathered.ended k s was in let z = ends.ended there.0 (end_of (view_of s)) there.1 in record { begins = z.0; own = z.1 })
        (λ (t : (k ≡ length front) × (last ≡ s)). subst (λ (y : Seat V O E). IsInHistory by ends.history (view_of y)) t.1 record {
          begins = subst (λ l. IsPrefix l ends.history) (ap (λ (w : View O E). w.seen) gathered.view) ends.begins;
          own = subst (λ (w : ℕ × List E). calls_by by w.0 ends.history ≡ w.1) (λ i. ((gathered.view i).pass, (gathered.view i).mine)) ends.own;
        })
        (snoc_get front last s k (subst (λ l. slice_get l k ≡ Some s) is e));
    none = ends.none;
  }

-- ---- the slot of a closed table

-- its one place is full
pub one_full : (fs : List Bool) (n : ℕ) → n ≡ 1 → ((k : ℕ) → 0 ≤ k → k < n → slice_index_or fs k false ≡ true) → slice_index_or fs 0 false ≡ true
one_full fs n one full = full 0 (omega arith) (omega arith)

pub same_some : {A : Type 0} (xs : List A) (a b : A) → get_elem? xs 0 ≡ some a → get_elem? xs 0 ≡ some b → a ≡ b
same_some xs a b one two = some-injective a b (sym one ∙ two)
