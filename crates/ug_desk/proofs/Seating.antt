-- Seats and passes, one by one.
use mathlib.Core.List.{IsPrefix}
use Rattle.std.proofs.Common.{◌≡◌, ℕ, zero, suc, ℤ, ◌<◌, ◌≤◌, ◌+◌, List, [], ◌∷◌, ◌++◌, length, Option, Some, IfSome, refl, sym, ap, ◌∙◌, subst, arith}
use Rattle.std.specs.Prelude.{slice_get}
use Rattle.std.proofs.lemmas.List.{length-append}
use Rattle.std.proofs.lemmas.Option.{none-some, same_Some}
use Rattle.atomic_table.specs.Seated.{TableId}
use Rattle.ug_book.specs.declared.opening.Opening.{Opening}
use Rattle.ug_turn.specs.Seats as turn
use Rattle.ug_turn.specs.Seats.{IsAtRestAt, IsNewSeat, lock_of, view_of}
use Rattle.ug_turn.specs.Views.{maker}
use Rattle.ug_desk.specs.declared.locked_book.LockedBook.{LockedBook}
use Rattle.ug_desk.specs.Histories.{Entry}
use Rattle.ug_desk.specs.Entries.{LockedState}
use Rattle.ug_desk.specs.Passes.{AreNewPasses, AreSeatsOf, IsClosed, IsInHistory, IsNewPass, IsSeatOf, PassState, calls_of, pass_seen}
use Rattle.ug_desk.specs.LockedBooks.{AreFreshSeats, IsFreshSeat, Leads, SeatState, ViewState, on, opening_of, pass_by}
use Rattle.ug_desk.specs.Words.{floor_of}

module _ {X : Type 0} where
  -- the item behind this many
  pub next_at : (xs ys : List X) (x : X) → slice_get (xs ++ x ∷ ys) (length xs) ≡ Some x
  next_at [] ys x = refl
  next_at (y ∷ xs) ys x = next_at xs ys x

  -- a fact about each item and about one more
  pub each_more : (P : ℕ → X → Type 0) (xs : List X) (x : X)
      → ((k : ℕ) (y : X) → slice_get xs k ≡ Some y → P k y) → P (length xs) x
      → (k : ℕ) (y : X) → slice_get (xs ++ x ∷ []) k ≡ Some y → P k y
  each_more P [] x all last zero y e = subst (λ (z : X). P 0 z) (same_Some x y e) last
  each_more P [] x all last (suc k) y e = absurd (none-some y e)
  each_more P (z ∷ xs) x all last zero y e = all zero y e
  each_more P (z ∷ xs) x all last (suc k) y e =
      each_more (λ n. P (suc n)) xs x (λ n. all (suc n)) last k y e

-- the seat behind this many is fresh
pub fresh_at : (lock : TableId) (o : Opening) (seats before rest : List SeatState) (s : SeatState)
    → before ++ s ∷ rest ≡ seats → AreFreshSeats lock o seats → IsFreshSeat lock o (length before) s
fresh_at lock o seats before rest s is fresh =
    fresh (length before) s
    (subst (λ (all : List SeatState). slice_get all (length before) ≡ Some s) is (next_at before rest s))

module _ {X Y : Type 0} (R : X → Y → Type 0) where
  -- a fact about the items of two lists, place by place, and about one more of each
  pub pairs_more : (xs : List X) (ys : List Y) (x : X) (y : Y) → length ys ≡ length xs
      → ((k : ℕ) (a : X) (b : Y) → slice_get xs k ≡ Some a → slice_get ys k ≡ Some b → R a b)
      → R x y
      → (k : ℕ) (a : X) (b : Y) → slice_get (xs ++ x ∷ []) k ≡ Some a
      → slice_get (ys ++ y ∷ []) k ≡ Some b → R a b
  pairs_more [] [] x y e all last zero a b f g =
      subst (λ (c : X). R c b) (same_Some x a f) (subst (λ (d : Y). R x d) (same_Some y b g) last)
  pairs_more [] [] x y e all last (suc k) a b f g = absurd (none-some a f)
  pairs_more [] (d ∷ ys) x y e all last k a b f g = absurd (omega (arith, e))
  pairs_more (c ∷ xs) [] x y e all last k a b f g = absurd (omega (arith, e))
  pairs_more (c ∷ xs) (d ∷ ys) x y e all last zero a b f g = all zero a b f g
  pairs_more (c ∷ xs) (d ∷ ys) x y e all last (suc k) a b f g =
      pairs_more xs ys x y (omega (arith, e)) (λ n. all (suc n)) last k a b f g

module _ {X Y : Type 0} where
  -- if one of two lists of the same length has an item, the other has one
  pub partner : (xs : List X) (ys : List Y) → length ys ≡ length xs → (k : ℕ) (y : Y)
      → slice_get ys k ≡ Some y → (x : X) × (slice_get xs k ≡ Some x)
  partner [] [] e k y g = absurd (none-some y g)
  partner [] (d ∷ ys) e k y g = absurd (omega (arith, e))
  partner (c ∷ xs) [] e k y g = absurd (omega (arith, e))
  partner (c ∷ xs) (d ∷ ys) e zero y g = (c, refl)
  partner (c ∷ xs) (d ∷ ys) e (suc k) y g = partner xs ys (omega (arith, e)) k y g

pub seats_more : (passes : List PassState) (seats : List SeatState) (p : PassState) (s : SeatState)
    → AreSeatsOf passes seats → IsSeatOf p s → AreSeatsOf (passes ++ p ∷ []) (seats ++ s ∷ [])
seats_more passes seats p s all last = record {
  count = length-append seats (s ∷ []) ∙ (ap (λ (n : ℕ). n + 1) all.count ∙ sym (length-append passes (p ∷ [])));
  each = pairs_more IsSeatOf passes seats p s all.count all.each last;
}

-- a new seat of a lock round a locked book
pub fresh_new : (lock : TableId) (o : Opening) (n word k : ℕ) (s : SeatState)
    → IsNewSeat lock (maker n o word) k s → IsFreshSeat lock o k s
fresh_new lock o n word k s h = record {
  lock_is = h.lock_is;
  rest = h.rest;
  own = ap (λ (v : ViewState). v.pass) h.view;
  opened = ap (λ (v : ViewState). v.opening) h.view;
  seen = ap (λ (v : ViewState). v.seen) h.view;
  mine = ap (λ (v : ViewState). v.mine) h.view;
}

-- the rank of a fresh seat is one of the opening's
pub fresh_here : (lock : TableId) (o : Opening) (k rank n : ℕ) (s : SeatState) → IsFreshSeat lock o k s
    → rank ≡ k → k < n → n ≤ o.settings.solvers
    → IfSome (view_of s).opening (λ q. rank < q.settings.solvers)
fresh_here lock o k rank n s h is below few =
    subst (λ (q : Option Opening). IfSome q (λ u. rank < u.settings.solvers)) (sym h.opened)
    (omega (arith, is, below, few))

pub fresh_floor : (lock : TableId) (o : Opening) (k : ℕ) (floor : ℤ) (s : SeatState) → IsFreshSeat lock o k s
    → floor ≡ floor_of o.problem → IfSome (view_of s).opening (λ q. floor ≡ floor_of q.problem)
fresh_floor lock o k floor s h is =
    subst (λ (q : Option Opening). IfSome q (λ u. floor ≡ floor_of u.problem)) (sym h.opened) is

-- the pass of a fresh seat
pub new_pass : (lock : TableId) (o : Opening) (k rank : ℕ) (s : SeatState) (p : PassState)
    → IsFreshSeat lock o k s → rank ≡ k → p ≡ pass_seen (lock_of s) rank (view_of s) → IsNewPass lock o k p
new_pass lock o k rank s p h is shows = subst (IsNewPass lock o k) (sym shows) (record {
  lock_is = h.lock_is;
  rank_is = is;
  opened = h.opened;
  seen = h.seen;
  mine = h.mine;
})

pub passes_more : (lock : TableId) (o : Opening) (passes : List PassState) (p : PassState)
    → AreNewPasses lock o passes → IsNewPass lock o (length passes) p
    → AreNewPasses lock o (passes ++ p ∷ [])
passes_more lock o passes p all last = each_more (IsNewPass lock o) passes p all last

-- the seats of passes at a lock are at rest there
pub seats_rest : (lock : TableId) (passes : List PassState) (seats : List SeatState) → AreSeatsOf passes seats
    → ((k : ℕ) (p : PassState) → slice_get passes k ≡ Some p → p.lock ≡ lock)
    → (k : ℕ) (s : SeatState) → slice_get seats k ≡ Some s → IsAtRestAt lock s
seats_rest lock passes seats all here k s there =
    let p = partner passes seats all.count k s there in
    subst (λ (l : TableId). IsAtRestAt l s) (here k p.0 p.1) (all.each k p.0 s p.1 there).rest

seat_in : (history : List Entry) (p : PassState) (s : SeatState) → IsSeatOf p s
    → turn.IsInHistory pass_by history (view_of s) → IsInHistory history p
seat_in history p s of h = record {
  begins = subst (λ (l : List Entry). IsPrefix l history) (ap (λ (q : PassState). q.seen) of.view) h.begins;
  own = subst (λ (r : ℕ). calls_of r history ≡ p.mine) of.own
      (h.own ∙ ap (λ (q : PassState). q.mine) of.view);
}

-- what a desk is closed with
pub closed_so : (n : ℕ) (passes : List PassState) (seats : List SeatState) (locked_book : LockedBook) (l : LockedState)
    → AreSeatsOf passes seats → turn.IsClosed opening_of Leads pass_by n seats locked_book → length passes ≡ n
    → l ≡ on locked_book → IsClosed passes l
closed_so n passes seats locked_book l all h count is = subst (IsClosed passes) (sym is) (record {
  history = h.history;
  replayed = h.replayed;
  opened = λ o began.
      let p = partner passes seats all.count h.opened.place h.opened.opener h.opened.there in
      let of = all.each h.opened.place p.0 h.opened.opener p.1 h.opened.there in
      same_Some (opening_of locked_book) o
      (sym h.opened.same ∙ (ap (λ (q : PassState). q.opening) of.view ∙ began h.opened.place p.0 p.1));
  each = λ k p there.
      let s = partner seats passes (sym all.count) k p there in
      seat_in h.history p s.0 (all.each k p s.0 there s.1) (h.each k s.0 s.1);
  none = λ r past. h.none r (omega (arith, past, count));
})
