-- The seats that are made, one after another.
use Rattle.std.proofs.Common.{◌≡◌, ℕ, ◌+◌, ◌-◌, List, [], ◌∷◌, ◌++◌, length, sym, ap, ◌∙◌, subst, arith, Option}
use Rattle.atomic_table.specs.Seated.{TableId}
use Rattle.atomic_table.specs.Table.{Me}
use Rattle.atomic_table.specs.declared.shared.Seat.{Seat as Place}
use Rattle.ug_turn.specs.declared.view.View.{View}
use Rattle.ug_turn.specs.declared.held.Held.{Held}
use Rattle.ug_turn.specs.declared.seat.Seat.{Seat}
use Rattle.ug_turn.specs.Views.{less_one, next_pass}
use Rattle.ug_turn.specs.Seats.{AreNewSeats, IsMaking, IsNewSeat, view_of}
use Rattle.ug_turn.proofs.Ends.{new_more}

module _ {V O E : Type 0} where
  pub seats_more : (lock : TableId) (passes n : ℕ) (v : View O E) (was now : Place (Option (Held V E)) (View O E)) (xs : List (Seat V O E)) (x : Seat V O E) (ys : List (Seat V O E))
      → IsMaking passes v → was.table_id ≡ lock → was.me ≡ (record v { parts = passes - n; pass = n }, []) → AreNewSeats lock v xs
      → (now.table_id ≡ was.table_id) × (now.me ≡ (less_one was.me.0, was.me.1)) → (x.place.table_id ≡ was.table_id) × (x.place.me ≡ (next_pass was.me.0, []))
      → length xs ≡ n → ys ≡ xs ++ x ∷ []
      → (now.table_id ≡ lock) × (now.me ≡ (record v { parts = passes - (n + 1); pass = n + 1 }, [])) × AreNewSeats lock v ys
  seats_more lock passes n v was now xs x ys making' lock_is was_is all next new count is =
      let less : (passes - n) - 1 ≡ passes - (n + 1) = omega arith in
      let now_is = next.1 ∙ (ap (λ (m : Me (Option (Held V E)) (View O E)). (less_one m.0, m.1)) was_is ∙ ap (λ (k : ℕ). (record v { parts = k; pass = n + 1 }, [])) less) in
      let its = new.1 ∙ ap (λ (m : Me (Option (Held V E)) (View O E)). (next_pass m.0, [])) was_is in
      let view : view_of x ≡ record v { role = 1; parts = 1; pass = n; mine = [] } = ap (λ (m : Me (Option (Held V E)) (View O E)). m.0) its in
      let view' : view_of x ≡ record v { role = 1; parts = 1; pass = n } = view ∙ ap (λ l. record v { role = 1; parts = 1; pass = n; mine = l }) (sym making'.mine) in
      let one : IsNewSeat lock v (length xs) x = subst (λ k. IsNewSeat lock v k x) (sym count) record {
        lock_is = new.0 ∙ lock_is;
        rest = record {
          role = ap (λ (w : View O E). w.role) view';
          parts = ap (λ (w : View O E). w.parts) view';
          waits = ap (λ (w : View O E). w.waits) view' ∙ making'.waits;
          step = ap (λ (w : View O E). w.step) view' ∙ making'.step;
          told = ap (λ (w : View O E). w.told) view' ∙ making'.told;
          ended = ap (λ (w : View O E). w.ended) view' ∙ making'.ended;
          slots = ap (λ (m : Me (Option (Held V E)) (View O E)). m.1) its;
        };
        view = view';
      } in
      (next.0 ∙ lock_is, now_is, subst (AreNewSeats lock v) (sym is) (new_more lock v xs x all one))
