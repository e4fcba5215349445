-- What a change of a column keeps of the rows that rest: those that lose slack by it are queued.
use Rattle.std.proofs.Common.{◌≡◌, ◌≢◌, refl, sym, subst, ◌∙◌, ap, inl, inr, ℕ, zero, suc, ◌<◌, ◌⊎◌, ℤ, pos, negsuc, List, [], ◌∷◌, length, set, Option, Some, None, IsSome, true, false, arith}
use Rattle.std.proofs.lemmas.Int.{ints, by_lt_z}
use Rattle.std.proofs.lemmas.Bool.{cases_eq, cases_lt}
use Rattle.ug_rows.specs.declared.area.Interval.{Interval}
use Rattle.ug_rows.specs.declared.row.Term.{Term}
use Rattle.ug_rows.specs.declared.sums.Extreme.TheVariants.{Least, Greatest}
use Rattle.ug_rows.specs.Boxes.{HasSmallEnds, IsClosedWithin, interval_at}
use Rattle.ug_rows.specs.Rows.{IsAmong, IsLinear, term_at}
use Rattle.ug_rows.specs.Sums.{end_of}
use Rattle.ug_rows.proofs.Replaced.{among_at}
use Rattle.ug_problem.specs.declared.locks.Inward.{Inward}
use Rattle.ug_problem.specs.declared.locks.Inward.TheVariants.{Up, Down}
use Rattle.ug_problem.specs.declared.entries.ColumnEntry.{ColumnEntry}
use Rattle.ug_problem.specs.Instances.{Instance}
use Rattle.ug_problem.specs.Locks.{HasHighSide, HasLowSide, AreLocksOf, IsLock, listed_at}
use Rattle.ug_problem.specs.ColumnEntries.{entry_at, term_of, terms_of}
use Rattle.ug_propagate.specs.declared.row_sides.RowSides.{RowSides}
use Rattle.ug_propagate.specs.Working.{AreAtFixpoint, AreMaxSpans, AreUp, HasChanged, IsAtFixpoint, IsBox, IsStep, WorkState, sides_for}
use Rattle.ug_propagate.proofs.Kept.{rest_kept, small_inner}
use Rattle.ug_propagate.proofs.Running.{linear_terms}
use Rattle.ug_propagate.proofs.Stepping.{bits_enqueued, later_change, max_span_cut, rest_other}
use Rattle.ug_propagate.proofs.Waiting.{propagate_inner, propagate_last}

same_or : (a b : ℤ) → (a ≡ b) ⊎ (a ≢ b)
same_or a b = by_lt_z a b (λ less. inr (λ (e : a ≡ b). omega (arith, ints, e, less)))
    (λ more. by_lt_z b a (λ less. inr (λ (e : a ≡ b). omega (arith, ints, e, less))) (λ most. inl (omega (arith, ints, more, most))))

none_or : (side : Option ℤ) → (side ≡ None) ⊎ IsSome side
none_or None = inl refl
none_or (Some side) = inr refl

among_place : (t : Term) (ts : List Term) → IsAmong t ts → (k : ℕ) × (k < length ts) × (term_at ts k ≡ t)
among_place t [] a = absurd a
among_place t (u ∷ us) (inl e) = (0, omega arith, sym e)
among_place t (u ∷ us) (inr a) = let m = among_place t us a in (suc m.0, omega (arith, m.1), m.2)

one_place : (width : ℕ) (ts : List Term) (i k : ℕ) → IsLinear width ts → i < length ts → k < length ts
    → (term_at ts i).column ≡ (term_at ts k).column → i ≡ k
one_place width ts i k linear a b same = elim (cases_lt i k) [
  | inl less ↦ absurd (let h = linear.rising i k less b in omega (arith, h, same))
  | inr more ↦ elim (cases_lt k i) [
    | inl less ↦ absurd (let h = linear.rising k i less a in omega (arith, h, same))
    | inr most ↦ omega (arith, more, most)
  ]
]

column_or : (ts : List Term) (j n : ℕ) → ((k : ℕ) × (k < n) × ((term_at ts k).column ≡ j)) ⊎ ((k : ℕ) → k < n → (term_at ts k).column ≢ j)
column_or ts j zero = inr (λ k less e. omega (arith, less))
column_or ts j (suc n) = elim (column_or ts j n) [
  | inl h ↦ inl (h.0, omega (arith, h.1), h.2)
  | inr none ↦ elim (cases_eq (term_at ts n).column j) [
    | inl e ↦ inl (n, omega arith, e)
    | inr ne ↦ inr (λ k less e. elim (cases_eq k n) [
      | inl same ↦ ne (ap (λ (m : ℕ). (term_at ts m).column) (sym same) ∙ e)
      | inr other ↦ none k (omega (arith, less, other)) e
    ])
  ]
]

-- a row that loses slack by its term of column j is in the list
listed : (p : Instance) (j r k : ℕ) (inward : Inward) (list : List ℕ) → IsLinear (length p.columns) (terms_of p r)
    → AreLocksOf p j inward list → k < length (terms_of p r) → (term_at (terms_of p r) k).column ≡ j
    → IsLock inward p.rows r (term_at (terms_of p r) k).factor → (i : ℕ) × (i < length list) × (listed_at list i ≡ r)
listed p j r k inward list linear h there same is_lock =
    let ts : List Term = terms_of p r in
    let at = h.are.all r (term_at ts k) (among_at ts k there) same in
    let s : ColumnEntry = entry_at h.entries at.0 in
    let among : IsAmong (term_of j s) ts = subst (λ (n : ℕ). IsAmong (term_of j s) (terms_of p n)) at.2 (h.are.each at.0 at.1) in
    let m = among_place (term_of j s) ts among in
    let place : m.0 ≡ k = one_place (length p.columns) ts m.0 k linear m.1 there (ap (λ (t : Term). t.column) m.2 ∙ sym same) in
    let factor : (term_at ts k).factor ≡ s.factor =
    ap (λ (n : ℕ). (term_at ts n).factor) (sym place) ∙ ap (λ (t : Term). t.factor) m.2 in
    let hit : IsLock inward p.rows s.row s.factor =
    subst (λ (n : ℕ). IsLock inward p.rows n s.factor) (sym at.2) (subst (λ (f : ℤ). IsLock inward p.rows r f) factor is_lock) in
    let l = h.locks.all at.0 at.1 hit in
    (l.0, l.1, l.2 ∙ at.2)

has_high : (p : Instance) (cutoff : Option ℤ) (r : ℕ) → IsSome (sides_for p cutoff r).high → HasHighSide p.rows r
has_high p cutoff r some = elim (cases_lt r (length p.rows)) [
  | inl inner ↦ inr (subst (λ (l : RowSides). IsSome l.high) (propagate_inner p cutoff r inner) some)
  | inr last ↦ inl last
]

has_low : (p : Instance) (cutoff : Option ℤ) (r : ℕ) → IsSome (sides_for p cutoff r).low → HasLowSide p.rows r
has_low p cutoff r some = elim (cases_lt r (length p.rows)) [
  | inl inner ↦ (inner, subst (λ (l : RowSides). IsSome l.low) (propagate_inner p cutoff r inner) some)
  | inr last ↦ absurd (let h : false ≡ true = subst (λ (l : RowSides). IsSome l.low) (propagate_last p cutoff r last) some in cc)
]

under_of : (p : Instance) (cutoff : Option ℤ) (r j : ℕ) (f : ℤ) (side was : Interval) (queued : List ℕ)
    → ((inward : Inward) → AreUp p j inward queued → IsLock inward p.rows r f → ⊥) → (was.low ≢ side.low → AreUp p j Up queued)
    → (was.high ≢ side.high → AreUp p j Down queued)
    → (end_of Least f side ≡ end_of Least f was) ⊎ ((sides_for p cutoff r).high ≡ None)
under_of p cutoff r j (pos n) side was queued gone up down = elim (same_or was.low side.low) [
  | inl same ↦ inl (sym same)
  | inr ne ↦ elim (none_or (sides_for p cutoff r).high) [
    | inl none ↦ inr none
    | inr some ↦ absurd (gone Up (up ne) (has_high p cutoff r some))
  ]
]
under_of p cutoff r j (negsuc n) side was queued gone up down = elim (same_or was.high side.high) [
  | inl same ↦ inl (sym same)
  | inr ne ↦ elim (none_or (sides_for p cutoff r).high) [
    | inl none ↦ inr none
    | inr some ↦ absurd (gone Down (down ne) (has_high p cutoff r some))
  ]
]

over_of : (p : Instance) (cutoff : Option ℤ) (r j : ℕ) (f : ℤ) (side was : Interval) (queued : List ℕ)
    → ((inward : Inward) → AreUp p j inward queued → IsLock inward p.rows r f → ⊥) → (was.low ≢ side.low → AreUp p j Up queued)
    → (was.high ≢ side.high → AreUp p j Down queued)
    → (end_of Greatest f side ≡ end_of Greatest f was) ⊎ ((sides_for p cutoff r).low ≡ None)
over_of p cutoff r j (pos n) side was queued gone up down = elim (same_or was.high side.high) [
  | inl same ↦ inl (sym same)
  | inr ne ↦ elim (none_or (sides_for p cutoff r).low) [
    | inl none ↦ inr none
    | inr some ↦ absurd (gone Down (down ne) (has_low p cutoff r some))
  ]
]
over_of p cutoff r j (negsuc n) side was queued gone up down = elim (same_or was.low side.low) [
  | inl same ↦ inl (sym same)
  | inr ne ↦ elim (none_or (sides_for p cutoff r).low) [
    | inl none ↦ inr none
    | inr some ↦ absurd (gone Up (up ne) (has_low p cutoff r some))
  ]
]

at_fixpoint_change : (p : Instance) (j : ℕ) (side : Interval) (old new : WorkState) → j < length old.sums.area
    → IsClosedWithin side (interval_at old.sums.area j) → length old.sums.area ≡ length p.columns → HasChanged p j side old new
    → (cutoff : Option ℤ) → AreAtFixpoint p cutoff old.sums.area old.queued → AreAtFixpoint p cutoff new.sums.area new.queued
at_fixpoint_change p j side old new within closed wide h cutoff at_fixpoint r there unqueued =
    let area : List Interval = old.sums.area in
    let was : Interval = interval_at area j in
    let ts : List Term = terms_of p r in
    let row_sides : RowSides = sides_for p cutoff r in
    let linear : IsLinear (length p.columns) ts = linear_terms p r h.enqueued.problem there in
    let before : IsAtFixpoint row_sides ts area = at_fixpoint r there (h.enqueued.unqueued r unqueued) in
    subst (λ (a : List Interval). IsAtFixpoint row_sides ts a) (sym h.area) (elim (column_or ts j (length ts)) [
      | inr none ↦ rest_other row_sides ts area j side none before
      | inl at ↦
          let k : ℕ = at.0 in
          let t : Term = term_at ts k in
          let gone : (inward : Inward) → AreUp p j inward new.queued → IsLock inward p.rows r t.factor → ⊥ =
          λ inward u is_lock. (let l = listed p j r k inward u.list linear u.is at.1 at.2 is_lock in u.up r l.0 unqueued l.1 l.2) in
          let under : (end_of Least t.factor side ≡ end_of Least t.factor was) ⊎ (row_sides.high ≡ None) =
          under_of p cutoff r j t.factor side was new.queued gone h.enqueued.up h.enqueued.down in
          let over : (end_of Greatest t.factor side ≡ end_of Greatest t.factor was) ⊎ (row_sides.low ≡ None) =
          over_of p cutoff r j t.factor side was new.queued gone h.enqueued.up h.enqueued.down in
          let P : ℕ → Type 0 = λ (c : ℕ). c < length area → IsClosedWithin side (interval_at area c)
          → HasSmallEnds side
          → (end_of Least t.factor side ≡ end_of Least t.factor (interval_at area c)) ⊎ (row_sides.high ≡ None)
          → (end_of Greatest t.factor side ≡ end_of Greatest t.factor (interval_at area c)) ⊎ (row_sides.low ≡ None)
          → IsAtFixpoint row_sides ts (set area c side) in
          let kept : P t.column = λ a b c d e. rest_kept (length p.columns) row_sides ts t area side linear (among_at ts k at.1) a b c before d e in
          let ends : HasSmallEnds side =
          small_inner side was (subst (λ (c : ℕ). HasSmallEnds (interval_at area c)) at.2 (before.is.small k at.1)) closed in
          (subst P at.2 kept) within closed ends under over
    ])

-- a column that is cut
pub step_change : (p : Instance) (j : ℕ) (side : Interval) (old new : WorkState) → IsBox p old → j < length p.columns
    → IsClosedWithin side (interval_at old.sums.area j) → HasChanged p j side old new → IsStep p old new
step_change p j side old new box there closed h =
    let P : List Interval → Type 0 = λ (a : List Interval). AreMaxSpans p a old.max_span in
    let Q : List ℤ → Type 0 = λ (r : List ℤ). AreMaxSpans p new.sums.area r in
    let within : j < length old.sums.area = omega (arith, there, box.sums.width) in
    record {
      box = record {
        sums = h.sums;
        max_span = subst Q (sym h.max_span)
            (subst P (sym h.area) (max_span_cut p old.sums.area old.max_span j side within closed box.max_span));
        bits = bits_enqueued p old.queued new.queued h.enqueued.width box.bits;
      };
      later = later_change p j side old new within h;
      at_fixpoint = at_fixpoint_change p j side old new within closed box.sums.width h;
    }
