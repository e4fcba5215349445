-- The coefficient of a column in the weighted sum is the sum over where the column stands.
use Rattle.std.proofs.Common.{◌≡◌, ◌≢◌, ◌∙◌, refl, sym, ap, subst, inl, inr, ℕ, zero, suc, ◌+◌, ◌^◌, ◌<◌, ◌≤◌, ◌⊎◌, ℤ, pos, ◌+ℤ◌, ◌*ℤ◌, List, [], ◌∷◌, ◌++◌, length, take, get_or, unsigned_abs, nat_eq, if◌then◌else◌, eq-eqb, ne_eqb, arith}
use Rattle.std.proofs.lemmas.Int.{ints}
use Rattle.std.proofs.lemmas.Bool.{cases_eq}
use Rattle.std.proofs.lemmas.List.{take_more}
use lib.IntN.{zero-*ℤ, *ℤ-zero}
use Rattle.ug_rows.specs.declared.row.Term.{Term}
use Rattle.ug_rows.specs.Rows.{IsAmong, IsLinear, term_at}
use Rattle.ug_rows.proofs.EndBounds.{AreApart, IsFree, apart_from_index}
use Rattle.ug_problem.specs.declared.column.NamedRow.{NamedRow}
use Rattle.ug_problem.specs.declared.entries.ColumnEntry.{ColumnEntry}
use Rattle.ug_problem.specs.Instances.{Instance, no_row, row_at}
use Rattle.ug_problem.specs.Limits.{IsProblem}
use Rattle.ug_problem.specs.ColumnEntries.{AreColumnEntries, no_entry, entry_at, term_of, terms_of, terms_of_rows}
use Rattle.ug_problem.proofs.Linear.{linear_objective, linear_row}
use Rattle.ug_surrogate.specs.declared.multipliers.Multiplier.{Multiplier}
use Rattle.ug_surrogate.specs.declared.multipliers.Multipliers.{Multipliers}
use Rattle.ug_surrogate.specs.Columns.{AreFew, factor_in, factor_of, parts_of, parts_under, signed_weight, weighed, weight_if, weight_in, weight_on}
use Rattle.ug_surrogate.specs.Weights.{AreMultipliers, multiplier_at}
use Rattle.ug_surrogate.proofs.Ring.{add_mul, mul_add}

-- one standing more
weighed_push : (rows : ℕ) (m : Multipliers) (ss : List ColumnEntry) (s : ColumnEntry)
    → weighed rows m (ss ++ s ∷ []) ≡ weighed rows m ss +ℤ (weight_in rows m s.row *ℤ s.factor)
weighed_push rows m [] s = omega (arith, ints)
weighed_push rows m (t ∷ ss) s = omega (arith, ints, weighed_push rows m ss s)

pub weighed_more : (rows : ℕ) (m : Multipliers) (ss : List ColumnEntry) (i : ℕ) → i < length ss
    → weighed rows m (take (i + 1) ss) ≡ weighed rows m (take i ss) +ℤ (weight_in rows m (entry_at ss i).row *ℤ (entry_at ss i).factor)
weighed_more rows m ss i h = rw (take_more ss i no_entry h) (weighed_push rows m (take i ss) (entry_at ss i))

-- the coefficient of a standing where it is in row r
abbrev pub entry_if : ℕ → ColumnEntry → ℤ
entry_if r s = if nat_eq s.row r then s.factor else pos 0

abbrev pub row_factor : ℕ → List ColumnEntry → ℤ
row_factor r [] = pos 0
row_factor r (s ∷ ss) = entry_if r s +ℤ row_factor r ss

-- the signed weights, each times a coefficient of its row
abbrev pub over_rows : (ℕ → ℤ) → List Multiplier → ℤ
over_rows f [] = pos 0
over_rows f (u ∷ us) = (signed_weight u *ℤ f u.row) +ℤ over_rows f us

over_add : (f g : ℕ → ℤ) (us : List Multiplier) → over_rows (λ r. f r +ℤ g r) us ≡ over_rows f us +ℤ over_rows g us
over_add f g [] = refl
over_add f g (u ∷ us) = omega (arith, ints, mul_add (signed_weight u) (f u.row) (g u.row), over_add f g us)

over_none : (f : ℕ → ℤ) (us : List Multiplier) → ((k : ℕ) → k < length us → f (multiplier_at us k).row ≡ pos 0)
    → over_rows f us ≡ pos 0
over_none f [] h = refl
over_none f (u ∷ us) h =
    omega (
      arith,
      ints,
      ap (λ (z : ℤ). signed_weight u *ℤ z) (h 0 (omega arith)),
      *ℤ-zero (signed_weight u),
      over_none f us (λ k lt. h (suc k) (omega arith)),
    )

over_same : (f g : ℕ → ℤ) (us : List Multiplier) → ((k : ℕ) → k < length us → f (multiplier_at us k).row ≡ g (multiplier_at us k).row)
    → over_rows f us ≡ over_rows g us
over_same f g [] h = refl
over_same f g (u ∷ us) h =
    omega (arith, ints, ap (λ (z : ℤ). signed_weight u *ℤ z) (h 0 (omega arith)), over_same f g us (λ k lt. h (suc k) (omega arith)))

-- a standing's coefficient times the weights of its row
weight_times : (u : Multiplier) (s : ColumnEntry) → weight_if s.row u *ℤ s.factor ≡ signed_weight u *ℤ entry_if u.row s
weight_times u s = elim (cases_eq u.row s.row) [
  | inl same ↦ rw (eq-eqb u.row s.row same, eq-eqb s.row u.row (sym same)) refl
  | inr ne ↦ rw (ne_eqb u.row s.row ne, ne_eqb s.row u.row (λ e. ne (sym e)))
      (zero-*ℤ s.factor ∙ sym (*ℤ-zero (signed_weight u)))
]

weights_times : (us : List Multiplier) (s : ColumnEntry) → weight_on s.row us *ℤ s.factor ≡ over_rows (λ r. entry_if r s) us
weights_times [] s = zero-*ℤ s.factor
weights_times (u ∷ us) s =
    omega (arith, ints, add_mul (weight_if s.row u) (weight_on s.row us) s.factor, weight_times u s, weights_times us s)

-- each multiplier is of one of the rows
abbrev pub AreOfRows : ℕ → List Multiplier → Type 0
AreOfRows rows us = (k : ℕ) → k < length us → (multiplier_at us k).row < rows

one_weighed : (rows : ℕ) (m : Multipliers) (s : ColumnEntry) → AreOfRows rows m.list
    → weight_in rows m s.row *ℤ s.factor ≡ (pos m.d *ℤ entry_if rows s) +ℤ over_rows (λ r. entry_if r s) m.list
one_weighed rows m s of_rows = elim (cases_eq s.row rows) [
  | inl same ↦ rw (eq-eqb s.row rows same)
      (omega (
        arith,
        ints,
        over_none (λ r. entry_if r s) m.list (λ k lt.
            rw (ne_eqb s.row (multiplier_at m.list k).row (λ e. omega (arith, e, same, of_rows k lt))) refl),
      ))
  | inr ne ↦ rw (ne_eqb s.row rows ne)
      (omega (arith, ints, weights_times m.list s, *ℤ-zero (pos m.d)))
]

-- the sum over the standings, row by row
weighed_rows : (rows : ℕ) (m : Multipliers) (ss : List ColumnEntry) → AreOfRows rows m.list
    → weighed rows m ss ≡ (pos m.d *ℤ row_factor rows ss) +ℤ over_rows (λ r. row_factor r ss) m.list
weighed_rows rows m [] of_rows =
    omega (arith, ints, *ℤ-zero (pos m.d), over_none (λ r. pos 0) m.list (λ k lt. refl))
weighed_rows rows m (s ∷ ss) of_rows =
    omega (
      arith,
      ints,
      one_weighed rows m s of_rows,
      weighed_rows rows m ss of_rows,
      mul_add (pos m.d) (entry_if rows s) (row_factor rows ss),
      over_add (λ r. entry_if r s) (λ r. row_factor r ss) m.list,
    )

factor_free : (j : ℕ) (ts : List Term) → IsFree j ts → factor_in j ts ≡ pos 0
factor_free j [] free = refl
factor_free j (t ∷ ts) free = rw (ne_eqb t.column j free.0) (omega (arith, ints, factor_free j ts free.1))

free_among : (c : ℕ) (ts : List Term) (t : Term) → IsFree c ts → IsAmong t ts → t.column ≢ c
free_among c [] t free among = absurd among
free_among c (u ∷ ts) t free (inl same) = λ e. free.0 (ap (λ (v : Term). v.column) (sym same) ∙ e)
free_among c (u ∷ ts) t free (inr later) = free_among c ts t free.1 later

-- the coefficient of a column is that of its one term
factor_among : (ts : List Term) (t : Term) → AreApart ts → IsAmong t ts → factor_in t.column ts ≡ t.factor
factor_among [] t apart among = absurd among
factor_among (u ∷ ts) t apart (inl same) =
    subst (λ (v : Term). factor_in v.column (u ∷ ts) ≡ v.factor) (sym same)
    (rw (eq-eqb u.column u.column refl) (omega (arith, ints, factor_free u.column ts apart.0)))
factor_among (u ∷ ts) t apart (inr later) =
    rw (ne_eqb u.column t.column (λ e. free_among u.column ts t apart.0 later (sym e)))
    (omega (arith, ints, factor_among ts t apart.1 later))

-- if no term is of the column it is 0
factor_without : (j : ℕ) (ts : List Term) → ((t : Term) → IsAmong t ts → t.column ≢ j) → factor_in j ts ≡ pos 0
factor_without j [] none = refl
factor_without j (t ∷ ts) none =
    rw (ne_eqb t.column j (none t (inl refl))) (omega (arith, ints, factor_without j ts (λ u among. none u (inr among))))

abbrev pub DoRise : List ColumnEntry → Type 0
DoRise ss = (i k : ℕ) → i < k → k < length ss → (entry_at ss i).row < (entry_at ss k).row

row_without : (r : ℕ) (ss : List ColumnEntry) → ((k : ℕ) → k < length ss → (entry_at ss k).row ≢ r) → row_factor r ss ≡ pos 0
row_without r [] none = refl
row_without r (s ∷ ss) none =
    rw (ne_eqb s.row r (none 0 (omega arith))) (omega (arith, ints, row_without r ss (λ k lt. none (suc k) (omega arith))))

row_with : (r k : ℕ) (ss : List ColumnEntry) → DoRise ss → k < length ss → (entry_at ss k).row ≡ r
    → row_factor r ss ≡ (entry_at ss k).factor
row_with r k [] rise h e = absurd (omega arith)
row_with r zero (s ∷ ss) rise h e =
    rw (eq-eqb s.row r e) (omega (
      arith,
      ints,
      row_without r ss (λ k lt same.
          let less : s.row < (entry_at ss k).row = rise 0 (suc k) (omega arith) (omega arith) in omega (arith, less, same, e)),
    ))
row_with r (suc k) (s ∷ ss) rise h e =
    let less : s.row < (entry_at ss k).row = rise 0 (suc k) (omega arith) h in
    rw (ne_eqb s.row r (λ same. omega (arith, less, same, e)))
    (omega (arith, ints, row_with r k ss (λ i n lt there. rise (suc i) (suc n) (omega arith) (omega arith)) (omega arith) e))

-- a row is among those of the standings, or it is not
found_or_not : (r : ℕ) (ss : List ColumnEntry)
    → ((k : ℕ) × (k < length ss) × ((entry_at ss k).row ≡ r)) ⊎ ((k : ℕ) → k < length ss → (entry_at ss k).row ≢ r)
found_or_not r [] = inr (λ k lt. absurd (omega arith))
found_or_not r (s ∷ ss) = elim (cases_eq s.row r) [
  | inl same ↦ inl (0, omega arith, same)
  | inr ne ↦ elim (found_or_not r ss) [
    | inl found ↦ inl (suc found.0, omega (arith, found.1), found.2)
    | inr none ↦ inr (λ k. elim k as (λ (n : ℕ). n < length (s ∷ ss) → (entry_at (s ∷ ss) n).row ≢ r) [
      | zero ↦ λ lt. ne
      | suc n ↦ λ lt. none n (omega arith)
    ])
  ]
]

-- the coefficient in the standings is that in the row's terms
row_is : (p : Instance) (j r : ℕ) (ss : List ColumnEntry) → AreColumnEntries p j ss → AreApart (terms_of p r)
    → row_factor r ss ≡ factor_in j (terms_of p r)
row_is p j r ss are apart = elim (found_or_not r ss) [
  | inl found ↦
      let s : ColumnEntry = entry_at ss found.0 in
      let among : IsAmong (term_of j s) (terms_of p r) =
      subst (λ (n : ℕ). IsAmong (term_of j s) (terms_of p n)) found.2 (are.each found.0 found.1) in
      row_with r found.0 ss are.rising found.1 found.2 ∙ sym (factor_among (terms_of p r) (term_of j s) apart among)
  | inr none ↦
      row_without r ss none ∙ sym (factor_without j (terms_of p r) (λ t among same.
      let k = are.all r t among same in none k.0 k.1 k.2))
]

inner_terms : (rows : List NamedRow) (last : List Term) (r : ℕ) → r < length rows
    → get_or (terms_of_rows rows ++ last ∷ []) r [] ≡ (get_or rows r no_row).row.terms
inner_terms [] last r h = absurd (omega arith)
inner_terms (named ∷ rows) last zero h = refl
inner_terms (named ∷ rows) last (suc r) h = inner_terms rows last r (omega arith)

last_terms : (rows : List NamedRow) (last : List Term) → get_or (terms_of_rows rows ++ last ∷ []) (length rows) [] ≡ last
last_terms [] last = refl
last_terms (named ∷ rows) last = last_terms rows last

factor_last : (p : Instance) (j : ℕ) (ss : List ColumnEntry) → IsProblem p → AreColumnEntries p j ss
    → row_factor (length p.rows) ss ≡ factor_in j p.objective.terms
factor_last p j ss problem are =
    let e : terms_of p (length p.rows) ≡ p.objective.terms = last_terms p.rows p.objective.terms in
    let apart : AreApart (terms_of p (length p.rows)) =
    subst AreApart (sym e) (apart_from_index p.objective.terms (linear_objective p problem).rising) in
    row_is p j (length p.rows) ss are apart ∙ ap (λ (ts : List Term). factor_in j ts) e

factor_inner : (p : Instance) (j r : ℕ) (ss : List ColumnEntry) → IsProblem p → AreColumnEntries p j ss → r < length p.rows
    → row_factor r ss ≡ factor_in j (row_at p r).terms
factor_inner p j r ss problem are there =
    let e : terms_of p r ≡ (row_at p r).terms = inner_terms p.rows p.objective.terms r there in
    let apart : AreApart (terms_of p r) =
    subst AreApart (sym e) (apart_from_index (row_at p r).terms (linear_row p r problem there).rising) in
    row_is p j r ss are apart ∙ ap (λ (ts : List Term). factor_in j ts) e

parts_over : (p : Instance) (j : ℕ) (us : List Multiplier)
    → over_rows (λ r. factor_in j (row_at p r).terms) us ≡ factor_of j (parts_under p us)
parts_over p j [] = refl
parts_over p j (u ∷ us) = omega (arith, ints, parts_over p j us)

-- the coefficient of a column in the weighted sum
pub weighed_is : (p : Instance) (m : Multipliers) (j : ℕ) (ss : List ColumnEntry) → IsProblem p → AreMultipliers p m → AreColumnEntries p j ss
    → weighed (length p.rows) m ss ≡ factor_of j (parts_of p m)
weighed_is p m j ss problem are stand =
    let over = over_same (λ r. row_factor r ss) (λ r. factor_in j (row_at p r).terms) m.list
    (λ k lt. factor_inner p j (multiplier_at m.list k).row ss problem stand (are.sides k lt).there) in
    omega (
      arith,
      ints,
      weighed_rows (length p.rows) m ss (λ k lt. (are.sides k lt).there),
      over,
      parts_over p j m.list,
      ap (λ (z : ℤ). pos m.d *ℤ z) (factor_last p j ss problem stand),
    )

-- at most one standing a row, and one in the objective
place_at_least : (ss : List ColumnEntry) → DoRise ss → (k : ℕ) → k < length ss → k ≤ (entry_at ss k).row
place_at_least ss rise zero h = omega arith
place_at_least ss rise (suc k) h = omega (arith, place_at_least ss rise k (omega arith), rise k (suc k) (omega arith) h)

count_at_most : (ss : List ColumnEntry) (n : ℕ) → DoRise ss → ((k : ℕ) → k < length ss → (entry_at ss k).row ≤ n) → length ss ≤ n + 1
count_at_most [] n rise within = omega arith
count_at_most (s ∷ ss) n rise within =
    omega (arith, place_at_least (s ∷ ss) rise (length ss) (omega arith), within (length ss) (omega arith))

small_among : (ts : List Term) (t : Term) → ((k : ℕ) → k < length ts → unsigned_abs (term_at ts k).factor ≤ 10 ^ 24) → IsAmong t ts
    → unsigned_abs t.factor ≤ 10 ^ 24
small_among [] t small among = absurd among
small_among (u ∷ ts) t small (inl same) = subst (λ (v : Term). unsigned_abs v.factor ≤ 10 ^ 24) (sym same) (small 0 (omega arith))
small_among (u ∷ ts) t small (inr later) = small_among ts t (λ k lt. small (suc k) (omega arith)) later

linear_of : (p : Instance) (r : ℕ) → IsProblem p → r ≤ length p.rows → IsLinear (length p.columns) (terms_of p r)
linear_of p r problem h = elim (cases_eq r (length p.rows)) [
  | inl same ↦ subst (λ (n : ℕ). IsLinear (length p.columns) (terms_of p n)) (sym same)
      (subst (IsLinear (length p.columns)) (sym (last_terms p.rows p.objective.terms)) (linear_objective p problem))
  | inr ne ↦ subst (IsLinear (length p.columns)) (sym (inner_terms p.rows p.objective.terms r (omega (arith, ne, h))))
      (linear_row p r problem (omega (arith, ne, h)))
]

pub few_entries : (p : Instance) (j : ℕ) (ss : List ColumnEntry) → IsProblem p → AreColumnEntries p j ss → AreFew ss
few_entries p j ss problem are = record {
  count = omega (arith, count_at_most ss (length p.rows) are.rising are.within, problem.counts.rows);
  small = λ k lt. small_among (terms_of p (entry_at ss k).row) (term_of j (entry_at ss k))
      (linear_of p (entry_at ss k).row problem (are.within k lt)).small (are.each k lt);
}
