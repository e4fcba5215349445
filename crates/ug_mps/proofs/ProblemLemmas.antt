-- What a good history without faults states is a problem.
use Rattle.std.proofs.Common.{◌≡◌, ℕ, ℤ, pos, neg_ℤ, ◌≤◌, ◌^◌, ◌&&◌, not, cond, unwrap_or, unsigned_abs, Bool, true, false, List, [], ◌∷◌, length, map, filter, All, IfSome, Option, Some, None, sym, refl, subst, arith, ⊎_elim}
use Rattle.std.proofs.lemmas.Bool.{cases_Bool, false≢true}
use Rattle.std.proofs.lemmas.List.{length-map}
use Rattle.std.proofs.lemmas.List.Elements.{All-nil, All-cons, All-head, All-tail, All-map, All-filter, All-weaker}
use Rattle.ug_rows.specs.declared.row.Term.{Term}
use Rattle.ug_problem.specs.declared.column.NamedRow.{NamedRow}
use Rattle.ug_problem.specs.declared.error.ProblemError.{ProblemError}
use Rattle.ug_problem.specs.declared.error.ProblemError.TheVariants.{Memory, TooMany, TooWide}
use Rattle.ug_problem.specs.Instances.{Instance, IsName, IsColumn, IsRow, AreTerms, IsFormed, no_row}
use Rattle.ug_problem.specs.Limits.{IsNarrow, IsNarrowObjective, IsRefused}
use Rattle.ug_drafts.specs.declared.bound.Bound.{Bound}
use Rattle.ug_drafts.specs.declared.bound.Bound.TheVariants.{Infinite, Finite}
use Rattle.ug_drafts.specs.declared.fault.MpsFault.{MpsFault}
use Rattle.ug_drafts.specs.declared.role.Role.{Role}
use Rattle.ug_drafts.specs.declared.role.Role.TheVariants as roles
use Rattle.ug_drafts.specs.Bounds.{IsBox, IsSmall, bound_or, box_end}
use Rattle.ug_drafts.specs.Roles.{is_objective, is_ignored, is_sided}
use Rattle.ug_drafts.specs.FirstFaults.{or_else, first_fault}
use Rattle.ug_drafts.specs.RowNumbers.{scale_of, scaled_side, scaled_terms, is_wide, no_objective}
use Rattle.ug_mps.specs.Entries.{Entry}
use Rattle.ug_mps.specs.Finish.{AreStated}
use Rattle.ug_mps.specs.Good.{Good}
use Rattle.ug_mps.specs.History.{RowNamed, ColumnBegun, rows_of, columns_of, is_maximised, low_set, high_set}
use Rattle.ug_mps.specs.Reads.{column_fault, row_fault, end_fault}
use Rattle.ug_mps.specs.Stated.{numbers_of, stated_row, stated_rows, objective_in, low_of, high_of, stated_column, stated}
use Rattle.ug_mps.proofs.Counts.{counts_fit}
use Rattle.ug_mps.proofs.GoodLemmas.{IsColumnNamed, IsRowNamed, columns_named, rows_named, lows_small, highs_small}
use Rattle.ug_mps.proofs.StatedLemmas.{terms_formed, signed_formed, signed_small, signed_all_small, AreNarrow, narrow_from}

-- ---- columns

bound_small : (u : ℤ) (b : Bound) → unsigned_abs u ≤ 10 ^ 9 → IsSmall b → unsigned_abs (bound_or u b) ≤ 10 ^ 9
bound_small u Infinite h s = h
bound_small u (Finite z) h s = s

or_small : (o : Option Bound) (b : Bound) → IfSome o IsSmall → IsSmall b → IsSmall (unwrap_or o b)
or_small None b h s = s
or_small (Some c) b h s = h

box_small : (boxed : Option ℕ) → IsBox boxed → unsigned_abs (box_end boxed) ≤ 10 ^ 9
box_small None h = omega arith
box_small (Some u) h = h

column_formed : (boxed : Option ℕ) → IsBox boxed → (h : List Entry) → Good h → (c : ColumnBegun) → IsName c.name → IsColumn (stated_column boxed h c)
column_formed boxed b h g c n = record {
  name = n;
  low = bound_small (neg_ℤ (box_end boxed)) (low_of h c.name) (signed_small true (box_end boxed) (10 ^ 9) (box_small boxed b)) (or_small (low_set h c.name) (Finite (pos 0)) (lows_small h g c.name) (omega arith));
  high = bound_small (box_end boxed) (high_of h c.name) (box_small boxed b) (or_small (high_set h c.name) Infinite (highs_small h g c.name) tt);
}

-- ---- rows that are not too wide

or_else_none : (a b : Option MpsFault) → or_else a b ≡ None → (a ≡ None) × (b ≡ None)
or_else_none None b e = (refl, e)
or_else_none (Some f) b e = let bad : Some f ≡ None = e in absurd (cc)

none_each : {X : Type 0} (fault : X → Option MpsFault) (xs : List X) → first_fault fault xs ≡ None → All (λ x. fault x ≡ None) xs
none_each fault [] e = All-nil (λ x. fault x ≡ None)
none_each fault (x ∷ xs) e =
    let parts = or_else_none (fault x) (first_fault fault xs) e in
    All-cons (λ x. fault x ≡ None) x xs parts.0 (none_each fault xs parts.1)

-- the row has no fault
abbrev HasNone : List Entry → RowNamed → Type 0
HasNone h r = row_fault h r ≡ None

rows_none : (boxed : Option ℕ) (h : List Entry) → end_fault boxed h ≡ None → All (HasNone h) (rows_of h)
rows_none boxed h e = none_each (row_fault h) (rows_of h) (or_else_none (first_fault (column_fault boxed h) (columns_of h)) (first_fault (row_fault h) (rows_of h)) e).1

not_wide_by : (ignored wide : Bool) (f : MpsFault) → ignored ≡ false → cond (not ignored && wide) (Some f) None ≡ None → wide ≡ false
not_wide_by true wide f i e = absurd (false≢true (sym i))
not_wide_by false true f i e = let bad : Some f ≡ None = e in absurd (cc)
not_wide_by false false f i e = refl

row_narrow : (h : List Entry) (r : RowNamed) → is_ignored r.role ≡ false → HasNone h r → AreNarrow r.role (numbers_of h r)
row_narrow h r i e = narrow_from r.role (numbers_of h r) (not_wide_by (is_ignored r.role) (is_wide r.role (numbers_of h r)) _ i e)

sided_not_ignored : (role : Role) → is_sided role ≡ true → is_ignored role ≡ false
sided_not_ignored roles.Objective e = refl
sided_not_ignored roles.Ignored e = absurd (false≢true e)
sided_not_ignored roles.AtMost e = refl
sided_not_ignored roles.AtLeast e = refl
sided_not_ignored roles.Equal e = refl

objective_not_ignored : (role : Role) → is_objective role ≡ true → is_ignored role ≡ false
objective_not_ignored roles.Objective e = refl
objective_not_ignored roles.Ignored e = absurd (false≢true e)
objective_not_ignored roles.AtMost e = refl
objective_not_ignored roles.AtLeast e = refl
objective_not_ignored roles.Equal e = refl

abbrev sided : RowNamed → Bool
sided r = is_sided r.role

-- of the rows of the problem
sided_narrow : (h : List Entry) (rows : List RowNamed) → All (HasNone h) rows → All (λ (q : NamedRow). IsNarrow q.row) (map (stated_row h) (filter sided rows))
sided_narrow h [] n = All-nil (λ (q : NamedRow). IsNarrow q.row)
sided_narrow h (r ∷ rows) n =
    let rest = sided_narrow h rows (All-tail (HasNone h) r rows n) in
    ⊎_elim
    (λ t. rw t (
    let narrow = row_narrow h r (sided_not_ignored r.role t) (All-head (HasNone h) r rows n) in
    All-cons (λ (q : NamedRow). IsNarrow q.row) (stated_row h r) (map (stated_row h) (filter sided rows)) (record { factors = narrow.terms; low = narrow.low; high = narrow.high }) rest))
    (λ f. rw f rest)
    (cases_Bool (is_sided r.role))

-- ---- the objective

nothing_formed : (width : ℕ) → AreTerms width []
nothing_formed width = record { rising = λ i k l a. absurd (omega (arith, a)); within = λ k a. absurd (omega (arith, a)); nonzero = λ k a. absurd (omega (arith, a)) }

nothing_narrow : (m : Bool) → IsNarrowObjective (no_objective m)
nothing_narrow m = record { factors = All-nil (λ (t : Term). unsigned_abs t.factor ≤ 10 ^ 24); constant = omega arith }

objective_formed : (h : List Entry) → Good h → (rows : List RowNamed) → AreTerms (length (columns_of h)) (objective_in h rows).terms
objective_formed h g [] = nothing_formed (length (columns_of h))
objective_formed h g (r ∷ rows) = ⊎_elim
    (λ t. rw t (signed_formed (is_maximised h) (length (columns_of h)) (scaled_terms (numbers_of h r)) (terms_formed h g r.name (scale_of (numbers_of h r)))))
    (λ f. rw f (objective_formed h g rows))
    (cases_Bool (is_objective r.role))

objective_scale : (h : List Entry) (rows : List RowNamed) → All (HasNone h) rows → (objective_in h rows).scale ≤ 60
objective_scale h [] n = omega arith
objective_scale h (r ∷ rows) n = ⊎_elim
    (λ t. rw t (row_narrow h r (objective_not_ignored r.role t) (All-head (HasNone h) r rows n)).scale)
    (λ f. rw f (objective_scale h rows (All-tail (HasNone h) r rows n)))
    (cases_Bool (is_objective r.role))

objective_narrow : (h : List Entry) (rows : List RowNamed) → All (HasNone h) rows → IsNarrowObjective (objective_in h rows)
objective_narrow h [] n = nothing_narrow (is_maximised h)
objective_narrow h (r ∷ rows) n = ⊎_elim
    (λ t. rw t (
    let narrow = row_narrow h r (objective_not_ignored r.role t) (All-head (HasNone h) r rows n) in
    record {
      factors = signed_all_small (is_maximised h) (scaled_terms (numbers_of h r)) narrow.terms;
      constant = signed_small (is_maximised h) (neg_ℤ (scaled_side (numbers_of h r))) (10 ^ 37) (signed_small true (scaled_side (numbers_of h r)) (10 ^ 37) narrow.side);
    }))
    (λ f. rw f (objective_narrow h rows (All-tail (HasNone h) r rows n)))
    (cases_Bool (is_objective r.role))

-- ---- all together

stated_formed : (boxed : Option ℕ) (h : List Entry) → Good h → IsBox boxed → end_fault boxed h ≡ None → IsFormed (stated boxed h)
stated_formed boxed h g b e =
    let width : length (map (stated_column boxed h) (columns_of h)) ≡ length (columns_of h) = length-map (columns_of h) (stated_column boxed h) in
    let row : RowNamed → Type 0 = λ r. IsRow (length (columns_of h)) (stated_row h r) in
    record {
      columns = All-map IsColumn (stated_column boxed h) (columns_of h)
          (All-weaker IsColumnNamed (λ c. IsColumn (stated_column boxed h c)) (λ c n. column_formed boxed b h g c n) (columns_of h) (columns_named h g));
      rows = subst (λ w. All (IsRow w) (stated_rows h)) (sym width)
          (All-map (IsRow (length (columns_of h))) (stated_row h) (filter sided (rows_of h))
          (All-filter sided row (rows_of h)
          (All-weaker IsRowNamed row (λ r n. record { name = n; terms = terms_formed h g r.name (scale_of (numbers_of h r)) }) (rows_of h) (rows_named h g))));
      objective = subst (λ w. AreTerms w (objective_in h (rows_of h)).terms) (sym width) (objective_formed h g (rows_of h));
      scale = objective_scale h (rows_of h) (rows_none boxed h e);
    }

refused_for_memory : (boxed : Option ℕ) (h : List Entry) → Good h → end_fault boxed h ≡ None → (e : ProblemError) → IsRefused (stated boxed h) e → e ≡ Memory
refused_for_memory boxed h g n Memory r = refl
refused_for_memory boxed h g n TooMany r = absurd (r (counts_fit boxed h g))
refused_for_memory boxed h g n (TooWide None) r = absurd (r.objective (objective_narrow h (rows_of h) (rows_none boxed h n)))
refused_for_memory boxed h g n (TooWide (Some i)) r = absurd (r.row.wide (sided_narrow h (rows_of h) (rows_none boxed h n) i no_row r.row.there))

-- the parts that a good history without faults states are formed, and are refused for lack of
-- memory alone
pub parts_formed : (boxed : Option ℕ) (h : List Entry) (p : Instance) → AreStated boxed h p → IsFormed p
parts_formed boxed h p s = subst IsFormed (sym s.parts) (stated_formed boxed h s.good s.box s.none)

pub parts_for_memory : (boxed : Option ℕ) (h : List Entry) (p : Instance) (e : ProblemError) → AreStated boxed h p → IsRefused p e → e ≡ Memory
parts_for_memory boxed h p e s r = refused_for_memory boxed h s.good s.none e (subst (λ p. IsRefused p e) s.parts r)
