-- How many columns, rows and terms a good history states.
use Rattle.std.proofs.Common.{◌≡◌, ℕ, ◌+◌, ◌-◌, ◌<◌, ◌≤◌, ◌==◌, ◌&&◌, ◌||◌, not, cond, nat_lt, Bool, true, false, List, [], ◌∷◌, ◌++◌, length, map, filter, sum_by, Option, refl, subst, ◌∙◌, arith, ⊎_elim}
use Rattle.std.specs.Str.{bytes_eq}
use Rattle.std.proofs.lemmas.Bool.{cases_Bool, false≢true, ltb-true, leb-true}
use Rattle.std.proofs.lemmas.List.{length-map, length-append, length_push}
use Rattle.std.proofs.lemmas.List.Sums.{sum_by-cons}
use Rattle.ug_rows.specs.declared.row.Term.{Term}
use Rattle.ug_problem.specs.declared.column.NamedRow.{NamedRow}
use Rattle.ug_problem.specs.Limits.{FitsCounts}
use Rattle.ug_drafts.specs.declared.role.Role.{Role}
use Rattle.ug_drafts.specs.declared.role.Role.TheVariants as roles
use Rattle.ug_drafts.specs.Roles.{is_objective, is_sided}
use Rattle.ug_drafts.specs.RowNumbers.{scale_of, scaled_term, scaled_terms, signed}
use Rattle.ug_mps.specs.Entries.{Pair, Entry, row, column}
use Rattle.ug_mps.specs.Good.{Good, are_free, are_apart}
use Rattle.ug_mps.specs.History.{RowNamed, ColumnBegun, Coefficient, rows_of, columns_of, coefficients, is_row, is_column, has, place_of, goes_on, role_after, is_maximised, is_integer_on, placed}
use Rattle.ug_mps.specs.Stated.{is_term, terms_of, factor_of, numbers_of, stated_row, objective_in, stated_column, stated}
use Rattle.ug_mps.specs.Rows.{is_named}
use Rattle.ug_mps.proofs.Bytes.{and_true, not_true, same_bytes, bytes_turn, or_false, any_append}

-- ---- rows and columns

room_by : (a : Bool) (cs : List ColumnBegun) (c : ColumnBegun) → length cs ≤ 10000 → nat_lt (cond a (length cs - 1) (length cs)) 10000 ≡ true → length (cond a cs (cs ++ c ∷ [])) ≤ 10000
room_by true cs c h e = h
room_by false cs c h e = let less : length cs < 10000 = ltb-true (length cs) 10000 e in omega (arith, less, length_push cs c)

columns_few : (h : List Entry) → Good h → length (columns_of h) ≤ 10000
columns_few [] g = omega arith
columns_few (column line n pairs ∷ h) g =
    room_by (goes_on h n) (columns_of h) (record { line = line; name = n; integer = is_integer_on h }) (columns_few h g.1)
    (and_true (goes_on h n || not (is_column h n)) (nat_lt (place_of h n) 10000) (and_true ((goes_on h n || not (is_column h n)) && nat_lt (place_of h n) 10000) _ g.0.fits).0).1
columns_few (_ ∷ h) g = columns_few h g.1

rows_few : (h : List Entry) → Good h → length (rows_of h) ≤ 10000
rows_few [] g = omega arith
rows_few (row line k n ∷ h) g =
    let less : length (rows_of h) < 10000 = ltb-true (length (rows_of h)) 10000 (and_true (not (is_row h n)) (nat_lt (length (rows_of h)) 10000) g.0.fits).1 in
    let r : RowNamed = record { line = line; role = role_after (rows_of h) k; name = n } in
    omega (arith, less, length_push (rows_of h) r)
rows_few (_ ∷ h) g = rows_few h g.1

coefficients_few : (h : List Entry) → Good h → length (coefficients h) ≤ 1000000
coefficients_few [] g = omega arith
coefficients_few (column line n pairs ∷ h) g =
    let room : length (coefficients h) + length pairs ≤ 1000000 = leb-true (length (coefficients h) + length pairs) 1000000
    (and_true (are_free h (λ r. has (coefficients h) (place_of h n) r) pairs && are_apart pairs) _ (and_true ((goes_on h n || not (is_column h n)) && nat_lt (place_of h n) 10000) _ g.0.fits).1).1 in
    omega (arith, room, length-append (coefficients h) (placed (place_of h n) pairs), length-map pairs (λ (p : Pair). let c : Coefficient = record { place = place_of h n; row = p.row; number = p.number } in c))
coefficients_few (_ ∷ h) g = coefficients_few h g.1

-- ---- rows are distinguished by their names

abbrev AreRowsApart : List RowNamed → Type 0
AreRowsApart [] = Unit {0}
AreRowsApart (r ∷ rows) = (is_named rows r.name ≡ false) × AreRowsApart rows

apart_push : (rows : List RowNamed) (r : RowNamed) → AreRowsApart rows → is_named rows r.name ≡ false → AreRowsApart (rows ++ r ∷ [])
apart_push [] r a e = (refl, tt)
apart_push (q ∷ rows) r a e =
    let h = or_false (bytes_eq r.name q.name) (is_named rows r.name) e in
    (any_append (λ (s : RowNamed). bytes_eq q.name s.name) rows (r ∷ []) ∙ rw (a.0, bytes_turn r.name q.name h.0) refl, apart_push rows r a.1 h.1)

rows_apart : (h : List Entry) → Good h → AreRowsApart (rows_of h)
rows_apart [] g = tt
rows_apart (row line k n ∷ h) g =
    apart_push (rows_of h) (record { line = line; role = role_after (rows_of h) k; name = n }) (rows_apart h g.1)
    (not_true (is_row h n) (and_true (not (is_row h n)) (nat_lt (length (rows_of h)) 10000) g.0.fits).0)
rows_apart (_ ∷ h) g = rows_apart h g.1

-- how many of the rows have this name
hits : List ℕ → List RowNamed → ℕ
hits name [] = 0
hits name (r ∷ rows) = cond (bytes_eq r.name name) 1 0 + hits name rows

no_hit : (name : List ℕ) (rows : List RowNamed) → is_named rows name ≡ false → hits name rows ≡ 0
unfolding hits
no_hit name [] e = refl
no_hit name (r ∷ rows) e =
    let h = or_false (bytes_eq name r.name) (is_named rows name) e in
    rw (bytes_turn name r.name h.0, no_hit name rows h.1) refl

one_hit : (name : List ℕ) (rows : List RowNamed) → AreRowsApart rows → hits name rows ≤ 1
unfolding hits
one_hit name [] a = omega arith
one_hit name (r ∷ rows) a = ⊎_elim
    (λ t. let none : hits name rows ≡ 0 = no_hit name rows (subst (λ n. is_named rows n ≡ false) (same_bytes r.name name t) a.0) in rw (t, none) (omega arith))
    (λ f. rw f (let rest : hits name rows ≤ 1 = one_hit name rows a.1 in omega (arith, rest)))
    (cases_Bool (bytes_eq r.name name))

-- ---- terms

-- how many terms the rows have together
total : List Coefficient → List RowNamed → ℕ
total cs [] = 0
total cs (r ∷ rows) = length (terms_of cs r.name) + total cs rows

by_tests : (a b : Bool) (c : Coefficient) (cs : List Coefficient) → length (cond (a && b) (c ∷ cs) cs) ≤ cond a 1 0 + length cs
by_tests true true c cs = omega arith
by_tests true false c cs = omega arith
by_tests false b c cs = omega arith

sum_four : (a b c d e f : ℕ) → a ≤ c + d → b ≤ e + f → a + b ≤ c + e + (d + f)
sum_four a b c d e f g h = omega arith

one_more : (c : Coefficient) (cs : List Coefficient) (name : List ℕ) → length (terms_of (c ∷ cs) name) ≤ cond (bytes_eq name c.row) 1 0 + length (terms_of cs name)
one_more c cs name = by_tests (bytes_eq name c.row) (not (c.number.digits == 0)) c (filter (is_term name) cs)

total_more : (c : Coefficient) (cs : List Coefficient) (rows : List RowNamed) → total (c ∷ cs) rows ≤ hits c.row rows + total cs rows
unfolding total hits
total_more c cs [] = omega arith
total_more c cs (r ∷ rows) =
    let first : length (terms_of (c ∷ cs) r.name) ≤ cond (bytes_eq r.name c.row) 1 0 + length (terms_of cs r.name) = one_more c cs r.name in
    let rest : total (c ∷ cs) rows ≤ hits c.row rows + total cs rows = total_more c cs rows in
    sum_four (length (terms_of (c ∷ cs) r.name)) (total (c ∷ cs) rows) (cond (bytes_eq r.name c.row) 1 0) (length (terms_of cs r.name)) (hits c.row rows) (total cs rows) first rest

total_none : (rows : List RowNamed) → total [] rows ≡ 0
unfolding total
total_none [] = refl
total_none (r ∷ rows) = rw (total_none rows) refl

total_few : (cs : List Coefficient) (rows : List RowNamed) → AreRowsApart rows → total cs rows ≤ length cs
total_few [] rows a = omega (arith, total_none rows)
total_few (c ∷ cs) rows a =
    let more : total (c ∷ cs) rows ≤ hits c.row rows + total cs rows = total_more c cs rows in
    let one : hits c.row rows ≤ 1 = one_hit c.row rows a in
    let rest : total cs rows ≤ length cs = total_few cs rows a in
    omega (arith, more, one, rest)

-- the terms of a problem's row
abbrev terms_count : NamedRow → ℕ
terms_count q = length q.row.terms

abbrev sided : RowNamed → Bool
sided r = is_sided r.role

-- the terms of the rows of the problem among these
abbrev rows_count : List Entry → List RowNamed → ℕ
rows_count h rows = sum_by terms_count (map (stated_row h) (filter sided rows))

-- scaling keeps the number of terms
scaled_count : (h : List Entry) (r : RowNamed) → length (scaled_terms (numbers_of h r)) ≡ length (terms_of (coefficients h) r.name)
scaled_count h r =
    length-map (map factor_of (terms_of (coefficients h) r.name)) (scaled_term (scale_of (numbers_of h r))) ∙ length-map (terms_of (coefficients h) r.name) factor_of

signed_count : (m : Bool) (terms : List Term) → length (map (λ (t : Term). let u : Term = record { column = t.column; factor = signed m t.factor } in u) terms) ≡ length terms
signed_count m terms = length-map terms (λ (t : Term). let u : Term = record { column = t.column; factor = signed m t.factor } in u)

rows_terms : (h : List Entry) (rows : List RowNamed) → rows_count h rows ≤ total (coefficients h) rows
unfolding total
rows_terms h [] = omega arith
rows_terms h (r ∷ rows) =
    let rest : rows_count h rows ≤ total (coefficients h) rows = rows_terms h rows in
    ⊎_elim
    (λ t. rw t (rw (sum_by-cons terms_count (stated_row h r) (map (stated_row h) (filter sided rows))) (omega (arith, rest, scaled_count h r))))
    (λ f. rw f (omega (arith, rest)))
    (cases_Bool (is_sided r.role))

not_both : (role : Role) → is_objective role ≡ true → is_sided role ≡ false
not_both roles.Objective e = refl
not_both roles.Ignored e = refl
not_both roles.AtMost e = absurd (false≢true e)
not_both roles.AtLeast e = absurd (false≢true e)
not_both roles.Equal e = absurd (false≢true e)

-- the objective has as many terms as its row has coefficients
objective_count : (h : List Entry) (r : RowNamed) (rows : List RowNamed) → is_objective r.role ≡ true → length (objective_in h (r ∷ rows)).terms ≡ length (terms_of (coefficients h) r.name)
objective_count h r rows t = rw t (signed_count (is_maximised h) (scaled_terms (numbers_of h r)) ∙ scaled_count h r)

all_terms : (h : List Entry) (rows : List RowNamed) → rows_count h rows + length (objective_in h rows).terms ≤ total (coefficients h) rows
unfolding total
all_terms h [] = omega arith
all_terms h (r ∷ rows) =
    let rest : rows_count h rows + length (objective_in h rows).terms ≤ total (coefficients h) rows = all_terms h rows in
    let others : rows_count h rows ≤ total (coefficients h) rows = rows_terms h rows in
    ⊎_elim
    (λ t. let count = objective_count h r rows t in rw (not_both r.role t) (omega (arith, others, count)))
    (λ f. rw f (⊎_elim
    (λ s. rw s (rw (sum_by-cons terms_count (stated_row h r) (map (stated_row h) (filter sided rows))) (omega (arith, rest, scaled_count h r))))
    (λ n. rw n (omega (arith, rest)))
    (cases_Bool (is_sided r.role))))
    (cases_Bool (is_objective r.role))

filter_few : {X : Type 0} (p : X → Bool) (xs : List X) → length (filter p xs) ≤ length xs
filter_few p [] = omega arith
filter_few p (x ∷ xs) = ⊎_elim
    (λ t. rw t (let rest = filter_few p xs in omega (arith, rest)))
    (λ f. rw f (let rest = filter_few p xs in omega (arith, rest)))
    (cases_Bool (p x))

pub counts_fit : (boxed : Option ℕ) (h : List Entry) → Good h → FitsCounts (stated boxed h)
counts_fit boxed h g = record {
  columns = omega (arith, columns_few h g, length-map (columns_of h) (stated_column boxed h));
  rows = omega (arith, rows_few h g, filter_few sided (rows_of h), length-map (filter sided (rows_of h)) (stated_row h));
  terms = omega (arith, all_terms h (rows_of h), total_few (coefficients h) (rows_of h) (rows_apart h g), coefficients_few h g);
}
