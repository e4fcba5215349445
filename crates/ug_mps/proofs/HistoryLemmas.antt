-- What holds of every good history.
use Rattle.std.proofs.Common.{◌≡◌, ℕ, ◌+◌, ◌-◌, ◌≤◌, ◌==◌, ◌&&◌, ◌||◌, not, cond, Bool, true, false, List, [], ◌∷◌, ◌++◌, length, map, None, sym, refl, ap, subst, ◌∙◌, arith, ⊎_elim}
use Rattle.std.specs.List.{list_any}
use Rattle.std.specs.Str.{bytes_eq}
use Rattle.std.proofs.lemmas.Bool.{cases_Bool, eq-eqb, false≢true}
use Rattle.std.proofs.lemmas.List.{append_assoc, get_or_push, length_push, map_push}
use Rattle.std.proofs.lemmas.List.Elements.{All-nil, All-weaker}
use Rattle.ug_mps.specs.Entries.{Pair, Entry, row, column, sides, ranges, bound}
use Rattle.ug_mps.specs.History.{RowNamed, ColumnBegun, Coefficient, rows_of, columns_of, coefficients, sides_given, ranges_given, is_row, is_column, is_integer_on, goes_on, place_of, placed, names_row, has, low_set, high_set, is_made_integer}
use Rattle.ug_mps.specs.Good.{are_apart, are_free, column_fits, given_fits, Good}
use Rattle.ug_mps.specs.Names.{name_at, StandsAt, AreDistinct}
use Rattle.ug_mps.specs.Rows.{AreOrdered, AreWithin}
use Rattle.ug_mps.proofs.Bytes.{or_false, and_true, not_true, false_from, same_bytes, bytes_same, bytes_apart, bytes_turn, any_append, any_push, any_true}
use Rattle.ug_mps.proofs.RowsLemmas.{append_none, ordered_push, within_push}

-- the columns' names
abbrev pub names_of : List Entry → List (List ℕ)
names_of h = map (λ (c : ColumnBegun). c.name) (columns_of h)

-- ---- what a column's line that fits has

pub column_pairs_fit : (h : List Entry) (name : List ℕ) (pairs : List Pair) → column_fits h name pairs ≡ true
    → (are_free h (λ r. has (coefficients h) (place_of h name) r) pairs ≡ true) × (are_apart pairs ≡ true)
column_pairs_fit h name pairs e =
    and_true (are_free h (λ r. has (coefficients h) (place_of h name) r) pairs) (are_apart pairs)
    (and_true (are_free h (λ r. has (coefficients h) (place_of h name) r) pairs && are_apart pairs) _ (and_true ((goes_on h name || not (is_column h name)) && _) _ e).1).0

row_apart : (h : List Entry) (name other : List ℕ) → is_row h name ≡ false → is_row h other ≡ true → bytes_eq name other ≡ false
row_apart h name other n y = bytes_apart name other (λ e. false≢true (sym n ∙ ap (is_row h) e ∙ y))

-- free pairs name rows that are there
free_known : (h : List Entry) (taken : List ℕ → Bool) (pairs : List Pair) (name : List ℕ) → are_free h taken pairs ≡ true → is_row h name ≡ false → names_row pairs name ≡ false
free_known h taken [] name f e = refl
free_known h taken (p ∷ pairs) name f e =
    let parts = and_true (is_row h p.row && not (taken p.row)) (are_free h taken pairs) f in
    let there = (and_true (is_row h p.row) (not (taken p.row)) parts.0).0 in
    rw (row_apart h name p.row e there) (free_known h taken pairs name parts.1 e)

placed_names : (j : ℕ) (pairs : List Pair) (name : List ℕ) → list_any (λ (c : Coefficient). bytes_eq name c.row) (placed j pairs) ≡ names_row pairs name
placed_names j [] name = refl
placed_names j (p ∷ pairs) name = ap (λ b. bytes_eq name p.row || b) (placed_names j pairs name)

-- no coefficient is of a row that is not there
pub coefficients_known : (h : List Entry) → Good h → (name : List ℕ) → is_row h name ≡ false → list_any (λ (c : Coefficient). bytes_eq name c.row) (coefficients h) ≡ false
coefficients_known [] g name e = refl
coefficients_known (row line k n ∷ h) g name e =
    let before = or_false (is_row h name) _ (sym (any_append (λ (r : RowNamed). bytes_eq name r.name) (rows_of h) _) ∙ e) in
    coefficients_known h g.1 name before.0
coefficients_known (column line n pairs ∷ h) g name e =
    any_append (λ (c : Coefficient). bytes_eq name c.row) (coefficients h) (placed (place_of h n) pairs)
    ∙ rw (coefficients_known h g.1 name e) (placed_names (place_of h n) pairs name ∙ free_known h _ pairs name (column_pairs_fit h n pairs g.0.fits).0 e)
coefficients_known (_ ∷ h) g name e = coefficients_known h g.1 name e

given_known : (h : List Entry) (given pairs : List Pair) (name : List ℕ) → given_fits h given pairs ≡ true → is_row h name ≡ false → names_row pairs name ≡ false
given_known h given pairs name f e = free_known h (λ r. names_row given r) pairs name (and_true (are_free h (λ r. names_row given r) pairs) (are_apart pairs) f).0 e

-- no right-hand side and no range is of a row that is not there
pub sides_known : (h : List Entry) → Good h → (name : List ℕ) → is_row h name ≡ false → names_row (sides_given h) name ≡ false
sides_known [] g name e = refl
sides_known (row line k n ∷ h) g name e =
    let before = or_false (is_row h name) _ (sym (any_append (λ (r : RowNamed). bytes_eq name r.name) (rows_of h) _) ∙ e) in
    sides_known h g.1 name before.0
sides_known (sides set pairs ∷ h) g name e =
    any_append (λ (p : Pair). bytes_eq name p.row) (sides_given h) pairs ∙ rw (sides_known h g.1 name e) (given_known h (sides_given h) pairs name g.0.fits e)
sides_known (_ ∷ h) g name e = sides_known h g.1 name e

pub ranges_known : (h : List Entry) → Good h → (name : List ℕ) → is_row h name ≡ false → names_row (ranges_given h) name ≡ false
ranges_known [] g name e = refl
ranges_known (row line k n ∷ h) g name e =
    let before = or_false (is_row h name) _ (sym (any_append (λ (r : RowNamed). bytes_eq name r.name) (rows_of h) _) ∙ e) in
    ranges_known h g.1 name before.0
ranges_known (ranges set pairs ∷ h) g name e =
    any_append (λ (p : Pair). bytes_eq name p.row) (ranges_given h) pairs ∙ rw (ranges_known h g.1 name e) (given_known h (ranges_given h) pairs name g.0.fits e)
ranges_known (_ ∷ h) g name e = ranges_known h g.1 name e

-- ---- columns

before_by : (b : Bool) (cs : List ColumnBegun) (c : ColumnBegun) (name : List ℕ)
    → list_any (λ (d : ColumnBegun). bytes_eq name d.name) (cond b cs (cs ++ c ∷ [])) ≡ false → list_any (λ (d : ColumnBegun). bytes_eq name d.name) cs ≡ false
before_by true cs c name e = e
before_by false cs c name e = (or_false (list_any (λ (d : ColumnBegun). bytes_eq name d.name) cs) _ (sym (any_append (λ (d : ColumnBegun). bytes_eq name d.name) cs (c ∷ [])) ∙ e)).0

column_before : (h : List Entry) (line : ℕ) (n : List ℕ) (pairs : List Pair) (name : List ℕ) → is_column (column line n pairs ∷ h) name ≡ false → is_column h name ≡ false
column_before h line n pairs name e = before_by (goes_on h n) (columns_of h) _ name e

-- the bound is of a column that is there, so of no other
other_column : (h : List Entry) (name n : List ℕ) → is_column h name ≡ false → is_column h n ≡ true → bytes_eq name n ≡ false
other_column h name n e there = bytes_apart name n (λ s. false≢true (sym e ∙ ap (is_column h) s ∙ there))

-- no bound is of a column that is not there
pub lows_known : (h : List Entry) → Good h → (name : List ℕ) → is_column h name ≡ false → low_set h name ≡ None
lows_known [] g name e = refl
lows_known (column line n pairs ∷ h) g name e = lows_known h g.1 name (column_before h line n pairs name e)
lows_known (bound set n change ∷ h) g name e = rw (other_column h name n e g.0.fits) (lows_known h g.1 name e)
lows_known (_ ∷ h) g name e = lows_known h g.1 name e

pub highs_known : (h : List Entry) → Good h → (name : List ℕ) → is_column h name ≡ false → high_set h name ≡ None
highs_known [] g name e = refl
highs_known (column line n pairs ∷ h) g name e = highs_known h g.1 name (column_before h line n pairs name e)
highs_known (bound set n change ∷ h) g name e = rw (other_column h name n e g.0.fits) (highs_known h g.1 name e)
highs_known (_ ∷ h) g name e = highs_known h g.1 name e

pub made_known : (h : List Entry) → Good h → (name : List ℕ) → is_column h name ≡ false → is_made_integer h name ≡ false
made_known [] g name e = refl
made_known (column line n pairs ∷ h) g name e = made_known h g.1 name (column_before h line n pairs name e)
made_known (bound set n change ∷ h) g name e = rw (other_column h name n e g.0.fits) (made_known h g.1 name e)
made_known (_ ∷ h) g name e = made_known h g.1 name e

-- the columns' names with a column more
names_push : (h : List Entry) (c : ColumnBegun) → map (λ (c : ColumnBegun). c.name) (columns_of h ++ c ∷ []) ≡ names_of h ++ c.name ∷ []
names_push h c = map_push (λ (c : ColumnBegun). c.name) (columns_of h) c

-- a column that continues is the last
pub record IsLast (names : List (List ℕ)) (name : List ℕ) (j : ℕ) : Type 0 where
  pub stands : StandsAt names name j
  pub last : j + 1 ≡ length names

last_pushed : (names : List (List ℕ)) (n : List ℕ) → IsLast (names ++ n ∷ []) n (length names)
last_pushed names n = record {
  stands = record { there = omega (arith, length_push names n); same = get_or_push names n [] (length names) refl };
  last = omega (arith, length_push names n);
}

-- the column of a column's line is the last
last_of_line : (h : List Entry) (line : ℕ) (n : List ℕ) (pairs : List Pair) → (goes_on h n ≡ true → (j : ℕ) × IsLast (names_of h) n j) → (j : ℕ) × IsLast (names_of (column line n pairs ∷ h)) n j
last_of_line h line n pairs f = ⊎_elim
    (λ t. let before = f t in (before.0, rw t before.1))
    (λ e. (length (names_of h), rw e (subst (λ names. IsLast names n (length (names_of h))) (sym (names_push h (record { line = line; name = n; integer = is_integer_on h }))) (last_pushed (names_of h) n))))
    (cases_Bool (goes_on h n))

pub going_last : (h : List Entry) (name : List ℕ) → goes_on h name ≡ true → (j : ℕ) × IsLast (names_of h) name j
going_last [] name e = absurd (false≢true e)
going_last (column line n pairs ∷ h) name e =
    let last = last_of_line h line n pairs (going_last h n) in
    (last.0, subst (λ m. IsLast (names_of (column line n pairs ∷ h)) m last.0) (sym (same_bytes name n e)) last.1)
going_last (_ ∷ h) name e = going_last h name e

named_columns : (cs : List ColumnBegun) (name : List ℕ) → list_any (λ (c : ColumnBegun). bytes_eq name c.name) cs ≡ list_any (λ n. bytes_eq name n) (map (λ (c : ColumnBegun). c.name) cs)
named_columns [] name = refl
named_columns (c ∷ cs) name = ap (λ b. bytes_eq name c.name || b) (named_columns cs name)

-- a name among the names
pub column_named : (h : List Entry) (name : List ℕ) → is_column h name ≡ list_any (λ n. bytes_eq name n) (names_of h)
column_named h name = named_columns (columns_of h) name

-- the last column's name continues
pub last_going : (h : List Entry) (name : List ℕ) (j : ℕ) → AreDistinct (names_of h) → StandsAt (names_of h) name j → j + 1 ≡ length (names_of h) → goes_on h name ≡ true
last_going [] name j apart here e = absurd (omega (arith, here.there))
last_going (column line n pairs ∷ h) name j apart here e =
    let last = last_of_line h line n pairs (going_last h n) in
    let names = names_of (column line n pairs ∷ h) in
    let same : j ≡ last.0 = omega (arith, e, last.1.last) in
    bytes_same name n (sym here.same ∙ ap (name_at names) same ∙ last.1.stands.same)
last_going (_ ∷ h) name j apart here e = last_going h name j apart here e

-- a name that belongs to no column continues with none
pub not_going : (h : List Entry) (name : List ℕ) → is_column h name ≡ false → goes_on h name ≡ false
not_going h name e = false_from (goes_on h name) (λ t.
    let last = going_last h name t in
    false≢true (sym e ∙ column_named h name ∙ any_true (names_of h) name last.0 last.1.stands))

-- a column that is not the last does not continue
pub not_last : (h : List Entry) (name : List ℕ) (j : ℕ) → AreDistinct (names_of h) → StandsAt (names_of h) name j → (j + 1 ≡ length (names_of h) → ⊥) → goes_on h name ≡ false
not_last h name j apart here ne = false_from (goes_on h name) (λ t.
    let last = going_last h name t in
    ne (ap (λ k. k + 1) (apart j last.0 here.there last.1.stands.there (here.same ∙ sym last.1.stands.same)) ∙ last.1.last))

-- ---- order

abbrev pub AreFree : List Coefficient → ℕ → List Pair → Type 0
AreFree cs j [] = Unit {0}
AreFree cs j (p ∷ pairs) = (has cs j p.row ≡ false) × AreFree cs j pairs

free_from : (h : List Entry) (cs : List Coefficient) (j : ℕ) (pairs : List Pair) → are_free h (λ r. has cs j r) pairs ≡ true → AreFree cs j pairs
free_from h cs j [] f = tt
free_from h cs j (p ∷ pairs) f =
    let parts = and_true (is_row h p.row && not (has cs j p.row)) (are_free h (λ r. has cs j r) pairs) f in
    (not_true (has cs j p.row) (and_true (is_row h p.row) (not (has cs j p.row)) parts.0).1, free_from h cs j pairs parts.1)

-- a pair as a coefficient
abbrev placed_at : ℕ → Pair → Coefficient
placed_at j p = record { place = j; row = p.row; number = p.number }

free_more : (cs : List Coefficient) (j : ℕ) (p : Pair) (pairs : List Pair) → AreFree cs j pairs → names_row pairs p.row ≡ false → AreFree (cs ++ placed_at j p ∷ []) j pairs
free_more cs j p [] f n = tt
free_more cs j p (q ∷ pairs) f n =
    let h = or_false (bytes_eq p.row q.row) (names_row pairs p.row) n in
    let other : bytes_eq q.row p.row ≡ false = bytes_turn p.row q.row h.0 in
    (any_push (λ (c : Coefficient). (c.place == j) && bytes_eq q.row c.row) cs (placed_at j p) ∙ rw (f.0, other, eq-eqb j j refl) refl, free_more cs j p pairs f.1 h.1)

ordered_placed : (cs : List Coefficient) (j : ℕ) (pairs : List Pair) → AreOrdered cs → AreWithin j cs → AreFree cs j pairs → are_apart pairs ≡ true
    → AreOrdered (cs ++ placed j pairs) × AreWithin j (cs ++ placed j pairs)
ordered_placed cs j [] o w f a = rw (append_none cs) (o, w)
ordered_placed cs j (p ∷ pairs) o w f a =
    let parts = and_true (not (names_row pairs p.row)) (are_apart pairs) a in
    let cs' = cs ++ placed_at j p ∷ [] in
    let rest = ordered_placed cs' j pairs (ordered_push cs (placed_at j p) o w f.0) (within_push cs (placed_at j p) w) (free_more cs j p pairs f.1 (not_true (names_row pairs p.row) parts.0)) parts.1 in
    rw (← append_assoc cs (placed_at j p ∷ []) (placed j pairs)) rest

pub within_more : (cs : List Coefficient) (i j : ℕ) → i ≤ j → AreWithin i cs → AreWithin j cs
within_more cs i j l w = All-weaker (λ (c : Coefficient). c.place ≤ i) (λ (c : Coefficient). c.place ≤ j) (λ c h. omega arith) cs w

place_by : (b : Bool) (n : ℕ) → n - 1 ≤ (cond b (n - 1) n)
place_by true n = omega arith
place_by false n = omega arith

-- a line's column is the last one or the one behind it
pub place_high : (h : List Entry) (name : List ℕ) → length (columns_of h) - 1 ≤ place_of h name
place_high h name = place_by (goes_on h name) (length (columns_of h))

-- the place of a line's column is that of the last column behind it
pub place_last : (h : List Entry) (line : ℕ) (n : List ℕ) (pairs : List Pair) → place_of h n ≡ length (columns_of (column line n pairs ∷ h)) - 1
place_last h line n pairs = ⊎_elim
    (λ t. rw t refl)
    (λ f. rw f (omega (arith, length_push (columns_of h) (record { line = line; name = n; integer = is_integer_on h }))))
    (cases_Bool (goes_on h n))

-- the coefficients are in order, and of columns that are there
pub ordered_of : (h : List Entry) → Good h → AreOrdered (coefficients h) × AreWithin (length (columns_of h) - 1) (coefficients h)
ordered_of [] g = (tt, All-nil (λ (c : Coefficient). c.place ≤ 0))
ordered_of (column line n pairs ∷ h) g =
    let j = place_of h n in
    let before = ordered_of h g.1 in
    let fit = column_pairs_fit h n pairs g.0.fits in
    let more = ordered_placed (coefficients h) j pairs before.0 (within_more (coefficients h) (length (columns_of h) - 1) j (place_high h n) before.1) (free_from h (coefficients h) j pairs fit.0) fit.1 in
    (more.0, subst (λ k. AreWithin k (coefficients h ++ placed j pairs)) (place_last h line n pairs) more.1)
ordered_of (_ ∷ h) g = ordered_of h g.1

pub below_of : (h : List Entry) → Good h → (name : List ℕ) → AreOrdered (coefficients h) × AreWithin (place_of h name) (coefficients h)
below_of h g name = let o = ordered_of h g in (o.0, within_more (coefficients h) (length (columns_of h) - 1) (place_of h name) (place_high h name) o.1)
