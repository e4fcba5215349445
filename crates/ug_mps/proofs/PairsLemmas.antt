-- Pairs, the words of their numbers, and what is at fault among them.
use Rattle.std.proofs.Common.{◌≡◌, ℕ, ◌≤◌, ◌||◌, ◌&&◌, not, cond, Bool, true, false, List, [], ◌∷◌, length, find, Option, Some, None, sym, refl, ap, subst, ◌∙◌, ⊎_elim}
use Rattle.std.specs.Prelude.{option_and_then}
use Rattle.std.specs.Option.{option_map}
use Rattle.std.specs.Str.{bytes_eq}
use Rattle.std.proofs.lemmas.Bool.{cases_Bool}
use Rattle.ug_lines.specs.declared.shape.NamedWord.{NamedWord}
use Rattle.ug_lines.specs.Shapes.{WordPair}
use Rattle.ug_lines.specs.Shaped.{second_shaped}
use Rattle.ug_problem.specs.declared.decimal.Decimal.{Decimal}
use Rattle.ug_problem.specs.Decimals.{decimal_of}
use Rattle.ug_mps.specs.Entries.{Pair, Entry}
use Rattle.ug_mps.specs.Faults.{repeated, rows_in}
use Rattle.ug_mps.specs.Good.{are_apart, are_free}
use Rattle.ug_mps.specs.History.{is_row, names_row}
use Rattle.ug_mps.specs.Numbered.{AreShortNumbers}
use Rattle.ug_mps.specs.Says.{pair_read, pairs_read}
use Rattle.ug_mps.specs.Rows.{KeptRows, lists_of, AreRows}
use Rattle.ug_mps.specs.RowSteps.{is_among, first_missing, rows_named}
use Rattle.ug_mps.proofs.Bytes.{or_false, both, bytes_turn}
use Rattle.ug_mps.proofs.DraftLemmas.{row_named}

-- tests that agree find the same
pub find_same : (p q : List ℕ → Bool) (xs : List (List ℕ)) → ((x : List ℕ) → p x ≡ q x) → find p xs ≡ find q xs
find_same p q [] h = refl
find_same p q (x ∷ xs) h = rw (h x, find_same p q xs h) refl

-- the first row that is not there
pub missing_is : (h : List Entry) (rows : KeptRows) (words : List (List ℕ)) → AreRows (lists_of h) rows → find (λ word. not (is_row h word)) words ≡ first_missing rows.names words
missing_is h rows words are = find_same (λ word. not (is_row h word)) (λ word. not (is_among rows.names word)) words (λ x. ap not (row_named h rows x are))

-- if none is missing, each is there
none_missing : (test : List ℕ → Bool) (x : List ℕ) (xs : List (List ℕ)) → find (λ word. not (test word)) (x ∷ xs) ≡ None → (test x ≡ true) × (find (λ word. not (test word)) xs ≡ None)
none_missing test x xs e = ⊎_elim
    (λ t. (t, rw t at e))
    (λ f. let bad : Some x ≡ None = rw f at e in absurd (cc))
    (cases_Bool (test x))

-- ---- numbers

-- the second pair's number is short
pub second_short : (o : Option NamedWord) (w : NamedWord) → o ≡ Some w → AreShortNumbers (second_shaped o) → length w.number.now ≤ 255
second_short o w e s = (subst (λ o. AreShortNumbers (second_shaped o)) e s).0

read_by : (p : WordPair) (pairs : List WordPair) (ps : List Pair) (q : Option Pair) (qs : Option (List Pair)) → pair_read p ≡ q → pairs_read pairs ≡ qs
    → option_and_then (λ q. option_map (λ qs. q ∷ qs) qs) q ≡ Some ps → (r : Pair) × (rs : List Pair) × (pair_read p ≡ Some r) × (pairs_read pairs ≡ Some rs) × (ps ≡ r ∷ rs)
read_by p pairs ps None qs a b e = let bad : None ≡ Some ps = e in absurd (cc)
read_by p pairs ps (Some r) None a b e = let bad : None ≡ Some ps = e in absurd (cc)
read_by p pairs ps (Some r) (Some rs) a b e = (r, rs, a, b, (let s : Some (r ∷ rs) ≡ Some ps = e in cc))

read_parts : (p : WordPair) (pairs : List WordPair) (ps : List Pair) → pairs_read (p ∷ pairs) ≡ Some ps → (r : Pair) × (rs : List Pair) × (pair_read p ≡ Some r) × (pairs_read pairs ≡ Some rs) × (ps ≡ r ∷ rs)
read_parts p pairs ps e = read_by p pairs ps (pair_read p) (pairs_read pairs) refl refl e

some_same : {A : Type 0} (x y : A) → Some x ≡ Some y → x ≡ y
some_same x y e = cc

read_row_by : (p : WordPair) (r : Pair) (o : Option Decimal) → option_map (λ d. record { row = p.row; number = d }) o ≡ Some r → r.row ≡ p.row
read_row_by p r None e = let bad : None ≡ Some r = e in absurd (cc)
read_row_by p r (Some d) e = let s : Some (record { row = p.row; number = d }) ≡ Some r = e in ap (λ (o : Pair). o.row) (some_same _ _ (sym s))

-- the pairs with their numbers name the rows
pub read_rows : (pairs : List WordPair) (ps : List Pair) → pairs_read pairs ≡ Some ps → rows_named ps ≡ rows_in pairs
read_rows [] ps e = let s : [] ≡ ps = some_same [] ps e in rw (← s) refl
read_rows (p ∷ pairs) ps e =
    let q = read_parts p pairs ps e in
    rw (q.4, read_row_by p q.0 (decimal_of p.number) q.2, read_rows pairs q.1 q.3) refl

-- they are as many
pub read_count : (pairs : List WordPair) (ps : List Pair) → pairs_read pairs ≡ Some ps → length ps ≡ length pairs
read_count [] ps e = let s : [] ≡ ps = some_same [] ps e in rw (← s) refl
read_count (p ∷ pairs) ps e =
    let q = read_parts p pairs ps e in
    rw (q.4, read_count pairs q.1 q.3) refl

-- ---- rows that are taken

-- if no row is repeated, each is free and they are apart
repeated_parts : (taken : List ℕ → Bool) (r : List ℕ) (rs : List (List ℕ)) → repeated taken (r ∷ rs) ≡ None → (taken r ≡ false) × (repeated (λ word. taken word || bytes_eq word r) rs ≡ None)
repeated_parts taken r rs e = ⊎_elim
    (λ t. let bad : Some r ≡ None = rw t at e in absurd (cc))
    (λ f. (f, rw f at e))
    (cases_Bool (taken r))

or_swap : (a b c : Bool) → ((a || b) || c) ≡ ((a || c) || b)
or_swap true b c = refl
or_swap false true true = refl
or_swap false true false = refl
or_swap false false true = refl
or_swap false false false = refl

repeated_same : (p q : List ℕ → Bool) (xs : List (List ℕ)) → ((x : List ℕ) → p x ≡ q x) → repeated q xs ≡ repeated p xs
repeated_same p q [] h = refl
repeated_same p q (x ∷ xs) h = rw (h x) (ap (λ o. cond (q x) (Some x) o) (repeated_same (λ word. p word || bytes_eq word x) (λ word. q word || bytes_eq word x) xs (λ y. ap (λ b. b || bytes_eq y x) (h y))))

-- no row is the one that is taken too
others : (taken : List ℕ → Bool) (name : List ℕ) (ps : List Pair) → repeated (λ word. taken word || bytes_eq word name) (rows_named ps) ≡ None → (repeated taken (rows_named ps) ≡ None) × (names_row ps name ≡ false)
others taken name [] e = (refl, refl)
others taken name (p ∷ ps) e =
    let q = repeated_parts (λ word. taken word || bytes_eq word name) p.row (rows_named ps) e in
    let free = or_false (taken p.row) (bytes_eq p.row name) q.0 in
    let swap : repeated (λ word. (taken word || bytes_eq word p.row) || bytes_eq word name) (rows_named ps) ≡ None =
    repeated_same (λ word. (taken word || bytes_eq word name) || bytes_eq word p.row) (λ word. (taken word || bytes_eq word p.row) || bytes_eq word name) (rows_named ps) (λ x. or_swap (taken x) (bytes_eq x name) (bytes_eq x p.row)) ∙ q.1 in
    let rest = others (λ word. taken word || bytes_eq word p.row) name ps swap in
    (rw free.0 rest.0, rw (bytes_turn p.row name free.1) rest.1)

-- so the pairs are free and apart
pub free_and_apart : (h : List Entry) (taken : List ℕ → Bool) (ps : List Pair) → find (λ word. not (is_row h word)) (rows_named ps) ≡ None → repeated taken (rows_named ps) ≡ None
    → (are_free h taken ps ≡ true) × (are_apart ps ≡ true)
free_and_apart h taken [] m r = (refl, refl)
free_and_apart h taken (p ∷ ps) m r =
    let there = none_missing (is_row h) p.row (rows_named ps) m in
    let q = repeated_parts taken p.row (rows_named ps) r in
    let rest = others taken p.row ps q.1 in
    let more = free_and_apart h taken ps there.1 rest.0 in (
      both (is_row h p.row && not (taken p.row)) (are_free h taken ps) (both (is_row h p.row) (not (taken p.row)) there.0 (ap not q.0)) more.0,
      both (not (names_row ps p.row)) (are_apart ps) (ap not rest.1) more.1,
    )
