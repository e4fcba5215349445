-- What a good history states of a row is formed as a problem's terms are, and within the limits
-- where it is not too wide.
use Rattle.std.proofs.Common.{◌≡◌, ◌≢◌, ℕ, ℤ, zero, suc, pos, negsuc, neg_ℤ, ◌*ℤ◌, ◌+◌, ◌-◌, ◌*◌, ◌<◌, ◌≤◌, ◌^◌, ◌==◌, ◌||◌, not, cond, nat_lt, unsigned_abs, Bool, true, false, List, [], ◌∷◌, ◌++◌, length, get_or, map, filter, All, IfSome, Option, Some, None, sym, refl, subst, ◌∙◌, arith, ⊎_elim}
use Rattle.std.specs.Str.{bytes_eq}
use Rattle.std.proofs.Math.Nat.{one-le-pow, mul-le-mul_right}
use Rattle.std.proofs.lemmas.Int.{ints}
use Rattle.std.proofs.lemmas.Bool.{cases_Bool, false≢true, ltb-false, eq-eqb}
use Rattle.std.proofs.lemmas.List.{length-map, length_push, get_or-map}
use Rattle.std.proofs.lemmas.List.Elements.{All-nil, All-cons, All-head, All-tail, All-map, All-filter, All-weaker, filter_passes}
use Rattle.ug_rows.specs.declared.row.Term.{Term}
use Rattle.ug_rows.specs.Rows.{term_at, no_term}
use Rattle.ug_problem.specs.declared.decimal.Decimal.{Decimal}
use Rattle.ug_problem.specs.Decimals as decimals
use Rattle.ug_problem.specs.Fractions.{signed_digits, zeros_of_power, places_of, scaled}
use Rattle.ug_problem.specs.Instances.{AreTerms}
use Rattle.ug_problem.specs.Limits.{AreSmall}
use Rattle.ug_drafts.specs.declared.row.Factor.{Factor}
use Rattle.ug_drafts.specs.declared.role.Role.{Role}
use Rattle.ug_drafts.specs.RowNumbers.{Numbers, scale_of, scaled_term, scaled_terms, scaled_side, scaled_range, low_side, high_side, is_above, is_wide, signed, signed_terms}
use Rattle.ug_drafts.specs.Made.{are_terms_wide, are_wide}
use Rattle.ug_drafts.proofs.ScalingLemmas.{no_factor}
use Rattle.ug_mps.specs.Entries.{Entry, column}
use Rattle.ug_mps.specs.Good.{Good}
use Rattle.ug_mps.specs.History.{ColumnBegun, Coefficient, columns_of, coefficients, goes_on, is_integer_on}
use Rattle.ug_mps.specs.Stated.{is_term, terms_of, factor_of}
use Rattle.ug_mps.specs.Rows.{IsBefore, AreOrdered, AreWithin}
use Rattle.ug_mps.proofs.Bytes.{and_true, not_true, or_false, same_bytes}
use Rattle.ug_mps.proofs.HistoryLemmas.{ordered_of}

-- ---- coefficients in order

-- the columns rise
abbrev AreRising : List Factor → Type 0
AreRising [] = Unit {0}
AreRising (f ∷ fs) = All (λ (g : Factor). f.column < g.column) fs × AreRising fs

-- coefficient k
abbrev factor_at : List Factor → ℕ → Factor
factor_at fs k = get_or fs k no_factor

rising_at : (fs : List Factor) → AreRising fs → (i k : ℕ) → i < k → k < length fs → (factor_at fs i).column < (factor_at fs k).column
rising_at [] r i k l a = absurd (omega (arith, a))
rising_at (f ∷ fs) r i zero l a = absurd (omega (arith, l))
rising_at (f ∷ fs) r zero (suc k) l a = r.0 k no_factor (omega (arith, a))
rising_at (f ∷ fs) r (suc i) (suc k) l a = rising_at fs r.1 i k (omega (arith, l)) (omega (arith, a))

-- the coefficients of a row
abbrev pub factors_in : List Coefficient → List ℕ → List Factor
factors_in cs name = map factor_of (terms_of cs name)

after_it : (c : Coefficient) (cs : List Coefficient) (name : List ℕ) → name ≡ c.row → All (IsBefore c) cs → All (λ (f : Factor). c.place < f.column) (factors_in cs name)
after_it c [] name e b = All-nil (λ (f : Factor). c.place < f.column)
after_it c (d ∷ cs) name e b =
    let rest = after_it c cs name e (All-tail (IsBefore c) d cs b) in
    let first = All-head (IsBefore c) d cs b in
    ⊎_elim
    (λ t. subst (λ b. All (λ (f : Factor). c.place < f.column) (map factor_of (cond b (d ∷ filter (is_term name) cs) (filter (is_term name) cs)))) (sym t)
    (All-cons (λ (f : Factor). c.place < f.column) (factor_of d) (factors_in cs name) (first.row (sym e ∙ same_bytes name d.row (and_true (bytes_eq name d.row) (not (d.number.digits == 0)) t).0)) rest))
    (λ f. subst (λ b. All (λ (f : Factor). c.place < f.column) (map factor_of (cond b (d ∷ filter (is_term name) cs) (filter (is_term name) cs)))) (sym f) rest)
    (cases_Bool (is_term name d))

factors_rising : (cs : List Coefficient) (name : List ℕ) → AreOrdered cs → AreRising (factors_in cs name)
factors_rising [] name o = tt
factors_rising (c ∷ cs) name o =
    let rest = factors_rising cs name o.1 in
    ⊎_elim
    (λ t. subst (λ b. AreRising (map factor_of (cond b (c ∷ filter (is_term name) cs) (filter (is_term name) cs)))) (sym t)
    (after_it c cs name (same_bytes name c.row (and_true (bytes_eq name c.row) (not (c.number.digits == 0)) t).0) o.0, rest))
    (λ f. subst (λ b. AreRising (map factor_of (cond b (c ∷ filter (is_term name) cs) (filter (is_term name) cs)))) (sym f) rest)
    (cases_Bool (is_term name c))

-- ---- coefficients of columns that are there

below_by : (width : ℕ) (cs : List Coefficient) → AreWithin (width - 1) cs → (0 < length cs → 0 < width) → All (λ (c : Coefficient). c.place < width) cs
below_by width cs w some = λ k d a. let in_range : 0 < length cs = omega (arith, a) in let high = w k d a in omega (arith, some in_range, high)

some_by : (b : Bool) (cs : List ColumnBegun) (c : ColumnBegun) → (b ≡ true → 0 < length cs) → 0 < length (cond b cs (cs ++ c ∷ []))
some_by true cs c h = h refl
some_by false cs c h = omega (arith, length_push cs c)

-- a column that continues is there
going_some : (h : List Entry) (n : List ℕ) → goes_on h n ≡ true → 0 < length (columns_of h)
going_some [] n e = absurd (false≢true e)
going_some (column line m pairs ∷ h) n e = some_by (goes_on h m) (columns_of h) (record { line = line; name = m; integer = is_integer_on h }) (λ t. going_some h m t)
going_some (_ ∷ h) n e = going_some h n e

-- if there are coefficients there are columns
some_columns : (h : List Entry) → 0 < length (coefficients h) → 0 < length (columns_of h)
some_columns [] a = absurd (omega (arith, a))
some_columns (column line n pairs ∷ h) a = some_by (goes_on h n) (columns_of h) (record { line = line; name = n; integer = is_integer_on h }) (λ t. going_some h n t)
some_columns (_ ∷ h) a = some_columns h a

below_of : (h : List Entry) → Good h → All (λ (c : Coefficient). c.place < length (columns_of h)) (coefficients h)
below_of h g = below_by (length (columns_of h)) (coefficients h) (ordered_of h g).1 (some_columns h)

-- ---- coefficients that are not 0

product_some : (z : ℤ) (m : ℕ) → z ≢ pos 0 → 1 ≤ m → (z *ℤ pos m) ≢ pos 0
product_some (pos zero) m n some e = n refl
product_some (pos (suc k)) m n some e = let least : 1 * m ≤ suc k * m = mul-le-mul_right m (omega arith) in omega (arith, ints, e, least)
product_some (negsuc k) m n some e = let least : 1 * m ≤ suc k * m = mul-le-mul_right m (omega arith) in omega (arith, ints, e, least)

signed_some : (b : Bool) (n : ℕ) → n ≢ 0 → decimals.signed b n ≢ pos 0
signed_some true zero h e = h refl
signed_some true (suc n) h e = omega (arith, ints, e)
signed_some false zero h e = h refl
signed_some false (suc n) h e = omega (arith, ints, e)

digits_some : (n : ℕ) → not (n == 0) ≡ true → n ≢ 0
digits_some n e same = false≢true (sym (not_true (n == 0) e) ∙ eq-eqb n 0 same)

scaled_some : (s : ℕ) (d : Decimal) → not (d.digits == 0) ≡ true → scaled s d ≢ pos 0
scaled_some s d e =
    let k : ℕ = zeros_of_power d.power + (s - places_of d) in
    product_some (signed_digits d) (10 ^ k) (signed_some d.negative d.digits (digits_some d.digits e)) (one-le-pow k 10 (omega arith))

-- ---- terms

-- the scaled terms of a row are formed as a problem's
pub terms_formed : (h : List Entry) → Good h → (name : List ℕ) (s : ℕ) → AreTerms (length (columns_of h)) (map (scaled_term s) (factors_in (coefficients h) name))
terms_formed h g name s =
    let cs = coefficients h in
    let fs = factors_in cs name in
    let width = length (columns_of h) in
    let at : (k : ℕ) → k < length fs → term_at (map (scaled_term s) fs) k ≡ scaled_term s (factor_at fs k) = λ k a. get_or-map (scaled_term s) fs k no_factor no_term a in
    let long : length (map (scaled_term s) fs) ≡ length fs = length-map fs (scaled_term s) in
    let below : All (λ (f : Factor). f.column < width) fs =
    All-map (λ (f : Factor). f.column < width) factor_of (terms_of cs name) (All-filter (is_term name) (λ (c : Coefficient). c.place < width) cs (below_of h g)) in
    let nonzero : All (λ (f : Factor). scaled s f.number ≢ pos 0) fs =
    All-map (λ (f : Factor). scaled s f.number ≢ pos 0) factor_of (terms_of cs name)
    (All-weaker (λ (c : Coefficient). is_term name c ≡ true) (λ (c : Coefficient). scaled s c.number ≢ pos 0) (λ c e. scaled_some s c.number (and_true (bytes_eq name c.row) (not (c.number.digits == 0)) e).1) (terms_of cs name) (filter_passes (is_term name) cs)) in
    record {
      rising = λ i k l a.
          let k-in : k < length fs = omega (arith, a, long) in
          let i-in : i < length fs = omega (arith, l, k-in) in
          let order = rising_at fs (factors_rising cs name (ordered_of h g).0) i k l k-in in
          rw (at i i-in, at k k-in) order;
      within = λ k a. let k-in : k < length fs = omega (arith, a, long) in rw (at k k-in) (below k no_factor k-in);
      nonzero = λ k a. let k-in : k < length fs = omega (arith, a, long) in rw (at k k-in) (nonzero k no_factor k-in);
    }

-- ---- the signed terms of the objective

neg_zero : (z : ℤ) → neg_ℤ z ≡ pos 0 → z ≡ pos 0
neg_zero (pos zero) e = refl
neg_zero (pos (suc n)) e = let bad : negsuc n ≡ pos 0 = e in absurd (cc)
neg_zero (negsuc n) e = let bad : pos (suc n) ≡ pos 0 = e in absurd (cc)

abs_neg : (z : ℤ) → unsigned_abs (neg_ℤ z) ≡ unsigned_abs z
abs_neg (pos zero) = refl
abs_neg (pos (suc n)) = refl
abs_neg (negsuc n) = refl

pub signed_small : (m : Bool) (z : ℤ) (b : ℕ) → unsigned_abs z ≤ b → unsigned_abs (signed m z) ≤ b
signed_small true z b h = omega (arith, abs_neg z)
signed_small false z b h = h

signed_nonzero : (m : Bool) (z : ℤ) → z ≢ pos 0 → signed m z ≢ pos 0
signed_nonzero true z h e = h (neg_zero z e)
signed_nonzero false z h e = h e

pub signed_formed : (m : Bool) (width : ℕ) (terms : List Term) → AreTerms width terms → AreTerms width (signed_terms m terms)
signed_formed m width terms f =
    let turn : Term → Term = λ t. record { column = t.column; factor = signed m t.factor } in
    let len : length (signed_terms m terms) ≡ length terms = length-map terms turn in
    let at : (k : ℕ) → k < length terms → term_at (signed_terms m terms) k ≡ turn (term_at terms k) = λ k a. get_or-map turn terms k no_term no_term a in
    record {
      rising = λ i k l a.
          let k-in : k < length terms = omega (arith, a, len) in
          let i-in : i < length terms = omega (arith, l, k-in) in
          let before : (term_at terms i).column < (term_at terms k).column = f.rising i k l k-in in
          rw (at i i-in, at k k-in) before;
      within = λ k a. let k-in : k < length terms = omega (arith, a, len) in rw (at k k-in) (f.within k k-in);
      nonzero = λ k a. let k-in : k < length terms = omega (arith, a, len) in rw (at k k-in) (signed_nonzero m (term_at terms k).factor (f.nonzero k k-in));
    }

pub signed_all_small : (m : Bool) (terms : List Term) → AreSmall terms → AreSmall (signed_terms m terms)
signed_all_small m terms s =
    All-map (λ (t : Term). unsigned_abs t.factor ≤ 10 ^ 24) (λ (t : Term). let u : Term = record { column = t.column; factor = signed m t.factor } in u) terms
    (All-weaker (λ (t : Term). unsigned_abs t.factor ≤ 10 ^ 24) (λ (t : Term). unsigned_abs (signed m t.factor) ≤ 10 ^ 24) (λ t e. signed_small m t.factor (10 ^ 24) e) terms s)

-- ---- limits

-- a row that is not too wide
pub record AreNarrow (role : Role) (n : Numbers) : Type 0 where
  pub scale : scale_of n ≤ 60
  pub terms : AreSmall (scaled_terms n)
  pub side : unsigned_abs (scaled_side n) ≤ 10 ^ 37
  pub low : IfSome (low_side role (scaled_side n) (scaled_range n)) (λ z. unsigned_abs z ≤ 10 ^ 37)
  pub high : IfSome (high_side role (scaled_side n) (scaled_range n)) (λ z. unsigned_abs z ≤ 10 ^ 37)

not_above : (limit : ℕ) (o : Option ℤ) → is_above limit o ≡ false → IfSome o (λ z. unsigned_abs z ≤ limit)
not_above limit None e = tt
not_above limit (Some z) e = ltb-false limit (unsigned_abs z) e

all_small : (terms : List Term) → are_terms_wide terms ≡ false → AreSmall terms
all_small [] e = All-nil (λ (t : Term). unsigned_abs t.factor ≤ 10 ^ 24)
all_small (t ∷ terms) e =
    let parts = or_false (is_above (10 ^ 24) (Some t.factor)) (are_terms_wide terms) e in
    All-cons (λ (t : Term). unsigned_abs t.factor ≤ 10 ^ 24) t terms (not_above (10 ^ 24) (Some t.factor) parts.0) (all_small terms parts.1)

pub narrow_from : (role : Role) (n : Numbers) → is_wide role n ≡ false → AreNarrow role n
narrow_from role n e =
    let side = scaled_side n in
    let range = scaled_range n in
    let low = low_side role side range in
    let high = high_side role side range in
    let parts = or_false (nat_lt 60 (scale_of n)) (are_terms_wide (scaled_terms n) || are_wide role side range) e in
    let more = or_false (are_terms_wide (scaled_terms n)) (are_wide role side range) parts.1 in
    let rest = or_false (is_above (10 ^ 37) (Some side)) (is_above (10 ^ 37) range || (is_above (10 ^ 37) low || is_above (10 ^ 37) high)) more.1 in
    let last = or_false (is_above (10 ^ 37) range) (is_above (10 ^ 37) low || is_above (10 ^ 37) high) rest.1 in
    let ends = or_false (is_above (10 ^ 37) low) (is_above (10 ^ 37) high) last.1 in
    record {
      scale = ltb-false 60 (scale_of n) parts.0;
      terms = all_small (scaled_terms n) more.0;
      side = not_above (10 ^ 37) (Some side) rest.0;
      low = not_above (10 ^ 37) low ends.0;
      high = not_above (10 ^ 37) high ends.1;
    }
