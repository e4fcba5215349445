-- What pairs do to what the rows have.
use Rattle.std.proofs.Common.{◌≡◌, ◌≢◌, ℕ, ◌<◌, ◌≤◌, ◌==◌, ◌&&◌, ◌||◌, not, cond, Bool, true, false, List, [], ◌∷◌, ◌++◌, length, get_or, set, map, filter, All, Contains, Option, Some, None, sym, refl, ap, subst, ◌∙◌, arith, ⊎_elim}
use Rattle.std.specs.List.{list_any}
use Rattle.std.specs.Str.{bytes_eq}
use Rattle.std.proofs.lemmas.Bool.{cases_Bool, cases_eq, eqb-true, eq-eqb, false≢true}
use Rattle.std.proofs.lemmas.List.{append_assoc, same_lists, length-set, length-map, get_or-map, get_or-set_same, get_or-set_other, get_or_default, map-append, map_push}
use Rattle.std.proofs.lemmas.List.Elements.{filter-append, All-head, All-tail, All-cons, All-push, All-nil, All-weaker}
use Rattle.ug_problem.specs.declared.decimal.Decimal.{Decimal}
use Rattle.ug_drafts.specs.declared.role.Role.{Role}
use Rattle.ug_drafts.specs.declared.role.Role.TheVariants.{Objective}
use Rattle.ug_drafts.specs.declared.row.Factor.{Factor}
use Rattle.ug_drafts.specs.declared.row.RowDraft.{RowDraft}
use Rattle.ug_drafts.specs.declared.row.RowPart.{RowPart}
use Rattle.ug_drafts.specs.declared.row.RowPart.TheVariants.{Side, Range}
use Rattle.ug_drafts.specs.declared.row.RowPart.TheVariants as parts
use Rattle.ug_drafts.specs.Kept.{with_factor, with_part, is_place, is_given, has_part}
use Rattle.ug_mps.specs.Entries.{Pair}
use Rattle.ug_mps.specs.Faults.{repeated}
use Rattle.ug_mps.specs.History.{RowNamed, Coefficient, has, names_row, placed}
use Rattle.ug_mps.specs.Stated.{is_term, terms_of, factor_of, number_given}
use Rattle.ug_mps.specs.Names.{name_at, StandsAt, AreDistinct}
use Rattle.ug_mps.specs.Rows.{KeptRows, Lists, or_place, last_place, is_named, row_so_far, AreRows, IsBefore, AreOrdered, AreWithin, AreBelow, is_taken, and_pairs}
use Rattle.ug_mps.specs.RowSteps.{new_row, row_at, PutsPairs}
use Rattle.ug_mps.proofs.Bytes.{both, any_none, named_any, same_bytes, bytes_same, bytes_apart, apart_bytes, or_false, not_first, any_append}

-- a row without a coefficient has no terms and no last column
pub no_terms : (cs : List Coefficient) (name : List ℕ) → list_any (λ (c : Coefficient). bytes_eq name c.row) cs ≡ false → terms_of cs name ≡ []
no_terms [] name e = refl
no_terms (c ∷ cs) name e =
    let h = or_false (bytes_eq name c.row) (list_any (λ (c : Coefficient). bytes_eq name c.row) cs) e in
    rw (not_first (bytes_eq name c.row) (not (c.number.digits == 0)) h.0) (no_terms cs name h.1)

pub no_last : (cs : List Coefficient) (name : List ℕ) → list_any (λ (c : Coefficient). bytes_eq name c.row) cs ≡ false → last_place cs name ≡ None
no_last [] name e = refl
no_last (c ∷ cs) name e =
    let h = or_false (bytes_eq name c.row) (list_any (λ (c : Coefficient). bytes_eq name c.row) cs) e in
    rw (h.0, no_last cs name h.1) refl

pub no_side : (pairs : List Pair) (name : List ℕ) → names_row pairs name ≡ false → number_given pairs name ≡ None
no_side [] name e = refl
no_side (p ∷ pairs) name e =
    let h = or_false (bytes_eq name p.row) (names_row pairs name) e in
    rw h.0 (no_side pairs name h.1)

pub some_side : (pairs : List Pair) (name : List ℕ) → number_given pairs name ≡ None → names_row pairs name ≡ false
some_side [] name e = refl
some_side (p ∷ pairs) name e = ⊎_elim
    (λ t. let no : Some p.number ≡ None = rw t at e in absurd (cc))
    (λ f. rw f (some_side pairs name (rw f at e)))
    (cases_Bool (bytes_eq name p.row))

-- one coefficient more
pub last_push : (cs : List Coefficient) (c : Coefficient) (name : List ℕ) → last_place (cs ++ c ∷ []) name ≡ cond (bytes_eq name c.row) (Some c.place) (last_place cs name)
last_push [] c name = refl
last_push (d ∷ cs) c name = rw (last_push cs c name)
    (elim (bytes_eq name c.row) as (λ b. or_place (cond b (Some c.place) (last_place cs name)) (cond (bytes_eq name d.row) (Some d.place) None) ≡ cond b (Some c.place) (or_place (last_place cs name) (cond (bytes_eq name d.row) (Some d.place) None))) [ true ↦ refl | false ↦ refl ])

pub terms_push : (cs : List Coefficient) (c : Coefficient) (name : List ℕ) → terms_of (cs ++ c ∷ []) name ≡ terms_of cs name ++ filter (is_term name) (c ∷ [])
terms_push cs c name = filter-append (is_term name) cs (c ∷ [])

pub append_none : {X : Type 0} (xs : List X) → xs ++ [] ≡ xs
append_none [] = refl
append_none (x ∷ xs) = ap (λ ys. x ∷ ys) (append_none xs)

-- one right-hand side more
pub side_push : (pairs : List Pair) (p : Pair) (name : List ℕ) → names_row pairs p.row ≡ false → number_given (pairs ++ p ∷ []) name ≡ cond (bytes_eq name p.row) (Some p.number) (number_given pairs name)
side_push [] p name e = refl
side_push (q ∷ pairs) p name e =
    let h = or_false (bytes_eq p.row q.row) (names_row pairs p.row) e in
    ⊎_elim
    (λ t. rw t (let other : bytes_eq name p.row ≡ false = bytes_apart name p.row (λ s. apart_bytes p.row q.row h.0 (sym s ∙ same_bytes name q.row t)) in rw other refl))
    (λ f. rw f (side_push pairs p name h.1))
    (cases_Bool (bytes_eq name q.row))

-- writing one row of those that are distinguished by their names
module _ (rows : List RowNamed) (at : ℕ) (name : List ℕ) (f g : RowNamed → RowDraft) where
  pub set_row : AreDistinct (map (λ (r : RowNamed). r.name) rows) → StandsAt (map (λ (r : RowNamed). r.name) rows) name at
      → ((r : RowNamed) → bytes_eq r.name name ≡ false → g r ≡ f r)
      → (v : RowDraft) → ((r : RowNamed) → r.name ≡ name → f r ≡ row_at (map f rows) at → g r ≡ v)
      → map g rows ≡ set (map f rows) at v
  set_row apart here others v this = same_lists (map g rows) (set (map f rows) at v)
      (simp (length-map, length-set) refl)
      (λ k d a.
      let ak : k < length rows = omega (arith, simp length-map at a) in
      let dr : RowNamed = record { line = d.line; role = d.role; name = name } in
      let names : List (List ℕ) = map (λ (r : RowNamed). r.name) rows in
      let r = get_or rows k dr in
      let at-there : at < length rows = omega (arith, simp length-map at here.there) in
      let name-k : name_at names k ≡ r.name = get_or-map (λ (r : RowNamed). r.name) rows k dr [] ak in
      let gk : get_or (map g rows) k d ≡ g r = get_or-map g rows k dr d ak in
      let fk : get_or (map f rows) k d ≡ f r = get_or-map f rows k dr d ak in
      gk ∙ ⊎_elim
      (λ e. let in_f : k < length (map f rows) = omega (arith, length-map rows f) in
      let set-k : get_or (set (map f rows) at v) k d ≡ v = ap (λ i. get_or (set (map f rows) i v) k d) (sym e) ∙ get_or-set_same (map f rows) k v d in_f in
      this r (sym name-k ∙ ap (name_at names) e ∙ here.same) (sym (get_or-map f rows k dr (new_row 0 Objective) ak) ∙ get_or_default (map f rows) k (new_row 0 Objective) _ in_f ∙ ap (row_at (map f rows)) e) ∙ sym set-k)
      (λ ne. others r (bytes_apart r.name name (λ e. ne (apart k at (omega (arith, length-map rows (λ (r : RowNamed). r.name))) here.there (name-k ∙ e ∙ sym here.same)))) ∙ sym fk ∙ sym (get_or-set_other (map f rows) at k v d ne))
      (cases_eq k at))

draft_same : (n : ℕ) (k : Role) (t t' : List Factor) (s s' r r' : Option Decimal) (p p' : Option ℕ) → t ≡ t' → s ≡ s' → r ≡ r' → p ≡ p'
    → (let a : RowDraft = record { line = n; role = k; terms = t; side = s; range = r; last = p } in
    let b : RowDraft = record { line = n; role = k; terms = t'; side = s'; range = r'; last = p' } in a ≡ b)
draft_same n k t t' s s' r r' p p' a b c d = cc

-- a coefficient more, where it is not 0
factor_more : (j : ℕ) (p : Pair) (fs : List Coefficient) (b : Bool)
    → map factor_of (fs ++ cond (not b) (placed j (p ∷ [])) []) ≡ cond b (map factor_of fs) (map factor_of fs ++ record { column = j; number = p.number } ∷ [])
factor_more j p fs true = ap (map factor_of) (append_none fs)
factor_more j p fs false = map-append factor_of fs (placed j (p ∷ []))

terms_here : (j : ℕ) (p : Pair) (cs : List Coefficient) (name : List ℕ) → bytes_eq name p.row ≡ true
    → map factor_of (terms_of (cs ++ placed j (p ∷ [])) name) ≡ with_factor j p.number (map factor_of (terms_of cs name))
terms_here j p cs name e =
    ap (map factor_of) (terms_push cs (record { place = j; row = p.row; number = p.number }) name) ∙ rw e (factor_more j p (terms_of cs name) (p.number.digits == 0))

terms_elsewhere : (j : ℕ) (p : Pair) (cs : List Coefficient) (name : List ℕ) → bytes_eq name p.row ≡ false
    → map factor_of (terms_of (cs ++ placed j (p ∷ [])) name) ≡ map factor_of (terms_of cs name)
terms_elsewhere j p cs name e =
    ap (map factor_of) (terms_push cs (record { place = j; row = p.row; number = p.number }) name) ∙ rw e (ap (map factor_of) (append_none (terms_of cs name)))

-- a row with a part more, and a row that it is not of
pub part_here : (part : RowPart) (l : Lists) (p : Pair) (r : RowNamed) → bytes_eq r.name p.row ≡ true → is_taken part l p.row ≡ false
    → row_so_far (and_pairs part (p ∷ []) l) r ≡ with_part part p.number (row_so_far l r)
part_here (parts.Coefficient j) l p r e n = draft_same r.line r.role _ _ _ _ _ _ _ _ (terms_here j p l.coefficients r.name e) refl refl
    (last_push l.coefficients (record { place = j; row = p.row; number = p.number }) r.name ∙ rw e refl)
part_here Side l p r e n = draft_same r.line r.role _ _ _ _ _ _ _ _ refl (side_push l.sides p r.name n ∙ rw e refl) refl refl
part_here Range l p r e n = draft_same r.line r.role _ _ _ _ _ _ _ _ refl refl (side_push l.ranges p r.name n ∙ rw e refl) refl

pub part_elsewhere : (part : RowPart) (l : Lists) (p : Pair) (r : RowNamed) → bytes_eq r.name p.row ≡ false → is_taken part l p.row ≡ false
    → row_so_far (and_pairs part (p ∷ []) l) r ≡ row_so_far l r
part_elsewhere (parts.Coefficient j) l p r e n = draft_same r.line r.role _ _ _ _ _ _ _ _ (terms_elsewhere j p l.coefficients r.name e) refl refl
    (last_push l.coefficients (record { place = j; row = p.row; number = p.number }) r.name ∙ rw e refl)
part_elsewhere Side l p r e n = draft_same r.line r.role _ _ _ _ _ _ _ _ refl (side_push l.sides p r.name n ∙ rw e refl) refl refl
part_elsewhere Range l p r e n = draft_same r.line r.role _ _ _ _ _ _ _ _ refl refl (side_push l.ranges p r.name n ∙ rw e refl) refl

-- the rows stay those named
same_named : (part : RowPart) (pairs : List Pair) (l : Lists) → (and_pairs part pairs l).named ≡ l.named
same_named (parts.Coefficient j) pairs l = refl
same_named Side pairs l = refl
same_named Range pairs l = refl

module _ (l : Lists) (rows : KeptRows) (old : AreRows l rows) (at : ℕ) (name : List ℕ) (apart : AreDistinct rows.names) (here : StandsAt rows.names name at) where
  apart_named : AreDistinct (map (λ (r : RowNamed). r.name) l.named)
  apart_named = subst (λ names. AreDistinct names) old.names apart

  here_named : StandsAt (map (λ (r : RowNamed). r.name) l.named) name at
  here_named = subst (λ names. StandsAt names name at) old.names here

  -- what the row at the place has
  pub row_there : (r : RowNamed → Type 0) → ((x : RowNamed) → x.name ≡ name → row_so_far l x ≡ row_at rows.drafts at → r x) → (x : RowNamed) × r x
  row_there r f =
      let dr : RowNamed = record { line = 0; role = Objective; name = [] } in
      let x = get_or l.named at dr in
      let inside : at < length l.named = omega (arith, length-map l.named (λ (r : RowNamed). r.name), here_named.there) in
      let in_f : at < length (map (row_so_far l) l.named) = omega (arith, length-map l.named (row_so_far l)) in (
        x,
        f x (sym (get_or-map (λ (r : RowNamed). r.name) l.named at dr [] inside) ∙ here_named.same)
            (sym (get_or-map (row_so_far l) l.named at dr (new_row 0 Objective) inside) ∙ ap (λ ds. row_at ds at) (sym old.drafts)),
      )

  pub last_there : last_place l.coefficients name ≡ (row_at rows.drafts at).last
  last_there = (row_there (λ x. last_place l.coefficients name ≡ (row_at rows.drafts at).last) (λ x e f. ap (last_place l.coefficients) (sym e) ∙ ap (λ (d : RowDraft). d.last) f)).1

  pub side_there : number_given l.sides name ≡ (row_at rows.drafts at).side
  side_there = (row_there (λ x. number_given l.sides name ≡ (row_at rows.drafts at).side) (λ x e f. ap (number_given l.sides) (sym e) ∙ ap (λ (d : RowDraft). d.side) f)).1

  pub range_there : number_given l.ranges name ≡ (row_at rows.drafts at).range
  range_there = (row_there (λ x. number_given l.ranges name ≡ (row_at rows.drafts at).range) (λ x e f. ap (number_given l.ranges) (sym e) ∙ ap (λ (d : RowDraft). d.range) f)).1

-- the rows with one pair more
pub rows_and_pair : (part : RowPart) (l : Lists) (rows : KeptRows) (p : Pair) (at : ℕ) → AreRows l rows → AreDistinct rows.names → StandsAt rows.names p.row at → is_taken part l p.row ≡ false
    → AreRows (and_pairs part (p ∷ []) l) (record { names = rows.names; drafts = set rows.drafts at (with_part part p.number (row_at rows.drafts at)) })
rows_and_pair part l rows p at old apart here free =
    let apart-n = apart_named l rows old at p.row apart here in
    let here-n = here_named l rows old at p.row apart here in
    record {
      names = old.names ∙ ap (map (λ (r : RowNamed). r.name)) (sym (same_named part (p ∷ []) l));
      drafts = ap (λ ds. set ds at (with_part part p.number (row_at ds at))) old.drafts
          ∙ sym (set_row l.named at p.row (row_so_far l) (row_so_far (and_pairs part (p ∷ []) l)) apart-n here-n
          (λ r e. part_elsewhere part l p r e free)
          (with_part part p.number (row_at (map (row_so_far l) l.named) at))
          (λ r e f. part_here part l p r (bytes_same r.name p.row e) free ∙ ap (with_part part p.number) f))
          ∙ ap (map (row_so_far (and_pairs part (p ∷ []) l))) (sym (same_named part (p ∷ []) l));
    }

pub named_false : (l : Lists) (rows : KeptRows) (name : List ℕ) → AreRows l rows → ¬ Contains rows.names name → is_named l.named name ≡ false
named_false l rows name old gone = sym (named_any l.named name) ∙ any_none (map (λ (r : RowNamed). r.name) l.named) name (subst (λ names. ¬ Contains names name) old.names gone)

between_by : (o : Option ℕ) (b : Bool) (place i j k : ℕ) → (o ≡ Some k → (i ≤ k) × (k ≤ j)) → i ≤ place → place ≤ j → or_place o (cond b (Some place) None) ≡ Some k → (i ≤ k) × (k ≤ j)
between_by (Some m) b place i j k f low high e = f e
between_by None true place i j k f low high e = let same : place ≡ k = cc in (omega arith, omega arith)
between_by None false place i j k f low high e = let bad : None ≡ Some k = e in absurd (cc)

-- the last place is one of the places
last_between : (cs : List Coefficient) (name : List ℕ) (i j k : ℕ) → All (λ (c : Coefficient). i ≤ c.place) cs → AreWithin j cs → last_place cs name ≡ Some k → (i ≤ k) × (k ≤ j)
last_between [] name i j k low high e = let bad : None ≡ Some k = e in absurd (cc)
last_between (c ∷ cs) name i j k low high e =
    let rest = last_between cs name i j in
    let low' = All-tail (λ (c : Coefficient). i ≤ c.place) c cs low in
    let high' = All-tail (λ (c : Coefficient). c.place ≤ j) c cs high in
    let low-c = All-head (λ (c : Coefficient). i ≤ c.place) c cs low in
    let high-c = All-head (λ (c : Coefficient). c.place ≤ j) c cs high in
    between_by (last_place cs name) (bytes_eq name c.row) c.place i j k (λ f. rest k low' high' f) low-c high-c e

-- within ordered coefficients up to a place, the row is in the column at the place exactly where
-- its last place is this one
has_step : (o : Option ℕ) (b t : Bool) (place j : ℕ) → t ≡ (place == j) → ((k : ℕ) → o ≡ Some k → (place ≤ k) × (k ≤ j)) → (((t && b) || is_place o j) ≡ is_place (or_place o (cond b (Some place) None)) j)
has_step None true true place j e f = e
has_step None true false place j e f = e
has_step None false true place j e f = refl
has_step None false false place j e f = refl
has_step (Some k) false true place j e f = refl
has_step (Some k) false false place j e f = refl
has_step (Some k) true false place j e f = refl
has_step (Some k) true true place j e f =
    let at : place ≡ j = eqb-true place j (sym e) in
    let h = f k refl in
    let same : k ≡ j = omega arith in
    sym (eq-eqb k j same)

pub has_last : (cs : List Coefficient) (j : ℕ) (name : List ℕ) → AreOrdered cs → AreWithin j cs → has cs j name ≡ is_place (last_place cs name) j
has_last [] j name o w = refl
has_last (c ∷ cs) j name o w =
    let w' = All-tail (λ (c : Coefficient). c.place ≤ j) c cs w in
    let low : All (λ (d : Coefficient). c.place ≤ d.place) cs = All-weaker (IsBefore c) (λ (d : Coefficient). c.place ≤ d.place) (λ d b. b.place) cs o.0 in
    rw (has_last cs j name o.1 w') (has_step (last_place cs name) (bytes_eq name c.row) (c.place == j) c.place j refl (λ k e. last_between cs name c.place j k low w' e))

-- a coefficient that fits keeps them ordered
before_new : (cs : List Coefficient) (c : Coefficient) → AreWithin c.place cs → has cs c.place c.row ≡ false → All (λ d. IsBefore d c) cs
before_new [] c w e = All-nil (λ d. IsBefore d c)
before_new (d ∷ cs) c w e =
    let h = or_false ((d.place == c.place) && bytes_eq c.row d.row) (has cs c.place c.row) e in
    let high : d.place ≤ c.place = All-head (λ (d : Coefficient). d.place ≤ c.place) d cs w in
    All-cons (λ d. IsBefore d c) d cs
    (record {
      place = high;
      row = λ same. ⊎_elim
          (λ (q : d.place ≡ c.place). absurd (false≢true (sym h.0 ∙ both (d.place == c.place) (bytes_eq c.row d.row) (eq-eqb d.place c.place q) (bytes_same c.row d.row (sym same)))))
          (λ (q : d.place ≢ c.place). omega arith)
          (cases_eq d.place c.place);
    })
    (before_new cs c (All-tail (λ (d : Coefficient). d.place ≤ c.place) d cs w) h.1)

ordered_more : (cs : List Coefficient) (c : Coefficient) → AreOrdered cs → All (λ d. IsBefore d c) cs → AreOrdered (cs ++ c ∷ [])
ordered_more [] c o b = (All-nil (IsBefore c), tt)
ordered_more (d ∷ cs) c o b = (All-push (IsBefore d) cs c o.0 (All-head (λ d. IsBefore d c) d cs b), ordered_more cs c o.1 (All-tail (λ d. IsBefore d c) d cs b))

pub ordered_push : (cs : List Coefficient) (c : Coefficient) → AreOrdered cs → AreWithin c.place cs → has cs c.place c.row ≡ false → AreOrdered (cs ++ c ∷ [])
ordered_push cs c o w e = ordered_more cs c o (before_new cs c w e)

pub within_push : (cs : List Coefficient) (c : Coefficient) → AreWithin c.place cs → AreWithin c.place (cs ++ c ∷ [])
within_push cs c w = All-push (λ (d : Coefficient). d.place ≤ c.place) cs c w (omega arith)

or_false_right : (b : Bool) → (b || false) ≡ b
or_false_right true = refl
or_false_right false = refl

-- a row has a part exactly where a pair gives it
given_named : (pairs : List Pair) (name : List ℕ) → is_given (number_given pairs name) ≡ names_row pairs name
given_named [] name = refl
given_named (p ∷ pairs) name = ⊎_elim (λ t. rw t refl) (λ f. rw f (given_named pairs name)) (cases_Bool (bytes_eq name p.row))

pub has_there : (part : RowPart) (l : Lists) (rows : KeptRows) (at : ℕ) (name : List ℕ) → AreRows l rows → AreDistinct rows.names → StandsAt rows.names name at → AreBelow part l
    → has_part part (row_at rows.drafts at) ≡ is_taken part l name
has_there (parts.Coefficient j) l rows at name old apart here below =
    ap (λ p. is_place p j) (sym (last_there l rows old at name apart here)) ∙ sym (has_last l.coefficients j name below.0 below.1)
has_there Side l rows at name old apart here below = ap is_given (sym (side_there l rows old at name apart here)) ∙ given_named l.sides name
has_there Range l rows at name old apart here below = ap is_given (sym (range_there l rows old at name apart here)) ∙ given_named l.ranges name

-- a pair more is taken
taken_more : (part : RowPart) (l : Lists) (p : Pair) (name : List ℕ) → is_taken part (and_pairs part (p ∷ []) l) name ≡ (is_taken part l name || bytes_eq name p.row)
taken_more (parts.Coefficient j) l p name = any_append (λ (c : Coefficient). (c.place == j) && bytes_eq name c.row) l.coefficients (placed j (p ∷ []))
    ∙ rw (eq-eqb j j refl) (ap (λ b. has l.coefficients j name || b) (or_false_right (bytes_eq name p.row)))
taken_more Side l p name = any_append (λ (q : Pair). bytes_eq name q.row) l.sides (p ∷ []) ∙ ap (λ b. names_row l.sides name || b) (or_false_right (bytes_eq name p.row))
taken_more Range l p name = any_append (λ (q : Pair). bytes_eq name q.row) l.ranges (p ∷ []) ∙ ap (λ b. names_row l.ranges name || b) (or_false_right (bytes_eq name p.row))

lists_same : (n : List RowNamed) (c c' : List Coefficient) (s s' r r' : List Pair) → c ≡ c' → s ≡ s' → r ≡ r'
    → (let a : Lists = record { named = n; coefficients = c; sides = s; ranges = r } in let b : Lists = record { named = n; coefficients = c'; sides = s'; ranges = r' } in a ≡ b)
lists_same n c c' s s' r r' p q t = cc

-- two pairs one after the other
two_pairs : (part : RowPart) (l : Lists) (p q : Pair) → and_pairs part (q ∷ []) (and_pairs part (p ∷ []) l) ≡ and_pairs part (p ∷ q ∷ []) l
two_pairs (parts.Coefficient j) l p q = lists_same l.named _ _ _ _ _ _ (append_assoc l.coefficients (placed j (p ∷ [])) (placed j (q ∷ []))) refl refl
two_pairs Side l p q = lists_same l.named _ _ _ _ _ _ refl (append_assoc l.sides (p ∷ []) (q ∷ [])) refl
two_pairs Range l p q = lists_same l.named _ _ _ _ _ _ refl refl (append_assoc l.ranges (p ∷ []) (q ∷ []))

-- rows that are not repeated
not_repeated_one : (taken : List ℕ → Bool) (r : List ℕ) (rs : List (List ℕ)) → repeated taken (r ∷ rs) ≡ None → (taken r ≡ false) × (repeated (λ word. taken word || bytes_eq word r) rs ≡ None)
not_repeated_one taken r rs e = ⊎_elim
    (λ t. let bad : Some r ≡ None = rw t at e in absurd (cc))
    (λ f. (f, rw f at e))
    (cases_Bool (taken r))

-- the rows with one pair or two
pub puts_one : (part : RowPart) (p : Pair) (at : ℕ) (old new : KeptRows) → AreDistinct old.names
    → new ≡ record { names = old.names; drafts = set old.drafts at (with_part part p.number (row_at old.drafts at)) } → PutsPairs part (p ∷ []) (at ∷ []) old new
puts_one part p at old new apart is l are stand none =
    subst (λ rows. AreRows (and_pairs part (p ∷ []) l) rows) (sym is) (rows_and_pair part l old p at are apart stand.0 (not_repeated_one (is_taken part l) p.row [] none).0)

pub puts_two : (part : RowPart) (p q : Pair) (i j : ℕ) (old mid new : KeptRows) → AreDistinct old.names
    → mid ≡ record { names = old.names; drafts = set old.drafts i (with_part part p.number (row_at old.drafts i)) }
    → new ≡ record { names = mid.names; drafts = set mid.drafts j (with_part part q.number (row_at mid.drafts j)) } → PutsPairs part (p ∷ q ∷ []) (i ∷ j ∷ []) old new
puts_two part p q i j old mid new apart is is' l are stand none =
    let n1 = not_repeated_one (is_taken part l) p.row (q.row ∷ []) none in
    let n2 = not_repeated_one (λ word. is_taken part l word || bytes_eq word p.row) q.row [] n1.1 in
    let names : mid.names ≡ old.names = ap (λ (r : KeptRows). r.names) is in
    let first : AreRows (and_pairs part (p ∷ []) l) mid = subst (λ rows. AreRows (and_pairs part (p ∷ []) l) rows) (sym is) (rows_and_pair part l old p i are apart stand.0 n1.0) in
    let second : AreRows (and_pairs part (q ∷ []) (and_pairs part (p ∷ []) l)) new =
    subst (λ rows. AreRows (and_pairs part (q ∷ []) (and_pairs part (p ∷ []) l)) rows) (sym is')
    (rows_and_pair part (and_pairs part (p ∷ []) l) mid q j first (subst (λ ns. AreDistinct ns) (sym names) apart) (subst (λ ns. StandsAt ns q.row j) (sym names) stand.1.0)
    (taken_more part l p q.row ∙ n2.0)) in
    subst (λ m. AreRows m new) (two_pairs part l p q) second

-- a row more, which no coefficient, no side and no range names
pub rows_and_row : (l : Lists) (rows : KeptRows) (r : RowNamed) → AreRows l rows
    → list_any (λ (c : Coefficient). bytes_eq r.name c.row) l.coefficients ≡ false → names_row l.sides r.name ≡ false → names_row l.ranges r.name ≡ false
    → AreRows (record { named = l.named ++ r ∷ []; coefficients = l.coefficients; sides = l.sides; ranges = l.ranges })
    (record { names = rows.names ++ r.name ∷ []; drafts = rows.drafts ++ new_row r.line r.role ∷ [] })
rows_and_row l rows r old gone none nor = record {
  names = ap (λ ns. ns ++ r.name ∷ []) old.names ∙ sym (map_push (λ (r : RowNamed). r.name) l.named r);
  drafts = ap (λ ds. ds ++ new_row r.line r.role ∷ []) old.drafts
      ∙ ap (λ d. map (row_so_far l) l.named ++ d ∷ []) (draft_same r.line r.role _ _ _ _ _ _ _ _ (sym (ap (map factor_of) (no_terms l.coefficients r.name gone))) (sym (no_side l.sides r.name none)) (sym (no_side l.ranges r.name nor)) (sym (no_last l.coefficients r.name gone)))
      ∙ sym (map_push (row_so_far l) l.named r);
}
