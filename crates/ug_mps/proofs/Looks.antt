-- Pairs and the places of their rows.
use Rattle.std.proofs.Common.{◌≡◌, ℕ, ◌<◌, ◌||◌, ◌==◌, true, false, List, [], ◌∷◌, length, set, Contains, Option, Some, None, Result, Ok, Err, OnOk, sym, refl, ap, subst, ◌∙◌, ⊎_elim, Bor}
use Rattle.std.specs.Str.{bytes_eq}
use Rattle.std.proofs.lemmas.Bool.{cases_Bool, cases_eq, eqb-true, eq-eqb}
use Rattle.ug_lines.specs.declared.shape.NamedWord.{NamedWord}
use Rattle.ug_lines.specs.Shaped.{second_shaped}
use Rattle.ug_drafts.specs.declared.row.RowPart.{RowPart}
use Rattle.ug_drafts.specs.Kept.{with_part, has_part}
use Rattle.ug_mps.specs.declared.pairs.NamedNumber.{NamedNumber}
use Rattle.ug_mps.specs.Entries.{Pair}
use Rattle.ug_mps.specs.Faults.{repeated, rows_in}
use Rattle.ug_mps.specs.Names.{name_at, StandsAt, AreDistinct}
use Rattle.ug_mps.specs.Numbered.{pair_said, second_said}
use Rattle.ug_mps.specs.Rows.{KeptRows, Lists, AreRows, AreBelow, is_taken}
use Rattle.ug_mps.specs.RowSteps.{row_at, second_place, AreAt, first_missing, FindsRepeated, PutsPairs, rows_named}
use Rattle.ug_mps.proofs.Bytes.{any_true, any_none, bytes_same, bytes_apart}
use Rattle.ug_mps.proofs.RowsLemmas.{has_there, puts_one, puts_two}

-- ---- the places of the rows

pub missing_here : (names : List (List ℕ)) (r : List ℕ) (o : Option NamedWord) → ¬ Contains names r → first_missing names (r ∷ rows_in (second_shaped o)) ≡ Some r
missing_here names r o gone = rw (any_none names r gone) refl

pub look_one : (names : List (List ℕ)) (r : List ℕ) (j : ℕ) (o : Option NamedWord) → o ≡ None → StandsAt names r j
    → (first_missing names (r ∷ rows_in (second_shaped o)) ≡ None) × (StandsAt names r j × AreAt names (rows_in (second_shaped o)) [])
look_one names r j o e here = rw e (rw (any_true names r j here) refl, (here, tt))

pub look_two : (names : List (List ℕ)) (r : List ℕ) (i j : ℕ) (o : Option NamedWord) (w : NamedWord) → o ≡ Some w → StandsAt names r i → StandsAt names w.row.now j
    → (first_missing names (r ∷ rows_in (second_shaped o)) ≡ None) × (StandsAt names r i × AreAt names (rows_in (second_shaped o)) (j ∷ []))
look_two names r i j o w e here there = rw e (rw (any_true names r i here, any_true names w.row.now j there) refl, (here, (there, tt)))

pub missing_next : (names : List (List ℕ)) (r : List ℕ) (i : ℕ) (o : Option NamedWord) (w : NamedWord) → o ≡ Some w → StandsAt names r i → ¬ Contains names w.row.now
    → first_missing names (r ∷ rows_in (second_shaped o)) ≡ Some w.row.now
missing_next names r i o w e here gone = rw e (rw (any_true names r i here, any_none names w.row.now gone) refl)

-- ---- rows that are repeated

no_eq : (j i : ℕ) → (j ≡ i → ⊥) → (j == i) ≡ false
no_eq j i ne = ⊎_elim (λ t. absurd (ne (eqb-true j i t))) (λ f. f) (cases_Bool (j == i))

-- two names at two places are one exactly where the places are
places_same : (names : List (List ℕ)) (r q : List ℕ) (i j : ℕ) → AreDistinct names → StandsAt names r i → StandsAt names q j → bytes_eq q r ≡ (j == i)
places_same names r q i j apart here there = ⊎_elim
    (λ (e : j ≡ i). bytes_same q r (sym there.same ∙ ap (name_at names) e ∙ here.same) ∙ sym (eq-eqb j i e))
    (λ ne. bytes_apart q r (λ e. ne (apart j i there.there here.there (there.same ∙ e ∙ sym here.same))) ∙ sym (no_eq j i ne))
    (cases_eq j i)

module _ (part : RowPart) (rows : KeptRows) (r : List ℕ) (i : ℕ) (apart : AreDistinct rows.names) where
  pub repeated_first : (o : Option NamedWord) (p : Option ℕ) (w : Bor (List ℕ)) → w.now ≡ r → has_part part (row_at rows.drafts i) ≡ true
      → FindsRepeated part (r ∷ rows_in (second_shaped o)) (i ∷ second_place p) rows (Some w)
  repeated_first o p w e t l are below stand =
      ap Some e ∙ rw (sym (has_there part l rows i r are apart stand.0 below) ∙ t) refl

  -- the first is free
  free_first : (l : Lists) (rest : List (List ℕ)) → AreRows l rows → AreBelow part l → StandsAt rows.names r i → has_part part (row_at rows.drafts i) ≡ false
      → repeated (λ name. is_taken part l name) (r ∷ rest) ≡ repeated (λ name. is_taken part l name || bytes_eq name r) rest
  free_first l rest are below stand f = rw (sym (has_there part l rows i r are apart stand below) ∙ f) refl

  pub repeated_no_place : (o : Option NamedWord) (p : Option ℕ) → p ≡ None → has_part part (row_at rows.drafts i) ≡ false
      → FindsRepeated part (r ∷ rows_in (second_shaped o)) (i ∷ second_place p) rows None
  repeated_no_place None p e f l are below stand = sym (free_first l [] are below stand.0 f)
  repeated_no_place (Some w) p e f l are below stand =
      let bad : AreAt rows.names (w.row.now ∷ []) [] = subst (λ q. AreAt rows.names (w.row.now ∷ []) (second_place q)) e stand.1 in absurd bad

  pub repeated_no_pair : (o : Option NamedWord) (p : Option ℕ) (j : ℕ) → p ≡ Some j → o ≡ None → has_part part (row_at rows.drafts i) ≡ false
      → FindsRepeated part (r ∷ rows_in (second_shaped o)) (i ∷ second_place p) rows None
  repeated_no_pair o p j e n f l are below stand =
      let bad : AreAt rows.names [] (j ∷ []) = subst (λ q. AreAt rows.names [] (second_place q)) e (subst (λ q. AreAt rows.names (rows_in (second_shaped q)) (second_place p)) n stand.1) in absurd bad

  -- the value at the second place
  second_stands : (o : Option NamedWord) (p : Option ℕ) (j : ℕ) (w : NamedWord) → p ≡ Some j → o ≡ Some w → AreAt rows.names (rows_in (second_shaped o)) (second_place p) → StandsAt rows.names w.row.now j
  second_stands o p j w e n stand =
      (let at : AreAt rows.names (w.row.now ∷ []) (j ∷ []) = subst (λ q. AreAt rows.names (w.row.now ∷ []) (second_place q)) e (subst (λ q. AreAt rows.names (rows_in (second_shaped q)) (second_place p)) n stand) in at).0

  second_test : (l : Lists) (j : ℕ) (q : List ℕ) → AreRows l rows → AreBelow part l → StandsAt rows.names r i → StandsAt rows.names q j
      → (is_taken part l q || bytes_eq q r) ≡ (has_part part (row_at rows.drafts j) || (j == i))
  second_test l j q are below here there = rw (← has_there part l rows j q are apart there below, places_same rows.names r q i j apart here there) refl

  pub repeated_second : (o : Option NamedWord) (p : Option ℕ) (j : ℕ) (w : NamedWord) (x : Bor (List ℕ)) → p ≡ Some j → o ≡ Some w → x.now ≡ w.row.now → has_part part (row_at rows.drafts i) ≡ false
      → (has_part part (row_at rows.drafts j) || (j == i)) ≡ true
      → FindsRepeated part (r ∷ rows_in (second_shaped o)) (i ∷ second_place p) rows (Some x)
  repeated_second o p j w x e n same f t l are below stand =
      let there = second_stands o p j w e n stand.1 in
      ap Some same ∙ sym (free_first l (rows_in (second_shaped o)) are below stand.0 f ∙ rw n (rw (second_test l j w.row.now are below stand.0 there ∙ t) refl))

  pub repeated_none : (o : Option NamedWord) (p : Option ℕ) (j : ℕ) (w : NamedWord) → p ≡ Some j → o ≡ Some w → has_part part (row_at rows.drafts i) ≡ false
      → (has_part part (row_at rows.drafts j) || (j == i)) ≡ false
      → FindsRepeated part (r ∷ rows_in (second_shaped o)) (i ∷ second_place p) rows None
  repeated_none o p j w e n f t l are below stand =
      let there = second_stands o p j w e n stand.1 in
      sym (free_first l (rows_in (second_shaped o)) are below stand.0 f ∙ rw n (rw (second_test l j w.row.now are below stand.0 there ∙ t) refl))

-- if the places are those of the pairs, there is a row at the second
pub second_there : (names : List (List ℕ)) (o : Option NamedWord) (p : Option ℕ) (j : ℕ) (w : NamedWord) → p ≡ Some j → o ≡ Some w
    → AreAt names (rows_in (second_shaped o)) (second_place p) → j < length names
second_there names o p j w e n stand =
    (let at : AreAt names (w.row.now ∷ []) (j ∷ []) = subst (λ q. AreAt names (w.row.now ∷ []) (second_place q)) e (subst (λ q. AreAt names (rows_in (second_shaped q)) (second_place p)) n stand) in at).0.there

-- ---- giving a part

pub put_there : (names : List (List ℕ)) (o : Option NamedNumber) (p : Option ℕ) (j : ℕ) (w : NamedNumber) → p ≡ Some j → o ≡ Some w
    → AreAt names (rows_named (second_said o)) (second_place p) → j < length names
put_there names o p j w e n stand =
    (let at : AreAt names (w.row.now ∷ []) (j ∷ []) = subst (λ q. AreAt names (w.row.now ∷ []) (second_place q)) e (subst (λ q. AreAt names (rows_named (second_said q)) (second_place p)) n stand) in at).0.there

module _ (part : RowPart) (old mid : KeptRows) (p : Pair) (i : ℕ) (apart : AreDistinct old.names)
    (is : mid ≡ record { names = old.names; drafts = set old.drafts i (with_part part p.number (row_at old.drafts i)) }) where
  pub put_no_place : (o : Option NamedNumber) (q : Option ℕ) → q ≡ None → PutsPairs part (p ∷ second_said o) (i ∷ second_place q) old mid
  put_no_place None q e l are stand none = puts_one part p i old mid apart is l are (stand.0, tt) none
  put_no_place (Some w) q e l are stand none =
      let bad : AreAt old.names (w.row.now ∷ []) [] = subst (λ q. AreAt old.names (w.row.now ∷ []) (second_place q)) e stand.1 in absurd bad

  pub put_no_pair : (o : Option NamedNumber) (q : Option ℕ) (j : ℕ) → q ≡ Some j → o ≡ None → PutsPairs part (p ∷ second_said o) (i ∷ second_place q) old mid
  put_no_pair o q j e n l are stand none =
      let bad : AreAt old.names [] (j ∷ []) = subst (λ q. AreAt old.names [] (second_place q)) e (subst (λ o. AreAt old.names (rows_named (second_said o)) (second_place q)) n stand.1) in absurd bad

  pub put_second : (o : Option NamedNumber) (q : Option ℕ) (j : ℕ) (w : NamedNumber) (new : KeptRows) → q ≡ Some j → o ≡ Some w
      → new ≡ record { names = mid.names; drafts = set mid.drafts j (with_part part w.number (row_at mid.drafts j)) } → PutsPairs part (p ∷ second_said o) (i ∷ second_place q) old new
  put_second o q j w new e n is' =
      subst (λ o. PutsPairs part (p ∷ second_said o) (i ∷ second_place q) old new) (sym n)
      (subst (λ q. PutsPairs part (p ∷ pair_said w ∷ []) (i ∷ second_place q) old new) (sym e)
      (puts_two part p (pair_said w) i j old mid new apart is is'))

-- facts about a call that succeeded
pub if_ok : {E : Type 0} {A : Type 0} (r : Result A E) (P Q : Type 0) → (P → Q) → OnOk r P → OnOk r Q
if_ok (Ok x) P Q f h = f h
if_ok (Err e) P Q f h = h
