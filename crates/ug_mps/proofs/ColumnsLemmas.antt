-- What lines do to what the columns have.
use Rattle.std.proofs.Common.{◌≡◌, ℕ, ◌+◌, ◌<◌, ◌||◌, not, Bool, true, false, List, [], ◌∷◌, ◌++◌, length, get_or, set, map, Contains, Option, Some, None, sym, refl, ap, subst, ◌∙◌, arith, ⊎_elim}
use Rattle.std.specs.Str.{bytes_eq}
use Rattle.std.proofs.lemmas.Bool.{cases_eq, false≢true}
use Rattle.std.proofs.lemmas.List.{same_lists, length-set, length-map, get_or-map, get_or-set_same, get_or-set_other, map_push}
use Rattle.ug_drafts.specs.declared.bound.Bound.{Bound}
use Rattle.ug_drafts.specs.declared.bound.BoundChange.{BoundChange}
use Rattle.ug_drafts.specs.declared.column.ColumnDraft.{ColumnDraft}
use Rattle.ug_drafts.specs.Kept.{with_change}
use Rattle.ug_mps.specs.Entries.{Pair, Entry, column, bound}
use Rattle.ug_mps.specs.Good.{Good}
use Rattle.ug_mps.specs.History.{ColumnBegun, columns_of, is_column, goes_on, is_integer_on, low_set, high_set, is_made_integer}
use Rattle.ug_mps.specs.Stated.{is_integer}
use Rattle.ug_mps.specs.Names.{name_at, StandsAt, AreDistinct}
use Rattle.ug_mps.specs.Columns.{KeptColumns, column_so_far, new_column, column_at, AreColumns, FindsPlace, OpensColumn}
use Rattle.ug_mps.proofs.Bytes.{any_true, any_none, bytes_same, bytes_apart, not_first, not_second}
use Rattle.ug_mps.proofs.HistoryLemmas.{names_of, column_named, last_going, not_last, not_going, lows_known, highs_known, made_known}

-- ---- places

pub place_goes_on : (name : List ℕ) (c : KeptColumns) (at : ℕ) → AreDistinct c.names → StandsAt c.names name at → at + 1 ≡ length c.names → FindsPlace name c (Some (record { at = at; new = false }))
place_goes_on name c at apart here e h are =
    let goes : goes_on h name ≡ true = last_going h name at (subst (λ ns. AreDistinct ns) are.names apart) (subst (λ ns. StandsAt ns name at) are.names here) (e ∙ ap length are.names) in (
      not_second (is_column h name) (not (goes_on h name)) (ap not goes),
      rw goes (omega (arith, e, ap length are.names, length-map (columns_of h) (λ (c : ColumnBegun). c.name))),
      sym (ap not goes),
    )

pub place_refused : (name : List ℕ) (c : KeptColumns) (at : ℕ) → AreDistinct c.names → StandsAt c.names name at → (at + 1 ≡ length c.names → ⊥) → FindsPlace name c None
place_refused name c at apart here ne h are =
    let here-h : StandsAt (names_of h) name at = subst (λ ns. StandsAt ns name at) are.names here in
    let not-goes : goes_on h name ≡ false = not_last h name at (subst (λ ns. AreDistinct ns) are.names apart) here-h (λ e. ne (e ∙ ap length (sym are.names))) in
    let there : is_column h name ≡ true = column_named h name ∙ any_true (names_of h) name at here-h in
    rw (there, not-goes) refl

pub gone_of : (h : List Entry) (name : List ℕ) (c : KeptColumns) → AreColumns h c → ¬ Contains c.names name → is_column h name ≡ false
gone_of h name c are gone = column_named h name ∙ any_none (names_of h) name (subst (λ names. ¬ Contains names name) are.names gone)

pub place_new : (name : List ℕ) (c : KeptColumns) (n : ℕ) → ¬ Contains c.names name → n ≡ length c.names → FindsPlace name c (Some (record { at = n; new = true }))
place_new name c n gone e h are =
    let no-column : is_column h name ≡ false = gone_of h name c are gone in
    let goes : goes_on h name ≡ false = not_going h name no-column in (
      not_first (is_column h name) (not (goes_on h name)) no-column,
      rw goes (omega (arith, e, ap length are.names, length-map (columns_of h) (λ (c : ColumnBegun). c.name))),
      sym (ap not goes),
    )

-- ---- drafts

pub map_same : {X Y : Type 0} (f g : X → Y) (xs : List X) → ((x : X) → f x ≡ g x) → map f xs ≡ map g xs
map_same f g [] h = refl
map_same f g (x ∷ xs) h = rw (h x, map_same f g xs h) refl

pub draft_same : (n : ℕ) (i i' : Bool) (l l' u u' : Option Bound) → i ≡ i' → l ≡ l' → u ≡ u'
    → (let a : ColumnDraft = record { line = n; integer = i; low = l; high = u } in let b : ColumnDraft = record { line = n; integer = i'; low = l'; high = u' } in a ≡ b)
draft_same n i i' l l' u u' p q r = cc

-- an entry of no column and no bound keeps the columns as they are
pub columns_kept : (e : Entry) (h : List Entry) (c : KeptColumns) → columns_of (e ∷ h) ≡ columns_of h → ((d : ColumnBegun) → column_so_far (e ∷ h) d ≡ column_so_far h d)
    → AreColumns h c → AreColumns (e ∷ h) c
columns_kept e h c same so old = record {
  names = old.names ∙ ap (map (λ (c : ColumnBegun). c.name)) (sym same);
  drafts = old.drafts ∙ map_same (column_so_far h) (column_so_far (e ∷ h)) (columns_of h) (λ d. sym (so d)) ∙ ap (map (column_so_far (e ∷ h))) (sym same);
}

-- a line of a column that continues
pub columns_going : (line : ℕ) (name : List ℕ) (pairs : List Pair) (h : List Entry) (c : KeptColumns) → goes_on h name ≡ true → AreColumns h c → AreColumns (column line name pairs ∷ h) c
columns_going line name pairs h c t old = columns_kept (column line name pairs) h c (rw t refl) (λ d. refl) old

or_false_right : (b : Bool) → (b || false) ≡ b
or_false_right true = refl
or_false_right false = refl

-- a column that begins
pub columns_new : (line : ℕ) (name : List ℕ) (pairs : List Pair) (h : List Entry) (c : KeptColumns) (integer : Bool) → Good h → goes_on h name ≡ false → is_column h name ≡ false → integer ≡ is_integer_on h
    → AreColumns h c → AreColumns (column line name pairs ∷ h) (record { names = c.names ++ name ∷ []; drafts = c.drafts ++ new_column line integer ∷ [] })
columns_new line name pairs h c integer g f gone i old =
    let e : Entry = column line name pairs in
    let begun : ColumnBegun = record { line = line; name = name; integer = is_integer_on h } in
    let more : columns_of (e ∷ h) ≡ columns_of h ++ begun ∷ [] = rw f refl in
    record {
      names = ap (λ ns. ns ++ name ∷ []) old.names ∙ sym (map_push (λ (c : ColumnBegun). c.name) (columns_of h) begun) ∙ ap (map (λ (c : ColumnBegun). c.name)) (sym more);
      drafts = ap (λ ds. ds ++ new_column line integer ∷ []) old.drafts
          ∙ ap (λ d. map (column_so_far h) (columns_of h) ++ d ∷ [])
          (draft_same line integer (is_integer h begun) None (low_set h name) None (high_set h name) (i ∙ sym (rw (made_known h g name gone) (or_false_right (is_integer_on h)))) (sym (lows_known h g name gone)) (sym (highs_known h g name gone)))
          ∙ sym (map_push (column_so_far h) (columns_of h) begun)
          ∙ ap (map (column_so_far (e ∷ h))) (sym more);
    }

-- writing one column of those that are distinguished by their names
set_column : (cs : List ColumnBegun) (at : ℕ) (name : List ℕ) (f g : ColumnBegun → ColumnDraft) (v : ColumnDraft) → AreDistinct (map (λ (c : ColumnBegun). c.name) cs) → StandsAt (map (λ (c : ColumnBegun). c.name) cs) name at
    → ((c : ColumnBegun) → bytes_eq c.name name ≡ false → g c ≡ f c) → ((c : ColumnBegun) → c.name ≡ name → f c ≡ column_at (map f cs) at → g c ≡ v) → map g cs ≡ set (map f cs) at v
set_column cs at name f g v apart here others this = same_lists (map g cs) (set (map f cs) at v)
    (simp (length-map, length-set) refl)
    (λ k d a.
    let ak : k < length cs = omega (arith, simp length-map at a) in
    let dc : ColumnBegun = record { line = d.line; name = name; integer = d.integer } in
    let c = get_or cs k dc in
    let names : List (List ℕ) = map (λ (c : ColumnBegun). c.name) cs in
    let at-there : at < length cs = omega (arith, simp length-map at here.there) in
    let name-k : name_at names k ≡ c.name = get_or-map (λ (c : ColumnBegun). c.name) cs k dc [] ak in
    let gk : get_or (map g cs) k d ≡ g c = get_or-map g cs k dc d ak in
    let fk : get_or (map f cs) k d ≡ f c = get_or-map f cs k dc d ak in
    gk ∙ ⊎_elim
    (λ e. let in_f : k < length (map f cs) = omega (arith, length-map cs f) in
    let set-k : get_or (set (map f cs) at v) k d ≡ v = ap (λ i. get_or (set (map f cs) i v) k d) (sym e) ∙ get_or-set_same (map f cs) k v d in_f in
    this c (sym name-k ∙ ap (name_at names) e ∙ here.same) (sym (get_or-map f cs k dc (new_column 0 false) ak) ∙ ap (column_at (map f cs)) e) ∙ sym set-k)
    (λ ne. others c (bytes_apart c.name name (λ e. ne (apart k at (omega (arith, length-map cs (λ (c : ColumnBegun). c.name))) here.there (name-k ∙ e ∙ sym here.same)))) ∙ sym fk ∙ sym (get_or-set_other (map f cs) at k v d ne))
    (cases_eq k at))

or_turn : (a b c : Bool) → (a || (b || c)) ≡ ((a || c) || b)
or_turn true b c = refl
or_turn false true true = refl
or_turn false true false = refl
or_turn false false c = sym (or_false_right c)

-- a column's bounds are changed
pub columns_and_change : (set' : Option (List ℕ)) (name : List ℕ) (change : BoundChange) (h : List Entry) (c : KeptColumns) (at : ℕ) → AreColumns h c → AreDistinct c.names → StandsAt c.names name at
    → AreColumns (bound set' name change ∷ h) (record { names = c.names; drafts = set c.drafts at (with_change change (column_at c.drafts at)) })
columns_and_change set' name change h c at are apart here =
    let e : Entry = bound set' name change in
    let apart-h : AreDistinct (names_of h) = subst (λ names. AreDistinct names) are.names apart in
    let here-h : StandsAt (names_of h) name at = subst (λ names. StandsAt names name at) are.names here in
    record {
      names = are.names;
      drafts = ap (λ ds. set ds at (with_change change (column_at ds at))) are.drafts
          ∙ sym (set_column (columns_of h) at name (column_so_far h) (column_so_far (e ∷ h)) (with_change change (column_at (map (column_so_far h) (columns_of h)) at)) apart-h here-h
          (λ d n. draft_same d.line _ _ _ _ _ _ (rw n refl) (rw n refl) (rw n refl))
          (λ d s f. let t : bytes_eq d.name name ≡ true = bytes_same d.name name s in
          draft_same d.line _ _ _ _ _ _ (rw t (or_turn d.integer change.integer (is_made_integer h d.name))) (rw t refl) (rw t refl) ∙ ap (with_change change) f));
    }

-- a line of a column at its place
not_false' : (b : Bool) → true ≡ not b → b ≡ false
not_false' true e = absurd (false≢true (sym e))
not_false' false e = refl

not_true' : (b : Bool) → false ≡ not b → b ≡ true
not_true' true e = refl
not_true' false e = absurd (false≢true e)

pub open_going : (line : ℕ) (name : List ℕ) (integer new : Bool) (c : KeptColumns) → new ≡ false → OpensColumn line name integer new c c
open_going line name integer new c f h pairs g are again n i = columns_going line name pairs h c (not_true' (goes_on h name) (sym f ∙ n)) are

pub open_new : (line : ℕ) (name : List ℕ) (integer new : Bool) (c after : KeptColumns) → new ≡ true → ¬ Contains c.names name
    → after ≡ record { names = c.names ++ name ∷ []; drafts = c.drafts ++ new_column line integer ∷ [] } → OpensColumn line name integer new c after
open_new line name integer new c after t gone is h pairs g are again n i =
    subst (λ cs. AreColumns (column line name pairs ∷ h) cs) (sym is)
    (columns_new line name pairs h c integer g (not_false' (goes_on h name) (sym t ∙ n)) (gone_of h name c are gone) i are)
