-- Lists, words and sums over views.
use Rattle.std.proofs.Common.{◌≡◌, ◌≢◌, ◌⊎◌, ℕ, zero, suc, ◌+◌, ◌≤◌, List, [], ◌∷◌, ◌++◌, length, set, refl, sym, ap, ◌∙◌, subst, ⊎_elim, arith, append_assoc, append-nil, inl, inr}
use Rattle.std.specs.Prelude.{slice_index, ◌==◌, Option, Some, None, true, false}
use Rattle.std.proofs.Common.{eq-eqb, ne_eqb}
use Rattle.std.proofs.lemmas.List.Elements.{filter-append}
use mathlib.Core.Logic.{dite}
use native.Mathlib.Decide.{ℕ_discrete}
use mathlib.Core.Option.{some, some-ne-none, some-injective}
use mathlib.Core.List.{IsPrefix}
use lib.ListN.{get_elem?}
use Rattle.atomic_table.proofs.Lists.{set_else}
use Rattle.ug_turn.specs.declared.view.View.{View}
use Rattle.ug_turn.specs.Rules.{total}
use Rattle.ug_turn.specs.Histories.{calls_by, longer, told}

-- a function changed at one number
pub put : (ℕ → ℕ) → ℕ → ℕ → ℕ → ℕ
put f i c j = dite (ℕ_discrete j i) (λ _. c) (λ _. f j)

pub put_here : (f : ℕ → ℕ) (i c : ℕ) → put f i c i ≡ c
unfolding put
put_here f i c = go (ℕ_discrete i i)
  where
    go : (d : Dec (i ≡ i)) → dite d (λ _. c) (λ _. f i) ≡ c
    go (yes _) = refl
    go (no n) = absurd (n refl)

pub put_else : (f : ℕ → ℕ) (i c j : ℕ) → j ≢ i → put f i c j ≡ f j
unfolding put
put_else f i c j other = go (ℕ_discrete j i)
  where
    go : (d : Dec (j ≡ i)) → dite d (λ _. c) (λ _. f j) ≡ f j
    go (yes e) = absurd (other e)
    go (no _) = refl

-- three words, of which one is set
pub words_set_0 : (ws : List ℕ) (n : ℕ) → length ws ≡ 3 → (slice_index (set ws 0 n) 0 ≡ n) × (slice_index (set ws 0 n) 1 ≡ slice_index ws 1) × (slice_index (set ws 0 n) 2 ≡ slice_index ws 2)
words_set_0 [] n e = absurd (omega arith)
words_set_0 (a ∷ []) n e = absurd (omega arith)
words_set_0 (a ∷ b ∷ []) n e = absurd (omega arith)
words_set_0 (a ∷ b ∷ c ∷ ws) n e = (refl, refl, refl)

pub words_set_1 : (ws : List ℕ) (n : ℕ) → length ws ≡ 3 → (slice_index (set ws 1 n) 0 ≡ slice_index ws 0) × (slice_index (set ws 1 n) 1 ≡ n) × (slice_index (set ws 1 n) 2 ≡ slice_index ws 2)
words_set_1 [] n e = absurd (omega arith)
words_set_1 (a ∷ []) n e = absurd (omega arith)
words_set_1 (a ∷ b ∷ []) n e = absurd (omega arith)
words_set_1 (a ∷ b ∷ c ∷ ws) n e = (refl, refl, refl)

pub words_set_2 : (ws : List ℕ) (n : ℕ) → length ws ≡ 3 → (slice_index (set ws 2 n) 0 ≡ slice_index ws 0) × (slice_index (set ws 2 n) 1 ≡ slice_index ws 1) × (slice_index (set ws 2 n) 2 ≡ n)
words_set_2 [] n e = absurd (omega arith)
words_set_2 (a ∷ []) n e = absurd (omega arith)
words_set_2 (a ∷ b ∷ []) n e = absurd (omega arith)
words_set_2 (a ∷ b ∷ c ∷ ws) n e = (refl, refl, refl)

module _ {O E : Type 0} where
  -- the total after a change of one view
  pub total_set : (f : View O E → ℕ) (views : List (View O E)) (port : ℕ) (v w : View O E) → get_elem? views port ≡ some v → total f (set views port w) + f v ≡ total f views + f w
  total_set f [] port v w e = absurd (some-ne-none v (sym e))
  total_set f (u ∷ us) zero v w e = let same : f u ≡ f v = ap f (some-injective u v e) in omega arith
  total_set f (u ∷ us) (suc port) v w e = let rest = total_set f us port v w e in omega arith

  pub total_le : (f g : View O E → ℕ) (views : List (View O E)) → ((j : ℕ) (v : View O E) → get_elem? views j ≡ some v → f v ≤ g v) → total f views ≤ total g views
  total_le f g [] h = omega arith
  total_le f g (v ∷ vs) h = let here = h zero v refl in let rest = total_le f g vs (λ j u e. h (suc j) u e) in omega arith

  pub total_snoc : (f : View O E → ℕ) (views : List (View O E)) (v : View O E) → total f (views ++ v ∷ []) ≡ total f views + f v
  total_snoc f [] v = omega arith
  total_snoc f (u ∷ us) v = let rest = total_snoc f us v in omega arith

  total_one : (f : View O E → ℕ) (views : List (View O E)) (i : ℕ) (v : View O E) → get_elem? views i ≡ some v → f v ≤ total f views
  total_one f [] i v e = absurd (some-ne-none v (sym e))
  total_one f (u ∷ us) zero v e = let same : f u ≡ f v = ap f (some-injective u v e) in omega arith
  total_one f (u ∷ us) (suc i) v e = let rest = total_one f us i v e in omega arith

  -- two views make no more than the total
  pub total_two : (f : View O E → ℕ) (views : List (View O E)) (i j : ℕ) (v w : View O E) → j ≢ i → get_elem? views i ≡ some v → get_elem? views j ≡ some w → f v + f w ≤ total f views
  total_two f [] i j v w apart e h = absurd (some-ne-none v (sym e))
  total_two f (u ∷ us) zero zero v w apart e h = absurd (apart refl)
  total_two f (u ∷ us) zero (suc j) v w apart e h = let same : f u ≡ f v = ap f (some-injective u v e) in let rest = total_one f us j w h in omega arith
  total_two f (u ∷ us) (suc i) zero v w apart e h = let same : f u ≡ f w = ap f (some-injective u w h) in let rest = total_one f us i v e in omega arith
  total_two f (u ∷ us) (suc i) (suc j) v w apart e h = let rest = total_two f us i j v w (λ same. apart (ap suc same)) e h in omega arith

  -- one view changed, which is then there
  pub here : (views : List (View O E)) (id : ℕ) (v w : View O E) → get_elem? views id ≡ some v → get_elem? (set views id w) id ≡ some w
  here [] id v w e = absurd (some-ne-none v (sym e))
  here (u ∷ us) zero v w e = refl
  here (u ∷ us) (suc id) v w e = here us id v w e

  -- a seat that has nothing out changed, so that nothing was out before if nothing is now
  pub still : (views : List (View O E)) (id : ℕ) (v w : View O E) → get_elem? views id ≡ some v → v.step ≢ 2
      → ((j : ℕ) (u : View O E) → get_elem? (set views id w) j ≡ some u → u.step ≢ 2) → (j : ℕ) (u : View O E) → get_elem? views j ≡ some u → u.step ≢ 2
  still views id v w at n h j u e two =
      dite (ℕ_discrete j id)
      (λ same. let is : u ≡ v = some-injective u v (sym e ∙ (ap (λ (i : ℕ). get_elem? views i) same ∙ at)) in n (sym (ap (λ (x : View O E). x.step) is) ∙ two))
      (λ other. h j u (set_else views id j w other ∙ e) two)

-- ---- beginnings of one list

module _ {A : Type 0} where
  pub prefix_self : (xs : List A) → IsPrefix xs xs
  prefix_self [] = ([], refl)
  prefix_self (x ∷ xs) = (let r = prefix_self xs in r.0, ap (λ ys. x ∷ ys) (prefix_self xs).1)

  -- nothing begins each list
  pub prefix_nil : (xs : List A) → IsPrefix [] xs
  prefix_nil xs = (xs, refl)

  -- what begins a list begins a longer one
  pub prefix_more : (xs ys zs : List A) → IsPrefix xs ys → IsPrefix xs (ys ++ zs)
  prefix_more xs ys zs p = (p.0 ++ zs, sym (append_assoc xs p.0 zs) ∙ ap (λ w. w ++ zs) p.1)

  -- of two beginnings of one list the longer is one, and both begin it
  pub longer_begins : (xs ys zs : List A) → IsPrefix xs zs → IsPrefix ys zs → IsPrefix (longer xs ys) zs × IsPrefix xs (longer xs ys) × IsPrefix ys (longer xs ys)
  longer_begins [] ys zs p q = (q, (ys, refl), prefix_self ys)
  longer_begins (x ∷ xs) [] zs p q = (subst (λ l. IsPrefix l zs) (sym (nothing_more (x ∷ xs))) p, subst (λ l. IsPrefix (x ∷ xs) l) (sym (nothing_more (x ∷ xs))) (prefix_self (x ∷ xs)), (longer (x ∷ xs) [], refl))
    where
      nothing_more : (l : List A) → longer l [] ≡ l
      nothing_more [] = refl
      nothing_more (y ∷ l) = append-nil (y ∷ l)
  longer_begins (x ∷ xs) (y ∷ ys) [] p q = absurd (cc (p.1))
  longer_begins (x ∷ xs) (y ∷ ys) (z ∷ zs) p q =
      let heads : x ≡ z = cc (p.1) in
      let heads' : y ≡ x = cc (q.1, p.1) in
      let rest = longer_begins xs ys zs (p.0, cc (p.1)) (q.0, cc (q.1)) in
      ((rest.0.0, cc (heads, rest.0.1)), (rest.1.0, cc (rest.1.1)), (rest.2.0, cc (heads', rest.2.1)))

  -- if the first begins the second, the longer is the second
  pub longer_whole : (xs ys : List A) → IsPrefix xs ys → longer xs ys ≡ ys
  longer_whole [] ys p = refl
  longer_whole (x ∷ xs) [] p = absurd (cc (p.1))
  longer_whole (x ∷ xs) (y ∷ ys) p =
      let rest = longer_whole xs ys (p.0, cc (p.1)) in cc (p.1, rest)

  -- an item of a list with one more is in the list, or is the last
  pub at_snoc_place : (l : List A) (a b : A) (j : ℕ) → get_elem? (l ++ a ∷ []) j ≡ some b → (get_elem? l j ≡ some b) ⊎ ((j ≡ length l) × (a ≡ b))
  at_snoc_place [] a b zero e = inr (refl, some-injective a b e)
  at_snoc_place [] a b (suc j) e = absurd (some-ne-none b (sym e))
  at_snoc_place (x ∷ xs) a b zero e = inl e
  at_snoc_place (x ∷ xs) a b (suc j) e = ⊎_elim (λ t. inl t) (λ t. inr (ap suc t.0, t.1)) (at_snoc_place xs a b j e)

-- a word that is set to itself
pub set_same : (ws : List ℕ) (i : ℕ) → set ws i (slice_index ws i) ≡ ws
set_same [] i = refl
set_same (w ∷ ws) zero = refl
set_same (w ∷ ws) (suc i) = ap (λ l. w ∷ l) (set_same ws i)

-- ---- the entries of a pass

module _ {E : Type 0} (by : E → ℕ) where
  -- an entry that another pass adds belongs to the other pass
  pub calls_of_other : (p q : ℕ) (log : List E) (entry : Option E) → ((e : E) → entry ≡ Some e → by e ≡ q) → p ≢ q → calls_by by p (log ++ told entry) ≡ calls_by by p log
  calls_of_other p q log None is apart = ap (calls_by by p) (append-nil log)
  calls_of_other p q log (Some e) is apart =
      let off : (by e == p) ≡ false = ne_eqb (by e) p (λ same. apart (sym same ∙ is e refl)) in
      filter-append (λ x. by x == p) log (e ∷ []) ∙ (rw off (append-nil (calls_by by p log)))

  -- what the pass adds is one entry more of it
  pub calls_of_same : (p : ℕ) (log : List E) (entry : Option E) → ((e : E) → entry ≡ Some e → by e ≡ p) → calls_by by p (log ++ told entry) ≡ calls_by by p log ++ told entry
  calls_of_same p log None is = ap (calls_by by p) (append-nil log) ∙ sym (append-nil (calls_by by p log))
  calls_of_same p log (Some e) is =
      let on : (by e == p) ≡ true = eq-eqb (by e) p (is e refl) in
      filter-append (λ x. by x == p) log (e ∷ []) ∙ (rw on refl)

-- ---- the value that is out with a seat

module _ {A : Type 0} where
  some_or : A → Option A → A
  some_or d None = d
  some_or d (Some x) = x

  first_or : A → List (ℕ × Option A) → A
  first_or d [] = d
  first_or d (x ∷ xs) = some_or d x.1

  -- two readings of the one slot that is out
  pub same_held : (l : List (ℕ × Option A)) (h h' : A) → l ≡ (0, Some h) ∷ [] → l ≡ (0, Some h') ∷ [] → h ≡ h'
  unfolding first_or some_or
  same_held l h h' one two = sym (ap (first_or h) one) ∙ ap (first_or h) two

  slot_or : Option A → List (ℕ × Option A) → Option A
  slot_or d [] = d
  slot_or d (x ∷ xs) = x.1

  -- the same where the slots are named
  pub same_slot : (l : List (ℕ × Option A)) (a b : Option A) (r : List (ℕ × Option A)) → l ≡ (0, a) ∷ [] → l ≡ (0, b) ∷ r → b ≡ a
  unfolding slot_or
  same_slot l a b r one two = sym (ap (slot_or b) two) ∙ ap (slot_or b) one
