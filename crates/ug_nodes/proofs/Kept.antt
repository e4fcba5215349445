-- The nodes kept are the primitive ones.
use Rattle.std.proofs.Common.{◌≡◌, ℕ, zero, suc, ◌<◌, Bool, true, false, cond, not, ◌||◌, List, [], ◌∷◌, length, get_or, map, filter, refl, sym, ap, ◌∙◌, subst, arith}
use Rattle.std.specs.Prelude.{Contains, ◌↔◌}
use Rattle.std.specs.Borrow.{Bor}
use Rattle.std.specs.List.{list_any}
use Rattle.std.specs.List.Sorted.{IsPermutation}
use Rattle.std.proofs.lemmas.List.Elements.{All-contains, All-contains_itself, All-filter, filter_passes}
use Rattle.std.proofs.lemmas.List.Folds.{Any-from_list_any, list_any-from_Any}
use Rattle.std.proofs.lemmas.List.Sorted.{Contains-permutation, IsPermutation-map, IsPermutation-sym, list_any-IsPermutation}
use Rattle.ug_nodes.specs.declared.name.Name.{Name}
use Rattle.ug_nodes.specs.declared.node.Node.{Node}
use Rattle.ug_nodes.specs.Lines.{IsAncestor, is_ancestor}
use Rattle.ug_nodes.proofs.LineLemmas.{ancestor_from_test, test_from_ancestor}
use Rattle.ug_nodes.specs.Primitive.{IsPrimitive, lent}
use Rattle.ug_nodes.specs.SortedLines.{fronts, is_below_any, line_of}

-- a test that picks nodes that are lent picks the nodes
pub lent_filter : (q : Node → Bool) (xs : List (Bor Node))
    → lent (filter (λ (x : Bor Node). q x.now) xs) ≡ filter q (lent xs)
lent_filter q [] = refl
lent_filter q (x ∷ xs) =
    elim (q x.now) as (λ b. lent (cond b (x ∷ filter (λ (y : Bor Node). q y.now) xs) (filter (λ (y : Bor Node). q y.now) xs))
    ≡ cond b (x.now ∷ filter q (lent xs)) (filter q (lent xs))) [
      | true ↦ ap (λ ys. x.now ∷ ys) (lent_filter q xs)
      | false ↦ lent_filter q xs
    ]

-- an item that is picked is there, and passes the test
picked_there : (q : Node → Bool) (xs : List Node) (n : Node) → Contains (filter q xs) n → Contains xs n
picked_there q xs n h = All-contains (Contains xs) (filter q xs) n (All-filter q (Contains xs) xs (All-contains_itself xs)) h

picked_passes : (q : Node → Bool) (xs : List Node) (n : Node) → Contains (filter q xs) n → q n ≡ true
picked_passes q xs n h = All-contains (λ x. q x ≡ true) (filter q xs) n (filter_passes q xs) h

later : (x : Node) (xs : List Node) (n : Node) → Contains xs n → Contains (x ∷ xs) n
later x xs n c = (suc c.0, omega (arith, c.1), c.2)

-- and what is there and passes the test is picked
picked_at : (q : Node → Bool) (xs : List Node) (n : Node) (k : ℕ) → k < length xs → get_or xs k n ≡ n → q n ≡ true
    → Contains (filter q xs) n
picked_at q [] n k h e t = absurd (omega (arith, h))
picked_at q (x ∷ xs) n zero h e t =
    let passes : q x ≡ true = subst (λ y. q y ≡ true) (sym e) t in
    rw passes (0, omega arith, e)
picked_at q (x ∷ xs) n (suc k) h e t =
    let rest = picked_at q xs n k (omega (arith, h)) e t in
    elim (q x) as (λ b. Contains (cond b (x ∷ filter q xs) (filter q xs)) n) [
      | true ↦ later x (filter q xs) n rest
      | false ↦ rest
    ]

-- whether one of the nodes is a proper ancestor, looked up among their lines
below_lent : (nodes : List (Bor Node)) (line : List Name)
    → is_below_any (map line_of nodes) line ≡ list_any (λ (a : Node). is_ancestor a.line line) (lent nodes)
below_lent [] line = refl
below_lent (x ∷ xs) line = ap (λ b. is_ancestor x.now.line line || b) (below_lent xs line)

below_sorted : (nodes : List (Bor Node)) (lines : List (Bor (List Name))) (line : List Name)
    → IsPermutation (map line_of nodes) (fronts lines)
    → is_below_any (fronts lines) line ≡ list_any (λ (a : Node). is_ancestor a.line line) (lent nodes)
below_sorted nodes lines line p =
    sym (list_any-IsPermutation (λ front. is_ancestor front line) (map line_of nodes) (fronts lines) p)
    ∙ below_lent nodes line

below_from_above : (nodes : List Node) (a n : Node) → Contains nodes a → IsAncestor a.line n.line
    → list_any (λ (a : Node). is_ancestor a.line n.line) nodes ≡ true
below_from_above nodes a n there above =
    list_any-from_Any (λ (a : Node). is_ancestor a.line n.line) nodes
    (there.0, a, there.1, there.2, test_from_ancestor a.line n.line above)

-- no node is a proper ancestor where the test of that fails
none_above : (nodes : List Node) (n a : Node) (t : Bool) → t ≡ list_any (λ (a : Node). is_ancestor a.line n.line) nodes
    → not t ≡ true → Contains nodes a → IsAncestor a.line n.line → ⊥
none_above nodes n a true e passes there above = cc
none_above nodes n a false e passes there above =
    let f : false ≡ true = e ∙ below_from_above nodes a n there above in cc

-- and the test fails where none is
passes_first : (nodes : List Node) (n : Node) (t : Bool) → t ≡ list_any (λ (a : Node). is_ancestor a.line n.line) nodes
    → ((a : Node) → Contains nodes a → IsAncestor a.line n.line → ⊥) → not t ≡ true
passes_first nodes n false e first = refl
passes_first nodes n true e first =
    let any = Any-from_list_any (λ (a : Node). is_ancestor a.line n.line) nodes (sym e) in
    absurd (first any.1 (any.0, any.2, any.3) (ancestor_from_test any.1.line n.line any.4))

-- the nodes that are below none of the lines
abbrev pub firsts : List (Bor (List Name)) → Node → Bool
firsts lines n = not (is_below_any (fronts lines) n.line)

-- are the primitive ones
pub each_primitive : (nodes held : List (Bor Node)) (lines : List (Bor (List Name)))
    → IsPermutation (map line_of nodes) (fronts lines) → IsPermutation nodes held
    → (n : Node) → Contains (filter (firsts lines) (lent held)) n ↔ IsPrimitive (lent nodes) n
each_primitive nodes held lines p h n =
    let moved : IsPermutation (lent nodes) (lent held) = IsPermutation-map (λ (x : Bor Node). x.now) nodes held h in
    let test = below_sorted nodes lines n.line p in (
      (λ c. record {
        held = Contains-permutation (lent held) (lent nodes) n (IsPermutation-sym (lent nodes) (lent held) moved)
            (picked_there (firsts lines) (lent held) n c);
        first = λ a there above. none_above (lent nodes) n a _ test (picked_passes (firsts lines) (lent held) n c) there above;
      }),
      (λ c.
          let there = Contains-permutation (lent nodes) (lent held) n moved c.held in
          picked_at (firsts lines) (lent held) n there.0 there.1 there.2 (passes_first (lent nodes) n _ test c.first)),
    )
