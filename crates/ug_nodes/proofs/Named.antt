-- Nodes that are sorted by name, and those that are picked of them.
use Rattle.std.proofs.Common.{◌≡◌, ℕ, zero, suc, ◌<◌, ◌≤◌, inl, inr, Bool, true, false, cond, List, [], ◌∷◌, length, get_or, filter, refl, sym, subst, arith}
use Rattle.std.specs.Borrow.{Bor}
use Rattle.std.specs.List.{AllPairs}
use Rattle.std.specs.List.Sorted.{IsPermutation, IsSortedByKey}
use Rattle.std.specs.declared.cmp.Ordering.{Ordering}
use Rattle.std.specs.declared.cmp.Ordering.TheVariants.{Less, Equal, Greater}
use Rattle.std.specs.Ordering.{is_lt, nat_cmp, ordering_then}
use Rattle.std.proofs.lemmas.Bool.Decides.{nat_tests}
use Rattle.std.proofs.lemmas.Cmp.{by_ranked, ranked, tied_itself}
use Rattle.std.proofs.lemmas.List.{get_or-map, length-map}
use Rattle.std.proofs.lemmas.List.Kept.{AllPairs-filter}
use Rattle.std.proofs.lemmas.List.Sums.{length-filter}
use Rattle.std.proofs.lemmas.List.Sorted.{IsPermutation-map, ranks_by, sorted_far, sum_by-IsPermutation}
use Rattle.ug_nodes.specs.declared.name.Ticket.{Ticket}
use Rattle.ug_nodes.specs.declared.name.Name.{Name}
use Rattle.ug_nodes.specs.declared.node.Node.{Node}
use Rattle.ug_nodes.specs.Names.{IsNameBefore, IsTicketBefore, name_cmp, own_name, ticket_cmp}
use Rattle.ug_nodes.specs.Lines.{is_same_name}
use Rattle.ug_nodes.proofs.Orders.{name_cmp_total, name_either, ticket_cmp_total}
use Rattle.ug_nodes.specs.Primitive.{AreNamedOnce, IsNamedBefore, lent, times}
use Rattle.ug_nodes.specs.SortedLines.{key_of}

first_less : (o p : Ordering) → o ≡ Less → ordering_then o p ≡ Less
first_less o p e = subst (λ q. ordering_then q p ≡ Less) (sym e) refl

second_less : (o p : Ordering) → o ≡ Equal → p ≡ Less → ordering_then o p ≡ Less
second_less o p e f = subst (λ q. ordering_then q p ≡ Less) (sym e) f

less_number : (a b : ℕ) → a < b → nat_cmp a b ≡ Less
less_number a b h = by_ranked (a < b) (a ≡ b) (b < a) (nat_cmp a b) (ranked a b _ refl)
    (λ e lt. e)
    (λ e same. absurd (omega (arith, h, same)))
    (λ e gt. absurd (omega (arith, h, gt)))

equal_numbers : (a b : ℕ) → a ≡ b → nat_cmp a b ≡ Equal
equal_numbers a b h = by_ranked (a < b) (a ≡ b) (b < a) (nat_cmp a b) (ranked a b _ refl)
    (λ e lt. absurd (omega (arith, h, lt)))
    (λ e same. e)
    (λ e gt. absurd (omega (arith, h, gt)))

less_ticket : (a b : Ticket) → IsTicketBefore a b → ticket_cmp a b ≡ Less
less_ticket a b (inl h) = first_less _ (nat_cmp a.number b.number) (less_number a.run b.run h)
less_ticket a b (inr h) = second_less _ _ (equal_numbers a.run b.run h.0) (less_number a.number b.number h.1)

-- a name that is before another compares as less
less_name : (a b : Name) → IsNameBefore a b → name_cmp a b ≡ Less
less_name a b (inl h) = first_less _ (nat_cmp a.hand b.hand) (less_ticket a.ticket b.ticket h)
less_name a b (inr h) = second_less _ _
    (subst (λ t. ticket_cmp a.ticket t ≡ Equal) h.0 (tied_itself ticket_cmp_total a.ticket))
    (less_number a.hand b.hand h.1)

not_less : (o : Ordering) → is_lt o ≡ false → o ≡ Less → ⊥
not_less Less h e = cc
not_less Equal h e = cc
not_less Greater h e = cc

-- the name of the second is not before that of the first
abbrev pub NotAfter : Node → Node → Type 0
NotAfter a b = IsNamedBefore b a → ⊥

-- a relation of nodes that are lent, each to each later one, is one of the nodes
pairs_lent : (R : Node → Node → Type 0) (xs : List (Bor Node)) → AllPairs (λ (x y : Bor Node). R x.now y.now) xs
    → AllPairs R (lent xs)
pairs_lent R [] h i j d ij jl = absurd (omega (arith, jl))
pairs_lent R (x ∷ xs) h i j d ij jl =
    let n = length-map (x ∷ xs) (λ (r : Bor Node). r.now) in
    let lj : j < length (x ∷ xs) = subst (λ m. j < m) n jl in
    let li : i < length (x ∷ xs) = omega (arith, ij, lj) in
    subst (λ b. R (get_or (lent (x ∷ xs)) i d) b) (sym (get_or-map (λ (r : Bor Node). r.now) (x ∷ xs) j x d lj))
    (subst (λ a. R a (get_or (x ∷ xs) j x).now) (sym (get_or-map (λ (r : Bor Node). r.now) (x ∷ xs) i x d li))
    (h i j x ij lj))

-- of nodes that are sorted by name, none is after a later one
sorted_pairs : (held : List (Bor Node)) → IsSortedByKey key_of name_cmp held → AllPairs NotAfter (lent held)
sorted_pairs held sorted = pairs_lent NotAfter held (λ i j d ij jl before.
    not_less _ (sorted_far _ (ranks_by name_cmp_total key_of) held sorted i j d (omega (arith, ij)) jl)
    (less_name _ _ before))

one_picked : (p : Node → Bool) (xs : List Node) (k : ℕ) (d : Node) → k < length xs → p (get_or xs k d) ≡ true
    → 1 ≤ length (filter p xs)
one_picked p [] k d h t = absurd (omega (arith, h))
one_picked p (x ∷ xs) zero d h t = rw t (omega arith)
one_picked p (x ∷ xs) (suc k) d h t =
    let rest = one_picked p xs k d (omega (arith, h)) t in
    elim (p x) as (λ b. 1 ≤ length (cond b (x ∷ filter p xs) (filter p xs))) [
      | true ↦ omega (arith, rest)
      | false ↦ rest
    ]

-- a test that holds at two places picks two at least
two_picked : (p : Node → Bool) (xs : List Node) (i j : ℕ) (d : Node) → i < j → j < length xs
    → p (get_or xs i d) ≡ true → p (get_or xs j d) ≡ true → 2 ≤ length (filter p xs)
two_picked p [] i j d ij h s t = absurd (omega (arith, h))
two_picked p (x ∷ xs) i zero d ij h s t = absurd (omega (arith, ij))
two_picked p (x ∷ xs) zero (suc j) d ij h s t =
    let rest = one_picked p xs j d (omega (arith, h)) t in rw s (omega (arith, rest))
two_picked p (x ∷ xs) (suc i) (suc j) d ij h s t =
    let rest = two_picked p xs i j d (omega (arith, ij)) (omega (arith, h)) s t in
    elim (p x) as (λ b. 2 ≤ length (cond b (x ∷ filter p xs) (filter p xs))) [
      | true ↦ omega (arith, rest)
      | false ↦ rest
    ]

same_name_test : (a b : Name) → a ≡ b → is_same_name a b ≡ true
same_name_test a b e = subst (λ c. is_same_name a c ≡ true) e (itself a)
  where
    itself : (a : Name) → is_same_name a a ≡ true
    itself a = grind (arith, nat_tests)

-- if no two have one name, each later name is after the earlier ones
strict_pairs : (xs : List Node) → AreNamedOnce xs → AllPairs NotAfter xs → AllPairs IsNamedBefore xs
strict_pairs xs once order i j d ij jl =
    let a = own_name (get_or xs i d).line in
    let b = own_name (get_or xs j d).line in
    elim (name_either a b) [
      | inl same ↦
          let named : Node → Bool = λ (n : Node). is_same_name (own_name n.line) a in
          let many = two_picked named xs i j d ij jl (same_name_test a a refl) (same_name_test b a (sym same)) in
          absurd (omega (arith, many, length-filter named xs, once a))
      | inr o ↦ elim o [
        | inl before ↦ before
        | inr after ↦ absurd (order i j d ij jl after)
      ]
    ]

once_moved : (xs ys : List Node) → IsPermutation xs ys → AreNamedOnce xs → AreNamedOnce ys
once_moved xs ys p once name =
    let same : times name ys ≡ times name xs =
    sum_by-IsPermutation (λ (n : Node). cond (is_same_name (own_name n.line) name) 1 0) xs ys p in
    subst (λ m. m ≤ 1) (sym same) (once name)

-- nodes picked from nodes sorted by name are sorted by name
pub picked_order : (q : Node → Bool) (held : List (Bor Node)) → IsSortedByKey key_of name_cmp held
    → AllPairs NotAfter (filter q (lent held))
picked_order q held sorted = AllPairs-filter NotAfter q (lent held) (sorted_pairs held sorted)

-- and strictly, where no two of them have one name
pub picked_rises : (q : Node → Bool) (nodes held : List (Bor Node)) → IsPermutation nodes held
    → IsSortedByKey key_of name_cmp held → AreNamedOnce (lent nodes) → AllPairs IsNamedBefore (filter q (lent held))
picked_rises q nodes held p sorted once = AllPairs-filter IsNamedBefore q (lent held)
    (strict_pairs (lent held) (once_moved (lent nodes) (lent held) (IsPermutation-map (λ (r : Bor Node). r.now) nodes held p) once)
    (sorted_pairs held sorted))
