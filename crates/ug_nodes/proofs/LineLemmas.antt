-- Lines that begin alike, and the ancestors of a line's node.
use Rattle.std.proofs.Common.{◌≡◌, ◌⊎◌, inl, inr, ℕ, ◌+◌, ◌<◌, ◌≤◌, Bool, true, false, List, [], ◌∷◌, ◌++◌, length, drop, refl, sym, ap, ◌∙◌, subst, arith}
use Rattle.std.specs.Prelude.{Contains, IsTrue, ◌↔◌}
use Rattle.std.proofs.lemmas.Bool.{cases_eq}
use Rattle.std.proofs.lemmas.Bool.Decides.{nat_tests}
use Rattle.std.proofs.lemmas.List.{append_assoc, get_or_append_left, get_or_push, length_push, length-append}
use Rattle.std.proofs.lemmas.List.Elements.{Contains-append_left, Contains-get_or}
use Rattle.std.proofs.lemmas.List.Prefix.{front_from_reads, front_reads, front_fits}
use Rattle.ug_nodes.specs.declared.name.Name.{Name}
use Rattle.ug_nodes.specs.Names.{IsTicketBefore, no_name}
use Rattle.ug_nodes.specs.Lines.{BeginsWith, IsAncestor, DoTicketsRise, is_ancestor, is_same_name, line_name_at}
use Rattle.ug_nodes.proofs.Orders.{same_name, same_ticket}

abbrev tail_of : List Name → List Name
tail_of [] = []
tail_of (x ∷ xs) = xs

abbrev head_of : List Name → Name
head_of [] = no_name
head_of (x ∷ xs) = x

same_cons : (x y : Name) (xs ys : List Name) → x ≡ y → xs ≡ ys → x ∷ xs ≡ y ∷ ys
same_cons x y xs ys e f = subst (λ z. x ∷ xs ≡ z ∷ ys) e (ap (λ zs. x ∷ zs) f)

-- an ancestor of an ancestor is an ancestor
pub ancestor_along : (a b c : List Name) → IsAncestor a b → IsAncestor b c → IsAncestor a c
ancestor_along a b c (n, (r, e)) (m, (s, f)) =
    (n, (r ++ m ∷ s, f ∙ (ap (λ l. l ++ m ∷ s) e ∙ append_assoc a (n ∷ r) (m ∷ s))))

-- no line is a proper front of itself
pub ancestor_not_itself : (a : List Name) → IsAncestor a a → ⊥
ancestor_not_itself a (n, (r, e)) = omega (arith, ap length e, length-append a (n ∷ r))

-- of two, not each is an ancestor of the other
pub ancestor_one_way : (a b : List Name) → IsAncestor a b → IsAncestor b a → ⊥
ancestor_one_way a b h k = ancestor_not_itself a (ancestor_along a b a h k)

-- two prefixes of one line are the same, or one is a proper front of the other
fronts : (a b r s : List Name) → a ++ r ≡ b ++ s → (a ≡ b) ⊎ (IsAncestor a b ⊎ IsAncestor b a)
fronts [] [] r s e = inl refl
fronts [] (y ∷ ys) r s e = inr (inl (y, (ys, refl)))
fronts (x ∷ xs) [] r s e = inr (inr (x, (xs, refl)))
fronts (x ∷ xs) (y ∷ ys) r s e =
    let same : x ≡ y = ap head_of e in
    elim (fronts xs ys r s (ap tail_of e)) [
      | inl f ↦ inl (same_cons x y xs ys same f)
      | inr o ↦ elim o [
        | inl g ↦ inr (inl (g.0, (g.1.0, same_cons y x ys (xs ++ g.0 ∷ g.1.0) (sym same) g.1.1)))
        | inr g ↦ inr (inr (g.0, (g.1.0, same_cons x y xs (ys ++ g.0 ∷ g.1.0) same g.1.1)))
      ]
    ]

-- two ancestors of one node are the same, or one is an ancestor of the other
pub ancestor_either : (a b line : List Name) → IsAncestor a line → IsAncestor b line → (a ≡ b) ⊎ (IsAncestor a b ⊎ IsAncestor b a)
ancestor_either a b line (n, (r, e)) (m, (s, f)) = fronts a b (n ∷ r) (m ∷ s) (sym e ∙ f)

-- an ancestor of a child is the node itself or an ancestor of it
pub ancestor_of_child : (a line : List Name) (name : Name) → IsAncestor a (line ++ name ∷ []) → (a ≡ line) ⊎ IsAncestor a line
ancestor_of_child a line name (n, (r, e)) = elim (fronts a line (n ∷ r) (name ∷ []) (sym e)) [
  | inl same ↦ inl same
  | inr o ↦ elim o [
    | inl above ↦ inr above
    | inr below ↦ absurd (no_room below.0 below.1.0 below.1.1)
  ]
]
  where
    no_room : (m : Name) (s : List Name) → a ≡ line ++ m ∷ s → ⊥
    no_room m s f = omega (arith, ap length e, ap length f, length-append a (n ∷ r), length-append line (name ∷ []), length-append line (m ∷ s))

-- a node is an ancestor of its child
pub ancestor_of_own : (line : List Name) (name : Name) → IsAncestor line (line ++ name ∷ [])
ancestor_of_own line name = (name, ([], refl))

-- a name of the front is in the line
pub begins_has : (line front : List Name) (name : Name) → BeginsWith line front → Contains front name → Contains line name
begins_has line front name b h = subst (λ l. Contains l name) (sym b.1) (Contains-append_left front b.0 name h)

-- a line that begins with another, and is longer, continues
pub ancestor_from_begins : (front line : List Name) → BeginsWith line front → length front < length line → IsAncestor front line
ancestor_from_begins front line ([], e) h = absurd (omega (arith, ap length e, length-append front []))
ancestor_from_begins front line (n ∷ r, e) h = (n, (r, e))

pub begins_from_ancestor : (front line : List Name) → IsAncestor front line → BeginsWith line front
begins_from_ancestor front line (n, (r, e)) = (n ∷ r, e)

pub ancestor_shorter : (front line : List Name) → IsAncestor front line → length front < length line
ancestor_shorter front line (n, (r, e)) = omega (arith, ap length e, length-append front (n ∷ r))

-- a line begins with a front where the names are the same as far as the front goes
pub begins_from_reads : (line front : List Name) → length front ≤ length line
    → ((k : ℕ) → k < length front → line_name_at line k ≡ line_name_at front k) → BeginsWith line front
begins_from_reads line front h each = (drop (length front) line, front_from_reads no_name line front h each)

pub begins_reads : (line front : List Name) → BeginsWith line front → (k : ℕ) → k < length front → line_name_at line k ≡ line_name_at front k
begins_reads line front b k h = front_reads no_name line front b.0 b.1 k h

pub begins_fits : (line front : List Name) → BeginsWith line front → length front ≤ length line
begins_fits line front b = front_fits line front b.0 b.1

-- the test of two names says whether they are the same
same_from_test : (a b : Name) → is_same_name a b ≡ true → a ≡ b
same_from_test a b h =
    let run : a.ticket.run ≡ b.ticket.run = grind (arith, nat_tests) in
    let number : a.ticket.number ≡ b.ticket.number = grind (arith, nat_tests) in
    let hand : a.hand ≡ b.hand = grind (arith, nat_tests) in
    same_name a b (same_ticket a.ticket b.ticket run number) hand

test_from_same : (a : Name) → is_same_name a a ≡ true
test_from_same a = grind (arith, nat_tests)

-- the test of an ancestor says whether it is one
pub ancestor_from_test : (front line : List Name) → is_ancestor front line ≡ true → IsAncestor front line
ancestor_from_test [] [] h = cc
ancestor_from_test (x ∷ xs) [] h = cc
ancestor_from_test [] (y ∷ ys) h = (y, (ys, refl))
ancestor_from_test (x ∷ xs) (y ∷ ys) h =
    let same : is_same_name x y ≡ true = grind (arith, nat_tests) in
    let rest : is_ancestor xs ys ≡ true = grind (arith, nat_tests) in
    let n = ancestor_from_test xs ys rest in
    (n.0, (n.1.0, same_cons y x ys (xs ++ n.0 ∷ n.1.0) (sym (same_from_test x y same)) n.1.1))

test_of_front : (front : List Name) (name : Name) (rest : List Name) → is_ancestor front (front ++ name ∷ rest) ≡ true
test_of_front [] name rest = refl
test_of_front (x ∷ xs) name rest = rw (test_from_same x) (test_of_front xs name rest)

pub test_from_ancestor : (front line : List Name) → IsAncestor front line → is_ancestor front line ≡ true
test_from_ancestor front line (n, (r, e)) = subst (λ l. is_ancestor front l ≡ true) (sym e) (test_of_front front n r)

-- so what is true where there is an ancestor is the test
pub is_ancestor_test : (front line : List Name) (r : Bool) → IsTrue r ↔ IsAncestor front line → r ≡ is_ancestor front line
is_ancestor_test front line true h = sym (test_from_ancestor front line (h.0 refl))
is_ancestor_test front line false h = by_test (is_ancestor front line) refl
  where
    by_test : (t : Bool) → is_ancestor front line ≡ t → false ≡ is_ancestor front line
    by_test true e = let no : IsTrue false = h.1 (ancestor_from_test front line e) in cc
    by_test false e = sym e

-- tickets rise along a line with one name more, whose ticket is after all in it
pub rises_push : (line : List Name) (name : Name) → DoTicketsRise line → ((m : Name) → Contains line m → IsTicketBefore m.ticket name.ticket)
    → DoTicketsRise (line ++ name ∷ [])
rises_push line name r a i k ik h =
    let there : k < length line + 1 = subst (λ n. k < n) (length_push line name) h in
    let old : (j : ℕ) → j < length line → line_name_at (line ++ name ∷ []) j ≡ line_name_at line j = λ j l. get_or_append_left line (name ∷ []) no_name j l in
    elim (cases_eq k (length line)) [
      | inl e ↦
          let first : i < length line = omega (arith, ik, e) in
          subst (λ (z : Name). IsTicketBefore (line_name_at (line ++ name ∷ []) i).ticket z.ticket) (sym (get_or_push line name no_name k (sym e)))
          (subst (λ (z : Name). IsTicketBefore z.ticket name.ticket) (sym (old i first)) (a (line_name_at line i) (Contains-get_or line i no_name first)))
      | inr ne ↦
          let second : k < length line = omega (arith, there, ne) in
          let first : i < length line = omega (arith, ik, second) in
          subst (λ (z : Name). IsTicketBefore (line_name_at (line ++ name ∷ []) i).ticket z.ticket) (sym (old k second))
          (subst (λ (z : Name). IsTicketBefore z.ticket (line_name_at line k).ticket) (sym (old i first)) (r i k ik second))
    ]

-- tickets rise along each line with which such a line begins
pub rises_front : (line front : List Name) → BeginsWith line front → DoTicketsRise line → DoTicketsRise front
rises_front line front b r i k ik h =
    let long = begins_fits line front b in
    subst (λ (z : Name). IsTicketBefore z.ticket (line_name_at front k).ticket) (begins_reads line front b i (omega arith))
    (subst (λ (z : Name). IsTicketBefore (line_name_at line i).ticket z.ticket) (begins_reads line front b k h) (r i k ik (omega arith)))

-- for `is_ancestor`
pub ruleset ancestors = (ancestor_from_begins, begins_from_ancestor, ancestor_shorter, is_ancestor_test)

-- for `begins_with`
pub ruleset beginnings = (begins_from_reads, begins_reads, begins_fits)
