-- Searches in sorted lines.
use Rattle.std.proofs.Common.{◌≡◌, ℕ, ◌<◌, inl, inr, List, [], ◌∷◌, length, get_or, Result, Ok, Err, refl, sym, ap, ◌∙◌, subst, arith}
use Rattle.std.specs.Prelude.{Contains, IsTrue, false, is_ok, ◌↔◌}
use Rattle.std.specs.Borrow.{Bor}
use Rattle.std.specs.Cmp.Lexicographic.{slice_cmp}
use Rattle.std.specs.List.Sorted.{IsBinarySearchResult, IsPartitionPoint, IsSearchInRange}
use Rattle.std.specs.declared.cmp.Ordering.{Ordering}
use Rattle.std.specs.declared.cmp.Ordering.TheVariants.{Less, Equal, Greater}
use Rattle.std.specs.Ordering.{nat_cmp, ordering_then}
use Rattle.std.proofs.lemmas.Bool.{cases_lt}
use Rattle.std.proofs.lemmas.Cmp.{by_ranked, lists_total, ranked, tied_itself}
use Rattle.std.proofs.lemmas.List.{get_or-map, length-map}
use Rattle.std.proofs.lemmas.List.Elements.{Contains-get_or}
use Rattle.std.proofs.lemmas.List.Sorted.{searchable_from_sorted}
use Rattle.ug_nodes.specs.declared.name.Ticket.{Ticket}
use Rattle.ug_nodes.specs.declared.name.Name.{Name}
use Rattle.ug_nodes.specs.Names.{name_cmp, ticket_cmp}
use Rattle.ug_nodes.proofs.Orders.{name_cmp_total, same_name, same_ticket}
use Rattle.ug_nodes.specs.SortedLines.{AreSorted, fronts}

then_first : (o p : Ordering) → ordering_then o p ≡ Equal → o ≡ Equal
then_first Less p h = h
then_first Equal p h = refl
then_first Greater p h = h

then_second : (o p : Ordering) → ordering_then o p ≡ Equal → p ≡ Equal
then_second Less p h = cc
then_second Equal p h = h
then_second Greater p h = cc

equal_number : (a b : ℕ) → nat_cmp a b ≡ Equal → a ≡ b
equal_number a b h = by_ranked (a < b) (a ≡ b) (b < a) (nat_cmp a b) (ranked a b _ refl)
    (λ e lt. let f : Less ≡ Equal = sym e ∙ h in cc)
    (λ e same. same)
    (λ e gt. let f : Greater ≡ Equal = sym e ∙ h in cc)

equal_ticket : (a b : Ticket) → ticket_cmp a b ≡ Equal → a ≡ b
equal_ticket a b h = same_ticket a b
    (equal_number a.run b.run (then_first _ (nat_cmp a.number b.number) h))
    (equal_number a.number b.number (then_second (nat_cmp a.run b.run) _ h))

equal_name : (a b : Name) → name_cmp a b ≡ Equal → a ≡ b
equal_name a b h = same_name a b
    (equal_ticket a.ticket b.ticket (then_first _ (nat_cmp a.hand b.hand) h))
    (equal_number a.hand b.hand (then_second (ticket_cmp a.ticket b.ticket) _ h))

-- lines that compare as equal are the same
equal_line : (a b : List Name) → slice_cmp name_cmp a b ≡ Equal → a ≡ b
equal_line [] [] h = refl
equal_line [] (y ∷ ys) h = cc
equal_line (x ∷ xs) [] h = cc
equal_line (x ∷ xs) (y ∷ ys) h =
    let first : x ≡ y = equal_name x y (then_first _ (slice_cmp name_cmp xs ys) h) in
    let rest : xs ≡ ys = equal_line xs ys (then_second (name_cmp x y) _ h) in
    subst (λ z. x ∷ xs ≡ z ∷ ys) first (ap (λ zs. x ∷ zs) rest)

-- a line that was found is one of the lines
found : (lines : List (Bor (List Name))) (line : Bor (List Name)) (i : ℕ) → i < length lines
    → slice_cmp name_cmp (get_or lines i line).now line.now ≡ Equal → Contains (fronts lines) line.now
found lines line i h e =
    subst (λ l. Contains (fronts lines) l) (equal_line (get_or lines i line).now line.now e)
    (subst (λ l. Contains (fronts lines) l) (get_or-map (λ (l : Bor (List Name)). l.now) lines i line line.now h)
    (Contains-get_or (fronts lines) i line.now (subst (λ n. i < n) (sym (length-map lines (λ (l : Bor (List Name)). l.now))) h)))

-- one of the lines compares as equal with a line that is among them
same_at : (lines : List (Bor (List Name))) (line : Bor (List Name)) (k : ℕ) → k < length lines
    → get_or (fronts lines) k line.now ≡ line.now → slice_cmp name_cmp (get_or lines k line).now line.now ≡ Equal
same_at lines line k h e =
    let same : (get_or lines k line).now ≡ line.now =
    sym (get_or-map (λ (l : Bor (List Name)). l.now) lines k line line.now h) ∙ e in
    subst (λ l. slice_cmp name_cmp l line.now ≡ Equal) (sym same) (tied_itself (lists_total name_cmp_total) line.now)

less_not_equal : (o : Ordering) → o ≡ Less → o ≡ Equal → ⊥
less_not_equal o e f = let g : Less ≡ Equal = sym e ∙ f in cc

greater_not_equal : (o : Ordering) → o ≡ Greater → o ≡ Equal → ⊥
greater_not_equal o e f = let g : Greater ≡ Equal = sym e ∙ f in cc

-- a line that was not found is not among the lines
not_found : (lines : List (Bor (List Name))) (line : Bor (List Name)) (i k : ℕ)
    → IsPartitionPoint (λ y. slice_cmp name_cmp y.now line.now ≡ Less) (λ y. slice_cmp name_cmp y.now line.now ≡ Greater) lines i
    → k < length lines → slice_cmp name_cmp (get_or lines k line).now line.now ≡ Equal → ⊥
not_found lines line i k parts h e = elim (cases_lt k i) [
  | inl lt ↦ less_not_equal _ (parts.0 k line (omega arith) lt) e
  | inr ge ↦ greater_not_equal _ (parts.1 k line ge h) e
]

-- a search in sorted lines finds exactly those
pub among : (lines : List (Bor (List Name))) (line : Bor (List Name)) (r : Result ℕ ℕ) → AreSorted lines
    → IsSearchInRange r (length lines) → IsBinarySearchResult (λ (y : Bor (List Name)). slice_cmp name_cmp y.now line.now) lines r
    → IsTrue (is_ok r) ↔ Contains (fronts lines) line.now
among lines line (Ok i) sorted within at = ((λ t. found lines line i within (at line)), (λ there. refl))
among lines line (Err i) sorted within at =
    let parts = at (searchable_from_sorted (lists_total name_cmp_total) (λ (l : Bor (List Name)). l.now) lines line.now sorted) in (
      (λ t. absurd (no_ok t)),
      (λ there. absurd (not_found lines line i there.0 parts (in_lines there) (same_at lines line there.0 (in_lines there) there.2))),
    )
  where
    no_ok : IsTrue false → ⊥
    no_ok t = cc

    in_lines : (there : Contains (fronts lines) line.now) → there.0 < length lines
    in_lines there = subst (λ n. there.0 < n) (length-map lines (λ (l : Bor (List Name)). l.now)) there.1
