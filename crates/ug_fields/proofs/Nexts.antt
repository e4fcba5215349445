-- Lines of a list of fields, each the front of what is to come.
use Rattle.std.proofs.Common.{◌≡◌, ℕ, suc, ◌+◌, ◌<◌, ◌≤◌, List, [], ◌++◌, length, drop, get_or, append_assoc, sym, ◌∙◌, ap, subst, arith}
use Rattle.std.specs.List.{flat_map}
use Rattle.std.proofs.lemmas.List.{append-nil, get_or_default, drop_all}
use Rattle.std.proofs.Math.Seq.{drop-cons}
use Rattle.ug_fields.specs.Lines.{IsNextLine}

-- the piece is what is to come first, and has bytes
pub put_next : (rest piece line after : List ℕ) → line ≡ piece → rest ≡ piece ++ after
    → 0 < length piece → IsNextLine rest line after
put_next rest piece line after same parts some = record {
  parts = parts ∙ ap (λ p. p ++ after) (sym same);
  last = λ none. absurd (omega (arith, some, ap length (sym same ∙ none)));
}

pub same_next : (rest other line after : List ℕ) → rest ≡ other → IsNextLine other line after
    → IsNextLine rest line after
same_next rest other line after same next = record {
  parts = same ∙ next.parts;
  last = next.last;
}

-- nothing is to come
pub none_next : (rest line after : List ℕ) → line ≡ [] → rest ≡ [] → after ≡ []
    → IsNextLine rest line after
none_next rest line after empty none behind = record {
  parts = none ∙ sym behind ∙ ap (λ l. l ++ after) (sym empty);
  last = λ l. behind;
}

-- the same where nothing follows
pub bare_next : (rest line after : List ℕ) → IsNextLine (rest ++ []) line (after ++ [])
    → IsNextLine rest line after
bare_next rest line after next = record {
  parts = sym (append-nil rest) ∙ next.parts ∙ ap (λ r. line ++ r) (append-nil after);
  last = λ none. sym (append-nil after) ∙ next.last none;
}

one_more : (k : ℕ) → suc k ≡ k + 1
one_more k = omega arith

-- the fields of a list from one of its items on
pub item : {X : Type 0} → (f : X → List ℕ) (xs : List X) (k : ℕ) (x : X) (behind : List ℕ)
    → k < length xs → x ≡ get_or xs k x
    → flat_map f (drop k xs) ++ behind ≡ f x ++ (flat_map f (drop (k + 1) xs) ++ behind)
item f xs k x behind here is =
    ap (λ ys. flat_map f ys ++ behind) (drop-cons xs k x here)
    ∙ ap (λ y. f y ++ flat_map f (drop (suc k) xs) ++ behind) (sym is)
    ∙ append_assoc (f x) (flat_map f (drop (suc k) xs)) behind
    ∙ ap (λ n. f x ++ (flat_map f (drop n xs) ++ behind)) (one_more k)

-- the fields of a list from its end on
pub past : {X : Type 0} → (f : X → List ℕ) (xs : List X) (k : ℕ) (behind : List ℕ)
    → length xs ≤ k → flat_map f (drop k xs) ++ behind ≡ behind
past f xs k behind over = ap (λ ys. flat_map f ys ++ behind) (drop_all k xs over)

-- a list that was lent, which is this one
module _ {X : Type 0} (xs ys : List X) (same : xs ≡ ys) (k : ℕ) where
  pub over : length xs ≤ k → length ys ≤ k
  over h = subst (λ (zs : List X). length zs ≤ k) same h

  pub here : k < length xs → k < length ys
  here h = subst (λ (zs : List X). k < length zs) same h

  pub own : (x : X) → x ≡ get_or xs k x → x ≡ get_or ys k x
  own x is = is ∙ ap (λ (zs : List X). get_or zs k x) same

  -- an item that was lent is that of the list, whatever stands for one that is not there
  pub lent : (x d : X) → k < length xs → x ≡ get_or xs k x → x ≡ get_or ys k d
  lent x d there is = own x is ∙ get_or_default ys k x d (here there)

module _ {X : Type 0} (f : X → List ℕ) (xs ys : List X) (same : xs ≡ ys) (k : ℕ) where
  -- behind the last item comes what follows the list
  pub past_next : (behind line after : List ℕ) → length xs ≤ k → IsNextLine behind line after
      → IsNextLine (flat_map f (drop k ys) ++ behind) line after
  past_next behind line after h next =
      same_next (flat_map f (drop k ys) ++ behind) behind line after
      (past f ys k behind (over xs ys same k h)) next

  -- the line of an item that was lent
  pub item_next : (behind line : List ℕ) (x : X) → k < length xs → x ≡ get_or xs k x → line ≡ f x
      → 0 < length (f x)
      → IsNextLine (flat_map f (drop k ys) ++ behind) line (flat_map f (drop (k + 1) ys) ++ behind)
  item_next behind line x there is spelled some =
      put_next (flat_map f (drop k ys) ++ behind) (f x) line
      (flat_map f (drop (k + 1) ys) ++ behind) spelled
      (item f ys k x behind (here xs ys same k there) (own xs ys same k x is)) some

  -- the line of an item, whatever stands for one that is not there
  pub place_next : (behind line : List ℕ) (d : X) → k < length xs → line ≡ f (get_or xs k d)
      → 0 < length (f (get_or ys k d))
      → IsNextLine (flat_map f (drop k ys) ++ behind) line (flat_map f (drop (k + 1) ys) ++ behind)
  place_next behind line d there spelled some =
      let inside = here xs ys same k there in
      put_next (flat_map f (drop k ys) ++ behind) (f (get_or ys k d)) line
      (flat_map f (drop (k + 1) ys) ++ behind)
      (spelled ∙ ap (λ (zs : List X). f (get_or zs k d)) same)
      (item f ys k (get_or ys k d) behind inside
      (get_or_default ys k d (get_or ys k d) inside)) some
