-- The first of a list is the first of one element more, or that one is, if to be ahead is a strict
-- order.
use Rattle.std.proofs.Common.{List, [], ◌∷◌, ◌++◌, All, Contains, refl, arith}
use Rattle.std.proofs.lemmas.List.Elements.{All-push, All-weaker, All-contains, Contains-append_left, Contains-append_right}
use Rattle.ug_rules.specs.Firsts.{IsNotAhead, IsFirstBy}

-- nothing is ahead of itself, and what is ahead of another is ahead of what that one is ahead of
pub record IsStrict {X : Type 0} (Ahead : X → X → Type 0) : Type 0 where
  pub apart : (x : X) → Ahead x x → ⊥
  pub along : (x y z : X) → Ahead x y → Ahead y z → Ahead x z

contains_last : {X : Type 0} (xs : List X) (x : X) → Contains (xs ++ x ∷ []) x
contains_last xs x = Contains-append_right xs (x ∷ []) x (0, omega arith, refl)

-- an element that is not ahead changes nothing
pub first_stays : {X : Type 0} (Can : X → Type 0) (Ahead : X → X → Type 0) (xs : List X) (first x : X)
    → IsFirstBy Can Ahead xs first → IsNotAhead Can Ahead first x → IsFirstBy Can Ahead (xs ++ x ∷ []) first
first_stays Can Ahead xs first x h behind = record {
  among = Contains-append_left xs (x ∷ []) first h.among;
  can = h.can;
  none_ahead = All-push (IsNotAhead Can Ahead first) xs x h.none_ahead behind;
}

-- one that is ahead of the first is the first
pub first_changes : {X : Type 0} (Can : X → Type 0) (Ahead : X → X → Type 0) (strict : IsStrict Ahead)
    (xs : List X) (first x : X)
    → IsFirstBy Can Ahead xs first → Can x → Ahead x first → IsFirstBy Can Ahead (xs ++ x ∷ []) x
first_changes Can Ahead strict xs first x h can ahead = record {
  among = contains_last xs x;
  can = can;
  none_ahead = All-push (IsNotAhead Can Ahead x) xs x
      (All-weaker (IsNotAhead Can Ahead first) (IsNotAhead Can Ahead x)
      (λ y behind has more. behind has (strict.along y x first more ahead)) xs h.none_ahead)
      (λ _. strict.apart x);
}

-- one that can be picked, after those that cannot, is the first
pub first_alone : {X : Type 0} (Can : X → Type 0) (Ahead : X → X → Type 0) (strict : IsStrict Ahead)
    (xs : List X) (x : X) → All (λ y. Can y → ⊥) xs → Can x → IsFirstBy Can Ahead (xs ++ x ∷ []) x
first_alone Can Ahead strict xs x none can = record {
  among = contains_last xs x;
  can = can;
  none_ahead = All-push (IsNotAhead Can Ahead x) xs x
      (All-weaker (λ y. Can y → ⊥) (IsNotAhead Can Ahead x) (λ y cannot has _. cannot has) xs none)
      (λ _. strict.apart x);
}

-- of two firsts of one list none is ahead of the other
pub first_not_ahead : {X : Type 0} (Can : X → Type 0) (Ahead : X → X → Type 0) (xs : List X) (one other : X)
    → IsFirstBy Can Ahead xs one → IsFirstBy Can Ahead xs other → Ahead one other → ⊥
first_not_ahead Can Ahead xs one other h k =
    All-contains (IsNotAhead Can Ahead other) xs one k.none_ahead h.among h.can

-- if none can be picked there is no first
pub none_first : {X : Type 0} (Can : X → Type 0) (Ahead : X → X → Type 0) (xs : List X) (x : X)
    → All (λ y. Can y → ⊥) xs → IsFirstBy Can Ahead xs x → ⊥
none_first Can Ahead xs x none h = All-contains (λ y. Can y → ⊥) xs x none h.among h.can
