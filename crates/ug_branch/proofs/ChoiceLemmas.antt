-- Being ahead is an order, and the best of the first columns is the best of one more.
use Rattle.std.proofs.Common.{◌≡◌, ℕ, ℤ, ◌+◌, ◌≤◌, ◌≤ℤ◌, ◌<ℤ◌, List, length, Option, Some, None, sym, subst, inl, inr, arith}
use Rattle.std.proofs.lemmas.Int.{ints}
use Rattle.std.proofs.lemmas.Bool.{cases_eq, cases_lt}
use Rattle.ug_rows.specs.declared.area.Interval.{Interval}
use Rattle.ug_rows.specs.Boxes.{interval_at}
use Rattle.ug_rows.proofs.Orders.{at_most_itself, at_most_trans}
use Rattle.ug_branch.specs.declared.params.Params.{Params}
use Rattle.ug_branch.specs.declared.params.Pick.{Pick}
use Rattle.ug_branch.specs.declared.params.Pick.TheVariants.{Place, Width}
use Rattle.ug_branch.specs.declared.params.End.{End}
use Rattle.ug_branch.specs.declared.params.End.TheVariants.{Lowest, Highest}
use Rattle.ug_branch.specs.declared.choice.Branch.{Branch}
use Rattle.ug_branch.specs.Choices.{width_at, IsOpen, HasNoneOpen, IsNearer, IsAheadBy, IsAhead, IsFirstAhead, IsMiddle, IsChosen, IsBest, IsBestOf}

nearer_same : (end : End) (c : ℕ) → IsNearer end c c
nearer_same Lowest c = omega arith
nearer_same Highest c = omega arith

nearer_along : (end : End) (a b c : ℕ) → IsNearer end a b → IsNearer end b c → IsNearer end a c
nearer_along Lowest a b c h k = omega arith
nearer_along Highest a b c h k = omega arith

-- numbers between two that are the same
same_first : (a b c : ℤ) → c ≤ℤ b → b ≤ℤ a → c ≡ a → b ≡ a
same_first a b c h k e = omega (arith, ints)

same_second : (a b c : ℤ) → c ≤ℤ b → b ≤ℤ a → c ≡ a → c ≡ b
same_second a b c h k e = omega (arith, ints)

ahead_same : (pick : Pick) (end : End) (area : List Interval) (c : ℕ) → IsAheadBy pick end area c c
ahead_same Place end area c = nearer_same end c
ahead_same Width end area c = record { wide = at_most_itself (width_at area c); tie = λ _. nearer_same end c }

ahead_along : (pick : Pick) (end : End) (area : List Interval) (a b c : ℕ) → IsAheadBy pick end area a b → IsAheadBy pick end area b c → IsAheadBy pick end area a c
ahead_along Place end area a b c h k = nearer_along end a b c h k
ahead_along Width end area a b c h k = record {
  wide = at_most_trans (width_at area c) (width_at area b) (width_at area a) k.wide h.wide;
  tie = λ e. nearer_along end a b c
      (h.tie (same_first (width_at area a) (width_at area b) (width_at area c) k.wide h.wide e))
      (k.tie (same_second (width_at area a) (width_at area b) (width_at area c) k.wide h.wide e));
}

not_open : (low high : ℤ) → high ≤ℤ low → low <ℤ high → ⊥
not_open low high h k = omega (arith, ints)

-- a column that is not open changes nothing
pub closed_next : (params : Params) (area : List Interval) (n : ℕ) (best : Option ℕ) → IsBest params area n best
    → (interval_at area n).high ≤ℤ (interval_at area n).low → IsBest params area (n + 1) best
closed_next params area n None h closed = λ j k. elim (cases_eq j n) [
  | inl e ↦ subst (λ m. (interval_at area m).high ≤ℤ (interval_at area m).low) (sym e) closed
  | inr ne ↦ h j (omega (arith, ne, k))
]
closed_next params area n (Some c) h closed = record {
  below = omega (arith, h.below);
  open_ = h.open_;
  ahead = λ j k o. elim (cases_eq j n) [
    | inl e ↦ absurd (not_open _ _ (subst (λ m. (interval_at area m).high ≤ℤ (interval_at area m).low) (sym e) closed) o.open_)
    | inr ne ↦ h.ahead j (omega (arith, ne, k)) o
  ];
}

-- the first open column is the best so far
pub first_open : (params : Params) (area : List Interval) (n : ℕ) → IsBest params area n None → IsOpen area n → IsBestOf params area (n + 1) n
first_open params area n h open_ = record {
  below = omega arith;
  open_ = open_;
  ahead = λ j k o. elim (cases_eq j n) [
    | inl e ↦ subst (λ m. IsAhead params area n m) (sym e) (ahead_same params.pick params.end area n)
    | inr ne ↦ absurd (not_open _ _ (h j (omega (arith, ne, k))) o.open_)
  ];
}

-- the best stays so, if it is ahead of one more
pub best_stays : (params : Params) (area : List Interval) (n c : ℕ) → IsBestOf params area n c → IsAhead params area c n → IsBestOf params area (n + 1) c
best_stays params area n c h a = record {
  below = omega (arith, h.below);
  open_ = h.open_;
  ahead = λ j k o. elim (cases_eq j n) [
    | inl e ↦ subst (λ m. IsAhead params area c m) (sym e) a
    | inr ne ↦ h.ahead j (omega (arith, ne, k)) o
  ];
}

-- one more is the best, if it is ahead of the best
pub best_changes : (params : Params) (area : List Interval) (n c : ℕ) → IsBestOf params area n c → IsOpen area n → IsAhead params area n c → IsBestOf params area (n + 1) n
best_changes params area n c h open_ a = record {
  below = omega arith;
  open_ = open_;
  ahead = λ j k o. elim (cases_eq j n) [
    | inl e ↦ subst (λ m. IsAhead params area n m) (sym e) (ahead_same params.pick params.end area n)
    | inr ne ↦ ahead_along params.pick params.end area n c j a (h.ahead j (omega (arith, ne, k)) o)
  ];
}

-- if each column is ahead of all those behind it, the best so far is the best of all
pub first_wins : (params : Params) (area : List Interval) (n c : ℕ) → IsBestOf params area n c → IsFirstAhead params → n ≤ length area → IsBestOf params area (length area) c
first_wins params area n c h first within = record {
  below = omega (arith, h.below, within);
  open_ = h.open_;
  ahead = λ j k o. elim (cases_lt j n) [
    | inl less ↦ h.ahead j less o
    | inr more ↦ first area c j (omega (arith, h.below, more))
  ];
}

-- the best of this many columns or more is the best of all
pub best_of_all : (params : Params) (area : List Interval) (n : ℕ) (best : Option ℕ) → IsBest params area n best → length area ≤ n
    → IsBest params area (length area) best
best_of_all params area n None h all = λ j k. h j (omega (arith, k, all))
best_of_all params area n (Some c) h all = record {
  below = h.open_.there;
  open_ = h.open_;
  ahead = λ j k o. h.ahead j (omega (arith, k, all)) o;
}

-- the best of all columns, with its middle, is chosen
pub is_chosen : (params : Params) (area : List Interval) (c : ℕ) (branch : Branch) → IsBestOf params area (length area) c
    → branch.column ≡ c → IsMiddle (interval_at area c) branch.middle → IsChosen params area branch
is_chosen params area c branch h e m = record {
  open_ = subst (λ k. IsOpen area k) (sym e) h.open_;
  ahead = λ k o. subst (λ j. IsAhead params area j k) (sym e) (h.ahead k o.there o);
  middle = subst (λ k. IsMiddle (interval_at area k) branch.middle) (sym e) m;
}

-- a box with an open column is not fixed
pub is_not_fixed : (area : List Interval) (c : ℕ) → IsOpen area c → HasNoneOpen area → ⊥
is_not_fixed area c o f = not_open _ _ (f c o.there) o.open_
