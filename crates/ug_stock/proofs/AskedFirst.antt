-- To be asked before another is a strict order; the member asked first of some, and of one more.
use Rattle.std.proofs.Common.{pos, false, inl, inr, List, [], ◌∷◌, ◌++◌, Option, Some, None, ◌∙◌, arith}
use Rattle.std.proofs.lemmas.Int.{ints}
use Rattle.std.proofs.lemmas.List.Elements.{All-push}
use Rattle.ug_stock.proofs.FirstOf.{IsStrict, first_stays, first_changes, first_alone}
use Rattle.ug_rules.specs.declared.member.Member.{Member}
use Rattle.ug_rules.specs.Asking.{CanBeAsked, NoneCanBeAsked, IsAskedBefore, IsAskedFirst, IsAskedFirstIfAny}

-- a member that stands for one that is not there
abbrev pub no_member : Member
no_member = record { rank = 0; «open» = 0; floor = pos 0; collecting = false }

not_ahead_same : (a : Member) → IsAskedBefore a a → ⊥
not_ahead_same a (inl h) = omega (arith, ints)
not_ahead_same a (inr h) = omega (arith, h.1)

ahead_along : (a b c : Member) → IsAskedBefore a b → IsAskedBefore b c → IsAskedBefore a c
ahead_along a b c (inl h) (inl k) = inl (omega (arith, ints))
ahead_along a b c (inl h) (inr k) = inl (omega (arith, ints))
ahead_along a b c (inr h) (inl k) = inl (omega (arith, ints))
ahead_along a b c (inr h) (inr k) = inr (h.0 ∙ k.0, omega (arith, h.1, k.1))

strict : IsStrict IsAskedBefore
strict = record { apart = not_ahead_same; along = ahead_along }

-- a member that cannot be asked changes nothing
pub first_stays_idle : (members : List Member) (best : Option Member) (member : Member)
    → IsAskedFirstIfAny members best → (CanBeAsked member → ⊥)
    → IsAskedFirstIfAny (members ++ member ∷ []) best
first_stays_idle members None member h cannot =
    All-push (λ x. CanBeAsked x → ⊥) members member h cannot
first_stays_idle members (Some before) member h cannot =
    first_stays CanBeAsked IsAskedBefore members before member h (λ can _. cannot can)

-- nor does one that is not asked before the first
pub first_stays_behind : (members : List Member) (before member : Member)
    → IsAskedFirst members before → (IsAskedBefore member before → ⊥) → IsAskedFirst (members ++ member ∷ []) before
first_stays_behind members before member h behind =
    first_stays CanBeAsked IsAskedBefore members before member h (λ _. behind)

-- one that is asked before it is the first
pub first_is_new : (members : List Member) (before member : Member)
    → IsAskedFirst members before → CanBeAsked member → IsAskedBefore member before
    → IsAskedFirst (members ++ member ∷ []) member
first_is_new members before member = first_changes CanBeAsked IsAskedBefore strict members before member

-- and so is one that can be asked where no other can
pub first_is_only : (members : List Member) (member : Member)
    → NoneCanBeAsked members → CanBeAsked member → IsAskedFirst (members ++ member ∷ []) member
first_is_only members member = first_alone CanBeAsked IsAskedBefore strict members member
