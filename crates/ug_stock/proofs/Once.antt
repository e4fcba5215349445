-- One thing alone is needed.
use Rattle.std.proofs.Common.{◌≡◌, ℕ, ◌+◌, ◌<◌, ◌≤◌, Bool, true, false, IsTrue, inl, inr, List, refl, sym, ap, ◌∙◌, arith}
use Rattle.std.proofs.lemmas.List.Elements.{All-contains}
use Rattle.ug_stock.proofs.Numbers.{same_int, same_nat}
use Rattle.ug_stock.proofs.FirstOf.{first_not_ahead, none_first}
use Rattle.ug_rules.specs.declared.member.Member.{Member}
use Rattle.ug_rules.specs.declared.demand.Wanted.{Wanted}
use Rattle.ug_rules.specs.declared.demand.Wanted.TheVariants.{Ask, Enough, Nothing}
use Rattle.ug_rules.specs.Asking.{CanBeAsked, IsAskedBefore, IsFirstRank, NoneCanBeAsked, IsAnyCollecting, IsNoneCollecting}
use Rattle.ug_rules.specs.Wants.{IsWanted}

same_rank : (a b : Member) → (IsAskedBefore a b → ⊥) → (IsAskedBefore b a → ⊥) → a.rank ≡ b.rank
same_rank a b h k =
    let floors : a.floor ≡ b.floor = same_int a.floor b.floor (λ l. h (inl l)) (λ l. k (inl l)) in
    same_nat a.rank b.rank (λ l. h (inr (floors, l))) (λ l. k (inr (sym floors, l)))

one_first : (members : List Member) (one other : ℕ)
    → IsFirstRank members one → IsFirstRank members other → one ≡ other
one_first members one other h k =
    sym h.named
    ∙ (same_rank h.member k.member
    (first_not_ahead CanBeAsked IsAskedBefore members h.member k.member h.first k.first)
    (first_not_ahead CanBeAsked IsAskedBefore members k.member h.member k.first h.first)
    ∙ k.named)

one_count : (len high one other : ℕ) → len + one ≡ high → len + other ≡ high → one ≡ other
one_count len high one other h k = omega arith

apart : (len low high : ℕ) → low ≤ high → len < low → high ≤ len → ⊥
apart len low high h k l = omega arith

not_both : (b : Bool) → IsTrue b → b ≡ false → ⊥
not_both true h e = cc
not_both false h e = cc

some_or_none : (members : List Member) → IsAnyCollecting members → IsNoneCollecting members → ⊥
some_or_none members h k =
    not_both h.1.collecting h.4
    (All-contains (λ member. member.collecting ≡ false) members h.1 k (h.0, h.2, h.3))

ask_or_nothing : (members : List Member) (rank : ℕ)
    → IsFirstRank members rank → NoneCanBeAsked members → ⊥
ask_or_nothing members rank h none = none_first CanBeAsked IsAskedBefore members h.member none h.first

pub wanted_once : (len low high : ℕ) (members : List Member) (one other : Wanted) → low ≤ high
    → IsWanted len low high members one → IsWanted len low high members other → one ≡ other
wanted_once len low high members (Ask r n) (Ask s m) marks h k =
    ap (λ x. Ask x n) (one_first members r s h.first k.first)
    ∙ ap (λ x. Ask s x) (one_count len high n m h.up_to_high k.up_to_high)
wanted_once len low high members (Ask r n) (Enough ys) marks h k =
    absurd (apart len low high marks h.few k.full.many)
wanted_once len low high members (Ask r n) Nothing marks h k =
    absurd (ask_or_nothing members r h.first (k.few h.few))
wanted_once len low high members (Enough xs) (Ask s m) marks h k =
    absurd (apart len low high marks k.few h.full.many)
wanted_once len low high members (Enough xs) (Enough ys) marks h k =
    ap (λ zs. Enough zs) (h.all ∙ sym k.all)
wanted_once len low high members (Enough xs) Nothing marks h k =
    absurd (some_or_none members h.full.some (k.many h.full.many))
wanted_once len low high members Nothing (Ask s m) marks h k =
    absurd (ask_or_nothing members s k.first (h.few k.few))
wanted_once len low high members Nothing (Enough ys) marks h k =
    absurd (some_or_none members k.full.some (h.many k.full.many))
wanted_once len low high members Nothing Nothing marks h k = refl
