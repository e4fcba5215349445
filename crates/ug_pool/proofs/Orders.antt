-- The order of entries is total.
use Rattle.std.proofs.Common.{◌≡◌, ◌≤ℤ◌, ◌<ℤ◌, Bool, true, false, refl, sym, ap, ◌∙◌, arith}
use Rattle.std.proofs.lemmas.Int.{ints}
use Rattle.std.proofs.lemmas.Bool.{false≢true}
use Rattle.std.specs.Cmp.{IsTotalOrder}
use Rattle.std.specs.declared.cmp.Ordering.{Ordering}
use Rattle.std.specs.declared.cmp.Ordering.TheVariants.{Less, Equal, Greater}
use Rattle.std.specs.Ordering.{int_cmp, ordering_then, ordering_reverse, is_lt, is_gt}
use Rattle.std.proofs.lemmas.Cmp.{then_total, on_total, int_cmp_total, upto, int_ranked, by_ranked}
use Rattle.ug_nodes.proofs.Orders.{name_cmp_total}
use Rattle.ug_pool.specs.declared.entry.Entry.{Entry}
use Rattle.ug_pool.specs.Pools.{entry_cmp, name_of, is_before}

pub entry_cmp_total : IsTotalOrder entry_cmp
entry_cmp_total = then_total (on_total (λ (e : Entry). e.floor) int_cmp_total) (on_total name_of name_cmp_total)

lt_reverse : (o : Ordering) → is_lt (ordering_reverse o) ≡ is_gt o
lt_reverse Less = refl
lt_reverse Equal = refl
lt_reverse Greater = refl

-- to be before is to be compared as less, from either side
before_gt : (a b : Entry) → is_before a b ≡ is_gt (entry_cmp b a)
before_gt a b = ap is_lt (entry_cmp_total.antisymm a b) ∙ lt_reverse (entry_cmp b a)

-- of three in a row the last is not before the first
pub not_before_along : (a b c : Entry) → is_before b a ≡ false → is_before c b ≡ false → is_before c a ≡ false
not_before_along a b c h k = before_gt c a ∙ upto entry_cmp_total a b c (sym (before_gt b a) ∙ h) (sym (before_gt c b) ∙ k)

-- an entry before another is before each that is not before that one
pub before_along : (a b c : Entry) → is_before a b ≡ true → is_before c b ≡ false → is_before a c ≡ true
before_along a b c h k = by_test (is_before a c) refl
  where
    by_test : (t : Bool) → is_before a c ≡ t → is_before a c ≡ true
    by_test true e = e
    by_test false e = absurd (false≢true (sym (not_before_along b c a k e) ∙ h))

lt_not_gt : (o : Ordering) → is_lt o ≡ true → is_gt o ≡ false
lt_not_gt Less h = refl
lt_not_gt Equal h = refl
lt_not_gt Greater h = sym h

-- of two, not each is before the other
pub one_way : (a b : Entry) → is_before a b ≡ true → is_before b a ≡ false
one_way a b h = before_gt b a ∙ lt_not_gt (entry_cmp a b) h

less_first : (o p : Ordering) → o ≡ Less → is_lt (ordering_then o p) ≡ false → ⊥
less_first Less p e h = cc
less_first Equal p e h = cc
less_first Greater p e h = cc

-- an entry that is not before another has no smaller floor
pub floors_rise : (a b : Entry) → is_before b a ≡ false → a.floor ≤ℤ b.floor
floors_rise a b h = by_ranked (b.floor <ℤ a.floor) (b.floor ≡ a.floor) (a.floor <ℤ b.floor) (int_cmp b.floor a.floor) (int_ranked b.floor a.floor _ refl)
    (λ e lt. absurd (less_first (int_cmp b.floor a.floor) _ e h))
    (λ e same. omega (arith, ints, same))
    (λ e gt. omega (arith, ints, gt))
