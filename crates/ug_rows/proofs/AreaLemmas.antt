-- When an interval is narrower than another, and what follows for boxes below others.
use Rattle.std.proofs.Common.{◌≡◌, ◌≢◌, ℤ, ◌<◌, ◌≤ℤ◌, ◌<ℤ◌, List, refl, sym, subst, ◌∙◌, arith}
use Rattle.std.proofs.lemmas.Int.{ints, by_lt_z}
use Rattle.ug_rows.specs.declared.area.Interval.{Interval}
use Rattle.ug_rows.specs.Boxes.{IsBelow, IsClosedWithin, IsInside, IsNarrower, IsWithin, interval_at, value_at}

itself : (side : Interval) → IsNarrower side side
itself side = record { low = omega (arith, ints); high = omega (arith, ints); open_ = λ ne. absurd (ne refl) }

-- an interval is narrower than itself
pub narrower_same : (inner outer : Interval) → inner ≡ outer → IsNarrower inner outer
narrower_same inner outer e = subst (λ o. IsNarrower inner o) e (itself inner)

-- and than one that it is within, if it has a value
pub narrower_within : (inner outer : Interval) → IsClosedWithin inner outer → IsNarrower inner outer
narrower_within inner outer h = record { low = h.low; high = h.high; open_ = λ _. h.some }

-- than others it is not
pub within_narrower : (inner outer : Interval) → IsNarrower inner outer → inner ≢ outer → IsClosedWithin inner outer
within_narrower inner outer h ne = record { low = h.low; high = h.high; some = h.open_ ne }

within_wider : (inner outer : Interval) (v : ℤ) → IsNarrower inner outer → IsWithin inner v → IsWithin outer v
within_wider inner outer v n w = record { low = omega (arith, ints, n.low, w.low); high = omega (arith, ints, n.high, w.high) }

-- a point of a box below another is in the other
pub inside_below : (inner outer : List Interval) (x : List ℤ) → IsBelow inner outer → IsInside inner x → IsInside outer x
inside_below inner outer x b h = record {
  width = h.width ∙ b.width;
  each = λ j k. within_wider (interval_at inner j) (interval_at outer j) (value_at x j) (b.each j k)
      (h.each j (subst (λ n. j < n) (sym b.width) k));
}

both_ways : (a b : ℤ) → a <ℤ b → b ≤ℤ a → ⊥
both_ways a b h k = omega (arith, ints)

-- an interval that is not the outer has its low at most its high
still_open : (inner mid outer : Interval) → IsNarrower inner mid → IsNarrower mid outer → inner ≢ outer
    → inner.low ≤ℤ inner.high
still_open inner mid outer h k ne = by_lt_z inner.high inner.low
    (λ less. absurd (both_ways inner.high inner.low less
    (h.open_ (λ same. both_ways inner.high inner.low less
    (subst (λ (s : Interval). s.low ≤ℤ s.high) (sym same) (k.open_ (λ e. ne (same ∙ e))))))))
    (λ more. more)

narrower_trans : (inner mid outer : Interval) → IsNarrower inner mid → IsNarrower mid outer → IsNarrower inner outer
narrower_trans inner mid outer h k = record {
  low = omega (arith, ints, h.low, k.low);
  high = omega (arith, ints, h.high, k.high);
  open_ = still_open inner mid outer h k;
}

-- a box below one that is below a third is below the third
pub below_trans : (inner mid outer : List Interval) → IsBelow inner mid → IsBelow mid outer → IsBelow inner outer
below_trans inner mid outer h k = record {
  width = h.width ∙ k.width;
  each = λ j there. narrower_trans _ _ _ (h.each j (subst (λ n. j < n) (sym k.width) there)) (k.each j there);
}

-- a box is below itself
pub below_itself : (area : List Interval) → IsBelow area area
below_itself area = record { width = refl; each = λ j there. narrower_same _ _ refl }
