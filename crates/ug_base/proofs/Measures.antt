-- How many points a box has, its branches and a box below it, and what is left to search.
use Rattle.std.proofs.Common.{◌≡◌, ℕ, zero, suc, ℤ, pos, negsuc, ◌+◌, ◌-◌, ◌*◌, ◌+ℤ◌, ◌-ℤ◌, ◌<◌, ◌≤◌, ◌≤ℤ◌, ◌<ℤ◌, List, [], ◌∷◌, ◌++◌, length, slice_set, refl, sym, ap, ◌∙◌, arith}
use Rattle.std.proofs.Math.Nat.{add-mul, mul-add, mul-le-mul}
use Rattle.std.proofs.lemmas.Int.{ints}
use Rattle.ug_rows.specs.declared.area.Interval.{Interval}
use Rattle.ug_rows.specs.Boxes.{IsBelow, IsNarrower, IsNonEmpty, interval_at}
use Rattle.ug_base.specs.Points.{count_of, measure_of, nat_part, points_of, weight_of}

nat_part_rises : (a b : ℤ) → a ≤ℤ b → nat_part a ≤ nat_part b
nat_part_rises (pos a) (pos b) h = omega (arith, ints, h)
nat_part_rises (pos a) (negsuc b) h = absurd (omega (arith, ints, h))
nat_part_rises (negsuc a) (pos b) h = omega arith
nat_part_rises (negsuc a) (negsuc b) h = omega arith

nat_part_is : (z : ℤ) → pos 0 ≤ℤ z → pos (nat_part z) ≡ z
nat_part_is (pos n) h = refl
nat_part_is (negsuc n) h = absurd (omega (arith, ints))

count_rises : (inner outer : Interval) → IsNarrower inner outer → count_of inner ≤ count_of outer
count_rises inner outer h = nat_part_rises (inner.high -ℤ inner.low +ℤ pos 1) (outer.high -ℤ outer.low +ℤ pos 1) (omega (arith, ints, h.low, h.high))

-- a box below another has at most its points
pub points_below : (inner outer : List Interval) → IsBelow inner outer → points_of inner ≤ points_of outer
points_below [] [] h = omega arith
points_below [] (o ∷ os) h = absurd (omega (arith, h.width))
points_below (i ∷ is) [] h = absurd (omega (arith, h.width))
points_below (i ∷ is) (o ∷ os) h =
    let rest : IsBelow is os = record { width = omega (arith, h.width); each = λ j there. h.each (suc j) (omega (arith, there)) } in
    mul-le-mul (count_rises i o (h.each 0 (omega arith))) (points_below is os rest)

-- an interval that has a value
count_some : (side : Interval) → side.low ≤ℤ side.high → 1 ≤ count_of side
count_some side h =
    let is = nat_part_is (side.high -ℤ side.low +ℤ pos 1) (omega (arith, ints, h)) in
    omega (arith, ints, is, h)

product_some : (a b : ℕ) → 1 ≤ a → 1 ≤ b → 1 ≤ a * b
product_some a b h k = mul-le-mul h k

points_some : (area : List Interval) → IsNonEmpty area → 1 ≤ points_of area
points_some [] n = omega arith
points_some (side ∷ sides) n =
    product_some (count_of side) (points_of sides) (count_some side (n 0 (omega arith))) (points_some sides (λ j there. n (suc j) (omega (arith, there))))

-- a box with another side that has a value
pub points_set_some : (area : List Interval) (c : ℕ) (side : Interval) → IsNonEmpty area → side.low ≤ℤ side.high → 1 ≤ points_of (slice_set area c side)
points_set_some [] c side n h = omega arith
points_set_some (first ∷ sides) zero side n h =
    product_some (count_of side) (points_of sides) (count_some side h) (points_some sides (λ j there. n (suc j) (omega (arith, there))))
points_set_some (first ∷ sides) (suc c) side n h =
    product_some (count_of first) (points_of (slice_set sides c side)) (count_some first (n 0 (omega arith)))
    (points_set_some sides c side (λ j there. n (suc j) (omega (arith, there))) h)

-- the values of two branches are those of the interval
pub count_halves : (low high m : ℤ) → low ≤ℤ m → m <ℤ high
    → nat_part (m -ℤ low +ℤ pos 1) + nat_part (high -ℤ (m +ℤ pos 1) +ℤ pos 1) ≡ nat_part (high -ℤ low +ℤ pos 1)
count_halves low high m a b =
    let l = nat_part_is (m -ℤ low +ℤ pos 1) (omega (arith, ints, a)) in
    let u = nat_part_is (high -ℤ (m +ℤ pos 1) +ℤ pos 1) (omega (arith, ints, b)) in
    let s = nat_part_is (high -ℤ low +ℤ pos 1) (omega (arith, ints, a, b)) in
    omega (arith, ints, l, u, s)

-- the points of two branches are those of the box
pub points_halves : (area : List Interval) (c : ℕ) (lower upper : Interval) → c < length area
    → count_of lower + count_of upper ≡ count_of (interval_at area c)
    → points_of (slice_set area c lower) + points_of (slice_set area c upper) ≡ points_of area
points_halves [] c lower upper there h = absurd (omega (arith, there))
points_halves (side ∷ sides) zero lower upper there h =
    sym (add-mul (count_of lower) (count_of upper) (points_of sides)) ∙ ap (λ n. n * points_of sides) h
points_halves (side ∷ sides) (suc c) lower upper there h =
    sym (mul-add (count_of side) (points_of (slice_set sides c lower)) (points_of (slice_set sides c upper)))
    ∙ ap (λ n. count_of side * n) (points_halves sides c lower upper (omega (arith, there)) h)

-- two numbers, each at least 1, that are at most a third in all
pub weights_fall : (l u inner area : ℕ) → l + u ≡ inner → 1 ≤ l → 1 ≤ u → inner ≤ area
    → (1 + (2 * l - 2)) + (1 + (2 * u - 2)) < 1 + (2 * area - 2)
weights_fall l u inner area e a b h = omega (arith, e, a, b, h)

-- one box more
pub measure_push : (boxes : List (List Interval)) (area : List Interval) → measure_of (boxes ++ area ∷ []) ≡ measure_of boxes + weight_of area
measure_push [] area = omega arith
measure_push (first ∷ boxes) area = omega (arith, measure_push boxes area)

-- and two
pub measure_push_two : (boxes : List (List Interval)) (a b : List Interval) → measure_of (boxes ++ a ∷ b ∷ []) ≡ measure_of boxes + (weight_of a + weight_of b)
measure_push_two [] a b = omega arith
measure_push_two (first ∷ boxes) a b = omega (arith, measure_push_two boxes a b)
