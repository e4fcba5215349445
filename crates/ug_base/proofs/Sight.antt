-- What a look at a box sees.
use Rattle.std.proofs.Common.{◌≡◌, ℕ, ℤ, pos, ◌+◌, ◌+ℤ◌, ◌*ℤ◌, ◌<◌, ◌≤◌, ◌^◌, ◌≤ℤ◌, ◌<ℤ◌, ◌⊎◌, inl, inr, List, [], ◌∷◌, length, Option, Some, None, Ok, refl, sym, subst, ◌∙◌, arith}
use Rattle.std.proofs.lemmas.Int.{ints, by_lt_z}
use Rattle.std.proofs.lemmas.List.{ext_get_or, get_or-map, length-map}
use Rattle.ug_rows.specs.declared.area.Interval.{Interval}
use Rattle.ug_rows.specs.Boxes.{IsBelow, IsInside, IsNonEmpty, interval_at, no_interval, value_at, IsCrossed, IsFixed}
use Rattle.ug_problem.specs.Instances.{Instance, bounds_of}
use Rattle.ug_branch.specs.declared.params.Params.{Params}
use Rattle.ug_branch.specs.declared.params.Half.{Half}
use Rattle.ug_branch.specs.declared.params.Half.TheVariants.{Lower, Upper}
use Rattle.ug_branch.specs.declared.choice.Branch.{Branch}
use Rattle.ug_branch.specs.Choices.{lower_half, upper_half, HasNoneOpen}
use Rattle.ug_propagate.specs.declared.tight.Tight.TheVariants.{Kept, Empty}
use Rattle.ug_propagate.specs.declared.tight.Reason.{Reason}
use Rattle.ug_propagate.specs.Claims.{CanTighten, IsTightened}
use Rattle.ug_propagate.specs.declared.tight.Tight.{Tight}
use Rattle.ug_propagate.specs.Rounds.{crossed, last_round, rounds_of}
use Rattle.ug_propagate.specs.Working.{IsWorking, WorkState}
use Rattle.ug_propagate.proofs.Answers.{told_tightened}
use Rattle.ug_propagate.proofs.Bodies.{rounds_none, rounds_some}
use Rattle.ug_problem.specs.declared.column.NamedRow.{NamedRow}
use Rattle.ug_base.specs.declared.evaluation.Seen.{Seen}
use Rattle.ug_base.specs.declared.evaluation.Seen.TheVariants.{Hopeless, Solved, Branched}
use Rattle.ug_base.specs.Points.{points_of, weight_of}
use Rattle.ug_base.specs.Steps.{IsHopeless}
use Rattle.ug_base.specs.declared.branching.Branching.{Branching}
use Rattle.ug_base.specs.Branchings.{IsMidway, first_half, other_half}
use Rattle.ug_base.specs.Evaluations.{AreBranched, CanEvaluate, Halves, IsBranched, IsInSight, IsOnly, IsSeen, IsSeenBranched, IsSeenSplit, halves_at, IsSeenHopeless, IsSeenSolved, lows_of}
use Rattle.ug_rows.proofs.AreaLemmas.{below_trans}
use Rattle.ug_base.proofs.Measures.{count_halves, points_below, points_halves, points_set_some, weights_fall}

one_value : (low high : ℤ) → low ≤ℤ high → high ≤ℤ low → low ≡ high
one_value low high a b = omega (arith, ints)

between : (low high v : ℤ) → low ≡ high → low ≤ℤ v → v ≤ℤ high → v ≡ low
between low high v e a b = omega (arith, ints, e, a, b)

crossed_has_none : (low high v : ℤ) → high <ℤ low → low ≤ℤ v → v ≤ℤ high → ⊥
crossed_has_none low high v a b c = omega (arith, ints)

-- the low of column j
low_at : (area : List Interval) (j : ℕ) → j < length area → value_at (lows_of area) j ≡ (interval_at area j).low
low_at area j there = get_or-map (λ (side : Interval). side.low) area j no_interval (pos 0) there

-- a box with a point and no open column has the point of its lows alone
pub only_point : (area : List Interval) → IsNonEmpty area → HasNoneOpen area → IsOnly area (lows_of area)
only_point area some closed = record {
  fixed = λ j there. one_value _ _ (some j there) (closed j there);
  point = record {
    width = length-map area (λ (side : Interval). side.low);
    each = λ j there. record {
      low = subst (λ v. (interval_at area j).low ≤ℤ v) (sym (low_at area j there)) (omega (arith, ints));
      high = subst (λ v. v ≤ℤ (interval_at area j).high) (sym (low_at area j there)) (some j there);
    };
  };
}

-- two points of a box with one are one
pub same_point : (area : List Interval) (x y : List ℤ) → IsFixed area → IsInside area x → IsInside area y → y ≡ x
same_point area x y fixed h k = ext_get_or (pos 0) y x (k.width ∙ sym h.width)
    (λ j lt. let there : j < length area = subst (λ n. j < n) k.width lt in
    between _ _ (value_at y j) (fixed j there) (k.each j there).low (k.each j there).high
    ∙ sym (between _ _ (value_at x j) (fixed j there) (h.each j there).low (h.each j there).high))

-- a box with a column that has its low above its high has no point
pub no_point : (area : List Interval) (x : List ℤ) → IsCrossed area → IsInside area x → ⊥
no_point area x c h = crossed_has_none _ _ (value_at x c.0) c.2 (h.each c.0 c.1).low (h.each c.0 c.1).high

-- a box of a problem may be tightened
pub can_tighten : (p : Instance) (cutoff : Option ℤ) (area : List Interval) → CanEvaluate p cutoff area → CanTighten p cutoff area
can_tighten p cutoff area can = record { width = can.below.width ∙ length-map p.columns bounds_of; small = can.small }

both_ways : (a b : ℤ) → a <ℤ b → b ≤ℤ a → ⊥
both_ways a b h k = omega (arith, ints)

no_cross : (area : List Interval) → IsNonEmpty area → IsCrossed area → ⊥
no_cross area n c = both_ways _ _ c.2 (n c.0 c.1)

crossed_is : (rows : List NamedRow) (cutoff : Option ℤ) (area : List Interval) → IsCrossed area → IsHopeless (crossed rows cutoff area)
crossed_is [] None area c = c
crossed_is [] (Some cutoff) area c = tt
crossed_is (row ∷ rows) cutoff area c = tt

-- nothing is left of the box
pub nothing_left : (p : Instance) (cutoff : Option ℤ) (area : List Interval) (reason : Reason)
    → IsTightened p cutoff area (Empty reason) → IsSeenHopeless p cutoff area
nothing_left p cutoff area reason t = record { hopeless = subst IsHopeless t.value tt; none = t.kept }

-- the rest has no point
left_crossed : (p : Instance) (cutoff : Option ℤ) (area inner : List Interval)
    → IsTightened p cutoff area (Kept inner) → IsCrossed inner → IsSeenHopeless p cutoff area
left_crossed p cutoff area inner t c = record {
  hopeless = subst IsHopeless t.value c;
  none = λ x h g. no_point inner x c (t.kept x h g);
}

-- one point is left
left_one : (p : Instance) (cutoff : Option ℤ) (area inner : List Interval) (x : List ℤ)
    → CanEvaluate p cutoff area → IsTightened p cutoff area (Kept inner) → IsOnly inner x → IsSeenSolved p cutoff area x
left_one p cutoff area inner x r t o = record {
  inner = inner;
  left = sym t.value;
  below = t.below;
  fixed = o.fixed;
  point = o.point;
  keeps = t.kept;
  only = record {
    good = t.fixed (below_trans _ _ _ t.below r.below) o.fixed x o.point;
    alone = λ y h g. same_point inner x y o.fixed o.point (t.kept y h g);
  };
}

-- the middle of an open interval is from its low to below its high
pub middle_low : (low high m : ℤ) → low <ℤ high → (low +ℤ high) <ℤ ((pos 2 *ℤ m) +ℤ pos 2) → low ≤ℤ m
middle_low low high m o h = omega (arith, ints)

pub middle_high : (low high m : ℤ) → low <ℤ high → (pos 2 *ℤ m) ≤ℤ (low +ℤ high) → m <ℤ high
middle_high low high m o h = omega (arith, ints)

next_within : (m high : ℤ) → m <ℤ high → (m +ℤ pos 1) ≤ℤ high
next_within m high h = omega (arith, ints)

-- the branches leave less to search than the box
halves_less : (inner area : List Interval) (branch : Branch) → IsNonEmpty inner → IsMidway inner branch
    → IsBelow inner area → weight_of (lower_half inner branch) + weight_of (upper_half inner branch) < weight_of area
halves_less inner area branch some chosen below =
    let side = interval_at inner branch.column in
    let low : side.low ≤ℤ branch.middle = middle_low side.low side.high branch.middle chosen.open_.open_ chosen.middle.high in
    let high : branch.middle <ℤ side.high = middle_high side.low side.high branch.middle chosen.open_.open_ chosen.middle.low in
    weights_fall (points_of (lower_half inner branch)) (points_of (upper_half inner branch)) (points_of inner) (points_of area)
    (points_halves inner branch.column _ _ chosen.open_.there (count_halves side.low side.high branch.middle low high))
    (points_set_some inner branch.column _ some low)
    (points_set_some inner branch.column _ some (next_within branch.middle side.high high))
    (points_below inner area below)

-- the branches in their order
ordered_kept : (half : Half) (inner : List Interval) (branch : Branch) (y : List ℤ) → IsInside (lower_half inner branch) y ⊎ IsInside (upper_half inner branch) y
    → IsInside (first_half half inner branch) y ⊎ IsInside (other_half half inner branch) y
ordered_kept Lower inner branch y h = h
ordered_kept Upper inner branch y h = elim h [ inl a ↦ inr a | inr b ↦ inl b ]

ordered_first : (half : Half) (inner : List Interval) (branch : Branch) (P : List Interval → Type 0) → P (lower_half inner branch) → P (upper_half inner branch)
    → P (first_half half inner branch)
ordered_first Lower inner branch P l u = l
ordered_first Upper inner branch P l u = u

ordered_other : (half : Half) (inner : List Interval) (branch : Branch) (P : List Interval → Type 0) → P (lower_half inner branch) → P (upper_half inner branch)
    → P (other_half half inner branch)
ordered_other Lower inner branch P l u = u
ordered_other Upper inner branch P l u = l

ordered_less : (half : Half) (inner : List Interval) (branch : Branch) (n : ℕ) → weight_of (lower_half inner branch) + weight_of (upper_half inner branch) < n
    → weight_of (other_half half inner branch) + weight_of (first_half half inner branch) < n
ordered_less Lower inner branch n h = omega (arith, h)
ordered_less Upper inner branch n h = h

-- branches are left
left_halves : (p : Instance) (cutoff : Option ℤ) (params : Params) (area inner : List Interval) (halves : Halves)
    → IsTightened p cutoff area (Kept inner) → AreBranched params inner halves → IsSeenSplit p cutoff params area halves
left_halves p cutoff params area inner halves t h =
    let half = h.branching.first in
    let branch = h.branching.branch in
    let lower : IsBelow (lower_half inner branch) area = below_trans _ _ _ h.open_boxes.lower t.below in
    let upper : IsBelow (upper_half inner branch) area = below_trans _ _ _ h.open_boxes.upper t.below in
    record {
      inner = inner;
      left = sym t.value;
      some = h.some;
      branching = h.branching;
      may = h.may;
      ordered = h.ordered;
      good = record {
        below_first = subst (λ a. IsBelow a area) (sym h.ordered.first) (ordered_first half inner branch (λ a. IsBelow a area) lower upper);
        below_second = subst (λ a. IsBelow a area) (sym h.ordered.second) (ordered_other half inner branch (λ a. IsBelow a area) lower upper);
        kept = λ y i g. rw (h.ordered.first, h.ordered.second) (ordered_kept half inner branch y ((h.open_boxes.halves y).0 (t.kept y i g)));
      };
      less = subst (λ a. weight_of a + weight_of halves.first < weight_of area) (sym h.ordered.second)
          (subst (λ b. weight_of (other_half half inner branch) + weight_of b < weight_of area) (sym h.ordered.first)
          (ordered_less half inner branch (weight_of area) (halves_less inner area branch h.some h.midway t.below)));
    }

-- the branches at a branch
branch_halves : (p : Instance) (cutoff : Option ℤ) (params : Params) (area : List Interval) (work : WorkState) (branching : Branching)
    → IsTightened p cutoff area (Kept work.sums.area) → IsWorking p cutoff work → IsBranched params work.sums.area branching
    → IsSeenBranched p cutoff params area work branching
branch_halves p cutoff params area work branching t working h = record {
  halved = left_halves p cutoff params area work.sums.area (halves_at branching.first work.sums.area branching.branch) t (record {
    some = h.some;
    branching = branching;
    may = h.may;
    midway = h.midway;
    open_boxes = h.open_boxes;
    ordered = record { first = refl; second = refl };
  });
  branched = h;
  left = sym t.value;
  keeps = t.kept;
  below = t.below;
  working = working;
}

-- each point in the rest of a box is a point of the box
pub seen_inside : (p : Instance) (cutoff : Option ℤ) (params : Params) (area : List Interval) (work : WorkState) (seen : Seen)
    → CanEvaluate p cutoff area → IsTightened p cutoff area (Kept work.sums.area) → IsWorking p cutoff work
    → IsInSight params work.sums.area seen → IsSeen p cutoff params area work seen
seen_inside p cutoff params area work (Hopeless reason) r t w s = left_crossed p cutoff area work.sums.area t s
seen_inside p cutoff params area work (Solved x) r t w s = left_one p cutoff area work.sums.area x r t s
seen_inside p cutoff params area work (Branched branching) r t w s = branch_halves p cutoff params area work branching t w s

-- what the rounds leave of a box with a point
pub tightened_as : (p : Instance) (cutoff : Option ℤ) (area : List Interval) (tight : Tight) → CanEvaluate p cutoff area → IsNonEmpty area
    → tight ≡ last_round p cutoff (rounds_of 32 p cutoff (Kept area)) → IsTightened p cutoff area tight
tightened_as p cutoff area tight can some e =
    told_tightened {E = ℕ} p cutoff area (Ok tight) can.problem (can_tighten p cutoff area can) (e ∙ sym (rounds_some p cutoff area some))

-- a box below one with a point has a point
pub below_some : (inner outer : List Interval) → IsBelow inner outer → IsNonEmpty outer → IsNonEmpty inner
below_some inner outer below some j there =
    let within : j < length outer = omega (arith, below.width, there) in
    let n = below.each j within in
    by_lt_z (interval_at inner j).high (interval_at inner j).low
    (λ less. n.open_ (λ same. both_ways (interval_at inner j).high (interval_at inner j).low less
    (subst (λ (s : Interval). s.low ≤ℤ s.high) (sym same) (some j within))))
    (λ more. more)

-- the whole box of a crossed search has no good point
pub crossed_hopeless : (p : Instance) (cutoff : Option ℤ) (area : List Interval) → IsCrossed area → IsSeenHopeless p cutoff area
crossed_hopeless p cutoff area c = record {
  hopeless = subst IsHopeless (sym (rounds_none p cutoff area (λ some. no_cross area some c))) (crossed_is p.rows cutoff area c);
  none = λ x h g. no_point area x c h;
}

-- the rest of a box has at most 10,000 columns
pub few_columns : (p : Instance) (cutoff : Option ℤ) (area inner : List Interval) → CanEvaluate p cutoff area
    → IsTightened p cutoff area (Kept inner) → length inner ≤ 10 ^ 4
few_columns p cutoff area inner r t =
    omega (arith, t.below.width, r.below.width, length-map p.columns bounds_of, r.problem.counts.columns)
