-- The meaning of better and right if at most one point is kept, and under a greater gap.
use Rattle.std.proofs.Common.{◌≡◌, refl, subst, ap, zero, suc, ℤ, pos, ◌+ℤ◌, ◌≤ℤ◌, ◌<ℤ◌, List, [], ◌∷◌, All, Option, Some, None, IfSome, arith}
use Rattle.std.specs.Prelude.{Contains}
use Rattle.std.specs.Option.{option_map, option_to_list}
use Rattle.std.proofs.lemmas.Int.{ints, by_lt_z}
use Rattle.ug_rows.specs.Rows.{value_of}
use Rattle.ug_problem.specs.Instances.{Instance}
use Rattle.ug_problem.specs.Feasible.{Feasible}
use Rattle.ug_problem.specs.Incumbents.{cutoff_point, one_kept}
use Rattle.ug_problem.specs.Better.{Better, BetterThanOne, CoveredUnderMore, IsGap}
use Rattle.ug_problem.specs.Offers.{IsAnswer, best_after}
use Rattle.ug_problem.specs.Right.{IsRightAnswer, OneIsKept, Right, answer_of}
use Rattle.ug_problem.specs.declared.offered.Offered.{Offered}
use Rattle.ug_problem.specs.declared.offered.Offered.TheVariants.{Taken, NotBetter, Broken}

-- the point that a better one has to beat is the one that is kept
pub one_point : (best : Option (List ℤ)) → cutoff_point (one_kept best) ≡ best
one_point None = refl
one_point (Some y) = refl

-- a fact about the point that is kept, if there is one
pub all_of_one : (P : List ℤ → Type 0) (best : Option (List ℤ)) → IfSome best P
    → All P (option_to_list best)
all_of_one P None h k d l = absurd (omega (arith, l))
all_of_one P (Some y) h zero d l = h
all_of_one P (Some y) h (suc k) d l = absurd (omega (arith, l))

pub one_of_all : (P : List ℤ → Type 0) (best : Option (List ℤ)) → All P (option_to_list best)
    → IfSome best P
one_of_all P None h = tt
one_of_all P (Some y) h = h 0 y (omega arith)

-- a value that is less by a gap is another
less_differs : (v w gap : ℤ) → pos 0 ≤ℤ gap → (v +ℤ gap) <ℤ w → w ≡ v → ⊥
less_differs v w gap g less same = omega (arith, ints, g, less, same)

not_kept : (p : Instance) (gap : ℤ) (y x : List ℤ) → IsGap gap
    → (value_of p.objective x +ℤ gap) <ℤ value_of p.objective y → Contains (y ∷ []) x → ⊥
not_kept p gap y x g less (zero, l, same) =
    less_differs (value_of p.objective x) (value_of p.objective y) gap g.low less
    (ap (value_of p.objective) same)
not_kept p gap y x g less (suc k, l, same) = absurd (omega (arith, l))

-- better than one point, and better where one is kept, are the same
pub better_one : (p : Instance) (gap : ℤ) (best : Option (List ℤ)) (x : List ℤ)
    → Better p gap (one_kept best) x → BetterThanOne p gap best x
better_one p gap best x b = record {
  feasible = b.feasible;
  less = subst
      (λ o. IfSome o (λ y. (value_of p.objective x +ℤ gap) <ℤ value_of p.objective y))
      (one_point best) b.less;
}

pub one_better : (p : Instance) (gap : ℤ) (best : Option (List ℤ)) (x : List ℤ) → IsGap gap
    → BetterThanOne p gap best x → Better p gap (one_kept best) x
one_better p gap None x g b = record {
  feasible = b.feasible;
  other = λ (k, l, same). absurd (omega (arith, l));
  less = tt;
}
one_better p gap (Some y) x g b =
    record { feasible = b.feasible; other = not_kept p gap y x g b.less; less = b.less }

-- a point better than a point of no greater value is better than the point
less_still : (v w z gap : ℤ) → (v +ℤ gap) <ℤ w → w ≤ℤ z → (v +ℤ gap) <ℤ z
less_still v w z gap less most = omega (arith, ints, less, most)

pub better_still : (p : Instance) (gap : ℤ) (best : Option (List ℤ)) (x y : List ℤ) → IsGap gap
    → IfSome best (λ z. value_of p.objective x ≤ℤ value_of p.objective z)
    → Better p gap (one_kept (Some x)) y → Better p gap (one_kept best) y
better_still p gap None x y g most b =
    one_better p gap None y g (record { feasible = b.feasible; less = tt })
better_still p gap (Some z) x y g most b = one_better p gap (Some z) y g (record {
  feasible = b.feasible;
  less = less_still (value_of p.objective y) (value_of p.objective x) (value_of p.objective z) gap
      b.less most;
})

-- a point of a smaller value is of no greater one
pub no_greater : (p : Instance) (best : Option (List ℤ)) (x : List ℤ)
    → IfSome (option_map (value_of p.objective) best) (λ value. value_of p.objective x <ℤ value)
    → IfSome best (λ y. value_of p.objective x ≤ℤ value_of p.objective y)
no_greater p None x h = tt
no_greater p (Some y) x h = at_most (value_of p.objective x) (value_of p.objective y) h
  where
    at_most : (v w : ℤ) → v <ℤ w → v ≤ℤ w
    at_most v w less = omega (arith, ints, less)

-- after each answer to an offer, what is better was better before it
pub offer_falls : (p : Instance) (best : Option (List ℤ)) (x : List ℤ) (answer : Offered) (gap : ℤ)
    (y : List ℤ) → IsAnswer p best x answer → IsGap gap
    → Better p gap (one_kept (best_after answer x best)) y → Better p gap (one_kept best) y
offer_falls p best x Taken gap y is g b =
    better_still p gap best x y g (no_greater p best x is.less) b
offer_falls p best x (NotBetter kept given) gap y is g b = b
offer_falls p best x (Broken broken) gap y is g b = b

not_less : (a b : ℤ) → ¬ (a <ℤ b) → b ≤ℤ a
not_less a b h = by_lt_z a b (λ less. absurd (h less)) (λ more. more)

at_least : (a b : ℤ) → b ≤ℤ a → a <ℤ b → ⊥
at_least a b more less = omega (arith, ints, more, less)

right_one : (p : Instance) (gap : ℤ) (best : Option (List ℤ)) → IsGap gap
    → Right p gap (one_kept best) → IsRightAnswer p gap (answer_of best)
right_one p gap None g r =
    λ x f. r.unbeaten x (one_better p gap None x g (record { feasible = f; less = tt }))
right_one p gap (Some y) g r = record {
  feasible = one_of_all (Feasible p) (Some y) r.feasible;
  unbeaten = λ x f. not_less (value_of p.objective x +ℤ gap) (value_of p.objective y)
      (λ less. r.unbeaten x
      (one_better p gap (Some y) x g (record { feasible = f; less = less })));
}

one_right : (p : Instance) (gap : ℤ) (best : Option (List ℤ))
    → IsRightAnswer p gap (answer_of best) → Right p gap (one_kept best)
one_right p gap None none = record {
  feasible = all_of_one (Feasible p) None tt;
  unbeaten = λ x b. none x b.feasible;
}
one_right p gap (Some y) optimal = record {
  feasible = all_of_one (Feasible p) (Some y) optimal.feasible;
  unbeaten = λ x b. at_least (value_of p.objective x +ℤ gap) (value_of p.objective y)
      (optimal.unbeaten x b.feasible) b.less;
}

pub one_is_kept : OneIsKept
one_is_kept = record {
  better = λ p gap best x g. (better_one p gap best x, one_better p gap best x g);
  right = λ p gap best g. (right_one p gap best g, one_right p gap best);
}

-- a value that is less by more than the larger gap is less by more than the smaller
less_by_less : (p : Instance) (gap more : ℤ) (point : Option (List ℤ)) (x : List ℤ) → gap ≤ℤ more
    → IfSome point (λ y. (value_of p.objective x +ℤ more) <ℤ value_of p.objective y)
    → IfSome point (λ y. (value_of p.objective x +ℤ gap) <ℤ value_of p.objective y)
less_by_less p gap more None x h less = tt
less_by_less p gap more (Some y) x h less =
    at_most gap more (value_of p.objective x) (value_of p.objective y) h less
  where
    at_most : (a b v w : ℤ) → a ≤ℤ b → (v +ℤ b) <ℤ w → (v +ℤ a) <ℤ w
    at_most a b v w h less = omega (arith, ints, h, less)

pub covered_under_more : CoveredUnderMore
covered_under_more p gap more best boxes h c = record {
  incumbent = c.incumbent;
  points = λ x b. c.points x (record {
    feasible = b.feasible;
    other = b.other;
    less = less_by_less p gap more (cutoff_point best) x h b.less;
  });
}
