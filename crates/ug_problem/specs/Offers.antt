-- The answer to a point that is offered in place of the incumbent.
use Rattle.std.specs.Prelude.{◌≡◌, ℤ, ◌≤ℤ◌, ◌<ℤ◌, List, Option, Some, IfSome}
use Rattle.std.specs.Option.{option_map}
use Rattle.ug_rows.specs.Rows.{value_of}
use Rattle.ug_problem.specs.declared.answer.Broken as answer
use Rattle.ug_problem.specs.Feasible.{Feasible, IsFirstBroken}
use Rattle.ug_problem.specs.Instances.{Instance}
use Rattle.ug_problem.specs.declared.offered.Offered.{Offered}
use Rattle.ug_problem.specs.declared.offered.Offered.TheVariants.{Taken, NotBetter, Broken}

-- the incumbent's value, if there is an incumbent
abbrev pub best_value : Instance → Option (List ℤ) → Option ℤ
best_value p best = option_map (value_of p.objective) best

-- x is feasible, and there is no incumbent, or one of a greater value
pub record IsBetter (p : Instance) (best : Option (List ℤ)) (x : List ℤ) : Type 0 where
  pub feasible : Feasible p x
  pub less : IfSome (best_value p best) (λ kept. value_of p.objective x <ℤ kept)

-- x is feasible, and its value, the given one, is at least the incumbent's, the kept one
pub record IsNotBetter (p : Instance) (best : Option (List ℤ)) (x : List ℤ) (kept given : ℤ)
    : Type 0 where
  pub feasible : Feasible p x
  pub kept_value : best_value p best ≡ Some kept
  pub given_value : given ≡ value_of p.objective x
  pub more : kept ≤ℤ given

-- x is not feasible, and this is the first way in which it is not
pub record IsBroken (p : Instance) (x : List ℤ) (broken : answer.Broken) : Type 0 where
  pub infeasible : ¬ Feasible p x
  pub first : IsFirstBroken p x broken

-- the answer to x: exactly one of the three facts holds
abbrev pub IsAnswer : Instance → Option (List ℤ) → List ℤ → Offered → Type 0
IsAnswer p best x Taken = IsBetter p best x
IsAnswer p best x (NotBetter kept given) = IsNotBetter p best x kept given
IsAnswer p best x (Broken broken) = IsBroken p x broken

-- the incumbent after this was said of x
abbrev pub best_after : Offered → List ℤ → Option (List ℤ) → Option (List ℤ)
best_after Taken x best = Some x
best_after (NotBetter kept given) x best = best
best_after (Broken broken) x best = best
