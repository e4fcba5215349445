-- How a crew is started.
use Rattle.std.specs.Prelude.{◌≡◌, ◌⊎◌, ℕ, zero, suc, List, [], ◌∷◌, ◌++◌}
use Rattle.ug_restart.specs.declared.outcome.End.{End}
use Rattle.ug_restart.specs.declared.outcome.End.TheVariants.{Memory}
use Rattle.ug_coord.specs.Actions.{Action, Failed, Launched, Lost, SetUp}

-- the rank was started and sent the problem, in these actions; or that could not be sent, or it
-- could not be started, and then it is lost
abbrev pub IsStart : ℕ → List Action → Type 0
IsStart rank actions =
    ((bytes : List ℕ) × (actions ≡ Launched rank ∷ SetUp rank bytes ∷ []))
    ⊎ ((actions ≡ Launched rank ∷ Lost rank Failed ∷ []) ⊎ (actions ≡ Lost rank Failed ∷ []))

-- the actions are the starts of the first n ranks, one after another
abbrev pub AreStarts : ℕ → List Action → Type 0
AreStarts zero actions = actions ≡ []
AreStarts (suc n) actions = (before its : List Action)
    × (actions ≡ before ++ its) × AreStarts n before × IsStart n its

-- each of the ranks was started, or that failed, before anything else was done
pub record AreStarted (ranks : ℕ) (actions : List Action) : Type 0 where
  pub starts : List Action
  pub are : AreStarts ranks starts
  pub rest : List Action
  pub split : actions ≡ starts ++ rest

-- so it is, unless memory ran out before anything was done
abbrev pub HasStarted : ℕ → List Action → End → Type 0
HasStarted ranks actions end = AreStarted ranks actions ⊎ ((actions ≡ []) × (end ≡ Memory))
