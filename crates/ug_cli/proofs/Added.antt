-- A command with one argument more.
use Rattle.std.proofs.Common.{◌≡◌, Result, IfOk, ap, ◌∙◌}
use Rattle.std.proofs.lemmas.Result.{IfOk-weaker}
use Rattle.clap.specs.Simple.{App, with_rule}
use Rattle.clap.specs.Walk.{Rule}

-- the argument added is the one of this rule
pub by_rule : {C E : Type 0} (app_of : C → App) (result : Result C E) (app : App) (a b : Rule) → a ≡ b
    → IfOk result (λ m. app_of m ≡ with_rule app a) → IfOk result (λ m. app_of m ≡ with_rule app b)
by_rule app_of result app a b e = IfOk-weaker result _ _ (λ m h. h ∙ ap (with_rule app) e)
