use Rattle.std.proofs.Common.{◌≡◌, List, ℕ, Option, sym, subst, rules}
use Rattle.ug_disk.specs.Histories.{History}
use Rattle.ug_disk.specs.Crashes.{Leaves}
use Rattle.ug_restart.proofs.Outcomes.{time_covered, time_found}
use Rattle.ug_threads.proofs.solve.saving.Goals as goal

same_left : (P : List ℕ → List ℕ → Type 0) (old mid new : Option History) → new ≡ mid
    → Leaves P old mid → Leaves P old new
same_left P old mid new same all = subst (λ (n : Option History). Leaves P old n) (sym same) all

pub returns-clause-any_moment : goal.returns-clause-any_moment
returns-clause-any_moment g c = λ sound now.
    same_left _ (g.D.Disk.seen c.args.disk.now).told
    (g.D.Disk.seen c.conclude-concluded.result.kept.disk.now).told _ (search rules)
    (time_covered _ _ _ _ _ _ c.conclude-concluded.ensures.goes_on sound now)

pub returns-clause-found : goal.returns-clause-found
returns-clause-found g c = λ now.
    same_left _ (g.D.Disk.seen c.args.disk.now).told
    (g.D.Disk.seen c.conclude-concluded.result.kept.disk.now).told _ (search rules)
    (time_found _ _ _ _ _ _ c.args.opening.now c.requires.saves
    c.conclude-concluded.ensures.goes_on tt now)
