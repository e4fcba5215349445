-- What the ending book of a run is, by what the run began with.
use Rattle.std.proofs.Common.{◌≡◌, ℕ, [], ◌∷◌, map, None, IfSome, ◌∙◌, subst, inl, Option}
use Rattle.ug_problem.specs.Instances.{Instance, root_of}
use Rattle.ug_problem.specs.Incumbents.{one_kept}
use Rattle.ug_problem.proofs.Incumbents.{all_of_one}
use Rattle.ug_problem.specs.Better.{Covered}
use Rattle.ug_problem.specs.Feasible.{Feasible}
use Rattle.ug_problem.specs.Right.{Right}
use Rattle.ug_nodes.specs.Changes.{area_by}
use Rattle.ug_rules.specs.declared.settings.Settings.{Settings}
use Rattle.ug_rules.specs.State.{BookState}
use Rattle.ug_rules.specs.Books.{IsSoundBook}
use Rattle.ug_book.specs.Starts.{started}
use Rattle.ug_book.specs.Views.{IsSameRun}
use Rattle.ug_book.proofs.Starts.{start_is_sound}
use Rattle.ug_restart.specs.declared.outcome.End.{End}
use Rattle.ug_restart.specs.declared.outcome.Outcome.{Outcome}
use Rattle.ug_restart.specs.declared.outcome.End.TheVariants.{Answered, Limited, Stranded, Memory}
use Rattle.ug_restart.specs.Outcomes.{HasFeasible, IfAnswered, IfBook, IsRight, IsStranded}
use Rattle.ug_laws.specs.Coordinators.{CoordinatorsLoseNothing}
use Rattle.ug_top.specs.Solved.{CountsSaves, Crewed, HasSolved, StaysCalm}
use Rattle.ug_top.proofs.Solved.{solved_feasible, solved_right, solved_same, strands_so}
use Rattle.ug_disk.specs.Histories.{DiskSeen, History}
use Rattle.ug_top.specs.Runs.{AreSavedInTurn, IsKeptOn, IsOf, IsRightFor, IsRun, IsRunKept}

-- each point lies in the root
root_covers : (p : Instance) (settings : Settings)
    → Covered p settings.gap (one_kept None) (map (area_by (root_of p)) ([] ∷ []))
root_covers p settings = record {
  incumbent = all_of_one (Feasible p) None tt;
  points = λ x better. inl better.feasible.inside;
}

-- a book that begins with the root is sound
pub root_is_sound : (p : Instance) (run : ℕ) (settings : Settings)
    → IsSoundBook (started p run None ([] ∷ []) settings)
root_is_sound p run settings =
    (start_is_sound p run None ([] ∷ []) settings).1 (root_covers p settings)

is_of : (given b : BookState) (p : Instance) (settings : Settings) → IsOf p settings given
    → IsSameRun given b → IsOf p settings b
is_of given b p settings of same = record {
  its_problem = same.problem ∙ of.its_problem;
  its_settings = same.settings ∙ of.its_settings;
}

ends_of : (given : BookState) (end : End) (p : Instance) (settings : Settings)
    → IsOf p settings given → IfBook end (IsSameRun given) → IfBook end (IsOf p settings)
ends_of given (Answered b) p settings of same = is_of given b p settings of same
ends_of given (Limited b) p settings of same = is_of given b p settings of same
ends_of given (Stranded b) p settings of same = is_of given b p settings of same
ends_of given Memory p settings of same = tt

ends_right : (given : BookState) (end : End) (p : Instance) (settings : Settings)
    → IsOf p settings given → IfBook end (IsSameRun given) → IfAnswered end IsRight
    → IfAnswered end (IsRightFor p settings)
ends_right given (Answered b) p settings of same right =
    let own = is_of given b p settings of same in
    subst (λ (q : Instance). Right q settings.gap (one_kept b.best)) own.its_problem
    (subst (λ (s : Settings). Right b.problem s.gap (one_kept b.best)) own.its_settings right)
ends_right given (Limited b) p settings of same right = tt
ends_right given (Stranded b) p settings of same right = tt
ends_right given Memory p settings of same right = tt

feasible_of : (given b : BookState) (p : Instance) (settings : Settings) → IsOf p settings given
    → IsSameRun given b → HasFeasible b → IfSome b.best (Feasible p)
feasible_of given b p settings of same feasible =
    subst (λ (q : Instance). IfSome b.best (Feasible q)) (is_of given b p settings of same).its_problem
    feasible

ends_feasible : (given : BookState) (end : End) (p : Instance) (settings : Settings)
    → IsOf p settings given → IfBook end (IsSameRun given) → IfBook end HasFeasible
    → IfBook end (λ b. IfSome b.best (Feasible p))
ends_feasible given (Answered b) p settings of same feasible = feasible_of given b p settings of same feasible
ends_feasible given (Limited b) p settings of same feasible = feasible_of given b p settings of same feasible
ends_feasible given (Stranded b) p settings of same feasible = feasible_of given b p settings of same feasible
ends_feasible given Memory p settings of same feasible = tt

-- a run from a book of the problem that has given no ticket
pub is_run : CoordinatorsLoseNothing → (Began : BookState → Type 0)
    (Trusted : (b : BookState) → Began b → Type 0) (Saves : BookState → ℕ → Type 0)
    (by : Crewed) (p : Instance) (settings : Settings) (outcome : Outcome) (given : BookState)
    → (began : Began given) → IsOf p settings given → given.last ≡ 0
    → (Trusted given began → IsSoundBook given)
    → (solved : HasSolved by given outcome.end)
    → CountsSaves by given outcome.end solved (Saves given)
    → (StaysCalm by given outcome.end solved → ¬ IsStranded outcome.end)
    → IsRun Began Trusted Saves by p settings outcome
is_run law Began Trusted Saves by p settings outcome given began of unused sound solved saves live =
    let same = solved_same by.was by.now given outcome.end solved in
    record {
      given = given;
      began = began;
      solved = solved;
      saves = saves;
      of = ends_of given outcome.end p settings of same;
      feasible = ends_feasible given outcome.end p settings of same (solved_feasible by.was by.now given outcome.end solved);
      right = λ trusted crew. ends_right given outcome.end p settings of same
          (solved_right law by.was by.now given outcome.end solved unused crew (sound trusted));
      live = live;
      strands = strands_so by.was by.now given outcome.end solved live;
    }

-- such a run, and what it kept on a disk
pub is_run_kept : CoordinatorsLoseNothing → (Is : BookState → Type 0)
    (Trusted : (b : BookState) → Is b → Type 0) (by : Crewed) (p : Instance) (settings : Settings)
    (outcome : Outcome) (old new : DiskSeen) (begun : Option History) (given : BookState)
    → (began : Is given) → IsOf p settings given → given.last ≡ 0
    → (Trusted given began → IsSoundBook given)
    → (solved : HasSolved by given outcome.end)
    → CountsSaves by given outcome.end solved (AreSavedInTurn begun outcome new given)
    → (StaysCalm by given outcome.end solved → ¬ IsStranded outcome.end)
    → IsKeptOn Is given begun outcome old new
    → IsRunKept Is Trusted by p settings outcome old new
unfolding is_run
is_run_kept law Is Trusted by p settings outcome old new begun given began of unused sound solved saves live kept =
    record {
      begun = begun;
      ran = is_run law Is Trusted (AreSavedInTurn begun outcome new) by p settings outcome given began of
          unused sound solved saves live;
      kept = kept;
    }
