use Rattle.std.proofs.Common.{◌≡◌, None, refl, sym, ap, subst}
use Rattle.std.proofs.lemmas.List.{length-replicate}
use Rattle.ug_ranks.specs.declared.state.State.TheVariants.{Absent}
use Rattle.ug_rules.specs.State.{BookState}
use Rattle.ug_rules.specs.Books.{IsSoundBook}
use Rattle.ug_rules.specs.declared.settings.Settings.{Settings}
use Rattle.ug_book.specs.declared.opening.Opening.{Opening}
use Rattle.ug_book.specs.Openings.{opening_book, whole}
use Rattle.ug_restart.specs.declared.outcome.Outcome.{Outcome}
use Rattle.ug_restart.specs.declared.outcome.End.TheVariants.{Memory}
use Rattle.ug_coord.proofs.Causes.{opening_alive}
use Rattle.ug_top.specs.Outside.{seen_if}
use Rattle.ug_top.specs.Runs.{first_book}
use Rattle.ug_top.specs.Solved.{FitsCrew, crewed, unchanged}
use Rattle.ug_top.proofs.Books.{is_run, root_is_sound}
use Rattle.ug_top.proofs.Solved.{any_saves, nobody_solved, still_there}
use Rattle.ug_top.proofs.one_run.solve_new.Goals as goal

pub solve_by-outcome-requires-clause-fits : goal.solve_by-outcome-requires-clause-fits
solve_by-outcome-requires-clause-fits g c κs within =
    subst (λ (s : Settings). FitsCrew s.solvers (seen_if g.C.Crew.seen c.args.crew.now))
    (sym (ap (λ (o : Opening). o.settings) c.in-Ok.ensures.made)) c.requires.fits

pub returns-clause-ran : goal.returns-clause-ran
returns-clause-ran g c =
    let is = c.in-Ok.ensures.made in
    let began = ap (λ (o : Opening). opening_book o) is in
    is_run c.coordinators_lose_nothing.ensures (λ b. b ≡ first_book c.args.problem c.args.settings) (λ b t. Unit {0})
    (λ b count. Unit {0}) (crewed g.C.Crew.seen c.args.crew.now c.solve_by-outcome.new.crew) c.args.problem
    c.args.settings c.solve_by-outcome.result (opening_book c.in-Ok.opening) began
    (record {
      its_problem = ap (λ (b : BookState). b.problem) began;
      its_settings = ap (λ (b : BookState). b.settings) began;
    })
    refl
    (λ trusted. subst IsSoundBook (sym began) (root_is_sound c.args.problem 1 c.args.settings))
    c.solve_by-outcome.ensures.solved.solved
    (any_saves _ _ (opening_book c.in-Ok.opening) _ c.solve_by-outcome.ensures.solved.solved)
    c.solve_by-outcome.ensures.solved.live

-- if memory ran out before a solver began
pub returns-in_default-clause-ran : goal.returns-in_default-clause-ran
returns-in_default-clause-ran g c =
    let p = c.args.problem in
    let settings = c.args.settings in
    let given = first_book p settings in
    let nothing : Outcome = record { end = Memory; missed = 0; unsaved = 0; last = None } in
    let solved = nobody_solved (seen_if g.C.Crew.seen c.args.crew.now) given nothing settings.solvers c.requires.fits
    (opening_alive (whole p 1 settings))
    (record { ended = refl; missed = refl; unsaved = refl }) (sym (length-replicate settings.solvers Absent)) in
    is_run c.coordinators_lose_nothing.ensures (λ b. b ≡ given) (λ b t. Unit {0})
    (λ b count. Unit {0}) (unchanged (seen_if g.C.Crew.seen c.args.crew.now)) p settings nothing given refl
    (record { its_problem = refl; its_settings = refl }) refl
    (λ trusted. root_is_sound p 1 settings) solved
    (any_saves _ _ given _ solved)
    (λ calm stranded. stranded)

pub returns-in_default-clause-crew : goal.returns-in_default-clause-crew
returns-in_default-clause-crew g c = still_there (seen_if g.C.Crew.seen c.args.crew.now)
