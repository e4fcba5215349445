use Rattle.std.proofs.Common.{◌≡◌, List, Option, subst, sym}
use Rattle.ug_rows.specs.declared.area.Interval.{Interval}
use Rattle.ug_rows.specs.Boxes.{IsNonEmpty}
use Rattle.ug_propagate.specs.declared.tight.Reason.{Reason}
use Rattle.ug_propagate.specs.declared.tight.Tight.TheVariants.{Kept}
use Rattle.ug_propagate.specs.Rounds.{last_round, rounds_of}
use Rattle.ug_propagate.specs.Steps.{outcome_of}
use Rattle.ug_branch.specs.Choices.{AreClosed}
use Rattle.ug_base.specs.Evaluations.{IsInSight}
use Rattle.ug_base.proofs.Closed.{closed_below}
use Rattle.ug_base.proofs.Sight.{below_some, nothing_left, seen_inside, tightened_as}
use Rattle.ug_base.proofs.evaluation.evaluate_inside.Goals as goal

pub returns-in-Some-clause-seen : goal.returns-in-Some-clause-seen
returns-in-Some-clause-seen c =
    let p = c.args.problem.now in
    let area = c.args.work.now.sums.area in
    let P : Option Reason → Type 0 = λ (told : Option Reason). outcome_of told c.propagate.new.work.sums.area
    ≡ last_round p c.args.cutoff (rounds_of 32 p c.args.cutoff (Kept area)) in
    nothing_left p c.args.cutoff area _
    (tightened_as p c.args.cutoff area _ c.requires.can c.requires.some (subst P c.in-Some.is c.in_ok-reason.ensures.value))

pub see-requires-clause-some : goal.see-requires-clause-some
see-requires-clause-some c =
    let p = c.args.problem.now in
    let area = c.args.work.now.sums.area in
    let inner = c.propagate.new.work.sums.area in
    let P : Option Reason → Type 0 = λ (told : Option Reason). outcome_of told inner
    ≡ last_round p c.args.cutoff (rounds_of 32 p c.args.cutoff (Kept area)) in
    let t = tightened_as p c.args.cutoff area (Kept inner) c.requires.can c.requires.some
    (subst P c.in-None.is c.in_ok-reason.ensures.value) in
    subst IsNonEmpty (sym c.sides.ensures) (below_some inner area t.below c.requires.some)

pub see-requires-clause-closed : goal.see-requires-clause-closed
see-requires-clause-closed c =
    let p = c.args.problem.now in
    let area = c.args.work.now.sums.area in
    let inner = c.propagate.new.work.sums.area in
    let P : Option Reason → Type 0 = λ (told : Option Reason). outcome_of told inner
    ≡ last_round p c.args.cutoff (rounds_of 32 p c.args.cutoff (Kept area)) in
    let t = tightened_as p c.args.cutoff area (Kept inner) c.requires.can c.requires.some
    (subst P c.in-None.is c.in_ok-reason.ensures.value) in
    subst (AreClosed c.args.choosing.closed) (sym c.sides.ensures)
    (closed_below c.args.choosing.closed inner area t.below c.requires.closed)

pub returns-in_ok-seen-in-None-clause-seen : goal.returns-in_ok-seen-in-None-clause-seen
returns-in_ok-seen-in-None-clause-seen c =
    let p = c.args.problem.now in
    let area = c.args.work.now.sums.area in
    let inner = c.propagate.new.work.sums.area in
    let P : Option Reason → Type 0 = λ (told : Option Reason). outcome_of told inner
    ≡ last_round p c.args.cutoff (rounds_of 32 p c.args.cutoff (Kept area)) in
    let t = tightened_as p c.args.cutoff area (Kept inner) c.requires.can c.requires.some
    (subst P c.in-None.is c.in_ok-reason.ensures.value) in
    let Q : List Interval → Type 0 = λ (a : List Interval). IsInSight c.args.choosing.scores.now a c.in_ok-seen-in-None.seen in
    seen_inside p c.args.cutoff c.args.choosing.scores.now area c.propagate.new.work c.in_ok-seen-in-None.seen c.requires.can t
    c.propagate.ensures.went.working (subst Q c.sides.ensures c.in_ok-seen-in-None.ensures)
