use Rattle.std.proofs.Common.{◌≡◌, refl, ◌∙◌, ◌+◌, ◌<◌, length, subst, sym, true, false, to_z, of_z, w64, arith}
use Rattle.ug_propagate.specs.declared.row_sides.Propagated.{Propagated}
use Rattle.ug_propagate.specs.declared.row_sides.Propagated.TheVariants.{Same}
use Rattle.ug_propagate.specs.declared.measure.Slack.{Slack}
use Rattle.ug_propagate.specs.Rounds.{term_step}
use Rattle.ug_propagate.specs.Steps.{IsSlackOf, propagated_of, row_of}
use Rattle.ug_propagate.specs.Working.{FitsWhereSame, IsSame, WorkState}
use Rattle.ug_propagate.specs.declared.tight.Tight.TheVariants.{Kept}
use Rattle.ug_rows.specs.Rows.{term_at}
use Rattle.ug_propagate.proofs.Bodies.{terms_end, terms_go, terms_stop}
use Rattle.ug_propagate.proofs.Snug.{AreSnug, snug_first, snug_more, snug_at_fixpoint, snug_same}
use Rattle.ug_propagate.proofs.Stepping.{IsUnchanged, propagable_later, step_same, step_trans, unchanged_first, unchanged_more}
use Rattle.ug_propagate.proofs.Shorts.{short_slack_is, short_slack_named}
use Rattle.ug_propagate.proofs.row128.tighten_terms.Goals as goal
use Rattle.ug_propagate.proofs.row128.tighten_terms.Goals.{in-Changed, in-Same}

pub returns-in_err-reason-clause-step : goal.returns-in_err-reason-clause-step
returns-in_err-reason-clause-step c =
    step_trans c.args.problem.now c.args.work.now c.loop-term.work c.tighten_term.new.work c.loop-term.invariant.step
    c.tighten_term.ensures.step

pub returns-in-Emptied-clause-step : goal.returns-in-Emptied-clause-step
returns-in-Emptied-clause-step c =
    step_trans c.args.problem.now c.args.work.now c.loop-term.work c.tighten_term.new.work c.loop-term.invariant.step
    c.tighten_term.ensures.step

pub returns-in-Emptied-clause-value : goal.returns-in-Emptied-clause-value
returns-in-Emptied-clause-value c =
    let row = row_of c.args.row_sides c.args.terms.now in
    let here = term_at c.args.terms.now c.loop-term.term-index in
    let P : Propagated → Type 0 = λ (l : Propagated). propagated_of l c.tighten_term.new.work.sums.area
    ≡ term_step c.args.row_sides.row row here (Kept c.loop-term.work.sums.area) in
    terms_stop c.args.row_sides.row row c.args.terms.now c.loop-term.term-index c.loop-term.work.sums.area c.in-Emptied.reason _
    c.loop-term-test.true (subst P c.in-Emptied.is c.in_ok-reason.ensures.value) c.loop-term.invariant.so_far

pub loop-term-preserved : goal.loop-term-preserved
loop-term-preserved c =
    let mid = c.loop-term.work in
    let new = c.tighten_term.new.work in
    let row = row_of c.args.row_sides c.args.terms.now in
    let here = term_at c.args.terms.now c.loop-term.term-index in
    let P : Propagated → Type 0 = λ (l : Propagated). propagated_of l new.sums.area
    ≡ term_step c.args.row_sides.row row here (Kept mid.sums.area) in
    let step = step_trans c.args.problem.now c.args.work.now mid new c.loop-term.invariant.step c.tighten_term.ensures.step in
    let Q : Slack → Type 0 = λ (r : Slack). IsSlackOf c.args.row_sides c.args.terms.now new.sums.area r in
    elim c.match-branch-2.branch [
      | in-Changed w ↦ record {
        step = step;
        so_far = terms_go c.args.row_sides.row row c.args.terms.now c.loop-term.term-index mid.sums.area new.sums.area _
            c.loop-term-test.true (subst P w.in-Changed.is c.in_ok-reason.ensures.value) c.loop-term.invariant.so_far;
        slack = subst Q (sym w.now-is) w.slack_of-now.ensures;
        snug = λ one. subst (λ (r : Slack). AreSnug c.args.terms.now (c.loop-term.term-index + 1) new.sums.area r) (sym w.now-is)
            (snug_more (length mid.sums.area) c.args.row_sides c.args.terms.now c.loop-term.term-index mid.sums.area new.sums.area
            c.loop-term.now _ (propagable_later c.args.problem.now c.args.work.now mid c.args.row_sides c.args.terms.now c.requires.work
            c.loop-term.invariant.step c.requires.row) refl (omega (arith, c.loop-term-test.true)) one c.loop-term.invariant.slack
            w.slack_of-now.ensures (subst P w.in-Changed.is c.in_ok-reason.ensures.value) (c.loop-term.invariant.snug one));
        most = short_slack_named _ _ _ _ (record { sfits = w.short_slack-most-in-Changed.type_inv }) w.now-is w.most-is
            w.short_slack-most-in-Changed.ensures;
        same = λ e. absurd (let h : true ≡ false = sym w.changed-is ∙ e in cc);
      }
      | in-Same w ↦
          let same : new ≡ mid = subst (λ (l : Propagated). IsSame l mid new) w.in-Same.is c.in_ok-reason.ensures.same in
          let fits : FitsWhereSame Same here mid.sums.area c.loop-term.now =
          subst (λ (l : Propagated). FitsWhereSame l here mid.sums.area c.loop-term.now) w.in-Same.is c.in_ok-reason.ensures.fits in
          let R : WorkState → Type 0 = λ (s : WorkState). IsSlackOf c.args.row_sides c.args.terms.now s.sums.area c.loop-term.now in
          record {
            step = step;
            so_far = terms_go c.args.row_sides.row row c.args.terms.now c.loop-term.term-index mid.sums.area new.sums.area _
                c.loop-term-test.true (subst P w.in-Same.is c.in_ok-reason.ensures.value) c.loop-term.invariant.so_far;
            slack = subst Q (sym w.now-is) (subst R (sym same) c.loop-term.invariant.slack);
            snug = λ one. subst (λ (r : Slack). AreSnug c.args.terms.now (c.loop-term.term-index + 1) new.sums.area r) (sym w.now-is)
                (subst (λ (s : WorkState). AreSnug c.args.terms.now (c.loop-term.term-index + 1) s.sums.area c.loop-term.now) (sym same)
                (snug_same c.args.terms.now c.loop-term.term-index mid.sums.area c.loop-term.now fits.0 fits.1
                (c.loop-term.invariant.snug one)));
            most = short_slack_is _ _ _ _ w.now-is w.most-is c.loop-term.invariant.most;
            same = λ e. subst
                (λ (r : Slack). IsUnchanged c.args.terms.now (c.loop-term.term-index + 1) c.args.work.now new c.args.slack r) (sym w.now-is)
                (unchanged_more c.args.terms.now c.loop-term.term-index c.args.work.now mid new c.args.slack c.loop-term.now
                (c.loop-term.invariant.same (sym w.changed-is ∙ e)) same fits);
          }
    ]

pub loop-term-init : goal.loop-term-init
loop-term-init c = record {
  step = step_same c.args.problem.now c.args.work.now c.requires.work;
  so_far = refl;
  slack = c.requires.slack;
  snug = λ one. snug_first c.args.terms.now c.args.work.now.sums.area c.args.slack c.requires.high c.requires.low;
  most = short_slack_named c.args.slack c.args.slack (to_z w64 (of_z w64 c.short_slack-most.result)) c.short_slack-most.result
      (record { sfits = c.short_slack-most.type_inv }) refl refl c.short_slack-most.ensures;
  same = λ e. unchanged_first c.args.terms.now c.args.work.now c.args.slack;
}

pub tighten_term-requires-clause-term : goal.tighten_term-requires-clause-term
tighten_term-requires-clause-term c =
    let i = c.loop-term.term-index in
    let ready = propagable_later c.args.problem.now c.args.work.now c.loop-term.work c.args.row_sides c.args.terms.now c.requires.work
    c.loop-term.invariant.step c.requires.row in
    let less : i < length c.args.terms.now = omega (arith, c.loop-term-test.true) in
    record { there = ready.linear.within i less; small = ready.linear.small i less; nonzero = ready.nonzero i less }

pub returns-then-changed-clause-snug : goal.returns-then-changed-clause-snug
returns-then-changed-clause-snug c one =
    snug_at_fixpoint c.args.row_sides c.args.terms.now c.loop-term.term-index c.loop-term.work.sums.area c.loop-term.now
    c.loop-term.invariant.slack (omega (arith, c.loop-term-test.false)) (c.loop-term.invariant.snug one)

pub returns-else-changed-clause-fit : goal.returns-else-changed-clause-fit
returns-else-changed-clause-fit c k there =
    (c.loop-term.invariant.same c.if-changed.false).fit k (omega (arith, there, c.loop-term-test.false))

pub tighten_term-requires-clause-row : goal.tighten_term-requires-clause-row
tighten_term-requires-clause-row c =
    propagable_later c.args.problem.now c.args.work.now c.loop-term.work c.args.row_sides c.args.terms.now c.requires.work
    c.loop-term.invariant.step c.requires.row

pub slack_of-now-requires-clause-row : goal.slack_of-now-requires-clause-row
slack_of-now-requires-clause-row c =
    propagable_later c.args.problem.now c.loop-term.work c.tighten_term.new.work c.args.row_sides c.args.terms.now
    c.loop-term.invariant.step.box c.tighten_term.ensures.step
    (propagable_later c.args.problem.now c.args.work.now c.loop-term.work c.args.row_sides c.args.terms.now c.requires.work
    c.loop-term.invariant.step c.requires.row)

pub returns-then-changed-clause-value : goal.returns-then-changed-clause-value
returns-then-changed-clause-value c =
    terms_end c.args.row_sides.row (row_of c.args.row_sides c.args.terms.now) c.args.terms.now c.loop-term.term-index
    c.loop-term.work.sums.area _ (omega (arith, c.loop-term-test.false)) c.loop-term.invariant.so_far

pub returns-else-changed-clause-value : goal.returns-else-changed-clause-value
returns-else-changed-clause-value c =
    terms_end c.args.row_sides.row (row_of c.args.row_sides c.args.terms.now) c.args.terms.now c.loop-term.term-index
    c.loop-term.work.sums.area _ (omega (arith, c.loop-term-test.false)) c.loop-term.invariant.so_far

pub returns-else-changed-clause-same : goal.returns-else-changed-clause-same
returns-else-changed-clause-same c = (c.loop-term.invariant.same c.if-changed.false).work
