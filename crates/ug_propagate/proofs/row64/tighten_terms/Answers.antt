use Rattle.std.proofs.Common.{◌≡◌, refl, ◌∙◌, ◌+◌, length, subst, sym, true, false, arith}
use Rattle.ug_propagate.specs.declared.row_sides.Propagated.{Propagated}
use Rattle.ug_propagate.specs.declared.row_sides.Propagated.TheVariants.{Same}
use Rattle.ug_propagate.specs.declared.short_sides.ShortSlack.{ShortSlack}
use Rattle.ug_propagate.specs.Rounds.{term_step}
use Rattle.ug_propagate.specs.Shorts.{AreNearSlacks}
use Rattle.ug_propagate.specs.Steps.{propagated_of, slack_over, row_of}
use Rattle.ug_propagate.specs.Working.{FitsWhereSame, IsSame, WorkState}
use Rattle.ug_propagate.specs.declared.tight.Tight.TheVariants.{Kept}
use Rattle.ug_rows.specs.Rows.{term_at}
use Rattle.ug_propagate.proofs.Bodies.{terms_end, terms_go, terms_stop}
use Rattle.ug_propagate.proofs.Near.{propagate_fitting, near_some, over_is, slacks_named, short_term_at}
use Rattle.ug_propagate.proofs.Snug.{AreSnug, snug_first, snug_more, snug_at_fixpoint, snug_same}
use Rattle.ug_propagate.proofs.Stepping.{IsUnchanged, step_same, step_trans, unchanged_first, unchanged_more}
use Rattle.ug_propagate.proofs.row64.tighten_terms.Goals as goal
use Rattle.ug_propagate.proofs.row64.tighten_terms.Goals.{in-Changed, in-Same}

pub returns-in_err-reason-clause-step : goal.returns-in_err-reason-clause-step
returns-in_err-reason-clause-step c =
    step_trans c.args.problem.now c.args.work.now c.loop-term.work c.tighten_term.new.work c.loop-term.invariant.step
    c.tighten_term.ensures.step

pub returns-in-Emptied-clause-step : goal.returns-in-Emptied-clause-step
returns-in-Emptied-clause-step c =
    step_trans c.args.problem.now c.args.work.now c.loop-term.work c.tighten_term.new.work c.loop-term.invariant.step
    c.tighten_term.ensures.step

pub returns-in-Emptied-clause-value : goal.returns-in-Emptied-clause-value
returns-in-Emptied-clause-value c =
    let row_sides = c.args.s.row_sides in
    let row = row_of row_sides c.args.terms.now in
    let here = term_at c.args.terms.now c.loop-term.term-index in
    let P : Propagated → Type 0 = λ (l : Propagated). propagated_of l c.tighten_term.new.work.sums.area
    ≡ term_step row_sides.row row here (Kept c.loop-term.work.sums.area) in
    terms_stop row_sides.row row c.args.terms.now c.loop-term.term-index c.loop-term.work.sums.area c.in-Emptied.reason _
    c.loop-term-test.true (subst P c.in-Emptied.is c.in_ok-reason.ensures.value) c.loop-term.invariant.so_far

pub loop-term-preserved : goal.loop-term-preserved
loop-term-preserved c =
    let p = c.args.problem.now in
    let row_sides = c.args.s.row_sides in
    let ts = c.args.terms.now in
    let i = c.loop-term.term-index in
    let mid = c.loop-term.work in
    let new = c.tighten_term.new.work in
    let row = row_of row_sides ts in
    let here = term_at ts i in
    let P : Propagated → Type 0 = λ (l : Propagated). propagated_of l new.sums.area ≡ term_step row_sides.row row here (Kept mid.sums.area) in
    let step = step_trans p c.args.work.now mid new c.loop-term.invariant.step c.tighten_term.ensures.step in
    let Q : ShortSlack → Type 0 = λ (r : ShortSlack). AreNearSlacks c.args.s ts new.sums.area r in
    let ready = propagate_fitting p mid c.args.s ts c.loop-term.invariant.step.box c.requires.row_sides c.requires.terms in
    elim c.match-branch-2.branch [
      | in-Changed w ↦
          let now = slacks_named p c.args.s ts new.sums.area _ c.requires.terms w.short_slack-now.ensures in
          record {
            step = step;
            so_far = terms_go row_sides.row row ts i mid.sums.area new.sums.area _
                c.loop-term-test.true (subst P w.in-Changed.is c.in_ok-reason.ensures.value) c.loop-term.invariant.so_far;
            slack = subst Q (sym w.now-is) now;
            snug = λ one. snug_more (length mid.sums.area) row_sides ts i mid.sums.area new.sums.area
                (slack_over row_sides ts mid.sums.area) (slack_over row_sides ts new.sums.area) ready refl (omega (arith, c.loop-term-test.true)) one
                (over_is (length mid.sums.area) row_sides ts mid.sums.area ready c.loop-term.invariant.slack.small)
                (over_is (length mid.sums.area) row_sides ts new.sums.area ready now.small)
                (subst P w.in-Changed.is c.in_ok-reason.ensures.value) (c.loop-term.invariant.snug one);
            same = λ e. absurd (let h : true ≡ false = sym w.changed-is ∙ e in cc);
          }
      | in-Same w ↦
          let same : new ≡ mid = subst (λ (l : Propagated). IsSame l mid new) w.in-Same.is c.in_ok-reason.ensures.same in
          let fits : FitsWhereSame Same here mid.sums.area (slack_over row_sides ts mid.sums.area) =
          subst (λ (l : Propagated). FitsWhereSame l here mid.sums.area (slack_over row_sides ts mid.sums.area)) w.in-Same.is c.in_ok-reason.ensures.fits in
          let R : WorkState → Type 0 = λ (s : WorkState). AreNearSlacks c.args.s ts s.sums.area c.loop-term.now in
          let S : WorkState → Type 0 = λ (s : WorkState). AreSnug ts (i + 1) s.sums.area (slack_over row_sides ts s.sums.area) in
          let U : WorkState → Type 0 = λ (s : WorkState).
          IsUnchanged ts (i + 1) c.args.work.now new (slack_over row_sides ts c.args.work.now.sums.area) (slack_over row_sides ts s.sums.area) in
          record {
            step = step;
            so_far = terms_go row_sides.row row ts i mid.sums.area new.sums.area _
                c.loop-term-test.true (subst P w.in-Same.is c.in_ok-reason.ensures.value) c.loop-term.invariant.so_far;
            slack = subst Q (sym w.now-is) (subst R (sym same) c.loop-term.invariant.slack);
            snug = λ one. subst S (sym same)
                (snug_same ts i mid.sums.area (slack_over row_sides ts mid.sums.area) fits.0 fits.1 (c.loop-term.invariant.snug one));
            same = λ e. subst U (sym same)
                (unchanged_more ts i c.args.work.now mid new (slack_over row_sides ts c.args.work.now.sums.area) (slack_over row_sides ts mid.sums.area)
                (c.loop-term.invariant.same (sym w.changed-is ∙ e)) same fits);
          }
    ]

pub loop-term-init : goal.loop-term-init
loop-term-init c =
    let slack = slack_over c.args.s.row_sides c.args.terms.now c.args.work.now.sums.area in
    record {
      step = step_same c.args.problem.now c.args.work.now c.requires.work;
      so_far = refl;
      slack = c.requires.slack;
      snug = λ one. snug_first c.args.terms.now c.args.work.now.sums.area slack
          (near_some slack.high c.args.slack.high c.requires.slack.high c.requires.high)
          (near_some slack.low c.args.slack.low c.requires.slack.low c.requires.low);
      same = λ e. unchanged_first c.args.terms.now c.args.work.now slack;
    }

pub tighten_term-requires-clause-term : goal.tighten_term-requires-clause-term
tighten_term-requires-clause-term c =
    short_term_at c.args.problem.now c.loop-term.work c.args.s c.args.terms.now c.loop-term.term-index c.loop-term.invariant.step.box
    c.requires.row_sides c.requires.terms (omega (arith, c.loop-term-test.true))

pub returns-then-changed-clause-snug : goal.returns-then-changed-clause-snug
returns-then-changed-clause-snug c one =
    let area = c.loop-term.work.sums.area in
    snug_at_fixpoint c.args.s.row_sides c.args.terms.now c.loop-term.term-index area (slack_over c.args.s.row_sides c.args.terms.now area)
    (over_is (length area) c.args.s.row_sides c.args.terms.now area
    (propagate_fitting c.args.problem.now c.loop-term.work c.args.s c.args.terms.now c.loop-term.invariant.step.box c.requires.row_sides c.requires.terms)
    c.loop-term.invariant.slack.small)
    (omega (arith, c.loop-term-test.false)) (c.loop-term.invariant.snug one)

pub returns-else-changed-clause-fit : goal.returns-else-changed-clause-fit
returns-else-changed-clause-fit c k there =
    (c.loop-term.invariant.same c.if-changed.false).fit k (omega (arith, there, c.loop-term-test.false))

pub returns-then-changed-clause-value : goal.returns-then-changed-clause-value
returns-then-changed-clause-value c =
    terms_end c.args.s.row_sides.row (row_of c.args.s.row_sides c.args.terms.now) c.args.terms.now c.loop-term.term-index
    c.loop-term.work.sums.area _ (omega (arith, c.loop-term-test.false)) c.loop-term.invariant.so_far

pub returns-else-changed-clause-value : goal.returns-else-changed-clause-value
returns-else-changed-clause-value c =
    terms_end c.args.s.row_sides.row (row_of c.args.s.row_sides c.args.terms.now) c.args.terms.now c.loop-term.term-index
    c.loop-term.work.sums.area _ (omega (arith, c.loop-term-test.false)) c.loop-term.invariant.so_far

pub returns-else-changed-clause-same : goal.returns-else-changed-clause-same
returns-else-changed-clause-same c = (c.loop-term.invariant.same c.if-changed.false).work
