use Rattle.std.proofs.Common.{◌≡◌, ◌≤◌, ◌+ℤ◌, List, unsigned_abs, arith}
use Rattle.std.proofs.lemmas.Int.{ints}
use mir.Syntax.{w128}
use mir.Val.{to_z, of_z}
use Rattle.ug_rows.specs.declared.area.Interval.{Interval}
use Rattle.ug_rows.specs.declared.row.Term.{Term}
use Rattle.ug_rows.specs.declared.sums.Extreme.TheVariants.{Least, Greatest}
use Rattle.ug_rows.specs.Rows.{term_at}
use Rattle.ug_rows.specs.Sums.{end_product}
use Rattle.ug_propagate.specs.declared.short_measure.ShortEnds.{ShortEnds}
use Rattle.ug_propagate.proofs.Machine.{slack_same}
use Rattle.ug_propagate.proofs.Measures.{small_next, sum_next, widest_next}
use Rattle.ug_propagate.proofs.Sizes.{size_of_more}
use Rattle.ug_propagate.proofs.short_measure.measure_short.Goals as goal

pub loop-term-preserved : goal.loop-term-preserved
loop-term-preserved c =
    let ts : List Term = c.args.terms.now in
    let area : List Interval = c.args.area.now in
    let i = c.loop-term.term-index in
    let t : Term = term_at ts i in
    let next : ShortEnds = c.with_term-ends.result in
    let h = c.loop-term-test.true in
    let before = c.loop-term.invariant in
    let same : to_z w128 (of_z w128 t.factor) ≡ t.factor = slack_same t.factor (omega (arith, c.requires.small i h)) in
    let size : c.unsigned_abs-size.result ≡ unsigned_abs t.factor = rw same at c.unsigned_abs-size.ensures.value in
    let within : unsigned_abs t.factor ≤ c.loop-term.left = omega (arith, size, c.if-size-left.false) in
    let least : next.least ≡ c.loop-term.ends.least +ℤ end_product Least t area = omega (arith, ints, c.with_term-ends.ensures.least) in
    let greatest : next.greatest ≡ c.loop-term.ends.greatest +ℤ end_product Greatest t area =
    omega (arith, ints, c.with_term-ends.ensures.greatest) in
    record {
      size = omega (arith, size_of_more ts i h, before.size, size, within);
      least = sum_next Least ts i area c.loop-term.ends.least next.least h before.least least;
      greatest = sum_next Greatest ts i area c.loop-term.ends.greatest next.greatest h before.greatest greatest;
      widest = widest_next ts i area c.loop-term.ends.widest next.widest before.widest
          (omega (arith, ints, c.with_term-ends.ensures.widest)) c.with_term-ends.ensures.span;
      small = small_next ts i area before.small c.with_term-ends.ensures.side;
      small_least = omega (arith, before.small_least, c.with_term-ends.ensures.small_least, size, within);
      small_greatest = omega (arith, before.small_greatest, c.with_term-ends.ensures.small_greatest, size, within);
    }
