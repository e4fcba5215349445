use Rattle.std.proofs.Common.{◌≡◌, ◌+ℤ◌, List, length, arith}
use Rattle.std.proofs.lemmas.Int.{ints}
use Rattle.ug_rows.proofs.SumLemmas.{few_terms}
use Rattle.ug_rows.specs.declared.area.Interval.{Interval}
use Rattle.ug_rows.specs.declared.row.Term.{Term}
use Rattle.ug_rows.specs.declared.sums.Extreme.TheVariants.{Least, Greatest}
use Rattle.ug_rows.specs.Rows.{term_at}
use Rattle.ug_rows.specs.Sums.{end_product}
use Rattle.ug_propagate.specs.declared.measure.Ends.{Ends}
use Rattle.ug_propagate.proofs.Measures.{small_next, sum_next, widest_next}
use Rattle.ug_propagate.proofs.measure.measure.Goals as goal

pub with_term-ends-requires-clause-least : goal.with_term-ends-requires-clause-least
with_term-ends-requires-clause-least c =
    omega (arith, few_terms (length c.args.area.now) c.args.terms.now c.requires, c.loop-term.invariant.small_least)

pub with_term-ends-requires-clause-greatest : goal.with_term-ends-requires-clause-greatest
with_term-ends-requires-clause-greatest c =
    omega (arith, few_terms (length c.args.area.now) c.args.terms.now c.requires, c.loop-term.invariant.small_greatest)

pub loop-term-preserved : goal.loop-term-preserved
loop-term-preserved c =
    let ts : List Term = c.args.terms.now in
    let area : List Interval = c.args.area.now in
    let t : Term = term_at ts c.loop-term.term-index in
    let next : Ends = c.with_term-ends.result in
    let h = c.loop-term-test.true in
    let before = c.loop-term.invariant in
    let least : next.least ≡ c.loop-term.ends.least +ℤ end_product Least t area = omega (arith, ints, c.with_term-ends.ensures.least) in
    let greatest : next.greatest ≡ c.loop-term.ends.greatest +ℤ end_product Greatest t area =
    omega (arith, ints, c.with_term-ends.ensures.greatest) in
    record {
      least = sum_next Least ts c.loop-term.term-index area c.loop-term.ends.least next.least h before.least least;
      greatest = sum_next Greatest ts c.loop-term.term-index area c.loop-term.ends.greatest next.greatest h before.greatest greatest;
      widest = widest_next ts c.loop-term.term-index area c.loop-term.ends.widest next.widest before.widest
          (omega (arith, ints, c.with_term-ends.ensures.widest)) c.with_term-ends.ensures.span;
      small = small_next ts c.loop-term.term-index area before.small c.with_term-ends.ensures.side;
      small_least = omega (arith, before.small_least, c.with_term-ends.ensures.small_least);
      small_greatest = omega (arith, before.small_greatest, c.with_term-ends.ensures.small_greatest);
    }

pub returns-clause-least : goal.returns-clause-least
returns-clause-least c =
    omega (arith, few_terms (length c.args.area.now) c.args.terms.now c.requires, c.loop-term.invariant.small_least)

pub returns-clause-greatest : goal.returns-clause-greatest
returns-clause-greatest c =
    omega (arith, few_terms (length c.args.area.now) c.args.terms.now c.requires, c.loop-term.invariant.small_greatest)
