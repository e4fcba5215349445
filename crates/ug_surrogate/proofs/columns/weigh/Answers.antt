use Rattle.std.proofs.Common.{◌∙◌, FitsSigned, sym, arith, rules}
use Rattle.std.proofs.lemmas.Int.{to_z-of_z}
use Rattle.std.proofs.lemmas.List.{take_all}
use mir.Syntax.{w64, w128}
use Rattle.ug_problem.specs.ColumnEntries.{entry_at}
use Rattle.ug_surrogate.proofs.Stands.{weighed_more}
use Rattle.ug_surrogate.proofs.columns.weigh.Goals as goal

pub add_weighted-total-requires : goal.add_weighted-total-requires
add_weighted-total-requires c =
    let i = c.loop-entry.entry-index in
    let s = entry_at c.args.entries.now i in
    let small = c.requires.entries.small i c.loop-entry-test.true in
    let fits : FitsSigned w64 c.weight_at.result = search rules in
    let fits_factor : FitsSigned w128 s.factor = search rules in
    record {
      total = omega (arith, c.loop-entry.invariant.small, c.requires.entries.count, c.loop-entry-test.true);
      weight = rw (to_z-of_z w64 c.weight_at.result fits) c.weight_at.ensures.small;
      factor = rw (to_z-of_z w128 s.factor fits_factor) small;
    }

pub loop-entry-preserved : goal.loop-entry-preserved
loop-entry-preserved c =
    let ss = c.args.entries.now in
    let i = c.loop-entry.entry-index in
    let s = entry_at ss i in
    let total = c.add_weighted-total.result in
    let fits : FitsSigned w64 c.weight_at.result = search rules in
    let fits_factor : FitsSigned w128 s.factor = search rules in
    let fits_total : FitsSigned w128 total = search rules in
    let weight = to_z-of_z w64 c.weight_at.result fits ∙ c.weight_at.ensures.value in
    record {
      value = to_z-of_z w128 total fits_total ∙ c.add_weighted-total.ensures.value
          ∙ rw (c.loop-entry.invariant.value, weight, to_z-of_z w128 s.factor fits_factor)
          (sym (weighed_more c.args.rows c.args.m.now ss i c.loop-entry-test.true));
      small = rw (to_z-of_z w128 total fits_total) (omega (arith, c.add_weighted-total.ensures.small, c.loop-entry.invariant.small));
    }

pub returns : goal.returns
returns c =
    let ss = c.args.entries.now in
    let i = c.loop-entry.entry-index in
    let all = take_all i ss c.loop-entry-test.false in
    record {
      value = rw all at c.loop-entry.invariant.value;
      small = omega (arith, c.loop-entry.invariant.small, c.requires.entries.count, c.loop-entry.auto.entry-index-end);
    }
