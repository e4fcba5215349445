use Rattle.std.proofs.Common.{◌∙◌, sym, subst}
use Rattle.ug_lines.specs.declared.section.Section.TheVariants as sections
use Rattle.ug_lines.specs.Shaped.{pairs_shaped}
use Rattle.ug_mps.specs.RowSteps.{AreAt, places_in}
use Rattle.ug_mps.proofs.PairsLemmas.{read_rows, read_count}
use Rattle.ug_mps.proofs.DraftLemmas.{fault_same, in_section}
use Rattle.ug_mps.proofs.ColumnLines.{column_unknown, column_again, column_repeated, column_no_number, column_full, column_good, drafts_and_column}
use Rattle.ug_mps.proofs.draft.Draft.column.Goals as goal

pub returns-in-Err : goal.returns-in-Err
returns-in-Err c = λ h d.
    fault_same c.args.line _ _ c.fault_of.result
    (sym (column_unknown h c.args.self.now d c.args.name.now (pairs_shaped c.args.pairs.now) c.in-Err.word.now c.in-Err.ensures.value)) c.fault_of.ensures

pub returns-in_default : goal.returns-in_default
returns-in_default c = λ h d.
    fault_same c.args.line _ _ c.fault_of-in_default.result
    (sym (column_again h c.args.self.now d c.args.name.now (pairs_shaped c.args.pairs.now) c.in-Ok.ensures.value.0 (c.in_default.ensures.place h d.columns))) c.fault_of-in_default.ensures

pub returns-in-Some-repeated : goal.returns-in-Some-repeated
returns-in-Some-repeated c = λ h d.
    let place = c.in-Some.ensures.place h d.columns in
    fault_same c.args.line _ _ c.fault_of-in-Some-repeated.result
    (sym (column_repeated h c.args.self.now d c.args.name.now (pairs_shaped c.args.pairs.now) c.in-Some.place.at (places_in c.in-Ok.places) c.in-Some-repeated.word c.in-Ok.ensures.value.0 place.0 place.1 c.in-Ok.ensures.value.1
    c.in-Some-repeated.ensures)) c.fault_of-in-Some-repeated.ensures

pub returns-in-Err-numbers_of : goal.returns-in-Err-numbers_of
returns-in-Err-numbers_of c = λ h d.
    let place = c.in-Some.ensures.place h d.columns in
    fault_same c.args.line _ _ c.fault_of-in-Err-numbers_of.result
    (sym (column_no_number h c.args.self.now d c.args.name.now (pairs_shaped c.args.pairs.now) c.in-Some.place.at (places_in c.in-Ok.places) c.in-Ok.ensures.value.0 place.0 place.1 c.in-Ok.ensures.value.1
    c.in_default-repeated.ensures c.in-Err-numbers_of.word.now c.in-Err-numbers_of.ensures.value)) c.fault_of-in-Err-numbers_of.ensures

pub returns-then-is_full : goal.returns-then-is_full
returns-then-is_full c = λ h d.
    let place = c.in-Some.ensures.place h d.columns in
    let read = c.in-Ok-numbers_of.ensures.value in
    fault_same c.args.line _ _ c.bare_fault.result
    (sym (column_full h c.args.self.now d c.args.name.now (pairs_shaped c.args.pairs.now) c.in-Some.place.at (places_in c.in-Ok.places) c.in-Ok.ensures.value.0 place.0 place.1 c.in-Ok.ensures.value.1
    c.in_default-repeated.ensures c.count-count.result read.0 (c.count-count.ensures.value ∙ read_count (pairs_shaped c.args.pairs.now) _ read.1.0) (sym c.if-is_full.true ∙ c.is_full.ensures))) c.bare_fault.ensures

pub put_column-requires-clause-stand : goal.put_column-requires-clause-stand
put_column-requires-clause-stand c =
    subst (λ rs. AreAt c.args.self.now.rows.names rs (places_in c.in-Ok.places)) (sym (read_rows (pairs_shaped c.args.pairs.now) _ c.in-Ok-numbers_of.ensures.value.1.0)) c.in-Ok.ensures.value.1

pub returns : goal.returns
returns c = λ h d.
    let place = c.in-Some.ensures.place h d.columns in
    let read = c.in-Ok-numbers_of.ensures.value in
    let count = c.count-count.ensures.value ∙ read_count (pairs_shaped c.args.pairs.now) _ read.1.0 in
    let room = sym c.if-is_full.false ∙ c.is_full.ensures in (
      column_good h c.args.self.now d c.args.name.now (pairs_shaped c.args.pairs.now) c.in-Some.place.at (places_in c.in-Ok.places) c.in-Ok.ensures.value.0 place.0 place.1 c.in-Ok.ensures.value.1
          c.in_default-repeated.ensures c.count-count.result read.0 count room,
      drafts_and_column h c.args.self.now d c.args.name.now (pairs_shaped c.args.pairs.now) c.in-Some.place.at (places_in c.in-Ok.places) c.in-Ok.ensures.value.0 place.0 place.1 c.in-Ok.ensures.value.1
          c.in_default-repeated.ensures c.args.line _ c.count-count.result c.in-Some.place.new c.put_column.new.self.columns c.put_column.new.self.rows _ read.1.0 count room c.requires.name read.1.1
          (in_section sections.Columns c.args.self.now.section c.requires.section) place.2 c.in_ok-put_column.ensures.put.opened c.in_ok-put_column.ensures.put.put
          (rw (sym c.count-count.ensures.value) at c.in_ok-put_column.ensures.put.rest),
    )
