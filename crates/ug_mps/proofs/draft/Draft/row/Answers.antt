use Rattle.std.proofs.Common.{◌≡◌, ◌<◌, ◌≤◌, length, false, refl, sym, ◌∙◌, arith}
use Rattle.std.proofs.lemmas.Bool.{le-leb, lt-ltb, lt-leb}
use Rattle.ug_lines.specs.declared.section.Section.TheVariants as sections
use Rattle.ug_mps.specs.History.{is_row, rows_of}
use Rattle.ug_mps.proofs.DraftLemmas.{fault_same, in_section, row_named, rows_count, row_duplicate, row_full, row_good, row_said, drafts_and_row}
use Rattle.ug_mps.proofs.Finds.{found_some, found_none}
use Rattle.ug_mps.proofs.draft.Draft.row.Goals as goal

pub returns-then-is_some : goal.returns-then-is_some
returns-then-is_some c = λ h d.
    fault_same c.args.line _ _ c.fault_of-then-is_some.result
    (sym (row_duplicate h c.args.kind.now c.args.name.now c.in-Some.kind (sym c.row_kind_of.ensures ∙ c.in-Some.is)
    (row_named h c.args.self.now.rows c.args.name.now d.rows ∙ found_some c.args.self.now.rows.names c.args.name.now c.find.result c.find.ensures.found (sym c.is_some.ensures ∙ c.if-is_some.true))))
    c.fault_of-then-is_some.ensures

pub returns-then-len-ge-MOST_ROWS : goal.returns-then-len-ge-MOST_ROWS
returns-then-len-ge-MOST_ROWS c = λ h d.
    let many : 10000 ≤ length (rows_of h) = omega (arith, c.if-len-ge-MOST_ROWS.true, c.len.ensures.names, rows_count h c.args.self.now.rows d.rows) in
    fault_same c.args.line _ _ c.bare_fault.result
    (sym (row_full h c.args.kind.now c.args.name.now c.in-Some.kind (sym c.row_kind_of.ensures ∙ c.in-Some.is)
    (row_named h c.args.self.now.rows c.args.name.now d.rows ∙ found_none c.args.self.now.rows.names c.args.name.now c.find.result c.find.ensures.none (sym c.is_some.ensures ∙ c.if-is_some.false))
    (le-leb 10000 (length (rows_of h)) many)))
    c.bare_fault.ensures

pub returns : goal.returns
returns c = λ h d.
    let kind = sym c.row_kind_of.ensures ∙ c.in-Some.is in
    let few : length (rows_of h) < 10000 = omega (arith, c.if-len-ge-MOST_ROWS.false, c.len.ensures.names, rows_count h c.args.self.now.rows d.rows) in
    let gone : is_row h c.args.name.now ≡ false =
    row_named h c.args.self.now.rows c.args.name.now d.rows ∙ found_none c.args.self.now.rows.names c.args.name.now c.find.result c.find.ensures.none (sym c.is_some.ensures ∙ c.if-is_some.false) in (
      row_good h c.args.kind.now c.args.name.now c.in-Some.kind kind gone (lt-leb 10000 (length (rows_of h)) few),
      row_said h c.args.line c.args.kind.now c.args.name.now c.in-Some.kind _ kind
          (drafts_and_row h c.args.self.now _ c.args.line c.in-Some.kind c.args.name.now c.role_of-role.result c.has_objective_with-self.result d c.requires.name gone
          (lt-ltb (length (rows_of h)) 10000 few) (in_section sections.Rows c.args.self.now.section c.requires.section) c.role_of-role.ensures c.has_objective_with-self.ensures
          (rw c.in_ok-add.ensures refl)),
    )
