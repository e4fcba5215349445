use Rattle.std.proofs.Common.{◌∙◌, sym, refl}
use Rattle.ug_lines.specs.declared.section.Section.TheVariants as sections
use Rattle.ug_lines.specs.Shaped.{word_of}
use Rattle.ug_mps.proofs.BoundsLemmas.{small_of}
use Rattle.ug_mps.proofs.DraftLemmas.{fault_same, in_section}
use Rattle.ug_mps.proofs.SideLines.{bound_passed, bound_unknown, bound_no_number, bound_too_wide, bound_good, drafts_and_bound}
use Rattle.ug_mps.proofs.draft.Draft.bound.Goals as goal

pub returns-then-is_other_set : goal.returns-then-is_other_set
returns-then-is_other_set c = λ h d. bound_passed h c.args.self.now d (word_of c.args.set) c.args.kind c.args.name.now (word_of c.args.number) c.args.line (sym c.is_other_set.ensures ∙ c.if-is_other_set.true)

pub returns-in_default : goal.returns-in_default
returns-in_default c = λ h d.
    fault_same c.args.line _ _ c.fault_of.result
    (sym (bound_unknown h c.args.self.now d (word_of c.args.set) c.args.kind c.args.name.now (word_of c.args.number) (sym c.is_other_set.ensures ∙ c.if-is_other_set.false) (c.in_default.ensures.none.0 refl)))
    c.fault_of.ensures

pub returns-in-Err : goal.returns-in-Err
returns-in-Err c = λ h d.
    fault_same c.args.line _ _ c.fault_of-in-Err.result
    (sym (bound_no_number h c.args.self.now d (word_of c.args.set) c.args.kind c.args.name.now (word_of c.args.number) (sym c.is_other_set.ensures ∙ c.if-is_other_set.false) c.in-Some.at c.in-Some.ensures.found
    c.in-Err.word.now c.in-Err.ensures.said.0 c.in-Err.ensures.said.1)) c.fault_of-in-Err.ensures

pub returns-in_default-change_of : goal.returns-in_default-change_of
returns-in_default-change_of c = λ h d.
    fault_same c.args.line _ _ c.fault_of-in_default-change_of.result
    (sym (bound_too_wide h c.args.self.now d (word_of c.args.set) c.args.kind c.args.name.now (word_of c.args.number) (sym c.is_other_set.ensures ∙ c.if-is_other_set.false) c.in-Some.at c.in-Some.ensures.found
    c.in-Ok.amount c.in-Ok.ensures.said.0 (sym c.change_of.ensures ∙ c.in_default-change_of.is))) c.fault_of-in_default-change_of.ensures

pub returns : goal.returns
returns c = λ h d.
    let used = sym c.is_other_set.ensures ∙ c.if-is_other_set.false in
    let is = sym c.change_of.ensures ∙ c.in-Some-change_of.is in (
      bound_good h c.args.self.now d (word_of c.args.set) c.args.kind c.args.name.now (word_of c.args.number) used c.in-Some.at c.in-Some.ensures.found c.in-Ok.amount c.in-Some-change_of.change c.in-Ok.ensures.said.0 is,
      drafts_and_bound h c.args.self.now d (word_of c.args.set) c.args.kind c.args.name.now (word_of c.args.number) used c.in-Some.at c.in-Some.ensures.found c.args.line c.in-Ok.amount c.in-Some-change_of.change _
          c.in-Ok.ensures.said.0 is (small_of c.args.kind c.in-Ok.amount c.in-Some-change_of.change is) c.find.ensures.distinct
          (in_section sections.Bounds c.args.self.now.section c.requires.section)
          (rw (c.change.ensures, c.in_ok-use_set.ensures) refl),
    )
