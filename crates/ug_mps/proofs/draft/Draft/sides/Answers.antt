use Rattle.std.proofs.Common.{◌∙◌, sym, refl, subst}
use Rattle.ug_lines.specs.Shaped.{pairs_shaped, word_of}
use Rattle.ug_mps.specs.RowSteps.{AreAt, places_in}
use Rattle.ug_mps.proofs.DraftLemmas.{fault_same}
use Rattle.ug_mps.proofs.PairsLemmas.{read_rows}
use Rattle.ug_mps.proofs.SideLines.{sides_passed, sides_unknown, sides_repeated, sides_no_number, sides_good, drafts_and_sides}
use Rattle.ug_mps.proofs.draft.Draft.sides.Goals as goal

pub returns-then-is_other_set : goal.returns-then-is_other_set
returns-then-is_other_set c = λ h d. sides_passed h c.args.self.now c.args.line (word_of c.args.set) (pairs_shaped c.args.pairs.now) d (sym c.is_other_set.ensures ∙ c.if-is_other_set.true)

pub returns-in-Err : goal.returns-in-Err
returns-in-Err c = λ h d.
    fault_same c.args.line _ _ c.fault_of.result
    (sym (sides_unknown h c.args.self.now d (word_of c.args.set) (pairs_shaped c.args.pairs.now) (sym c.is_other_set.ensures ∙ c.if-is_other_set.false) c.in-Err.word.now c.in-Err.ensures.value)) c.fault_of.ensures

pub returns-in-Some : goal.returns-in-Some
returns-in-Some c = λ h d.
    fault_same c.args.line _ _ c.fault_of-in-Some.result
    (sym (sides_repeated h c.args.self.now d (word_of c.args.set) (pairs_shaped c.args.pairs.now) (sym c.is_other_set.ensures ∙ c.if-is_other_set.false) (places_in c.in-Ok.places) c.in-Ok.ensures.value.0 c.in-Ok.ensures.value.1
    c.part-part.result c.in-Some.word c.part-part.ensures c.in-Some.ensures)) c.fault_of-in-Some.ensures

pub returns-in-Err-numbers_of : goal.returns-in-Err-numbers_of
returns-in-Err-numbers_of c = λ h d.
    fault_same c.args.line _ _ c.fault_of-in-Err-numbers_of.result
    (sym (sides_no_number h c.args.self.now d (word_of c.args.set) (pairs_shaped c.args.pairs.now) (sym c.is_other_set.ensures ∙ c.if-is_other_set.false) (places_in c.in-Ok.places) c.in-Ok.ensures.value.0 c.in-Ok.ensures.value.1
    c.part-part.result c.part-part.ensures c.in_default.ensures c.in-Err-numbers_of.word.now c.in-Err-numbers_of.ensures.value)) c.fault_of-in-Err-numbers_of.ensures

pub put_pairs-requires : goal.put_pairs-requires
put_pairs-requires c =
    (subst (λ rs. AreAt c.args.self.now.rows.names rs (places_in c.in-Ok.places)) (sym (read_rows (pairs_shaped c.args.pairs.now) _ c.in-Ok-numbers_of.ensures.value.1.0)) c.in-Ok.ensures.value.1)

pub returns : goal.returns
returns c = λ h d.
    let read = c.in-Ok-numbers_of.ensures.value in
    let used = sym c.is_other_set.ensures ∙ c.if-is_other_set.false in (
      sides_good h c.args.self.now d (word_of c.args.set) (pairs_shaped c.args.pairs.now) used (places_in c.in-Ok.places) c.in-Ok.ensures.value.0 c.in-Ok.ensures.value.1
          c.part-part.result c.part-part.ensures c.in_default.ensures read.0,
      drafts_and_sides h c.args.self.now d (word_of c.args.set) (pairs_shaped c.args.pairs.now) used (places_in c.in-Ok.places) c.in-Ok.ensures.value.0 c.in-Ok.ensures.value.1
          c.part-part.result c.part-part.ensures c.in_default.ensures c.args.line _ c.put_pairs.new.self _ read.1.0 read.1.1 c.requires.section
          c.in_ok-put_pairs.ensures
          (rw c.in_ok-use_set.ensures refl),
    )
