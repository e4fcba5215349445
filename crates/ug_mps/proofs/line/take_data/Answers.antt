use Rattle.std.proofs.Common.{◌≡◌, ◌∙◌, Bor, List, ℕ, map, Some, None, sym, ap}
use Rattle.std.specs.Option.{option_map}
use Rattle.ug_lines.specs.Shaped.{shape_shaped}
use Rattle.ug_mps.specs.Faults.{shape_in}
use Rattle.ug_mps.specs.Taking.{as_fault}
use Rattle.ug_mps.proofs.DraftLemmas.{fault_same}
use Rattle.ug_mps.proofs.LineLemmas.{type_by_first, data_bad_type, data_long, data_shapeless, data_taken, shape_fine}
use Rattle.ug_mps.proofs.line.take_data.Goals as goal

pub returns-in-Some : goal.returns-in-Some
returns-in-Some c = λ h d.
    let ws = map (λ (word : Bor (List ℕ)). word.now) c.args.words.now in
    let bad = type_by_first c.section-section.result c.args.first.now ws (Some (as_fault c.args.first.now c.in-Some.kind)) c.requires.first (λ more. c.bad_type.ensures more ∙ ap (option_map (as_fault c.args.first.now)) c.in-Some.is) in
    fault_same c.args.line _ _ c.fault_of.result (sym (data_bad_type h ws c.section-section.result (as_fault c.args.first.now c.in-Some.kind) (c.section-section.ensures.section h d) bad)) c.fault_of.ensures

pub returns-then-not-are_short : goal.returns-then-not-are_short
returns-then-not-are_short c = λ h d.
    let ws = map (λ (word : Bor (List ℕ)). word.now) c.args.words.now in
    let good = type_by_first c.section-section.result c.args.first.now ws None c.requires.first (λ more. c.bad_type.ensures more ∙ ap (option_map (as_fault c.args.first.now)) c.in_default.is) in
    fault_same c.args.line _ _ c.bare_fault.result
    (sym (data_long h ws c.section-section.result (c.section-section.ensures.section h d) good (sym c.if-not-are_short.ensures))) c.bare_fault.ensures

pub returns-in_default-shape_in : goal.returns-in_default-shape_in
returns-in_default-shape_in c = λ h d.
    let ws = map (λ (word : Bor (List ℕ)). word.now) c.args.words.now in
    let good = type_by_first c.section-section.result c.args.first.now ws None c.requires.first (λ more. c.bad_type.ensures more ∙ ap (option_map (as_fault c.args.first.now)) c.in_default.is) in
    fault_same c.args.line _ _ c.bare_fault-in_default-shape_in.result
    (sym (data_shapeless h ws c.section-section.result (c.section-section.ensures.section h d) good (sym c.if-not-are_short.ensures)
    (sym c.shape_in.ensures ∙ ap (option_map shape_shaped) c.in_default-shape_in.is))) c.bare_fault-in_default-shape_in.ensures

pub take-requires-clause-section : goal.take-requires-clause-section
take-requires-clause-section c =
    let ws = map (λ (word : Bor (List ℕ)). word.now) c.args.words.now in
    let is : shape_in c.args.draft.now.section ws ≡ Some (shape_shaped c.in-Some-shape_in.shape) = ap (λ s. shape_in s ws) (sym c.section-section.ensures.value) ∙ sym c.shape_in.ensures ∙ ap (option_map shape_shaped) c.in-Some-shape_in.is in
    (shape_fine c.args.draft.now.section ws (shape_shaped c.in-Some-shape_in.shape) c.requires.words (sym c.if-not-are_short.ensures) is).0

pub take-requires-clause-words : goal.take-requires-clause-words
take-requires-clause-words c =
    let ws = map (λ (word : Bor (List ℕ)). word.now) c.args.words.now in
    let is : shape_in c.args.draft.now.section ws ≡ Some (shape_shaped c.in-Some-shape_in.shape) = ap (λ s. shape_in s ws) (sym c.section-section.ensures.value) ∙ sym c.shape_in.ensures ∙ ap (option_map shape_shaped) c.in-Some-shape_in.is in
    (shape_fine c.args.draft.now.section ws (shape_shaped c.in-Some-shape_in.shape) c.requires.words (sym c.if-not-are_short.ensures) is).1

pub returns : goal.returns
returns c = λ h d.
    let ws = map (λ (word : Bor (List ℕ)). word.now) c.args.words.now in
    let good = type_by_first c.section-section.result c.args.first.now ws None c.requires.first (λ more. c.bad_type.ensures more ∙ ap (option_map (as_fault c.args.first.now)) c.in_default.is) in
    data_taken h ws c.args.line c.section-section.result (shape_shaped c.in-Some-shape_in.shape) _ c.take.result (c.section-section.ensures.section h d) good (sym c.if-not-are_short.ensures)
    (sym c.shape_in.ensures ∙ ap (option_map shape_shaped) c.in-Some-shape_in.is) (c.take.ensures h d)
