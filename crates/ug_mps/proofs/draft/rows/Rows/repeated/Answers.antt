use Rattle.std.proofs.Common.{◌==◌, ◌||◌, refl, sym, ap, ◌∙◌}
use Rattle.ug_drafts.specs.Kept.{has_part}
use Rattle.ug_mps.proofs.Looks.{repeated_first, repeated_no_place, repeated_no_pair, repeated_second, repeated_none, second_there}
use Rattle.ug_mps.proofs.draft.rows.Rows.repeated.Goals as goal

pub get-requires : goal.get-requires
get-requires c = c.requires.0.there

pub returns-then-has : goal.returns-then-has
returns-then-has c =
    repeated_first c.args.part c.args.self.now c.args.pairs.now.first.row.now c.args.places.first c.get.ensures.distinct c.args.pairs.now.second c.args.places.second c.args.pairs.now.first.row refl
    (ap (has_part c.args.part) (sym c.get.ensures.value) ∙ sym c.if-has.ensures)

pub returns-in_default : goal.returns-in_default
returns-in_default c =
    repeated_no_place c.args.part c.args.self.now c.args.pairs.now.first.row.now c.args.places.first c.get.ensures.distinct c.args.pairs.now.second c.args.places.second c.in_default.is
    (ap (has_part c.args.part) (sym c.get.ensures.value) ∙ sym c.if-has.ensures)

pub returns-in_default-second : goal.returns-in_default-second
returns-in_default-second c =
    repeated_no_pair c.args.part c.args.self.now c.args.pairs.now.first.row.now c.args.places.first c.get.ensures.distinct c.args.pairs.now.second c.args.places.second c.in-Some.place c.in-Some.is c.in_default-second.is
    (ap (has_part c.args.part) (sym c.get.ensures.value) ∙ sym c.if-has.ensures)

pub get-requires-2 : goal.get-requires-2
get-requires-2 c =
    second_there c.args.self.now.names c.args.pairs.now.second c.args.places.second c.in-Some.place c.in-Some-second.pair c.in-Some.is c.in-Some-second.is c.requires.1

pub returns-then-is_again : goal.returns-then-is_again
returns-then-is_again c =
    repeated_second c.args.part c.args.self.now c.args.pairs.now.first.row.now c.args.places.first c.get.ensures.distinct c.args.pairs.now.second c.args.places.second c.in-Some.place c.in-Some-second.pair c.in-Some-second.pair.row
    c.in-Some.is c.in-Some-second.is refl (ap (has_part c.args.part) (sym c.get.ensures.value) ∙ sym c.if-has.ensures)
    (ap (λ b. b || c.in-Some.place == c.args.places.first) (ap (has_part c.args.part) (sym c.get-2.ensures.value) ∙ sym c.has-2.ensures) ∙ sym c.is_again.ensures ∙ c.if-is_again.true)

pub returns : goal.returns
returns c =
    repeated_none c.args.part c.args.self.now c.args.pairs.now.first.row.now c.args.places.first c.get.ensures.distinct c.args.pairs.now.second c.args.places.second c.in-Some.place c.in-Some-second.pair
    c.in-Some.is c.in-Some-second.is (ap (has_part c.args.part) (sym c.get.ensures.value) ∙ sym c.if-has.ensures)
    (ap (λ b. b || c.in-Some.place == c.args.places.first) (ap (has_part c.args.part) (sym c.get-2.ensures.value) ∙ sym c.has-2.ensures) ∙ sym c.is_again.ensures ∙ c.if-is_again.false)
