use Rattle.std.proofs.Common.{◌≡◌, ◌<◌, length, sym, ap, subst}
use Rattle.ug_mps.specs.Numbered.{pair_said, pairs_said}
use Rattle.ug_mps.specs.RowSteps.{PutsPairs, places_in}
use Rattle.ug_mps.specs.Rows.{KeptRows}
use Rattle.ug_mps.proofs.Looks.{put_there, put_no_place, put_no_pair, put_second, if_ok}
use Rattle.ug_mps.proofs.draft.rows.Rows.put_pairs.Goals as goal

pub put-requires : goal.put-requires
put-requires c = c.requires.0.there

pub returns-in_default : goal.returns-in_default
returns-in_default c =
    put_no_place c.args.part c.args.self.now c.put.new.self (pair_said c.args.pairs.now.first) c.args.places.first c.put.ensures.distinct c.in_ok-put.ensures.value
    c.args.pairs.now.second c.args.places.second c.in_default.is

pub returns-in_default-second : goal.returns-in_default-second
returns-in_default-second c =
    put_no_pair c.args.part c.args.self.now c.put.new.self (pair_said c.args.pairs.now.first) c.args.places.first c.put.ensures.distinct c.in_ok-put.ensures.value
    c.args.pairs.now.second c.args.places.second c.in-Some.place c.in-Some.is c.in_default-second.is

pub put-requires-2 : goal.put-requires-2
put-requires-2 c =
    let names : c.put.new.self.names ≡ c.args.self.now.names = ap (λ (r : KeptRows). r.names) c.in_ok-put.ensures.value in
    subst (λ ns. c.in-Some.place < length ns) (sym names)
    (put_there c.args.self.now.names c.args.pairs.now.second c.args.places.second c.in-Some.place c.in-Some-second.pair c.in-Some.is c.in-Some-second.is c.requires.1)

pub returns : goal.returns
returns c =
    if_ok c.put-2.result _ (PutsPairs c.args.part (pairs_said c.args.pairs.now) (places_in c.args.places) c.args.self.now c.put-2.new.self)
    (λ e. put_second c.args.part c.args.self.now c.put.new.self (pair_said c.args.pairs.now.first) c.args.places.first c.put.ensures.distinct c.in_ok-put.ensures.value
    c.args.pairs.now.second c.args.places.second c.in-Some.place c.in-Some-second.pair c.put-2.new.self c.in-Some.is c.in-Some-second.is e)
    c.put-2.ensures.value
