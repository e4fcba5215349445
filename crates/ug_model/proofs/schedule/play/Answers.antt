use Rattle.std.proofs.Common.{◌≡◌, ◌∙◌, [], ◌∷◌, ◌++◌, length, take, ap, subst, sym, arith}
use Rattle.std.proofs.lemmas.List.{take_more}
use Rattle.std.proofs.lemmas.Option.{slice_get-get_or}
use Rattle.std.specs.Prelude.{Some, slice_get}
use Rattle.ug_model.specs.Plays.{IsStopped}
use Rattle.ug_model.proofs.Leaves.{honest_leave}
use Rattle.ug_model.proofs.Plays.{IsUnderWay, all_there, halted_so, played_so, under_way_more}
use Rattle.ug_model.proofs.schedule.play.Goals as goal

pub loop-done-preserved : goal.loop-done-preserved
loop-done-preserved c =
    let events = c.args.events.now in
    let event = c.index-events-done.result in
    let more = take_more events c.loop-done.done event c.loop-done-test.true
    ∙ ap (λ e. take c.loop-done.done events ++ e ∷ []) (sym c.index-events-done.is) in
    subst (λ es. IsUnderWay c.args.book es c.happen.new.self) (sym more)
    (under_way_more c.args.book c.loop-done.playing c.happen.new.self _ _ c.loop-done.invariant
    c.in-Ok.ensures.happened c.in-Ok.ensures.wide)

pub returns-in-Err-clause-stopped : goal.returns-in-Err-clause-stopped
returns-in-Err-clause-stopped c =
    let events = c.args.events.now in
    let event = c.index-events-done.result in
    let l = c.loop-done-test.true in
    let is : slice_get events c.loop-done.done ≡ Some event =
    slice_get-get_or events c.loop-done.done event l ∙ ap Some (sym c.index-events-done.is) in
    subst (λ fault. IsStopped c.args.book events fault) (sym c.stop.ensures)
    (halted_so c.args.book events c.loop-done.done c.loop-done.playing c.loop-done.invariant
    c.happen.new.self event c.in-Err.halt c.loop-done-test.true is c.in-Err.ensures.halted)

pub returns-clause-played : goal.returns-clause-played
returns-clause-played c =
    let t = c.loop-done.auto.done-end in
    let u = c.loop-done-test.false in
    let all : c.loop-done.done ≡ length c.args.events.now = omega (arith, t, u) in
    played_so c.args.book c.args.events.now c.loop-done.done c.loop-done.playing
    c.loop-done.invariant all _ c.end-left.ensures.book
    (c.from_vec.ensures ∙ c.end-left.ensures.replies)
    (c.from_vec-2.ensures ∙ c.end-left.ensures.decisions)

pub returns-clause-there : goal.returns-clause-there
returns-clause-there c =
    let t = c.loop-done.auto.done-end in
    let u = c.loop-done-test.false in
    let all : c.loop-done.done ≡ length c.args.events.now = omega (arith, t, u) in
    all_there c.args.book c.args.events.now c.loop-done.done c.loop-done.playing
    c.loop-done.invariant all

pub returns-clause-honest : goal.returns-clause-honest
returns-clause-honest c = λ sound unused.
    honest_leave c.args.book c.end-left.result.book c.args.events.now c.new-playing.ensures.book sound
    unused c.requires

pub returns-in-Err-clause-honest : goal.returns-in-Err-clause-honest
returns-in-Err-clause-honest c = λ sound unused.
    honest_leave c.args.book _ c.args.events.now c.new-playing.ensures.book sound unused c.requires
