use Rattle.std.proofs.Common.{rules, ◌≡◌, refl, sym, subst}
use Rattle.std.proofs.lemmas.Int.{to_z-of_z}
use mir.Syntax.{w128}
use Rattle.ug_frames.specs.declared.order.Order.TheVariants.{Setup}
use Rattle.ug_problem.specs.Instances.{Instance}
use Rattle.ug_records.specs.Answers.{IsRecordOf, IsRefused}
use Rattle.ug_serve.specs.Actions.{Basis, Blank, SetUp}
use Rattle.ug_serve.specs.Serving.{stands_as}
use Rattle.ug_serve.proofs.Seating.{taken_on}
use Rattle.ug_serve.proofs.server.set_up.Goals as goal

pub sit-requires-clause-on : goal.sit-requires-clause-on
sit-requires-clause-on g c =
    let its : IsRecordOf c.args.bytes c.in-Ok.problem = search rules in
    let basis : Basis = record { problem = c.in-Ok.problem; gap = c.args.gap } in
    subst (λ gap. stands_as c.args.wire.end (g.L.Link.seen c.args.wire.link) c.args.wire.orders
    (SetUp (record { problem = c.in-Ok.problem; gap = gap }))) (sym (to_z-of_z w128 c.args.gap c.ranges.gap))
    (taken_on c.args.wire.end (g.L.Link.seen c.args.wire.link) c.args.wire.orders Blank (SetUp basis)
    (Setup c.args.gap c.args.bytes) c.args.wire.at c.requires.on
    (record { problem = c.in-Ok.problem; blank = refl; its = its; set = refl }) c.requires.next)

pub ended-requires : goal.ended-requires
ended-requires g c =
    let same : c.as_slice.result.now ≡ c.args.bytes = search rules in
    let refused = subst (IsRefused c.as_slice.result.now) c.in-BadRecord.is c.in-Err.ensures.refused in
    let none = subst (λ bytes. (p : Instance) → ¬ IsRecordOf bytes p) same refused.1 in
    c.refuse.ensures Blank (Setup c.args.gap c.args.bytes) tt c.requires.next
    (λ new taken. none taken.problem taken.its)

pub ended-requires-in-Memory : goal.ended-requires-in-Memory
ended-requires-in-Memory g c =
    c.want.ensures.next Blank (Setup c.args.gap c.args.bytes) c.requires.on c.requires.next
