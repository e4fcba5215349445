use Rattle.std.proofs.Common.{refl, rules, ◌∙◌}
use Rattle.ug_desk.proofs.Parceled.{is_parcel, parcel_is}
use Rattle.ug_desk.proofs.parcel.Parcel.of.Goals as goal

pub invariant_of-result : goal.invariant_of-result
invariant_of-result c =
    is_parcel _ c.args.book.now c.args.node.now c.problem.ensures.book (c.in-Ok.ensures ∙ c.problem.ensures.value)
    c.in_ok-changes.ensures c.requires c.cutoff-cutoff.ensures.small (search rules)

pub returns : goal.returns
returns c =
    parcel_is _ c.args.book.now c.args.ticket c.args.params c.args.node.now
    (c.in-Ok.ensures ∙ c.problem.ensures.value) refl refl c.in_ok-changes.ensures c.cutoff-cutoff.ensures.value
    (search rules)
