use Rattle.std.proofs.Common.{◌<◌, ◌≤◌, sym, subst, ap, length, of_z, to_z, List, arith}
use Rattle.std.specs.Prelude.{ℤ}
use Rattle.std.proofs.lemmas.Int.{to_z-of_z}
use mir.Syntax.{w128}
use Rattle.ug_ranks.specs.declared.state.State.{State}
use Rattle.ug_rules.specs.Deciding.{announcement, announcements}
use Rattle.ug_stock.proofs.Loops.{room_for_one}
use Rattle.ug_stock.proofs.Announced.{one_told}
use Rattle.ug_stock.proofs.announcing.tell_joined.Goals as goal

pub tell_one-requires-clause-room : goal.tell_one-requires-clause-room
tell_one-requires-clause-room c =
    let k = c.loop-rank.rank in
    let ss = c.args.ranks.now in
    let there : k < length ss = omega (
      arith,
      c.loop-rank-test.true,
      ap (λ (xs : List State). length xs) c.as_slice.ensures.value,
      c.as_slice.ensures,
    ) in
    room_for_one (announcement (to_z w128 (of_z w128 c.args.cutoff))) ss k there
    c.args.orders.now.spare c.loop-rank.orders.spare
    (subst (λ (z : ℤ). length (announcements z ss) ≤ c.args.orders.now.spare)
    (sym (to_z-of_z w128 c.args.cutoff c.ranges.cutoff)) c.requires) c.loop-rank.invariant.places

pub loop-rank-preserved : goal.loop-rank-preserved
loop-rank-preserved c =
    let k = c.loop-rank.rank in
    let ss = c.args.ranks.now in
    let there : k < length ss = omega (
      arith,
      c.loop-rank-test.true,
      ap (λ (xs : List State). length xs) c.as_slice.ensures.value,
      c.as_slice.ensures,
    ) in
    one_told (to_z w128 (of_z w128 c.args.cutoff)) ss c.args.orders.now c.loop-rank.orders
    c.tell_one.new.orders k there c.loop-rank.invariant c.tell_one.ensures.orders
    c.tell_one.ensures.spare
