use Rattle.std.proofs.Common.{◌<◌, ◌++◌, ◌∙◌, sym, ap, length, take, List, arith}
use Rattle.ug_rules.specs.declared.member.Member.{Member}
use Rattle.ug_ranks.specs.declared.state.State.{State}
use Rattle.ug_rules.specs.Ranks.{member_at, members_in}
use Rattle.ug_stock.proofs.Loops.{more_told}
use Rattle.ug_stock.proofs.members.members_of.Goals as goal

pub loop-rank-preserved : goal.loop-rank-preserved
loop-rank-preserved c =
    let k = c.loop-rank.rank in
    let ss = c.args.ranks.now in
    let there : k < length ss = omega (
      arith,
      c.loop-rank-test.true,
      ap (λ (xs : List State). length xs) c.as_slice-count.ensures.value,
      c.as_slice-count.ensures,
    ) in
    c.in_ok-add_member.ensures
    ∙ (ap (λ (ms : List Member). ms ++ member_at k c.state.result.now) c.loop-rank.invariant
    ∙ (ap (λ (s : State). members_in (take k ss) ++ member_at k s) c.state.ensures
    ∙ sym (more_told member_at ss k there)))
