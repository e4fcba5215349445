use Rattle.std.proofs.Common.{◌∙◌, subst, sym, ap, length, List, arith}
use Rattle.std.proofs.lemmas.Result.{on_ok_weaker}
use Rattle.ug_rules.specs.declared.member.Member.{Member}
use Rattle.ug_rules.specs.Wants.{IsWanted}
use Rattle.ug_stock.proofs.Counts.{members_work}
use Rattle.ug_rules.specs.Ranks.{members_in}
use Rattle.ug_stock.specs.Frontiers.{with_frontier}
use Rattle.ug_stock.proofs.Wants.{can_be_told, wanted_so}
use Rattle.ug_stock.proofs.frontier.Frontier.collect.Goals as goal

pub tell-requires-clause-told : goal.tell-requires-clause-told
tell-requires-clause-told c =
    can_be_told c.len-len.result c.from.result c.from-2.result c.args.self.now.ranks c.in_ok-demand.demand
    (omega (arith, c.from-2.ensures, c.ranges.high))
    (subst (λ (ms : List Member). IsWanted c.len-len.result c.from.result c.from-2.result ms
    c.in_ok-demand.demand)
    (c.as_slice.ensures.value ∙ c.in_ok-members.ensures.members) c.in_ok-demand.ensures.wanted)

pub tell-requires-clause-working : goal.tell-requires-clause-working
tell-requires-clause-working c = record {
  few = c.members_of.ensures.count;
  count = omega (
    arith,
    members_work c.args.self.now.ranks,
    ap (λ (ms : List Member). length ms)
        (c.as_slice.ensures.value ∙ c.in_ok-members.ensures.members),
    c.as_slice.ensures.len,
    c.len.ensures,
  );
  room = c.requires.room.orders;
}

pub returns-clause-ok : goal.returns-clause-ok
returns-clause-ok c =
    let s = c.args.self.now in
    let wanted = subst (λ (ms : List Member). IsWanted c.len-len.result c.from.result
    c.from-2.result ms c.in_ok-demand.demand)
    (c.as_slice.ensures.value ∙ c.in_ok-members.ensures.members) c.in_ok-demand.ensures.wanted in
    on_ok_weaker c.tell.result
    (λ done b low high. record {
      demand = c.in_ok-demand.demand;
      wanted = wanted_so c.len-len.result c.from.result c.from-2.result (length s.pool.entries)
          b.settings.low b.settings.high (members_in s.ranks) c.in_ok-demand.demand
          c.len-len.ensures.value (c.from.ensures ∙ sym low) (c.from-2.ensures ∙ sym high) wanted;
      done = done (with_frontier b s);
    })
    c.tell.ensures.ok
