use Rattle.std.proofs.Common.{◌≡◌, length, arith, rules, ◌∙◌}
use Rattle.ug_mps.specs.Names.{IsGapFor}
use Rattle.ug_mps.proofs.NamesLemmas.{ordered_add, undone}
use Rattle.ug_mps.proofs.names.Names.add.Goals as goal

pub invariant_of-self-in-Ok : goal.invariant_of-self-in-Ok
invariant_of-self-in-Ok c =
    let names = c.self.inside.names.items in
    let order = c.self.inside.order.items in
    let gap : IsGapFor names order c.args.name.now c.gap_for-at.result = rw (← c.deref.ensures.value, ← c.deref-2.ensures.value) c.gap_for-at.ensures in
    rw (c.in-Ok.ensures.items, c.in_ok-push.ensures.items, c.in_ok-text.ensures)
    (ordered_add names order c.self.invariant c.args.name.now c.gap_for-at.result gap _ (omega (arith, c.self.inside.names.ok.0)))

pub returns-in-Err-clause-err : goal.returns-in-Err-clause-err
returns-in-Err-clause-err c =
    let place : c.len-place.result ≡ length c.self.inside.names.items = search rules in
    undone c.self.inside.names.items c.push.new.self.items c.truncate.new.self.items _ c.len-place.result
    c.truncate.ensures.items place c.in_ok-push.ensures.items
    ∙ c.self.view_is

pub invariant_of-self-in-Err : goal.invariant_of-self-in-Err
invariant_of-self-in-Err c =
    let place : c.len-place.result ≡ length c.self.inside.names.items = search rules in
    rw (
      undone c.self.inside.names.items c.push.new.self.items c.truncate.new.self.items _ c.len-place.result
          c.truncate.ensures.items place c.in_ok-push.ensures.items,
      c.in-Err.ensures.items,
    ) c.self.invariant
