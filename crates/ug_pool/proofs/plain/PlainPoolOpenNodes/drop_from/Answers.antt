use Rattle.std.proofs.Common.{◌≡◌, int_lt, sym, ap, ◌∙◌, arith, rules}
use Rattle.std.proofs.lemmas.Grind.{common_steps}
use Rattle.ug_pool.specs.Pools.{with_floor_below}
use Rattle.ug_pool.specs.declared.entry.Entry.{Entry}
use Rattle.ug_pool.specs.Plain.{in_order}
use Rattle.ug_pool.proofs.Sorts.{filter_of_order, length_in_order}
use Rattle.ug_pool.proofs.plain.PlainPoolOpenNodes.drop_from.Goals as goal

pub returns : goal.returns
returns c =
    let old = c.self.inside.entries in
    let new = c.keep_with_floor_below.new.entries in
    let kept : new.items ≡ with_floor_below c.args.value old.items = search rules in
    rw (← c.self.view_is)
    (record {
      entries = ap in_order kept ∙ sym (filter_of_order (λ (e : Entry). int_lt e.floor c.args.value) old.items);
      spare = grind (arith, common_steps, length_in_order new.items, length_in_order old.items, c.len-before.ensures, c.len.ensures, c.keep_with_floor_below.ensures.fewer);
    })
