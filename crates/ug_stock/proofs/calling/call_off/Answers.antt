use Rattle.std.proofs.Common.{◌≡◌, ◌<◌, ◌≤◌, ◌+◌, ◌++◌, ◌∙◌, refl, sym, ap, subst, length, take, List, arith}
use Rattle.std.proofs.lemmas.List.{append_assoc, length-append}
use Rattle.ug_ranks.specs.declared.state.State.{State}
use Rattle.ug_ranks.specs.States.{state_at}
use Rattle.ug_rules.specs.declared.told.Told.{Told}
use Rattle.ug_rules.specs.Deaths.{stop_at, stops_below, works_below}
use Rattle.ug_stock.proofs.Loops.{AreIdled, all_idled, more_told, one_idled, room_for_one}
use Rattle.ug_stock.proofs.calling.call_off.Goals as goal

-- src/death.rt:59:9
pub call_off_one-requires-clause-room : goal.call_off_one-requires-clause-room
call_off_one-requires-clause-room c =
    let inv = c.loop-rank.invariant in
    let k = c.loop-rank.rank in
    let there : k < length c.args.ranks.now = omega (
      arith,
      c.loop-rank-test.true,
      ap
          (λ (ss : List State). length ss) c.as_slice.ensures.value,
      c.as_slice.ensures,
    ) in
    subst (λ (s : State). length (stop_at c.args.line.now k s) ≤ c.loop-rank.orders.spare)
    (sym (inv.0.rest k (omega arith)))
    (room_for_one (stop_at c.args.line.now) c.args.ranks.now k there c.args.orders.now.spare
    c.loop-rank.orders.spare c.requires inv.2)

-- src/death.rt:58:5
pub loop-rank-preserved : goal.loop-rank-preserved
loop-rank-preserved c =
    let inv = c.loop-rank.invariant in
    let k = c.loop-rank.rank in
    let line = c.args.line.now in
    let old = c.args.ranks.now in
    let there : k < length old = omega (
      arith,
      c.loop-rank-test.true,
      ap
          (λ (ss : List State). length ss) c.as_slice.ensures.value,
      c.as_slice.ensures,
    ) in
    let same : state_at c.loop-rank.ranks k ≡ state_at old k = inv.0.rest k (omega arith) in
    let more = more_told (stop_at line) old k there in
    let own = ap (λ (s : State). stop_at line k s) same in (
      subst (λ (ss : List State). AreIdled (works_below line) old ss (k + 1))
          (sym c.call_off_one.ensures.ranks)
          (one_idled (works_below line) old c.loop-rank.ranks k there inv.0),
      c.call_off_one.ensures.orders
          ∙ (ap (λ (ts : List Told). ts ++ stop_at line k (state_at c.loop-rank.ranks k)) inv.1
          ∙ (ap (λ (ts : List Told). c.args.orders.now.orders ++ stops_below line
          (take k old) ++ ts) own
          ∙ (append_assoc c.args.orders.now.orders (stops_below line (take k old))
          (stop_at line k (state_at old k))
          ∙ ap (λ (ts : List Told). c.args.orders.now.orders ++ ts) (sym more)))),
      omega (
        arith,
        inv.2,
        c.call_off_one.ensures.spare,
        ap (λ (ts : List Told). length ts) own,
        ap (λ (ts : List Told). length ts) more,
        length-append (stops_below line (take k old)) (stop_at line k (state_at old k)),
      ),
    )

-- src/death.rt:52:1
pub returns-clause-ranks : goal.returns-clause-ranks
returns-clause-ranks c = all_idled (works_below c.args.line.now) refl c.args.ranks.now
    c.loop-rank.ranks c.loop-rank.rank
    (omega (
      arith,
      c.loop-rank-test.false,
      ap
          (λ (ss : List State). length ss) c.as_slice.ensures.value,
      c.as_slice.ensures,
    ))
    c.loop-rank.invariant.0
