use Rattle.std.proofs.Common.{◌≡◌, ◌<◌, ◌≤◌, ◌+◌, ◌++◌, ◌∙◌, sym, ap, subst, length, take, List, arith}
use Rattle.std.specs.Prelude.{ℤ, slice_set}
use Rattle.std.proofs.lemmas.Int.{to_z-of_z}
use Rattle.std.proofs.lemmas.List.{append_assoc, length-append}
use mir.Syntax.{w128}
use Rattle.ug_ranks.specs.declared.state.State.{State}
use Rattle.ug_ranks.specs.States.{state_at}
use Rattle.ug_ranks.specs.Changes.{won}
use Rattle.ug_rules.specs.declared.told.Told.{Told}
use Rattle.ug_rules.specs.Deciding.{loser_stop, loser_stops}
use Rattle.ug_stock.proofs.Loops.{more_told, room_for_one}
use Rattle.ug_stock.proofs.Racers.{AreLosersFreed, all_won, one_freed}
use Rattle.ug_stock.proofs.ending.crown.Goals as goal

pub stop_loser-requires-clause-room : goal.stop_loser-requires-clause-room
stop_loser-requires-clause-room c =
    let inv = c.loop-other.invariant in
    let k = c.loop-other.other in
    let there : k < length c.args.ranks.now = omega (
      arith,
      c.loop-other-test.true,
      ap (λ (ss : List State). length ss) c.as_slice.ensures.value,
      c.as_slice.ensures,
    ) in
    subst (λ (s : State). length (loser_stop c.args.rank k s) ≤ c.loop-other.orders.spare)
    (sym (inv.0.rest k (omega arith)))
    (room_for_one (loser_stop c.args.rank) c.args.ranks.now k there c.tell_winner.new.orders.spare
    c.loop-other.orders.spare (omega (arith, c.requires.room, c.tell_winner.ensures.spare)) inv.2)

pub loop-other-preserved : goal.loop-other-preserved
loop-other-preserved c =
    let inv = c.loop-other.invariant in
    let k = c.loop-other.other in
    let w = c.args.rank in
    let old = c.args.ranks.now in
    let told = c.tell_winner.new.orders.orders in
    let there : k < length old = omega (
      arith,
      c.loop-other-test.true,
      ap (λ (ss : List State). length ss) c.as_slice.ensures.value,
      c.as_slice.ensures,
    ) in
    let same : state_at c.loop-other.ranks k ≡ state_at old k = inv.0.rest k (omega arith) in
    let more = more_told (loser_stop w) old k there in
    let own = ap (λ (s : State). loser_stop w k s) same in (
      subst (λ (ss : List State). AreLosersFreed w old ss (k + 1)) (sym c.stop_loser.ensures.ranks)
          (one_freed w old c.loop-other.ranks k there inv.0),
      c.stop_loser.ensures.orders
          ∙ (ap (λ (ts : List Told). ts ++ loser_stop w k (state_at c.loop-other.ranks k)) inv.1
          ∙ (ap (λ (ts : List Told). told ++ loser_stops w (take k old) ++ ts) own
          ∙ (append_assoc told (loser_stops w (take k old)) (loser_stop w k (state_at old k))
          ∙ ap (λ (ts : List Told). told ++ ts) (sym more)))),
      omega (
        arith,
        inv.2,
        c.stop_loser.ensures.spare,
        ap (λ (ts : List Told). length ts) own,
        ap (λ (ts : List Told). length ts) more,
        length-append (loser_stops w (take k old)) (loser_stop w k (state_at old k)),
      ),
    )

pub returns-clause-ranks : goal.returns-clause-ranks
returns-clause-ranks c = c.win.ensures
    ∙ (ap (λ (z : ℤ). slice_set c.loop-other.ranks c.args.rank
    (won c.args.node z (state_at c.loop-other.ranks c.args.rank)))
    (to_z-of_z w128 c.args.floor c.ranges.floor)
    ∙ all_won c.args.rank
    (record { floor = c.args.floor; node = c.args.node }) c.args.ranks.now
    c.loop-other.ranks c.loop-other.other c.requires.there
    (omega (
      arith,
      c.loop-other-test.false,
      ap (λ (ss : List State). length ss) c.as_slice.ensures.value,
      c.as_slice.ensures,
    ))
    c.loop-other.invariant.0)
