use Rattle.std.proofs.Common.{◌+◌, ◌%◌, ◌≤◌, ◌∙◌, ap, sym, length, List, arith}
use Rattle.ug_ranks.specs.declared.state.State.{State}
use Rattle.ug_ranks.specs.Changes.{racer_of}
use Rattle.ug_ranks.specs.States.{state_at}
use Rattle.ug_ranks.specs.Looks.{is_idle}
use Rattle.ug_rules.specs.Deciding.{racer_params}
use Rattle.ug_rules.proofs.FirstLemmas.{idle_is}
use Rattle.ug_stock.specs.Telling.{ticket_under}
use Rattle.ug_stock.proofs.Joining.{all_joined, as_many_spare, box_left, one_joins, other_passed, place_left}
use Rattle.ug_stock.proofs.frontier.Frontier.race_all.Goals as goal

pub state-requires : goal.state-requires
state-requires c = omega (
  arith,
  c.loop-rank-test.true,
  ap (λ (ss : List State). length ss) c.as_slice.ensures.value,
  c.loop-rank.invariant.wide,
)

pub loop-rank-preserved-then-not-is_idle : goal.loop-rank-preserved-then-not-is_idle
loop-rank-preserved-then-not-is_idle c =
    let old = c.args.self.now in
    let now = c.loop-rank.self in
    other_passed c.args.terms c.args.boxes.items c.loop-rank.boxes.items old now c.loop-rank.rank
    (omega (
      arith,
      c.loop-rank-test.true,
      ap (λ (ss : List State). length ss) c.as_slice.ensures.value,
    ))
    (ap is_idle (sym c.state.ensures) ∙ (sym c.is_idle.ensures ∙ c.if-not-is_idle.true))
    c.loop-rank.invariant

pub loop-rank-preserved-in_default : goal.loop-rank-preserved-in_default
loop-rank-preserved-in_default c =
    let old = c.args.self.now in
    let now = c.loop-rank.self in
    let some = box_left c.args.terms c.args.boxes.items c.loop-rank.boxes.items old now
    c.loop-rank.rank
    (omega (
      arith,
      c.loop-rank-test.true,
      ap (λ (ss : List State). length ss) c.as_slice.ensures.value,
    ))
    (idle_is (state_at c.loop-rank.self.ranks c.loop-rank.rank)
    (ap is_idle (sym c.state.ensures) ∙ (sym c.is_idle.ensures ∙ c.if-not-is_idle.false)))
    c.loop-rank.invariant in
    absurd (omega (arith, some, c.in_default.ensures.cases.0, c.loop-rank.boxes.ok))

pub race_one-requires-clause-number : goal.race_one-requires-clause-number
race_one-requires-clause-number c = omega (
  arith,
  c.loop-rank-test.true,
  c.as_slice.ensures,
  ap (λ (ss : List State). length ss) c.as_slice.ensures.value,
  c.loop-rank.invariant.last,
)

pub race_one-requires-clause-room : goal.race_one-requires-clause-room
race_one-requires-clause-room c =
    let old = c.args.self.now in
    let now = c.loop-rank.self in
    place_left c.args.terms c.args.boxes.items c.loop-rank.boxes.items old now c.loop-rank.rank
    (omega (
      arith,
      c.loop-rank-test.true,
      ap (λ (ss : List State). length ss) c.as_slice.ensures.value,
    ))
    (idle_is (state_at c.loop-rank.self.ranks c.loop-rank.rank)
    (ap is_idle (sym c.state.ensures) ∙ (sym c.is_idle.ensures ∙ c.if-not-is_idle.false)))
    c.requires.room c.loop-rank.invariant

pub loop-rank-preserved : goal.loop-rank-preserved
loop-rank-preserved c =
    let old = c.args.self.now in
    let now = c.loop-rank.self in
    let new = c.race_one.new.self in
    one_joins c.args.terms c.args.boxes.items c.loop-rank.boxes.items c.pop.new.self.items
    c.in-Some.changes old now new
    (racer_of (ticket_under c.args.terms (c.loop-rank.self.last + 1))
    (racer_params c.loop-rank.rank))
    c.loop-rank.rank
    (omega (
      arith,
      c.loop-rank-test.true,
      ap (λ (ss : List State). length ss) c.as_slice.ensures.value,
    ))
    (idle_is (state_at c.loop-rank.self.ranks c.loop-rank.rank)
    (ap is_idle (sym c.state.ensures) ∙ (sym c.is_idle.ensures ∙ c.if-not-is_idle.false)))
    c.in-Some.ensures.items c.race_one.ensures.part.ranks c.race_one.ensures.part.last
    c.race_one.ensures.part.orders c.race_one.ensures.part.kept c.race_one.ensures.part.joined
    c.loop-rank.invariant

pub returns : goal.returns
returns c =
    let old = c.args.self.now in
    let now = c.loop-rank.self in
    let end : length old.ranks ≤ c.loop-rank.rank = omega (
      arith,
      c.loop-rank-test.false,
      ap (λ (ss : List State). length ss) c.as_slice.ensures.value,
    ) in
    record {
      part = record {
        joined = all_joined c.args.terms c.args.boxes.items c.loop-rank.boxes.items old now
            c.loop-rank.rank end c.loop-rank.invariant;
        nodes = c.loop-rank.invariant.nodes;
        orders = as_many_spare c.args.terms c.args.boxes.items c.loop-rank.boxes.items old now
            c.loop-rank.rank end c.loop-rank.invariant;
        kept = c.loop-rank.invariant.kept;
      };
    }
