-- What was given out at each turn.
use Rattle.std.proofs.Common.{◌≡◌, ℕ, zero, suc, true, false, Option, length, refl, ap, sym, ◌∙◌, arith}
use Rattle.ug_pool.specs.declared.entry.Entry.{Entry}
use Rattle.ug_rules.specs.State.{BookState, raced_node}
use Rattle.ug_rules.specs.Deciding.{assigned_times, assignments, given, handouts, is_race_awaited, is_race_due, race_begun}
use Rattle.ug_stock.specs.declared.terms.Terms.{Terms}
use Rattle.ug_stock.specs.declared.turns.Turn.TheVariants.{Race, Wait, Nodes}
use Rattle.ug_stock.specs.declared.frontier.Frontier.{Frontier}
use Rattle.ug_stock.specs.Frontiers.{HasRoom, with_frontier}
use Rattle.ug_stock.specs.Giving.{HasGivenAll, HasGivenPart}
use Rattle.ug_stock.specs.Assigning.{HasAssignedAll, HasAssignedPart, KeepsPlaces}
use Rattle.ug_stock.specs.Racing.{HasBegun}
use Rattle.ug_stock.specs.Turns.{HasTurn}

race_is_one : (b : BookState) → is_race_due b ≡ true → handouts b ≡ 1
race_is_one b due = rw due refl

race_given : (b : BookState) → is_race_due b ≡ true → given 1 b ≡ race_begun b
race_given b due = rw due refl

wait_is_none : (b : BookState) → is_race_due b ≡ false → is_race_awaited b ≡ true
    → handouts b ≡ 0
wait_is_none b none waits = rw none (rw waits refl)

nodes_are : (b : BookState) → is_race_due b ≡ false → is_race_awaited b ≡ false
    → handouts b ≡ assignments b
nodes_are b none goes = rw none (rw goes refl)

nodes_given : (b : BookState) → is_race_due b ≡ false → (n : ℕ) → given n b ≡ assigned_times n b
nodes_given b none zero = refl
nodes_given b none (suc n) = rw none refl

-- a race that is due has begun, or lack of memory kept it from that
pub race_all_given : (terms : Terms) (old new : Frontier) → HasTurn terms old Race
    → HasBegun terms old new → HasGivenAll terms old new 1
race_all_given terms old new turn begun = λ b is. record {
  count = sym (race_is_one (with_frontier b old) (turn b is));
  given_ = begun b is ∙ sym (race_given (with_frontier b old) (turn b is));
}

pub race_not_given : (terms : Terms) (old new : Frontier) → HasTurn terms old Race
    → new ≡ old → HasGivenPart terms old new 0
race_not_given terms old new turn same = λ b is. record {
  count = omega (arith, race_is_one (with_frontier b old) (turn b is));
  given_ = ap (λ (s : Frontier). with_frontier b s) same;
}

-- nothing is given while one is awaited
pub none_given : (terms : Terms) (old : Frontier) → HasTurn terms old Wait
    → HasGivenAll terms old old 0
none_given terms old turn = λ b is. record {
  count = sym (wait_is_none (with_frontier b old) (turn b is).0 (turn b is).1);
  given_ = refl;
}

-- all nodes that can be, or some of them
pub nodes_all_given : (terms : Terms) (old new : Frontier) (steps : ℕ) → HasTurn terms old Nodes
    → HasAssignedAll terms old new steps → HasGivenAll terms old new steps
nodes_all_given terms old new steps turn all = λ b is.
    let t = all b is in
    record {
      count = t.count ∙ sym (nodes_are (with_frontier b old) (turn b is).0 (turn b is).1);
      given_ = t.given_ ∙ sym (nodes_given (with_frontier b old) (turn b is).0 steps);
    }

pub nodes_part_given : (terms : Terms) (old new : Frontier) (steps : ℕ) → HasTurn terms old Nodes
    → HasAssignedPart terms old new steps → HasGivenPart terms old new steps
nodes_part_given terms old new steps turn part = λ b is.
    let t = part b is in
    record {
      count = omega
          (arith, t.count, nodes_are (with_frontier b old) (turn b is).0 (turn b is).1);
      given_ = t.given_ ∙ sym (nodes_given (with_frontier b old) (turn b is).0 steps);
    }

-- and there is as much room as before
pub room_kept : (old new : Frontier) → KeepsPlaces old new
    → HasRoom old → HasRoom new
room_kept old new t room = record {
  pool = omega (arith, room.pool, t.pool, ap (λ (e : Option Entry). length (raced_node e)) t.raced);
  orders = t.orders room.orders;
}
