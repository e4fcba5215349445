-- Known facts about each current ticket: the box with which it was given, and the hands taken under
-- it were sent.
use Rattle.std.proofs.Common.{◌≡◌, ◌⊎◌, inl, inr, ℕ, ◌<◌, Bool, List, ◌++◌, length, set, refl, ap, sym, ◌∙◌, subst}
use Rattle.std.specs.Prelude.{ℤ, Contains, Option, Some}
use Rattle.std.proofs.lemmas.Bool.{cases_eq, cases_lt}
use Rattle.std.proofs.lemmas.List.{set_past}
use Rattle.std.proofs.lemmas.List.Elements.{Contains-append_cases, Contains-append_left, Contains-append_right}
use Rattle.ug_rows.specs.declared.area.Interval.{Interval}
use Rattle.ug_rows.specs.Boxes.{box_at}
use Rattle.ug_branch.specs.declared.params.Params.{Params}
use Rattle.ug_problem.specs.Instances.{Instance, root_of}
use Rattle.ug_pool.specs.declared.entry.Entry.{Entry}
use Rattle.ug_frames.specs.declared.order.Order.TheVariants.{Work as WorkOrder}
use Rattle.ug_frames.specs.declared.report.Report.{Report}
use Rattle.ug_ranks.specs.declared.state.State.{State}
use Rattle.ug_ranks.specs.States.{state_at}
use Rattle.ug_ledger.specs.Ledgers.{Current, IsCurrent, Ledger}
use Rattle.ug_ledger.specs.Moves.{IsLess}
use Rattle.ug_rules.specs.declared.told.Told.{Told}
use Rattle.ug_rules.specs.State.{BookState, current_of, ledger_of}
use Rattle.ug_rules.proofs.HeldLemmas.{current_is, is_current}
use Rattle.ug_rules.proofs.WorkLemmas.{state_here, state_there}
use Rattle.ug_frames.specs.Honest.{IsBoxOfHand}

-- an order to work on the ticket's node is among these
pub record IsTold (orders : List Told) (c : Current) : Type 0 where
  pub rank : ℕ
  pub params : Params
  pub race : Bool
  pub cutoff : Option ℤ
  pub queued : Contains orders (record {
    rank = rank;
    order = WorkOrder c.ticket params race cutoff c.node.changes;
  })

-- so it was, and each box taken is that of a hand which was sent
pub record IsKnown (root : List Interval) (sent : List Report) (orders : List Told) (c : Current)
    : Type 0 where
  pub told : IsTold orders c
  pub taken : (i : ℕ) → i < length c.taken → IsBoxOfHand root sent c.ticket i (box_at c.taken i)

-- of each current ticket, by the orders that were sent and those that wait
pub record AreKnown (past : List Told) (b : BookState) (sent : List Report) : Type 0 where
  pub each : (q : ℕ) (c : Current) → current_of b.raced (state_at b.ranks q) ≡ Some c
      → IsKnown (root_of b.problem) sent (past ++ b.orders) c

-- each order of the first list is one of the second
abbrev pub AreAmong : List Told → List Told → Type 0
AreAmong old new = (t : Told) → Contains old t → Contains new t

pub among_more : (orders more : List Told) → AreAmong orders (orders ++ more)
among_more orders more t h = Contains-append_left orders more t h

-- and those that were reported stay so
pub among_behind : (past old new : List Told) → AreAmong old new
    → AreAmong (past ++ old) (past ++ new)
among_behind past old new among t h = elim (Contains-append_cases past old t h) [
  | inl there ↦ Contains-append_left past new t there
  | inr there ↦ Contains-append_right past new t (among t there)
]

pub known_later : (root : List Interval) (sent : List Report) (old new : List Told) (c : Current)
    → AreAmong old new → IsKnown root sent old c → IsKnown root sent new c
known_later root sent old new c among k = record {
  told = record {
    rank = k.told.rank;
    params = k.told.params;
    race = k.told.race;
    cutoff = k.told.cutoff;
    queued = among _ k.told.queued;
  };
  taken = k.taken;
}

-- what was sent stays so
box_sent : (root : List Interval) (sent more : List Report) (c : Current) (i : ℕ)
    → IsBoxOfHand root sent c.ticket i (box_at c.taken i)
    → IsBoxOfHand root (sent ++ more) c.ticket i (box_at c.taken i)
box_sent root sent more c i t = record {
  changes = t.changes;
  among = Contains-append_left sent more _ t.among;
  valid = t.valid;
  box = t.box;
}

pub known_sent : (past : List Told) (b : BookState) (sent more : List Report)
    → AreKnown past b sent → AreKnown past b (sent ++ more)
known_sent past b sent more k = record {
  each = λ q c h.
      let t = k.each q c h in
      record {
        told = t.told;
        taken = λ i short. box_sent (root_of b.problem) sent more c i (t.taken i short);
      };
}

-- an event keeps the problem and the settings, and what is known
pub record Carries (past : List Told) (sent : List Report) (old new : BookState) : Type 0 where
  pub problem : new.problem ≡ old.problem
  pub settings : new.settings ≡ old.settings
  pub known : AreKnown past old sent → AreKnown past new sent

pub carries_both : (past : List Told) (sent : List Report) (a b c : BookState) → Carries past sent a b → Carries past sent b c
    → Carries past sent a c
carries_both past sent a b c f g = record {
  problem = g.problem ∙ f.problem;
  settings = g.settings ∙ f.settings;
  known = λ k. g.known (f.known k);
}

pub carries_itself : (past : List Told) (sent : List Report) (b : BookState) → Carries past sent b b
carries_itself past sent b = record { problem = refl; settings = refl; known = λ k. k }

-- a ticket that is current was so before
abbrev pub AreFewer : BookState → BookState → Type 0
AreFewer old new =
    (q : ℕ) (c : Current) → current_of new.raced (state_at new.ranks q) ≡ Some c
    → current_of old.raced (state_at old.ranks q) ≡ Some c

pub fewer_carried : (past : List Told) (sent : List Report) (old new : BookState) → new.problem ≡ old.problem
    → new.settings ≡ old.settings → AreAmong old.orders new.orders → AreFewer old new
    → Carries past sent old new
fewer_carried past sent old new problem settings among fewer = record {
  problem = problem;
  settings = settings;
  known = λ k. record {
    each = λ q c h. subst (λ (p : Instance). IsKnown (root_of p) sent (past ++ new.orders) c) (sym problem)
        (known_later (root_of old.problem) sent (past ++ old.orders) (past ++ new.orders) c
        (among_behind past old.orders new.orders among)
        (k.each q c (fewer q c h)));
  };
}

-- so it is where the ledger has less
pub less_is_fewer : (old new : BookState) → IsLess (ledger_of old) (ledger_of new)
    → AreFewer old new
less_is_fewer old new less q c h = current_is old q c (less.current q c (is_current new q c h))

-- or is the same
pub same_is_fewer : (old new : BookState) → ledger_of new ≡ ledger_of old → AreFewer old new
same_is_fewer old new e q c h =
    current_is old q c (subst (λ (l : Ledger). IsCurrent l q c) e (is_current new q c h))

-- a ticket current after a state was written is so by this state, at its rank, or was so before
pub written_current : (raced : Option Entry) (ss : List State) (r : ℕ) (s : State) (q : ℕ)
    (c : Current) → current_of raced (state_at (set ss r s) q) ≡ Some c
    → ((q ≡ r) × (current_of raced s ≡ Some c)) ⊎ (current_of raced (state_at ss q) ≡ Some c)
written_current raced ss r s q c h = elim (cases_eq q r) [
  | inl e ↦ elim (cases_lt r (length ss)) [
    | inl l ↦
        let at = subst (λ k. current_of raced (state_at (set ss r s) k) ≡ Some c) e h in
        inl (e, sym (ap (current_of raced) (state_here ss r s l)) ∙ at)
    | inr past ↦
        inr (subst (λ states. current_of raced (state_at states q) ≡ Some c) (set_past ss r s past) h)
  ]
  | inr ne ↦ inr (sym (ap (current_of raced) (state_there ss r s q ne)) ∙ h)
]
