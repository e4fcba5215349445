-- Orders to a racer, and its states after them.
use Rattle.std.proofs.Common.{◌≡◌, ◌≢◌, inl, inr, ℕ, ◌==◌, ◌+◌, ◌<◌, ◌≤◌, true, false, if◌then◌else◌, List, [], ◌∷◌, length, set, refl, sym, ap, ◌∙◌, subst, arith}
use Rattle.std.specs.Prelude.{Some, None}
use Rattle.std.proofs.lemmas.Bool.{cases_Bool, cases_eq, cases_lt, eq-eqb, eqb-true}
use Rattle.std.proofs.lemmas.Option.{none-some, same_Some}
use Rattle.std.proofs.lemmas.List.{ext_get_or, length-map, length-set, set-get_or}
use Rattle.ug_nodes.specs.declared.name.Ticket.{Ticket}
use Rattle.ug_pool.specs.declared.entry.Entry.{Entry}
use Rattle.ug_frames.specs.declared.order.Order.TheVariants.{Stop, Winner}
use Rattle.ug_ranks.specs.declared.state.Off.TheVariants.{Died}
use Rattle.ug_ranks.specs.declared.state.State.{State}
use Rattle.ug_ranks.specs.declared.state.State.TheVariants.{Absent, Idle, Racing, Active, Dead}
use Rattle.ug_ranks.specs.States.{state_at}
use Rattle.ug_ranks.specs.Changes.{won}
use Rattle.ug_rules.specs.Ranks.{racers_freed}
use Rattle.ug_ranks.specs.Looks.{is_racing, racer_ticket}
use Rattle.ug_rules.specs.Deciding.{loser_stop, ranks_won, winner_order}
use Rattle.ug_rules.proofs.WorkLemmas.{state_here, state_idled, state_there}
use Rattle.ug_stock.specs.Racers.{loser_freed}

pub no_winner : (r : ℕ) (s : State) → racer_ticket s ≡ None → winner_order r s ≡ []
no_winner r Absent e = refl
no_winner r Idle e = refl
no_winner r (Racing racer) e = absurd (none-some racer.ticket (sym e))
no_winner r (Active work) e = refl
no_winner r (Dead how) e = refl

pub told_winner : (r : ℕ) (s : State) (ticket : Ticket) → racer_ticket s ≡ Some ticket
    → winner_order r s ≡ record { rank = r; order = Winner ticket } ∷ []
told_winner r (Racing racer) ticket e =
    ap (λ (t : Ticket). record { rank = r; order = Winner t } ∷ [])
    (same_Some racer.ticket ticket e)
told_winner r Absent ticket e = absurd (none-some ticket e)
told_winner r Idle ticket e = absurd (none-some ticket e)
told_winner r (Active work) ticket e = absurd (none-some ticket e)
told_winner r (Dead how) ticket e = absurd (none-some ticket e)

is_same : (w r : ℕ) → r ≡ w → (r == w) ≡ true
is_same w r e = eq-eqb r w e

is_other : (w r : ℕ) → r ≢ w → (r == w) ≡ false
is_other w r ne = elim (cases_Bool (r == w)) [
  | inl is ↦ absurd (ne (eqb-true r w is))
  | inr fails ↦ fails
]

-- the winner is no loser
pub kept_winner : (w r : ℕ) (s : State) → r ≡ w → loser_freed w r s ≡ s
kept_winner w r s e = rw (is_same w r e) refl

pub untold_winner : (w r : ℕ) (s : State) → r ≡ w → loser_stop w r s ≡ []
untold_winner w r (Racing racer) e = rw (is_same w r e) refl
untold_winner w r Absent e = refl
untold_winner w r Idle e = refl
untold_winner w r (Active work) e = refl
untold_winner w r (Dead how) e = refl

-- nor is one that does not race
pub kept_other : (w r : ℕ) (s : State) → racer_ticket s ≡ None → loser_freed w r s ≡ s
kept_other w r s e = elim (cases_Bool (r == w)) [
  | inl is ↦ rw is refl
  | inr fails ↦ rw fails (by s e)
]
  where
    by : (s : State) → racer_ticket s ≡ None → (if is_racing s then Idle else s) ≡ s
    by (Racing racer) e = absurd (none-some racer.ticket (sym e))
    by Absent e = refl
    by Idle e = refl
    by (Active work) e = refl
    by (Dead how) e = refl

pub untold_other : (w r : ℕ) (s : State) → racer_ticket s ≡ None → loser_stop w r s ≡ []
untold_other w r (Racing racer) e = absurd (none-some racer.ticket (sym e))
untold_other w r Absent e = refl
untold_other w r Idle e = refl
untold_other w r (Active work) e = refl
untold_other w r (Dead how) e = refl

-- the other racers are
pub freed_loser : (w r : ℕ) (s : State) (ticket : Ticket) → r ≢ w → racer_ticket s ≡ Some ticket
    → loser_freed w r s ≡ Idle
freed_loser w r (Racing racer) ticket ne e = rw (is_other w r ne) refl
freed_loser w r Absent ticket ne e = absurd (none-some ticket e)
freed_loser w r Idle ticket ne e = absurd (none-some ticket e)
freed_loser w r (Active work) ticket ne e = absurd (none-some ticket e)
freed_loser w r (Dead how) ticket ne e = absurd (none-some ticket e)

pub told_loser : (w r : ℕ) (s : State) (ticket : Ticket) → r ≢ w → racer_ticket s ≡ Some ticket
    → loser_stop w r s ≡ record { rank = r; order = Stop ticket } ∷ []
told_loser w r (Racing racer) ticket ne e = rw (is_other w r ne)
    (ap (λ (t : Ticket). record { rank = r; order = Stop t } ∷ [])
    (same_Some racer.ticket ticket e))
told_loser w r Absent ticket ne e = absurd (none-some ticket e)
told_loser w r Idle ticket ne e = absurd (none-some ticket e)
told_loser w r (Active work) ticket ne e = absurd (none-some ticket e)
told_loser w r (Dead how) ticket ne e = absurd (none-some ticket e)

-- a state that is written as it was is nothing written
pub nothing_written : (ss : List State) (r : ℕ) (s : State) → s ≡ state_at ss r → ss ≡ set ss r s
nothing_written ss r s e = sym (ap (λ (t : State). set ss r t) e ∙ set-get_or ss r (Dead Died))

-- the losers before k are free, and the others as they were
pub record AreLosersFreed (w : ℕ) (old now : List State) (k : ℕ) : Type 0 where
  pub wide : length now ≡ length old
  pub done : (j : ℕ) → j < k → state_at now j ≡ loser_freed w j (state_at old j)
  pub rest : (j : ℕ) → k ≤ j → state_at now j ≡ state_at old j

pub one_freed : (w : ℕ) (old now : List State) (k : ℕ) → k < length old → AreLosersFreed w old now k
    → AreLosersFreed w old (set now k (loser_freed w k (state_at now k))) (k + 1)
one_freed w old now k there t = record {
  wide = length-set now k s ∙ t.wide;
  done = λ j lt. elim (cases_eq j k) [
    | inl e ↦ subst (λ i. state_at (set now k s) i ≡ loser_freed w i (state_at old i)) (sym e)
        (state_here now k s (omega (arith, there, t.wide))
        ∙ ap (λ (z : State). loser_freed w k z) (t.rest k (omega arith)))
    | inr ne ↦ state_there now k s j ne ∙ t.done j (less j lt ne)
  ];
  rest = λ j le. state_there now k s j (λ e. omega (arith, le, e)) ∙ t.rest j (omega (arith, le));
}
  where
    s : State
    s = loser_freed w k (state_at now k)

    less : (j : ℕ) → j < k + 1 → j ≢ k → j < k
    less j lt ne = elim (cases_lt j k) [ inl l ↦ l | inr ge ↦ absurd (ne (omega (arith, lt, ge))) ]

-- with the node the winner's the race is won
pub all_won : (w : ℕ) (entry : Entry) (old now : List State) (k : ℕ) → w < length old
    → length old ≤ k → AreLosersFreed w old now k
    → set now w (won entry.node entry.floor (state_at now w)) ≡ ranks_won w (Some entry) old
all_won w entry old now k there end t = ext_get_or (Dead Died) _ _
    (length-set now w _ ∙ (t.wide ∙ (sym wide ∙ sym (length-set (racers_freed old) w new))))
    (λ j lt. by j lt)
  where
    wide : length (racers_freed old) ≡ length old
    wide = length-map old (λ (state : State). if is_racing state then Idle else state)

    new : State
    new = won entry.node entry.floor (state_at old w)

    its : state_at now w ≡ state_at old w
    its = t.done w (omega (arith, there, end)) ∙ kept_winner w w (state_at old w) refl

    by : (j : ℕ) → j < length (set now w (won entry.node entry.floor (state_at now w)))
        → state_at (set now w (won entry.node entry.floor (state_at now w))) j
        ≡ state_at (set (racers_freed old) w new) j
    by j lt = elim (cases_eq j w) [
      | inl e ↦ subst
          (λ i. state_at (set now w (won entry.node entry.floor (state_at now w))) i
          ≡ state_at (set (racers_freed old) w new) i) (sym e)
          (state_here now w _ (omega (arith, there, t.wide))
          ∙ (ap (λ (z : State). won entry.node entry.floor z) its
          ∙ sym (state_here (racers_freed old) w new (omega (arith, there, wide)))))
      | inr ne ↦ state_there now w _ j ne
          ∙ (t.done j (omega (
            arith,
            lt,
            length-set now w
                (won entry.node entry.floor (state_at now w)),
            t.wide,
            end,
          ))
          ∙ (other j ne
          ∙ (sym (state_idled is_racing refl old j)
          ∙ sym (state_there (racers_freed old) w new j ne))))
    ]
      where
        other : (j : ℕ) → j ≢ w
            → loser_freed w j (state_at old j)
            ≡ (if is_racing (state_at old j) then Idle else state_at old j)
        other j ne = rw (is_other w j ne) refl
