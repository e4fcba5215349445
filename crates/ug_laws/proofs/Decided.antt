-- A decision keeps what is known of the tickets.
use Rattle.std.proofs.Common.{◌≡◌, zero, suc, inl, inr, ℕ, ℤ, Bool, true, false, List, [], ◌∷◌, ◌++◌, refl, sym, ◌∙◌, subst}
use Rattle.std.specs.Prelude.{Option, Some, None, slice_set, if◌then◌else◌}
use Rattle.ug_pool.specs.declared.entry.Entry.{Entry}
use Rattle.ug_rules.specs.declared.demand.Wanted.{Wanted}
use Rattle.ug_rules.specs.declared.demand.Wanted.TheVariants.{Ask, Enough, Nothing}
use Rattle.ug_frames.specs.declared.report.Report.{Report}
use Rattle.ug_ranks.specs.declared.state.State.{State}
use Rattle.ug_ranks.specs.declared.state.State.TheVariants.{Absent, Idle, Racing, Active, Dead}
use Rattle.ug_ranks.specs.States.{state_at}
use Rattle.ug_ranks.specs.Changes.{asked_for, won}
use Rattle.ug_ledger.specs.Ledgers.{Current}
use Rattle.ug_rules.specs.declared.told.Told.{Told}
use Rattle.ug_rules.specs.State.{BookState, current_of, cutoff_of_best}
use Rattle.ug_rules.specs.Ranks.{racers_freed}
use Rattle.ug_ranks.specs.Looks.{is_racing}
use Rattle.ug_rules.specs.Books.{IsBook}
use Rattle.ug_rules.specs.Deciding.{IsDecided, IsRaceEnded, IsReadied, Stands, announced, announced_as, announcements, collect_in, collect_out, collected, dropped, given, handouts, loser_stops, race_won, ranks_won, same_cutoff, stopped_collecting, winner_order}
use Rattle.ug_rules.proofs.BookLemmas.{asked_alike}
use Rattle.ug_rules.proofs.DecidedLemmas.{readied_keeps}
use Rattle.ug_rules.proofs.TicketLemmas.{idled_current, without_race}
use Rattle.ug_laws.proofs.Known.{Carries, among_more, carries_both, carries_itself, fewer_carried, written_current}
use Rattle.ug_laws.proofs.Given.{handed_out_carries}

-- the announcements
announced_carries : (past : List Told) (sent : List Report) (cutoff : Option ℤ) (b : BookState)
    → Carries past sent b (announced_as cutoff b)
announced_carries past sent None b = carries_itself past sent b
announced_carries past sent (Some cutoff) b = by (same_cutoff b.announced cutoff)
  where
    by : (same : Bool) → Carries past sent b (if same
        then b
        else record b { orders = b.orders ++ announcements cutoff b.ranks; announced = Some cutoff })
    by true = carries_itself past sent b
    by false = fewer_carried past sent b _ refl refl
        (among_more b.orders (announcements cutoff b.ranks)) (λ q c h. h)

-- the winner's ticket is current for what it was
won_current : (entry : Entry) (s : State) (c : Current)
    → current_of None (won entry.node entry.floor s) ≡ Some c → current_of (Some entry) s ≡ Some c
won_current entry Absent c h = h
won_current entry Idle c h = h
won_current entry (Racing racer) c h = h
won_current entry (Active work) c h = h
won_current entry (Dead how) c h = h

won_fewer : (rank : ℕ) (raced : Option Entry) (ss : List State) (q : ℕ) (c : Current)
    → current_of None (state_at (ranks_won rank raced ss) q) ≡ Some c
    → current_of raced (state_at ss q) ≡ Some c
won_fewer rank None ss q c h = idled_current is_racing refl None ss q c h
won_fewer rank (Some entry) ss q c h =
    let state = won entry.node entry.floor (state_at ss rank) in
    elim (written_current None (racers_freed ss) rank state q c h) [
      | inl here ↦
          subst (λ k. current_of (Some entry) (state_at ss k) ≡ Some c) (sym here.0)
          (won_current entry (state_at ss rank) c here.1)
      | inr there ↦
          without_race (Some entry) (state_at ss q) c
          (idled_current is_racing refl None ss q c there)
    ]

won_carries : (past : List Told) (sent : List Report) (rank : ℕ) (b : BookState) → Carries past sent b (race_won rank b)
won_carries past sent rank b = fewer_carried past sent b (race_won rank b) refl refl
    (λ t h. among_more (b.orders ++ winner_order rank (state_at b.ranks rank))
    (loser_stops rank b.ranks) t
    (among_more b.orders (winner_order rank (state_at b.ranks rank)) t h))
    (won_fewer rank b.raced b.ranks)

ended_carries : (past : List Told) (sent : List Report) (old new : BookState) → IsRaceEnded old new
    → Carries past sent old new
ended_carries past sent old new (inl (rank, t)) =
    subst (λ b. Carries past sent old b) (sym t.done) (won_carries past sent rank old)
ended_carries past sent old new (inr t) =
    subst (λ b. Carries past sent old b) (sym t.same) (carries_itself past sent old)

-- the requests for nodes
asked_carries : (past : List Told) (sent : List Report) (b : BookState) (r count : ℕ) (more : List Told)
    → Carries past sent b (record b {
      ranks = slice_set b.ranks r (asked_for count (state_at b.ranks r));
      orders = b.orders ++ more;
    })
asked_carries past sent b r count more =
    fewer_carried past sent b _ refl refl (among_more b.orders more) fewer
  where
    fewer : (q : ℕ) (c : Current)
        → current_of b.raced (state_at (slice_set b.ranks r (asked_for count (state_at b.ranks r))) q)
        ≡ Some c
        → current_of b.raced (state_at b.ranks q) ≡ Some c
    fewer q c h =
        elim (written_current b.raced b.ranks r (asked_for count (state_at b.ranks r)) q c h) [
          | inl here ↦
              subst (λ k. current_of b.raced (state_at b.ranks k) ≡ Some c) (sym here.0)
              (sym ((asked_alike count (state_at b.ranks r)).current b.raced) ∙ here.1)
          | inr there ↦ there
        ]

stopped_carries : (past : List Told) (sent : List Report) (rs : List ℕ) (b : BookState)
    → Carries past sent b (stopped_collecting rs b)
stopped_carries past sent [] b = carries_itself past sent b
stopped_carries past sent (r ∷ rs) b =
    carries_both past sent b _ _ (asked_carries past sent b r 0 (collect_out r (state_at b.ranks r)))
    (stopped_carries past sent rs _)

collected_carries : (past : List Told) (sent : List Report) (demand : Wanted) (b : BookState)
    → Carries past sent b (collected demand b)
collected_carries past sent (Ask r count) b =
    asked_carries past sent b r count (collect_in r count (state_at b.ranks r))
collected_carries past sent (Enough ranks) b = stopped_carries past sent ranks b
collected_carries past sent Nothing b = carries_itself past sent b

-- the first three parts
readied_carries : (past : List Told) (sent : List Report) (old ready : BookState)
    → IsReadied old ready → Carries past sent old ready
readied_carries past sent old ready t =
    let first = fewer_carried past sent old (dropped old) refl refl (λ u h. h) (λ q c h. h) in
    let second = announced_carries past sent (cutoff_of_best (dropped old)) (dropped old) in
    let third = ended_carries past sent (announced (dropped old)) ready t in
    carries_both past sent old (announced (dropped old)) ready
    (carries_both past sent old (dropped old) (announced (dropped old)) first second) third

-- and this many steps of the fourth
given_out_carries : (past : List Told) (sent : List Report) (steps : ℕ) (old ready : BookState)
    → IsBook old → IsReadied old ready → Carries past sent old (given steps ready)
given_out_carries past sent steps old ready book t =
    carries_both past sent old ready (given steps ready) (readied_carries past sent old ready t)
    (handed_out_carries past sent steps ready ((readied_keeps old ready book t).book book))

pub decided_carries : (past : List Told) (sent : List Report) (old new : BookState) → IsBook old
    → IsDecided old new → Carries past sent old new
decided_carries past sent old new book t =
    let out = given (handouts t.ready) t.ready in
    carries_both past sent old out new
    (given_out_carries past sent (handouts t.ready) old t.ready book t.readied)
    (subst (λ b. Carries past sent out b) (sym t.collected_.done)
    (collected_carries past sent t.collected_.demand out))

-- what stands of a decision that memory ended does too
pub stood_carries : (past : List Told) (sent : List Report) (steps : ℕ) (old new : BookState)
    → IsBook old → Stands steps old new → Carries past sent old new
stood_carries past sent zero old new book t =
    subst (λ b. Carries past sent old b) (sym t) (carries_itself past sent old)
stood_carries past sent (suc zero) old new book t =
    subst (λ b. Carries past sent old b) (sym t)
    (fewer_carried past sent old (dropped old) refl refl (λ u h. h) (λ q c h. h))
stood_carries past sent (suc (suc zero)) old new book t =
    subst (λ b. Carries past sent old b) (sym t)
    (carries_both past sent old (dropped old) (announced (dropped old))
    (fewer_carried past sent old (dropped old) refl refl (λ u h. h) (λ q c h. h))
    (announced_carries past sent (cutoff_of_best (dropped old)) (dropped old)))
stood_carries past sent (suc (suc (suc steps))) old new book t =
    subst (λ b. Carries past sent old b) (sym t.given_)
    (given_out_carries past sent steps old t.ready book t.readied)
