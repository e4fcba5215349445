-- Each ticket that is given is reported with the changes of its node.
use Rattle.std.proofs.Common.{◌≡◌, inl, inr, ℕ, zero, suc, ◌+◌, Bool, true, false, List, [], ◌∷◌, ◌++◌, length, refl, ap, sym, ◌∙◌, subst, arith}
use Rattle.std.specs.Prelude.{Some}
use Rattle.std.proofs.lemmas.Bool.{cases_Bool}
use Rattle.std.proofs.lemmas.List.Elements.{Contains-append_right}
use Rattle.std.proofs.lemmas.Option.{same_Some}
use Rattle.ug_branch.specs.declared.params.Params.{Params}
use Rattle.ug_problem.specs.Instances.{root_of}
use Rattle.ug_pool.specs.declared.entry.Entry.{Entry}
use Rattle.ug_frames.specs.declared.report.Report.{Report}
use Rattle.ug_ranks.specs.declared.state.State.TheVariants.{Racing, Active}
use Rattle.ug_ranks.specs.States.{state_at}
use Rattle.ug_ranks.specs.Changes.{racer_of, work_of}
use Rattle.ug_ledger.specs.Ledgers.{Current}
use Rattle.ug_ledger.proofs.FactLemmas.{none_current}
use Rattle.ug_rules.specs.declared.told.Told.{Told}
use Rattle.ug_rules.specs.State.{BookState, current_for, current_of, ledger_of, ticket_with}
use Rattle.ug_rules.specs.Ranks.{ranks_that}
use Rattle.ug_ranks.specs.Looks.{is_idle, is_racing}
use Rattle.ug_rules.specs.Books.{IsBook}
use Rattle.ug_rules.specs.Deciding.{assigned, assigned_by, assigned_times, given, given_to, is_race_due, racer_params, usual_params, race_begun_with, raced_by, raced_by_all, work_order}
use Rattle.ug_rules.proofs.BegunLemmas.{begin_is}
use Rattle.ug_rules.proofs.HeldLemmas.{IsOfRacer, current_cases, is_current}
use Rattle.ug_rules.proofs.RacerLemmas.{are_racing}
use Rattle.ug_laws.proofs.Known.{Carries, IsKnown, among_behind, among_more, carries_both, carries_itself, known_later, written_current}

-- what a new ticket is current for
abbrev new_current : BookState → Entry → Current
new_current b entry =
    record { ticket = ticket_with b (b.last + 1); node = entry.node; taken = [] }

-- it is reported in this order
new_known : (past : List Told) (sent : List Report) (b : BookState) (r : ℕ) (entry : Entry) (params : Params)
    (race : Bool)
    → IsKnown (root_of b.problem) sent
    (past ++ (b.orders ++ work_order b r (b.last + 1) params race entry ∷ []))
    (new_current b entry)
new_known past sent b r entry params race = record {
  told = record {
    rank = r;
    params = params;
    race = race;
    cutoff = _;
    queued = Contains-append_right past
        (b.orders ++ work_order b r (b.last + 1) params race entry ∷ []) _
        (Contains-append_right b.orders
        (work_order b r (b.last + 1) params race entry ∷ []) _ (0, omega arith, refl));
  };
  taken = λ i short. absurd (omega (arith, short));
}

-- an assignment
given_carries : (past : List Told) (sent : List Report) (b : BookState) (r : ℕ) (entry : Entry) (rest : List Entry)
    → Carries past sent b (given_to r entry rest b)
given_carries past sent b r entry rest = record {
  problem = refl;
  settings = refl;
  known = λ k. record {
    each = λ q c h.
        let work = work_of (ticket_with b (b.last + 1)) entry.node entry.floor (usual_params b) in
        let orders = (given_to r entry rest b).orders in
        elim (written_current b.raced b.ranks r (Active work) q c h) [
          | inl new ↦
              subst (λ d. IsKnown (root_of b.problem) sent (past ++ orders) d)
              (same_Some (current_for work) c new.1)
              (new_known past sent b r entry (usual_params b) false)
          | inr old ↦
              known_later (root_of b.problem) sent (past ++ b.orders) (past ++ orders) c
              (among_behind past b.orders orders (among_more b.orders _))
              (k.each q c old)
        ];
  };
}

assigned_carries_by : (past : List Told) (sent : List Report) (rs : List ℕ) (pool : List Entry) (b : BookState)
    → Carries past sent b (assigned_by rs pool b)
assigned_carries_by past sent [] pool b = carries_itself past sent b
assigned_carries_by past sent (r ∷ rs) [] b = carries_itself past sent b
assigned_carries_by past sent (r ∷ rs) (entry ∷ rest) b = given_carries past sent b r entry rest

assigned_carries : (past : List Told) (sent : List Report) (n : ℕ) (b : BookState)
    → Carries past sent b (assigned_times n b)
assigned_carries past sent zero b = carries_itself past sent b
assigned_carries past sent (suc n) b =
    carries_both past sent b (assigned b) (assigned_times n (assigned b))
    (assigned_carries_by past sent (ranks_that is_idle b.ranks) b.pool b)
    (assigned_carries past sent n (assigned b))

-- a part in a race
raced_carries : (past : List Told) (sent : List Report) (b : BookState) (r : ℕ) (entry : Entry)
    → b.raced ≡ Some entry → Carries past sent b (raced_by r entry b)
raced_carries past sent b r entry raced = record {
  problem = refl;
  settings = refl;
  known = λ k. record {
    each = λ q c h.
        let racer = racer_of (ticket_with b (b.last + 1)) (racer_params r) in
        let orders = (raced_by r entry b).orders in
        elim (written_current b.raced b.ranks r (Racing racer) q c h) [
          | inl new ↦
              let at = subst (λ o. current_of o (Racing racer) ≡ Some c) raced new.1 in
              subst (λ d. IsKnown (root_of b.problem) sent (past ++ orders) d)
              (same_Some (new_current b entry) c at)
              (new_known past sent b r entry (racer_params r) true)
          | inr old ↦
              known_later (root_of b.problem) sent (past ++ b.orders) (past ++ orders) c
              (among_behind past b.orders orders (among_more b.orders _))
              (k.each q c old)
        ];
  };
}

raced_all_carries : (past : List Told) (sent : List Report) (rs : List ℕ) (entry : Entry) (b : BookState)
    → b.raced ≡ Some entry → Carries past sent b (raced_by_all rs entry b)
raced_all_carries past sent [] entry b raced = carries_itself past sent b
raced_all_carries past sent (r ∷ rs) entry b raced =
    carries_both past sent b (raced_by r entry b) (raced_by_all rs entry (raced_by r entry b))
    (raced_carries past sent b r entry raced)
    (raced_all_carries past sent rs entry (raced_by r entry b) raced)

-- before a race no ticket is current: none was given
none_before : (b : BookState) (entry : Entry) (rest : List Entry) → IsBook b → b.last ≡ 0
    → b.pool ≡ entry ∷ rest → (q : ℕ) (c : Current)
    → current_of (Some entry) (state_at b.ranks q) ≡ Some c → ⊥
none_before b entry rest book unused pool q c h =
    elim (current_cases (Some entry) (state_at b.ranks q) c h) [
      | inl t ↦ none_current (root_of b.problem) (ledger_of b) book.ledger unused q
          (current_for t.work) (is_current b q (current_for t.work) (ap (current_of b.raced) t.state))
      | inr t ↦ none_races t
    ]
  where
    none_races : IsOfRacer (Some entry) (state_at b.ranks q) c → ⊥
    none_races t =
        let none = book.race.pool (are_racing b.ranks (q, ap is_racing t.state)) in
        omega (arith, ap (λ (es : List Entry). length es) (sym pool ∙ none))

begun_carries : (past : List Told) (sent : List Report) (b : BookState) → IsBook b → b.last ≡ 0
    → (pool : List Entry) → b.pool ≡ pool → Carries past sent b (race_begun_with pool b)
begun_carries past sent b book unused [] e = carries_itself past sent b
begun_carries past sent b book unused (entry ∷ rest) e =
    let moved : BookState = record b { pool = rest; raced = Some entry } in
    carries_both past sent b moved (raced_by_all (ranks_that is_idle b.ranks) entry moved)
    (record {
      problem = refl;
      settings = refl;
      known = λ k. record {
        each = λ q c h. absurd (none_before b entry rest book unused e q c h);
      };
    })
    (raced_all_carries past sent (ranks_that is_idle b.ranks) entry moved refl)

pub handed_out_carries : (past : List Told) (sent : List Report) (n : ℕ) (b : BookState) → IsBook b
    → Carries past sent b (given n b)
handed_out_carries past sent zero b book = carries_itself past sent b
handed_out_carries past sent (suc n) b book = elim (cases_Bool (is_race_due b)) [
  | inl due ↦ rw due (begun_carries past sent b book (begin_is b due).last b.pool refl)
  | inr none ↦ rw none (assigned_carries past sent (suc n) b)
]
