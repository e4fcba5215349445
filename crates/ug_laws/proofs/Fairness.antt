-- That reports of workers are fair: those of hands and of dones where that is asked, all others
-- anyway.
use Rattle.std.proofs.Common.{◌≡◌, inl, inr, ℕ, ℤ, Bool, false, List, [], ◌∷◌, ◌++◌, append_assoc, append-nil, refl, sym, ap, subst, ◌∙◌}
use Rattle.std.specs.Prelude.{Contains}
use Rattle.std.proofs.lemmas.Bool.{eq-eqb}
use Rattle.std.proofs.lemmas.List.Elements.{Contains-append_left}
use Rattle.ug_problem.specs.Feasible.{Feasible}
use Rattle.ug_problem.specs.Instances.{Instance}
use Rattle.ug_frames.specs.declared.order.Order.{Order}
use Rattle.ug_frames.specs.declared.order.Order.TheVariants.{End}
use Rattle.ug_frames.specs.declared.report.Report.{Report}
use Rattle.ug_frames.specs.declared.report.Report.TheVariants.{Ready, Solution, Hand, State as Reported, Done, Ended}
use Rattle.ug_ranks.specs.States.{state_at}
use Rattle.ug_ranks.specs.declared.state.State.{State}
use Rattle.ug_ranks.specs.declared.state.State.TheVariants.{Absent, Idle, Racing, Active, Dead}
use Rattle.ug_rules.specs.declared.heard.Heard.{Heard}
use Rattle.ug_rules.specs.State.{BookState}
use Rattle.ug_rules.specs.Hearing.{is_deadly, ready_answer}
use Rattle.ug_coord.specs.Actions.{Action, IsTrace, IsTaken, CoordinatorState, Took}
use Rattle.ug_coord.specs.Coordinators.{beginning}
use Rattle.ug_coord.proofs.Coursing.{trace_more}
use Rattle.ug_serve.specs.CrewLaws.{AreReportsAt, reports_of}
use Rattle.ug_serve.specs.Actions as worker
use Rattle.ug_serve.specs.Worked.{IsWorked}
use Rattle.ug_serve.proofs.Crewed.{IsSentTo, taken_of, told_kept, took_turned}
use Rattle.ug_serve.proofs.Honesty.{nothing_in}
use Rattle.ug_serve.proofs.Spoken.{IsSpoken, spoken}
use Rattle.ug_serve.proofs.Told.{in_front}
use Rattle.ug_laws.specs.Workers.{IsUnused}
use Rattle.ug_laws.proofs.Fair.{IsFair}
use Rattle.ug_laws.proofs.Running.{none_told}
use Rattle.ug_laws.proofs.Traffic.{from_rank, only, orders_to, reports_from, sent_in, taken_in, to_rank}
use Rattle.ug_laws.proofs.Unheard.{IsAbsentAt, IsAway}
use Rattle.ug_laws.proofs.Worked.{read_from, sent_to, traffic}

-- ---- with one action more

pub reports_push : (r : ℕ) (done : List Action) (action : Action)
    → reports_from r (done ++ action ∷ []) ≡ reports_from r done ++ from_rank r (taken_in action)
reports_push r [] action = append-nil (from_rank r (taken_in action))
reports_push r (one ∷ done) action =
    ap (λ (rs : List Report). from_rank r (taken_in one) ++ rs) (reports_push r done action)
    ∙ sym (append_assoc (from_rank r (taken_in one)) (reports_from r done) (from_rank r (taken_in action)))

orders_push : (gap : ℤ) (r : ℕ) (done : List Action) (action : Action)
    → orders_to gap r (done ++ action ∷ []) ≡ orders_to gap r done ++ to_rank r (sent_in gap action)
orders_push gap r [] action = append-nil (to_rank r (sent_in gap action))
orders_push gap r (one ∷ done) action =
    ap (λ (os : List Order). to_rank r (sent_in gap one) ++ os) (orders_push gap r done action)
    ∙ sym (append_assoc (to_rank r (sent_in gap one)) (orders_to gap r done) (to_rank r (sent_in gap action)))

-- ---- when a report is received

module _ (b : BookState) (faults : ℕ) (unused : IsUnused b) (done : List Action) (old mid : CoordinatorState)
    (so : IsTrace (beginning b faults) done old) (r : ℕ) (report : Report) (answer : Heard)
    (does : IsTaken old mid r report answer) (worked : IsWorked mid.said r) where
  -- what the worker had received and reported when it sent the report
  pub spoken_then : IsSpoken b.problem (orders_to b.settings.gap r done) (reports_from r done) report
  spoken_then =
      let action : Action = Took r report answer in
      let more = trace_more (beginning b faults) done old mid action so does in
      spoken b.problem mid.said r (orders_to b.settings.gap r done) (reports_from r done) report worked
      (subst (λ (os : List Order). IsSentTo b.problem mid.said r os)
      (orders_push b.settings.gap r done action ∙ append-nil (orders_to b.settings.gap r done))
      (sent_to b faults unused (done ++ action ∷ []) mid more r))
      (subst (λ (rs : List Report). AreReportsAt mid.said r rs)
      (reports_push r done action
      ∙ ap (λ (yes : Bool). reports_from r done ++ only yes report) (eq-eqb r r refl))
      (read_from b faults unused (done ++ action ∷ []) mid more r))

  same_problem : old.book.problem ≡ b.problem
  same_problem = (traffic b faults unused done old so r).grows.problem

none_kept : (rs : List Report) → ((report : Report) → Contains rs report → ⊥) → rs ≡ []
none_kept [] none = refl
none_kept (r ∷ rs) none = absurd (none r (in_front r rs))

-- Ready is the first report
first_ready : (p : Instance) (sent : List Order) (heard : List Report) → IsSpoken p sent heard Ready → heard ≡ []
first_ready p sent heard t =
    sym t.told ∙ none_kept (reports_of t.actions) (λ report there.
    nothing_in report (subst (λ (rs : List Report). Contains rs report) t.said (told_kept [] t.actions report there)))

-- Ended is reported behind the order
ended_late : (p : Instance) (sent : List Order) (heard : List Report) → IsSpoken p sent heard Ended
    → Contains sent End
ended_late p sent heard t = elim (took_turned [] t.actions End t.said.1) [
  | inl none ↦ absurd (nothing_in (worker.Took End) none)
  | inr own ↦ subst (λ (os : List Order). Contains os End) (sym t.taken)
      (Contains-append_left (taken_of t.actions) t.later End own)
]

ready_harmless : (state : State) → IsAway state → is_deadly (ready_answer state) ≡ false
ready_harmless Absent away = refl
ready_harmless Idle away = absurd away
ready_harmless (Racing racer) away = absurd away
ready_harmless (Active work) away = absurd away
ready_harmless (Dead how) away = refl

-- a hand, or the end of a task
abbrev pub IsOfWork : Report → Type 0
IsOfWork Ready = ⊥
IsOfWork (Solution ticket x) = ⊥
IsOfWork (Hand ticket number changes) = Unit {0}
IsOfWork (Reported ticket count floor) = ⊥
IsOfWork (Done ticket told count ending) = Unit {0}
IsOfWork Ended = ⊥

module _ (b : BookState) (faults : ℕ) (unused : IsUnused b) (done : List Action) (old mid : CoordinatorState)
    (so : IsTrace (beginning b faults) done old) (r : ℕ)
    (away : reports_from r done ≡ [] → IsAbsentAt old.book.ranks r) (answer : Heard) where
  -- reports received from a worker are fair, if its hands and dones are
  pub told_fair : (report : Report) → IsTaken old mid r report answer → IsWorked mid.said r
      → (IsOfWork report → IsFair old.book (state_at old.book.ranks r) report)
      → IsFair old.book (state_at old.book.ranks r) report
  told_fair Ready does worked work =
      ready_harmless (state_at old.book.ranks r)
      (away (first_ready b.problem (orders_to b.settings.gap r done) (reports_from r done)
      (spoken_then b faults unused done old mid so r Ready answer does worked)))
  told_fair (Solution ticket x) does worked work =
      subst (λ (p : Instance). Feasible p x)
      (sym (same_problem b faults unused done old mid so r (Solution ticket x) answer does worked))
      (spoken_then b faults unused done old mid so r (Solution ticket x) answer does worked).said.1.feasible
  told_fair (Hand ticket number changes) does worked work = work tt
  told_fair (Reported ticket count floor) does worked work = tt
  told_fair (Done ticket told count ending) does worked work = work tt
  told_fair Ended does worked work =
      absurd (none_told b faults unused done old so does.reading.decided r
      (ended_late b.problem (orders_to b.settings.gap r done) (reports_from r done)
      (spoken_then b faults unused done old mid so r Ended answer does worked)))
