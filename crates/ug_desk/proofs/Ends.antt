-- A Done that is judged by the boxes of its task.
use Rattle.std.proofs.Common.{◌≡◌, ◌≢◌, ◌⊎◌, inl, inr, ℕ, zero, suc, List, length, take, refl, sym, ap, ◌∙◌, subst, arith}
use Rattle.std.specs.Prelude.{ℤ, Option, Some, None}
use Rattle.std.proofs.lemmas.List.{take_all}
use Rattle.std.proofs.lemmas.Option.{none-some, same_Some}
use Rattle.ug_rows.specs.declared.area.Interval.{Interval}
use Rattle.ug_problem.specs.Instances.{root_of}
use Rattle.ug_problem.specs.Better.{AreAllHanded}
use Rattle.ug_nodes.specs.declared.name.Ticket.{Ticket}
use Rattle.ug_nodes.specs.Nodes.{box_of}
use Rattle.ug_pool.specs.declared.entry.Entry.{Entry}
use Rattle.ug_frames.specs.declared.report.Ending.TheVariants.{Plain}
use Rattle.ug_frames.specs.declared.report.Report.TheVariants.{Done}
use Rattle.ug_ranks.specs.declared.state.State.{State}
use Rattle.ug_ranks.specs.declared.state.State.TheVariants.{Absent, Idle, Racing, Active, Dead}
use Rattle.ug_ranks.specs.States.{state_at}
use Rattle.ug_ledger.specs.Ledgers.{Current}
use Rattle.ug_rules.specs.declared.heard.Heard.{Heard}
use Rattle.ug_rules.specs.declared.heard.Heard.TheVariants.{Kept, Stale, Early, Broken, NotBetter, InRace, Again, Gap, Outside, Unbacked, Short, Memory}
use Rattle.ug_rules.specs.State.{BookState, current_of}
use Rattle.ug_ranks.specs.Looks.{taken_at, ticket_at}
use Rattle.ug_rules.specs.Hearing.{IsCurrentDue, IsDoneDue, IsDue, after_hearing}
use Rattle.ug_rules.specs.HearingLaws.{IsTrueReport}
use Rattle.ug_rules.proofs.HeldLemmas.{current_is}
use Rattle.ug_base.specs.Tasks.{TaskState}
use Rattle.ug_desk.specs.Answers.{IsTold, told_on}
use Rattle.ug_desk.specs.Dones.{AreFound, HasDone, IsOfTicket}

same_or_not : (n m : ℕ) → (n ≡ m) ⊎ (n ≢ m)
same_or_not zero zero = inl refl
same_or_not zero (suc m) = inr (λ e. omega (arith, e))
same_or_not (suc n) zero = inr (λ e. omega (arith, e))
same_or_not (suc n) (suc m) = elim (same_or_not n m) [
  | inl same ↦ inl (ap suc same)
  | inr other ↦ inr (λ e. other (omega (arith, e)))
]

-- ---- counts

module _ (handed taken : List (List Interval)) (found count : ℕ)
    (f : AreFound handed taken found) (t : IsTold (length handed) (length taken) found count)
  where
    -- the count of all that were taken is that of all that were handed, and found
    complete : count ≡ length taken → (length handed ≡ found) × (length handed ≡ length taken)
    complete all = elim (same_or_not (length handed) (length taken)) [
      | inl same ↦ let e = t.equal same in (omega (arith, e, same, all), same)
      | inr other ↦ let e = t.other other in absurd (other (omega (arith, e, all)))
    ]

    -- another count is short of those found
    short : count ≢ length taken → length handed ≢ found
    short differ is = elim (same_or_not (length handed) (length taken)) [
      | inl same ↦ let e = t.equal same in differ (omega (arith, e, same, is))
      | inr other ↦ let e = f.other other in other (omega (arith, e, is))
    ]

    -- and then the very boxes were taken
    very : count ≡ length taken → handed ≡ taken
    very all =
        let both = complete all in
        let agree = f.equal both.1 in
        let whole : take found handed ≡ handed = take_all found handed (omega (arith, both.0)) in
        let rest : take found taken ≡ taken =
        take_all found taken (omega (arith, both.0, both.1)) in
        sym whole ∙ (agree.same ∙ rest)

    -- the answer to that count is, reported on, the one to those found
    due_on : (b : BookState) (told : Option ℤ) (heard : Heard)
        → IsDoneDue b (length taken) told count heard
        → IsDoneDue b found told (length handed) (told_on (length handed) found heard)
    due_on b told Kept due = record { backed = due.backed; all = (complete due.all).0 }
    due_on b told (Unbacked cutoff incumbent) due = due
    due_on b told (Short said was) due = record {
      backed = due.backed;
      said_is = refl;
      kept_is = refl;
      differ = short due.differ;
    }
    due_on b told Stale due = absurd due
    due_on b told Early due = absurd due
    due_on b told (Broken first) due = absurd due
    due_on b told (NotBetter was given) due = absurd due
    due_on b told InRace due = absurd due
    due_on b told Again due = absurd due
    due_on b told (Gap want got) due = absurd due
    due_on b told (Outside column) due = absurd due
    due_on b told Memory due = absurd due

-- the effect under it is the same
after_on : (b : BookState) (r : ℕ) (ticket : Ticket) (told : Option ℤ) (count handed found : ℕ)
    (heard : Heard) → after_hearing heard r (Done ticket told count Plain) b
    ≡ after_hearing (told_on handed found heard) r (Done ticket told handed Plain) b
after_on b r ticket told count handed found Kept = refl
after_on b r ticket told count handed found Stale = refl
after_on b r ticket told count handed found Early = refl
after_on b r ticket told count handed found (Broken first) = refl
after_on b r ticket told count handed found (NotBetter was given) = refl
after_on b r ticket told count handed found InRace = refl
after_on b r ticket told count handed found Again = refl
after_on b r ticket told count handed found (Gap want got) = refl
after_on b r ticket told count handed found (Outside column) = refl
after_on b r ticket told count handed found (Unbacked cutoff incumbent) = refl
after_on b r ticket told count handed found (Short said was) = refl
after_on b r ticket told count handed found Memory = refl

-- ---- the rank's ticket

taken_told : (raced : Option Entry) (s : State) (c : Current) → current_of raced s ≡ Some c
    → taken_at s ≡ c.taken
taken_told raced Absent c e = absurd (none-some c e)
taken_told raced Idle c e = absurd (none-some c e)
taken_told None (Racing racer) c e = absurd (none-some c e)
taken_told (Some entry) (Racing racer) c e = ap (λ (k : Current). k.taken) (same_Some _ c e)
taken_told raced (Active work) c e = ap (λ (k : Current). k.taken) (same_Some _ c e)
taken_told raced (Dead how) c e = absurd (none-some c e)

ticket_told : (raced : Option Entry) (s : State) (c : Current) → current_of raced s ≡ Some c
    → ticket_at s ≡ Some c.ticket
ticket_told raced Absent c e = absurd (none-some c e)
ticket_told raced Idle c e = absurd (none-some c e)
ticket_told None (Racing racer) c e = absurd (none-some c e)
ticket_told (Some entry) (Racing racer) c e =
    ap (λ (k : Current). Some k.ticket) (same_Some _ c e)
ticket_told raced (Active work) c e = ap (λ (k : Current). Some k.ticket) (same_Some _ c e)
ticket_told raced (Dead how) c e = absurd (none-some c e)

current_due : (b : BookState) (raced : Option Entry) (s : State) (c : Current) (ticket : Ticket)
    (told : Option ℤ) (count : ℕ) (heard : Heard) → current_of raced s ≡ Some c
    → IsCurrentDue b s (Done ticket told count Plain) heard
    → IsDoneDue b (length c.taken) told count heard
current_due b raced Absent c ticket told count heard e due = absurd due
current_due b raced Idle c ticket told count heard e due = absurd due
current_due b None (Racing racer) c ticket told count heard e due = absurd (none-some c e)
current_due b (Some entry) (Racing racer) c ticket told count heard e due =
    subst (λ (k : Current). IsDoneDue b (length k.taken) told count heard) (same_Some _ c e) due
current_due b raced (Active work) c ticket told count heard e due =
    subst (λ (k : Current). IsDoneDue b (length k.taken) told count heard) (same_Some _ c e) due
current_due b raced (Dead how) c ticket told count heard e due = absurd due

-- ---- the Done of a task

module _ (b : BookState) (r : ℕ) (task : TaskState) (of : IsOfTicket b r task)
    (handed taken : List (List Interval)) (found count : ℕ)
    (own : handed ≡ task.handed) (its : taken ≡ taken_at (state_at b.ranks r))
    (f : AreFound handed taken found) (t : IsTold (length handed) (length taken) found count)
  where
    current : current_of b.raced (state_at b.ranks r) ≡ Some of.work
    current = current_is b r of.work of.current

    same_taken : taken ≡ of.work.taken
    same_taken = its ∙ taken_told b.raced (state_at b.ranks r) of.work current

    -- it is judged by the hands that were found
    pub done_so : (new : BookState) (ticket : Ticket) (cutoff : Option ℤ) (heard answer : Heard)
        → ticket ≡ task.ticket → cutoff ≡ task.cutoff
        → IsDue b r (Done ticket cutoff count Plain) heard
        → new ≡ after_hearing heard r (Done ticket cutoff count Plain) b
        → answer ≡ told_on (length handed) found heard → HasDone r task answer b new
    done_so new ticket cutoff heard answer is_ticket is_cutoff due done told =
        let at = ticket_told b.raced (state_at b.ranks r) of.work current
        ∙ ap Some (sym of.its.ticket ∙ sym is_ticket) in
        let judged : IsDoneDue b (length taken) cutoff count heard = subst
        (λ (bs : List (List Interval)). IsDoneDue b (length bs) cutoff count heard) (sym same_taken)
        (current_due b b.raced (state_at b.ranks r) of.work ticket cutoff count heard current
        (due.current at)) in
        let answered = due_on handed taken found count f t b cutoff heard judged in
        let after = after_on b r ticket cutoff count (length handed) found heard in
        subst (λ (h : Heard). HasDone r task h b new) (sym told)
        (record {
          of_ticket = of;
          found = found;
          hands = subst (λ bs. AreFound bs of.work.taken found) own
              (subst (λ bs. AreFound handed bs found) same_taken f);
          due = subst (λ (bs : List (List Interval)).
              IsDoneDue b found task.cutoff (length bs) (told_on (length handed) found heard)) own
              (subst (λ c. IsDoneDue b found c (length handed)
              (told_on (length handed) found heard)) is_cutoff answered);
          done = done ∙ after
              ∙ ap (λ (bs : List (List Interval)). after_hearing
              (told_on (length handed) found heard) r (Done ticket cutoff (length bs) Plain) b) own
              ∙ ap (λ k. after_hearing (told_on (length handed) found heard) r
              (Done k cutoff (length task.handed) Plain) b) is_ticket
              ∙ ap (λ c. after_hearing (told_on (length handed) found heard) r
              (Done task.ticket c (length task.handed) Plain) b) is_cutoff;
        })

    -- if it is kept it is true: the boxes that the task handed are those that were taken
    pub true_so : (ticket : Ticket) (cutoff : Option ℤ) → cutoff ≡ task.cutoff
        → AreAllHanded task.problem task.cutoff task.whole task.handed
        → IsTrueReport b r (Done ticket cutoff count Plain)
    true_so ticket cutoff is_cutoff all c currently its_ticket counts =
        let work : of.work ≡ c =
        same_Some of.work c (sym current ∙ current_is b r c currently) in
        let same : taken ≡ c.taken = same_taken ∙ ap (λ (k : Current). k.taken) work in
        let hands : task.handed ≡ c.taken =
        sym own ∙ (very handed taken found count f t
        (counts ∙ ap (λ (bs : List (List Interval)). length bs) (sym same)) ∙ same) in
        let whole : task.whole ≡ box_of (root_of b.problem) c.node =
        of.its.whole ∙ ap (λ (k : Current). box_of (root_of b.problem) k.node) work in
        let searched : AreAllHanded b.problem cutoff (box_of (root_of b.problem) c.node) c.taken =
        subst (λ k. AreAllHanded b.problem k (box_of (root_of b.problem) c.node) c.taken)
        (sym is_cutoff)
        (subst (λ p. AreAllHanded p task.cutoff (box_of (root_of b.problem) c.node) c.taken)
        of.its.problem
        (subst (λ area. AreAllHanded task.problem task.cutoff area c.taken) whole
        (subst (λ bs. AreAllHanded task.problem task.cutoff task.whole bs) hands all))) in
        λ x better good inside. searched x inside good
