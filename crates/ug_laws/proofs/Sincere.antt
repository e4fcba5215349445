-- That the hands and dones of a crew of workers are fair, where what was sent and received
-- agrees.
use Rattle.std.proofs.Common.{◌≡◌, inl, inr, eqb, ℕ, ℤ, ◌≤◌, List, [], ◌∷◌, ◌++◌, Option, None, Some, refl, sym, ap, subst, ◌∙◌, arith}
use Rattle.std.specs.Prelude.{Contains, IfSome}
use Rattle.std.proofs.lemmas.List.Elements.{Contains-append_cases, Contains-append_left, Contains-append_right}
use Rattle.std.specs.Option.{option_to_list}
use Rattle.ug_rows.specs.Boxes.{IsBelow}
use Rattle.ug_problem.specs.Better.{cutoff_of}
use Rattle.ug_problem.specs.Instances.{Instance, root_of}
use Rattle.ug_nodes.specs.declared.name.Ticket.{Ticket}
use Rattle.ug_nodes.specs.declared.change.Change.{Change}
use Rattle.ug_nodes.specs.Changes.{area_by}
use Rattle.ug_nodes.specs.Outside.{SpellBelow}
use Rattle.ug_frames.specs.declared.order.Order.{Order}
use Rattle.ug_frames.specs.declared.order.Order.TheVariants.{Setup, Incumbent, Winner, End}
use Rattle.ug_frames.specs.declared.report.Report.{Report}
use Rattle.ug_frames.specs.declared.report.Report.TheVariants.{Ready, Solution, Hand, State as Reported, Done, Ended}
use Rattle.ug_ranks.specs.declared.state.State.{State}
use Rattle.ug_ranks.specs.declared.state.State.TheVariants.{Absent, Idle, Racing, Active, Dead}
use Rattle.ug_ranks.specs.Looks.{ticket_at}
use Rattle.ug_ranks.specs.States.{state_at}
use Rattle.ug_rules.specs.declared.heard.Heard.{Heard}
use Rattle.ug_rules.specs.declared.settings.Settings.{Settings}
use Rattle.ug_rules.specs.declared.told.Told.{Told}
use Rattle.ug_rules.specs.State.{BookState}
use Rattle.ug_coord.specs.Actions.{Broke, Came, Closed, Decided, Action, Halted, IsTrace, IsTaken, Launched, Lost, Passed}
use Rattle.ug_coord.specs.Actions.{Sent, SetUp, CoordinatorState, Took, Unclosed, Unfed, Unread, Unsent, Unwritten}
use Rattle.ug_coord.specs.Actions.{Kept as Saved}
use Rattle.ug_coord.specs.Coordinators.{beginning}
use Rattle.ug_serve.specs.Worked.{IsWorked}
use Rattle.ug_serve.specs.Transcripts.{order_of}
use Rattle.ug_serve.proofs.Counted.{IsCutoffKnown, IsDoneSpoken, IsHandSpoken, IsUnderSent, done_spoken, hand_spoken, hands_under, under_spoken}
use Rattle.ug_serve.proofs.Honesty.{nothing_in}
use Rattle.ug_serve.proofs.Spoken.{IsSpoken}
use Rattle.ug_laws.specs.Workers.{IsUnused}
use Rattle.ug_laws.proofs.Fair.{IsFair, IsFairDone, IsFairHand}
use Rattle.ug_laws.proofs.Fairness.{IsOfWork, spoken_then}
use Rattle.ug_laws.proofs.Outlooks.{IsBacked, IsOn, IsReportNamed, Outlook, outlook_of}
use Rattle.ug_laws.proofs.Tracked.{IsTrackedBy}
use Rattle.ug_laws.proofs.Traffic.{IsOwn, left_in, left_of, only_there, orders_to, reports_from, sent_in, to_rank}
use Rattle.ug_laws.proofs.Worked.{none_sets, once, traffic}

-- ---- the gap of the order that comes first

abbrev gap_or : ℤ → Order → ℤ
gap_or other (Setup gap bytes) = gap
gap_or other order = other

abbrev order_kind : Order → ℕ
order_kind (Setup gap bytes) = 1
order_kind order = 0

-- no order of a queue is one that comes first
abbrev NoneSets : List Told → Type 0
NoneSets left = (rank : ℕ) (gap : ℤ) (bytes : List ℕ)
    → Contains left (record { rank = rank; order = Setup gap bytes }) → ⊥

gap_in : (gap : ℤ) (r : ℕ) (own : ℤ) (bytes : List ℕ) (action : Action) → NoneSets (option_to_list (left_in action))
    → Contains (to_rank r (sent_in gap action)) (Setup own bytes) → own ≡ gap
gap_in gap r own bytes (Launched q) none there = absurd (nothing_in _ there)
gap_in gap r own bytes (SetUp q record_bytes) none there =
    ap (gap_or own) (sym (only_there (eqb q r) (Setup gap record_bytes) (Setup own bytes) there).1)
gap_in gap r own bytes (Closed q) none there =
    absurd (omega (arith, ap order_kind (only_there (eqb q r) End (Setup own bytes) there).1))
gap_in gap r own bytes (Came q heard) none there = absurd (nothing_in _ there)
gap_in gap r own bytes (Took q report answer) none there = absurd (nothing_in _ there)
gap_in gap r own bytes (Lost q cause) none there = absurd (nothing_in _ there)
gap_in gap r own bytes Decided none there = absurd (nothing_in _ there)
gap_in gap r own bytes (Sent q order) none there =
    let told : Told = record { rank = q; order = order } in
    absurd (none q own bytes (subst (λ (o : Order). Contains (told ∷ []) (record { rank = q; order = o }))
    (only_there (eqb q r) order (Setup own bytes) there).1 (0, omega arith, refl)))
gap_in gap r own bytes (Unsent q order) none there = absurd (nothing_in _ there)
gap_in gap r own bytes (Passed q order) none there = absurd (nothing_in _ there)
gap_in gap r own bytes Broke none there = absurd (nothing_in _ there)
gap_in gap r own bytes (Unclosed q) none there = absurd (nothing_in _ there)
gap_in gap r own bytes (Halted steps) none there = absurd (nothing_in _ there)
gap_in gap r own bytes (Unwritten q order) none there = absurd (nothing_in _ there)
gap_in gap r own bytes (Unfed q heard) none there = absurd (nothing_in _ there)
gap_in gap r own bytes Unread none there = absurd (nothing_in _ there)
gap_in gap r own bytes Saved none there = absurd (nothing_in _ there)

gap_sent : (gap : ℤ) (r : ℕ) (own : ℤ) (bytes : List ℕ) (actions : List Action) → NoneSets (left_of actions)
    → Contains (orders_to gap r actions) (Setup own bytes) → own ≡ gap
gap_sent gap r own bytes [] none there = absurd (nothing_in _ there)
gap_sent gap r own bytes (action ∷ actions) none there =
    elim (Contains-append_cases (to_rank r (sent_in gap action)) (orders_to gap r actions) (Setup own bytes) there) [
      | inl here ↦ gap_in gap r own bytes action
          (λ rank g bs left. none rank g bs
          (Contains-append_left (option_to_list (left_in action)) (left_of actions) _ left)) here
      | inr later ↦ gap_sent gap r own bytes actions
          (λ rank g bs left. none rank g bs
          (Contains-append_right (option_to_list (left_in action)) (left_of actions) _ left)) later
    ]

-- ---- when a hand or a done is received

abbrev ticket_count : Option Ticket → ℕ
ticket_count None = 0
ticket_count (Some ticket) = 1

abbrev ticket_or : Ticket → Option Ticket → Ticket
ticket_or other None = other
ticket_or other (Some ticket) = ticket

same_own : (own ticket : Ticket) → Some own ≡ Some ticket → own ≡ ticket
same_own own ticket same = ap (ticket_or own) same

module _ (b : BookState) (faults : ℕ) (unused : IsUnused b) (done : List Action) (old mid : CoordinatorState)
    (so : IsTrace (beginning b faults) done old) (r : ℕ)
    (t : IsTrackedBy (left_of done) (λ (q : ℕ). reports_from q done) old.book) where
  abbrev o : Outlook
  o = outlook_of old.book

  abbrev all : List Told
  all = left_of done ++ old.book.orders

  abbrev sent : List Order
  sent = orders_to b.settings.gap r done

  abbrev heard : List Report
  heard = reports_from r done

  -- an order that was sent is one of the queue's, unless it is the coordinator's own
  in_all : (order : Order) → (IsOwn b.problem order → ⊥) → Contains sent order
      → Contains all (record { rank = r; order = order })
  in_all order own there = elim ((traffic b faults unused done old so r).own order there) [
    | inl left ↦ Contains-append_left (left_of done) old.book.orders _ left
    | inr is ↦ absurd (own is)
  ]

  work_in : (ticket : Ticket) → (u : IsUnderSent sent ticket)
      → Contains all (record { rank = r; order = order_of u.work })
  work_in ticket u = in_all (order_of u.work) (λ own. own) u.among

  -- the number of its ticket was given
  under_named : (ticket : Ticket) → IsUnderSent sent ticket → ticket.number ≤ old.book.last
  under_named ticket u =
      subst (λ (k : Ticket). k.number ≤ old.book.last) u.its (t.orders _ (work_in ticket u)).named

  grows_problem : old.book.problem ≡ b.problem
  grows_problem = (traffic b faults unused done old so r).grows.problem

  grows_gap : old.book.settings.gap ≡ b.settings.gap
  grows_gap = ap (λ (s : Settings). s.gap) (traffic b faults unused done old so r).grows.settings

  hand_at : (ticket : Ticket) (number : ℕ) (changes : List Change) (state : State)
      → IsHandSpoken b.problem sent heard ticket number changes → IsOn o all heard state
      → ticket_at state ≡ Some ticket → IsFairHand old.book state number changes
  hand_at ticket number changes Absent s on current = absurd (omega (arith, ap ticket_count current))
  hand_at ticket number changes Idle s on current = absurd (omega (arith, ap ticket_count current))
  hand_at ticket number changes (Racing racer) s on current =
      let same = same_own racer.ticket ticket current in
      let race = on.race _ s.under.work (work_in ticket s.under) refl (s.under.its ∙ sym same) in
      absurd (on.not_won _ (in_all (Winner ticket) (λ own. own) (s.won race)) (ap Winner (sym same)))
  hand_at ticket number changes (Active work) s on current =
      let same = same_own work.ticket ticket current in
      let node = on.node _ s.under.work (work_in ticket s.under) refl (s.under.its ∙ sym same) in
      record {
        work = work;
        works = refl;
        next = record {
          next = s.numbered ∙ ap (λ (k : Ticket). hands_under k heard) (sym same) ∙ on.hands;
          below = subst (λ (p : Instance). SpellBelow (root_of p) work.node.changes changes) (sym grows_problem)
              (record {
                valid = s.valid;
                below = subst (λ (cs : List Change). IsBelow (area_by (root_of b.problem) changes)
                    (area_by (root_of b.problem) cs)) node s.below;
              });
        };
      }
  hand_at ticket number changes (Dead how) s on current = absurd (omega (arith, ap ticket_count current))

  -- a cutoff that is known is backed, where the points received under the ticket are
  known_backed : (ticket : Ticket) (u : IsUnderSent sent ticket) (cutoff : ℤ)
      → ((x : List ℤ) → Contains heard (Solution ticket x)
      → IsBacked o (Some (cutoff_of old.book.problem old.book.settings.gap x)))
      → IsCutoffKnown b.problem b.settings.gap sent heard u.work cutoff → IsBacked o (Some cutoff)
  known_backed ticket u cutoff points (inl ordered) =
      subst (λ (c : Option ℤ). IsBacked o c) ordered (t.orders _ (work_in ticket u)).backed
  known_backed ticket u cutoff points (inr (inl told)) =
      (t.orders _ (in_all (Incumbent cutoff) (λ own. own) told)).backed
  known_backed ticket u cutoff points (inr (inr point)) =
      subst (λ (c : ℤ). IsBacked o (Some c))
      (ap (λ (p : Instance). cutoff_of p old.book.settings.gap point.point) grows_problem
      ∙ ap (λ (g : ℤ). cutoff_of b.problem g point.point) grows_gap ∙ sym point.its)
      (points point.point
      (subst (λ (k : Ticket). Contains heard (Solution k point.point)) u.its point.among))

  done_backed : (ticket : Ticket) (u : IsUnderSent sent ticket) (told : Option ℤ)
      → ((x : List ℤ) → Contains heard (Solution ticket x)
      → IsBacked o (Some (cutoff_of old.book.problem old.book.settings.gap x)))
      → IfSome told (IsCutoffKnown b.problem b.settings.gap sent heard u.work) → IsBacked o told
  done_backed ticket u None points known = tt
  done_backed ticket u (Some cutoff) points known = known_backed ticket u cutoff points known

  done_at : (ticket : Ticket) (told : Option ℤ) (count : ℕ) (state : State)
      → IsDoneSpoken b.problem b.settings.gap sent heard ticket told count → IsOn o all heard state
      → ticket_at state ≡ Some ticket → IsFairDone old.book state told count
  done_at ticket told count Absent s on current = absurd (omega (arith, ap ticket_count current))
  done_at ticket told count Idle s on current = absurd (omega (arith, ap ticket_count current))
  done_at ticket told count (Racing racer) s on current =
      let same = same_own racer.ticket ticket current in
      record {
        backed = done_backed ticket s.under told
            (λ x there. on.points x (subst (λ (k : Ticket). Contains heard (Solution k x)) (sym same) there)) s.known;
        all = s.counted ∙ ap (λ (k : Ticket). hands_under k heard) (sym same) ∙ on.none;
      }
  done_at ticket told count (Active work) s on current =
      let same = same_own work.ticket ticket current in
      record {
        backed = done_backed ticket s.under told
            (λ x there. on.points x (subst (λ (k : Ticket). Contains heard (Solution k x)) (sym same) there)) s.known;
        all = s.counted ∙ ap (λ (k : Ticket). hands_under k heard) (sym same) ∙ on.hands;
      }
  done_at ticket told count (Dead how) s on current = absurd (omega (arith, ap ticket_count current))

  module _ (answer : Heard) (worked : IsWorked mid.said r) where
    spoken_here : (report : Report) → IsTaken old mid r report answer → IsSpoken b.problem sent heard report
    spoken_here report does = spoken_then b faults unused done old mid so r report answer does worked

    pub work_fair : (report : Report) → IsTaken old mid r report answer → IsOfWork report
        → IsFair old.book (state_at old.book.ranks r) report
    work_fair Ready does of = absurd of
    work_fair (Solution ticket x) does of = absurd of
    work_fair (Hand ticket number changes) does of =
        hand_at ticket number changes (state_at old.book.ranks r)
        (hand_spoken b.problem sent heard ticket number changes (once b faults unused done old so r)
        (spoken_here (Hand ticket number changes) does)) (t.on r)
    work_fair (Reported ticket count floor) does of = absurd of
    work_fair (Done ticket told count ending) does of =
        let s = spoken_here (Done ticket told count ending) does in
        let gap = gap_sent b.settings.gap r s.gap s.bytes done
        (λ rank g bytes. none_sets b faults unused done old so rank g bytes) s.set_up in
        done_at ticket told count (state_at old.book.ranks r)
        (subst (λ (g : ℤ). IsDoneSpoken b.problem g sent heard ticket told count) gap
        (done_spoken b.problem sent heard ticket told count ending (once b faults unused done old so r) s)) (t.on r)
    work_fair Ended does of = absurd of

    pub report_named : (report : Report) → IsTaken old mid r report answer
        → IsReportNamed old.book.last report
    report_named Ready does = tt
    report_named (Solution ticket x) does =
        under_named ticket (under_spoken b.problem sent heard ticket x (spoken_here (Solution ticket x) does))
    report_named (Hand ticket number changes) does =
        under_named ticket
        (hand_spoken b.problem sent heard ticket number changes (once b faults unused done old so r)
        (spoken_here (Hand ticket number changes) does)).under
    report_named (Reported ticket count floor) does = tt
    report_named (Done ticket told count ending) does = tt
    report_named Ended does = tt
