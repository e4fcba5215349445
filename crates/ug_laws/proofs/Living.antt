-- That in a calm trace of workers no answer is a death, so that no rank is taken for gone.
use Rattle.std.proofs.Common.{◌≡◌, ◌≢◌, inl, inr, eqb, ℕ, Bool, false, List, [], ◌∷◌, ◌++◌, append_assoc, append-nil, length, Option, None, refl, sym, ap, subst, ◌∙◌, arith}
use Rattle.std.specs.Prelude.{Contains}
use Rattle.std.specs.Option.{option_to_list}
use Rattle.std.proofs.lemmas.Bool.{eq-eqb, false≢true, ne_eqb}
use Rattle.ug_io.specs.declared.crew.Exchange.{Exchange}
use Rattle.ug_frames.specs.declared.report.Report.{Report}
use Rattle.ug_ranks.specs.Looks.{is_joined}
use Rattle.ug_ranks.specs.States.{state_at}
use Rattle.ug_ranks.specs.declared.state.State.{State}
use Rattle.ug_ranks.specs.declared.state.State.TheVariants.{Absent, Idle, Racing, Active, Dead}
use Rattle.ug_rules.specs.declared.heard.Heard.{Heard}
use Rattle.ug_rules.specs.declared.heard.Heard.TheVariants.{Memory}
use Rattle.ug_rules.specs.declared.told.Told.{Told}
use Rattle.ug_rules.specs.State.{BookState}
use Rattle.ug_rules.specs.Hearing.{after_hearing, is_deadly}
use Rattle.ug_book.specs.Reads.{IsOrderTold}
use Rattle.ug_coord.specs.Actions.{Broke, Came, Closed, Decided, Action, NextState, Halted, IsTrace, IsTaken, Launched, Lost, Passed}
use Rattle.ug_coord.specs.Actions.{Sent, SetUp, CoordinatorState, Took, Unclosed, Unfed, Unread, Unsent, Unwritten}
use Rattle.ug_coord.specs.Actions.{Kept as Saved}
use Rattle.ug_coord.specs.Coordinators.{beginning}
use Rattle.ug_coord.proofs.Coursing.{trace_more}
use Rattle.ug_serve.specs.Worked.{AreAlwaysWorked, AreWorked}
use Rattle.ug_serve.proofs.Honesty.{nothing_in}
use Rattle.ug_serve.proofs.Told.{behind, first_or, in_front}
use Rattle.ug_laws.specs.Calm.{CalmWorkersLive}
use Rattle.ug_laws.specs.Workers.{IsUnused}
use Rattle.ug_laws.proofs.Calm.{AreQuiet, IsQuietAction, answer_of_cause, trace_quiet}
use Rattle.ug_laws.proofs.Fair.{IsFair, fair_lives}
use Rattle.ug_laws.proofs.Fairness.{reports_push, told_fair}
use Rattle.ug_laws.proofs.Hearing.{HasHeard, heard_so}
use Rattle.ug_laws.proofs.Outlooks.{AreNamed, IsOn, IsReportNamed, IsTracked, Outlook, outlook_of}
use Rattle.ug_laws.proofs.Sincere.{report_named, work_fair}
use Rattle.ug_laws.proofs.Tracked.{IsTrackedBy, decided_so}
use Rattle.ug_laws.proofs.Traffic.{Delivery, from_rank, left_in, left_of, only, reports_from, taken_in, traffic_is}
use Rattle.ug_laws.proofs.Unheard.{IsAbsentAt, IsAway, decided_stays, heard_stays}
use Rattle.ug_laws.proofs.Worked.{left_push, traffic}

-- the answer, if the action has one, loses no rank
abbrev IsHarmlessAction : Action → Type 0
IsHarmlessAction (Took rank report answer) = is_deadly answer ≡ false
IsHarmlessAction action = Unit {0}

-- each rank of which nothing was received has not joined
abbrev pub AreAway : List Action → CoordinatorState → Type 0
AreAway done s = (rank : ℕ) → reports_from rank done ≡ [] → IsAbsentAt s.book.ranks rank

-- ---- one action

same_ranks : (old new : CoordinatorState) (rank : ℕ) → new.book.ranks ≡ old.book.ranks → IsAbsentAt old.book.ranks rank
    → IsAbsentAt new.book.ranks rank
same_ranks old new rank same absent = subst (λ (states : List State). IsAbsentAt states rank) (sym same) absent

another : (q rank : ℕ) (report : Report) → only (eqb q rank) report ≡ [] → q ≢ rank
another q rank report none same =
    absurd (omega (
      arith,
      ap (λ (rs : List Report). length rs)
          (sym none ∙ ap (λ (yes : Bool). only yes report) (eq-eqb q rank same)),
    ))

action_away : (old : CoordinatorState) (action : Action) (new : CoordinatorState) → NextState old action new → IsQuietAction action
    → IsHarmlessAction action → (rank : ℕ) → from_rank rank (taken_in action) ≡ [] → IsAbsentAt old.book.ranks rank
    → IsAbsentAt new.book.ranks rank
action_away old (Launched q) new does quiet harmless rank none absent =
    same_ranks old new rank (ap (λ (s : CoordinatorState). s.book.ranks) does.1) absent
action_away old (SetUp q bytes) new does quiet harmless rank none absent =
    same_ranks old new rank (ap (λ (s : CoordinatorState). s.book.ranks) does.rest) absent
action_away old (Closed q) new does quiet harmless rank none absent =
    same_ranks old new rank (ap (λ (s : CoordinatorState). s.book.ranks) does.rest) absent
action_away old (Came q bytes) new does quiet harmless rank none absent =
    same_ranks old new rank (ap (λ (s : CoordinatorState). s.book.ranks) does.rest) absent
action_away old (Took q report answer) new does quiet harmless rank none absent =
    subst (λ (s : CoordinatorState). IsAbsentAt s.book.ranks rank) (sym does.rest)
    (heard_stays answer q report old.book rank (another q rank report none) harmless absent)
action_away old (Lost q cause) new does quiet harmless rank none absent = absurd quiet
action_away old Decided new does quiet harmless rank none absent =
    decided_stays old.book new.book rank does.is absent
action_away old (Sent q order) new does quiet harmless rank none absent =
    same_ranks old new rank (ap (λ (b : BookState). b.ranks) does.told.rest) absent
action_away old (Unsent q order) new does quiet harmless rank none absent = absurd quiet
action_away old (Passed q order) new does quiet harmless rank none absent =
    same_ranks old new rank (ap (λ (b : BookState). b.ranks) does.told.rest) absent
action_away old Broke new does quiet harmless rank none absent = absurd quiet
action_away old (Unclosed q) new does quiet harmless rank none absent = absurd quiet
action_away old (Halted steps) new does quiet harmless rank none absent = absurd quiet
action_away old (Unwritten q order) new does quiet harmless rank none absent = absurd quiet
action_away old (Unfed q bytes) new does quiet harmless rank none absent = absurd quiet
action_away old Unread new does quiet harmless rank none absent = absurd quiet
action_away old Saved new does quiet harmless rank none absent =
    same_ranks old new rank (ap (λ (s : CoordinatorState). s.book.ranks) does.rest) absent

both_nil : (rs ts : List Report) → rs ++ ts ≡ [] → (rs ≡ []) × (ts ≡ [])
both_nil [] ts none = (refl, none)
both_nil (r ∷ rs) ts none = absurd (omega (arith, ap (λ (l : List Report). length l) none))

away_more : (done : List Action) (old : CoordinatorState) (action : Action) (new : CoordinatorState) → NextState old action new
    → IsQuietAction action → IsHarmlessAction action → AreAway done old → AreAway (done ++ action ∷ []) new
away_more done old action new does quiet harmless away rank none =
    let parts = both_nil (reports_from rank done) (from_rank rank (taken_in action))
    (sym (reports_push rank done action) ∙ none) in
    action_away old action new does quiet harmless rank parts.1 (away rank parts.0)

-- ---- a trace

abbrev pub AreHarmless : List Action → Type 0
AreHarmless actions = (rank : ℕ) (report : Report) (answer : Heard) → Contains actions (Took rank report answer)
    → is_deadly answer ≡ false

harmless_more : (action : Action) (actions : List Action) → IsHarmlessAction action → AreHarmless actions
    → AreHarmless (action ∷ actions)
harmless_more action actions is all rank report answer there =
    elim (first_or action actions (Took rank report answer) there) [
      | inl same ↦ subst IsHarmlessAction same is
      | inr later ↦ all rank report answer later
    ]

-- ---- what was sent and received agrees, action by action

-- more was sent and received, and all orders are the same
kept_by : (o : Outlook) (states : List State) (all all_then : List Told) (heard heard_then : ℕ → List Report)
    → all_then ≡ all → ((q : ℕ) → heard_then q ≡ heard q) → IsTracked o states all heard
    → IsTracked o states all_then heard_then
kept_by o states all all_then heard heard_then same each t =
    subst (λ (ts : List Told). IsTracked o states ts heard_then) (sym same) (record {
      orders = t.orders;
      named = λ q. subst (AreNamed o.last) (sym (each q)) (t.named q);
      on = λ q. subst (λ (rs : List Report). IsOn o all rs (state_at states q)) (sym (each q)) (t.on q);
    })

module _ (done : List Action) (old : CoordinatorState) (action : Action) (new : CoordinatorState)
    (t : IsTrackedBy (left_of done) (λ (q : ℕ). reports_from q done) old.book) where
  abbrev done_then : List Action
  done_then = done ++ action ∷ []

  abbrev Then : BookState → Type 0
  Then b = IsTrackedBy (left_of done_then) (λ (q : ℕ). reports_from q done_then) b

  -- nothing was received
  unheard : taken_in action ≡ None → (q : ℕ) → reports_from q done_then ≡ reports_from q done
  unheard none q =
      reports_push q done action
      ∙ ap (λ (delivery : Option Delivery). reports_from q done ++ from_rank q delivery) none
      ∙ append-nil (reports_from q done)

  -- no order left the queue
  unleft : left_in action ≡ None → left_of done_then ≡ left_of done
  unleft none =
      left_push done action
      ∙ ap (λ (told : Option Told). left_of done ++ option_to_list told) none
      ∙ append-nil (left_of done)

  -- the book is this, of which all orders are the same
  silent : (b : BookState) → taken_in action ≡ None → left_in action ≡ None → new.book ≡ b
      → IsTrackedBy (left_of done) (λ (q : ℕ). reports_from q done) b → Then new.book
  silent b untaken none same on =
      subst Then (sym same)
      (kept_by (outlook_of b) b.ranks (left_of done ++ b.orders) (left_of done_then ++ b.orders)
      (λ (q : ℕ). reports_from q done) (λ (q : ℕ). reports_from q done_then)
      (ap (λ (ts : List Told). ts ++ b.orders) (unleft none)) (unheard untaken) on)

  -- an order left the queue
  left_one : (told : Told) → taken_in action ≡ None → left_of done_then ≡ left_of done ++ told ∷ []
      → IsOrderTold old.book new.book told → Then new.book
  left_one told untaken left is =
      let b : BookState = record old.book { orders = new.book.orders } in
      subst Then (sym is.rest)
      (kept_by (outlook_of b) b.ranks (left_of done ++ old.book.orders) (left_of done_then ++ b.orders)
      (λ (q : ℕ). reports_from q done) (λ (q : ℕ). reports_from q done_then)
      (ap (λ (ts : List Told). ts ++ b.orders) left ∙ append_assoc (left_of done) (told ∷ []) b.orders
      ∙ ap (λ (ts : List Told). left_of done ++ ts) (sym is.first)) (unheard untaken) t)

-- a report was received
took_tracked : (done : List Action) (old : CoordinatorState) (r : ℕ) (report : Report) (answer : Heard) (new : CoordinatorState)
    → IsTaken old new r report answer → IsFair old.book (state_at old.book.ranks r) report
    → IsReportNamed old.book.last report → is_deadly answer ≡ false → answer ≢ Memory
    → IsTrackedBy (left_of done) (λ (q : ℕ). reports_from q done) old.book
    → IsTrackedBy (left_of (done ++ Took r report answer ∷ []))
    (λ (q : ℕ). reports_from q (done ++ Took r report answer ∷ [])) new.book
took_tracked done old r report answer new does fair named harmless some t =
    let action : Action = Took r report answer in
    let heard_then : ℕ → List Report = λ q. reports_from q (done ++ action ∷ []) in
    let same : new.book ≡ after_hearing answer r report old.book =
    ap (λ (s : CoordinatorState). s.book) does.rest in
    let h : HasHeard r report (λ (q : ℕ). reports_from q done) heard_then = record {
      its = reports_push r done action
          ∙ ap (λ (yes : Bool). reports_from r done ++ only yes report) (eq-eqb r r refl);
      others = λ q other. reports_push q done action
          ∙ ap (λ (yes : Bool). reports_from q done ++ only yes report)
          (ne_eqb r q (λ e. other (sym e)))
          ∙ append-nil (reports_from q done);
    } in
    subst (λ (b : BookState). IsTrackedBy (left_of (done ++ action ∷ [])) heard_then b) (sym same)
    (subst (λ (ts : List Told). IsTrackedBy ts heard_then (after_hearing answer r report old.book))
    (sym (left_push done action ∙ append-nil (left_of done)))
    (heard_so old.book (left_of done) r (λ (q : ℕ). reports_from q done) heard_then report answer h does.there
    does.due fair named harmless some t))

-- what an action needs to be fair
abbrev IsFairAction : CoordinatorState → Action → Type 0
IsFairAction old (Took r report answer) =
    IsFair old.book (state_at old.book.ranks r) report × IsReportNamed old.book.last report
IsFairAction old action = Unit {0}

tracked_more : (done : List Action) (old : CoordinatorState) (action : Action) (new : CoordinatorState) → NextState old action new
    → IsQuietAction action → IsHarmlessAction action → IsFairAction old action
    → IsTrackedBy (left_of done) (λ (q : ℕ). reports_from q done) old.book
    → IsTrackedBy (left_of (done ++ action ∷ [])) (λ (q : ℕ). reports_from q (done ++ action ∷ [])) new.book
tracked_more done old (Launched q) new does quiet harmless fair t =
    silent done old (Launched q) new t old.book refl refl (ap (λ (s : CoordinatorState). s.book) does.1) t
tracked_more done old (SetUp q bytes) new does quiet harmless fair t =
    silent done old (SetUp q bytes) new t old.book refl refl (ap (λ (s : CoordinatorState). s.book) does.rest) t
tracked_more done old (Closed q) new does quiet harmless fair t =
    silent done old (Closed q) new t old.book refl refl (ap (λ (s : CoordinatorState). s.book) does.rest) t
tracked_more done old (Came q bytes) new does quiet harmless fair t =
    silent done old (Came q bytes) new t old.book refl refl (ap (λ (s : CoordinatorState). s.book) does.rest) t
tracked_more done old (Took q report answer) new does quiet harmless fair t =
    took_tracked done old q report answer new does fair.0 fair.1 harmless quiet t
tracked_more done old (Lost q cause) new does quiet harmless fair t = absurd quiet
tracked_more done old Decided new does quiet harmless fair t =
    silent done old Decided new t new.book refl refl refl
    (decided_so (left_of done) (λ (q : ℕ). reports_from q done) old.book new.book does.is t)
tracked_more done old (Sent q order) new does quiet harmless fair t =
    left_one done old (Sent q order) new t (record { rank = q; order = order }) refl
    (left_push done (Sent q order)) does.told
tracked_more done old (Unsent q order) new does quiet harmless fair t = absurd quiet
tracked_more done old (Passed q order) new does quiet harmless fair t =
    left_one done old (Passed q order) new t (record { rank = q; order = order }) refl
    (left_push done (Passed q order)) does.told
tracked_more done old Broke new does quiet harmless fair t = absurd quiet
tracked_more done old (Unclosed q) new does quiet harmless fair t = absurd quiet
tracked_more done old (Halted steps) new does quiet harmless fair t = absurd quiet
tracked_more done old (Unwritten q order) new does quiet harmless fair t = absurd quiet
tracked_more done old (Unfed q bytes) new does quiet harmless fair t = absurd quiet
tracked_more done old Unread new does quiet harmless fair t = absurd quiet
tracked_more done old Saved new does quiet harmless fair t =
    silent done old Saved new t old.book refl refl (ap (λ (s : CoordinatorState). s.book) does.rest) t

-- ---- a trace from the beginning

module _ (b : BookState) (faults : ℕ) (unused : IsUnused b) where
  fair_action : (done : List Action) (old : CoordinatorState) (action : Action) (mid : CoordinatorState)
      → IsTrace (beginning b faults) done old → NextState old action mid → AreWorked mid.said → AreAway done old
      → IsTrackedBy (left_of done) (λ (q : ℕ). reports_from q done) old.book → IsFairAction old action
  fair_action done old (Launched q) mid so does worked away t = tt
  fair_action done old (SetUp q bytes) mid so does worked away t = tt
  fair_action done old (Closed q) mid so does worked away t = tt
  fair_action done old (Came q bytes) mid so does worked away t = tt
  fair_action done old (Took q report answer) mid so does worked away t = (
    told_fair b faults unused done old mid so q (away q) answer report does (worked q)
        (work_fair b faults unused done old mid so q t answer (worked q) report does),
    report_named b faults unused done old mid so q t answer (worked q) report does,
  )
  fair_action done old (Lost q cause) mid so does worked away t = tt
  fair_action done old Decided mid so does worked away t = tt
  fair_action done old (Sent q order) mid so does worked away t = tt
  fair_action done old (Unsent q order) mid so does worked away t = tt
  fair_action done old (Passed q order) mid so does worked away t = tt
  fair_action done old Broke mid so does worked away t = tt
  fair_action done old (Unclosed q) mid so does worked away t = tt
  fair_action done old (Halted steps) mid so does worked away t = tt
  fair_action done old (Unwritten q order) mid so does worked away t = tt
  fair_action done old (Unfed q bytes) mid so does worked away t = tt
  fair_action done old Unread mid so does worked away t = tt
  fair_action done old Saved mid so does worked away t = tt

  harmless_action : (old : CoordinatorState) (action : Action) (mid : CoordinatorState) → NextState old action mid → IsFairAction old action
      → IsHarmlessAction action
  harmless_action old (Launched q) mid does fair = tt
  harmless_action old (SetUp q bytes) mid does fair = tt
  harmless_action old (Closed q) mid does fair = tt
  harmless_action old (Came q bytes) mid does fair = tt
  harmless_action old (Took q report answer) mid does fair = fair_lives old.book q report answer does.due fair.0
  harmless_action old (Lost q cause) mid does fair = tt
  harmless_action old Decided mid does fair = tt
  harmless_action old (Sent q order) mid does fair = tt
  harmless_action old (Unsent q order) mid does fair = tt
  harmless_action old (Passed q order) mid does fair = tt
  harmless_action old Broke mid does fair = tt
  harmless_action old (Unclosed q) mid does fair = tt
  harmless_action old (Halted steps) mid does fair = tt
  harmless_action old (Unwritten q order) mid does fair = tt
  harmless_action old (Unfed q bytes) mid does fair = tt
  harmless_action old Unread mid does fair = tt
  harmless_action old Saved mid does fair = tt

  all_harmless : (said : List Exchange) → AreAlwaysWorked said → (done : List Action) (old : CoordinatorState)
      (actions : List Action) (new : CoordinatorState) → IsTrace (beginning b faults) done old
      → IsTrace old actions new → said ≡ new.said → AreQuiet actions → AreAway done old
      → IsTrackedBy (left_of done) (λ (q : ℕ). reports_from q done) old.book → AreHarmless actions
  all_harmless said worked done old [] new so trace ends quiet away t =
      λ rank report answer there. absurd (nothing_in (Took rank report answer) there)
  all_harmless said worked done old (action ∷ actions) new so (mid, does, rest) ends quiet away t =
      let so_far = trace_more (beginning b faults) done old mid action so does in
      let here = traffic b faults unused (done ++ action ∷ []) mid so_far 0 in
      let later = traffic_is mid.book.settings.gap 0 mid actions new refl here.fit rest in
      let fair = fair_action done old action mid so does
      (worked mid.said later.more (ends ∙ later.grown)) away t in
      let harmless = harmless_action old action mid does fair in
      let is_quiet = quiet action (in_front action actions) in
      harmless_more action actions harmless
      (all_harmless said worked (done ++ action ∷ []) mid actions new so_far rest ends
      (λ one there. quiet one (behind action actions one there))
      (away_more done old action mid does is_quiet harmless away)
      (tracked_more done old action mid does is_quiet harmless fair t))

-- ---- at the beginning

is_away : (state : State) → is_joined state ≡ false → IsAway state
is_away Absent none = tt
is_away Idle none = absurd (false≢true (sym none))
is_away (Racing racer) none = absurd (false≢true (sym none))
is_away (Active work) none = absurd (false≢true (sym none))
is_away (Dead how) none = tt

away_on : (o : Outlook) (all : List Told) (heard : List Report) (state : State) → IsAway state
    → IsOn o all heard state
away_on o all heard Absent away = tt
away_on o all heard Idle away = absurd away
away_on o all heard (Racing racer) away = absurd away
away_on o all heard (Active work) away = absurd away
away_on o all heard (Dead how) away = tt

first_tracked : (b : BookState) → IsUnused b → ((rank : ℕ) → is_joined (state_at b.ranks rank) ≡ false)
    → IsTrackedBy [] (λ (q : ℕ). []) b
first_tracked b unused away = record {
  orders = λ told there. absurd (nothing_in told (subst (λ (ts : List Told). Contains ts told) unused.orders there));
  named = λ rank report there. absurd (nothing_in report there);
  on = λ rank. away_on (outlook_of b) b.orders [] (state_at b.ranks rank)
      (is_away (state_at b.ranks rank) (away rank));
}

pub calm_workers_live : CalmWorkersLive
calm_workers_live b faults now come c rank cause =
    let quiet = trace_quiet b faults now come c in
    let deadly = answer_of_cause rank come.actions quiet cause in
    let harmless = all_harmless b faults c.unused now.said c.worked [] (beginning b faults) come.actions now refl
    come.trace refl quiet (λ r none. is_away (state_at b.ranks r) (c.away r)) (first_tracked b c.unused c.away) in
    false≢true (sym (harmless rank deadly.report deadly.answer deadly.among) ∙ deadly.deadly)
