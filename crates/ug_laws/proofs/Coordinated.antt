-- What a coordinator at a crew does is a schedule.
use Rattle.std.proofs.Common.{◌≡◌, inl, inr, ℕ, ◌<◌, List, [], ◌∷◌, ◌++◌, append_assoc, length, Some, refl, sym, ap, subst, ◌∙◌, arith}
use Rattle.std.specs.Prelude.{slice_get}
use Rattle.ug_frames.specs.declared.order.Order.{Order}
use Rattle.ug_frames.specs.declared.report.Report.{Report}
use Rattle.ug_frames.specs.declared.report.Report.TheVariants.{Ready, Solution, Hand, State, Done}
use Rattle.ug_frames.specs.declared.report.Report.TheVariants.{Ended}
use Rattle.ug_frames.specs.Reports.{IsReport}
use Rattle.ug_frames.specs.Honest.{AreHonest}
use Rattle.ug_rules.specs.declared.heard.Heard.{Heard}
use Rattle.ug_rules.specs.declared.told.Told.{Told}
use Rattle.ug_rules.specs.State.{BookState}
use Rattle.ug_rules.specs.Books.{IsBook, IsSoundBook}
use Rattle.ug_rules.specs.Hearing.{IsHearable}
use Rattle.ug_rules.specs.HearingLaws.{HasRisingChanges}
use Rattle.ug_rules.specs.Deaths.{killed}
use Rattle.ug_book.specs.Reads.{IsOrderTold}
use Rattle.ug_coord.specs.Actions.{AreSound, Broke, Came, Closed, Decided, Action, NextState, Halted, IsTrace, Launched, Lost, Passed}
use Rattle.ug_coord.specs.Actions.{Sent, SetUp, CoordinatorState, Took, Unclosed, Unfed, Unread, Unsent, Unwritten, IsTaken, IsUnsent}
use Rattle.ug_coord.specs.Actions.{Kept as Saved}
use Rattle.ug_coord.specs.Coordinators.{beginning}
use Rattle.ug_laws.specs.declared.event.Event.TheVariants.{Send, Hear, Gone, Decide, Tell}
use Rattle.ug_laws.specs.declared.decision.Decision.{Decision}
use Rattle.ug_laws.specs.declared.decision.Decision.TheVariants.{Whole, CutShort}
use Rattle.ug_laws.specs.Worlds.{IsMadeAsFar, World, opening, told_first}
use Rattle.ug_laws.specs.Honest.{IsGivenWith}
use Rattle.ug_laws.specs.Laws.{LosesNothing}
use Rattle.ug_laws.specs.Coordinators.{CoordinatorsLoseNothing, IsHonestSo, Past, StaysHonest, after, honest_at, nothing, with_decision, with_order, with_report}
use Rattle.ug_laws.proofs.Traces.{Holds, event_holds, loses_nothing, unused_holds}
use Rattle.ug_laws.proofs.Trusted.{AreTrue, honest_true, unused_true}

-- the world that this is
abbrev world_of : BookState → Past → World
world_of b past = record {
  book = b;
  told = past.told;
  sent = past.heard;
  replies = past.replies;
  decisions = past.decisions;
}

-- facts about each state
pub record Keeps (n : ℕ) (b : BookState) (past : Past) : Type 0 where
  pub holds : Holds n (world_of b past)
  pub true_ : AreTrue b past.heard

same_book : (n : ℕ) (old new : BookState) (past : Past) → new ≡ old → Keeps n old past → Keeps n new past
same_book n old new past same k = subst (λ (b : BookState). Keeps n b past) (sym same) k

-- ---- reports

hearable : (report : Report) → IsReport report → IsHearable report
hearable Ready is = tt
hearable (Solution ticket x) is = tt
hearable (Hand ticket number changes) is = tt
hearable (State ticket nodes floor) is = omega (arith, is.fields.0)
hearable (Done ticket cutoff count ending) is = tt
hearable Ended is = tt

rising : (report : Report) → IsReport report → HasRisingChanges report
rising Ready is = tt
rising (Solution ticket x) is = tt
rising (Hand ticket number changes) is = is.fields.rising
rising (State ticket nodes floor) is = tt
rising (Done ticket cutoff count ending) is = tt
rising Ended is = tt

last_there : (sent : List Report) (report : Report)
    → slice_get (sent ++ report ∷ []) (length sent) ≡ Some report
last_there [] report = refl
last_there (first ∷ sent) report = last_there sent report

-- it comes, and is received
took : (n : ℕ) (old mid : CoordinatorState) (past : Past) (rank : ℕ) (report : Report) (answer : Heard)
    → IsTaken old mid rank report answer → IsHonestSo old.book past.told (past.heard ++ report ∷ [])
    → Keeps n old.book past → Holds n (world_of mid.book (with_report past report answer))
took n old mid past rank report answer t honest k =
    let w = world_of old.book past in
    let came : World = record w { sent = past.heard ++ report ∷ [] } in
    let first = event_holds n w came (Send report) (hearable report t.given.carried.can) refl k.true_ k.holds in
    let true_ = honest_true past.told old.book (past.heard ++ report ∷ []) honest first.known in
    event_holds n came (world_of mid.book (with_report past report answer)) (Hear (length past.heard) rank)
    (omega (arith, t.there, k.holds.wide))
    (record {
      report = report;
      answer = answer;
      there = last_there past.heard report;
      rising = rising report t.given.carried.can;
      due = t.due;
      done = ap (λ (s : CoordinatorState). world_of s.book (with_report past report answer)) t.rest;
    }) true_ first

-- ---- orders

-- one left the queue
left : (n : ℕ) (old without : BookState) (past : Past) (told : Told) → IsOrderTold old without told
    → Keeps n old past → Holds n (world_of without (with_order past told))
left n old without past told t k =
    event_holds n (world_of old past) (world_of without (with_order past told)) Tell tt
    (ap (λ (b : BookState). world_of b (with_order past told)) t.rest
    ∙ ap (λ (orders : List Told). told_first orders (world_of old past)) (sym t.first)) k.true_ k.holds

-- and with it what was received stays honest
left_honest : (old without : BookState) (past : Past) (told : Told) → IsOrderTold old without told
    → IsHonestSo old past.told past.heard
    → IsHonestSo without (past.told ++ told ∷ []) past.heard
left_honest old without past told t honest =
    let all : past.told ++ old.orders ≡ (past.told ++ told ∷ []) ++ without.orders =
    ap (λ (orders : List Told). past.told ++ orders) t.first
    ∙ sym (append_assoc past.told (told ∷ []) without.orders) in
    let problem : without.problem ≡ old.problem = ap (λ (b : BookState). b.problem) t.rest in
    subst (λ p. AreHonest p (IsGivenWith p ((past.told ++ told ∷ []) ++ without.orders)) past.heard) (sym problem)
    (subst (λ (orders : List Told). AreHonest old.problem (IsGivenWith old.problem orders) past.heard) all honest)

-- a rank is lost
gone : (n : ℕ) (old new : BookState) (past : Past) (rank : ℕ) → rank < length old.ranks
    → new ≡ killed rank old → AreTrue old past.heard → Holds n (world_of old past)
    → Holds n (world_of new past)
gone n old new past rank there dead true_ holds =
    event_holds n (world_of old past) (world_of new past) (Gone rank) (omega (arith, there, holds.wide))
    (ap (λ (b : BookState). world_of b past) dead) true_ holds

-- the rank of an order that could not be sent
unsent : (n : ℕ) (old mid : CoordinatorState) (past : Past) (rank : ℕ) (order : Order) → IsUnsent old mid rank order
    → IsHonestSo old.book past.told past.heard → Keeps n old.book past
    → Holds n (world_of mid.book (with_order past (record { rank = rank; order = order })))
unsent n old mid past rank order t honest k =
    let told : Told = record { rank = rank; order = order } in
    let first = left n old.book t.without past told t.told k in
    let true_ = honest_true (past.told ++ told ∷ []) t.without past.heard
    (left_honest old.book t.without past told t.told honest) first.known in
    gone n t.without mid.book (with_order past told) rank
    (omega (arith, t.there, ap (λ (b : BookState). length b.ranks) t.told.rest))
    (ap (λ (s : CoordinatorState). s.book) t.rest) true_ first

-- ---- each action

same_holds : (n : ℕ) (old new : BookState) (past : Past) → new ≡ old → Keeps n old past
    → Holds n (world_of new past)
same_holds n old new past same k = (same_book n old new past same k).holds

decided : (n : ℕ) (old new : BookState) (past : Past) (decision : Decision)
    → IsMadeAsFar decision old new → Keeps n old past
    → Holds n (world_of new (with_decision past decision))
decided n old new past decision made k =
    event_holds n (world_of old past) (world_of new (with_decision past decision)) Decide tt
    (record { decision = decision; made = made; rest = refl }) k.true_ k.holds

action_holds : (n : ℕ) (old mid : CoordinatorState) (past : Past) (action : Action) → NextState old action mid
    → honest_at old past action → IsHonestSo old.book past.told past.heard → Keeps n old.book past
    → Holds n (world_of mid.book (after action past))
action_holds n old mid past (Launched rank) (away, rest) now honest k =
    same_holds n old.book mid.book past (ap (λ (s : CoordinatorState). s.book) rest) k
action_holds n old mid past (SetUp rank bytes) does now honest k =
    same_holds n old.book mid.book past (ap (λ (s : CoordinatorState). s.book) does.rest) k
action_holds n old mid past (Closed rank) does now honest k =
    same_holds n old.book mid.book past (ap (λ (s : CoordinatorState). s.book) does.rest) k
action_holds n old mid past (Came rank bytes) does now honest k =
    same_holds n old.book mid.book past (ap (λ (s : CoordinatorState). s.book) does.rest) k
action_holds n old mid past (Took rank report answer) does now honest k =
    took n old mid past rank report answer does now k
action_holds n old mid past (Lost rank cause) does now honest k =
    gone n old.book mid.book past rank does.there does.book k.true_ k.holds
action_holds n old mid past Decided does now honest k =
    decided n old.book mid.book past Whole does.is k
action_holds n old mid past (Sent rank order) does now honest k =
    left n old.book mid.book past (record { rank = rank; order = order }) does.told k
action_holds n old mid past (Unsent rank order) does now honest k =
    unsent n old mid past rank order does honest k
action_holds n old mid past (Passed rank order) does now honest k =
    left n old.book mid.book past (record { rank = rank; order = order }) does.told k
action_holds n old mid past Broke does now honest k =
    same_holds n old.book mid.book past (ap (λ (s : CoordinatorState). s.book) does.rest) k
action_holds n old mid past (Unclosed rank) does now honest k =
    same_holds n old.book mid.book past (ap (λ (s : CoordinatorState). s.book) does.rest) k
action_holds n old mid past (Halted steps) does now honest k =
    decided n old.book mid.book past (CutShort steps) does.is k
action_holds n old mid past (Unwritten rank order) does now honest k =
    left n old.book mid.book past (record { rank = rank; order = order }) does.told k
action_holds n old mid past (Unfed rank bytes) does now honest k =
    same_holds n old.book mid.book past (ap (λ (s : CoordinatorState). s.book) does.rest) k
action_holds n old mid past Unread (reading, rest) now honest k =
    same_holds n old.book mid.book past (ap (λ (s : CoordinatorState). s.book) rest) k
action_holds n old mid past Saved does now honest k =
    same_holds n old.book mid.book past (ap (λ (s : CoordinatorState). s.book) does.rest) k

trace_keeps : (n : ℕ) (old : CoordinatorState) (past : Past) (actions : List Action) (new : CoordinatorState)
    → (trace : IsTrace old actions new) → StaysHonest old past actions new trace
    → IsHonestSo old.book past.told past.heard → Keeps n old.book past
    → AreSound old actions new trace × LosesNothing new.book
trace_keeps n old past [] new same stays honest k = (
  k.holds.sound,
  subst (λ (s : CoordinatorState). LosesNothing s.book) (sym same) (loses_nothing old.book k.holds.sound),
)
trace_keeps n old past (action ∷ actions) new (mid, does, more) (now, rest) honest k =
    let holds = action_holds n old mid past action does now honest k in
    let all = trace_keeps n mid (after action past) actions new more rest.1 rest.0
    (record {
      holds = holds;
      true_ = honest_true (after action past).told mid.book (after action past).heard rest.0 holds.known;
    }) in
    ((k.holds.sound, all.0), all.1)

none_heard : (b : BookState) → IsHonestSo b [] []
none_heard b = record {
  hands = λ ticket hand a c one two. absurd (omega (arith, one.among.1));
  dones = λ ticket cutoff count ending among area given x inside good. absurd (omega (arith, among.1));
}

book_loses_nothing : (b : BookState) (faults : ℕ) (actions : List Action) (now : CoordinatorState) → IsBook b
    → IsSoundBook b → b.last ≡ 0 → (trace : IsTrace (beginning b faults) actions now)
    → StaysHonest (beginning b faults) nothing actions now trace
    → AreSound (beginning b faults) actions now trace × LosesNothing now.book
book_loses_nothing b faults actions now book sound unused trace stays =
    trace_keeps (length b.ranks) (beginning b faults) nothing actions now trace stays (none_heard b)
    (record {
      holds = unused_holds (opening b []) book sound unused;
      true_ = unused_true b [] book unused;
    })

-- without an action
none_loses : (b : BookState) (faults : ℕ) (actions : List Action) (now : CoordinatorState) → actions ≡ [] → IsSoundBook b
    → (trace : IsTrace (beginning b faults) actions now)
    → AreSound (beginning b faults) actions now trace × LosesNothing now.book
none_loses b faults [] now none sound trace =
    (sound, subst (λ (s : CoordinatorState). LosesNothing s.book) (sym trace) (loses_nothing b sound))
none_loses b faults (action ∷ actions) now none sound trace = absurd cc

pub coordinators_lose_nothing : CoordinatorsLoseNothing
coordinators_lose_nothing b faults now come made sound unused stays = elim made [
  | inl book ↦ book_loses_nothing b faults come.actions now book sound unused come.trace stays
  | inr none ↦ none_loses b faults come.actions now none sound come.trace
]
