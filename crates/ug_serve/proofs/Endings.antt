-- That what is seen of a link shows how its service ended.
use Rattle.std.proofs.Common.{◌≡◌, ◌⊎◌, inl, inr, Bool, true, false, List, [], ◌∷◌, append-nil, Option, Some, IfSome, refl, sym, ap, subst, ◌∙◌, arith}
use Rattle.std.proofs.lemmas.Bool.{cases_Bool, false≢true}
use Rattle.std.specs.List.{flat_map}
use Rattle.std.specs.Prelude.{Contains}
use Rattle.ug_io.specs.declared.link.Said.{Said}
use Rattle.ug_frames.specs.declared.order.Order.{Order}
use Rattle.ug_frames.specs.declared.order.Order.TheVariants as orders
use Rattle.ug_frames.specs.declared.report.Report.{Report}
use Rattle.ug_frames.specs.declared.report.Report.TheVariants.{Ready, Solution, Hand, State, Done, Ended}
use Rattle.ug_frames.specs.ReportFrames as reports
use Rattle.ug_serve.specs.Traces.{Reaches, IsTrace, ServerState, beginning}
use Rattle.ug_serve.specs.CrewLaws.{reports_of}
use Rattle.ug_serve.specs.Actions.{Blank, Busy, Came, Action, Ending, Free, IsTaken, IsTold, Over, SetUp, Stage, Told, Took}
use Rattle.ug_serve.specs.Endings.{ServicesEndInOneWay}
use Rattle.ug_serve.specs.LinkBytes.{told_in}
use Rattle.ug_serve.specs.Serving.{IsOpen}
use Rattle.ug_serve.proofs.Heard.{all_carried, one_way, shown_told}
use Rattle.ug_serve.proofs.Told.{behind, first_or, in_front, none_there}

-- ---- stages

abbrev is_over : Stage → Bool
is_over Blank = false
is_over (SetUp basis) = false
is_over (Free basis round_count) = false
is_over (Busy basis round_count e) = false
is_over Ending = false
is_over Over = true

-- it is another stage
other : (stage due : Stage) → stage ≡ due → is_over due ≡ false → is_over stage ≡ true → ⊥
other stage due same not over = false≢true (sym (ap is_over same ∙ not) ∙ over)

for_task : (stage a b : Stage) (P Q : Type 0) → (P × (stage ≡ a)) ⊎ (Q × (stage ≡ b)) → is_over a ≡ false
    → is_over b ≡ false → is_over stage ≡ true → ⊥
for_task stage a b P Q (inl is) x y over = other stage a is.1 x over
for_task stage a b P Q (inr is) x y over = other stage b is.1 y over

-- no order leads there
taken_over : (s : Stage) (order : Order) (t : Stage) → IsTaken s order t → is_over t ≡ true → ⊥
taken_over Blank (orders.Setup gap bytes) t is over = other t _ is.set refl over
taken_over Blank (orders.Work ticket params race cutoff changes) t is over = absurd is
taken_over Blank (orders.Incumbent cutoff) t is over = absurd is
taken_over Blank (orders.CollectIn ticket count) t is over = absurd is
taken_over Blank (orders.CollectOut ticket) t is over = absurd is
taken_over Blank (orders.Winner ticket) t is over = absurd is
taken_over Blank (orders.Stop ticket) t is over = absurd is
taken_over Blank orders.End t is over = absurd is
taken_over (SetUp basis) order t is over = absurd is
taken_over (Free basis round_count) (orders.Setup gap bytes) t is over = absurd is
taken_over (Free basis round_count) (orders.Work ticket params race cutoff changes) t is over = other t _ is.begins refl over
taken_over (Free basis round_count) (orders.Incumbent cutoff) t is over = other t _ is refl over
taken_over (Free basis round_count) (orders.CollectIn ticket count) t is over = other t _ is refl over
taken_over (Free basis round_count) (orders.CollectOut ticket) t is over = other t _ is refl over
taken_over (Free basis round_count) (orders.Winner ticket) t is over = other t _ is refl over
taken_over (Free basis round_count) (orders.Stop ticket) t is over = other t _ is refl over
taken_over (Free basis round_count) orders.End t is over = other t _ is refl over
taken_over (Busy basis round_count e) (orders.Setup gap bytes) t is over = absurd is
taken_over (Busy basis round_count e) (orders.Work ticket params race cutoff changes) t is over = absurd is
taken_over (Busy basis round_count e) (orders.Incumbent cutoff) t is over = other t _ is.1 refl over
taken_over (Busy basis round_count e) (orders.CollectIn ticket count) t is over = for_task t _ _ _ _ is.done refl refl over
taken_over (Busy basis round_count e) (orders.CollectOut ticket) t is over = for_task t _ _ _ _ is.done refl refl over
taken_over (Busy basis round_count e) (orders.Winner ticket) t is over = for_task t _ _ _ _ is.done refl refl over
taken_over (Busy basis round_count e) (orders.Stop ticket) t is over = for_task t _ _ _ _ is.done refl refl over
taken_over (Busy basis round_count e) orders.End t is over = other t _ is.1 refl over
taken_over Ending order t is over = absurd is
taken_over Over order t is over = absurd is

-- and of reports Ended alone does
told_over : (s : Stage) (report : Report) (t : Stage) → IsTold s report t → is_over t ≡ true → report ≡ Ended
told_over Blank report t is over = absurd is
told_over (SetUp basis) Ready t is over = absurd (other t _ is refl over)
told_over (SetUp basis) (Solution ticket x) t is over = absurd is
told_over (SetUp basis) (Hand ticket number changes) t is over = absurd is
told_over (SetUp basis) (State ticket nodes floor) t is over = absurd is
told_over (SetUp basis) (Done ticket cutoff count ending) t is over = absurd is
told_over (SetUp basis) Ended t is over = refl
told_over (Free basis round_count) report t is over = absurd is
told_over (Busy basis round_count e) Ready t is over = absurd is
told_over (Busy basis round_count e) (Solution ticket x) t (f, its, found, is) over = absurd (other t _ is refl over)
told_over (Busy basis round_count e) (Hand ticket number changes) t (f, hand, is) over = absurd (other t _ is refl over)
told_over (Busy basis round_count e) (State ticket nodes floor) t (f, its, stated, is) over = absurd (other t _ is refl over)
told_over (Busy basis round_count e) (Done ticket cutoff count ending) t (done, is) over = absurd (other t _ is refl over)
told_over (Busy basis round_count e) Ended t is over = refl
told_over Ending Ready t is over = absurd is
told_over Ending (Solution ticket x) t is over = absurd is
told_over Ending (Hand ticket number changes) t is over = absurd is
told_over Ending (State ticket nodes floor) t is over = absurd is
told_over Ending (Done ticket cutoff count ending) t is over = absurd is
told_over Ending Ended t is over = refl
told_over Over report t is over = absurd is

told_ended : (s t : Stage) → IsTold s Ended t → is_over t ≡ true
told_ended Blank t is = absurd is
told_ended (SetUp basis) t is = absurd is
told_ended (Free basis round_count) t is = absurd is
told_ended (Busy basis round_count e) t is = absurd is
told_ended Ending t is = ap is_over is
told_ended Over t is = absurd is

-- nothing leads on from there
none_taken : (s : Stage) (order : Order) (t : Stage) → IsTaken s order t → is_over s ≡ true → ⊥
none_taken Blank order t is over = false≢true over
none_taken (SetUp basis) order t is over = false≢true over
none_taken (Free basis round_count) order t is over = false≢true over
none_taken (Busy basis round_count e) order t is over = false≢true over
none_taken Ending order t is over = false≢true over
none_taken Over order t is over = is

none_told : (s : Stage) (report : Report) (t : Stage) → IsTold s report t → is_over s ≡ true → ⊥
none_told Blank report t is over = false≢true over
none_told (SetUp basis) report t is over = false≢true over
none_told (Free basis round_count) report t is over = false≢true over
none_told (Busy basis round_count e) report t is over = false≢true over
none_told Ending report t is over = false≢true over
none_told Over report t is over = is

open_on : (s : Stage) → IsOpen s → is_over s ≡ true → ⊥
open_on Blank shows over = false≢true over
open_on (SetUp basis) shows over = false≢true over
open_on (Free basis round_count) shows over = false≢true over
open_on (Busy basis round_count e) shows over = false≢true over
open_on Ending shows over = shows
open_on Over shows over = shows

-- ---- traces

over_stays : (a : ServerState) (actions : List Action) (b : ServerState) → IsTrace a actions b → is_over a.stage ≡ true
    → is_over b.stage ≡ true
over_stays a [] b same over = ap (λ (s : ServerState). is_over s.stage) same ∙ over
over_stays a (Came bytes ∷ actions) b (mid, does, more) over =
    over_stays mid actions b more (ap (λ (s : ServerState). is_over s.stage) does ∙ over)
over_stays a (Took order ∷ actions) b (mid, does, more) over = absurd (none_taken a.stage order mid.stage does.taken over)
over_stays a (Told report ∷ actions) b (mid, does, more) over = absurd (none_told a.stage report mid.stage does.due over)

-- if Ended was sent it is over
ended_over : (a : ServerState) (actions : List Action) (b : ServerState) → IsTrace a actions b
    → Contains (reports_of actions) Ended → is_over b.stage ≡ true
ended_over a [] b same there = absurd (none_there Ended there)
ended_over a (Came bytes ∷ actions) b (mid, does, more) there = ended_over mid actions b more there
ended_over a (Took order ∷ actions) b (mid, does, more) there = ended_over mid actions b more there
ended_over a (Told report ∷ actions) b (mid, does, more) there =
    elim (first_or report (reports_of actions) Ended there) [
      | inl same ↦ over_stays mid actions b more
          (told_ended a.stage mid.stage (subst (λ (r : Report). IsTold a.stage r mid.stage) same does.due))
      | inr later ↦ ended_over mid actions b more later
    ]

-- and there alone
over_ended : (a : ServerState) (actions : List Action) (b : ServerState) → IsTrace a actions b → is_over a.stage ≡ false
    → is_over b.stage ≡ true → Contains (reports_of actions) Ended
over_ended a [] b same not over = absurd (false≢true (sym not ∙ sym (ap (λ (s : ServerState). is_over s.stage) same) ∙ over))
over_ended a (Came bytes ∷ actions) b (mid, does, more) not over =
    over_ended mid actions b more (ap (λ (s : ServerState). is_over s.stage) does ∙ not) over
over_ended a (Took order ∷ actions) b (mid, does, more) not over = elim (cases_Bool (is_over mid.stage)) [
  | inl now ↦ absurd (taken_over a.stage order mid.stage does.taken now)
  | inr on ↦ over_ended mid actions b more on over
]
over_ended a (Told report ∷ actions) b (mid, does, more) not over = elim (cases_Bool (is_over mid.stage)) [
  | inl now ↦ subst (λ (r : Report). Contains (report ∷ reports_of actions) r)
      (told_over a.stage report mid.stage does.due now) (in_front report (reports_of actions))
  | inr on ↦ behind report (reports_of actions) Ended (over_ended mid actions b more on over)
]

-- the same was said, so the same reports were sent
same_reports : (x y : ServerState) (one : Reaches x) (two : Reaches y) → x.said ≡ y.said
    → reports_of one.actions ≡ reports_of two.actions
same_reports x y one two same =
    let none = one_way.short [] (inl (omega arith)) in
    let both = one_way.one (reports_of one.actions) (reports_of two.actions) [] []
    (all_carried beginning one.actions x one.trace) (all_carried beginning two.actions y two.trace) none none
    (append-nil (flat_map reports.spelled (reports_of one.actions))
    ∙ sym (shown_told beginning one.actions x one.trace)
    ∙ ap told_in same
    ∙ shown_told beginning two.actions y two.trace
    ∙ sym (append-nil (flat_map reports.spelled (reports_of two.actions)))) in
    both.0

said_so : (a : Option (List Said)) (said now : List Said) → a ≡ Some said → IfSome a (λ s. s ≡ now) → said ≡ now
said_so a said now is same = subst (λ (o : Option (List Said)). IfSome o (λ s. s ≡ now)) is same

-- ---- the law

pub services_end_in_one_way : ServicesEndInOneWay
services_end_in_one_way = record {
  lost_not_ended = λ seen lost ended. elim lost [
    | inl fault ↦ absurd (omega (arith, fault, ended.on.faults))
    | inr over ↦ false≢true (sym ended.on.ended ∙ over)
  ];
  lost_not_bad = λ seen at lost bad. elim lost [
    | inl fault ↦ absurd (omega (arith, fault, bad.on.faults))
    | inr over ↦ false≢true (sym bad.on.ended ∙ over)
  ];
  ended_not_bad = λ seen said at is ended bad.
      let same = sym (said_so seen.said said ended.now.said is ended.on.said) ∙ said_so seen.said said bad.now.said is bad.on.said in
      let told = over_ended beginning ended.on.come.actions ended.now ended.on.come.trace refl (ap is_over ended.over) in
      open_on bad.now.stage bad.running
      (ended_over beginning bad.on.come.actions bad.now bad.on.come.trace
      (subst (λ (l : List Report). Contains l Ended)
      (same_reports ended.now bad.now ended.on.come bad.on.come same) told));
}
