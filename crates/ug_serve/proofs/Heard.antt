-- That what is received from a rank of a crew of workers is what a worker sent.
use Rattle.std.proofs.Common.{◌≡◌, ◌⊎◌, inl, inr, ℕ, List, [], ◌∷◌, ◌++◌, length, All, append_assoc, append-nil, refl, sym, ap, ◌∙◌, arith}
use Rattle.std.specs.List.{flat_map}
use Rattle.std.proofs.lemmas.List.Elements.{All-cons, All-head, All-nil, All-tail}
use Rattle.ug_io.specs.declared.link.Said.{Said}
use Rattle.ug_io.specs.Links.{told}
use Rattle.ug_frames.specs.declared.order.Order.{Order}
use Rattle.ug_frames.specs.declared.report.Report.{Report}
use Rattle.ug_frames.specs.Laws.{FramesAreUnique}
use Rattle.ug_frames.specs.OrderFrames as orders
use Rattle.ug_frames.specs.OrderReading.{order_in}
use Rattle.ug_frames.specs.ReportFrames as reports
use Rattle.ug_frames.specs.ReportReading.{report_in}
use Rattle.ug_frames.proofs.Fronts.{only_one, unique}
use Rattle.ug_frames.proofs.OrderReaders.{body_of as order_body, order_whole, order_small}
use Rattle.ug_frames.proofs.ReportReaders.{body_of, report_whole, report_small}
use Rattle.ug_stream.specs.Laws.{IsReadInOneWay}
use Rattle.ug_stream.proofs.Reading.{in_one_way}
use Rattle.ug_serve.specs.Traces.{Reaches, IsTrace, ServerState, beginning}
use Rattle.ug_serve.specs.CrewLaws.{WorkersAreHeard, reports_of}
use Rattle.ug_serve.specs.Actions.{Action, Came, Took, Told}
use Rattle.ug_serve.specs.LinkBytes.{heard_in, told_in}
use Rattle.ug_serve.specs.Serving.{IsPartTold}
use Rattle.ug_serve.specs.Worked.{heard_at}
use Rattle.ug_serve.proofs.LinkBytes.{heard_more, heard_still, told_more, told_still}
use Rattle.ug_serve.proofs.Transcribed.{traces_are_transcripts}
use Rattle.ug_serve.proofs.Wires.{trace_more}

-- ---- reading frames

module _ {M : Type 0} (IsCarried : M → Type 0) (spelled : M → List ℕ)
    (one_way : IsReadInOneWay IsCarried spelled) (one_frame : FramesAreUnique IsCarried spelled) where
  -- messages whose frames begin the frames of others are the first of these
  pub front_of : (ms ns : List M) (r : List ℕ) → All IsCarried ms → All IsCarried ns
      → flat_map spelled ms ++ r ≡ flat_map spelled ns → (more : List M) × (ns ≡ ms ++ more)
  front_of [] ns r carried also same = (ns, refl)
  front_of (m ∷ ms) [] r carried also same =
      absurd (one_way.short [] (inl (omega arith)) m (record {
        carried = All-head IsCarried m ms carried;
        rest = flat_map spelled ms ++ r;
        parts = sym same ∙ append_assoc (spelled m) (flat_map spelled ms) r;
      }))
  front_of (m ∷ ms) (n ∷ ns) r carried also same =
      let first = one_frame m n (flat_map spelled ms ++ r) (flat_map spelled ns)
      (All-head IsCarried m ms carried) (All-head IsCarried n ns also)
      (sym (append_assoc (spelled m) (flat_map spelled ms) r) ∙ same) in
      let rest = front_of ms ns r (All-tail IsCarried m ms carried) (All-tail IsCarried n ns also) first.1 in (
        rest.0,
        (λ i. sym first.0 i ∷ rest.1 i),
      )

pub one_way : IsReadInOneWay reports.IsCarried reports.spelled
one_way =
    in_one_way reports.IsCarried reports.spelled
    (unique reports.IsCarried body_of report_in report_whole report_small)
    (only_one reports.IsCarried body_of report_in report_whole report_small)

one_frame : FramesAreUnique reports.IsCarried reports.spelled
one_frame = unique reports.IsCarried body_of report_in report_whole report_small

-- and so it is of orders
order_frame : FramesAreUnique orders.IsCarried orders.spelled
order_frame = unique orders.IsCarried order_body order_in order_whole order_small

pub front_orders : (os ns : List Order) (r : List ℕ) → All orders.IsCarried os → All orders.IsCarried ns
    → flat_map orders.spelled os ++ r ≡ flat_map orders.spelled ns → (more : List Order) × (ns ≡ os ++ more)
front_orders os ns r carried also same =
    front_of orders.IsCarried orders.spelled
    (in_one_way orders.IsCarried orders.spelled order_frame
    (only_one orders.IsCarried order_body order_in order_whole order_small)) order_frame os ns r carried also same

-- ---- what a trace shows

pub shown_told : (a : ServerState) (actions : List Action) (b : ServerState) → IsTrace a actions b
    → told_in b.said ≡ told_in a.said ++ flat_map reports.spelled (reports_of actions)
shown_told a [] b same =
    ap (λ (s : ServerState). told_in s.said) same ∙ sym (append-nil (told_in a.said))
shown_told a (Came bytes ∷ actions) b (mid, does, more) =
    shown_told mid actions b more
    ∙ ap (λ (t : List ℕ). t ++ flat_map reports.spelled (reports_of actions))
    (ap (λ (s : ServerState). told_in s.said) does ∙ told_still a.said bytes)
shown_told a (Took order ∷ actions) b (mid, does, more) =
    shown_told mid actions b more
    ∙ ap (λ (t : List ℕ). t ++ flat_map reports.spelled (reports_of actions))
    (ap (λ (s : List Said). told_in s) does.said)
shown_told a (Told report ∷ actions) b (mid, does, more) =
    shown_told mid actions b more
    ∙ ap (λ (t : List ℕ). t ++ flat_map reports.spelled (reports_of actions))
    (ap (λ (s : List Said). told_in s) does.said ∙ told_more a.said (reports.spelled report))
    ∙ append_assoc (told_in a.said) (reports.spelled report)
    (flat_map reports.spelled (reports_of actions))

pub all_carried : (a : ServerState) (actions : List Action) (b : ServerState) → IsTrace a actions b
    → All reports.IsCarried (reports_of actions)
all_carried a [] b same = All-nil reports.IsCarried
all_carried a (Came bytes ∷ actions) b (mid, does, more) = all_carried mid actions b more
all_carried a (Took order ∷ actions) b (mid, does, more) = all_carried mid actions b more
all_carried a (Told report ∷ actions) b (mid, does, more) =
    All-cons reports.IsCarried report (reports_of actions) does.carried
    (all_carried mid actions b more)

shown_heard : (a : ServerState) (actions : List Action) (b : ServerState) → IsTrace a actions b
    → (more : List ℕ) × (heard_in b.said ≡ heard_in a.said ++ more)
shown_heard a [] b same =
    ([], ap (λ (s : ServerState). heard_in s.said) same ∙ sym (append-nil (heard_in a.said)))
shown_heard a (Came bytes ∷ actions) b (mid, does, more) =
    let rest = shown_heard mid actions b more in (
      bytes ++ rest.0,
      rest.1
          ∙ ap (λ (t : List ℕ). t ++ rest.0)
          (ap (λ (s : ServerState). heard_in s.said) does ∙ heard_more a.said bytes)
          ∙ append_assoc (heard_in a.said) bytes rest.0,
    )
shown_heard a (Took order ∷ actions) b (mid, does, more) =
    let rest = shown_heard mid actions b more in (
      rest.0,
      rest.1 ∙ ap (λ (t : List ℕ). t ++ rest.0) (ap (λ (s : List Said). heard_in s) does.said),
    )
shown_heard a (Told report ∷ actions) b (mid, does, more) =
    let rest = shown_heard mid actions b more in (
      rest.0,
      rest.1
          ∙ ap (λ (t : List ℕ). t ++ rest.0)
          (ap (λ (s : List Said). heard_in s) does.said
          ∙ heard_still a.said (reports.spelled report)),
    )

-- ---- a prefix of a trace

-- by these actions just these reports were sent, and no more was received than by all
record IsCut (a : ServerState) (taken : List Report) (b : ServerState) : Type 0 where
  actions : List Action
  now : ServerState
  trace : IsTrace a actions now
  told : reports_of actions ≡ taken
  ahead : List ℕ
  came : heard_in b.said ≡ heard_in now.said ++ ahead

abbrev first_or : Report → List Report → Report
first_or other [] = other
first_or other (r ∷ rs) = r

abbrev behind_first : List Report → List Report
behind_first [] = []
behind_first (r ∷ rs) = rs

cut : (a : ServerState) (actions : List Action) (b : ServerState) (taken more : List Report)
    → IsTrace a actions b → reports_of actions ≡ taken ++ more → IsCut a taken b
cut a actions b [] more trace its =
    let rest = shown_heard a actions b trace in
    record { actions = []; now = a; trace = refl; told = refl; ahead = rest.0; came = rest.1 }
cut a [] b (r ∷ rs) more trace its =
    absurd (omega (arith, ap (λ (l : List Report). length l) its))
cut a (Came bytes ∷ actions) b (r ∷ rs) more (mid, does, rest) its =
    let c = cut mid actions b (r ∷ rs) more rest its in
    record {
      actions = Came bytes ∷ c.actions;
      now = c.now;
      trace = (mid, does, c.trace);
      told = c.told;
      ahead = c.ahead;
      came = c.came;
    }
cut a (Took order ∷ actions) b (r ∷ rs) more (mid, does, rest) its =
    let c = cut mid actions b (r ∷ rs) more rest its in
    record {
      actions = Took order ∷ c.actions;
      now = c.now;
      trace = (mid, does, c.trace);
      told = c.told;
      ahead = c.ahead;
      came = c.came;
    }
cut a (Told report ∷ actions) b (r ∷ rs) more (mid, does, rest) its =
    let first : report ≡ r = ap (first_or r) its in
    let c = cut mid actions b rs more rest (ap behind_first its) in
    record {
      actions = Told report ∷ c.actions;
      now = c.now;
      trace = (mid, does, c.trace);
      told = (λ i. first i ∷ c.told i);
      ahead = c.ahead;
      came = c.came;
    }

-- ---- what a link shows

-- actions by which all that it shows was sent, and maybe the rest of a report
record IsWhole (shown : List Said) : Type 0 where
  actions : List Action
  now : ServerState
  trace : IsTrace beginning actions now
  rest : List ℕ
  told : flat_map reports.spelled (reports_of actions) ≡ told_in shown ++ rest
  came : heard_in now.said ≡ heard_in shown

whole : (now : ServerState) (shown : List Said) → Reaches now → (shown ≡ now.said) ⊎ IsPartTold now shown
    → IsWhole shown
whole now shown come (inl same) = record {
  actions = come.actions;
  now = now;
  trace = come.trace;
  rest = [];
  told = sym (shown_told beginning come.actions now come.trace)
      ∙ ap (λ (s : List Said). told_in s) (sym same) ∙ sym (append-nil (told_in shown));
  came = ap (λ (s : List Said). heard_in s) (sym same);
}
whole now shown come (inr part) =
    let end : ServerState = record {
      said = now.said ++ told (reports.spelled part.report);
      waiting = now.waiting;
      stage = part.next;
    } in
    let actions = come.actions ++ Told part.report ∷ [] in
    let trace : IsTrace beginning actions end =
    trace_more beginning come.actions now end (Told part.report) come.trace
    (record { carried = part.carried; due = part.due; said = refl; waiting = refl }) in
    record {
      actions = actions;
      now = end;
      trace = trace;
      rest = part.rest;
      told = sym (shown_told beginning actions end trace)
          ∙ told_more now.said (reports.spelled part.report)
          ∙ ap (λ (b : List ℕ). told_in now.said ++ b) part.parts
          ∙ sym (append_assoc (told_in now.said) part.front part.rest)
          ∙ ap (λ (b : List ℕ). b ++ part.rest)
          (sym (ap (λ (s : List Said). told_in s) part.same ∙ told_more now.said part.front));
      came = heard_still now.said (reports.spelled part.report)
          ∙ sym (ap (λ (s : List Said). heard_in s) part.same ∙ heard_still now.said part.front);
    }

pub workers_are_heard : WorkersAreHeard
workers_are_heard said rank taken w h =
    let all = whole w.now w.shown w.come w.shows in
    let front = front_of reports.IsCarried reports.spelled one_way one_frame taken (reports_of all.actions) (h.rest ++ (w.behind ++ all.rest)) h.carried
    (all_carried beginning all.actions all.now all.trace)
    (sym (append_assoc (flat_map reports.spelled taken) h.rest (w.behind ++ all.rest))
    ∙ ap (λ (b : List ℕ). b ++ (w.behind ++ all.rest)) (sym h.parts)
    ∙ sym (append_assoc (heard_at rank said) w.behind all.rest)
    ∙ ap (λ (b : List ℕ). b ++ all.rest) (sym w.heard) ∙ sym all.told) in
    let c = cut beginning all.actions all.now taken front.0 all.trace front.1 in (
      c.actions,
      record {
        now = c.now;
        trace = c.trace;
        transcript = traces_are_transcripts c.actions c.now c.trace;
        told = c.told;
        ahead = c.ahead ++ w.ahead;
        came = w.told ∙ ap (λ (b : List ℕ). b ++ w.ahead) (sym all.came ∙ c.came)
            ∙ append_assoc (heard_in c.now.said) c.ahead w.ahead;
      },
    )
