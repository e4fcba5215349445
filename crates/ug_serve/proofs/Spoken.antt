-- What a worker of a crew had received and sent when it sent the report that was received last.
use Rattle.std.proofs.Common.{◌≡◌, inl, inr, ℕ, ℤ, List, [], ◌∷◌, ◌++◌, length, append_assoc, refl, sym, ap, subst, ◌∙◌, arith}
use Rattle.std.specs.Prelude.{Contains}
use Rattle.std.specs.List.{flat_map}
use Rattle.std.proofs.lemmas.List.{length-append}
use Rattle.std.proofs.lemmas.List.Elements.{Contains-append_left, Contains-append_right}
use Rattle.ug_io.specs.declared.crew.Exchange.{Exchange}
use Rattle.ug_problem.specs.Instances.{Instance}
use Rattle.ug_frames.specs.declared.order.Order.{Order}
use Rattle.ug_frames.specs.declared.order.Order.TheVariants.{Setup}
use Rattle.ug_frames.specs.declared.report.Report.{Report}
use Rattle.ug_frames.specs.OrderFrames as orders
use Rattle.ug_serve.specs.Traces.{beginning}
use Rattle.ug_serve.specs.CrewLaws.{AreReportsAt, reports_of}
use Rattle.ug_serve.specs.Actions.{Basis, Action, Came, Took, Told}
use Rattle.ug_serve.specs.Worked.{IsWorked}
use Rattle.ug_serve.specs.Transcripts.{AreSaid, IsSaid, IsSetUpWith, turned}
use Rattle.ug_serve.proofs.Crewed.{IsSentTo, heard_parts, taken_carried, taken_of, told_kept, took_turned}
use Rattle.ug_serve.proofs.Heard.{front_orders, workers_are_heard}
use Rattle.ug_serve.proofs.Honesty.{nothing_in}
use Rattle.ug_serve.proofs.Told.{in_front}

-- each prefix of a transcript is a transcript
said_back : (basis : Basis) (past actions : List Action) → AreSaid basis (turned past actions) → AreSaid basis past
said_back basis past [] said = said
said_back basis past (Came bytes ∷ actions) said = said_back basis (Came bytes ∷ past) actions said
said_back basis past (Took order ∷ actions) said = said_back basis (Took order ∷ past) actions said
said_back basis past (Told report ∷ actions) said = (said_back basis (Told report ∷ past) actions said).1

-- the actions before the last report, and behind it
record IsLast (basis : Basis) (past actions : List Action) (heard : List Report) (report : Report) : Type 0 where
  front : List Action
  rest : List Order
  taken : taken_of actions ≡ taken_of front ++ rest
  told : reports_of front ≡ heard
  before : AreSaid basis (turned past front)
  is : IsSaid basis (turned past front) report

abbrev first_report : Report → List Report → Report
first_report other [] = other
first_report other (r ∷ rs) = r

abbrev behind_report : List Report → List Report
behind_report [] = []
behind_report (r ∷ rs) = rs

last_said : (basis : Basis) (past actions : List Action) (heard : List Report) (report : Report)
    → reports_of actions ≡ heard ++ report ∷ [] → AreSaid basis (turned past actions)
    → IsLast basis past actions heard report
last_said basis past [] heard report its said =
    absurd (omega (arith, ap (λ (l : List Report). length l) its, length-append heard (report ∷ [])))
last_said basis past (Came bytes ∷ actions) heard report its said =
    let t = last_said basis (Came bytes ∷ past) actions heard report its said in
    record {
      front = Came bytes ∷ t.front;
      rest = t.rest;
      taken = t.taken;
      told = t.told;
      before = t.before;
      is = t.is;
    }
last_said basis past (Took order ∷ actions) heard report its said =
    let t = last_said basis (Took order ∷ past) actions heard report its said in
    record {
      front = Took order ∷ t.front;
      rest = t.rest;
      taken = ap (λ (os : List Order). order ∷ os) t.taken;
      told = t.told;
      before = t.before;
      is = t.is;
    }
last_said basis past (Told own ∷ actions) [] report its said =
    let own_said = said_back basis (Told own ∷ past) actions said in
    record {
      front = [];
      rest = taken_of actions;
      taken = refl;
      told = refl;
      before = own_said.1;
      is = subst (IsSaid basis past) (ap (first_report own) its) own_said.0;
    }
last_said basis past (Told own ∷ actions) (r ∷ heard) report its said =
    let first : own ≡ r = ap (first_report own) its in
    let t = last_said basis (Told own ∷ past) actions heard report (ap behind_report its) said in
    record {
      front = Told own ∷ t.front;
      rest = t.rest;
      taken = t.taken;
      told = (λ i. first i ∷ t.told i);
      before = t.before;
      is = t.is;
    }

-- Of these orders the worker had taken a front, and these reports it had sent, when it sent this
-- one, of the problem and with a gap that were ordered; and what is so then.
pub record IsSpoken (p : Instance) (sent : List Order) (heard : List Report) (report : Report) : Type 0 where
  pub actions : List Action
  pub later : List Order
  pub taken : sent ≡ taken_of actions ++ later
  pub told : reports_of actions ≡ heard
  pub gap : ℤ
  pub bytes : List ℕ
  pub set_up : Contains sent (Setup gap bytes)
  pub before : AreSaid (record { problem = p; gap = gap }) (turned [] actions)
  pub said : IsSaid (record { problem = p; gap = gap }) (turned [] actions) report

pub spoken : (p : Instance) (said : List Exchange) (rank : ℕ) (sent : List Order) (heard : List Report)
    (report : Report) → IsWorked said rank → IsSentTo p said rank sent
    → AreReportsAt said rank (heard ++ report ∷ []) → IsSpoken p sent heard report
spoken p said rank sent heard report w s h =
    let t = workers_are_heard said rank (heard ++ report ∷ []) w h in
    let actions = t.0 in
    let front = front_orders (taken_of actions) sent (t.1.now.waiting.bytes ++ t.1.ahead)
    (taken_carried beginning actions t.1.now t.1.trace) s.carried
    (sym (append_assoc (flat_map orders.spelled (taken_of actions)) t.1.now.waiting.bytes t.1.ahead)
    ∙ ap (λ (b : List ℕ). b ++ t.1.ahead)
    (sym (heard_parts beginning actions t.1.now [] refl refl t.1.trace))
    ∙ sym t.1.came ∙ s.bytes) in
    let taken : (order : Order) → Contains (turned [] actions) (Took order) → Contains sent order =
    (λ order there. elim (took_turned [] actions order there) [
      | inl none ↦ absurd (nothing_in (Took order) none)
      | inr own ↦ subst (λ (os : List Order). Contains os order) (sym front.1)
          (Contains-append_left (taken_of actions) front.0 order own)
    ]) in
    let there : Contains (reports_of actions) report =
    subst (λ (rs : List Report). Contains rs report) (sym t.1.told)
    (Contains-append_right heard (report ∷ []) report (in_front report [])) in
    elim t.1.transcript.set_up [
      | inl none ↦ absurd (nothing_in report
          (subst (λ (rs : List Report). Contains rs report) none (told_kept [] actions report there)))
      | inr some ↦
          let basis : Basis = record { problem = p; gap = some.0.gap } in
          let sent_so = taken (Setup some.0.gap some.1.bytes) some.1.among in
          let set_up : IsSetUpWith (turned [] actions) basis = record {
            bytes = some.1.bytes;
            among = some.1.among;
            its = s.records some.0.gap some.1.bytes sent_so;
          } in
          let last = last_said basis [] actions heard report t.1.told (t.1.transcript.said basis set_up) in
          record {
            actions = last.front;
            later = last.rest ++ front.0;
            taken = front.1 ∙ ap (λ (os : List Order). os ++ front.0) last.taken
                ∙ append_assoc (taken_of last.front) last.rest front.0;
            told = last.told;
            gap = some.0.gap;
            bytes = some.1.bytes;
            set_up = sent_so;
            before = last.before;
            said = last.is;
          }
    ]
