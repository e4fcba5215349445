-- What a worker's actions before a moment have, with one action more.
use Rattle.std.proofs.Common.{◌≡◌, ◌⊎◌, inl, inr, ℕ, ℤ, ◌+◌, ◌≤◌, List, [], ◌∷◌, ◌++◌, length, Option, Some, None, IfSome, refl, sym, ap, subst, ◌∙◌, arith}
use Rattle.std.specs.Prelude.{Contains}
use Rattle.std.proofs.lemmas.List.{length-append}
use Rattle.std.proofs.lemmas.List.Elements.{Contains-append_cases, Contains-append_right, Contains-push_cases}
use Rattle.ug_rows.specs.declared.area.Interval.{Interval}
use Rattle.ug_rows.specs.Boxes.{IsInOne}
use Rattle.ug_nodes.specs.declared.name.Ticket.{Ticket}
use Rattle.ug_nodes.specs.Changes.{AreChangesOf, area_by}
use Rattle.ug_frames.specs.declared.order.Order.{Order}
use Rattle.ug_frames.specs.declared.report.Report.{Report}
use Rattle.ug_frames.specs.declared.report.Report.TheVariants.{Ready, Solution, Hand, State, Done}
use Rattle.ug_frames.specs.declared.report.Report.TheVariants.{Ended}
use Rattle.ug_frames.specs.Honest.{IsInHands}
use Rattle.ug_base.proofs.LastBox.{in_one_split}
use Rattle.ug_serve.specs.Actions.{Basis, Action, Came, Took, Told}
use Rattle.ug_serve.specs.Transcripts.{IsKnown, IsUnder, Ordered, hands_among, last_work, later_of, since_order, since_work, work_of}

-- ---- lists with one thing more

pub behind : {X : Type 0} → (first : X) (rest : List X) (x : X) → Contains rest x → Contains (first ∷ rest) x
behind first rest x there = Contains-append_right (first ∷ []) rest x there

pub in_front : {X : Type 0} → (first : X) (rest : List X) → Contains (first ∷ rest) first
in_front first rest = (0, omega arith, refl)

pub none_there : {X : Type 0} → (x : X) → Contains [] x → ⊥
none_there x (k, lt, e) = omega (arith, lt)

pub first_or : {X : Type 0} → (first : X) (rest : List X) (x : X) → Contains (first ∷ rest) x
    → (first ≡ x) ⊎ Contains rest x
first_or first rest x there = elim (Contains-append_cases (first ∷ []) rest x there) [
  | inl here ↦ elim (Contains-push_cases [] first x here) [
    | inl none ↦ absurd (none_there x none)
    | inr same ↦ inl same
  ]
  | inr later ↦ inr later
]

-- ---- kinds of actions

abbrev order_in : Order → Action → Order
order_in other (Came bytes) = other
order_in other (Took order) = order
order_in other (Told report) = other

abbrev report_in : Report → Action → Report
report_in other (Came bytes) = other
report_in other (Took order) = other
report_in other (Told report) = report

abbrev kind_of : Action → ℕ
kind_of (Came bytes) = 0
kind_of (Took order) = 1
kind_of (Told report) = 2

pub same_order : (order other : Order) → Took order ≡ Took other → order ≡ other
same_order order other e = ap (order_in order) e

pub same_report : (report other : Report) → Told report ≡ Told other → report ≡ other
same_report report other e = ap (report_in report) e

pub came_is_no_order : (bytes : List ℕ) (order : Order) → Came bytes ≡ Took order → ⊥
came_is_no_order bytes order e = omega (arith, ap kind_of e)

pub came_is_no_report : (bytes : List ℕ) (report : Report) → Came bytes ≡ Told report → ⊥
came_is_no_report bytes report e = omega (arith, ap kind_of e)

pub told_is_no_order : (report : Report) (order : Order) → Told report ≡ Took order → ⊥
told_is_no_order report order e = omega (arith, ap kind_of e)

pub took_is_no_report : (order : Order) (report : Report) → Took order ≡ Told report → ⊥
took_is_no_report order report e = omega (arith, ap kind_of e)

-- ---- an order other than Work

pub last_took : (order : Order) (past : List Action) → work_of order ≡ None
    → last_work (Took order ∷ past) ≡ last_work past
last_took order past none = ap (λ (work : Option Ordered). later_of work (last_work past)) none

pub since_took : (order : Order) (past : List Action) → work_of order ≡ None
    → since_work (Took order ∷ past) ≡ Took order ∷ since_work past
since_took order past none =
    ap (λ (work : Option Ordered). since_order work order (since_work past)) none

-- ---- known facts stay true

abbrev pub under_more : (basis : Basis) (past new : List Action) (ticket : Ticket) → last_work new ≡ last_work past
    → (u : IsUnder basis past ticket) → IsUnder basis new ticket
under_more basis past new ticket same u = record {
  work = u.work;
  last = same ∙ u.last;
  its = u.its;
  valid = u.valid;
}

known_more : (basis : Basis) (work : Ordered) (action : Action) (since : List Action) (cutoff : ℤ)
    → IsKnown basis work since cutoff → IsKnown basis work (action ∷ since) cutoff
known_more basis work action since cutoff (inl own) = inl own
known_more basis work action since cutoff (inr (inl ordered)) = inr (inl (behind action since _ ordered))
known_more basis work action since cutoff (inr (inr point)) = inr (inr (record {
  point = point.point;
  among = behind action since _ point.among;
  its = point.its;
}))

pub some_known : (basis : Basis) (work : Ordered) (action : Action) (since : List Action) (cutoff : Option ℤ)
    → IfSome cutoff (IsKnown basis work since) → IfSome cutoff (IsKnown basis work (action ∷ since))
some_known basis work action since None known = tt
some_known basis work action since (Some cutoff) known = known_more basis work action since cutoff known

-- ---- boxes that were handed

-- the boxes were handed under the ticket, in this order, by these reports, the latest first
abbrev pub AreHands : List Interval → Ticket → List Report → List (List Interval) → Type 0
AreHands root ticket [] handed = handed ≡ []
AreHands root ticket (Ready ∷ reports) handed = AreHands root ticket reports handed
AreHands root ticket (Solution other x ∷ reports) handed = AreHands root ticket reports handed
AreHands root ticket (Hand other number changes ∷ reports) handed = (before : List (List Interval))
    × (handed ≡ before ++ area_by root changes ∷ []) × (other ≡ ticket) × (number ≡ length before)
    × AreChangesOf root changes × AreHands root ticket reports before
AreHands root ticket (State other nodes floor ∷ reports) handed = AreHands root ticket reports handed
AreHands root ticket (Done other cutoff count ending ∷ reports) handed =
    AreHands root ticket reports handed
AreHands root ticket (Ended ∷ reports) handed = AreHands root ticket reports handed

pub hands_counted : (root : List Interval) (ticket : Ticket) (reports : List Report)
    (handed : List (List Interval)) → AreHands root ticket reports handed
    → hands_among reports ≡ length handed
hands_counted root ticket [] handed none = sym (ap (λ (boxes : List (List Interval)). length boxes) none)
hands_counted root ticket (Ready ∷ reports) handed h = hands_counted root ticket reports handed h
hands_counted root ticket (Solution other x ∷ reports) handed h = hands_counted root ticket reports handed h
hands_counted root ticket (Hand other number changes ∷ reports) handed (before, parts, its, at, valid, more) =
    omega (
      arith,
      hands_counted root ticket reports before more,
      ap (λ (boxes : List (List Interval)). length boxes) parts,
      length-append before (area_by root changes ∷ []),
    )
hands_counted root ticket (State other nodes floor ∷ reports) handed h =
    hands_counted root ticket reports handed h
hands_counted root ticket (Done other cutoff count ending ∷ reports) handed h =
    hands_counted root ticket reports handed h
hands_counted root ticket (Ended ∷ reports) handed h = hands_counted root ticket reports handed h

-- what lies in this many hands lies in more, of more reports
pub in_more : (root : List Interval) (report : Report) (reports : List Report) (ticket : Ticket)
    (count more : ℕ) (x : List ℤ) → count ≤ more → IsInHands root reports ticket count x
    → IsInHands root (report ∷ reports) ticket more x
in_more root report reports ticket count more x at_most h = record {
  hand = h.hand;
  before = omega (arith, h.before, at_most);
  area = h.area;
  its = record {
    changes = h.its.changes;
    among = behind report reports _ h.its.among;
    valid = h.its.valid;
    box = h.its.box;
  };
  inside = h.inside;
}

pub in_hands : (root : List Interval) (ticket : Ticket) (reports : List Report)
    (handed : List (List Interval)) (x : List ℤ) → AreHands root ticket reports handed → IsInOne handed x
    → IsInHands root reports ticket (length handed) x
in_hands root ticket [] handed x none there =
    absurd (subst (λ (boxes : List (List Interval)). IsInOne boxes x) none there)
in_hands root ticket (Ready ∷ reports) handed x h there =
    in_more root Ready reports ticket _ _ x (omega arith) (in_hands root ticket reports handed x h there)
in_hands root ticket (Solution other y ∷ reports) handed x h there =
    in_more root (Solution other y) reports ticket _ _ x (omega arith)
    (in_hands root ticket reports handed x h there)
in_hands root ticket (Hand other number changes ∷ reports) handed x (before, parts, its, at, valid, more) there =
    let long : length handed ≡ length before + 1 = omega (
      arith,
      ap (λ (boxes : List (List Interval)). length boxes) parts,
      length-append before (area_by root changes ∷ []),
    ) in
    elim (in_one_split before (area_by root changes) x
    (subst (λ (boxes : List (List Interval)). IsInOne boxes x) parts there)) [
      | inl earlier ↦ in_more root (Hand other number changes) reports ticket (length before) (length handed) x
          (omega (arith, long)) (in_hands root ticket reports before x more earlier)
      | inr last ↦ record {
        hand = number;
        before = omega (arith, at, long);
        area = area_by root changes;
        its = record {
          changes = changes;
          among = subst (λ (t : Ticket). Contains (Hand other number changes ∷ reports) (Hand t number changes)) its
              (in_front (Hand other number changes) reports);
          valid = valid;
          box = refl;
        };
        inside = last;
      }
    ]
in_hands root ticket (State other nodes floor ∷ reports) handed x h there =
    in_more root (State other nodes floor) reports ticket _ _ x (omega arith)
    (in_hands root ticket reports handed x h there)
in_hands root ticket (Done other cutoff count ending ∷ reports) handed x h there =
    in_more root (Done other cutoff count ending) reports ticket _ _ x (omega arith)
    (in_hands root ticket reports handed x h there)
in_hands root ticket (Ended ∷ reports) handed x h there =
    in_more root Ended reports ticket _ _ x (omega arith) (in_hands root ticket reports handed x h there)
