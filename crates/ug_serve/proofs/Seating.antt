-- What a seat at a link makes of orders and reports.
use Rattle.std.proofs.Common.{◌≡◌, ◌≢◌, inl, inr, ℕ, ℤ, ◌-◌, ◌≤ℤ◌, Bool, true, false, List, Option, Some, None, MatchBool, not, Result, Err, IfErr, refl, sym, ap, subst, ◌∙◌, arith}
use Rattle.ug_io.specs.Links.{LinkSeen}
use Rattle.ug_rows.specs.declared.area.Interval.{Interval}
use Rattle.ug_problem.specs.Better.{IsGap}
use Rattle.ug_problem.specs.Instances.{Instance}
use Rattle.ug_records.specs.declared.error.RecordError.{RecordError}
use Rattle.ug_records.specs.declared.error.RecordError.TheVariants.{BadRecord}
use Rattle.ug_records.specs.Answers.{IsRecordOf, IsRefused}
use Rattle.ug_branch.specs.declared.params.Params.{Params}
use Rattle.ug_nodes.specs.declared.change.Change.{Change}
use Rattle.ug_nodes.specs.declared.name.Ticket.{Ticket}
use Rattle.ug_frames.specs.declared.order.Order.{Order}
use Rattle.ug_frames.specs.declared.order.Order.TheVariants.{Incumbent, Stop, Winner, Work}
use Rattle.ug_base.specs.Tasks.{TaskState, lesser_of}
use Rattle.ug_stream.specs.Streams.{Waiting}
use Rattle.ug_serve.specs.declared.served.Served.{Served}
use Rattle.ug_serve.specs.declared.kept.Kept.{Kept}
use Rattle.ug_worker.specs.Engagements.{Engaged, HasBegun, IsFoundBy, IsHandedBy, IsStatedBy, lowered}
use Rattle.ug_worker.specs.declared.round_count.RoundCount.{RoundCount}
use Rattle.ug_worker.specs.Releases.{begun}
use Rattle.ug_worker.proofs.Quiet.{quiet_same}
use Rattle.ug_serve.specs.Actions.{Busy, Free, IsForTask, IsTaken, Over, Stage}
use Rattle.ug_serve.specs.Serving.{HasNext, HasEnded, StandsOn, has_ended, stands_as}
use Rattle.ug_serve.specs.Keeping.{IsAsked, IsWon}
use Rattle.ug_serve.specs.Seats.{Agrees, IsGoing, IsObeyed, IsTaskOf, IsOrdered, IsSeated, SeatSeen, agrees, basis_of, stage_of}
use Rattle.std.proofs.lemmas.Int.{ints}
use Rattle.ug_base.proofs.Floors.{lesser_is}
use Rattle.ug_serve.proofs.Wires.{next_taken}

-- ---- what a call leaves of what is kept

pub found_agrees : (k : Kept) (e f : Engaged) (x : List ℤ) → Agrees k e → IsFoundBy e x f → Agrees k f
found_agrees k e f x a h =
    let same = quiet_same h.since.more e.task h.task h.since.quiet in
    record {
      problem = ap (λ (t : TaskState). t.problem) h.found.same ∙ same.problem ∙ a.problem;
      gap = ap (λ (t : TaskState). t.gap) h.found.same ∙ same.gap ∙ a.gap;
      ticket = ap (λ (t : TaskState). t.ticket) h.found.same ∙ same.ticket ∙ a.ticket;
      given = a.given;
      racing = ap (λ (g : Engaged). g.racing) h.same ∙ a.racing;
      asked = ap (λ (g : Engaged). g.asked) h.same ∙ a.asked;
    }

pub handed_agrees : (k : Kept) (round_count : RoundCount) (e f : Engaged) (number : ℕ) (area : List Interval) → Agrees k e
    → IsHandedBy round_count e number area f → Agrees (record k { asked = k.asked - 1 }) f
handed_agrees k round_count e f number area a h =
    let same = quiet_same h.since.more e.task h.task h.since.quiet in
    record {
      problem = ap (λ (t : TaskState). t.problem) h.handed.same ∙ same.problem ∙ a.problem;
      gap = ap (λ (t : TaskState). t.gap) h.handed.same ∙ same.gap ∙ a.gap;
      ticket = ap (λ (t : TaskState). t.ticket) h.handed.same ∙ same.ticket ∙ a.ticket;
      given = a.given;
      racing = ap (λ (g : Engaged). g.racing) h.same ∙ a.racing;
      asked = ap (λ (g : Engaged). g.asked) h.same ∙ ap (λ (n : ℕ). n - 1) a.asked;
    }

pub stated_agrees : (k : Kept) (round_count : RoundCount) (e f : Engaged) (left : ℕ) (floor : ℤ) → Agrees k e
    → IsStatedBy round_count e left floor f → Agrees k f
stated_agrees k round_count e f left floor a h =
    let same = quiet_same h.since.more e.task h.task h.since.quiet in
    let task : f.task ≡ h.task = ap (λ (g : Engaged). g.task) h.same in
    record {
      problem = ap (λ (t : TaskState). t.problem) task ∙ same.problem ∙ a.problem;
      gap = ap (λ (t : TaskState). t.gap) task ∙ same.gap ∙ a.gap;
      ticket = ap (λ (t : TaskState). t.ticket) task ∙ same.ticket ∙ a.ticket;
      given = a.given;
      racing = ap (λ (g : Engaged). g.racing) h.same ∙ a.racing;
      asked = ap (λ (g : Engaged). g.asked) h.same ∙ a.asked;
    }

-- the same floor by another name
pub stated_told : (round_count : RoundCount) (e f : Engaged) (left : ℕ) (floor told : ℤ) → told ≡ floor
    → IsStatedBy round_count e left floor f → IsStatedBy round_count e left told f
stated_told round_count e f left floor told same h =
    subst (λ (value : ℤ). IsStatedBy round_count e left value f) (sym same) h

-- ---- cutoffs one after another

at_most_both : (a b : ℤ) → (lesser_of (Some a) b ≤ℤ a) × (lesser_of (Some a) b ≤ℤ b)
at_most_both a b = elim (lesser_is a b) [
  | inl l ↦ let e = l.0 in (omega (arith, ints, e), omega (arith, ints, e, l.1))
  | inr l ↦ let e = l.0 in (omega (arith, ints, e, l.1), omega (arith, ints, e))
]

trans_le : (x y z : ℤ) → x ≤ℤ y → y ≤ℤ z → x ≤ℤ z
trans_le x y z f g = omega (arith, ints, f, g)

at_least : (a b x : ℤ) → x ≤ℤ a → x ≤ℤ b → x ≤ℤ lesser_of (Some a) b
at_least a b x f g = elim (lesser_is a b) [
  | inl l ↦ let e = l.0 in omega (arith, ints, e, f)
  | inr l ↦ let e = l.0 in omega (arith, ints, e, g)
]

same_by : (x y : ℤ) → x ≤ℤ y → y ≤ℤ x → x ≡ y
same_by x y f g = omega (arith, ints, f, g)

lesser_on : (old : Option ℤ) (first next : ℤ)
    → lesser_of (Some (lesser_of old first)) next ≡ lesser_of old (lesser_of (Some first) next)
lesser_on None first next = refl
lesser_on (Some a) first next =
    let m = lesser_of (Some a) first in
    let k = lesser_of (Some first) next in
    let am = at_most_both a first in
    let ak = at_most_both first next in
    let al = at_most_both m next in
    let ar = at_most_both a k in
    let left = lesser_of (Some m) next in
    let right = lesser_of (Some a) k in
    same_by left right
    (at_least a k left (trans_le left m a al.0 am.0)
    (at_least first next left (trans_le left m first al.0 am.1) al.1))
    (at_least m next right (at_least a first right ar.0 (trans_le right k first ar.1 ak.0))
    (trans_le right k next ar.1 ak.1))

pub lowered_on : (cutoff : Option ℤ) (next : ℤ) (task : TaskState)
    → lowered (Some next) (lowered cutoff task) ≡ lowered (Some (lesser_of cutoff next)) task
lowered_on None next task = refl
lowered_on (Some first) next task =
    ap (λ (c : ℤ). record task { cutoff = Some c }) (lesser_on task.cutoff first next)

-- a service that has ended stands anywhere
pub ended_stands : (end : Option Served) (seen : LinkSeen) (w : Waiting) (stage : Stage)
    → has_ended end seen → stands_as end seen w stage
ended_stands None seen w stage h = absurd h
ended_stands (Some end) seen w stage h = h

-- ---- an order that was due

pub seated_next : (s : SeatSeen) (k : Kept) (old new : RoundCount) (some other : Option Engaged) (order : Order)
    → IsGap k.gap → agrees k other → IsOrdered s old some order
    → IsTaken (stage_of (basis_of s.keeps) old some) order (stage_of (basis_of k) new other)
    → IsSeated (record s { keeps = k }) new other
seated_next s k old new some other order gap agree h taken = record {
  gap = gap;
  agrees = agree;
  stands = subst (λ (end : Option Served). stands_as end s.link s.waiting (stage_of (basis_of k) new other))
      (sym h.on)
      (next_taken s.link s.waiting (stage_of (basis_of s.keeps) old some) (stage_of (basis_of k) new other) order
      s.at taken h.next);
}

-- ---- how a service ends

pub taken_on : (end : Option Served) (seen : LinkSeen) (w : Waiting) (old new : Stage) (order : Order) (at : ℕ)
    → end ≡ None → IsTaken old order new → HasNext seen w old order at → stands_as end seen w new
taken_on end seen w old new order at none taken next =
    subst (λ (e : Option Served). stands_as e seen w new) (sym none) (next_taken seen w old new order at taken next)

pub ended_over : (end : Option Served) (seen : LinkSeen) (w : Waiting) → end ≡ None
    → stands_as end seen w Over → HasEnded seen
ended_over end seen w none stands =
    let on : StandsOn seen w Over = subst (λ (e : Option Served). stands_as e seen w Over) none stands in
    record { now = record { said = on.said; waiting = w; stage = Over }; on = on.on; over = refl }

pub ended_by : (end : Option Served) (seen : LinkSeen) (w : Waiting) (stage : Stage) (served : Served)
    → end ≡ Some served → stands_as end seen w stage → has_ended end seen
ended_by end seen w stage served some stands =
    subst (λ (e : Option Served). has_ended e seen) (sym some)
    (subst (λ (e : Option Served). stands_as e seen w stage) some stands)

-- ---- orders that leave the task

pub going_on : (s : SeatSeen) (k : Kept) (round_count : RoundCount) (e f : Engaged) (order : Order) (task : TaskState)
    (cutoff : Option ℤ) → IsOrdered s round_count (Some e) order → k.gap ≡ s.keeps.gap → Agrees k f
    → IsTaken (Busy (basis_of s.keeps) round_count e) order (Busy (basis_of k) round_count f) → f.made ≡ 0
    → f.task ≡ lowered cutoff task → IsGoing (record s { keeps = k }) round_count task cutoff
going_on s k round_count e f order task cutoff h gap agree taken made its = record {
  now = f;
  seated = seated_next s k round_count round_count (Some e) (Some f) order (subst IsGap (sym gap) h.gap) agree h taken;
  made = made;
  its = its;
}

-- this many boxes are asked for
pub asked_going : (s : SeatSeen) (k : Kept) (round_count : RoundCount) (e : Engaged) (ticket : Ticket) (count : ℕ) (order : Order)
    (task : TaskState) (cutoff : Option ℤ) → e.made ≡ 0 → IsOrdered s round_count (Some e) order
    → IsAsked s.keeps ticket count k → e.task ≡ lowered cutoff task
    → ((new : Stage) → IsForTask e ticket (Busy (basis_of s.keeps) round_count (record e { asked = count }))
    (Busy (basis_of s.keeps) round_count e) new → IsTaken (Busy (basis_of s.keeps) round_count e) order new)
    → IsGoing (record s { keeps = k }) round_count task cutoff
asked_going s k round_count e ticket count order task cutoff made h (inl (its, set)) same takes =
    subst (λ (k : Kept). IsGoing (record s { keeps = k }) round_count task cutoff) (sym set)
    (going_on s (record s.keeps { asked = count }) round_count e (record e { asked = count }) order task cutoff h refl
    (record {
      problem = h.agrees.problem;
      gap = h.agrees.gap;
      ticket = h.agrees.ticket;
      given = h.agrees.given;
      racing = h.agrees.racing;
      asked = refl;
    })
    (takes (Busy (basis_of s.keeps) round_count (record e { asked = count }))
    (record { between = made; done = inl (its ∙ sym h.agrees.ticket, refl) })) made same)
asked_going s k round_count e ticket count order task cutoff made h (inr (other, kept)) same takes =
    subst (λ (k : Kept). IsGoing (record s { keeps = k }) round_count task cutoff) (sym kept)
    (going_on s s.keeps round_count e e order task cutoff h refl h.agrees
    (takes (Busy (basis_of s.keeps) round_count e)
    (record { between = made; done = inr ((λ its. other (its ∙ h.agrees.ticket)), refl) })) made same)

-- the race is won
pub won_going : (s : SeatSeen) (k : Kept) (round_count : RoundCount) (e : Engaged) (ticket : Ticket) (task : TaskState)
    (cutoff : Option ℤ) → e.made ≡ 0 → IsOrdered s round_count (Some e) (Winner ticket) → IsWon s.keeps ticket k
    → e.task ≡ lowered cutoff task → IsGoing (record s { keeps = k }) round_count task cutoff
won_going s k round_count e ticket task cutoff made h (inl (its, set)) same =
    subst (λ (k : Kept). IsGoing (record s { keeps = k }) round_count task cutoff) (sym set)
    (going_on s (record s.keeps { racing = false }) round_count e (record e { racing = false }) (Winner ticket) task cutoff
    h refl
    (record {
      problem = h.agrees.problem;
      gap = h.agrees.gap;
      ticket = h.agrees.ticket;
      given = h.agrees.given;
      racing = refl;
      asked = h.agrees.asked;
    })
    (record { between = made; done = inl (its ∙ sym h.agrees.ticket, refl) }) made same)
won_going s k round_count e ticket task cutoff made h (inr (other, kept)) same =
    subst (λ (k : Kept). IsGoing (record s { keeps = k }) round_count task cutoff) (sym kept)
    (going_on s s.keeps round_count e e (Winner ticket) task cutoff h refl h.agrees
    (record { between = made; done = inr ((λ its. other (its ∙ h.agrees.ticket)), refl) }) made same)

-- a lower cutoff
pub lowered_going : (s : SeatSeen) (round_count : RoundCount) (e : Engaged) (told : ℤ) (task : TaskState) (cutoff : Option ℤ)
    → e.made ≡ 0 → IsOrdered s round_count (Some e) (Incumbent told) → e.task ≡ lowered cutoff task
    → IsGoing s round_count task (Some (lesser_of cutoff told))
lowered_going s round_count e told task cutoff made h same =
    going_on s s.keeps round_count e (record e { task = lowered (Some told) e.task }) (Incumbent told) task
    (Some (lesser_of cutoff told)) h refl
    (record {
      problem = h.agrees.problem;
      gap = h.agrees.gap;
      ticket = h.agrees.ticket;
      given = h.agrees.given;
      racing = h.agrees.racing;
      asked = h.agrees.asked;
    })
    (made, refl) made (ap (lowered (Some told)) same ∙ lowered_on cutoff told task)

-- the task is dropped
pub stopped : (s : SeatSeen) (round_count : RoundCount) (e : Engaged) (ticket : Ticket) → e.made ≡ 0 → ticket ≡ s.keeps.ticket
    → IsOrdered s round_count (Some e) (Stop ticket) → IsSeated s round_count None
stopped s round_count e ticket made its h =
    seated_next s s.keeps round_count round_count (Some e) None (Stop ticket) h.gap tt h
    (record { between = made; done = inl (its ∙ sym h.agrees.ticket, refl) })

pub not_stopped : (s : SeatSeen) (round_count : RoundCount) (e : Engaged) (ticket : Ticket) (task : TaskState) (cutoff : Option ℤ)
    → e.made ≡ 0 → ticket ≢ s.keeps.ticket → IsOrdered s round_count (Some e) (Stop ticket)
    → e.task ≡ lowered cutoff task → IsGoing s round_count task cutoff
not_stopped s round_count e ticket task cutoff made other h same =
    going_on s s.keeps round_count e e (Stop ticket) task cutoff h refl h.agrees
    (record { between = made; done = inr ((λ its. other (its ∙ h.agrees.ticket)), refl) }) made same

-- the service has ended
pub seated_ended : (s : SeatSeen) (round_count : RoundCount) → IsGap s.keeps.gap → has_ended s.end s.link → IsSeated s round_count None
seated_ended s round_count gap h = record { gap = gap; agrees = tt; stands = ended_stands s.end s.link s.waiting (Free (basis_of s.keeps) round_count) h }

-- dropped where the order to stop is for the task
pub stop_obeyed : (b : Bool) (s : SeatSeen) (round_count : RoundCount) (e : Engaged) (ticket : Ticket) (task : TaskState)
    (cutoff : Option ℤ) → e.made ≡ 0
    → MatchBool b (ticket ≡ s.keeps.ticket) (ticket ≢ s.keeps.ticket)
    → IsOrdered s round_count (Some e) (Stop ticket) → e.task ≡ lowered cutoff task → IsObeyed (not b) s round_count task cutoff
stop_obeyed true s round_count e ticket task cutoff made its h same = stopped s round_count e ticket made its h
stop_obeyed false s round_count e ticket task cutoff made other h same =
    not_stopped s round_count e ticket task cutoff made other h same

-- a task that begins
pub begun_seated : (s : SeatSeen) (round_count : RoundCount) (ticket : Ticket) (params : Params) (race : Bool) (cutoff : Option ℤ)
    (changes : List Change) (task : TaskState) → IsOrdered s round_count None (Work ticket params race cutoff changes)
    → IsTaskOf s.keeps ticket params cutoff changes task
    → HasBegun (IsSeated (record s { keeps = record s.keeps { ticket = ticket; racing = race; asked = 0 } })
    (begun round_count)) task
begun_seated s round_count ticket params race cutoff changes task h made =
    let k : Kept = record s.keeps { ticket = ticket; racing = race; asked = 0 } in
    let now : Engaged = record { task = task; made = 0; asked = 0; racing = race } in
    record {
      now = now;
      at = seated_next s k round_count (begun round_count) None (Some now) (Work ticket params race cutoff changes) h.gap
          (record {
            problem = ap (λ (t : TaskState). t.problem) made.same;
            gap = ap (λ (t : TaskState). t.gap) made.same;
            ticket = ap (λ (t : TaskState). t.ticket) made.same;
            given = h.next.given.carried.can.given;
            racing = refl;
            asked = refl;
          })
          h
          (record {
            valid = made.valid;
            begins = ap (λ (t : TaskState). Busy (basis_of s.keeps) (begun round_count)
                (record { task = t; made = 0; asked = 0; racing = race })) made.same;
          });
      begun = record { its = refl; made = refl };
    }

-- a record that is refused for its bytes is not a record
pub refused_none : {T : Type 0} (bytes : List ℕ) (read : Result T RecordError) (why : RecordError) (at : ℕ)
    → read ≡ Err why → why ≡ BadRecord at → IfErr read (IsRefused bytes)
    → (p : Instance) → ¬ IsRecordOf bytes p
refused_none bytes read why at failed bad refused =
    let own = subst (λ r. IfErr r (IsRefused bytes)) failed refused in
    (subst (IsRefused bytes) bad own).1
