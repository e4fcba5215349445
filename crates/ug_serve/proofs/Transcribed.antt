-- What a worker does is a transcript.
use Rattle.std.proofs.Common.{◌≡◌, ◌≢◌, ◌⊎◌, inl, inr, ℕ, ℤ, ◌<◌, Bool, true, false, List, [], ◌∷◌, ◌++◌, length, Option, Some, None, IfSome, if◌then◌else◌, refl, sym, ap, subst, ◌∙◌, arith}
use Rattle.std.specs.Prelude.{Contains}
use Rattle.std.proofs.lemmas.Bool.{false≢true}
use Rattle.ug_rows.specs.declared.area.Interval.{Interval}
use Rattle.ug_rows.specs.Boxes.{IsBelow, IsInOne, IsInside}
use Rattle.ug_problem.specs.Better.{IsGood, cutoff_of}
use Rattle.ug_problem.specs.Feasible.{Feasible}
use Rattle.ug_problem.specs.Instances.{Instance, root_of}
use Rattle.ug_branch.specs.declared.params.Params.{Params}
use Rattle.ug_nodes.specs.declared.name.Ticket.{Ticket}
use Rattle.ug_nodes.specs.declared.change.Change.{Change}
use Rattle.ug_nodes.specs.Changes.{area_by}
use Rattle.ug_nodes.proofs.Areas.{area_only}
use Rattle.ug_records.specs.Spelling.{record_of}
use Rattle.ug_records.proofs.Verdicts.{records_are_unique}
use Rattle.ug_frames.specs.declared.order.Order.{Order}
use Rattle.ug_frames.specs.declared.order.Order.TheVariants.{Setup, Work, Incumbent, CollectIn}
use Rattle.ug_frames.specs.declared.order.Order.TheVariants.{CollectOut, Winner, Stop, End}
use Rattle.ug_frames.specs.declared.report.Report.{Report}
use Rattle.ug_frames.specs.declared.report.Report.TheVariants.{Ready, Solution, Hand, State, Done}
use Rattle.ug_frames.specs.declared.report.Report.TheVariants.{Ended}
use Rattle.ug_frames.specs.ReportFrames.{IsCarried}
use Rattle.ug_frames.specs.Honest.{IsInHands}
use Rattle.ug_base.specs.Tasks.{TaskState, lesser_of}
use Rattle.ug_base.proofs.Floors.{lesser_is}
use Rattle.ug_worker.specs.declared.round_count.RoundCount.{RoundCount}
use Rattle.ug_worker.specs.Engagements.{Engaged, IsFoundBy, IsRenewed, IsStatedBy, IsWanted}
use Rattle.ug_worker.specs.Releases.{begun, counted}
use Rattle.ug_serve.specs.Actions.{Basis, Action, Came, Took, Told, IsBegun, IsDoneTold, IsHandTold, IsSetUp, IsTaken, IsTold}
use Rattle.ug_serve.specs.Actions.{Stage, Blank, SetUp, Free, Busy, Ending, Over}
use Rattle.ug_serve.specs.Traces.{IsTrace, ServerState, beginning}
use Rattle.ug_serve.specs.Transcripts.{AreSaid, IsBoxTold, IsEndOfTask, IsKnown, IsRestTold, IsSaid, IsSetUpWith, IsTranscript, IsUnder, Ordered, box_of, last_work, reports_in, since_work, told_since, turned, work_of}
use Rattle.ug_serve.specs.Laws.{TracesAreTranscripts}
use Rattle.ug_worker.proofs.Quiet.{last_below}
use Rattle.ug_worker.proofs.Quiet.{IsSameTask, quiet_same}
use Rattle.ug_serve.proofs.Told.{AreHands, behind, came_is_no_order, first_or, hands_counted, in_front, in_hands, last_took, same_order, since_took, some_known, told_is_no_order, under_more}

-- ---- the problem

-- one problem was ordered, and each report so far is as it has to be
pub record IsSet (past : List Action) (basis : Basis) : Type 0 where
  pub its : IsSetUpWith past basis
  pub only : (other : Basis) → IsSetUpWith past other → other ≡ basis
  pub said : AreSaid basis past

abbrev is_setup : Order → ℕ
is_setup (Setup gap bytes) = 1
is_setup order = 0

abbrev gap_in : Order → ℤ → ℤ
gap_in (Setup gap bytes) other = gap
gap_in order other = other

abbrev bytes_in : Order → List ℕ
bytes_in (Setup gap bytes) = bytes
bytes_in order = []

set_more : (past : List Action) (action : Action) (basis : Basis)
    → ((gap : ℤ) (bytes : List ℕ) → action ≢ Took (Setup gap bytes)) → AreSaid basis (action ∷ past)
    → IsSet past basis → IsSet (action ∷ past) basis
set_more past action basis other said s = record {
  its = record { bytes = s.its.bytes; among = behind action past _ s.its.among; its = s.its.its };
  only = λ b h. s.only b (elim (first_or action past _ h.among) [
    | inl first ↦ absurd (other _ _ first)
    | inr there ↦ record { bytes = h.bytes; among = there; its = h.its }
  ]);
  said = said;
}

set_took : (past : List Action) (order : Order) (basis : Basis) → is_setup order ≡ 0 → IsSet past basis
    → IsSet (Took order ∷ past) basis
set_took past order basis none s =
    set_more past (Took order) basis
    (λ gap bytes e. omega (arith, none, ap is_setup (same_order order (Setup gap bytes) e))) s.said s

set_came : (past : List Action) (bytes : List ℕ) (basis : Basis) → IsSet past basis
    → IsSet (Came bytes ∷ past) basis
set_came past bytes basis s =
    set_more past (Came bytes) basis (λ gap more e. came_is_no_order bytes (Setup gap more) e) s.said s

set_told : (past : List Action) (report : Report) (basis : Basis) → IsSaid basis past report
    → IsSet past basis → IsSet (Told report ∷ past) basis
set_told past report basis said s =
    set_more past (Told report) basis (λ gap more e. told_is_no_order report (Setup gap more) e)
    (said, s.said) s

same_basis : (a b : Basis) → a.gap ≡ b.gap → a.problem ≡ b.problem → a ≡ b
same_basis a b gap problem = ap (λ (p : Instance). record { problem = p; gap = a.gap }) problem
    ∙ ap (λ (g : ℤ). record { problem = b.problem; gap = g }) gap

-- the problem was ordered just now
set_up : (past : List Action) (gap : ℤ) (bytes : List ℕ) (problem : Instance)
    → ((basis : Basis) → ¬ IsSetUpWith past basis) → reports_in past ≡ []
    → IsSetUpWith (Took (Setup gap bytes) ∷ past) (record { problem = problem; gap = gap })
    → (bytes ≡ record_of problem)
    → IsSet (Took (Setup gap bytes) ∷ past) (record { problem = problem; gap = gap })
set_up past gap bytes problem none silent its spelled = record {
  its = its;
  only = λ b h. elim (first_or (Took (Setup gap bytes)) past _ h.among) [
    | inl first ↦ set_same b h (same_order _ _ first)
    | inr there ↦ absurd (none b (record { bytes = h.bytes; among = there; its = h.its }))
  ];
  said = none_said past silent;
}
  where
    none_said : (past : List Action) → reports_in past ≡ [] → AreSaid (record { problem = problem; gap = gap }) past
    none_said [] silent = tt
    none_said (Came bytes ∷ past) silent = none_said past silent
    none_said (Took order ∷ past) silent = none_said past silent
    none_said (Told report ∷ past) silent = absurd (omega (arith, ap (λ (r : List Report). length r) silent))

    set_same : (b : Basis) → (h : IsSetUpWith (Took (Setup gap bytes) ∷ past) b)
        → Setup gap bytes ≡ Setup b.gap h.bytes → b ≡ record { problem = problem; gap = gap }
    set_same b h same =
        let gaps : gap ≡ b.gap = ap (λ (o : Order). gap_in o gap) same in
        let records : bytes ≡ h.bytes = ap bytes_in same in
        let both : record_of b.problem ++ [] ≡ record_of problem ++ [] =
        ap (λ (bytes : List ℕ). bytes ++ []) (sym h.its.1 ∙ sym records ∙ spelled) in
        same_basis b (record { problem = problem; gap = gap }) (sym gaps)
        (records_are_unique b.problem problem [] [] h.its.0 its.its.0 both).0

-- ---- the task

-- the task is that of the last order of work, and what was sent since is of it
pub record IsAtTask (basis : Basis) (past : List Action) (t : TaskState) (racing : Bool) : Type 0 where
  pub under : IsUnder basis past t.ticket
  pub problem : t.problem ≡ basis.problem
  pub gap : t.gap ≡ basis.gap
  pub whole : t.whole ≡ box_of basis under.work
  pub hands : AreHands (root_of basis.problem) t.ticket (told_since past) t.handed
  pub won : racing ≡ false → under.work.race ≡ true
      → Contains (since_work past) (Took (Winner t.ticket))
  pub known : IfSome t.cutoff (IsKnown basis under.work (since_work past))

-- another state of the same task
abbrev at_same : (basis : Basis) (past : List Action) (old new : TaskState) (racing : Bool) → IsSameTask old new
    → IsAtTask basis past old racing → IsAtTask basis past new racing
at_same basis past old new racing same a = record {
  under = record {
    work = a.under.work;
    last = a.under.last;
    its = a.under.its ∙ sym same.ticket;
    valid = a.under.valid;
  };
  problem = same.problem ∙ a.problem;
  gap = same.gap ∙ a.gap;
  whole = same.whole ∙ a.whole;
  hands = subst (λ (t : Ticket). AreHands (root_of basis.problem) t (told_since past) new.handed) (sym same.ticket)
      (subst (λ (boxes : List (List Interval)). AreHands (root_of basis.problem) old.ticket (told_since past) boxes)
      (sym same.handed) a.hands);
  won = λ free race. subst (λ (t : Ticket). Contains (since_work past) (Took (Winner t))) (sym same.ticket)
      (a.won free race);
  known = subst (λ (c : Option ℤ). IfSome c (IsKnown basis a.under.work (since_work past))) (sym same.cutoff)
      a.known;
}

-- one action more, behind which these were handed
abbrev at_more : (basis : Basis) (past new : List Action) (action : Action) (t : TaskState) (racing : Bool)
    → last_work new ≡ last_work past → since_work new ≡ action ∷ since_work past
    → AreHands (root_of basis.problem) t.ticket (reports_in (action ∷ since_work past)) t.handed
    → IsAtTask basis past t racing → IsAtTask basis new t racing
at_more basis past new action t racing last since hands a = record {
  under = under_more basis past new t.ticket last a.under;
  problem = a.problem;
  gap = a.gap;
  whole = a.whole;
  hands = subst (λ (actions : List Action). AreHands (root_of basis.problem) t.ticket (reports_in actions) t.handed)
      (sym since) hands;
  won = λ free race. subst (λ (actions : List Action). Contains actions (Took (Winner t.ticket))) (sym since)
      (behind action (since_work past) _ (a.won free race));
  known = subst (λ (actions : List Action). IfSome t.cutoff (IsKnown basis a.under.work actions)) (sym since)
      (some_known basis a.under.work action (since_work past) t.cutoff a.known);
}

abbrev at_came : (basis : Basis) (past : List Action) (bytes : List ℕ) (t : TaskState) (racing : Bool)
    → IsAtTask basis past t racing → IsAtTask basis (Came bytes ∷ past) t racing
at_came basis past bytes t racing a =
    at_more basis past (Came bytes ∷ past) (Came bytes) t racing refl refl a.hands a

abbrev at_took : (basis : Basis) (past : List Action) (order : Order) (t : TaskState) (racing : Bool)
    → work_of order ≡ None → IsAtTask basis past t racing → IsAtTask basis (Took order ∷ past) t racing
at_took basis past order t racing none a =
    at_more basis past (Took order ∷ past) (Took order) t racing (last_took order past none)
    (since_took order past none) a.hands a

-- a lower cutoff was ordered
at_lowered : (basis : Basis) (past : List Action) (t : TaskState) (racing : Bool) (cutoff : ℤ)
    → IsAtTask basis past t racing
    → IsAtTask basis (Took (Incumbent cutoff) ∷ past) (record t { cutoff = Some (lesser_of t.cutoff cutoff) }) racing
at_lowered basis past t racing cutoff a =
    let b = at_took basis past (Incumbent cutoff) t racing refl a in
    record {
      under = b.under;
      problem = b.problem;
      gap = b.gap;
      whole = b.whole;
      hands = b.hands;
      won = b.won;
      known = lower t.cutoff b.known;
    }
  where
    lower : (old : Option ℤ)
        → IfSome old (IsKnown basis a.under.work (Took (Incumbent cutoff) ∷ since_work past))
        → IsKnown basis a.under.work (Took (Incumbent cutoff) ∷ since_work past) (lesser_of old cutoff)
    lower None known = inr (inl (in_front (Took (Incumbent cutoff)) (since_work past)))
    lower (Some old) known = elim (lesser_is old cutoff) [
      | inl first ↦ subst (IsKnown basis a.under.work (Took (Incumbent cutoff) ∷ since_work past)) (sym first.0) known
      | inr next ↦ inr (inl (subst
          (λ (c : ℤ). Contains (Took (Incumbent cutoff) ∷ since_work past) (Took (Incumbent c))) (sym next.0)
          (in_front (Took (Incumbent cutoff)) (since_work past))))
    ]

-- the race was won
at_won : (basis : Basis) (past : List Action) (t : TaskState) (racing : Bool) (ticket : Ticket)
    → ticket ≡ t.ticket → IsAtTask basis past t racing → IsAtTask basis (Took (Winner ticket) ∷ past) t false
at_won basis past t racing ticket its a =
    let b = at_took basis past (Winner ticket) t racing refl a in
    record {
      under = b.under;
      problem = b.problem;
      gap = b.gap;
      whole = b.whole;
      hands = b.hands;
      won = λ free race. subst (λ (t : Ticket). Contains (Took (Winner ticket) ∷ since_work past) (Took (Winner t))) its
          (in_front (Took (Winner ticket)) (since_work past));
      known = b.known;
    }

-- work was ordered
at_begun : (basis : Basis) (past : List Action) (round_count : RoundCount) (ticket : Ticket) (params : Params) (race : Bool)
    (cutoff : Option ℤ) (changes : List Change) (new : Stage)
    → IsBegun basis round_count ticket params race cutoff changes new
    → (e : Engaged) × (new ≡ Busy basis (begun round_count) e)
    × IsAtTask basis (Took (Work ticket params race cutoff changes) ∷ past) e.task e.racing
at_begun basis past round_count ticket params race cutoff changes new h =
    let e : Engaged = record {
      task = record {
        problem = basis.problem;
        ticket = ticket;
        params = params;
        whole = area_by (root_of basis.problem) changes;
        cutoff = cutoff;
        gap = basis.gap;
        boxes = area_by (root_of basis.problem) changes ∷ [];
        handed = [];
      };
      made = 0;
      asked = 0;
      racing = race;
    } in
    let work : Ordered = record { ticket = ticket; params = params; race = race; cutoff = cutoff; changes = changes } in (
      e,
      h.begins,
      record {
        under = record { work = work; last = refl; its = refl; valid = h.valid };
        problem = refl;
        gap = refl;
        whole = refl;
        hands = refl;
        won = λ free race. absurd (false≢true (sym free ∙ race));
        known = own work cutoff refl;
      },
    )
  where
    own : (work : Ordered) (cutoff : Option ℤ) → work.cutoff ≡ cutoff
        → IfSome cutoff (IsKnown basis work [])
    own work None same = tt
    own work (Some cutoff) same = inl same

-- ---- the reports sent of it

-- a point
at_found : (basis : Basis) (past : List Action) (e f : Engaged) (ticket : Ticket) (x : List ℤ)
    → ticket ≡ e.task.ticket → IsFoundBy e x f → IsAtTask basis past e.task e.racing
    → Feasible basis.problem x × IsAtTask basis (Told (Solution ticket x) ∷ past) f.task f.racing
at_found basis past e f ticket x its h at =
    let quiet = quiet_same h.since.more e.task h.task h.since.quiet in
    let a = at_same basis past e.task h.task e.racing quiet at in
    let same = h.found.same in
    let c : ℤ = cutoff_of h.task.problem h.task.gap x in
    let lower : TaskState = record h.task { boxes = f.task.boxes; cutoff = Some c } in
    let told = at_more basis past (Told (Solution ticket x) ∷ past) (Told (Solution ticket x)) h.task e.racing refl
    refl a.hands a in (
      subst (λ (p : Instance). Feasible p x) a.problem h.found.good.feasible,
      subst (λ (racing : Bool). IsAtTask basis (Told (Solution ticket x) ∷ past) f.task racing)
          (sym (ap (λ (g : Engaged). g.racing) h.same))
          (subst (λ (t : TaskState). IsAtTask basis (Told (Solution ticket x) ∷ past) t e.racing) (sym same)
          (record {
            under = told.under;
            problem = told.problem;
            gap = told.gap;
            whole = told.whole;
            hands = told.hands;
            won = told.won;
            known = inr (inr (record {
              point = x;
              among = subst (λ (t : Ticket). Contains (Told (Solution ticket x) ∷ since_work past) (Told (Solution t x)))
                  (its ∙ sym quiet.ticket ∙ sym a.under.its)
                  (in_front (Told (Solution ticket x)) (since_work past));
              its = ap (λ (p : Instance). cutoff_of p h.task.gap x) a.problem
                  ∙ ap (λ (gap : ℤ). cutoff_of basis.problem gap x) a.gap;
            }));
          })),
    )

abbrev under_its : (basis : Basis) (past : List Action) (ticket other : Ticket) → other ≡ ticket
    → IsUnder basis past ticket → IsUnder basis past other
under_its basis past ticket other same u = record {
  work = u.work;
  last = u.last;
  its = u.its ∙ sym same;
  valid = u.valid;
}

-- a box is handed where no other has the task's box
not_asked : (racing : Bool) (asked : ℕ) → 0 < (if racing then 0 else asked) → racing ≡ false
not_asked true asked due = absurd (omega (arith, due))
not_asked false asked due = refl

not_racing : (round_count : RoundCount) (e : Engaged) (task : TaskState) → IsWanted e task ⊎ IsRenewed round_count e task
    → e.racing ≡ false
not_racing round_count e task (inl wanted) = not_asked e.racing e.asked wanted.due
not_racing round_count e task (inr renewed) = renewed.due.free

-- a box
at_handed : (basis : Basis) (past : List Action) (round_count : RoundCount) (e f : Engaged) (ticket : Ticket) (number : ℕ)
    (changes : List Change) → IsCarried (Hand ticket number changes)
    → IsHandTold basis round_count e ticket number changes f → IsAtTask basis past e.task e.racing
    → IsBoxTold basis past ticket number changes
    × IsAtTask basis (Told (Hand ticket number changes) ∷ past) f.task f.racing
at_handed basis past round_count e f ticket number changes carried told at =
    let h = told.handed in
    let root = root_of basis.problem in
    let quiet = quiet_same h.since.more e.task h.task h.since.quiet in
    let a = at_same basis past e.task h.task e.racing quiet at in
    let same = h.handed.same in
    let its : ticket ≡ h.task.ticket = told.its ∙ sym quiet.ticket in
    let box : told.area ≡ area_by root changes =
    area_only root told.area changes carried.can.fields.rising told.spells in
    let counted = hands_counted root h.task.ticket (told_since past) h.task.handed a.hands in
    let free : e.racing ≡ false = not_racing round_count e h.task h.cause in
    let parts : f.task.handed ≡ h.task.handed ++ area_by root changes ∷ [] =
    h.handed.handed ∙ ap (λ (area : List Interval). h.task.handed ++ area ∷ []) box in
    let whole : f.task.whole ≡ box_of basis a.under.work =
    ap (λ (t : TaskState). t.whole) same ∙ a.whole in
    let lower : TaskState = record h.task { boxes = f.task.boxes; handed = f.task.handed } in
    let here : IsAtTask basis (Told (Hand ticket number changes) ∷ past) lower e.racing = record {
      under = under_more basis past (Told (Hand ticket number changes) ∷ past) h.task.ticket refl a.under;
      problem = a.problem;
      gap = a.gap;
      whole = a.whole;
      hands = (h.task.handed, parts, its, h.handed.number, told.spells.valid, a.hands);
      won = λ free race. behind (Told (Hand ticket number changes)) (since_work past) _ (a.won free race);
      known = some_known basis a.under.work (Told (Hand ticket number changes)) (since_work past) h.task.cutoff
          a.known;
    } in (
      record {
        under = under_its basis past h.task.ticket ticket its a.under;
        numbered = h.handed.number ∙ sym counted;
        valid = told.spells.valid;
        below = subst (λ (whole : List Interval). IsBelow (area_by root changes) whole) whole
            (last_below f.task h.task.handed (area_by root changes) h.own parts);
        won = λ race. subst (λ (t : Ticket). Contains (since_work past) (Took (Winner t))) (sym its) (a.won free race);
      },
      subst (λ (racing : Bool). IsAtTask basis (Told (Hand ticket number changes) ∷ past) f.task racing)
          (sym (ap (λ (g : Engaged). g.racing) h.same))
          (subst (λ (t : TaskState). IsAtTask basis (Told (Hand ticket number changes) ∷ past) t e.racing) (sym same)
          here),
    )

-- the boxes left
at_stated : (basis : Basis) (past : List Action) (round_count : RoundCount) (e f : Engaged) (ticket : Ticket) (nodes : ℕ) (floor : ℤ)
    → ticket ≡ e.task.ticket → IsStatedBy round_count e nodes floor f → IsAtTask basis past e.task e.racing
    → IsRestTold basis past ticket nodes × IsAtTask basis (Told (State ticket nodes floor) ∷ past) f.task f.racing
at_stated basis past round_count e f ticket nodes floor its h at =
    let quiet = quiet_same h.since.more e.task h.task h.since.quiet in
    let a = at_same basis past e.task h.task e.racing quiet at in
    let told = at_more basis past (Told (State ticket nodes floor) ∷ past) (Told (State ticket nodes floor)) h.task
    e.racing refl refl a.hands a in (
      record {
        under = under_its basis past e.task.ticket ticket its at.under;
        some = some_left h.task.boxes h.least.area h.least.among h.count;
      },
      subst (λ (racing : Bool). IsAtTask basis (Told (State ticket nodes floor) ∷ past) f.task racing)
          (sym (ap (λ (g : Engaged). g.racing) h.same))
          (subst (λ (t : TaskState). IsAtTask basis (Told (State ticket nodes floor) ∷ past) t e.racing)
          (sym (ap (λ (g : Engaged). g.task) h.same)) told),
    )
  where
    some_left : (boxes : List (List Interval)) (area : List Interval) → Contains boxes area
        → nodes ≡ length boxes → 0 < nodes
    some_left boxes area (k, lt, same) count = omega (arith, lt, count)

-- that nothing is left
at_done : (basis : Basis) (past : List Action) (e : Engaged) (ticket : Ticket) (cutoff : Option ℤ) (count : ℕ)
    → IsDoneTold e ticket cutoff count → IsAtTask basis past e.task e.racing
    → IsEndOfTask basis past ticket cutoff count
at_done basis past e ticket cutoff count told at =
    let h = told.done in
    let t = told.task in
    let root = root_of basis.problem in
    let quiet = quiet_same h.since.more e.task t h.since.quiet in
    let a = at_same basis past e.task t e.racing quiet at in
    let its : ticket ≡ t.ticket = told.its ∙ sym quiet.ticket in
    let counted = hands_counted root t.ticket (told_since past) t.handed a.hands in
    record {
      under = under_its basis past t.ticket ticket its a.under;
      counted = told.counted ∙ sym counted;
      known = subst (λ (c : Option ℤ). IfSome c (IsKnown basis a.under.work (since_work past))) (sym told.under)
          a.known;
      searched = λ x inside good. elim (h.own.covered x
          (subst (λ (whole : List Interval). IsInside whole x) (sym a.whole) inside)
          (subst (λ (p : Instance). IsGood p t.cutoff x) (sym a.problem)
          (subst (λ (c : Option ℤ). IsGood basis.problem c x) told.under good))) [
            | inl left ↦ absurd (subst (λ (boxes : List (List Interval)). IsInOne boxes x) h.none left)
            | inr handed ↦ subst (λ (n : ℕ). IsInHands root (told_since past) ticket n x) (sym told.counted)
                (subst (λ (own : Ticket). IsInHands root (told_since past) own (length t.handed) x) (sym its)
                (in_hands root t.ticket (told_since past) t.handed x a.hands handed))
          ];
    }

-- ---- each standing

-- facts at each stage
abbrev Holds : List Action → Stage → Type 0
Holds past Blank = (reports_in past ≡ []) × ((basis : Basis) → ¬ IsSetUpWith past basis)
Holds past (SetUp basis) = IsSet past basis × (reports_in past ≡ [])
Holds past (Free basis round_count) = IsSet past basis × Contains past (Told Ready)
Holds past (Busy basis round_count e) =
    IsSet past basis × Contains past (Told Ready) × IsAtTask basis past e.task e.racing
Holds past Ending =
    (basis : Basis) × IsSet past basis × Contains past (Told Ready) × Contains past (Took End)
Holds past Over = (basis : Basis) × IsSet past basis

came_holds : (past : List Action) (bytes : List ℕ) (stage : Stage) → Holds past stage
    → Holds (Came bytes ∷ past) stage
came_holds past bytes Blank (silent, none) = (
  silent,
  λ basis h. elim (first_or (Came bytes) past _ h.among) [
    | inl first ↦ absurd (came_is_no_order bytes _ first)
    | inr there ↦ absurd (none basis (record { bytes = h.bytes; among = there; its = h.its }))
  ],
)
came_holds past bytes (SetUp basis) (set, silent) = (set_came past bytes basis set, silent)
came_holds past bytes (Free basis round_count) (set, ready) = (set_came past bytes basis set, behind _ past _ ready)
came_holds past bytes (Busy basis round_count e) (set, ready, at) =
    (set_came past bytes basis set, behind _ past _ ready, at_came basis past bytes e.task e.racing at)
came_holds past bytes Ending (basis, set, ready, ordered) =
    (basis, set_came past bytes basis set, behind _ past _ ready, behind _ past _ ordered)
came_holds past bytes Over (basis, set) = (basis, set_came past bytes basis set)

-- ---- orders

-- an order that changes nothing, where there is no task
free_on : (past : List Action) (order : Order) (basis : Basis) (round_count : RoundCount) (new : Stage) → is_setup order ≡ 0
    → new ≡ Free basis round_count → Holds past (Free basis round_count) → Holds (Took order ∷ past) new
free_on past order basis round_count new other same (set, ready) =
    subst (Holds (Took order ∷ past)) (sym same) (set_took past order basis other set, behind _ past _ ready)

begun_on : (past : List Action) (ticket : Ticket) (params : Params) (race : Bool) (cutoff : Option ℤ)
    (changes : List Change) (basis : Basis) (round_count : RoundCount) (new : Stage)
    → IsBegun basis round_count ticket params race cutoff changes new → Holds past (Free basis round_count)
    → Holds (Took (Work ticket params race cutoff changes) ∷ past) new
begun_on past ticket params race cutoff changes basis round_count new taken (set, ready) =
    let start = at_begun basis past round_count ticket params race cutoff changes new taken in
    subst (Holds (Took (Work ticket params race cutoff changes) ∷ past)) (sym start.1)
    (set_took past _ basis refl set, behind _ past _ ready, start.2)

free_holds : (past : List Action) (order : Order) (basis : Basis) (round_count : RoundCount) (new : Stage)
    → IsTaken (Free basis round_count) order new → Holds past (Free basis round_count) → Holds (Took order ∷ past) new
free_holds past (Setup gap bytes) basis round_count new taken holds = absurd taken
free_holds past (Work ticket params race cutoff changes) basis round_count new taken holds =
    begun_on past ticket params race cutoff changes basis round_count new taken holds
free_holds past (Incumbent cutoff) basis round_count new taken holds = free_on past _ basis round_count new refl taken holds
free_holds past (CollectIn ticket count) basis round_count new taken holds = free_on past _ basis round_count new refl taken holds
free_holds past (CollectOut ticket) basis round_count new taken holds = free_on past _ basis round_count new refl taken holds
free_holds past (Winner ticket) basis round_count new taken holds = free_on past _ basis round_count new refl taken holds
free_holds past (Stop ticket) basis round_count new taken holds = free_on past _ basis round_count new refl taken holds
free_holds past End basis round_count new taken (set, ready) =
    subst (Holds (Took End ∷ past)) (sym taken)
    (basis, set_took past End basis refl set, behind _ past _ ready, in_front (Took End) past)

-- the task continues
busy_on : (past : List Action) (order : Order) (basis : Basis) (round_count : RoundCount) (f : Engaged) (new : Stage) → is_setup order ≡ 0
    → new ≡ Busy basis round_count f → IsAtTask basis (Took order ∷ past) f.task f.racing → IsSet past basis
    → Contains past (Told Ready) → Holds (Took order ∷ past) new
busy_on past order basis round_count f new other same at set ready =
    subst (Holds (Took order ∷ past)) (sym same) (set_took past order basis other set, behind _ past _ ready, at)

-- it is dropped
dropped_on : (past : List Action) (order : Order) (basis : Basis) (round_count : RoundCount) (new : Stage) → is_setup order ≡ 0
    → new ≡ Free basis round_count → IsSet past basis → Contains past (Told Ready) → Holds (Took order ∷ past) new
dropped_on past order basis round_count new other same set ready = free_on past order basis round_count new other same (set, ready)

busy_holds : (past : List Action) (order : Order) (basis : Basis) (round_count : RoundCount) (e : Engaged) (new : Stage)
    → IsTaken (Busy basis round_count e) order new → Holds past (Busy basis round_count e) → Holds (Took order ∷ past) new
busy_holds past (Setup gap bytes) basis round_count e new taken holds = absurd taken
busy_holds past (Work ticket params race cutoff changes) basis round_count e new taken holds = absurd taken
busy_holds past (Incumbent cutoff) basis round_count e new (between, same) (set, ready, at) =
    busy_on past (Incumbent cutoff) basis round_count
    (record e { task = record e.task { cutoff = Some (lesser_of e.task.cutoff cutoff) } }) new refl same
    (at_lowered basis past e.task e.racing cutoff at) set ready
busy_holds past (CollectIn ticket count) basis round_count e new taken (set, ready, at) =
    let still = at_took basis past (CollectIn ticket count) e.task e.racing refl at in
    elim taken.done [
      | inl own ↦ busy_on past _ basis round_count (record e { asked = count }) new refl own.1 still set ready
      | inr other ↦ busy_on past _ basis round_count e new refl other.1 still set ready
    ]
busy_holds past (CollectOut ticket) basis round_count e new taken (set, ready, at) =
    let still = at_took basis past (CollectOut ticket) e.task e.racing refl at in
    elim taken.done [
      | inl own ↦ busy_on past _ basis round_count (record e { asked = 0 }) new refl own.1 still set ready
      | inr other ↦ busy_on past _ basis round_count e new refl other.1 still set ready
    ]
busy_holds past (Winner ticket) basis round_count e new taken (set, ready, at) = elim taken.done [
  | inl own ↦ busy_on past _ basis round_count (record e { racing = false }) new refl own.1
      (at_won basis past e.task e.racing ticket own.0 at) set ready
  | inr other ↦ busy_on past _ basis round_count e new refl other.1
      (at_took basis past (Winner ticket) e.task e.racing refl at) set ready
]
busy_holds past (Stop ticket) basis round_count e new taken (set, ready, at) = elim taken.done [
  | inl own ↦ dropped_on past (Stop ticket) basis round_count new refl own.1 set ready
  | inr other ↦ busy_on past _ basis round_count e new refl other.1
      (at_took basis past (Stop ticket) e.task e.racing refl at) set ready
]
busy_holds past End basis round_count e new (between, same) (set, ready, at) =
    subst (Holds (Took End ∷ past)) (sym same)
    (basis, set_took past End basis refl set, behind _ past _ ready, in_front (Took End) past)

-- the first order
set_holds : (past : List Action) (gap : ℤ) (bytes : List ℕ) (new : Stage)
    → IsSetUp Blank gap bytes new → Holds past Blank → Holds (Took (Setup gap bytes) ∷ past) new
set_holds past gap bytes new taken (silent, none) =
    let basis : Basis = record { problem = taken.problem; gap = gap } in
    subst (Holds (Took (Setup gap bytes) ∷ past)) (sym taken.set) (
      set_up past gap bytes taken.problem none silent
          (record { bytes = bytes; among = in_front (Took (Setup gap bytes)) past; its = taken.its }) taken.its.1,
      silent,
    )

blank_holds : (past : List Action) (order : Order) (new : Stage) → IsTaken Blank order new → Holds past Blank
    → Holds (Took order ∷ past) new
blank_holds past (Setup gap bytes) new taken holds = set_holds past gap bytes new taken holds
blank_holds past (Work ticket params race cutoff changes) new taken holds = absurd taken
blank_holds past (Incumbent cutoff) new taken holds = absurd taken
blank_holds past (CollectIn ticket count) new taken holds = absurd taken
blank_holds past (CollectOut ticket) new taken holds = absurd taken
blank_holds past (Winner ticket) new taken holds = absurd taken
blank_holds past (Stop ticket) new taken holds = absurd taken
blank_holds past End new taken holds = absurd taken

took_holds : (past : List Action) (order : Order) (old new : Stage) → IsTaken old order new → Holds past old
    → Holds (Took order ∷ past) new
took_holds past order Blank new taken holds = blank_holds past order new taken holds
took_holds past order (SetUp basis) new taken holds = absurd taken
took_holds past order (Free basis round_count) new taken holds = free_holds past order basis round_count new taken holds
took_holds past order (Busy basis round_count e) new taken holds = busy_holds past order basis round_count e new taken holds
took_holds past order Ending new taken holds = absurd taken
took_holds past order Over new taken holds = absurd taken

-- ---- reports

-- the task continues
told_on : (past : List Action) (report : Report) (basis : Basis) (round_count : RoundCount) (f : Engaged) (new : Stage)
    → new ≡ Busy basis round_count f → IsSaid basis past report → IsAtTask basis (Told report ∷ past) f.task f.racing
    → IsSet past basis → Contains past (Told Ready) → Holds (Told report ∷ past) new
told_on past report basis round_count f new same said at set ready =
    subst (Holds (Told report ∷ past)) (sym same) (set_told past report basis said set, behind _ past _ ready, at)

telling_holds : (past : List Action) (report : Report) (basis : Basis) (round_count : RoundCount) (e : Engaged) (new : Stage)
    → IsCarried report → IsTold (Busy basis round_count e) report new → Holds past (Busy basis round_count e)
    → Holds (Told report ∷ past) new
telling_holds past Ready basis round_count e new carried told holds = absurd told
telling_holds past (Solution ticket x) basis round_count e new carried (f, its, found, same) (set, ready, at) =
    let so = at_found basis past e f ticket x its found at in
    told_on past (Solution ticket x) basis round_count f new same
    (ready, record { under = under_its basis past e.task.ticket ticket its at.under; feasible = so.0 }) so.1 set ready
telling_holds past (Hand ticket number changes) basis round_count e new carried (f, handed, same) (set, ready, at) =
    let so = at_handed basis past round_count e f ticket number changes carried handed at in
    told_on past (Hand ticket number changes) basis round_count f new same (ready, so.0) so.1 set ready
telling_holds past (State ticket nodes floor) basis round_count e new carried (f, its, stated, same) (set, ready, at) =
    let so = at_stated basis past round_count e f ticket nodes floor its stated at in
    told_on past (State ticket nodes floor) basis (counted round_count) f new same (ready, so.0) so.1 set ready
telling_holds past (Done ticket cutoff count ending) basis round_count e new carried (done, same) (set, ready, at) =
    subst (Holds (Told (Done ticket cutoff count ending) ∷ past)) (sym same) (
      set_told past (Done ticket cutoff count ending) basis
          (ready, at_done basis past e ticket cutoff count done at) set,
      behind _ past _ ready,
    )
telling_holds past Ended basis round_count e new carried told holds = absurd told

-- the first report
ready_holds : (past : List Action) (report : Report) (basis : Basis) (new : Stage)
    → IsTold (SetUp basis) report new → Holds past (SetUp basis) → Holds (Told report ∷ past) new
ready_holds past Ready basis new told (set, silent) =
    subst (Holds (Told Ready ∷ past)) (sym told)
    (set_told past Ready basis silent set, in_front (Told Ready) past)
ready_holds past (Solution ticket x) basis new told holds = absurd told
ready_holds past (Hand ticket number changes) basis new told holds = absurd told
ready_holds past (State ticket nodes floor) basis new told holds = absurd told
ready_holds past (Done ticket cutoff count ending) basis new told holds = absurd told
ready_holds past Ended basis new told holds = absurd told

-- the last one
end_holds : (past : List Action) (report : Report) (new : Stage) → IsTold Ending report new → Holds past Ending
    → Holds (Told report ∷ past) new
end_holds past Ready new told holds = absurd told
end_holds past (Solution ticket x) new told holds = absurd told
end_holds past (Hand ticket number changes) new told holds = absurd told
end_holds past (State ticket nodes floor) new told holds = absurd told
end_holds past (Done ticket cutoff count ending) new told holds = absurd told
end_holds past Ended new told (basis, set, ready, ordered) =
    subst (Holds (Told Ended ∷ past)) (sym told) (basis, set_told past Ended basis (ready, ordered) set)

told_holds : (past : List Action) (report : Report) (old new : Stage) → IsCarried report → IsTold old report new
    → Holds past old → Holds (Told report ∷ past) new
told_holds past report Blank new carried told holds = absurd told
told_holds past report (SetUp basis) new carried told holds = ready_holds past report basis new told holds
told_holds past report (Free basis round_count) new carried told holds = absurd told
told_holds past report (Busy basis round_count e) new carried told holds =
    telling_holds past report basis round_count e new carried told holds
told_holds past report Ending new carried told holds = end_holds past report new told holds
told_holds past report Over new carried told holds = absurd told

-- ---- from the beginning

trace_holds : (past : List Action) (old : ServerState) (actions : List Action) (now : ServerState) → IsTrace old actions now
    → Holds past old.stage → Holds (turned past actions) now.stage
trace_holds past old [] now same holds =
    subst (λ (s : ServerState). Holds past s.stage) (sym same) holds
trace_holds past old (Came bytes ∷ actions) now (mid, does, more) holds =
    trace_holds (Came bytes ∷ past) mid actions now more
    (subst (λ (s : ServerState). Holds (Came bytes ∷ past) s.stage) (sym does)
    (came_holds past bytes old.stage holds))
trace_holds past old (Took order ∷ actions) now (mid, does, more) holds =
    trace_holds (Took order ∷ past) mid actions now more
    (took_holds past order old.stage mid.stage does.taken holds)
trace_holds past old (Told report ∷ actions) now (mid, does, more) holds =
    trace_holds (Told report ∷ past) mid actions now more
    (told_holds past report old.stage mid.stage does.carried does.due holds)

set_transcript : (past : List Action) (basis : Basis) → IsSet past basis → IsTranscript past
set_transcript past basis s = record {
  set_up = inr (basis, s.its);
  said = λ other h. subst (λ (b : Basis). AreSaid b past) (sym (s.only other h)) s.said;
}

transcript : (past : List Action) (stage : Stage) → Holds past stage → IsTranscript past
transcript past Blank (silent, none) = record {
  set_up = inl silent;
  said = λ basis h. absurd (none basis h);
}
transcript past (SetUp basis) holds = set_transcript past basis holds.0
transcript past (Free basis round_count) holds = set_transcript past basis holds.0
transcript past (Busy basis round_count e) holds = set_transcript past basis holds.0
transcript past Ending (basis, set, ready, ordered) = set_transcript past basis set
transcript past Over (basis, set) = set_transcript past basis set

none_yet : (basis : Basis) → ¬ IsSetUpWith [] basis
none_yet basis h = no_action _ h.among
  where
    no_action : (action : Action) → Contains [] action → ⊥
    no_action action (k, lt, same) = omega (arith, lt)

pub traces_are_transcripts : TracesAreTranscripts
traces_are_transcripts actions now trace =
    transcript (turned [] actions) now.stage (trace_holds [] beginning actions now trace (refl, none_yet))
