-- Receiving a report and losing a rank keep the known facts about the tickets.
use Rattle.std.proofs.Common.{◌≡◌, ◌⊎◌, inl, inr, ℕ, ◌<◌, List, [], ◌∷◌, ◌++◌, length, refl, ap, sym, ◌∙◌, subst, arith}
use Rattle.std.specs.Prelude.{Contains, Option, Some, None}
use Rattle.std.proofs.lemmas.Bool.{cases_lt}
use Rattle.std.proofs.lemmas.List.{get_or_append_left, get_or_push, length_push}
use Rattle.std.proofs.lemmas.Option.{same_Some}
use Rattle.ug_rows.specs.declared.area.Interval.{Interval}
use Rattle.ug_rows.specs.Boxes.{box_at}
use Rattle.ug_problem.specs.Instances.{root_of}
use Rattle.ug_nodes.specs.declared.name.Ticket.{Ticket}
use Rattle.ug_nodes.specs.declared.change.Change.{Change}
use Rattle.ug_nodes.specs.Changes.{area_by}
use Rattle.ug_nodes.specs.Names.{IsTicketBefore}
use Rattle.ug_nodes.proofs.Orders.{ticket_either, ticket_not_itself}
use Rattle.ug_pool.specs.declared.entry.Entry.{Entry}
use Rattle.ug_frames.specs.declared.report.Report.{Report}
use Rattle.ug_frames.specs.declared.report.Report.TheVariants.{Ready, Solution, Hand, State as Reported, Done, Ended}
use Rattle.ug_ranks.specs.declared.state.Work.{Work}
use Rattle.ug_ranks.specs.declared.state.State.{State}
use Rattle.ug_ranks.specs.declared.state.State.TheVariants.{Absent, Idle, Racing, Active, Dead}
use Rattle.ug_ranks.specs.States.{state_at}
use Rattle.ug_ranks.specs.Changes.{grown}
use Rattle.ug_ledger.specs.Ledgers.{Current}
use Rattle.ug_rules.specs.declared.heard.Heard.{Heard}
use Rattle.ug_rules.specs.declared.heard.Heard.TheVariants.{Kept, Stale}
use Rattle.ug_rules.specs.declared.told.Told.{Told}
use Rattle.ug_rules.specs.State.{BookState, current_for, current_of}
use Rattle.ug_rules.specs.Ranks.{ranks_that}
use Rattle.ug_ranks.specs.Looks.{is_racing, ticket_at}
use Rattle.ug_rules.specs.Books.{IsBook}
use Rattle.ug_rules.specs.Deaths.{killed, killed_at, lost_by, stops_below, with_dead}
use Rattle.ug_rules.specs.Hearing.{IsDue, IsDueUnder, IsNextHand, after_hearing, done_at, handed_at, handed_by, kept}
use Rattle.ug_rules.proofs.EventLemmas.{death_has_taken_in, idle_death_none, racer_death_has_ended, ready_none, reported_none}
use Rattle.ug_rules.proofs.DoneLemmas.{done_works_off}
use Rattle.ug_rules.proofs.RaceLemmas.{done_ends_race, racing_entry}
use Rattle.ug_rules.proofs.AnswerLemmas.{under_answer}
use Rattle.ug_frames.specs.Honest.{IsBoxOfHand}
use Rattle.ug_laws.proofs.Known.{AreAmong, AreFewer, AreKnown, Carries, IsKnown, among_more, carries_itself, fewer_carried, less_is_fewer, same_is_fewer, written_current}

-- ---- a death

-- the problem and the settings stay, and the orders
record Stays (old new : BookState) : Type 0 where
  problem : new.problem ≡ old.problem
  settings : new.settings ≡ old.settings
  orders : AreAmong old.orders new.orders

lost_stays : (rs : List ℕ) (raced : Option Entry) (b : BookState) → Stays b (lost_by rs raced b)
lost_stays (r ∷ rs) raced b = record { problem = refl; settings = refl; orders = λ t h. h }
lost_stays [] None b = record { problem = refl; settings = refl; orders = λ t h. h }
lost_stays [] (Some entry) b = record { problem = refl; settings = refl; orders = λ t h. h }

dead_stays : (s : State) (r : ℕ) (b : BookState) → Stays b (killed_at s r b)
dead_stays Absent r b = record { problem = refl; settings = refl; orders = λ t h. h }
dead_stays Idle r b = record { problem = refl; settings = refl; orders = λ t h. h }
dead_stays (Racing racer) r b =
    let d = with_dead r b in
    let t = lost_stays (ranks_that is_racing d.ranks) d.raced d in
    record { problem = t.problem; settings = t.settings; orders = t.orders }
dead_stays (Active work) r b = record {
  problem = refl;
  settings = refl;
  orders = among_more b.orders (stops_below work.node.line (with_dead r b).ranks);
}
dead_stays (Dead how) r b = record { problem = refl; settings = refl; orders = λ t h. h }

dead_fewer : (b : BookState) (r : ℕ) → r < length b.ranks → IsBook b → (s : State)
    → state_at b.ranks r ≡ s → AreFewer b (killed r b)
dead_fewer b r l book Absent e =
    same_is_fewer b (killed r b) (idle_death_none b r (ap ticket_at e))
dead_fewer b r l book Idle e =
    same_is_fewer b (killed r b) (idle_death_none b r (ap ticket_at e))
dead_fewer b r l book (Racing racer) e =
    less_is_fewer b (killed r b) (racer_death_has_ended b r racer l e book).less
dead_fewer b r l book (Active work) e =
    less_is_fewer b (killed r b) (death_has_taken_in b r work l e book).less
dead_fewer b r l book (Dead how) e =
    same_is_fewer b (killed r b) (idle_death_none b r (ap ticket_at e))

pub killed_carries : (past : List Told) (sent : List Report) (b : BookState) (r : ℕ) → r < length b.ranks → IsBook b
    → Carries past sent b (killed r b)
killed_carries past sent b r l book =
    let t = dead_stays (state_at b.ranks r) r b in
    fewer_carried past sent b (killed r b) t.problem t.settings t.orders
    (dead_fewer b r l book (state_at b.ranks r) refl)

-- ---- a Done

done_carries : (past : List Told) (sent : List Report) (b : BookState) (r : ℕ) → r < length b.ranks → IsBook b
    → (s : State) → state_at b.ranks r ≡ s → Carries past sent b (done_at s r b)
done_carries past sent b r l book Absent e = carries_itself past sent b
done_carries past sent b r l book Idle e = carries_itself past sent b
done_carries past sent b r l book (Racing racer) e =
    let t = racing_entry b r racer l e book.race in
    let new = done_at (Racing racer) r b in
    fewer_carried past sent b new refl refl (λ t h. h)
    (less_is_fewer b new (done_ends_race b r racer l e book.race t.0 t.1).less)
done_carries past sent b r l book (Active work) e =
    let new = done_at (Active work) r b in
    fewer_carried past sent b new refl refl (λ t h. h)
    (less_is_fewer b new (done_works_off b r work l e book.ledger.ticketed.named).less)
done_carries past sent b r l book (Dead how) e = carries_itself past sent b

-- ---- a hand

-- a report that is kept of a rank that works is under its ticket
kept_not_stale : Kept ≡ Stale → ⊥
kept_not_stale e = cc

apart : (t u : Ticket) → IsTicketBefore t u ⊎ IsTicketBefore u t → t ≡ u → ⊥
apart t u (inl h) e = ticket_not_itself u (subst (λ k. IsTicketBefore k u) e h)
apart t u (inr h) e = ticket_not_itself u (subst (λ k. IsTicketBefore u k) e h)

its_ticket : (b : BookState) (work : Work) (ticket : Ticket) (report : Report)
    → IsDueUnder b (Active work) ticket report Kept → work.ticket ≡ ticket
its_ticket b work ticket report due = elim (ticket_either work.ticket ticket) [
  | inl e ↦ e
  | inr order ↦ absurd (kept_not_stale
      (due.other (λ e. apart work.ticket ticket order (same_Some work.ticket ticket e))))
]

-- the box taken is that of the hand
module _ (past : List Told) (sent : List Report) (b : BookState) (r : ℕ) (work : Work) (number : ℕ)
    (changes : List Change) (next : IsNextHand b work number changes)
    (among : Contains sent (Hand work.ticket number changes)) where
  abbrev area : List Interval
  area = area_by (root_of b.problem) changes

  -- what the ticket is current for then
  abbrev its : Current
  its = record {
    ticket = work.ticket;
    node = work.node;
    taken = work.taken ++ area ∷ [];
  }

  old_box : (i : ℕ) → i < length work.taken
      → IsBoxOfHand (root_of b.problem) sent work.ticket i (box_at work.taken i)
      → IsBoxOfHand (root_of b.problem) sent work.ticket i (box_at its.taken i)
  old_box i short t = record {
    changes = t.changes;
    among = t.among;
    valid = t.valid;
    box = get_or_append_left work.taken (area ∷ []) [] i short ∙ t.box;
  }

  new_box : (i : ℕ) → i ≡ length work.taken
      → IsBoxOfHand (root_of b.problem) sent work.ticket i (box_at its.taken i)
  new_box i e = record {
    changes = changes;
    among = subst (λ k. Contains sent (Hand work.ticket k changes)) (next.next ∙ sym e) among;
    valid = next.below.valid;
    box = get_or_push work.taken area [] i (sym e);
  }

  its_known : IsKnown (root_of b.problem) sent (past ++ b.orders) (current_for work)
      → IsKnown (root_of b.problem) sent (past ++ b.orders) its
  its_known k = record {
    told = record {
      rank = k.told.rank;
      params = k.told.params;
      race = k.told.race;
      cutoff = k.told.cutoff;
      queued = k.told.queued;
    };
    taken = λ i short. elim (cases_lt i (length work.taken)) [
      | inl less ↦ old_box i less (k.taken i less)
      | inr past ↦
          let one = length_push work.taken area in
          new_box i (omega (arith, past, short, one))
    ];
  }

  handed_known : state_at b.ranks r ≡ Active work → AreKnown past b sent
      → AreKnown past (handed_by work r changes b) sent
  handed_known is k = record {
    each = λ q c h. elim (written_current b.raced b.ranks r (grown area (state_at b.ranks r)) q c h) [
      | inl new ↦
          let same = same_Some its c
          (sym (ap (λ s. current_of b.raced (grown area s)) is) ∙ new.1) in
          subst (λ d. IsKnown (root_of b.problem) sent (past ++ b.orders) d) same
          (its_known (k.each r (current_for work) (ap (current_of b.raced) is)))
      | inr old ↦ k.each q c old
    ];
  }

handed_carries : (past : List Told) (sent : List Report) (b : BookState) (r : ℕ) (ticket : Ticket) (number : ℕ)
    (changes : List Change) → Contains sent (Hand ticket number changes) → (s : State)
    → state_at b.ranks r ≡ s → IsDueUnder b s ticket (Hand ticket number changes) Kept
    → Carries past sent b (handed_at s r changes b)
handed_carries past sent b r ticket number changes among Absent e due = carries_itself past sent b
handed_carries past sent b r ticket number changes among Idle e due = carries_itself past sent b
handed_carries past sent b r ticket number changes among (Racing racer) e due = carries_itself past sent b
handed_carries past sent b r ticket number changes among (Active work) e due =
    let same = its_ticket b work ticket (Hand ticket number changes) due in
    let its_own = subst (λ t. Contains sent (Hand t number changes)) (sym same) among in
    record {
      problem = refl;
      settings = refl;
      known = handed_known past sent b r work number changes (due.current (ap Some same)) its_own e;
    }
handed_carries past sent b r ticket number changes among (Dead how) e due = carries_itself past sent b

-- ---- the whole

pub joined_carries : (past : List Told) (sent : List Report) (b : BookState) (r : ℕ) → Carries past sent b (kept r Ready b)
joined_carries past sent b r =
    fewer_carried past sent b (kept r Ready b) refl refl (λ t h. h)
    (same_is_fewer b (kept r Ready b) (ready_none b r))

kept_carries : (past : List Told) (sent : List Report) (b : BookState) (r : ℕ) (report : Report)
    → r < length b.ranks → IsBook b → Contains sent report → IsDue b r report Kept
    → Carries past sent b (kept r report b)
kept_carries past sent b r Ready l book among due = joined_carries past sent b r
kept_carries past sent b r (Solution ticket x) l book among due =
    fewer_carried past sent b (kept r (Solution ticket x) b) refl refl (λ t h. h) (λ q c h. h)
kept_carries past sent b r (Hand ticket number changes) l book among due =
    handed_carries past sent b r ticket number changes among (state_at b.ranks r) refl due
kept_carries past sent b r (Reported ticket count floor) l book among due =
    let new = kept r (Reported ticket count floor) b in
    fewer_carried past sent b new refl refl (λ t h. h)
    (same_is_fewer b new (reported_none b r ticket count floor))
kept_carries past sent b r (Done ticket told count ending) l book among due =
    done_carries past sent b r l book (state_at b.ranks r) refl
kept_carries past sent b r Ended l book among due = carries_itself past sent b

pub heard_carries : (past : List Told) (sent : List Report) (b : BookState) (r : ℕ) (report : Report) (answer : Heard)
    → r < length b.ranks → IsBook b → Contains sent report → IsDue b r report answer
    → Carries past sent b (after_hearing answer r report b)
heard_carries past sent b r report answer l book among due =
    under_answer (λ k. Carries past sent b k)
    (λ k t. record {
      problem = t.problem;
      settings = t.settings;
      known = λ old. record { each = (t.known old).each };
    })
    b r report (carries_itself past sent b) (killed_carries past sent b r l book) answer
    (λ e. kept_carries past sent b r report l book among (subst (IsDue b r report) e due))
