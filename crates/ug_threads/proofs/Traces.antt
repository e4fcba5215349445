-- What the calls of a seat at a desk make of the trace of its pass.
use Rattle.std.proofs.Common.{◌≡◌, inl, inr, ℕ, ℤ, ◌-◌, ◌≤◌, List, [], ◌∷◌, ◌++◌, length, Bool, true, false, Option, Some, None, Result, Ok, Err, IfSome, refl, sym, ap, ◌∙◌, subst, arith}
use Rattle.std.specs.declared.alloc.AllocError.{AllocError}
use Rattle.std.specs.Prelude.{pos, ◌+ℤ◌, nat_eq, if◌then◌else◌, OnErr, IfOk, IsErr, MatchBool}
use mathlib.Core.List.{IsPrefix}
use mathlib.Core.Logic.{dite}
use native.Mathlib.Decide.{ℕ_discrete}
use Rattle.std.proofs.lemmas.Bool.{false≢true}
use Rattle.std.proofs.lemmas.Int.{ints}
use Rattle.std.proofs.lemmas.List.{append-nil, append_assoc, length-map}
use Rattle.std.proofs.lemmas.Option.{none-some, same_Some}
use Rattle.ug_base.specs.Tasks.{TaskState}
use Rattle.ug_book.specs.declared.opening.Opening.{Opening}
use Rattle.ug_rules.specs.declared.settings.Settings.{Settings}
use Rattle.ug_snapshot.specs.Snapshots.{SnapshotState}
use Rattle.ug_stock.specs.declared.unfinished.Unfinished.{Unfinished}
use Rattle.ug_worker.specs.declared.reply.Reply.{Reply}
use Rattle.ug_worker.specs.declared.search.Asked.{Asked}
use Rattle.ug_worker.specs.declared.took.Took.{Took}
use Rattle.ug_worker.specs.declared.took.Took.TheVariants.{Work, Wait, Over}
use Rattle.ug_worker.specs.declared.took.Untaken.{Untaken}
use Rattle.ug_worker.specs.declared.took.Untaken.TheVariants.{Deciding, Making}
use Rattle.ug_desk.specs.declared.desk.Desk.{Desk}
use Rattle.ug_desk.specs.Backing.{IsKnownBacked}
use Rattle.ug_desk.specs.Backing.{Backs, IsWellOffered}
use Rattle.ug_desk.specs.Passes as desk
use Rattle.ug_rows.specs.declared.area.Interval.{Interval}
use Rattle.ug_problem.specs.Better.{cutoff_of}
use Rattle.ug_problem.specs.Instances.{Instance, bounds_of}
use Rattle.ug_rules.specs.declared.heard.Heard.{Heard}
use Rattle.ug_rules.specs.declared.heard.Heard.TheVariants.{Kept, Stale, Early, Broken, NotBetter, InRace, Again, Gap, Outside, Unbacked, Short, Memory}
use Rattle.ug_worker.proofs.Quiet.{handed_below, quiet_same}
use Rattle.ug_worker.specs.declared.round_count.ReleasePolicy.{ReleasePolicy}
use Rattle.ug_worker.specs.declared.round_count.RoundCount.{RoundCount}
use Rattle.ug_worker.specs.Engagements.{Engaged, HasTaken, IsFoundBy, IsDoneBy, IsHandedBy, IsReplied, IsSince, IsStatedBy, is_replied, Stands, lowered, under}
use Rattle.ug_worker.specs.Releases.{begun, counted, fresh, usual}
use Rattle.ug_desk.specs.Entries.{LockedState}
use Rattle.ug_desk.specs.Histories.{Call, Entry, copied, ended, handed, left, offered, stated, taken}
use Rattle.ug_desk.specs.Dones.{IsOfTicket}
use Rattle.ug_desk.specs.Passes.{HasCalled, HasCalledAt, HasEndedIn, HasEndedOther, HasHandedIn, HasLeft, HasLeftBefore, HasLooked, HasTakenIn, IsItsProblem, PassState, entry_by}
use Rattle.ug_turn.specs.Histories.{told}
use Rattle.ug_desk.specs.Words.{cutoff_at, floor_of, no_word, word_at, word_of}
use Rattle.ug_desk.proofs.Backing.{called_same, called_step, if_there, known_lesser, known_none, known_on, known_read, known_still, offered_known, stated_known, taken_known, taken_problem}
use Rattle.ug_ranks.specs.Looks.{is_alive}
use Rattle.ug_ranks.specs.States.{state_at}
use Rattle.ug_threads.specs.Actions.{behind_point, behind_reply, replied_to, taken_up, Away, Busy, Called, Action, NextState, EndedInVain, Free, LeftInVain, Read, Sat, Stage}
use Rattle.ug_threads.specs.Lines.{AreReadAbove, AreWithin, HasStood, IsInLine, LeadTo, entries_in}
use Rattle.ug_threads.specs.Traces.{Reaches, HasStayed, IsLeft, IsOfDesk, IsSeated, stage_of}

no_higher : {w n k m : ℕ} → w ≡ n → k ≡ n → k ≤ m → w ≤ m
no_higher e f g = omega (arith, e, f, g)

-- what was read is above less too
pub read_less : (o : Opening) (less more : ℕ) (actions : List Action) → less ≤ more
    → AreReadAbove o more actions → AreReadAbove o less actions
read_less o less more [] few all = tt
read_less o less more (Read cutoff ∷ past) few all =
    (omega (arith, few, all.0), read_less o less more past few all.1)
read_less o less more (Sat policy ∷ past) few all = read_less o less more past few all
read_less o less more (Called call ∷ past) few all = read_less o less more past few all
read_less o less more (EndedInVain task seen ∷ past) few all = read_less o less more past few all
read_less o less more (LeftInVain seen ∷ past) few all = read_less o less more past few all

-- ---- the history grows

begins_more : (a b c : List Entry) → IsPrefix a b → IsPrefix b c → IsPrefix a c
begins_more a b c p q = (p.0 ++ q.0, sym (append_assoc a p.0 q.0) ∙ (ap (λ (l : List Entry). l ++ q.0) p.1 ∙ q.1))

-- what was within a history is within a longer one
pub within_more : (a b : List Entry) (actions : List Action) → IsPrefix a b → AreWithin a actions → AreWithin b actions
within_more a b [] more all = tt
within_more a b (EndedInVain task seen ∷ past) more all =
    (begins_more seen a b all.0 more, within_more a b past more all.1)
within_more a b (LeftInVain seen ∷ past) more all =
    (begins_more seen a b all.0 more, within_more a b past more all.1)
within_more a b (Sat policy ∷ past) more all = within_more a b past more all
within_more a b (Called call ∷ past) more all = within_more a b past more all
within_more a b (Read cutoff ∷ past) more all = within_more a b past more all

-- what the pass had seen begins what it sees behind a call
called_begins : (call : Option Call) (after : LockedState) (p q : PassState) → HasCalledAt call after p q
    → IsPrefix p.seen q.seen
called_begins call after p q h = (
  h.between ++ told (entry_by p.rank call),
  sym (append_assoc p.seen h.between (told (entry_by p.rank call))) ∙ sym h.seen,
)

begins_same : (seen : List Entry) → IsPrefix seen seen
begins_same seen = ([], append-nil seen)

-- ---- calls

-- the answered cutoff is no higher than the one read before
abbrev IsLine : PassState → Call → Type 0
IsLine p call = (o : Opening) (past : List Action) → p.opening ≡ Some o
    → AreReadAbove o p.known past → IsInLine o p.rank past (Called call)

-- a call that the history has
pub come_called : (call : Call) (after : LockedState) (p q : PassState) (old new : Stage)
    → HasCalledAt (Some call) after p q → NextState old (Called call) new → IsLine p call → Reaches p old
    → Reaches q new
come_called call after p q old new h does line come o opened =
    let before = sym h.same.2 ∙ opened in
    let at = come o before in
    let c = at.trace in
    let entry : Entry = record { pass = p.rank; call = call } in
    record {
      trace = record {
        actions = Called call ∷ c.actions;
        lead = subst (λ (r : ℕ). LeadTo o r (Called call ∷ c.actions) new) (sym h.same.1)
            (old, c.lead, does, line o c.actions before at.read);
        calls = ap (λ (r : ℕ). entries_in r (Called call ∷ c.actions)) h.same.1
            ∙ (ap (λ (l : List Entry). l ++ entry ∷ []) c.calls ∙ sym h.mine);
        within = within_more p.seen q.seen c.actions (called_begins (Some call) after p q h) c.within;
      };
      read = read_less o q.known p.known c.actions h.lower at.read;
    }

-- the calls of a pass behind a turn without an entry
same_calls : (after : LockedState) (p q : PassState) (actions : List Action) → HasCalledAt None after p q
    → entries_in p.rank actions ≡ p.mine → entries_in q.rank actions ≡ q.mine
same_calls after p q actions h calls =
    ap (λ (r : ℕ). entries_in r actions) h.same.1 ∙ (calls ∙ (sym (append-nil p.mine) ∙ sym h.mine))

-- what follows such a turn has stood
stood_then : (after : LockedState) (p q : PassState) (o : Opening) (actions : List Action) → HasCalledAt None after p q
    → p.opening ≡ Some o → entries_in p.rank actions ≡ p.mine → HasStood o q.rank actions q.seen after
stood_then after p q o actions h opened calls = record {
  began = same_Some after.opening o (sym h.opened ∙ opened);
  replayed = h.replayed;
  own = h.own ∙ sym (same_calls after p q actions h calls);
}

-- an action in vain, of which what then stood is the evidence
come_in_vain : (action : Action) (after : LockedState) (p q : PassState) (old new : Stage)
    → HasCalledAt None after p q → NextState old action new
    → ((o : Opening) (past : List Action) → HasStood o q.rank past q.seen after → IsInLine o q.rank past action)
    → ((past : List Action) → entries_in q.rank (action ∷ past) ≡ entries_in q.rank past)
    → ((past : List Action) → AreWithin q.seen past → AreWithin q.seen (action ∷ past))
    → ((o : Opening) (past : List Action) → AreReadAbove o q.known past → AreReadAbove o q.known (action ∷ past))
    → Reaches p old → Reaches q new
come_in_vain action after p q old new h does line none within read come o opened =
    let before = sym h.same.2 ∙ opened in
    let at = come o before in
    let c = at.trace in
    record {
      trace = record {
        actions = action ∷ c.actions;
        lead = (
          old,
          subst (λ (r : ℕ). LeadTo o r c.actions old) (sym h.same.1) c.lead,
          does,
          line o c.actions (stood_then after p q o c.actions h before c.calls),
        );
        calls = none c.actions ∙ same_calls after p q c.actions h c.calls;
        within = within c.actions (within_more p.seen q.seen c.actions (called_begins None after p q h) c.within);
      };
      read = read o c.actions (read_less o q.known p.known c.actions h.lower at.read);
    }

-- the end of a task is reported in vain
pub come_ended : (task : TaskState) (answer : Heard) (p q : PassState) (old new : Stage)
    (other : HasEndedOther task answer p q) → NextState old (EndedInVain task q.seen) new → Reaches p old → Reaches q new
come_ended task answer p q old new other does =
    come_in_vain (EndedInVain task q.seen) other.after p q old new other.called does
    (λ o past stood. (
      other.after,
      stood,
      subst (λ (r : ℕ). ¬ IsOfTicket other.after.now.book r task) (sym other.called.same.1) other.other,
    ))
    (λ past. refl) (λ past all. (begins_same q.seen, all)) (λ o past all. all)

-- a worker leaves in vain
pub come_left : (p q : PassState) (old new : Stage) (gone : HasLeftBefore p q) → NextState old (LeftInVain q.seen) new
    → Reaches p old → Reaches q new
come_left p q old new gone does =
    come_in_vain (LeftInVain q.seen) gone.after p q old new gone.called does
    (λ o past stood. (
      gone.after,
      stood,
      subst (λ (r : ℕ). is_alive (state_at gone.after.now.book.ranks r) ≡ false) (sym gone.called.same.1) gone.gone,
    ))
    (λ past. refl) (λ past all. (begins_same q.seen, all)) (λ o past all. all)

-- nothing was done
pub come_still : (after : LockedState) (p q : PassState) (stage : Stage)
    → HasCalledAt None after p q → Reaches p stage → Reaches q stage
come_still after p q stage h come o opened =
    let at = come o (sym h.same.2 ∙ opened) in
    let c = at.trace in
    record {
      trace = record {
        actions = c.actions;
        lead = subst (λ (r : ℕ). LeadTo o r c.actions stage) (sym h.same.1) c.lead;
        calls = same_calls after p q c.actions h c.calls;
        within = within_more p.seen q.seen c.actions (called_begins None after p q h) c.within;
      };
      read = read_less o q.known p.known c.actions h.lower at.read;
    }

-- a worker sits down
pub come_sat : (policy : Option ReleasePolicy) (p : PassState) → IfSome policy (λ rule. rule ≡ usual)
    → Reaches p Away → Reaches p (Free (fresh policy))
come_sat policy p is come o opened =
    let at = come o opened in
    record {
      trace = record {
        actions = Sat policy ∷ at.trace.actions;
        lead = (Away, at.trace.lead, refl, is);
        calls = at.trace.calls;
        within = at.trace.within;
      };
      read = at.read;
    }

-- nobody has sat there
pub come_new : (p : PassState) → p.mine ≡ [] → Reaches p Away
come_new p none o opened =
    record { trace = record { actions = []; lead = refl; calls = sym none; within = tt }; read = tt }

-- ---- a cutoff that was read

word_back : (floor : ℤ) (word : ℕ) → word ≤ no_word → word ≤ word_at floor (Some (floor +ℤ pos word))
word_back floor word small = omega (arith, ints, small)

said_word : (floor cutoff : ℤ) (word : ℕ) → word ≤ no_word → cutoff_at floor word ≡ Some cutoff
    → word ≤ word_at floor (Some cutoff)
said_word floor cutoff word small is = elim (nat_eq word no_word) as (λ v.
    (if v then None else Some (floor +ℤ pos word)) ≡ Some cutoff → word ≤ word_at floor (Some cutoff)) [
      | true ↦ λ e. absurd (none-some cutoff e)
      | false ↦ λ e. subst (λ (c : ℤ). word ≤ word_at floor (Some c)) (same_Some (floor +ℤ pos word) cutoff e)
          (word_back floor word small)
    ] is

read_word : (floor : ℤ) (word : ℕ) (found kept : Option ℤ) → word ≤ no_word → found ≡ cutoff_at floor word
    → IfSome kept (λ c. found ≡ Some c) → word ≤ word_at floor kept
read_word floor word found None small is from = small
read_word floor word found (Some cutoff) small is from =
    said_word floor cutoff word small (sym is ∙ from)

pub come_read : (found kept : Option ℤ) (p q : PassState) (round_count : RoundCount) (e : Engaged) → HasLooked found p q
    → IfSome kept (λ c. found ≡ Some c) → e.made ≡ 0 → Reaches p (Busy round_count e)
    → Reaches q (Busy round_count (under kept e))
come_read found kept p q round_count e h from made come o opened =
    let also = sym (ap (λ (k : PassState). k.opening) h.same) ∙ opened in
    let at = come o also in
    let c = at.trace in
    let its : found ≡ cutoff_at (floor_of o.problem) q.known =
    subst (λ (k : Option Opening). IfSome k (λ o. found ≡ cutoff_at (floor_of o.problem) q.known)) also h.its in
    record {
      trace = record {
        actions = Read kept ∷ c.actions;
        lead = subst (λ (k : PassState). LeadTo o k.rank (Read kept ∷ c.actions) (Busy round_count (under kept e)))
            (sym h.same) (Busy round_count e, c.lead, (made, refl), tt);
        calls = ap (λ (k : PassState). entries_in k.rank c.actions) h.same
            ∙ (c.calls ∙ sym (ap (λ (k : PassState). k.mine) h.same));
        within = subst (λ (k : PassState). AreWithin k.seen c.actions) (sym h.same) c.within;
      };
      read = (
        read_word (floor_of o.problem) q.known found kept h.small its from,
        read_less o q.known p.known c.actions h.falls at.read,
      );
    }

-- ---- snapshots

copies : (round_count : RoundCount) (some : Option Engaged) → NextState (stage_of round_count some) (Called copied) (stage_of round_count some)
copies round_count None = refl
copies round_count (Some e) = refl

pub stayed_none : (p : PassState) → HasStayed p p
stayed_none p = record {
  lock = refl;
  rank = refl;
  opening = refl;
  trace = λ round_count some come. come;
  known = λ cutoff known. known;
}

pub stayed_once : (after : LockedState) (p q : PassState) → HasCalledAt (Some copied) after p q → HasStayed p q
stayed_once after p q h = record {
  lock = h.same.0;
  rank = h.same.1;
  opening = h.same.2;
  trace = λ round_count some come. come_called copied after p q (stage_of round_count some) (stage_of round_count some) h
      (copies round_count some) (λ o past opened read. tt) come;
  known = λ cutoff known. known_on (Some copied) after p q cutoff h known;
}

pub stayed_not : (after : LockedState) (p q : PassState) → HasCalledAt None after p q → HasStayed p q
stayed_not after p q h = record {
  lock = h.same.0;
  rank = h.same.1;
  opening = h.same.2;
  trace = λ round_count some come. come_still after p q (stage_of round_count some) h come;
  known = λ cutoff known. known_on None after p q cutoff h known;
}

pub stayed_then : (p q s : PassState) → HasStayed p q → HasStayed q s → HasStayed p s
stayed_then p q s one two = record {
  lock = two.lock ∙ one.lock;
  rank = two.rank ∙ one.rank;
  opening = two.opening ∙ one.opening;
  trace = λ round_count some come. two.trace round_count some (one.trace round_count some come);
  known = λ cutoff known. two.known cutoff (one.known cutoff known);
}

-- ---- a lower cutoff

of_problem : (cutoff : Option ℤ) (task : TaskState) → (lowered cutoff task).problem ≡ task.problem
of_problem None task = refl
of_problem (Some c) task = refl

of_gap : (cutoff : Option ℤ) (task : TaskState) → (lowered cutoff task).gap ≡ task.gap
of_gap None task = refl
of_gap (Some c) task = refl

known_under : (q : PassState) (cutoff : Option ℤ) (task : TaskState) → IsKnownBacked q task.cutoff
    → IsKnownBacked q cutoff → IsKnownBacked q (lowered cutoff task).cutoff
known_under q None task one two = one
known_under q (Some c) task one two = known_lesser q task.cutoff c one two

-- facts kept of a cutoff that was read
known_kept : (found kept : Option ℤ) (p q : PassState) → HasLooked found p q
    → IfSome kept (λ c. found ≡ Some c) → IsKnownBacked q kept
known_kept found None p q h from = known_none q
known_kept found (Some c) p q h from = λ o more s opened replays low.
    subst (IsKnownBacked q) from (known_read found p q o opened h) o more s opened replays low

pub stayed_copy : (result : Result SnapshotState AllocError) (p q : PassState)
    → IfOk result (λ copy. desk.HasCopied copy p q) → OnErr result (HasCalled None p q) → HasStayed p q
stayed_copy (Ok copy) p q h none = stayed_once h.after p q h.called
stayed_copy (Err error) p q h none = stayed_not none.0 p q none.1

-- ---- what a call leaves at the desk

-- it still is where nothing of the task was done
of_desk_on : (p q : PassState) (asked : Asked) (e : Engaged) → q.opening ≡ p.opening
    → ((cutoff : Option ℤ) → IsKnownBacked p cutoff → IsKnownBacked q cutoff)
    → IsOfDesk p asked e → IsOfDesk q asked e
of_desk_on p q asked e same known h = record {
  problem = λ o opened. h.problem o (sym same ∙ opened);
  gap = λ o opened. h.gap o (sym same ∙ opened);
  known = known e.task.cutoff h.known;
  count = h.count;
  racing = h.racing;
}

its_on : (p q : PassState) (asked : Asked) (some : Option Engaged) → q.opening ≡ p.opening
    → ((cutoff : Option ℤ) → IsKnownBacked p cutoff → IsKnownBacked q cutoff)
    → IfSome some (IsOfDesk p asked) → IfSome some (IsOfDesk q asked)
its_on p q asked None same known h = tt
its_on p q asked (Some e) same known h = of_desk_on p q asked e same known h

pub stay_seated : (d : Desk) (p q : PassState) (asked : Asked) (round_count : RoundCount) (some : Option Engaged)
    → HasStayed p q → IsSeated d p asked round_count some → IsSeated d q asked round_count some
stay_seated d p q asked round_count some stayed s = record {
  lock = stayed.lock ∙ s.lock;
  trace = stayed.trace round_count some s.trace;
  its = its_on p q asked some stayed.opening stayed.known s.its;
}

-- ---- a task

taken_of : (task : TaskState) (after : LockedState) (p q : PassState)
    → HasCalledAt (Some (taken (Ok (Work task)))) after p q
    → IsOfDesk q (record { count = 0; racing = true }) (taken_up task)
taken_of task after p q h =
    let step = called_step (taken (Ok (Work task))) after p q h in
    let is = step.1.answered.answer.given.task_is in
    record {
      problem = λ o opened. taken_problem task after p q o h (sym h.same.2 ∙ opened);
      gap = λ o opened. ap (λ (t : TaskState). t.gap) is
          ∙ ap (λ (s : Settings). s.gap)
          (called_same (Some (taken (Ok (Work task)))) after p q o h (sym h.same.2 ∙ opened)).settings;
      known = taken_known task after p q h;
      count = refl;
      racing = refl;
    }

abbrev begun_asked : Asked
begun_asked = record { count = 0; racing = true }

-- work was taken
busy_with : (d : Desk) (task : TaskState) (after : LockedState) (p q : PassState) (asked : Asked) (round_count : RoundCount)
    → HasCalledAt (Some (taken (Ok (Work task)))) after p q → IsSeated d p asked round_count None
    → IsSeated d q begun_asked (begun round_count) (Some (taken_up task))
busy_with d task after p q asked round_count h s = record {
  lock = h.same.0 ∙ s.lock;
  trace = come_called (taken (Ok (Work task))) after p q (Free round_count) (Busy (begun round_count) (taken_up task)) h
      refl (λ o past opened read. tt) s.trace;
  its = taken_of task after p q h;
}

pub seat_taken : (d : Desk) (took : Result Took Untaken) (p q : PassState) (asked : Asked) (round_count : RoundCount)
    → HasTakenIn took p q → IsSeated d p asked round_count None
    → IfOk took (HasTaken (IsSeated d q begun_asked) round_count (IsLeft d q))
seat_taken d (Ok (Work task)) p q asked round_count (after, h) s = record {
  now = taken_up task;
  at = busy_with d task after p q asked round_count h s;
  begun = record { its = refl; made = refl };
}
seat_taken d (Ok Wait) p q asked round_count (after, h) s = record {
  lock = h.same.0 ∙ s.lock;
  trace = come_called (taken (Ok Wait)) after p q (Free round_count) (Free round_count) h refl (λ o past opened read. tt) s.trace;
  its = tt;
}
seat_taken d (Ok Over) p q asked round_count (after, h) s = record {
  lock = h.same.0 ∙ s.lock;
  trace = come_called (taken (Ok Over)) after p q (Free round_count) Away h refl (λ o past opened read. tt) s.trace;
}
seat_taken d (Err end) p q asked round_count h s = tt

-- nothing was taken
untaken : (d : Desk) (end : Untaken) (after : LockedState) (p q : PassState) (asked : Asked) (round_count : RoundCount)
    → HasCalledAt (Some (taken (Err end))) after p q → IsSeated d p asked round_count None
    → Stands (IsSeated d q begun_asked)
untaken d end after p q asked round_count h s = (
  round_count,
  None,
  record {
    lock = h.same.0 ∙ s.lock;
    trace = come_called (taken (Err end)) after p q (Free round_count) (Free round_count) h refl (λ o past opened read. tt) s.trace;
    its = tt;
  },
)

-- if memory ran out for the task of what was taken, it is the worker's all the same
pub seat_untaken : (d : Desk) (took : Result Took Untaken) (p q : PassState) (asked : Asked) (round_count : RoundCount)
    → HasTakenIn took p q → IsSeated d p asked round_count None → OnErr took (Stands (IsSeated d q begun_asked))
seat_untaken d (Ok took) p q asked round_count h s = tt
seat_untaken d (Err (Deciding stood)) p q asked round_count (after, h) s =
    untaken d (Deciding stood) after p q asked round_count h s
seat_untaken d (Err Making) p q asked round_count (inl (after, h)) s = untaken d Making after p q asked round_count h s
seat_untaken d (Err Making) p q asked round_count (inr (task, (after, h))) s =
    (begun round_count, Some (taken_up task), busy_with d task after p q asked round_count h s)

-- what was asked still is
pub seat_looked : (d : Desk) (p : PassState) (asked : Asked) (round_count : RoundCount) (e : Engaged) (reply : Reply)
    → IsSeated d p asked round_count (Some e) → e.made ≡ 0
    → reply ≡ record { cutoff = None; collect = asked.count; stop = false; racing = asked.racing }
    → IsReplied (IsSeated d p asked round_count) e.task reply
seat_looked d p asked round_count e reply s made is =
    subst (IsReplied (IsSeated d p asked round_count) e.task) (sym is) (record {
      now = e;
      at = s;
      made = made;
      due = λ i. if s.its.racing i then 0 else s.its.count i;
      racing = s.its.racing;
      its = refl;
    })

-- a cutoff that was read
pub seat_read : (d : Desk) (found kept : Option ℤ) (p q : PassState) (asked : Asked) (round_count : RoundCount) (e : Engaged)
    → HasLooked found p q → IfSome kept (λ c. found ≡ Some c) → IsSeated d p asked round_count (Some e)
    → e.made ≡ 0 → IsSeated d q asked round_count (Some (under kept e))
seat_read d found kept p q asked round_count e h from s made = record {
  lock = ap (λ (k : PassState). k.lock) h.same ∙ s.lock;
  trace = come_read found kept p q round_count e h from made s.trace;
  its = record {
    problem = λ o opened. of_problem kept e.task ∙ s.its.problem o (sym (ap (λ (k : PassState). k.opening) h.same) ∙ opened);
    gap = λ o opened. of_gap kept e.task ∙ s.its.gap o (sym (ap (λ (k : PassState). k.opening) h.same) ∙ opened);
    known = known_under q kept e.task (known_still e.task.cutoff found p q h s.its.known)
        (known_kept found kept p q h from);
    count = s.its.count;
    racing = s.its.racing;
  };
}

-- ---- what steps leave of a task

-- behind quiet steps
quiet_of : (p : PassState) (asked : Asked) (e : Engaged) (task : TaskState) (count : ℕ) → IsSince e task count
    → IsOfDesk p asked e → IsOfDesk p asked (record e { task = task })
quiet_of p asked e task count since h =
    let same = quiet_same since.more e.task task since.quiet in record {
      problem = λ o opened. same.problem ∙ h.problem o opened;
      gap = λ o opened. same.gap ∙ h.gap o opened;
      known = subst (IsKnownBacked p) (sym same.cutoff) h.known;
      count = h.count;
      racing = h.racing;
    }

point_well : (round_count : RoundCount) (f : Engaged) (answer : Heard) → IsWellOffered answer
    → behind_point round_count f answer ≡ Busy round_count f
point_well round_count f Kept well = refl
point_well round_count f (NotBetter was given_) well = refl
point_well round_count f Stale well = absurd well
point_well round_count f Early well = absurd well
point_well round_count f (Broken first) well = absurd well
point_well round_count f InRace well = absurd well
point_well round_count f Again well = absurd well
point_well round_count f (Gap want got) well = absurd well
point_well round_count f (Outside column) well = absurd well
point_well round_count f (Unbacked cutoff incumbent) well = absurd well
point_well round_count f (Short said was) well = absurd well
point_well round_count f Memory well = absurd well

point_ill : (round_count : RoundCount) (f : Engaged) (answer : Heard) → ¬ IsWellOffered answer
    → behind_point round_count f answer ≡ Free round_count
point_ill round_count f Kept ill = absurd (ill tt)
point_ill round_count f (NotBetter was given_) ill = absurd (ill tt)
point_ill round_count f Stale ill = refl
point_ill round_count f Early ill = refl
point_ill round_count f (Broken first) ill = refl
point_ill round_count f InRace ill = refl
point_ill round_count f Again ill = refl
point_ill round_count f (Gap want got) ill = refl
point_ill round_count f (Outside column) ill = refl
point_ill round_count f (Unbacked cutoff incumbent) ill = refl
point_ill round_count f (Short said was) ill = refl
point_ill round_count f Memory ill = refl

-- the cutoff of a point of its own
own_known : (p q : PassState) (task : TaskState) (x : List ℤ) (answer : Heard) (after : LockedState)
    → HasCalledAt (Some (offered x answer)) after p q → IsWellOffered answer
    → ((o : Opening) → q.opening ≡ Some o → task.problem ≡ o.problem)
    → ((o : Opening) → q.opening ≡ Some o → task.gap ≡ o.settings.gap)
    → IsKnownBacked q (Some (cutoff_of task.problem task.gap x))
own_known p q task x answer after h well problem gap = λ o more s opened replays low.
    subst (λ (k : Instance). Backs s.book (Some (cutoff_of k task.gap x))) (sym (problem o opened))
    (subst (λ (k : ℤ). Backs s.book (Some (cutoff_of o.problem k x))) (sym (gap o opened))
    (offered_known x answer o after p q h well opened o more s opened replays low))

found_of : (p q : PassState) (asked : Asked) (e f : Engaged) (x : List ℤ) (answer : Heard) (after : LockedState)
    → HasCalledAt (Some (offered x answer)) after p q → IsWellOffered answer → IsFoundBy e x f
    → IsOfDesk p asked e → IsOfDesk q asked f
found_of p q asked e f x answer after h well found its =
    let same = quiet_same found.since.more e.task found.task found.since.quiet in
    let problem : (o : Opening) → q.opening ≡ Some o → found.task.problem ≡ o.problem =
    (λ o opened. same.problem ∙ its.problem o (sym h.same.2 ∙ opened)) in
    let gap : (o : Opening) → q.opening ≡ Some o → found.task.gap ≡ o.settings.gap =
    (λ o opened. same.gap ∙ its.gap o (sym h.same.2 ∙ opened)) in
    let is = found.found.same in
    record {
      problem = λ o opened. ap (λ (t : TaskState). t.problem) is ∙ problem o opened;
      gap = λ o opened. ap (λ (t : TaskState). t.gap) is ∙ gap o opened;
      known = subst (IsKnownBacked q) (sym (ap (λ (t : TaskState). t.cutoff) is))
          (own_known p q found.task x answer after h well problem gap);
      count = ap (λ (k : Engaged). k.asked) found.same ∙ its.count;
      racing = ap (λ (k : Engaged). k.racing) found.same ∙ its.racing;
    }

pub seat_found : (d : Desk) (x : List ℤ) (answer : Heard) (after : LockedState) (p q : PassState) (asked : Asked)
    (round_count : RoundCount) (e f : Engaged) → HasCalledAt (Some (offered x answer)) after p q → IsFoundBy e x f
    → IsSeated d p asked round_count (Some e) → IsWellOffered answer → IsSeated d q asked round_count (Some f)
seat_found d x answer after p q asked round_count e f h found s well = record {
  lock = h.same.0 ∙ s.lock;
  trace = subst (Reaches q) (point_well round_count f answer well)
      (come_called (offered x answer) after p q (Busy round_count e) (behind_point round_count f answer) h
      (f, found, refl) (λ o past opened read. tt) s.trace);
  its = found_of p q asked e f x answer after h well found s.its;
}

pub seat_dropped : (d : Desk) (x : List ℤ) (answer : Heard) (after : LockedState) (p q : PassState) (asked : Asked)
    (round_count : RoundCount) (e f : Engaged) → HasCalledAt (Some (offered x answer)) after p q → IsFoundBy e x f
    → IsSeated d p asked round_count (Some e) → ¬ IsWellOffered answer → IsSeated d q asked round_count None
seat_dropped d x answer after p q asked round_count e f h found s ill = record {
  lock = h.same.0 ∙ s.lock;
  trace = subst (Reaches q) (point_ill round_count f answer ill)
      (come_called (offered x answer) after p q (Busy round_count e) (behind_point round_count f answer) h
      (f, found, refl) (λ o past opened read. tt) s.trace);
  its = tt;
}

-- ---- a box

-- a box that is handed is as wide as the problem
hand_wide : (round_count : RoundCount) (e f : Engaged) (number : ℕ) (area : List Interval) → IsHandedBy round_count e number area f
    → length area ≡ length e.task.problem.columns
hand_wide round_count e f number area h =
    let same = quiet_same h.since.more e.task h.task h.since.quiet in
    (handed_below f.task h.task.handed area h.own h.handed.handed).width
    ∙ (length-map f.task.problem.columns bounds_of ∙ ap (λ (p : Instance). length p.columns)
    (ap (λ (t : TaskState). t.problem) h.handed.same ∙ same.problem))

handed_of : (p q : PassState) (count less : ℕ) (racing : Bool) (round_count : RoundCount) (e f : Engaged) (number : ℕ)
    (area : List Interval) → q.opening ≡ p.opening
    → ((cutoff : Option ℤ) → IsKnownBacked p cutoff → IsKnownBacked q cutoff)
    → IsHandedBy round_count e number area f → less ≡ count - 1
    → IsOfDesk p (record { count = count; racing = racing }) e
    → IsOfDesk q (record { count = less; racing = racing }) f
handed_of p q count less racing round_count e f number area same known h few its =
    let quiet = quiet_same h.since.more e.task h.task h.since.quiet in
    let is = h.handed.same in
    record {
      problem = λ o opened. ap (λ (t : TaskState). t.problem) is
          ∙ (quiet.problem ∙ its.problem o (sym same ∙ opened));
      gap = λ o opened. ap (λ (t : TaskState). t.gap) is ∙ (quiet.gap ∙ its.gap o (sym same ∙ opened));
      known = known f.task.cutoff (subst (IsKnownBacked p)
          (sym (ap (λ (t : TaskState). t.cutoff) is ∙ quiet.cutoff)) its.known);
      count = ap (λ (k : Engaged). k.asked) h.same ∙ (ap (λ (n : ℕ). n - 1) its.count ∙ sym few);
      racing = ap (λ (k : Engaged). k.racing) h.same ∙ its.racing;
    }

-- so it has an entry
hand_called : (number : ℕ) (area : List Interval) (answer : Heard) (p q : PassState) (round_count : RoundCount)
    (e f : Engaged) → HasHandedIn number area answer p q → IsHandedBy round_count e number area f
    → ((o : Opening) → p.opening ≡ Some o → e.task.problem ≡ o.problem)
    → (after : LockedState) × HasCalledAt (Some (handed number area answer)) after p q
hand_called number area answer p q round_count e f h handed_ problem =
    dite (ℕ_discrete (length area) (length h.after.now.book.problem.columns))
    (λ is. (h.after, h.wide is))
    (λ off.
    let no = h.other off in
    let opened = no.0.opened in
    absurd (off (hand_wide round_count e f number area handed_
    ∙ ap (λ (k : Instance). length k.columns)
    (problem h.after.opening opened ∙ sym (called_same None h.after p q h.after.opening no.0 opened).problem))))

pub seat_handed : (d : Desk) (number : ℕ) (area : List Interval) (answer : Heard) (p q : PassState)
    (count less : ℕ) (racing : Bool) (round_count : RoundCount) (e f : Engaged)
    → HasHandedIn number area answer p q → IsHandedBy round_count e number area f → less ≡ count - 1
    → IsSeated d p (record { count = count; racing = racing }) round_count (Some e)
    → IsSeated d q (record { count = less; racing = racing }) round_count (Some f)
seat_handed d number area answer p q count less racing round_count e f in_ handed_ few s =
    let (after, h) = hand_called number area answer p q round_count e f in_ handed_ s.its.problem in
    record {
      lock = h.same.0 ∙ s.lock;
      trace = come_called (handed number area answer) after p q (Busy round_count e) (Busy round_count f) h
          (f, handed_, refl) (λ o past opened read. tt) s.trace;
      its = handed_of p q count less racing round_count e f number area h.same.2
          (λ cutoff known. known_on (Some (handed number area answer)) after p q cutoff h known) handed_ few s.its;
    }

-- ---- the rest

replied_of : (count : ℕ) (floor : ℤ) (reply : Reply) (after : LockedState) (p q : PassState) (asked : Asked)
    (round_count : RoundCount) (e f : Engaged) → HasCalledAt (Some (stated count floor (Ok reply))) after p q
    → IsStatedBy round_count e count floor f → IsOfDesk p asked e
    → IsOfDesk q (record { count = reply.collect; racing = reply.racing }) (replied_to f reply)
replied_of count floor reply after p q asked round_count e f h stated_ its =
    let quiet = quiet_same stated_.since.more e.task stated_.task stated_.since.quiet in
    let is : f.task ≡ stated_.task = ap (λ (k : Engaged). k.task) stated_.same in
    record {
      problem = λ o opened. of_problem reply.cutoff f.task
          ∙ (ap (λ (t : TaskState). t.problem) is ∙ (quiet.problem ∙ its.problem o (sym h.same.2 ∙ opened)));
      gap = λ o opened. of_gap reply.cutoff f.task
          ∙ (ap (λ (t : TaskState). t.gap) is ∙ (quiet.gap ∙ its.gap o (sym h.same.2 ∙ opened)));
      known = known_under q reply.cutoff f.task
          (known_on (Some (stated count floor (Ok reply))) after p q f.task.cutoff h
          (subst (IsKnownBacked p) (sym (ap (λ (t : TaskState). t.cutoff) is ∙ quiet.cutoff)) its.known))
          (stated_known count floor reply after p q h);
      count = refl;
      racing = refl;
    }

stated_of : (p q : PassState) (asked : Asked) (round_count : RoundCount) (e f : Engaged) (count : ℕ) (floor : ℤ)
    → q.opening ≡ p.opening → ((cutoff : Option ℤ) → IsKnownBacked p cutoff → IsKnownBacked q cutoff)
    → IsStatedBy round_count e count floor f → IsOfDesk p asked e → IsOfDesk q asked f
stated_of p q asked round_count e f count floor same known stated_ its =
    let quiet = quiet_same stated_.since.more e.task stated_.task stated_.since.quiet in
    let is : f.task ≡ stated_.task = ap (λ (k : Engaged). k.task) stated_.same in
    record {
      problem = λ o opened. ap (λ (t : TaskState). t.problem) is ∙ (quiet.problem ∙ its.problem o (sym same ∙ opened));
      gap = λ o opened. ap (λ (t : TaskState). t.gap) is ∙ (quiet.gap ∙ its.gap o (sym same ∙ opened));
      known = known f.task.cutoff
          (subst (IsKnownBacked p) (sym (ap (λ (t : TaskState). t.cutoff) is ∙ quiet.cutoff)) its.known);
      count = ap (λ (k : Engaged). k.asked) stated_.same ∙ its.count;
      racing = ap (λ (k : Engaged). k.racing) stated_.same ∙ its.racing;
    }

-- the cutoff that is replied is at most what the pass knew
stated_line : (count : ℕ) (floor : ℤ) (reply : Reply) (after : LockedState) (p q : PassState)
    → HasCalledAt (Some (stated count floor (Ok reply))) after p q → IsLine p (stated count floor (Ok reply))
stated_line count floor reply after p q h o past opened read =
    let step = called_step (stated count floor (Ok reply)) after p q h in
    let same = called_same (Some (stated count floor (Ok reply))) after p q o h opened in
    let word : word_at (floor_of o.problem) reply.cutoff ≡ word_of after.now.book =
    ap (λ (k : Instance). word_at (floor_of k) reply.cutoff) (sym same.problem)
    ∙ ap (word_at (floor_of after.now.book.problem)) step.1.book.replied.cutoff in
    read_less o (word_at (floor_of o.problem) reply.cutoff) p.known past
    (no_higher word h.known h.lower) read

seat_replied : (stop : Bool) (d : Desk) (count : ℕ) (floor : ℤ) (reply : Reply) (after : LockedState)
    (p q s : PassState) (asked : Asked) (round_count : RoundCount) (e f : Engaged) → reply.stop ≡ stop
    → HasCalledAt (Some (stated count floor (Ok reply))) after p q → HasStayed q s → IsStatedBy round_count e count floor f
    → IsSeated d p asked round_count (Some e)
    → is_replied (IsSeated d s (record { count = reply.collect; racing = reply.racing }) (counted round_count)) stop
    f.task reply
seat_replied true d count floor reply after p q s asked round_count e f stops h stayed stated_ seated =
    stay_seated d q s (record { count = reply.collect; racing = reply.racing }) (counted round_count) None stayed
    (record {
      lock = h.same.0 ∙ seated.lock;
      trace = subst (Reaches q)
          (ap (λ (b : Bool). if b then Free (counted round_count) else Busy (counted round_count) (replied_to f reply)) stops)
          (come_called (stated count floor (Ok reply)) after p q (Busy round_count e) (behind_reply (counted round_count) f reply)
          h (f, stated_, refl) (stated_line count floor reply after p q h) seated.trace);
      its = tt;
    })
seat_replied false d count floor reply after p q s asked round_count e f stops h stayed stated_ seated = record {
  now = replied_to f reply;
  at = stay_seated d q s (record { count = reply.collect; racing = reply.racing }) (counted round_count)
      (Some (replied_to f reply)) stayed (record {
        lock = h.same.0 ∙ seated.lock;
        trace = subst (Reaches q)
            (ap (λ (b : Bool). if b then Free (counted round_count) else Busy (counted round_count) (replied_to f reply)) stops)
            (come_called (stated count floor (Ok reply)) after p q (Busy round_count e) (behind_reply (counted round_count) f reply)
            h (f, stated_, refl) (stated_line count floor reply after p q h) seated.trace);
        its = replied_of count floor reply after p q asked round_count e f h stated_ seated.its;
      });
  made = refl;
  due = refl;
  racing = refl;
  its = refl;
}

pub seat_answered : (d : Desk) (count : ℕ) (floor : ℤ) (reply : Result Reply Unfinished)
    (result : Result Reply AllocError) (after : LockedState) (p q s : PassState) (asked now : Asked) (round_count : RoundCount)
    (e f : Engaged) → IfOk reply (λ own. result ≡ Ok own) → OnErr reply (IsErr result)
    → IfOk reply (λ own. now ≡ record { count = own.collect; racing = own.racing })
    → HasCalledAt (Some (stated count floor reply)) after p q → HasStayed q s → IsStatedBy round_count e count floor f
    → IsSeated d p asked round_count (Some e)
    → IfOk result (IsReplied (IsSeated d s now (counted round_count)) f.task)
seat_answered d count floor (Ok reply) result after p q s asked now round_count e f own err is h stayed stated_ seated =
    subst (λ (r : Result Reply AllocError). IfOk r (IsReplied (IsSeated d s now (counted round_count)) f.task)) (sym own)
    (subst (λ (a : Asked). IsReplied (IsSeated d s a (counted round_count)) f.task reply) (sym is)
    (seat_replied reply.stop d count floor reply after p q s asked round_count e f refl h stayed stated_ seated))
seat_answered d count floor (Err end) (Ok reply) after p q s asked now round_count e f own err is h stayed stated_ seated =
    absurd (false≢true err)
seat_answered d count floor (Err end) (Err error) after p q s asked now round_count e f own err is h stayed stated_ seated = tt

pub seat_unanswered : (d : Desk) (count : ℕ) (floor : ℤ) (reply : Result Reply Unfinished)
    (result : Result Reply AllocError) (after : LockedState) (p q s : PassState) (asked now : Asked) (round_count : RoundCount)
    (e f : Engaged) → IfOk reply (λ own. result ≡ Ok own) → OnErr reply (now ≡ asked)
    → HasCalledAt (Some (stated count floor reply)) after p q → HasStayed q s → IsStatedBy round_count e count floor f
    → IsSeated d p asked round_count (Some e) → OnErr result (Stands (IsSeated d s now))
seat_unanswered d count floor (Ok reply) result after p q s asked now round_count e f own is h stayed stated_ seated =
    subst (λ (r : Result Reply AllocError). OnErr r (Stands (IsSeated d s now))) (sym own) tt
seat_unanswered d count floor (Err end) (Ok reply) after p q s asked now round_count e f own is h stayed stated_ seated = tt
seat_unanswered d count floor (Err end) (Err error) after p q s asked now round_count e f own is h stayed stated_ seated =
    subst (λ (a : Asked). Stands (IsSeated d s a)) (sym is) (
      round_count,
      Some f,
      stay_seated d q s asked round_count (Some f) stayed (record {
        lock = h.same.0 ∙ seated.lock;
        trace = come_called (stated count floor (Err end)) after p q (Busy round_count e) (Busy round_count f) h
            (f, stated_, refl) (λ o past opened read. tt) seated.trace;
        its = stated_of p q asked round_count e f count floor h.same.2
            (λ cutoff known. known_on (Some (stated count floor (Err end))) after p q cutoff h known) stated_ seated.its;
      }),
    )

-- ---- the end of a task, and of a worker

pub done_problem : (p : PassState) (asked : Asked) (e : Engaged) (task : TaskState) → IsDoneBy e task
    → IsOfDesk p asked e → IsItsProblem p task.problem
done_problem p asked e task done its =
    if_there p.opening (λ o. task.problem ≡ o.problem) (quiet_of p asked e task done.count done.since its).problem

pub done_known : (p : PassState) (asked : Asked) (e : Engaged) (task : TaskState) → IsDoneBy e task
    → IsOfDesk p asked e → IsKnownBacked p task.cutoff
done_known p asked e task done its = (quiet_of p asked e task done.count done.since its).known

pub seat_ended : (d : Desk) (task : TaskState) (answer : Heard) (p q : PassState) (asked : Asked) (round_count : RoundCount)
    (e : Engaged) → HasEndedIn task answer p q → IsDoneBy e task → IsSeated d p asked round_count (Some e)
    → IsSeated d q asked round_count None
seat_ended d task answer p q asked round_count e (inl (after, h)) done s = record {
  lock = h.same.0 ∙ s.lock;
  trace = come_called (ended task answer) after p q (Busy round_count e) (Free round_count) h (done, refl) (λ o past opened read. tt) s.trace;
  its = tt;
}
seat_ended d task answer p q asked round_count e (inr other) done s = record {
  lock = other.called.same.0 ∙ s.lock;
  trace = come_ended task answer p q (Busy round_count e) (Free round_count) other (done, refl) s.trace;
  its = tt;
}

leaves : (round_count : RoundCount) (some : Option Engaged) → NextState (stage_of round_count some) (Called left) Away
leaves round_count None = refl
leaves round_count (Some e) = refl

leaves_in_vain : (round_count : RoundCount) (some : Option Engaged) (history : List Entry)
    → NextState (stage_of round_count some) (LeftInVain history) Away
leaves_in_vain round_count None history = refl
leaves_in_vain round_count (Some e) history = refl

pub seat_gone : (d : Desk) (p q : PassState) (asked : Asked) (round_count : RoundCount) (some : Option Engaged)
    → HasLeft p q → IsSeated d p asked round_count some → IsLeft d q
seat_gone d p q asked round_count some (inl (after, h)) s = record {
  lock = h.same.0 ∙ s.lock;
  trace = come_called left after p q (stage_of round_count some) Away h (leaves round_count some) (λ o past opened read. tt) s.trace;
}
seat_gone d p q asked round_count some (inr gone) s = record {
  lock = gone.called.same.0 ∙ s.lock;
  trace = come_left p q (stage_of round_count some) Away gone (leaves_in_vain round_count some q.seen) s.trace;
}

-- a pass leaves at which nobody sits
pub away_gone : (p q : PassState) → HasLeft p q → Reaches p Away → Reaches q Away
away_gone p q (inl (after, h)) come = come_called left after p q Away Away h refl (λ o past opened read. tt) come
away_gone p q (inr gone) come = come_left p q Away Away gone refl come

pub gone_same : (p q : PassState) → HasLeft p q
    → (q.lock ≡ p.lock) × (q.rank ≡ p.rank) × (q.opening ≡ p.opening)
gone_same p q (inl (after, h)) = h.same
gone_same p q (inr gone) = gone.called.same

-- what follows in both cases follows
pub match_both : (b : Bool) (P Q A B : Type 0) → (P → A) → (Q → B) → MatchBool b P Q → MatchBool b A B
match_both true P Q A B f g h = f h
match_both false P Q A B f g h = g h
