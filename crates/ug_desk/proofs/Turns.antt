-- A call in a turn of the desk's lock.
use Rattle.std.proofs.Common.{◌≡◌, ◌≢◌, inl, inr, Bool, true, false, ℕ, ◌<◌, ◌≤◌, ◌++◌, append-nil, length, Option, Some, None, IfSome, refl, sym, ap, ◌∙◌, subst, arith}
use Rattle.std.specs.Prelude.{MatchBool}
use Rattle.std.proofs.lemmas.Bool.{false≢true}
use Rattle.std.proofs.lemmas.List.{length-replicate}
use Rattle.std.proofs.lemmas.Option.{none-some, same_Some}
use Rattle.atomic_table.specs.Seated.{TableId}
use Rattle.ug_ranks.specs.declared.state.State.TheVariants.{Absent}
use Rattle.ug_rules.specs.declared.heard.Heard.{Heard}
use Rattle.ug_rules.specs.declared.heard.Heard.TheVariants.{Stale}
use Rattle.ug_rules.specs.Hearing.{IsDoneDue}
use Rattle.ug_base.specs.Tasks.{TaskState}
use Rattle.ug_snapshot.specs.Moments.{IsImageOf}
use Rattle.ug_snapshot.specs.Snapshots.{SnapshotState}
use Rattle.ug_desk.specs.DeskStates.{DeskState}
use Rattle.ug_book.specs.declared.opening.Opening.{Opening}
use Rattle.ug_book.specs.Openings.{opening_book}
use Rattle.ug_turn.specs.Histories.{told}
use Rattle.ug_turn.proofs.Calling.{called}
use Rattle.ug_desk.specs.declared.locked_book.LockedBook.{LockedBook}
use Rattle.ug_desk.specs.Histories.{Call, Entry, copied, ended}
use Rattle.ug_desk.specs.Entries.{HasEnded, HasEntered, IsLocked, IsOfOther, IsReplayed, IsSnapshotOf, LockedState}
use Rattle.ug_desk.specs.Passes.{HasCalledAt, PassState, calls_of, entry_by, pass_seen}
use Rattle.ug_desk.specs.LockedBooks.{HasPut, HasTakenOut, Leads, MayPut, ViewState, on, opening_of, pass_by, word_on}
use Rattle.ug_desk.specs.Words.{word_of}
use Rattle.ug_desk.proofs.Entering.{replayed_more}
use Rattle.ug_desk.proofs.Falling.{step_falls}

-- the rank of a pass is one of its book's
pub rank_here : (rank : ℕ) (view : ViewState) (locked_book : LockedBook) → view.opening ≡ Some (opening_of locked_book)
    → IfSome view.opening (λ o. rank < o.settings.solvers) → IsLocked (on locked_book)
    → rank < length (on locked_book).now.book.ranks
rank_here rank view locked_book opened here locked =
    let few : rank < (opening_of locked_book).settings.solvers =
    subst (λ (o : Option Opening). IfSome o (λ k. rank < k.settings.solvers)) opened here in
    let wide : length (opening_book (opening_of locked_book)).ranks ≡ (opening_of locked_book).settings.solvers =
    length-replicate (opening_of locked_book).settings.solvers Absent in
    omega (arith, few, wide, locked.same.wide)

-- a task of the desk's problem is one of the book's
pub problem_out : (view : ViewState) (locked_book : LockedBook) (task : TaskState) (was : LockedState)
    → view.opening ≡ Some (opening_of locked_book) → IsLocked (on locked_book) → was ≡ on locked_book
    → IfSome view.opening (λ (o : Opening). task.problem ≡ o.problem) → task.problem ≡ was.now.book.problem
problem_out view locked_book task was opened locked lent is =
    let own : task.problem ≡ (opening_of locked_book).problem =
    subst (λ (o : Option Opening). IfSome o (λ (k : Opening). task.problem ≡ k.problem)) opened is in
    own ∙ (sym locked.same.problem ∙ ap (λ (l : LockedState). l.now.book.problem) (sym lent))

opened_mid : (old mid : ViewState) (before : LockedBook) → HasTakenOut old before mid
    → mid.opening ≡ Some (opening_of before)
opened_mid old mid before t = ap (λ (v : ViewState). v.opening) t.same ∙ t.opened

level_mid : (old mid : ViewState) (before : LockedBook) → HasTakenOut old before mid → mid.level ≡ word_on before
level_mid old mid before t = ap (λ (v : ViewState). v.level) t.same

pass_mid : (old mid : ViewState) (before : LockedBook) → HasTakenOut old before mid → mid.pass ≡ old.pass
pass_mid old mid before t = ap (λ (v : ViewState). v.pass) t.same

own_entry : (r pass : ℕ) (call : Call) (e : Entry) → pass ≡ r
    → Some (record { pass = r; call = call }) ≡ Some e → e.pass ≡ pass
own_entry r pass call e is same =
    ap (λ (k : Entry). k.pass) (sym (same_Some (record { pass = r; call = call }) e same)) ∙ sym is

-- what was called may go home, with its entry
pub may_put : (r : ℕ) (call : Call) (entry : Option Entry) (old mid : ViewState) (before after : LockedBook)
    (was : LockedState) → entry ≡ Some (record { pass = r; call = call }) → HasTakenOut old before mid
    → old.pass ≡ r → was ≡ on before → HasEntered r call was (on after) → MayPut mid after entry
may_put r call entry old mid before after was is t own lent called_ =
    let entered : HasEntered r call (on before) (on after) =
    subst (λ (l : LockedState). HasEntered r call l (on after)) lent called_ in
    subst (λ (e : Option Entry). MayPut mid after e) (sym is) (record {
      opened = opened_mid old mid before t ∙ ap (λ (o : Opening). Some o) (sym entered.opening);
      replayed = replayed_more (on before) (on after) mid.seen r call t.replayed entered;
      own = λ e same. own_entry r mid.pass call e (pass_mid old mid before t ∙ own) same;
      lower = subst (λ (n : ℕ). word_on after ≤ n) (sym (level_mid old mid before t))
          (step_falls r call (on before).now (on after).now entered.step);
    })

at_most_itself : (n : ℕ) → n ≤ n
at_most_itself n = omega arith

-- nothing was called
put_same : (entry : Option Entry) (old mid : ViewState) (before : LockedBook) → entry ≡ None
    → HasTakenOut old before mid → MayPut mid before entry
put_same entry old mid before is t =
    subst (λ (e : Option Entry). MayPut mid before e) (sym is) (record {
      opened = opened_mid old mid before t;
      replayed = subst (Leads before) (sym (append-nil mid.seen)) t.replayed;
      own = λ e same. absurd (none-some e same);
      lower = subst (λ (n : ℕ). word_on before ≤ n) (sym (level_mid old mid before t))
          (at_most_itself (word_on before));
    })

-- the value is as it was
pub may_put_none : (entry : Option Entry) (old mid : ViewState) (before after : LockedBook) → entry ≡ None
    → on after ≡ on before → HasTakenOut old before mid → MayPut mid after entry
may_put_none entry old mid before after is same t =
    let m = put_same entry old mid before is t in record {
      opened = m.opened ∙ ap (λ (l : LockedState). Some l.opening) (sym same);
      replayed = subst (λ (l : LockedState). IsReplayed l (mid.seen ++ told entry)) (sym same) m.replayed;
      own = m.own;
      lower = subst (λ (l : LockedState). word_of l.now.book ≤ mid.level) (sym same) m.lower;
    }

no_higher : {n w m b k : ℕ} → n ≡ w → w ≤ m → m ≡ b → b ≤ k → n ≤ k
no_higher e f g h = omega (arith, e, f, g, h)

-- what the call did for its pass
pub has_called : (call : Option Call) (entry : Option Entry) (r : ℕ) (lock old_lock : TableId) (p : PassState)
    (old mid new : ViewState) (before after : LockedBook) → entry ≡ entry_by r call
    → HasTakenOut old before mid → MayPut mid after entry → HasPut mid after entry new → old.pass ≡ r
    → pass_seen old_lock r old ≡ p → lock ≡ p.lock
    → HasCalledAt call (on after) p (pass_seen lock r new)
has_called call entry r lock old_lock p old mid new before after is t may put own shows its =
    let h = called opening_of Leads pass_by word_on old mid new before after entry t may put in
    let lock_same : lock ≡ old_lock = its ∙ sym (ap (λ (q : PassState). q.lock) shows) in
    subst (λ (q : PassState). HasCalledAt call (on after) q (pass_seen lock r new)) shows (record {
      between = h.between;
      seen = subst (λ (e : Option Entry). new.seen ≡ (old.seen ++ h.between) ++ told e) is h.seen;
      replayed = h.replayed;
      opened = sym (ap (λ (v : ViewState). v.opening) t.same) ∙ may.opened;
      mine = subst (λ (e : Option Entry). new.mine ≡ old.mine ++ told e) is h.mine;
      own = subst (λ (k : ℕ). calls_of k new.seen ≡ new.mine) (h.pass ∙ own) h.own;
      known = ap (λ (v : ViewState). v.known) put.view;
      lower = no_higher (ap (λ (v : ViewState). v.known) put.view) may.lower (level_mid old mid before t) t.lower;
      same = (lock_same, refl, h.opening);
    })

-- a call and its entry, from the value taken out to the value home again
pub called_home : (call : Call) (entry : Option Entry) (r : ℕ) (lock old_lock : TableId) (p : PassState)
    (old mid new : ViewState) (before after : LockedBook) (was : LockedState)
    → entry ≡ Some (record { pass = r; call = call }) → HasTakenOut old before mid → old.pass ≡ r
    → was ≡ on before → HasEntered r call was (on after)
    → HasPut mid after entry new → pass_seen old_lock r old ≡ p → lock ≡ p.lock
    → HasCalledAt (Some call) (on after) p (pass_seen lock r new)
called_home call entry r lock old_lock p old mid new before after was is t own lent entered put shows its =
    has_called (Some call) entry r lock old_lock p old mid new before after is t
    (may_put r call entry old mid before after was is t own lent entered) put own shows its

pub none_home : (entry : Option Entry) (r : ℕ) (lock old_lock : TableId) (p : PassState)
    (old mid new : ViewState) (before after : LockedBook) → entry ≡ None → HasTakenOut old before mid
    → old.pass ≡ r → on after ≡ on before → HasPut mid after entry new → pass_seen old_lock r old ≡ p
    → lock ≡ p.lock → HasCalledAt None (on after) p (pass_seen lock r new)
none_home entry r lock old_lock p old mid new before after is t own same put shows its =
    has_called None entry r lock old_lock p old mid new before after is t
    (may_put_none entry old mid before after is same t) put own shows its

-- ---- what has an entry, and what has none

-- the end of a task of the rank's ticket is never Stale
never_stale : (r : ℕ) (task : TaskState) (answer : Heard) (old new : LockedState) → answer ≡ Stale
    → HasEntered r (ended task answer) old new → ⊥
never_stale r task answer old new is e =
    subst (λ (a : Heard). IsDoneDue old.now.book e.step.book.found task.cutoff (length task.handed) a) is
    e.step.book.due

pub other_of : (r : ℕ) (task : TaskState) (answer : Heard) (old new : LockedState) → answer ≡ Stale
    → HasEnded r task answer old new → IsOfOther r task answer old new
other_of r task answer old new is (inl e) = absurd (never_stale r task answer old new is e)
other_of r task answer old new is (inr o) = o

pub entered_of : (r : ℕ) (task : TaskState) (answer : Heard) (old new : LockedState) → answer ≢ Stale
    → HasEnded r task answer old new → HasEntered r (ended task answer) old new
entered_of r task answer old new off (inl e) = e
entered_of r task answer old new off (inr o) = absurd (off o.stale)

pub if_alive : (alive : Bool) (A B : Type 0) → MatchBool alive A B → alive ≡ true → A
if_alive true A B m is = m
if_alive false A B m is = absurd (false≢true is)

pub if_dead : (alive : Bool) (A B : Type 0) → MatchBool alive A B → alive ≡ false → B
if_dead true A B m is = absurd (false≢true (sym is))
if_dead false A B m is = m

-- a snapshot is of what follows its entry
pub copy_behind : (r : ℕ) (s : SnapshotState) (old new : LockedState) (calls : ℕ) → IsSnapshotOf old calls s
    → HasEntered r copied old new → IsSnapshotOf new calls s
copy_behind r s old new calls h e = record {
  its_opening = h.its_opening ∙ sym e.opening;
  moment = subst (λ (d : DeskState). IsImageOf d.book 1 s.image) (sym e.step) h.moment;
  calls_are = h.calls_are;
}
