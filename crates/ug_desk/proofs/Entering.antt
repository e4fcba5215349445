-- A history that is longer by one call.
use Rattle.std.proofs.Common.{◌≡◌, ◌≢◌, inl, inr, ℕ, ◌+◌, ◌-◌, ◌^◌, min, List, [], ◌∷◌, ◌++◌, length, refl, sym, ◌∙◌, ap, subst, arith}
use Rattle.std.proofs.lemmas.List.{length-append, length-set}
use Rattle.std.specs.Prelude.{ℤ, Result, Ok, Err, IfOk, IfErr, OnErr}
use Rattle.ug_nodes.specs.declared.name.Ticket.{Ticket}
use Rattle.ug_rules.specs.declared.heard.Heard.{Heard}
use Rattle.ug_rules.specs.declared.heard.Heard.TheVariants.{Kept}
use Rattle.ug_rules.specs.State.{BookState}
use Rattle.ug_rules.specs.Books.{IsSoundBook}
use Rattle.ug_book.specs.Views.{IsSameRun}
use Rattle.ug_stock.specs.declared.unfinished.Unfinished.{Unfinished}
use Rattle.ug_worker.specs.declared.took.Took.{Took}
use Rattle.ug_worker.specs.declared.took.Took.TheVariants.{Work, Wait, Over}
use Rattle.ug_worker.specs.declared.took.Untaken.{Untaken}
use Rattle.ug_worker.specs.declared.reply.Reply.{Reply}
use Rattle.ug_book.specs.Openings.{IsCoveredOpening, opening_book}
use Rattle.ug_desk.specs.DeskStates.{DeskState, opening_state, own_ticket}
use Rattle.ug_desk.specs.Takes.{HasAnswered, IsCutShort, tickets_after}
use Rattle.ug_desk.specs.Reports.{HasNotStated, HasOffered, HasStated}
use Rattle.ug_desk.specs.Histories.{Call, Entry, Replays, Step, offered, stated, taken}
use Rattle.ug_desk.specs.Entries.{HasEntered, IsLocked, IsReplayed, LockedState, one_more}
use Rattle.ug_desk.specs.Words.{word_of}
use Rattle.ug_desk.specs.declared.given.Given.{Given}
use Rattle.ug_desk.specs.Givens.{taken_by, took_of}
use Rattle.ug_desk.proofs.Incumbents.{OffersNone, kept_or_not, step_stays, unkept}
use Rattle.ug_desk.proofs.Falling.{word_stays}

replays_more : (old mid new : DeskState) (history : List Entry) (entry : Entry)
    → Replays old history mid → Step entry.pass entry.call mid new
    → Replays old (history ++ entry ∷ []) new
replays_more old mid new [] entry t s =
    (new, subst (λ k. Step entry.pass entry.call k new) t s, refl)
replays_more old mid new (first ∷ history) entry t s =
    (t.0, t.1, replays_more t.0 mid new history entry t.2 s)

count_more : (count length_ : ℕ) → count ≡ min length_ (2 ^ 64 - 1)
    → one_more count ≡ min (length_ + 1) (2 ^ 64 - 1)
count_more count length_ is = omega (arith, is)

-- what no call changes is changed by none of two
along : (a b c : BookState) → IsSameRun a b → IsSameRun b c → IsSameRun a c
along a b c s t = record {
  problem = t.problem ∙ s.problem;
  run = t.run ∙ s.run;
  settings = t.settings ∙ s.settings;
  wide = t.wide ∙ s.wide;
}

-- an entry more leads to what stands then
pub replayed_more : (old new : LockedState) (history : List Entry) (r : ℕ) (call : Call)
    → IsReplayed old history → HasEntered r call old new
    → IsReplayed new (history ++ record { pass = r; call = call } ∷ [])
replayed_more old new history r call l t =
    let entry : Entry = record { pass = r; call = call } in
    let longer : length (history ++ entry ∷ []) ≡ length history + 1 =
    length-append history (entry ∷ []) in
    record {
      replays = subst (λ o. Replays (opening_state o) (history ++ entry ∷ []) new.now) (sym t.opening)
          (replays_more _ old.now new.now history entry l.replays t.step);
      counted = t.count
          ∙ (count_more old.count (length history) l.counted
          ∙ ap (λ n. min n (2 ^ 64 - 1)) (sym longer));
    }

pub entered : (old new : LockedState) (r : ℕ) (call : Call) → IsLocked old
    → HasEntered r call old new → IsSameRun old.now.book new.now.book
    → (IsSoundBook old.now.book → IsSoundBook new.now.book)
    → length new.now.tickets ≡ length old.now.tickets → IsLocked new
entered old new r call l t same sound wide = record {
  history = l.history ++ record { pass = r; call = call } ∷ [];
  replayed = replayed_more old new l.history r call l.replayed t;
  same = subst (λ o. IsSameRun (opening_book o) new.now.book) (sym t.opening)
      (along _ old.now.book new.now.book l.same same);
  sound = λ covered. sound (l.sound (subst IsCoveredOpening t.opening covered));
  wide = wide ∙ (l.wide ∙ sym same.wide);
}

-- the word that is kept is that of what stands then, where no point was offered
pub word_after : (word r : ℕ) (call : Call) (old new : DeskState) → word ≡ word_of old.book
    → OffersNone call → Step r call old new → word ≡ word_of new.book
word_after word r call old new is none s =
    is ∙ sym (word_stays old.book new.book (step_stays r call old new none s))

-- if the book alone changed
pub entered_by : (l : LockedState) (b : BookState) (count r : ℕ) (call : Call) → IsLocked l
    → Step r call l.now (record { book = b; tickets = l.now.tickets }) → IsSameRun l.now.book b
    → (IsSoundBook l.now.book → IsSoundBook b) → count ≡ one_more l.count
    → IsLocked (record {
      opening = l.opening;
      now = record { book = b; tickets = l.now.tickets };
      count = count;
    })
entered_by l b count r call is step same sound counted =
    entered l _ r call is (record { step = step; opening = refl; count = counted }) same sound refl

-- and no point was offered: the word that is kept is still that of the cutoff
pub entered_none : (l : LockedState) (b : BookState) (count r word : ℕ) (call : Call)
    → IsLocked l × (word ≡ word_of l.now.book)
    → Step r call l.now (record { book = b; tickets = l.now.tickets }) → IsSameRun l.now.book b
    → (IsSoundBook l.now.book → IsSoundBook b) → count ≡ one_more l.count → OffersNone call
    → IsLocked (record {
      opening = l.opening;
      now = record { book = b; tickets = l.now.tickets };
      count = count;
    }) × (word ≡ word_of b)
entered_none l b count r word call is step same sound counted none = (
  entered_by l b count r call is.0 step same sound counted,
  word_after word r call l.now _ is.1 none step,
)

-- a point was offered: the word that is kept is that of the cutoff behind it
pub entered_point : (l : LockedState) (b : BookState) (count r word was : ℕ) (x : List ℤ) (answer : Heard)
    → IsLocked l × (was ≡ word_of l.now.book)
    → HasOffered r (own_ticket l.now r) x answer l.now.book b → IsSameRun l.now.book b
    → (IsSoundBook l.now.book → IsSoundBook b) → count ≡ one_more l.count
    → (answer ≡ Kept → word ≡ word_of b) → (answer ≢ Kept → word ≡ was)
    → IsLocked (record {
      opening = l.opening;
      now = record { book = b; tickets = l.now.tickets };
      count = count;
    }) × (word ≡ word_of b)
entered_point l b count r word was x answer is step same sound counted kept other = (
  entered_by l b count r (offered x answer) is.0 (record { book = step; tickets = refl }) same sound counted,
  elim (kept_or_not answer) [
    | inl one ↦ kept one
    | inr two ↦ other two ∙ (is.1 ∙ sym (word_stays l.now.book b
        (unkept r (own_ticket l.now r) x answer l.now.book b two step)))
  ],
)

-- a step by the answer of the call
pub stated_step : (result : Result Reply Unfinished) (r left : ℕ) (floor : ℤ) (s : DeskState)
    (b : BookState)
    → IfOk result (λ reply. HasStated r (own_ticket s r) left floor reply s.book b)
    → IfErr result (λ (e : Unfinished). HasNotStated r (own_ticket s r) left floor e.stood s.book b)
    → Step r (stated left floor result) s (record { book = b; tickets = s.tickets })
stated_step (Ok reply) r left floor s b ok err = record { book = ok; tickets = refl }
stated_step (Err e) r left floor s b ok err = record { book = err; tickets = refl }

pub given_step : (result : Result Given Untaken) (r : ℕ) (s : DeskState) (b : BookState)
    (tickets : List Ticket) → IfOk result (λ given_. HasAnswered r (took_of given_) s.book b)
    → IfErr result (λ end. IsCutShort r end s.book b)
    → IfOk result (λ given_. tickets ≡ tickets_after (took_of given_) r s.tickets)
    → OnErr result (tickets ≡ s.tickets)
    → Step r (taken (taken_by result)) s (record { book = b; tickets = tickets })
given_step (Ok given_) r s b tickets ok err changed same = record { answered = ok; tickets = changed }
given_step (Err e) r s b tickets ok err changed same = record { book = err; tickets = same }

wide_after : (took : Took) (r : ℕ) (tickets : List Ticket)
    → length (tickets_after took r tickets) ≡ length tickets
wide_after (Work task) r tickets = length-set tickets r task.ticket
wide_after Wait r tickets = refl
wide_after Over r tickets = refl

-- there are as many tickets as before
pub given_wide : (result : Result Given Untaken) (r : ℕ) (old new : List Ticket)
    → IfOk result (λ given_. new ≡ tickets_after (took_of given_) r old) → OnErr result (new ≡ old)
    → length new ≡ length old
given_wide (Ok given_) r old new changed same =
    ap (λ (ts : List Ticket). length ts) changed ∙ wide_after (took_of given_) r old
given_wide (Err e) r old new changed same = ap (λ (ts : List Ticket). length ts) same

-- the same, where ticket and floor are known by other names
pub stated_by : (result : Result Reply Unfinished) (r left : ℕ) (z floor : ℤ) (s : DeskState)
    (ticket : Ticket) (b : BookState) → ticket ≡ own_ticket s r → z ≡ floor
    → IfOk result (λ reply. HasStated r ticket left z reply s.book b)
    → IfErr result (λ (e : Unfinished). HasNotStated r ticket left z e.stood s.book b)
    → Step r (stated left floor result) s (record { book = b; tickets = s.tickets })
stated_by result r left z floor s ticket b its is ok err =
    stated_step result r left floor s b
    (subst (λ k. IfOk result (λ reply. HasStated r k left floor reply s.book b)) its
    (subst (λ z. IfOk result (λ reply. HasStated r ticket left z reply s.book b)) is ok))
    (subst
    (λ k. IfErr result (λ (e : Unfinished). HasNotStated r k left floor e.stood s.book b)) its
    (subst
    (λ z. IfErr result (λ (e : Unfinished). HasNotStated r ticket left z e.stood s.book b)) is err))
