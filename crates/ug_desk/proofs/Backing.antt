-- A cutoff that the incumbent backs is backed at each later turn, since no call raises the
-- incumbent's.
use Rattle.std.proofs.Common.{◌≡◌, inl, inr, ℕ, ℤ, ◌<◌, ◌≤◌, min, List, [], ◌∷◌, ◌++◌, length, true, false, Option, Some, None, Ok, IfSome, refl, sym, ap, ◌∙◌, subst, append_assoc, arith}
use Rattle.std.specs.Prelude.{pos, ◌+ℤ◌, ◌-ℤ◌, ◌≤ℤ◌, ◌<ℤ◌, nat_eq, unsigned_abs, if◌then◌else◌}
use Rattle.std.specs.Int.{int_max}
use Rattle.std.proofs.lemmas.Int.{ints}
use Rattle.std.proofs.lemmas.Option.{none-some, same_Some}
use Rattle.atomic_table.specs.Seated.{TableId}
use Rattle.ug_rows.specs.Rows.{value_of}
use Rattle.ug_problem.specs.Better.{best_cutoff, cutoff_of}
use Rattle.ug_problem.specs.Instances.{Instance}
use Rattle.ug_problem.specs.Offers.{IsBetter, IsNotBetter}
use Rattle.ug_base.specs.Tasks.{TaskState, lesser_of}
use Rattle.ug_base.proofs.Floors.{lesser_is}
use Rattle.ug_ledger.specs.Dones.{IsBackedBy}
use Rattle.ug_rules.specs.declared.heard.Heard.{Heard}
use Rattle.ug_rules.specs.declared.heard.Heard.TheVariants.{Kept, Stale, Early, Broken, NotBetter, InRace, Again, Gap, Outside, Unbacked, Short, Memory}
use Rattle.ug_ranks.specs.States.{state_at}
use Rattle.ug_rules.specs.declared.settings.Settings.{Settings}
use Rattle.ug_rules.specs.Hearing.{IsDoneDue}
use Rattle.ug_rules.specs.State.{BookState, cutoff_of_best}
use Rattle.ug_worker.specs.declared.reply.Reply.{Reply}
use Rattle.ug_worker.specs.declared.took.Took.TheVariants.{Work}
use Rattle.ug_book.specs.declared.opening.Opening.{Opening}
use Rattle.ug_book.specs.Openings.{opening_book}
use Rattle.ug_desk.specs.declared.locked_book.LockedBook.{LockedBook}
use Rattle.ug_desk.specs.DeskStates.{DeskState, opening_state, own_ticket}
use Rattle.ug_desk.specs.Entries.{HasEnded, LockedState}
use Rattle.ug_desk.specs.Histories.{Call, Entry, Replays, Step, offered, stated, taken}
use Rattle.ug_desk.specs.Passes.{HasCalledAt, HasLooked, IsItsProblem, PassState, entry_by, pass_seen}
use Rattle.ug_desk.specs.LockedBooks.{HasTakenOut, ViewState, on, opening_of}
use Rattle.ug_desk.specs.Backing.{Backs, IsKnownBacked, IsUnbackedAnswer, IsWellOffered}
use Rattle.ug_desk.specs.Words.{cutoff_at, floor_of, no_word, word_at}
use Rattle.ug_turn.specs.Histories.{told}
use Rattle.ug_desk.proofs.Incumbents.{Aim, kept_improves, not_better_due, unkept}
use Rattle.ug_desk.proofs.Falling.{Aims, max_is, step_aims}

-- ---- histories one after another

pub replays_parts : (old new : DeskState) (first rest : List Entry) → Replays old (first ++ rest) new
    → (mid : DeskState) × Replays old first mid × Replays mid rest new
replays_parts old new [] rest h = (old, refl, h)
replays_parts old new (entry ∷ first) rest h =
    let (mid, one, two) = replays_parts h.0 new first rest h.2 in (mid, (h.0, h.1, one), two)

-- the last call of a history
pub last_call : (old new : DeskState) (first : List Entry) (entry : Entry)
    → Replays old (first ++ entry ∷ []) new
    → (mid : DeskState) × Step entry.pass entry.call mid new
last_call old new first entry h =
    let (mid, one, two) = replays_parts old new first (entry ∷ []) h in
    (mid, subst (λ (s : DeskState). Step entry.pass entry.call mid s) (sym two.2) two.1)

-- ---- what backs

lower_cutoff : (a b gap low : ℤ) → a ≤ℤ b → int_max (a -ℤ gap) low ≤ℤ int_max (b -ℤ gap) low
lower_cutoff a b gap low less = elim (max_is (a -ℤ gap) low) [
  | inl m ↦ elim (max_is (b -ℤ gap) low) [
    | inl n ↦ let e = m.0 in let f = n.0 in rw (e, f) (omega (arith, ints, less))
    | inr n ↦ let e = m.0 in let f = n.0 in rw (e, f) (omega (arith, ints, n.1, less))
  ]
  | inr m ↦ elim (max_is (b -ℤ gap) low) [
    | inl n ↦ let e = m.0 in let f = n.0 in rw (e, f) n.1
    | inr n ↦ let e = m.0 in let f = n.0 in rw (e, f) (omega (arith, ints))
  ]
]

less_is_most : (a b : ℤ) → a <ℤ b → a ≤ℤ b
less_is_most a b less = omega (arith, ints, less)

at_most_then : (a b c : ℤ) → a ≤ℤ b → b ≤ℤ c → a ≤ℤ c
at_most_then a b c f g = omega (arith, ints, f, g)

-- a better incumbent backs what the one before did
better_backs : (p : Instance) (gap : ℤ) (best : Option (List ℤ)) (cutoff : Option ℤ) (x : List ℤ) → IsBetter p best x
    → IsBackedBy p gap best cutoff → IsBackedBy p gap (Some x) cutoff
better_backs p gap best None x better backed = tt
better_backs p gap None (Some c) x better backed = absurd backed
better_backs p gap (Some y) (Some c) x better backed =
    at_most_then (cutoff_of p gap x) (cutoff_of p gap y) c
    (lower_cutoff (value_of p.objective x) (value_of p.objective y) gap (floor_of p)
    (less_is_most (value_of p.objective x) (value_of p.objective y) better.less)) backed

abbrev backs_by : Option ℤ → Aim → Type 0
backs_by cutoff a = IsBackedBy a.problem a.settings.gap a.best cutoff

aims_back : (old new : BookState) (cutoff : Option ℤ) → Aims old new → Backs old cutoff → Backs new cutoff
aims_back old new cutoff (inl (x, h)) backed =
    subst (backs_by cutoff) (sym h.its)
    (better_backs old.problem old.settings.gap old.best cutoff x h.better backed)
aims_back old new cutoff (inr stays) backed = subst (backs_by cutoff) (sym stays) backed

pub replays_back : (old new : DeskState) (history : List Entry) (cutoff : Option ℤ)
    → Replays old history new → Backs old.book cutoff → Backs new.book cutoff
replays_back old new [] cutoff h backed =
    subst (λ (s : DeskState). Backs s.book cutoff) (sym h) backed
replays_back old new (entry ∷ history) cutoff h backed =
    replays_back h.0 new history cutoff h.2
    (aims_back old.book h.0.book cutoff (step_aims entry.pass entry.call old h.0 h.1) backed)

-- the larger of a and low is at most so far above low
above_most : (a low : ℤ) (word : ℕ) → min (unsigned_abs (int_max a low -ℤ low)) no_word ≤ word
    → word < no_word → int_max a low ≤ℤ (low +ℤ pos word)
above_most a low word few less = elim (max_is a low) [
  | inl m ↦ let e = m.0 in omega (arith, ints, few, less, m.1, e)
  | inr m ↦ let e = m.0 in omega (arith, ints, e)
]

below_greatest : (word : ℕ) → nat_eq word no_word ≡ false → word ≤ no_word → word < no_word
below_greatest word off small = grind (arith, off, small)

most_itself : (a : ℤ) → a ≤ℤ a
most_itself a = omega (arith, ints)

at_most_as : (a b c d : ℤ) → a ≡ b → b ≤ℤ c → c ≡ d → a ≤ℤ d
at_most_as a b c d e f g = omega (arith, ints, e, f, g)

not_kept : {was given_ : ℤ} → NotBetter was given_ ≡ Kept → ⊥
not_kept e = cc

-- a book backs its own cutoff
best_backs : (p : Instance) (gap : ℤ) (best : Option (List ℤ)) → IsBackedBy p gap best (best_cutoff p gap best)
best_backs p gap None = tt
best_backs p gap (Some x) = omega (arith, ints)

pub own_backs : (b : BookState) (cutoff : Option ℤ) → cutoff ≡ cutoff_of_best b → Backs b cutoff
own_backs b cutoff is =
    subst (Backs b) (sym is) (best_backs b.problem b.settings.gap b.best)

-- ---- what no call changes

pub record IsSameAim (old new : BookState) : Type 0 where
  pub problem : new.problem ≡ old.problem
  pub settings : new.settings ≡ old.settings

aims_same : (old new : BookState) → Aims old new → IsSameAim old new
aims_same old new (inl (x, h)) =
    record { problem = ap (λ (a : Aim). a.problem) h.its; settings = ap (λ (a : Aim). a.settings) h.its }
aims_same old new (inr stays) =
    record { problem = ap (λ (a : Aim). a.problem) stays; settings = ap (λ (a : Aim). a.settings) stays }

pub replays_same : (old new : DeskState) (history : List Entry) → Replays old history new
    → IsSameAim old.book new.book
replays_same old new [] h = record {
  problem = ap (λ (s : DeskState). s.book.problem) h;
  settings = ap (λ (s : DeskState). s.book.settings) h;
}
replays_same old new (entry ∷ history) h =
    let one = aims_same old.book h.0.book (step_aims entry.pass entry.call old h.0 h.1) in
    let two = replays_same h.0 new history h.2 in
    record { problem = two.problem ∙ one.problem; settings = two.settings ∙ one.settings }

-- ---- what a pass knows

joined : (a b c d : List Entry) → ((a ++ b) ++ c) ++ d ≡ a ++ (b ++ (c ++ d))
joined a b c d = append_assoc (a ++ b) c d ∙ append_assoc a b (c ++ d)

no_more : {w n m : ℕ} → w ≤ n → n ≤ m → w ≤ m
no_more f g = omega (arith, f, g)

-- it continues to know it behind a call
pub known_on : (call : Option Call) (after : LockedState) (p q : PassState) (cutoff : Option ℤ)
    → HasCalledAt call after p q → IsKnownBacked p cutoff → IsKnownBacked q cutoff
known_on call after p q cutoff h known o more s opened replays low =
    known o (h.between ++ (told (entry_by p.rank call) ++ more)) s (sym h.same.2 ∙ opened)
    (subst (λ (l : List Entry). Replays (opening_state o) l s)
    (ap (λ (l : List Entry). l ++ more) h.seen
    ∙ joined p.seen h.between (told (entry_by p.rank call)) more) replays)
    (no_more low h.lower)

-- what the book backs behind a call is known
pub known_by : (call : Call) (after : LockedState) (p q : PassState) (cutoff : Option ℤ)
    → HasCalledAt (Some call) after p q
    → ((o : Opening) (mid new : DeskState) → q.opening ≡ Some o → IsSameAim (opening_book o) new.book
    → Step p.rank call mid new → Backs new.book cutoff)
    → IsKnownBacked q cutoff
known_by call after p q cutoff h backs o more s opened replays low =
    let (mid, one, two) = replays_parts (opening_state o) s q.seen more replays in
    let same = replays_same (opening_state o) mid q.seen one in
    let entry : Entry = record { pass = p.rank; call = call } in
    let last = last_call (opening_state o) mid (p.seen ++ h.between) entry
    (subst (λ (l : List Entry). Replays (opening_state o) l mid) h.seen one) in
    replays_back mid s more cutoff two (backs o last.0 mid opened same last.1)

-- no cutoff is backed
pub known_none : (p : PassState) → IsKnownBacked p None
known_none p o more s opened replays low = tt

-- the smaller of two is
pub known_lesser : (p : PassState) (cutoff : Option ℤ) (c : ℤ) → IsKnownBacked p cutoff
    → IsKnownBacked p (Some c) → IsKnownBacked p (Some (lesser_of cutoff c))
known_lesser p None c one two = two
known_lesser p (Some a) c one two = elim (lesser_is a c) [
  | inl l ↦ subst (λ (k : ℤ). IsKnownBacked p (Some k)) (sym l.0) one
  | inr l ↦ subst (λ (k : ℤ). IsKnownBacked p (Some k)) (sym l.0) two
]

-- ---- a word that was read

-- a word below the greatest is the cutoff's, counted from the floor
said_backs : (p : Instance) (gap : ℤ) (best : Option (List ℤ)) (word : ℕ)
    → word_at (floor_of p) (best_cutoff p gap best) ≤ word → word < no_word
    → IsBackedBy p gap best (Some (floor_of p +ℤ pos word))
said_backs p gap None word low less = absurd (omega (arith, low, less))
said_backs p gap (Some x) word low less =
    above_most (value_of p.objective x -ℤ gap) (floor_of p) word low less

least_known : (cutoff : Option ℤ) (floor : ℤ) (word : ℕ) (q : PassState)
    → cutoff ≡ cutoff_at floor word → word ≤ no_word
    → (word < no_word → IsKnownBacked q (Some (floor +ℤ pos word))) → IsKnownBacked q cutoff
least_known cutoff floor word q is small known =
    subst (IsKnownBacked q) (sym is) (elim (nat_eq word no_word) as (λ v. nat_eq word no_word ≡ v
    → IsKnownBacked q (if v then None else Some (floor +ℤ pos word))) [
      | true ↦ λ e. known_none q
      | false ↦ λ e. known (below_greatest word e small)
    ] refl)

-- a cutoff that was read
pub known_read : (cutoff : Option ℤ) (p q : PassState) (o : Opening) → q.opening ≡ Some o
    → HasLooked cutoff p q → IsKnownBacked q cutoff
known_read cutoff p q o opened h =
    let its : cutoff ≡ cutoff_at (floor_of o.problem) q.known =
    subst (λ (k : Option Opening). IfSome k (λ o. cutoff ≡ cutoff_at (floor_of o.problem) q.known))
    (sym (ap (λ (k : PassState). k.opening) h.same) ∙ opened) h.its in
    least_known cutoff (floor_of o.problem) q.known q its h.small
    (λ less other more s also replays low.
    let same : o ≡ other = same_Some o other (sym opened ∙ also) in
    let problem : s.book.problem ≡ o.problem =
    (replays_same (opening_state other) s (q.seen ++ more) replays).problem
    ∙ ap (λ (k : Opening). k.problem) (sym same) in
    subst (λ (k : Instance). Backs s.book (Some (floor_of k +ℤ pos q.known))) problem
    (said_backs s.book.problem s.book.settings.gap s.book.best q.known low less))

pub looked_backed : (cutoff : Option ℤ) (p q : PassState) → HasLooked cutoff p q → IsKnownBacked q cutoff
looked_backed cutoff p q h = λ o more s opened replays low.
    known_read cutoff p q o opened h o more s opened replays low

-- and continues to be known where another is read
pub known_still : (cutoff other : Option ℤ) (p q : PassState) → HasLooked other p q
    → IsKnownBacked p cutoff → IsKnownBacked q cutoff
known_still cutoff other p q h known o more s opened replays low =
    known o more s (sym (ap (λ (k : PassState). k.opening) h.same) ∙ opened)
    (subst (λ (l : List Entry). Replays (opening_state o) (l ++ more) s)
    (ap (λ (k : PassState). k.seen) h.same) replays)
    (no_more low h.falls)

-- ---- what calls answer

-- ---- what a call leaves at the desk

-- the call was made on what stood, and led to what stands
pub called_step : (call : Call) (after : LockedState) (p q : PassState) → HasCalledAt (Some call) after p q
    → (mid : DeskState) × Step p.rank call mid after.now
called_step call after p q h =
    last_call (opening_state after.opening) after.now (p.seen ++ h.between) (record { pass = p.rank; call = call })
    (subst (λ (l : List Entry). Replays (opening_state after.opening) l after.now) h.seen h.replayed.replays)

-- problem and settings are the opening's
pub called_same : (call : Option Call) (after : LockedState) (p q : PassState) (o : Opening)
    → HasCalledAt call after p q → p.opening ≡ Some o → IsSameAim (opening_book o) after.now.book
called_same call after p q o h opened =
    subst (λ (k : Opening). IsSameAim (opening_book k) after.now.book)
    (same_Some after.opening o (sym h.opened ∙ opened))
    (replays_same (opening_state after.opening) after.now q.seen h.replayed.replays)

-- the problem of a task that was taken
pub taken_problem : (task : TaskState) (after : LockedState) (p q : PassState) (o : Opening)
    → HasCalledAt (Some (taken (Ok (Work task)))) after p q → p.opening ≡ Some o → task.problem ≡ o.problem
taken_problem task after p q o h opened =
    let step = called_step (taken (Ok (Work task))) after p q h in
    ap (λ (t : TaskState). t.problem) step.1.answered.answer.given.task_is
    ∙ (called_same (Some (taken (Ok (Work task)))) after p q o h opened).problem

pub if_there : {A : Type 0} (x : Option A) (P : A → Type 0) → ((a : A) → x ≡ Some a → P a) → IfSome x P
if_there None P each = tt
if_there (Some a) P each = each a refl

pub taken_its : (task : TaskState) (after : LockedState) (p q : PassState)
    → HasCalledAt (Some (taken (Ok (Work task)))) after p q → IsItsProblem q task.problem
taken_its task after p q h =
    if_there q.opening (λ o. task.problem ≡ o.problem)
    (λ o opened. taken_problem task after p q o h (sym h.same.2 ∙ opened))

-- the cutoff of a task that was taken
pub taken_known : (task : TaskState) (after : LockedState) (p q : PassState)
    → HasCalledAt (Some (taken (Ok (Work task)))) after p q → IsKnownBacked q task.cutoff
taken_known task after p q h =
    known_by (taken (Ok (Work task))) after p q task.cutoff h
    (λ o mid new opened same step. own_backs new.book task.cutoff
    (ap (λ (t : TaskState). t.cutoff) step.answered.answer.given.task_is))

-- the cutoff that was replied
pub stated_known : (left : ℕ) (floor : ℤ) (reply : Reply) (after : LockedState) (p q : PassState)
    → HasCalledAt (Some (stated left floor (Ok reply))) after p q → IsKnownBacked q reply.cutoff
stated_known left floor reply after p q h =
    known_by (stated left floor (Ok reply)) after p q reply.cutoff h
    (λ o mid new opened same step. own_backs new.book reply.cutoff step.book.replied.cutoff)

-- a point of one's own that is kept, or not better
abbrev backs_point : List ℤ → Aim → Type 0
backs_point x a =
    IsBackedBy a.problem a.settings.gap a.best (Some (cutoff_of a.problem a.settings.gap x))

not_better_backs : (p : Instance) (gap : ℤ) (best : Option (List ℤ)) (x : List ℤ) (was given_ : ℤ)
    → IsNotBetter p best x was given_ → IsBackedBy p gap best (Some (cutoff_of p gap x))
not_better_backs p gap None x was given_ h = absurd (none-some was h.kept_value)
not_better_backs p gap (Some y) x was given_ h =
    let kept = same_Some (value_of p.objective y) was h.kept_value in
    lower_cutoff (value_of p.objective y) (value_of p.objective x) gap (floor_of p)
    (at_most_as (value_of p.objective y) was given_ (value_of p.objective x) kept h.more h.given_value)

offered_backs : (r : ℕ) (x : List ℤ) (answer : Heard) (mid new : DeskState)
    → Step r (offered x answer) mid new → IsWellOffered answer
    → Backs new.book (Some (cutoff_of new.book.problem new.book.settings.gap x))
offered_backs r x Kept mid new step well =
    let h = kept_improves r (own_ticket mid r) x mid.book new.book step.book in
    subst (backs_point x) (sym h.its) (most_itself (cutoff_of mid.book.problem mid.book.settings.gap x))
offered_backs r x (NotBetter was given_) mid new step well =
    let stays = unkept r (own_ticket mid r) x (NotBetter was given_) mid.book new.book not_kept step.book in
    subst (backs_point x) (sym stays)
    (not_better_backs mid.book.problem mid.book.settings.gap mid.book.best x was given_
    (not_better_due mid.book (state_at mid.book.ranks r) (own_ticket mid r) x was given_ step.book.due))
offered_backs r x Stale mid new step well = absurd well
offered_backs r x Early mid new step well = absurd well
offered_backs r x (Broken first) mid new step well = absurd well
offered_backs r x InRace mid new step well = absurd well
offered_backs r x Again mid new step well = absurd well
offered_backs r x (Gap want got) mid new step well = absurd well
offered_backs r x (Outside column) mid new step well = absurd well
offered_backs r x (Unbacked cutoff incumbent) mid new step well = absurd well
offered_backs r x (Short said was) mid new step well = absurd well
offered_backs r x Memory mid new step well = absurd well

pub offered_known : (x : List ℤ) (answer : Heard) (o : Opening) (after : LockedState) (p q : PassState)
    → HasCalledAt (Some (offered x answer)) after p q → IsWellOffered answer → q.opening ≡ Some o
    → IsKnownBacked q (Some (cutoff_of o.problem o.settings.gap x))
offered_known x answer o after p q h well opened =
    known_by (offered x answer) after p q (Some (cutoff_of o.problem o.settings.gap x)) h
    (λ other mid new also same step.
    let is : other ≡ o = same_Some other o (sym also ∙ opened) in
    let problem : new.book.problem ≡ o.problem = same.problem ∙ ap (λ (k : Opening). k.problem) is in
    let settings : new.book.settings ≡ o.settings = same.settings ∙ ap (λ (k : Opening). k.settings) is in
    subst (λ (p : Instance). Backs new.book (Some (cutoff_of p o.settings.gap x))) problem
    (subst (λ (s : Settings). Backs new.book (Some (cutoff_of new.book.problem s.gap x))) settings
    (offered_backs p.rank x answer mid new step well)))

-- ---- if a turn comes

-- the book that was taken out backs what the pass knew
pub known_out : (lock : TableId) (rank : ℕ) (old mid : ViewState) (locked_book : LockedBook) (cutoff : Option ℤ)
    → HasTakenOut old locked_book mid → IsKnownBacked (pass_seen lock rank old) cutoff
    → Backs (on locked_book).now.book cutoff
known_out lock rank old mid locked_book cutoff t known =
    known (opening_of locked_book) t.begins.0 (on locked_book).now t.opened
    (subst (λ (l : List Entry). Replays (opening_state (opening_of locked_book)) l (on locked_book).now)
    (sym t.begins.1) t.replayed.replays)
    t.lower

-- so its Done is not unbacked
due_backed : (b : BookState) (found count : ℕ) (cutoff : Option ℤ) (answer : Heard)
    → IsDoneDue b found cutoff count answer → Backs b cutoff → IsUnbackedAnswer answer → ⊥
due_backed b found count cutoff (Unbacked told incumbent) due backed is = due.not_backed backed
due_backed b found count cutoff Kept due backed is = is
due_backed b found count cutoff (Short said was) due backed is = is
due_backed b found count cutoff Stale due backed is = is
due_backed b found count cutoff Early due backed is = is
due_backed b found count cutoff (Broken first) due backed is = is
due_backed b found count cutoff (NotBetter was given) due backed is = is
due_backed b found count cutoff InRace due backed is = is
due_backed b found count cutoff Again due backed is = is
due_backed b found count cutoff (Gap want got) due backed is = is
due_backed b found count cutoff (Outside column) due backed is = is
due_backed b found count cutoff Memory due backed is = is

pub stale_backed : (answer : Heard) → answer ≡ Stale → IsUnbackedAnswer answer → ⊥
stale_backed answer is unbacked = subst IsUnbackedAnswer is unbacked

pub done_backed : (r : ℕ) (task : TaskState) (answer : Heard) (old new : LockedState)
    → HasEnded r task answer old new → Backs old.now.book task.cutoff → IsUnbackedAnswer answer → ⊥
done_backed r task answer old new (inl e) backed is =
    due_backed old.now.book e.step.book.found (length task.handed) task.cutoff answer e.step.book.due backed is
done_backed r task answer old new (inr other) backed is = stale_backed answer other.stale is
