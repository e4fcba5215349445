-- That where no call of a crew of workers failed and memory was not wanting each action is quiet.
use Rattle.std.proofs.Common.{◌≡◌, ◌≢◌, inl, inr, ℕ, zero, suc, ◌-◌, ◌^◌, ◌<◌, ◌≤◌, true, false, List, [], ◌∷◌, ◌++◌, refl, sym, ap, subst, ◌∙◌, arith}
use Rattle.std.specs.Prelude.{Contains, slice_index_or, slice_set}
use Rattle.std.proofs.lemmas.Bool.{false≢true}
use Rattle.ug_io.specs.declared.crew.Exchange.{Exchange}
use Rattle.ug_io.specs.Outside.{Rose}
use Rattle.ug_frames.specs.declared.decoded.Decoded.TheVariants.{Bad}
use Rattle.ug_frames.specs.ReportFrames as reports
use Rattle.ug_frames.specs.Fronts.{IsDecoded}
use Rattle.ug_stream.specs.Streams.{Waiting, fed, first}
use Rattle.ug_rules.specs.declared.heard.Heard.TheVariants.{Memory}
use Rattle.ug_rules.specs.State.{BookState}
use Rattle.ug_coord.specs.Causes.{HasCause, HasDeadlyAnswer, IsEndOf}
use Rattle.ug_coord.specs.Actions.{Broke, Came, Cause, Closed, Decided, Action, NextState, Ended, Failed, Halted, IsCause, IsTrace, Launched, Lost, Nonsense, Passed}
use Rattle.ug_coord.specs.Actions.{Sent, SetUp, CoordinatorState, Took, Unclosed, Unfed, Unread, Unsent, Unwritten, stream_at}
use Rattle.ug_coord.specs.Actions.{Kept as Saved}
use Rattle.ug_coord.specs.Ends.{ranks_of}
use Rattle.ug_coord.specs.Coordinators.{Reaches, beginning}
use Rattle.ug_coord.proofs.Coursing.{trace_more}
use Rattle.ug_coord.proofs.Faults.{trace_up, faults_up}
use Rattle.ug_serve.specs.Worked.{AreAlwaysWorked}
use Rattle.ug_serve.proofs.Honesty.{nothing_in}
use Rattle.ug_serve.proofs.Told.{first_or}
use Rattle.ug_serve.proofs.Wires.{fed_fine}
use Rattle.ug_laws.specs.Calm.{IsCalmTrace}
use Rattle.ug_laws.specs.Workers.{IsUnused}
use Rattle.ug_laws.proofs.Readable.{never_bad}
use Rattle.ug_laws.proofs.Traffic.{IsRead, reports_from, traffic_is}
use Rattle.ug_laws.proofs.Worked.{none_read, none_waits, traffic}

-- with the action no call fails, no bytes are bad and memory is not wanting
abbrev pub IsQuietAction : Action → Type 0
IsQuietAction (Launched rank) = Unit {0}
IsQuietAction (SetUp rank bytes) = Unit {0}
IsQuietAction (Closed rank) = Unit {0}
IsQuietAction (Came rank bytes) = Unit {0}
IsQuietAction (Took rank report answer) = answer ≢ Memory
IsQuietAction (Lost rank cause) = ⊥
IsQuietAction Decided = Unit {0}
IsQuietAction (Sent rank order) = Unit {0}
IsQuietAction (Unsent rank order) = ⊥
IsQuietAction (Passed rank order) = Unit {0}
IsQuietAction Broke = ⊥
IsQuietAction (Unclosed rank) = ⊥
IsQuietAction (Halted steps) = ⊥
IsQuietAction (Unwritten rank order) = ⊥
IsQuietAction (Unfed rank bytes) = ⊥
IsQuietAction Unread = ⊥
IsQuietAction Saved = Unit {0}

abbrev pub AreQuiet : List Action → Type 0
AreQuiet actions = (action : Action) → Contains actions action → IsQuietAction action

-- ---- if memory ran out it is

wanted : (old new : CoordinatorState) → new.out_of_memory ≡ true → new.out_of_memory ≡ false → old.out_of_memory ≡ false
wanted old new is none = absurd (false≢true (sym none ∙ is))

wants_back : (old : CoordinatorState) (action : Action) (new : CoordinatorState) → NextState old action new → new.out_of_memory ≡ false
    → old.out_of_memory ≡ false
wants_back old (Launched rank) new does none = sym (ap (λ (s : CoordinatorState). s.out_of_memory) does.1) ∙ none
wants_back old (SetUp rank bytes) new does none = sym (ap (λ (s : CoordinatorState). s.out_of_memory) does.rest) ∙ none
wants_back old (Closed rank) new does none = sym (ap (λ (s : CoordinatorState). s.out_of_memory) does.rest) ∙ none
wants_back old (Came rank bytes) new does none = sym (ap (λ (s : CoordinatorState). s.out_of_memory) does.rest) ∙ none
wants_back old (Took rank report answer) new does none = does.out_of_memory.before none
wants_back old (Lost rank cause) new does none = sym does.out_of_memory ∙ none
wants_back old Decided new does none = sym (ap (λ (s : CoordinatorState). s.out_of_memory) does.rest) ∙ none
wants_back old (Sent rank order) new does none = sym (ap (λ (s : CoordinatorState). s.out_of_memory) does.rest) ∙ none
wants_back old (Unsent rank order) new does none = sym (ap (λ (s : CoordinatorState). s.out_of_memory) does.rest) ∙ none
wants_back old (Passed rank order) new does none = sym (ap (λ (s : CoordinatorState). s.out_of_memory) does.rest) ∙ none
wants_back old Broke new does none = sym (ap (λ (s : CoordinatorState). s.out_of_memory) does.rest) ∙ none
wants_back old (Unclosed rank) new does none = sym (ap (λ (s : CoordinatorState). s.out_of_memory) does.rest) ∙ none
wants_back old (Halted steps) new does none = wanted old new (ap (λ (s : CoordinatorState). s.out_of_memory) does.rest) none
wants_back old (Unwritten rank order) new does none =
    wanted old new (ap (λ (s : CoordinatorState). s.out_of_memory) does.rest) none
wants_back old (Unfed rank bytes) new does none = wanted old new (ap (λ (s : CoordinatorState). s.out_of_memory) does.rest) none
wants_back old Unread new does none = wanted old new (ap (λ (s : CoordinatorState). s.out_of_memory) does.1) none
wants_back old Saved new does none = sym (ap (λ (s : CoordinatorState). s.out_of_memory) does.rest) ∙ none

trace_wants : (old : CoordinatorState) (actions : List Action) (new : CoordinatorState) → IsTrace old actions new → new.out_of_memory ≡ false
    → old.out_of_memory ≡ false
trace_wants old [] new same none = sym (ap (λ (s : CoordinatorState). s.out_of_memory) same) ∙ none
trace_wants old (action ∷ actions) new (mid, does, more) none =
    wants_back old action mid does (trace_wants mid actions new more none)

-- ---- what was so before each action

-- no turn failed, and no stream is shut or bad
record IsFine (s : CoordinatorState) : Type 0 where
  whole : s.link_failed ≡ false
  streams : (rank : ℕ) → (stream_at s rank).bad ≡ false

-- the bytes that wait of a rank can be read
abbrev IsReadable : CoordinatorState → Type 0
IsReadable s = (rank : ℕ) → IsDecoded reports.IsCarried reports.spelled (stream_at s rank).bytes Bad → ⊥

-- no fault came, and memory is not wanting
record IsCalmAction (old new : CoordinatorState) : Type 0 where
  small : old.faults < 2 ^ 64 - 1
  calm : new.faults ≤ old.faults
  memory : new.out_of_memory ≡ false

no_rise : (old new : ℕ) → old < 2 ^ 64 - 1 → new ≤ old → Rose old new → ⊥
no_rise old new small calm (inl less) = omega (arith, calm, less)
no_rise old new small calm (inr full) = omega (arith, small, full.0)

set_fine : (streams : List Waiting) (at : ℕ) (w : Waiting) (rank : ℕ) → w.bad ≡ false
    → (slice_index_or streams rank first).bad ≡ false → (slice_index_or (slice_set streams at w) rank first).bad ≡ false
set_fine [] at w rank fine was = was
set_fine (s ∷ streams) zero w zero fine was = fine
set_fine (s ∷ streams) zero w (suc rank) fine was = was
set_fine (s ∷ streams) (suc at) w zero fine was = was
set_fine (s ∷ streams) (suc at) w (suc rank) fine was = set_fine streams at w rank fine was

-- nothing came
still_fine : (old new : CoordinatorState) → new.link_failed ≡ old.link_failed → new.streams ≡ old.streams → IsFine old → IsFine new
still_fine old new link_failed streams fine = record {
  whole = link_failed ∙ fine.whole;
  streams = λ rank. ap (λ (l : List Waiting). (slice_index_or l rank first).bad) streams ∙ fine.streams rank;
}

-- a stream was set
set_still : (old new : CoordinatorState) (at : ℕ) (w : Waiting) → new.link_failed ≡ old.link_failed
    → new.streams ≡ slice_set old.streams at w → w.bad ≡ false → IsFine old → IsFine new
set_still old new at w link_failed streams good fine = record {
  whole = link_failed ∙ fine.whole;
  streams = λ rank. ap (λ (l : List Waiting). (slice_index_or l rank first).bad) streams
      ∙ set_fine old.streams at w rank good (fine.streams rank);
}

none_lost : (old new : CoordinatorState) (rank : ℕ) (cause : Cause) → IsCause old new rank cause → IsCalmAction old new
    → IsReadable old → IsFine old → ⊥
none_lost old new rank Ended is c readable fine = no_rise old.faults new.faults c.small c.calm is.faults
none_lost old new rank Failed is c readable fine = elim is.1 [
  | inl before ↦ false≢true (sym fine.whole ∙ before.0)
  | inr rose ↦ no_rise old.faults new.faults c.small c.calm rose
]
none_lost old new rank Nonsense is c readable fine = elim is.bad.bad [
  | inl before ↦ false≢true (sym (fine.streams rank) ∙ before)
  | inr bad ↦ readable rank bad
]

-- the action is quiet, and all is fine behind it
abbrev GoesOn : Action → CoordinatorState → Type 0
GoesOn action new = IsQuietAction action × IsFine new

goes_on : (old : CoordinatorState) (action : Action) (new : CoordinatorState) → NextState old action new → IsCalmAction old new
    → IsReadable old → IsFine old → GoesOn action new
goes_on old (Launched rank) new does c readable fine =
    (tt, still_fine old new (ap (λ (s : CoordinatorState). s.link_failed) does.1) (ap (λ (s : CoordinatorState). s.streams) does.1) fine)
goes_on old (SetUp rank bytes) new does c readable fine = (
  tt,
  still_fine old new (ap (λ (s : CoordinatorState). s.link_failed) does.rest) (ap (λ (s : CoordinatorState). s.streams) does.rest) fine,
)
goes_on old (Closed rank) new does c readable fine = (
  tt,
  still_fine old new (ap (λ (s : CoordinatorState). s.link_failed) does.rest) (ap (λ (s : CoordinatorState). s.streams) does.rest) fine,
)
goes_on old (Came rank bytes) new does c readable fine = (
  tt,
  set_still old new rank (fed (stream_at old rank) bytes) (ap (λ (s : CoordinatorState). s.link_failed) does.rest)
      (ap (λ (s : CoordinatorState). s.streams) does.rest) (fed_fine (stream_at old rank) bytes (fine.streams rank)) fine,
)
goes_on old (Took rank report answer) new does c readable fine = (
  does.out_of_memory.now c.memory,
  set_still old new rank does.stream (ap (λ (s : CoordinatorState). s.link_failed) does.rest)
      (ap (λ (s : CoordinatorState). s.streams) does.rest) does.given.still fine,
)
goes_on old (Lost rank cause) new does c readable fine =
    absurd (none_lost old new rank cause does.why c readable fine)
goes_on old Decided new does c readable fine = (
  tt,
  still_fine old new (ap (λ (s : CoordinatorState). s.link_failed) does.rest) (ap (λ (s : CoordinatorState). s.streams) does.rest) fine,
)
goes_on old (Sent rank order) new does c readable fine = (
  tt,
  still_fine old new (ap (λ (s : CoordinatorState). s.link_failed) does.rest) (ap (λ (s : CoordinatorState). s.streams) does.rest) fine,
)
goes_on old (Unsent rank order) new does c readable fine =
    absurd (no_rise old.faults new.faults c.small c.calm does.faults)
goes_on old (Passed rank order) new does c readable fine = (
  tt,
  still_fine old new (ap (λ (s : CoordinatorState). s.link_failed) does.rest) (ap (λ (s : CoordinatorState). s.streams) does.rest) fine,
)
goes_on old Broke new does c readable fine = absurd (no_rise old.faults new.faults c.small c.calm does.faults)
goes_on old (Unclosed rank) new does c readable fine =
    absurd (no_rise old.faults new.faults c.small c.calm does.faults)
goes_on old (Halted steps) new does c readable fine =
    absurd (false≢true (sym c.memory ∙ ap (λ (s : CoordinatorState). s.out_of_memory) does.rest))
goes_on old (Unwritten rank order) new does c readable fine =
    absurd (false≢true (sym c.memory ∙ ap (λ (s : CoordinatorState). s.out_of_memory) does.rest))
goes_on old (Unfed rank bytes) new does c readable fine =
    absurd (false≢true (sym c.memory ∙ ap (λ (s : CoordinatorState). s.out_of_memory) does.rest))
goes_on old Unread new does c readable fine =
    absurd (false≢true (sym c.memory ∙ ap (λ (s : CoordinatorState). s.out_of_memory) does.1))
goes_on old Saved new does c readable fine =
    (tt, still_fine old new (ap (λ (s : CoordinatorState). s.link_failed) does.rest) (ap (λ (s : CoordinatorState). s.streams) does.rest) fine)

-- ---- a trace

none_quiet : AreQuiet []
none_quiet action there = absurd (nothing_in action there)

quiet_more : (action : Action) (actions : List Action) → IsQuietAction action → AreQuiet actions → AreQuiet (action ∷ actions)
quiet_more action actions is all one there = elim (first_or action actions one there) [
  | inl same ↦ subst IsQuietAction same is
  | inr later ↦ all one later
]

module _ (b : BookState) (faults : ℕ) (unused : IsUnused b) (said : List Exchange)
    (worked : AreAlwaysWorked said) where
  readable : (done : List Action) (s : CoordinatorState) → IsTrace (beginning b faults) done s → (more : List Exchange)
      → said ≡ s.said ++ more → IsFine s → IsReadable s
  readable done s so more same fine rank bad =
      let read : IsRead rank s (reports_from rank done) =
      (traffic b faults unused done s so rank).read [] (none_read b faults rank) in
      never_bad s.said rank (reports_from rank done) read.rest (worked s.said more same rank) read.carried read.parts
      (subst (λ (bytes : List ℕ). IsDecoded reports.IsCarried reports.spelled bytes Bad)
      (sym (read.waits (fine.streams rank))) bad)

  all_quiet : (done : List Action) (old : CoordinatorState) (actions : List Action) (new : CoordinatorState)
      → IsTrace (beginning b faults) done old → IsTrace old actions new → said ≡ new.said
      → old.faults < 2 ^ 64 - 1 → new.faults ≤ old.faults → new.out_of_memory ≡ false → IsFine old → AreQuiet actions
  all_quiet done old [] new so same ends small calm memory fine = none_quiet
  all_quiet done old (action ∷ actions) new so (mid, does, rest) ends small calm memory fine =
      let so_far = trace_more (beginning b faults) done old mid action so does in
      let here = traffic b faults unused done old so 0 in
      let later = traffic_is old.book.settings.gap 0 old (action ∷ actions) new refl here.fit (mid, does, rest) in
      let up = faults_up old action mid does in
      let on = trace_up mid actions new rest in
      let goes = goes_on old action mid does
      (record {
        small = small;
        calm = omega (arith, on, calm);
        memory = trace_wants mid actions new rest memory;
      })
      (readable done old so later.more (ends ∙ later.grown) fine) fine in
      quiet_more action actions goes.0
      (all_quiet (done ++ action ∷ []) mid actions new so_far rest ends (omega (arith, small, on, calm))
      (omega (arith, up, calm)) memory goes.1)

-- what takes a rank for gone in a quiet action is an answer
by_answer : (rank : ℕ) (actions : List Action) (action : Action) → Contains actions action → IsEndOf rank action
    → IsQuietAction action → HasDeadlyAnswer rank actions
by_answer rank actions (Launched other) among ends quiet = absurd ends
by_answer rank actions (SetUp other bytes) among ends quiet = absurd ends
by_answer rank actions (Closed other) among ends quiet = absurd ends
by_answer rank actions (Came other bytes) among ends quiet = absurd ends
by_answer rank actions (Took other report answer) among ends quiet = record {
  report = report;
  answer = answer;
  among = subst (λ (r : ℕ). Contains actions (Took r report answer)) ends.0 among;
  deadly = ends.1;
}
by_answer rank actions (Lost other cause) among ends quiet = absurd quiet
by_answer rank actions Decided among ends quiet = absurd ends
by_answer rank actions (Sent other order) among ends quiet = absurd ends
by_answer rank actions (Unsent other order) among ends quiet = absurd quiet
by_answer rank actions (Passed other order) among ends quiet = absurd ends
by_answer rank actions Broke among ends quiet = absurd ends
by_answer rank actions (Unclosed other) among ends quiet = absurd ends
by_answer rank actions (Halted steps) among ends quiet = absurd ends
by_answer rank actions (Unwritten other order) among ends quiet = absurd ends
by_answer rank actions (Unfed other bytes) among ends quiet = absurd ends
by_answer rank actions Unread among ends quiet = absurd ends
by_answer rank actions Saved among ends quiet = absurd ends

fine_first : (b : BookState) (faults : ℕ) → IsFine (beginning b faults)
fine_first b faults = record {
  whole = refl;
  streams = λ rank. ap (λ (w : Waiting). w.bad) (none_waits (ranks_of b) rank);
}

pub trace_quiet : (b : BookState) (faults : ℕ) (now : CoordinatorState) (come : Reaches (beginning b faults) now)
    → IsCalmTrace b faults now → AreQuiet come.actions
trace_quiet b faults now come c =
    all_quiet b faults c.unused now.said c.worked [] (beginning b faults) come.actions now refl come.trace refl
    c.calm.small (omega (arith, c.calm.same)) c.memory (fine_first b faults)

pub answer_of_cause : (rank : ℕ) (actions : List Action) → AreQuiet actions → HasCause rank actions
    → HasDeadlyAnswer rank actions
answer_of_cause rank actions quiet cause =
    by_answer rank actions cause.action cause.among cause.ends (quiet cause.action cause.among)
