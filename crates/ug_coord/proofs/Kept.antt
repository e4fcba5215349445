-- How what is saved continues beside the actions.
use Rattle.std.proofs.Common.{◌≡◌, ℕ, ◌+◌, ◌≤◌, List, [], ◌∷◌, ◌++◌, length, Option, None, Some, IfSome, refl, sym, ap, subst, ◌∙◌, arith}
use Rattle.ug_disk.specs.Histories.{DiskSeen}
use Rattle.ug_rules.specs.State.{BookState}
use Rattle.ug_rules.specs.declared.settings.Settings.{Settings}
use Rattle.ug_rules.specs.Books.{IsSoundBook}
use Rattle.ug_book.specs.Openings.{opening_book}
use Rattle.ug_book.specs.Views.{IsSameRun}
use Rattle.ug_restart.specs.declared.saves.Saves.{Saves}
use Rattle.ug_restart.specs.Saves.{book_of}
use Rattle.ug_restart.specs.Going.{time}
use Rattle.ug_restart.proofs.Going.{goes_nowhere, goes_on, goes_where}
use Rattle.ug_coord.proofs.Coursing.{trace_more}
use Rattle.ug_coord.specs.Actions.{AreSound, Broke, Came, Closed, Decided, Action, NextState, Halted, IsTrace, Kept as Saved, Launched, Lost, Passed, Sent, SetUp, CoordinatorState, Took, Unclosed, Unfed, Unread, Unsent, Unwritten, saves_in, saves_of}
use Rattle.ug_coord.specs.declared.pacing.Pacing.{Pacing}
use Rattle.ug_coord.specs.Pacing.{IsSaveDue, is_due, saved_at}
use Rattle.ug_coord.proofs.Tries.{tried_none, tried_on}
use Rattle.ug_coord.specs.Coordinators.{AnyPhase, EndsFrom, Reaches, HasKeptUp, CoordinatorSeen, IsKeptIn, IsOnIn, Phase, StaysSound, coordinator_state}
use Rattle.ug_coord.specs.Keeping.{HasTried, IsOurs, KeptSeen, Moves, moves}

-- ---- traces

abbrev trace_joined : (a : CoordinatorState) (actions : List Action) (b : CoordinatorState) (more : List Action) (c : CoordinatorState)
    → IsTrace a actions b → IsTrace b more c → IsTrace a (actions ++ more) c
trace_joined a [] b more c same then = subst (λ (s : CoordinatorState). IsTrace s more c) same then
trace_joined a (action ∷ actions) b more c (mid, does, rest) then =
    (mid, does, trace_joined mid actions b more c rest then)

-- a prefix of what is sound is
sound_first : (a : CoordinatorState) (more : List Action) (c : CoordinatorState) (trace : IsTrace a more c)
    → AreSound a more c trace → IsSoundBook a.book
sound_first a [] c trace sound = sound
sound_first a (action ∷ more) c (mid, does, rest) sound = sound.0

sound_front : (a : CoordinatorState) (actions : List Action) (b : CoordinatorState) (more : List Action) (c : CoordinatorState)
    → (one : IsTrace a actions b) → (two : IsTrace b more c)
    → AreSound a (actions ++ more) c (trace_joined a actions b more c one two) → AreSound a actions b one
sound_front a [] b more c one two sound = sound_first a more c (trace_joined a [] b more c one two) sound
sound_front a (action ∷ actions) b more c (mid, does, rest) two sound =
    (sound.0, sound_front mid actions b more c rest two sound.1)

pub sound_more : (a : CoordinatorState) (actions : List Action) (b c : CoordinatorState) (action : Action) (one : IsTrace a actions b)
    → (does : NextState b action c) → AreSound a (actions ++ action ∷ []) c (trace_more a actions b c action one does)
    → AreSound a actions b one
sound_more a [] b c action same does sound = sound.0
sound_more a (d ∷ actions) b c action (mid, done, rest) does sound =
    (sound.0, sound_more mid actions b c action rest does sound.1)

pub sound_last : (a : CoordinatorState) (actions : List Action) (b : CoordinatorState) (trace : IsTrace a actions b)
    → AreSound a actions b trace → IsSoundBook b.book
sound_last a [] b same sound = subst (λ (s : CoordinatorState). IsSoundBook s.book) (sym same) sound
sound_last a (action ∷ actions) b (mid, does, rest) sound = sound_last mid actions b rest sound.1

-- ---- the image saved

nowhere : (Covers Ours : Type 0) (saves : Option Saves) (disk : DiskSeen) → moves Covers Ours saves disk saves disk
nowhere Covers Ours None disk = refl
nowhere Covers Ours (Some saves) disk = goes_nowhere Covers Ours (time saves disk)

both_move : (Covers Ours : Type 0) (a b c : Option Saves) (x y z : DiskSeen) → moves Covers Ours a x b y
    → moves Covers Ours b y c z → moves Covers Ours a x c z
both_move Covers Ours None None None x y z one two = two ∙ one
both_move Covers Ours None None (Some c) x y z one two = absurd two
both_move Covers Ours None (Some b) c x y z one two = absurd one
both_move Covers Ours (Some a) None c x y z one two = absurd one
both_move Covers Ours (Some a) (Some b) None x y z one two = absurd two
both_move Covers Ours (Some a) (Some b) (Some c) x y z one two =
    goes_on Covers Ours (time a x) (time b y) (time c z) one two

pub where_moves : (P Q R S : Type 0) (a b : Option Saves) (x y : DiskSeen) → (Q → P) → (S → R)
    → moves P R a x b y → moves Q S a x b y
where_moves P Q R S None None x y covers ours one = one
where_moves P Q R S None (Some b) x y covers ours one = absurd one
where_moves P Q R S (Some a) None x y covers ours one = absurd one
where_moves P Q R S (Some a) (Some b) x y covers ours one =
    goes_where P Q R S (time a x) (time b y) covers ours one

pub moves_on : (P Q R S : Type 0) (old mid new : KeptSeen) → (Q → P) → (S → R) → Moves Q S old mid
    → Moves P R mid new → Moves Q S old new
moves_on P Q R S old mid new covers ours one two =
    both_move Q S old.saves mid.saves new.saves old.disk mid.disk new.disk one
    (where_moves P Q R S mid.saves new.saves mid.disk new.disk covers ours two)

-- ---- whose run it is

pub run_on : (a b c : BookState) → IsSameRun a b → IsSameRun b c → IsSameRun a c
run_on a b c one two = record {
  problem = two.problem ∙ one.problem;
  run = two.run ∙ one.run;
  settings = two.settings ∙ one.settings;
  wide = two.wide ∙ one.wide;
}

pub same_of : (a b : BookState) → b ≡ a → IsSameRun a b
same_of a b same = record {
  problem = ap (λ (k : BookState). k.problem) same;
  run = ap (λ (k : BookState). k.run) same;
  settings = ap (λ (k : BookState). k.settings) same;
  wide = ap (λ (k : BookState). length k.ranks) same;
}

-- and what is saved keeps up since the first
pub kept_up : (a b c : CoordinatorSeen) (k : KeptSeen) → IsSameRun a.book b.book → HasKeptUp b c k
    → HasKeptUp a c k
kept_up a b c k same kept =
    record {
      same = run_on a.book b.book c.book same kept.same;
      saved = kept.saved;
      kept = kept.kept;
    }

pub ours_same : (saves : Option Saves) (b c : BookState) → IsSameRun b c
    → IfSome saves (λ s. IsSameRun (book_of s) b) → IfSome saves (λ s. IsSameRun (book_of s) c)
ours_same None b c same ours = tt
ours_same (Some saves) b c same ours = run_on (book_of saves) b c ours same

ours_moved : (Covers Ours : Type 0) (a b : Option Saves) (x y : DiskSeen) (book : BookState)
    → moves Covers Ours a x b y → IfSome a (λ s. IsSameRun (book_of s) book)
    → IfSome b (λ s. IsSameRun (book_of s) book)
ours_moved Covers Ours a None x y book one ours = tt
ours_moved Covers Ours None (Some b) x y book one ours = absurd one
ours_moved Covers Ours (Some a) (Some b) x y book one ours =
    subst (λ (k : BookState). IsSameRun k book) (sym (ap opening_book one.opening)) ours

pub ours_on : (Covers Ours : Type 0) (old new : KeptSeen) (b c : BookState) → Moves Covers Ours old new
    → IsSameRun b c → IsOurs old b → IsOurs new c
ours_on Covers Ours old new b c one same ours =
    ours_same new.saves b c same (ours_moved Covers Ours old.saves new.saves old.disk new.disk b one ours)

-- ---- how many actions are saves

pub saves_joined : (actions more : List Action) → saves_in (actions ++ more) ≡ saves_in actions + saves_in more
saves_joined [] more = omega arith
saves_joined (action ∷ actions) more = omega (arith, saves_joined actions more)

-- with each save the count of reports that it was made at rises, and with no other action
action_saves : (old : CoordinatorState) (action : Action) (new : CoordinatorState) → NextState old action new
    → old.pacing.since + saves_of action ≤ new.pacing.since
action_saves old (Launched rank) new does = omega (arith, ap (λ (s : CoordinatorState). s.pacing.since) does.1)
action_saves old (SetUp rank bytes) new does = omega (arith, ap (λ (s : CoordinatorState). s.pacing.since) does.rest)
action_saves old (Closed rank) new does = omega (arith, ap (λ (s : CoordinatorState). s.pacing.since) does.rest)
action_saves old (Came rank bytes) new does = omega (arith, ap (λ (s : CoordinatorState). s.pacing.since) does.rest)
action_saves old (Took rank report answer) new does = omega (arith, ap (λ (s : CoordinatorState). s.pacing.since) does.rest)
action_saves old (Lost rank cause) new does = omega (arith, ap (λ (p : Pacing). p.since) does.pacing)
action_saves old Decided new does = omega (arith, ap (λ (s : CoordinatorState). s.pacing.since) does.rest)
action_saves old (Sent rank order) new does = omega (arith, ap (λ (s : CoordinatorState). s.pacing.since) does.rest)
action_saves old (Unsent rank order) new does = omega (arith, ap (λ (s : CoordinatorState). s.pacing.since) does.rest)
action_saves old (Passed rank order) new does = omega (arith, ap (λ (s : CoordinatorState). s.pacing.since) does.rest)
action_saves old Broke new does = omega (arith, ap (λ (s : CoordinatorState). s.pacing.since) does.rest)
action_saves old (Unclosed rank) new does = omega (arith, ap (λ (s : CoordinatorState). s.pacing.since) does.rest)
action_saves old (Halted steps) new does = omega (arith, ap (λ (s : CoordinatorState). s.pacing.since) does.rest)
action_saves old (Unwritten rank order) new does = omega (arith, ap (λ (s : CoordinatorState). s.pacing.since) does.rest)
action_saves old (Unfed rank bytes) new does = omega (arith, ap (λ (s : CoordinatorState). s.pacing.since) does.rest)
action_saves old Unread new does = omega (arith, ap (λ (s : CoordinatorState). s.pacing.since) does.1)
action_saves old Saved new does = omega (arith, ap (λ (s : CoordinatorState). s.pacing.since) does.rest, does.due.may.since)

trace_saves : (old : CoordinatorState) (actions : List Action) (new : CoordinatorState) → IsTrace old actions new
    → old.pacing.since + saves_in actions ≤ new.pacing.since
trace_saves old [] new same = omega (arith, ap (λ (s : CoordinatorState). s.pacing.since) same)
trace_saves old (action ∷ actions) new (mid, does, more) =
    omega (arith, action_saves old action mid does, trace_saves mid actions new more)

-- so where it is the same, nothing was saved
pub none_saved : (old : CoordinatorState) (actions : List Action) (new : CoordinatorState) → IsTrace old actions new
    → new.pacing ≡ old.pacing → saves_in actions ≡ 0
none_saved old actions new trace same =
    omega (arith, trace_saves old actions new trace, ap (λ (p : Pacing). p.since) same)

-- a save is not due where it was not, and no report was received
pub unsaved : (old new : BookState) (a b : Pacing) → new.settings ≡ old.settings → new.heard ≡ old.heard → b ≡ a
    → ¬ IsSaveDue a old → ¬ IsSaveDue b new
unsaved old new a b settings heard same none due = none (record {
  may = record {
    since = omega (arith, due.may.since, heard, ap (λ (p : Pacing). p.since) same);
    apart = omega (arith, due.may.apart, heard, ap (λ (p : Pacing). p.since) same, ap (λ (p : Pacing). p.apart) same);
  };
  due = ap (λ (n : ℕ). is_due old.settings.every n) (sym heard)
      ∙ ap (λ (s : Settings). is_due s.every new.heard) (sym settings) ∙ due.due;
})

-- nor right behind one
pub just_saved : (b : BookState) → ¬ IsSaveDue (saved_at b) b
just_saved b due = absurd (omega (arith, due.may.since))

pub tried_still : (old new : KeptSeen) (m n : ℕ) → n ≡ m → HasTried m old new → HasTried n old new
tried_still old new m n same tried = subst (λ (k : ℕ). HasTried k old new) (sym same) tried

-- ---- beside the actions

-- it may be said to begin where it stands
pub onto : (P : Phase → Type 0) (from : CoordinatorState) (h : CoordinatorSeen) → IsOnIn P from h
    → (mid : CoordinatorState) × (h.pacing ≡ mid.pacing) × IsOnIn P mid h
onto P from h (phase, is, on) = (
  coordinator_state on.said phase h,
  refl,
  (
    phase,
    is,
    record {
      said = on.said;
      come = record { actions = []; trace = refl };
      shown = on.shown;
      fit = on.fit;
    },
  ),
)

-- nothing was saved yet
pub kept_first : (P : Phase → Type 0) (from : CoordinatorState) (h : CoordinatorSeen) (k : KeptSeen) → h.pacing ≡ from.pacing
    → IsOnIn P from h → IsKeptIn P from h k k
kept_first P from h k same (phase, is, on) = record {
  phase = phase;
  is = is;
  on = on;
  moves = nowhere (StaysSound from (coordinator_state on.said phase h) on.come) (Unit {0}) k.saves k.disk;
  tried = tried_still k k 0 (saves_in on.come.actions)
      (none_saved from on.come.actions (coordinator_state on.said phase h) on.come.trace same) (tried_none k.saves);
}

pub is_on : (P : Phase → Type 0) (from : CoordinatorState) (h : CoordinatorSeen) (old new : KeptSeen) → IsKeptIn P from h old new
    → IsOnIn P from h
is_on P from h old new k = (k.phase, k.is, k.on)

pub any_kept : (P : Phase → Type 0) (from : CoordinatorState) (h : CoordinatorSeen) (old new : KeptSeen)
    → IsKeptIn P from h old new → IsKeptIn AnyPhase from h old new
any_kept P from h old new k = record { phase = k.phase; is = tt; on = k.on; moves = k.moves; tried = k.tried }

-- more was done, and nothing saved
pub keeps_on : (P Q : Phase → Type 0) (from : CoordinatorState) (h next : CoordinatorSeen) (old new : KeptSeen)
    → next.pacing ≡ h.pacing → ((mid : CoordinatorState) → IsOnIn P mid h → IsOnIn Q mid next) → IsKeptIn P from h old new
    → IsKeptIn Q from next old new
keeps_on P Q from h next old new same goes k =
    let mid : CoordinatorState = coordinator_state k.on.said k.phase h in
    let after = goes mid (
      k.phase,
      k.is,
      record {
        said = k.on.said;
        come = record { actions = []; trace = refl };
        shown = k.on.shown;
        fit = k.on.fit;
      },
    ) in
    let on = after.2 in
    let come : Reaches from (coordinator_state on.said after.0 next) = record {
      actions = k.on.come.actions ++ on.come.actions;
      trace = trace_joined from k.on.come.actions mid on.come.actions (coordinator_state on.said after.0 next)
          k.on.come.trace on.come.trace;
    } in
    record {
      phase = after.0;
      is = after.1;
      on = record { said = on.said; come = come; shown = on.shown; fit = on.fit };
      moves = where_moves (StaysSound from mid k.on.come) (StaysSound from (coordinator_state on.said after.0 next) come)
          (Unit {0}) (Unit {0}) old.saves new.saves old.disk new.disk
          (sound_front from k.on.come.actions mid on.come.actions (coordinator_state on.said after.0 next)
          k.on.come.trace on.come.trace) (λ ours. ours) k.moves;
      tried = tried_still old new (saves_in k.on.come.actions) (saves_in (k.on.come.actions ++ on.come.actions))
          (omega (
            arith,
            saves_joined k.on.come.actions on.come.actions,
            none_saved mid on.come.actions (coordinator_state on.said after.0 next) on.come.trace same,
          )) k.tried;
    }

-- the book was saved
pub keeps_saved : (P : Phase → Type 0) (from : CoordinatorState) (h : CoordinatorSeen) (old mid new : KeptSeen)
    → IsSaveDue h.pacing h.book → IsOurs mid h.book
    → Moves (IsSoundBook h.book) (IsOurs mid h.book) mid new → HasTried 1 mid new → IsKeptIn P from h old mid
    → IsKeptIn P from (record h { pacing = saved_at h.book }) old new
keeps_saved P from h old mid new due ours saved tried k =
    let now : CoordinatorState = coordinator_state k.on.said k.phase h in
    let next : CoordinatorSeen = record h { pacing = saved_at h.book } in
    let after : CoordinatorState = coordinator_state k.on.said k.phase next in
    let does : NextState now Saved after = record { due = due; rest = refl } in
    let come : Reaches from after = record {
      actions = k.on.come.actions ++ Saved ∷ [];
      trace = trace_more from k.on.come.actions now after Saved k.on.come.trace does;
    } in
    record {
      phase = k.phase;
      is = k.is;
      on = record {
        said = k.on.said;
        come = come;
        shown = k.on.shown;
        fit = record { lives = k.on.fit.lives; streams = k.on.fit.streams };
      };
      moves = moves_on (IsSoundBook h.book) (StaysSound from after come) (IsOurs mid h.book) (Unit {0}) old mid new
          (λ sound. sound_last from k.on.come.actions now k.on.come.trace
          (sound_more from k.on.come.actions now after Saved k.on.come.trace does sound)) (λ none. ours)
          (where_moves (StaysSound from now k.on.come) (StaysSound from after come) (Unit {0}) (Unit {0}) old.saves mid.saves
          old.disk mid.disk (sound_more from k.on.come.actions now after Saved k.on.come.trace does) (λ none. none) k.moves)
          saved;
      tried = tried_still old new (saves_in k.on.come.actions + 1) (saves_in (k.on.come.actions ++ Saved ∷ []))
          (saves_joined k.on.come.actions (Saved ∷ []))
          (tried_on (saves_in k.on.come.actions) 1 old.saves mid.saves new.saves k.tried tried);
    }

-- the image saved is still of the run
pub kept_ours : (P : Phase → Type 0) (from : CoordinatorState) (h : CoordinatorSeen) (old new : KeptSeen) (b c : BookState)
    → IsKeptIn P from h old new → IsSameRun b c → IsOurs old b → IsOurs new c
kept_ours P from h old new b c k same ours =
    ours_on (StaysSound from (coordinator_state k.on.said k.phase h) k.on.come) (Unit {0}) old new b c k.moves same ours

pub ends_ours : (from : CoordinatorState) (h : CoordinatorSeen) (old new : KeptSeen) (b c : BookState)
    → EndsFrom from h old new → IsSameRun b c → IsOurs old b → IsOurs new c
ends_ours from h old new b c e same ours =
    ours_on (StaysSound from e.now e.come) (Unit {0}) old new b c e.moves same ours
