-- How a solve by a crew ends.
use Rattle.std.proofs.Common.{◌≡◌, ◌<◌, inl, inr, ℕ, Bool, false, [], arith, Option, None, Some, IfSome, refl, sym, ap, subst, ◌∙◌}
use Rattle.std.proofs.lemmas.Bool.{false≢true}
use Rattle.std.specs.Prelude.{IsSomeAnd}
use Rattle.ug_disk.specs.Histories.{DiskSeen}
use Rattle.ug_disk.specs.Crashes.{Leaves}
use Rattle.ug_io.specs.Crews.{CrewSeen}
use Rattle.ug_checkpoint.specs.declared.saver.Saver.{Saver}
use Rattle.ug_rules.specs.State.{BookState}
use Rattle.ug_rules.specs.Books.{IsBook, IsSoundBook}
use Rattle.ug_book.specs.declared.opening.Opening.{Opening}
use Rattle.ug_book.specs.Openings.{opening_book}
use Rattle.ug_book.specs.Views.{IsSameRun}
use Rattle.ug_restart.specs.declared.saves.Saves.{Saves}
use Rattle.ug_restart.specs.declared.outcome.End.{End}
use Rattle.ug_restart.specs.declared.outcome.End.TheVariants.{Answered, Limited, Memory, Stranded}
use Rattle.ug_restart.specs.declared.outcome.Outcome.{Outcome}
use Rattle.ug_restart.specs.Saves.{book_of, saver_of}
use Rattle.ug_restart.specs.Moments.{FindsIn, IsFoundNow, IsOfRun}
use Rattle.ug_restart.specs.Going.{time}
use Rattle.ug_restart.specs.Outcomes.{HasFeasible, IfAnswered, IfBook, IfLimited, IsLastSave, IsLimited, IsRight, IsSavedOrCounted}
use Rattle.ug_restart.proofs.Outcomes.{none_missed, saved_or_counted, still_covered, still_found, time_covered, time_found, time_missed}
use Rattle.ug_coord.specs.Actions.{CoordinatorState, saves_in}
use Rattle.ug_coord.specs.declared.pacing.Pacing.{Pacing}
use Rattle.ug_coord.specs.Pacing.{IsSaveDue}
use Rattle.ug_coord.specs.Ends.{IsAnswered, IsAtLimit, IsExactly, IsOver, IsStranded, is_ended, ranks_of}
use Rattle.ug_coord.specs.Causes.{IsShownGone}
use Rattle.ug_coord.specs.Coordinators.{EndsFrom, HasCoordinated, CoordinatorSeen, IsFresh, StartsAndEnds, StaysSound, beginning}
use Rattle.ug_coord.specs.Keeping.{Begins, HasConcluded, HasKept, AreEachSaved, IsBegun, IsEachSaved, IsKeptSafe, IsNothing, IsOurs, KeptSeen, Moves, end_kept, missed_by, moves, savers, unsaved_by}
use Rattle.ug_coord.proofs.Causes.{AreAlive, dead_has_cause}
use Rattle.ug_coord.proofs.Counts.{IsWithin, trace_within}
use Rattle.ug_coord.proofs.Faults.{dead_is_shown}
use Rattle.ug_coord.proofs.Kept.{moves_on, sound_last}
use Rattle.ug_coord.proofs.Starting.{none_lives}
use Rattle.ug_coord.proofs.Tries.{each_saved}

-- if an end is due for neither of the others, no rank is alive
pub stranded : (b : BookState) → ¬ IsAnswered b → b.heard < b.settings.limit → IsOver b
    → IsStranded b
stranded b held more (inl answered) = absurd (held answered)
stranded b held more (inr (inl spent)) = absurd (omega (arith, more, spent))
stranded b held more (inr (inr dead)) = record { held = held; more = more; dead = dead }

-- ---- memory ran out at once

pub safe_still : (saver : Option Saver) (disk : DiskSeen) → IsKeptSafe saver disk disk
safe_still None disk = tt
safe_still (Some saver) disk = λ now. still_covered saver disk.told disk.told refl now

ended_nothing : (end : End) (b : BookState) → end ≡ Memory → is_ended end b
ended_nothing end b is = subst (λ (e : End). is_ended e b) (sym is) tt

no_book : (P : BookState → Type 0) (end : End) → end ≡ Memory → IfBook end P
no_book P end is = subst (λ (e : End). IfBook e P) (sym is) tt

no_answer : (P : BookState → Type 0) (end : End) → end ≡ Memory → IfAnswered end P
no_answer P end is = subst (λ (e : End). IfAnswered e P) (sym is) tt

no_limit : (end : End) → end ≡ Memory → IfLimited end IsAtLimit
no_limit end is = subst (λ (e : End). IfLimited e IsAtLimit) (sym is) tt

each_nothing : (saver : Option Saver) (outcome : Outcome) (disk : DiskSeen) → IsNothing outcome
    → AreEachSaved saver outcome disk 0
each_nothing None outcome disk none = tt
each_nothing (Some saver) outcome disk none = no_book (IsEachSaved saver 0 outcome disk.told) outcome.end none.ended

pub nothing_coordinated : (b : BookState) (seen : CrewSeen) (saver : Option Saver) (outcome : Outcome)
    (disk : DiskSeen) → IsFresh seen (ranks_of b) → AreAlive b → IsNothing outcome
    → HasCoordinated b seen.faults seen outcome.end (AreEachSaved saver outcome disk) (IsKeptSafe saver disk disk)
nothing_coordinated b seen saver outcome disk fresh alive none = record {
  now = beginning b seen.faults;
  come = record { actions = []; trace = refl };
  made = inr refl;
  started = inr (refl, none.ended);
  shown = fresh.said;
  closed = λ rank alive. absurd (false≢true (sym (none_lives (ranks_of b) rank) ∙ alive));
  ended = ended_nothing outcome.end b none.ended;
  exact = no_book (IsExactly outcome.end) outcome.end none.ended;
  failed = refl;
  out_of_memory = no_book (λ book. false ≡ false) outcome.end none.ended;
  saved = no_book (λ book. ¬ IsSaveDue (record { since = b.heard; apart = 0 }) book) outcome.end none.ended;
  same = no_book (IsSameRun b) outcome.end none.ended;
  feasible = no_book HasFeasible outcome.end none.ended;
  limited = no_limit outcome.end none.ended;
  causes = λ rank there dead. absurd (false≢true (sym dead ∙ alive rank there));
  shows = λ rank there dead. absurd (false≢true (sym dead ∙ alive rank there));
  right = no_answer (λ book. IsSoundBook book → IsRight book) outcome.end none.ended;
  tried = each_nothing saver outcome disk none;
  safe = λ sound. safe_still saver disk;
}

saved_nothing : (saver : Option Saver) (outcome : Outcome) (disk : DiskSeen) → outcome.end ≡ Memory
    → IfSome saver (λ s. IsSavedOrCounted outcome disk.told)
saved_nothing None outcome disk is = tt
saved_nothing (Some saver) outcome disk is =
    subst (λ (e : End). IfBook e (λ b. IsSomeAnd outcome.last
    (IsLastSave outcome disk.told b))) (sym is) tt

found_nothing : (b : BookState) (saver : Option Saver) (disk : DiskSeen)
    → IfSome saver (λ s. IsFoundNow (IsOfRun b) s disk.told → Leaves (FindsIn (IsOfRun b)) disk.told disk.told)
found_nothing b None disk = tt
found_nothing b (Some saver) disk = λ now. still_found (IsOfRun b) saver disk.told disk.told refl now

pub nothing_kept : (b : BookState) (saver : Option Saver) (outcome : Outcome) (disk : DiskSeen)
    → IsNothing outcome → HasKept b saver outcome disk disk
nothing_kept b saver outcome disk none = record {
  untouched = λ no. record { told = refl; calm = refl; missed = none.missed; unsaved = none.unsaved };
  saved = saved_nothing saver outcome disk none.ended;
  found = found_nothing b saver disk;
  missed = none_missed outcome disk disk none.missed refl;
}

-- ---- the ending book

book_has : (P : BookState → Type 0) (end : End) (b : BookState) → is_ended end b → P b → IfBook end P
book_has P (Answered own) b is holds = subst P (sym is.0) holds
book_has P (Limited own) b is holds = subst P (sym is.0) holds
book_has P (Stranded own) b is holds = subst P (sym is.0) holds
book_has P Memory b is holds = tt

-- all that was saved
pub all_moved : (from : CoordinatorState) (h : CoordinatorSeen) (old mid : KeptSeen) (disk : DiskSeen)
    (outcome : Outcome) (e : EndsFrom from h old mid) → is_ended outcome.end h.book → IsOurs mid h.book
    → (c : HasConcluded outcome mid disk)
    → Moves (StaysSound from e.now e.come) (Unit {0}) old (record { saves = c.saves; disk = disk })
all_moved from h old mid disk outcome e is ours c =
    moves_on (IfBook outcome.end IsSoundBook) (StaysSound from e.now e.come) (IfBook outcome.end (IsOurs mid))
    (Unit {0}) old mid (record { saves = c.saves; disk = disk })
    (λ sound. book_has IsSoundBook outcome.end h.book is
    (subst IsSoundBook e.its (sound_last from e.come.actions e.now e.come.trace sound)))
    (λ none. book_has (IsOurs mid) outcome.end h.book is ours) e.moves c.moves

safe_moved : (Covers : Type 0) (a b : Option Saves) (x y : DiskSeen) → moves Covers (Unit {0}) a x b y → Covers
    → IsKeptSafe (savers a) x y
safe_moved Covers None b x y one covers = tt
safe_moved Covers (Some a) None x y one covers = absurd one
safe_moved Covers (Some a) (Some b) x y one covers = λ now.
    time_covered Covers (Unit {0}) a b x y one covers now

-- no more were received than may be
at_limit : (end : End) (b : BookState) → is_ended end b → IsWithin b → IfLimited end IsAtLimit
at_limit (Answered own) b is within = tt
at_limit (Limited own) b is within = subst IsAtLimit (sym is.0) (omega (arith, is.1.spent, within))
at_limit (Stranded own) b is within = tt
at_limit Memory b is within = tt

-- if it ended so, the other ends were not due
exactly_so : (end : End) (b : BookState) → is_ended end b → IfBook end (IsExactly end)
exactly_so (Answered own) b is = record {
  answered = λ so. refl;
  limited = λ limited. absurd (limited.held (subst IsAnswered (sym is.0) is.1));
  stranded = λ stranded. absurd (stranded.held (subst IsAnswered (sym is.0) is.1));
}
exactly_so (Limited own) b is =
    let mine : IsLimited own = subst IsLimited (sym is.0) is.1 in
    record {
      answered = λ answered. absurd (mine.held answered);
      limited = λ so. refl;
      stranded = λ stranded. absurd (omega (arith, mine.spent, stranded.more));
    }
exactly_so (Stranded own) b is =
    let mine : IsStranded own = subst IsStranded (sym is.0) is.1 in
    record {
      answered = λ answered. absurd (mine.held answered);
      limited = λ limited. absurd (omega (arith, limited.spent, mine.more));
      stranded = λ so. refl;
    }
exactly_so Memory b is = tt

-- facts about the ending book
pub record IsEndingBook (b : BookState) (end : End) (out_of_memory : Bool) (book : BookState) : Type 0 where
  pub made : IsBook b
  pub ended : is_ended end book
  pub lacks : IfBook end (λ own. out_of_memory ≡ false)
  pub same : IsSameRun b book
  pub within : IsWithin b
  pub alive : AreAlive b
  pub feasible : IfBook end HasFeasible
  pub right : IfAnswered end (λ own. IsSoundBook own → IsRight own)

pub solved_coordinated : (b : BookState) (faults : ℕ) (h : CoordinatorSeen) (old mid : KeptSeen) (disk : DiskSeen)
    (outcome : Outcome) → StartsAndEnds (ranks_of b) (beginning b faults) h old mid
    → IsEndingBook b outcome.end h.out_of_memory h.book
    → IsOurs mid h.book → ¬ IsSaveDue h.pacing h.book → (o : Opening) → IfSome old.saves (IsBegun o)
    → HasConcluded outcome mid disk
    → HasCoordinated b faults h.crew outcome.end (AreEachSaved (savers old.saves) outcome disk)
    (IsKeptSafe (savers old.saves) old.disk disk)
solved_coordinated b faults h old mid disk outcome all is ours saved o own c =
    let e = all.ends in
    record {
      now = e.now;
      come = e.come;
      made = inl is.made;
      started = inl all.started;
      shown = e.shown;
      closed = e.closed;
      ended = subst (is_ended outcome.end) (sym e.its) is.ended;
      exact = exactly_so outcome.end h.book is.ended;
      failed = e.faults;
      out_of_memory = subst (λ (w : Bool). IfBook outcome.end (λ own. w ≡ false)) (sym e.out_of_memory) is.lacks;
      saved = book_has (λ book. ¬ IsSaveDue e.now.pacing book) outcome.end h.book is.ended
          (subst (λ (p : Pacing). ¬ IsSaveDue p h.book) (sym e.pacing) saved);
      same = book_has (IsSameRun b) outcome.end h.book is.ended is.same;
      feasible = is.feasible;
      limited = at_limit outcome.end h.book is.ended (subst IsWithin e.its
          (trace_within (beginning b faults) e.come.actions e.now e.come.trace is.within));
      causes = λ rank there dead.
          dead_has_cause (beginning b faults) e.come.actions e.now rank e.come.trace (is.alive rank there) dead;
      shows = λ rank there dead. subst (λ (n : ℕ). IsShownGone faults n rank e.come.actions) e.faults
          (dead_is_shown (beginning b faults) e.come.actions e.now rank e.come.trace refl (is.alive rank there) dead);
      right = is.right;
      tried = each_saved (IfBook outcome.end IsSoundBook) (IfBook outcome.end (IsOurs mid)) o outcome (saves_in e.come.actions)
          old.saves mid.saves c.saves mid.disk disk own e.tried c.became c.moves c.missed c.unsaved;
      safe = λ sound. safe_moved (StaysSound (beginning b faults) e.now e.come) old.saves c.saves old.disk disk
          (all_moved (beginning b faults) h old mid disk outcome e is.ended ours c) sound;
    }

-- ---- what depends on the disk

kept_moved : (o : Opening) (outcome : Outcome) (a b : Option Saves) (x y : DiskSeen) (Covers : Type 0)
    → IfSome a (IsBegun o) → moves Covers (Unit {0}) a x b y → outcome.missed ≡ missed_by b
    → outcome.unsaved ≡ unsaved_by b → IfSome (savers a) (λ s. IsSavedOrCounted outcome y.told)
    → HasKept (opening_book o) (savers a) outcome x y
kept_moved o outcome None None x y Covers own one missed unsaved saved = record {
  untouched = λ none. record {
    told = ap (λ (d : DiskSeen). d.told) one;
    calm = ap (λ (d : DiskSeen). d.faults) one;
    missed = missed;
    unsaved = unsaved;
  };
  saved = tt;
  found = tt;
  missed = none_missed outcome x y missed (ap (λ (d : DiskSeen). d.faults) one);
}
kept_moved o outcome None (Some b) x y Covers own one missed unsaved saved = absurd one
kept_moved o outcome (Some a) None x y Covers own one missed unsaved saved = absurd one
kept_moved o outcome (Some a) (Some b) x y Covers own one missed unsaved saved = record {
  untouched = λ none. absurd (false≢true (sym none));
  saved = saved;
  found = λ now. time_found Covers (Unit {0}) a b x y o own.own one tt now;
  missed = time_missed Covers (Unit {0}) a b outcome x y own.missed missed one;
}

saved_end : (outcome : Outcome) (a b : Option Saves) (x y : DiskSeen) → end_kept outcome.end outcome.last a x b y
    → outcome.missed ≡ missed_by b → outcome.unsaved ≡ unsaved_by b
    → IfSome (savers a) (λ s. IsSavedOrCounted outcome y.told)
saved_end outcome None b x y is missed unsaved = tt
saved_end outcome (Some a) None x y is missed unsaved = absurd is
saved_end outcome (Some a) (Some b) x y is missed unsaved =
    saved_or_counted outcome outcome.end outcome.last (time a x) (time b y) missed unsaved is

some_saver : (Covers Ours : Type 0) (a b : Option Saves) (x y : DiskSeen) (P : Type 0) → moves Covers Ours a x b y
    → IfSome (savers b) (λ s. P) → IfSome (savers a) (λ s. P)
some_saver Covers Ours None b x y P one holds = tt
some_saver Covers Ours (Some a) None x y P one holds = absurd one
some_saver Covers Ours (Some a) (Some b) x y P one holds = holds

pub solved_kept : (o : Opening) (from : CoordinatorState) (h : CoordinatorSeen) (old mid : KeptSeen) (disk : DiskSeen)
    (outcome : Outcome) → EndsFrom from h old mid → is_ended outcome.end h.book → IsOurs mid h.book
    → IfSome old.saves (IsBegun o) → HasConcluded outcome mid disk
    → HasKept (opening_book o) (savers old.saves) outcome old.disk disk
solved_kept o from h old mid disk outcome e is ours own c =
    kept_moved o outcome old.saves c.saves old.disk disk (StaysSound from e.now e.come) own
    (all_moved from h old mid disk outcome e is ours c) c.missed c.unsaved
    (some_saver (StaysSound from e.now e.come) (Unit {0}) old.saves mid.saves old.disk mid.disk
    (IsSavedOrCounted outcome disk.told) e.moves
    (saved_end outcome mid.saves c.saves mid.disk disk c.became c.missed c.unsaved))

-- ---- the saver that there was

pub its_saver : (o : Opening) (saver : Option Saver) (saves : Option Saves) → Begins o saver saves
    → saver ≡ savers saves
its_saver o None None begins = refl
its_saver o None (Some saves) begins = absurd begins
its_saver o (Some saver) None begins = absurd begins
its_saver o (Some saver) (Some saves) begins = ap (λ (s : Saves). Some (saver_of s)) (sym begins)

pub begun_so : (o : Opening) (saver : Option Saver) (saves : Option Saves) → Begins o saver saves
    → IfSome saves (IsBegun o)
begun_so o saver None begins = tt
begun_so o None (Some saves) begins = absurd begins
begun_so o (Some saver) (Some saves) begins =
    subst (IsBegun o) (sym begins) (record { own = refl; missed = refl; unsaved = refl })

-- the first image saved is of the run
pub begun_ours : (o : Opening) (saves : Option Saves) (b : BookState) → IfSome saves (IsBegun o)
    → b ≡ opening_book o → IfSome saves (λ s. IsSameRun (book_of s) b)
begun_ours o None b its same = tt
begun_ours o (Some saves) b its same =
    let own : b ≡ book_of saves = same ∙ ap opening_book (sym its.own) in
    record {
      problem = ap (λ (k : BookState). k.problem) own;
      run = ap (λ (k : BookState). k.run) own;
      settings = ap (λ (k : BookState). k.settings) own;
      wide = ap (λ (k : BookState). ranks_of k) own;
    }
