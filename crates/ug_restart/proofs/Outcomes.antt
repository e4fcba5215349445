-- What depends on the disk at the end.
use Rattle.std.proofs.Common.{◌≡◌, inl, inr, ℕ, ◌≤◌, Option, Some, None, IfSome, ap, sym, ◌∙◌, subst, arith}
use Rattle.std.specs.Prelude.{IsSomeAnd}
use Rattle.ug_disk.specs.Histories.{DiskSeen, History}
use Rattle.ug_disk.specs.Crashes.{Leaves}
use Rattle.ug_disk.proofs.Moments.{starts}
use Rattle.ug_image.specs.declared.image.Image.{Image}
use Rattle.ug_checkpoint.specs.declared.saver.Saver.{Saver}
use Rattle.ug_rules.specs.State.{BookState}
use Rattle.ug_restart.specs.declared.outcome.Attempt.{Attempt}
use Rattle.ug_restart.specs.declared.outcome.Attempt.TheVariants.{Saved, Missed, Unsaved}
use Rattle.ug_restart.specs.declared.outcome.End.{End}
use Rattle.ug_restart.specs.declared.outcome.Outcome.{Outcome}
use Rattle.ug_restart.specs.declared.outcome.End.TheVariants.{Answered, Limited, Stranded, Memory}
use Rattle.ug_book.specs.declared.opening.Opening.{Opening}
use Rattle.ug_book.specs.Openings.{opening_book}
use Rattle.ug_restart.specs.declared.saves.Saves.{Saves}
use Rattle.ug_restart.specs.Saves.{IsLastWith, IsOfBook, begun, book_of, missed_of, one_more, opening_of, saver_of, unsaved_of}
use Rattle.ug_restart.specs.Moments.{AllCovered, FindsIn, IsCoveredFind, IsCoveredNow, IsFoundNow, IsOfRun}
use Rattle.ug_restart.specs.Going.{GoesOn, IsAttempted, Time, time}
use Rattle.ug_restart.specs.Outcomes.{IfBook, IsLastSave, IsMissedByFaults}
use Rattle.ug_restart.proofs.Covering.{covered_each, finds_more}
use Rattle.ug_restart.proofs.Finds.{found_each}

-- one more save is one at least
counted : (count before : ℕ) → count ≡ one_more before → 1 ≤ count
counted count before more = omega (arith, more)

-- what became of the save of the ending book
last_save : (outcome : Outcome) (b : BookState) (attempt : Attempt) (mid new : Time)
    → outcome.missed ≡ missed_of new.saves → outcome.unsaved ≡ unsaved_of new.saves
    → IsAttempted (IsOfBook b) attempt mid new → IsLastSave outcome new.disk.told b attempt
last_save outcome b Saved mid new missed unsaved is =
    finds_more new.disk.told (IsLastWith (IsOfBook b) new.saves) (IsOfBook b) (λ image last. last.is) is.0
last_save outcome b Missed mid new missed unsaved is =
    counted outcome.missed (missed_of mid.saves) (missed ∙ is.2)
last_save outcome b Unsaved mid new missed unsaved is =
    counted outcome.unsaved (unsaved_of mid.saves) (unsaved ∙ is.3)

some_last : (outcome : Outcome) (b : BookState) (last : Option Attempt) (mid new : Time)
    → outcome.missed ≡ missed_of new.saves → outcome.unsaved ≡ unsaved_of new.saves
    → IsSomeAnd last (λ attempt. IsAttempted (IsOfBook b) attempt mid new)
    → IsSomeAnd last (IsLastSave outcome new.disk.told b)
some_last outcome b None mid new missed unsaved is = is
some_last outcome b (Some attempt) mid new missed unsaved is =
    last_save outcome b attempt mid new missed unsaved is

pub saved_or_counted : (outcome : Outcome) (end : End) (last : Option Attempt) (mid new : Time)
    → outcome.missed ≡ missed_of new.saves → outcome.unsaved ≡ unsaved_of new.saves
    → IfBook end (λ b. IsSomeAnd last (λ attempt. IsAttempted (IsOfBook b) attempt mid new))
    → IfBook end (λ b. IsSomeAnd last (IsLastSave outcome new.disk.told b))
saved_or_counted outcome (Answered b) last mid new missed unsaved is =
    some_last outcome b last mid new missed unsaved is
saved_or_counted outcome (Limited b) last mid new missed unsaved is =
    some_last outcome b last mid new missed unsaved is
saved_or_counted outcome (Stranded b) last mid new missed unsaved is =
    some_last outcome b last mid new missed unsaved is
saved_or_counted outcome Memory last mid new missed unsaved is = tt

pub each_covered : (Covers Ours : Type 0) (a c : Time) → GoesOn Covers Ours a c → Covers
    → IsCoveredNow (saver_of a.saves) a.disk.told → AllCovered a.disk.told c.disk.told
each_covered Covers Ours a c goes covers now =
    covered_each a.disk.told c.disk.told (saver_of c.saves) (goes.covered covers now)

-- if nothing was done
pub still_covered : (saver : Saver) (told new : Option History) → new ≡ told
    → IsCoveredNow saver told → AllCovered told new
still_covered saver told new same now =
    subst (λ n. AllCovered told n) (sym same) (starts IsCoveredFind told now.could)

-- what was saved from one time to another
pub time_covered : (Covers Ours : Type 0) (saves after : Saves) (old new : DiskSeen)
    → GoesOn Covers Ours (time saves old) (time after new) → Covers
    → IsCoveredNow (saver_of saves) old.told → AllCovered old.told new.told
time_covered Covers Ours saves after old new goes covers now =
    each_covered Covers Ours (time saves old) (time after new) goes covers now

-- what recovery finds while they were
pub time_found : (Covers Ours : Type 0) (saves after : Saves) (old new : DiskSeen)
    (o : Opening) → opening_of saves ≡ o → GoesOn Covers Ours (time saves old) (time after new)
    → Ours → IsFoundNow (IsOfRun (opening_book o)) (saver_of saves) old.told
    → Leaves (FindsIn (IsOfRun (opening_book o))) old.told new.told
time_found Covers Ours saves after old new o same goes ours now =
    let same_book = ap opening_book same in
    subst (λ k. Leaves (FindsIn (IsOfRun k)) old.told new.told) same_book
    (found_each (IsOfRun (book_of saves)) old.told new.told (saver_of after)
    (goes.found ours
    (subst (λ k. IsFoundNow (IsOfRun k) (saver_of saves) old.told) (sym same_book) now)))

-- if nothing was done
pub still_found : (P : Image → Type 0) (saver : Saver) (told new : Option History) → new ≡ told
    → IsFoundNow P saver told → Leaves (FindsIn P) told new
still_found P saver told new same now =
    subst (λ n. Leaves (FindsIn P) told n) (sym same) (starts (FindsIn P) told now.could)

-- what of them was missed, where none was before
pub time_missed : (Covers Ours : Type 0) (saves after : Saves) (outcome : Outcome) (old new : DiskSeen)
    → missed_of saves ≡ 0 → outcome.missed ≡ missed_of after
    → GoesOn Covers Ours (time saves old) (time after new) → IsMissedByFaults outcome old new
time_missed Covers Ours saves after outcome old new none all goes = record {
  rose = λ some. goes.rose (omega (arith, none, all, some));
  each = elim goes.each [
    | inl few ↦ inl (omega (arith, none, all, few))
    | inr full ↦ inr full
  ];
  calm = λ no. goes.calm (omega (arith, none, all, no)) (omega (arith, none));
}

-- none was missed, and the disk did not fail
pub none_missed : (outcome : Outcome) (old new : DiskSeen) → outcome.missed ≡ 0
    → new.faults ≡ old.faults → IsMissedByFaults outcome old new
none_missed outcome old new none calm = record {
  rose = λ some. absurd (omega (arith, none, some));
  each = inl (omega (arith, none, calm));
  calm = λ no. calm;
}

-- Covered for a saver is Covered for the saves that have it
pub covered_begun : (saves : Saves) (saver : Saver) (own : Opening) (told : Option History)
    → saves ≡ begun saver own → IsCoveredNow saver told → IsCoveredNow (saver_of saves) told
covered_begun saves saver own told same now =
    subst (λ (s : Saves). IsCoveredNow (saver_of s) told) (sym same) now

-- and what is found
pub found_begun : (P : Image → Type 0) (saves : Saves) (saver : Saver) (own : Opening)
    (told : Option History) → saves ≡ begun saver own → IsFoundNow P saver told
    → IsFoundNow P (saver_of saves) told
found_begun P saves saver own told same now =
    subst (λ (s : Saves). IsFoundNow P (saver_of s) told) (sym same) now

-- for the saver that there is
pub for_saver : (all : Option Saver) (saver : Saver) (P : Saver → Type 0) → all ≡ Some saver
    → P saver → IfSome all P
for_saver all saver P is holds = subst (λ (o : Option Saver). IfSome o P) (sym is) holds
