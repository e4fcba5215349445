-- Saves continue, one after another.
use Rattle.std.proofs.Common.{◌≡◌, ◌⊎◌, inl, inr, ℕ, ◌+◌, ◌-◌, ◌^◌, ◌≤◌, ◌<◌, refl, ap, sym, subst, ◌∙◌, arith}
use Rattle.std.proofs.lemmas.Bool.{cases_lt}
use Rattle.ug_io.specs.Outside.{Rose}
use Rattle.ug_disk.specs.Histories.{DiskSeen}
use Rattle.ug_checkpoint.specs.declared.saver.Saver.{Saver}
use Rattle.ug_image.specs.declared.image.Image.{Image}
use Rattle.ug_restart.specs.declared.outcome.Attempt.{Attempt}
use Rattle.ug_restart.specs.declared.outcome.Attempt.TheVariants.{Saved, Missed, Unsaved}
use Rattle.ug_restart.specs.declared.saves.Saves.{Saves}
use Rattle.ug_book.specs.Openings.{opening_book}
use Rattle.ug_restart.specs.Saves.{IsLastWith, book_of}
use Rattle.ug_restart.specs.Moments.{IsCoveredNow, IsFoundNow, IsOfRun}
use Rattle.ug_restart.specs.Going.{GoesOn, IsAttempted, IsEachAFault, StaysCovered, StaysFound, Time, time}
use Rattle.ug_restart.proofs.Covering.{covered_joined, covered_same, finds_more}
use Rattle.ug_restart.proofs.Finds.{Stands, found_joined, found_same}

-- ---- counts of faults

-- a count that rose did not fall
pub rose_rises : (old new : ℕ) → Rose old new → old ≤ new
rose_rises old new (inl h) = omega (arith, h)
rose_rises old new (inr h) = omega (arith, h.1)

pub rose_on : (a b c : ℕ) → Rose a b → b ≤ c → Rose a c
rose_on a b c (inl less) more = inl (omega (arith, less, more))
rose_on a b c (inr full) more = elim (cases_lt a c) [
  | inl less ↦ inl less
  | inr same ↦ inr (full.0, omega (arith, same, full.1, more))
]

pub rose_late : (a b c : ℕ) → a ≤ b → Rose b c → Rose a c
rose_late a b c less (inl more) = inl (omega (arith, less, more))
rose_late a b c less (inr full) = elim (cases_lt a c) [
  | inl below ↦ inl below
  | inr same ↦ inr (omega (arith, same, full.0, full.1), omega (arith, same, full.1, less))
]

-- one save more is missed for a fault
one_fault : (missed more faults after : ℕ) → more ≤ missed + 1 → Rose faults after
    → (more + faults ≤ missed + after) ⊎ (2 ^ 64 - 1 ≤ after)
one_fault missed more faults after most (inl less) = inl (omega (arith, most, less))
one_fault missed more faults after most (inr full) = inr (omega (arith, full.0, full.1))

-- some saves, and then others
each_joined : (a b c : Time) → IsEachAFault a b → b.disk.faults ≤ c.disk.faults
    → IsEachAFault b c → IsEachAFault a c
each_joined a b c (inl first) more (inl second) = inl (omega (arith, first, second))
each_joined a b c (inr full) more (inl second) = inr (omega (arith, full, more))
each_joined a b c first more (inr full) = inr full

-- ---- from one time to another

-- nothing was done, but perhaps counted as unsaved
pub not_made : (Covers Ours : Type 0) (saves : Saves) (unsaved : ℕ) (old new : DiskSeen)
    → saves.unsaved ≤ unsaved → new.told ≡ old.told → new.faults ≡ old.faults
    → GoesOn Covers Ours (time saves old) (time (record saves { unsaved = unsaved }) new)
not_made Covers Ours saves unsaved old new more same calm = record {
  opening = refl;
  calls = omega arith;
  missed = omega arith;
  unsaved = more;
  faults = omega (arith, calm);
  rose = λ less. absurd (omega (arith, less));
  each = inl (omega (arith, calm));
  calm = λ none room. calm;
  covered = λ covers now. covered_same saves.saver saves.saver old.told new.told same refl now;
  found = λ ours now. found_same (IsOfRun (book_of saves)) saves.saver saves.saver old.told new.told
      same refl now;
}

-- memory ran out
pub unmade : (Covers Ours : Type 0) (saves : Saves) (saver : Saver) (unsaved : ℕ) (old new : DiskSeen)
    → saves.unsaved ≤ unsaved → new.faults ≡ old.faults
    → (Covers → IsCoveredNow saves.saver old.told
    → StaysCovered (time saves old) (time (record saves { saver = saver; unsaved = unsaved }) new))
    → (Ours → IsFoundNow (IsOfRun (book_of saves)) saves.saver old.told
    → StaysFound (book_of saves) (time saves old) (time (record saves { saver = saver; unsaved = unsaved }) new))
    → GoesOn Covers Ours (time saves old) (time (record saves { saver = saver; unsaved = unsaved }) new)
unmade Covers Ours saves saver unsaved old new more calm covered found = record {
  opening = refl;
  calls = omega arith;
  missed = omega arith;
  unsaved = more;
  faults = omega (arith, calm);
  rose = λ less. absurd (omega (arith, less));
  each = inl (omega (arith, calm));
  calm = λ none room. calm;
  covered = covered;
  found = found;
}

-- an image was saved
pub made : (Covers Ours : Type 0) (saves : Saves) (saver : Saver) (old new : DiskSeen)
    → new.faults ≡ old.faults
    → (Covers → IsCoveredNow saves.saver old.told
    → StaysCovered (time saves old) (time (record saves { saver = saver }) new))
    → (Ours → IsFoundNow (IsOfRun (book_of saves)) saves.saver old.told
    → StaysFound (book_of saves) (time saves old) (time (record saves { saver = saver }) new))
    → GoesOn Covers Ours (time saves old) (time (record saves { saver = saver }) new)
made Covers Ours saves saver old new calm covered found = record {
  opening = refl;
  calls = omega arith;
  missed = omega arith;
  unsaved = omega arith;
  faults = omega (arith, calm);
  rose = λ less. absurd (omega (arith, less));
  each = inl (omega (arith, calm));
  calm = λ none room. calm;
  covered = covered;
  found = found;
}

-- the disk failed
pub failed : (Covers Ours : Type 0) (saves : Saves) (saver : Saver) (missed : ℕ) (old new : DiskSeen)
    → saves.missed ≤ missed → missed ≤ saves.missed + 1
    → (saves.missed < 2 ^ 64 - 1 → saves.missed < missed) → Rose old.faults new.faults
    → (Covers → IsCoveredNow saves.saver old.told
    → StaysCovered (time saves old) (time (record saves { saver = saver; missed = missed }) new))
    → (Ours → IsFoundNow (IsOfRun (book_of saves)) saves.saver old.told
    → StaysFound (book_of saves) (time saves old) (time (record saves { saver = saver; missed = missed }) new))
    → GoesOn Covers Ours (time saves old) (time (record saves { saver = saver; missed = missed }) new)
failed Covers Ours saves saver missed old new more most rises rose covered found = record {
  opening = refl;
  calls = omega arith;
  missed = more;
  unsaved = omega arith;
  faults = rose_rises old.faults new.faults rose;
  rose = λ less. rose;
  each = one_fault saves.missed missed old.faults new.faults most rose;
  calm = λ none room. absurd (omega (arith, none, rises room));
  covered = covered;
  found = found;
}

-- the last snapshot that was saved is a newer one
pub with_calls : (Covers Ours : Type 0) (old new : Time) (calls : ℕ) → old.saves.calls ≤ calls
    → GoesOn Covers Ours old new
    → GoesOn Covers Ours old (time (record new.saves { calls = calls }) new.disk)
with_calls Covers Ours old new calls more goes = record {
  opening = goes.opening;
  calls = more;
  missed = goes.missed;
  unsaved = goes.unsaved;
  faults = goes.faults;
  rose = goes.rose;
  each = goes.each;
  calm = goes.calm;
  covered = goes.covered;
  found = goes.found;
}

-- what became of a save, where more is known of the image
pub attempted_more : (P Q : Image → Type 0) → ((image : Image) → P image → Q image)
    → (attempt : Attempt) (old new : Time) → IsAttempted P attempt old new
    → IsAttempted Q attempt old new
attempted_more P Q more Saved old new is = (
  finds_more new.disk.told (IsLastWith P new.saves) (IsLastWith Q new.saves)
      (λ image last. record { is = more image last.is; sequence = last.sequence }) is.0,
  is.1,
  is.2,
  is.3,
)
attempted_more P Q more Missed old new is = is
attempted_more P Q more Unsaved old new is = is

-- if more is known of what is saved
pub goes_where : (P Q R S : Type 0) (old new : Time) → (Q → P) → (S → R) → GoesOn P R old new
    → GoesOn Q S old new
goes_where P Q R S old new is ours goes = record {
  opening = goes.opening;
  calls = goes.calls;
  missed = goes.missed;
  unsaved = goes.unsaved;
  faults = goes.faults;
  rose = goes.rose;
  each = goes.each;
  calm = goes.calm;
  covered = λ q now. goes.covered (is q) now;
  found = λ s now. goes.found (ours s) now;
}

-- one run after another
pub goes_on : (Covers Ours : Type 0) (a b c : Time) → GoesOn Covers Ours a b → GoesOn Covers Ours b c
    → GoesOn Covers Ours a c
goes_on Covers Ours a b c first second = record {
  opening = second.opening ∙ first.opening;
  calls = omega (arith, first.calls, second.calls);
  missed = omega (arith, first.missed, second.missed);
  unsaved = omega (arith, first.unsaved, second.unsaved);
  faults = omega (arith, first.faults, second.faults);
  rose = λ more. elim (cases_lt a.saves.missed b.saves.missed) [
    | inl early ↦ rose_on a.disk.faults b.disk.faults c.disk.faults (first.rose early)
        second.faults
    | inr late ↦ rose_late a.disk.faults b.disk.faults c.disk.faults first.faults
        (second.rose (omega (arith, late, more)))
  ];
  each = each_joined a b c first.each second.faults second.each;
  calm = λ none room.
      let same : b.saves.missed ≡ a.saves.missed =
      omega (arith, none, first.missed, second.missed) in
      second.calm (omega (arith, none, same)) (omega (arith, same, room)) ∙ first.calm same room;
  covered = λ covers now.
      covered_joined a.disk.told b.disk.told c.disk.told b.saves.saver c.saves.saver
      (first.covered covers now) (λ mid. second.covered covers mid);
  found = λ ours now.
      let same = ap opening_book first.opening in
      found_joined (IsOfRun (book_of a.saves)) a.disk.told b.disk.told c.disk.told b.saves.saver
      c.saves.saver (first.found ours now)
      (λ mid. subst (λ k. Stands (IsOfRun k) b.disk.told c.saves.saver c.disk.told) same
      (second.found ours (subst (λ k. IsFoundNow (IsOfRun k) b.saves.saver b.disk.told) (sym same)
      mid)));
}

-- nothing at all
pub goes_nowhere : (Covers Ours : Type 0) (a : Time) → GoesOn Covers Ours a a
goes_nowhere Covers Ours a = record {
  opening = refl;
  calls = omega arith;
  missed = omega arith;
  unsaved = omega arith;
  faults = omega arith;
  rose = λ less. absurd (omega (arith, less));
  each = inl (omega arith);
  calm = λ none room. refl;
  covered = λ covers now.
      covered_same a.saves.saver a.saves.saver a.disk.told a.disk.told refl refl now;
  found = λ ours now. found_same (IsOfRun (book_of a.saves)) a.saves.saver a.saves.saver
      a.disk.told a.disk.told refl refl now;
}
