-- How many saves were tried.
use Rattle.std.proofs.Common.{◌≡◌, inl, inr, ℕ, ◌+◌, ◌-◌, ◌≤◌, ◌^◌, Option, None, Some, IfSome, sym, ap, subst, ◌∙◌, arith}
use Rattle.std.proofs.lemmas.Bool.{cases_lt}
use Rattle.std.specs.Prelude.{IsSomeAnd}
use Rattle.ug_disk.specs.Histories.{DiskSeen}
use Rattle.ug_image.specs.declared.image.Image.{Image}
use Rattle.ug_rules.specs.State.{BookState}
use Rattle.ug_book.specs.declared.opening.Opening.{Opening}
use Rattle.ug_snapshot.specs.Moments.{IsImageOf}
use Rattle.ug_restart.specs.declared.outcome.Attempt.{Attempt}
use Rattle.ug_restart.specs.declared.outcome.Attempt.TheVariants.{Missed, Saved, Unsaved}
use Rattle.ug_restart.specs.declared.outcome.End.{End}
use Rattle.ug_restart.specs.declared.outcome.End.TheVariants.{Answered, Limited, Memory, Stranded}
use Rattle.ug_restart.specs.declared.outcome.Outcome.{Outcome}
use Rattle.ug_restart.specs.declared.saves.Saves.{Saves}
use Rattle.ug_restart.specs.Going.{GoesOn, IsAttempted, Time, time}
use Rattle.ug_restart.specs.Moments.{FindsOne}
use Rattle.ug_restart.specs.Outcomes.{IfBook}
use Rattle.ug_restart.specs.Saves.{IsLastWith, IsOfBook, missed_of, saver_of, sequence_at, unsaved_of}
use Rattle.ug_restart.proofs.Covering.{finds_more}
use Rattle.ug_coord.specs.Keeping.{AreEachSaved, IsBegun, IsEachSaved, Tries, end_kept, has_tried, missed_by, moves, savers, unsaved_by}

-- ---- one save

-- no count of those that failed fell
pub record NoneFell (old new : Saves) : Type 0 where
  pub missed : missed_of old ≤ missed_of new
  pub unsaved : unsaved_of old ≤ unsaved_of new

pub none_fell : (Covers Ours : Type 0) (old new : Time) → GoesOn Covers Ours old new
    → NoneFell old.saves new.saves
none_fell Covers Ours old new goes = record { missed = goes.missed; unsaved = goes.unsaved }

-- the end of such a count
abbrev top : ℕ
top = 2 ^ 64 - 1

pub attempted_tries : (P : Image → Type 0) (attempt : Attempt) (old new : Time)
    → IsAttempted P attempt old new → NoneFell old.saves new.saves → Tries 1 old.saves new.saves
attempted_tries P Saved old new is rises = record {
  more = inl (omega (arith, is.1, is.2, is.3));
  missed = rises.missed;
  unsaved = rises.unsaved;
}
attempted_tries P Missed old new is rises = record {
  more = elim (cases_lt (missed_of old.saves) top) [
    | inl below ↦ inl (omega (arith, below, is.1, is.2, is.3))
    | inr past ↦ inr (inl (omega (arith, past, is.2)))
  ];
  missed = rises.missed;
  unsaved = rises.unsaved;
}
attempted_tries P Unsaved old new is rises = record {
  more = elim (cases_lt (unsaved_of old.saves) top) [
    | inl below ↦ inl (omega (arith, below, is.1, is.2, is.3))
    | inr past ↦ inr (inr (omega (arith, past, is.3)))
  ];
  missed = rises.missed;
  unsaved = rises.unsaved;
}

-- ---- several

pub tries_on : (m n : ℕ) (a b c : Saves) → Tries m a b → Tries n b c → Tries (m + n) a c
tries_on m n a b c one two = record {
  more = elim one.more [
    | inl first ↦ elim two.more [
      | inl second ↦ inl (omega (arith, first, second))
      | inr full ↦ inr full
    ]
    | inr full ↦ inr (elim full [
      | inl missed ↦ inl (omega (arith, missed, two.missed))
      | inr unsaved ↦ inr (omega (arith, unsaved, two.unsaved))
    ])
  ];
  missed = omega (arith, one.missed, two.missed);
  unsaved = omega (arith, one.unsaved, two.unsaved);
}

pub tried_on : (m n : ℕ) (a b c : Option Saves) → has_tried m a b → has_tried n b c → has_tried (m + n) a c
tried_on m n None None None one two = tt
tried_on m n None None (Some c) one two = absurd two
tried_on m n None (Some b) c one two = absurd one
tried_on m n (Some a) None c one two = absurd one
tried_on m n (Some a) (Some b) None one two = absurd two
tried_on m n (Some a) (Some b) (Some c) one two = tries_on m n a b c one two

pub tried_none : (a : Option Saves) → has_tried 0 a a
tried_none None = tt
tried_none (Some a) = record {
  more = inl (omega arith);
  missed = omega arith;
  unsaved = omega arith;
}

-- ---- at the end

last_tries : (P : Image → Type 0) (last : Option Attempt) (b c : Saves) (y z : DiskSeen)
    → IsSomeAnd last (λ attempt. IsAttempted P attempt (time b y) (time c z)) → NoneFell b c → Tries 1 b c
last_tries P None b c y z is rises = absurd is
last_tries P (Some attempt) b c y z is rises = attempted_tries P attempt (time b y) (time c z) is rises

-- the image of the book that has the last sequence
last_image : (b : BookState) (c : Saves) (made : Image) → IsLastWith (IsOfBook b) c made
    → IsImageOf b (sequence_at c) made
last_image b c made last =
    subst (λ (n : ℕ). IsImageOf b n made)
    (sym (ap (λ (i : Image). i.sequence) last.is.moment.is) ∙ last.sequence) last.is.moment

last_found : (own : BookState) (last : Option Attempt) (b c : Saves) (y z : DiskSeen)
    → IsSomeAnd last (λ attempt. IsAttempted (IsOfBook own) attempt (time b y) (time c z))
    → last ≡ Some Saved → FindsOne (IsImageOf own (sequence_at c)) z.told
last_found own last b c y z is same =
    let saved : IsAttempted (IsOfBook own) Saved (time b y) (time c z) = subst
    (λ (l : Option Attempt). IsSomeAnd l (λ attempt. IsAttempted (IsOfBook own) attempt (time b y) (time c z)))
    same is in
    finds_more z.told (IsLastWith (IsOfBook own) c) (IsImageOf own (sequence_at c)) (last_image own c) saved.0

one_each : (o : Opening) (outcome : Outcome) (own : BookState) (count : ℕ) (a b c : Saves) (y z : DiskSeen)
    → IsBegun o a → Tries count a b
    → IsSomeAnd outcome.last (λ attempt. IsAttempted (IsOfBook own) attempt (time b y) (time c z))
    → NoneFell b c → outcome.missed ≡ missed_of c → outcome.unsaved ≡ unsaved_of c
    → IsEachSaved (saver_of a) count outcome z.told own
one_each o outcome own count a b c y z begun tried became rises missed unsaved =
    let all = tries_on count 1 a b c tried (last_tries (IsOfBook own) outcome.last b c y z became rises) in
    record {
      sequence = sequence_at c;
      tried = elim all.more [
        | inl more ↦ inl (omega (arith, more, begun.missed, begun.unsaved, missed, unsaved))
        | inr full ↦ inr (elim full [
          | inl most ↦ inl (omega (arith, most, missed))
          | inr most ↦ inr (omega (arith, most, unsaved))
        ])
      ];
      found = last_found own outcome.last b c y z became;
    }

each_at : (o : Opening) (outcome : Outcome) (end : End) (count : ℕ) (a b c : Saves) (y z : DiskSeen)
    → IsBegun o a → Tries count a b
    → IfBook end (λ own. IsSomeAnd outcome.last
    (λ attempt. IsAttempted (IsOfBook own) attempt (time b y) (time c z)))
    → NoneFell b c → outcome.missed ≡ missed_of c → outcome.unsaved ≡ unsaved_of c
    → IfBook end (IsEachSaved (saver_of a) count outcome z.told)
each_at o outcome (Answered own) count a b c y z begun tried became rises missed unsaved =
    one_each o outcome own count a b c y z begun tried became rises missed unsaved
each_at o outcome (Limited own) count a b c y z begun tried became rises missed unsaved =
    one_each o outcome own count a b c y z begun tried became rises missed unsaved
each_at o outcome (Stranded own) count a b c y z begun tried became rises missed unsaved =
    one_each o outcome own count a b c y z begun tried became rises missed unsaved
each_at o outcome Memory count a b c y z begun tried became rises missed unsaved = tt

pub each_saved : (Covers Ours : Type 0) (o : Opening) (outcome : Outcome) (count : ℕ)
    (a b c : Option Saves) (y z : DiskSeen) → IfSome a (IsBegun o) → has_tried count a b
    → end_kept outcome.end outcome.last b y c z → moves Covers Ours b y c z
    → outcome.missed ≡ missed_by c → outcome.unsaved ≡ unsaved_by c
    → AreEachSaved (savers a) outcome z count
each_saved Covers Ours o outcome count None b c y z begun tried became goes missed unsaved = tt
each_saved Covers Ours o outcome count (Some a) None c y z begun tried became goes missed unsaved = absurd tried
each_saved Covers Ours o outcome count (Some a) (Some b) None y z begun tried became goes missed unsaved = absurd became
each_saved Covers Ours o outcome count (Some a) (Some b) (Some c) y z begun tried became goes missed unsaved =
    each_at o outcome outcome.end count a b c y z begun tried became (none_fell Covers Ours (time b y) (time c z) goes)
    missed unsaved
