-- The word of the incumbent's cutoff never rises.
use Rattle.std.proofs.Common.{◌≡◌, ◌⊎◌, inl, inr, ℕ, ℤ, ◌≤◌, min, List, Option, Some, None, sym, ap, subst, arith}
use Rattle.std.specs.Prelude.{◌-ℤ◌, ◌≤ℤ◌, ◌<ℤ◌, unsigned_abs}
use Rattle.std.specs.Int.{int_max}
use Rattle.std.proofs.lemmas.Int.{ints, by_lt_z}
use Rattle.ug_rows.specs.Rows.{value_of}
use Rattle.ug_problem.specs.Better.{best_cutoff}
use Rattle.ug_problem.specs.Instances.{Instance}
use Rattle.ug_problem.specs.Offers.{IsBetter}
use Rattle.ug_rules.specs.State.{BookState}
use Rattle.ug_desk.specs.DeskStates.{DeskState, own_ticket}
use Rattle.ug_desk.specs.Histories.{Call, Step, taken, offered, handed, stated, ended, left, copied}
use Rattle.ug_desk.specs.Words.{floor_of, no_word, word_at, word_of}
use Rattle.ug_desk.proofs.Incumbents.{Aim, IsImproved, Stays, aim_of, point_offered, step_stays}

-- the word is that of what is to be beaten
abbrev word_by : Aim → ℕ
word_by a = word_at (floor_of a.problem) (best_cutoff a.problem a.settings.gap a.best)

pub word_stays : (old new : BookState) → Stays old new → word_of new ≡ word_of old
word_stays old new stays = ap word_by stays

pub max_is : (a b : ℤ) → ((int_max a b ≡ a) × (b ≤ℤ a)) ⊎ ((int_max a b ≡ b) × (a ≤ℤ b))
max_is a b = by_lt_z b a
    (λ less. inl (grind (arith, ints, less), omega (arith, ints, less)))
    (λ more. inr (grind (arith, ints, more), more))

-- how far the larger of a and low is above low falls with a
above_falls : (a b low : ℤ) → a ≤ℤ b
    → min (unsigned_abs (int_max a low -ℤ low)) no_word ≤ min (unsigned_abs (int_max b low -ℤ low)) no_word
above_falls a b low less = elim (max_is a low) [
  | inl m ↦ elim (max_is b low) [
    | inl n ↦ let e = m.0 in let f = n.0 in rw (e, f) (omega (arith, ints, m.1, less))
    | inr n ↦ let e = m.0 in let f = n.0 in rw (e, f) (omega (arith, ints, m.1, n.1, less))
  ]
  | inr m ↦ let e = m.0 in rw (e) (omega (arith, ints))
]

less_gap : (a b gap : ℤ) → a <ℤ b → (a -ℤ gap) ≤ℤ (b -ℤ gap)
less_gap a b gap less = omega (arith, ints, less)

better_falls : (p : Instance) (gap : ℤ) (best : Option (List ℤ)) (x : List ℤ) → IsBetter p best x
    → word_at (floor_of p) (best_cutoff p gap (Some x)) ≤ word_at (floor_of p) (best_cutoff p gap best)
better_falls p gap None x better = omega arith
better_falls p gap (Some y) x better =
    above_falls (value_of p.objective x -ℤ gap) (value_of p.objective y -ℤ gap) (floor_of p)
    (less_gap (value_of p.objective x) (value_of p.objective y) gap better.less)

improved_falls : (x : List ℤ) (old new : BookState) → IsImproved x old new → word_of new ≤ word_of old
improved_falls x old new h =
    let is : word_of new ≡ word_by (record (aim_of old) { best = Some x }) = ap word_by h.its in
    subst (λ (n : ℕ). n ≤ word_of old) (sym is)
    (better_falls old.problem old.settings.gap old.best x h.better)

at_most_same : (n m : ℕ) → n ≡ m → n ≤ m
at_most_same n m e = omega (arith, e)

stays_falls : (old new : BookState) → Stays old new → word_of new ≤ word_of old
stays_falls old new stays = at_most_same (word_of new) (word_of old) (word_stays old new stays)

-- a call leaves what is to be beaten, or has a better incumbent in its place
abbrev pub Aims : BookState → BookState → Type 0
Aims old new = ((x : List ℤ) × IsImproved x old new) ⊎ Stays old new

aims_of : (x : List ℤ) (old new : BookState) → IsImproved x old new ⊎ Stays old new → Aims old new
aims_of x old new (inl h) = inl (x, h)
aims_of x old new (inr stays) = inr stays

pub step_aims : (r : ℕ) (call : Call) (old new : DeskState) → Step r call old new
    → Aims old.book new.book
step_aims r (taken took) old new s = inr (step_stays r (taken took) old new tt s)
step_aims r (offered x answer) old new s =
    aims_of x old.book new.book
    (point_offered r (own_ticket old r) x answer old.book new.book s.book)
step_aims r (handed number area answer) old new s =
    inr (step_stays r (handed number area answer) old new tt s)
step_aims r (stated count floor reply) old new s =
    inr (step_stays r (stated count floor reply) old new tt s)
step_aims r (ended task answer) old new s = inr (step_stays r (ended task answer) old new tt s)
step_aims r left old new s = inr (step_stays r left old new tt s)
step_aims r copied old new s = inr (step_stays r copied old new tt s)

aims_fall : (old new : BookState) → Aims old new → word_of new ≤ word_of old
aims_fall old new (inl (x, h)) = improved_falls x old new h
aims_fall old new (inr stays) = stays_falls old new stays

-- no call raises it
pub step_falls : (r : ℕ) (call : Call) (old new : DeskState) → Step r call old new
    → word_of new.book ≤ word_of old.book
step_falls r call old new s = aims_fall old.book new.book (step_aims r call old new s)
