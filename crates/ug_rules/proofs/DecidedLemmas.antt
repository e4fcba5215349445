-- After a decision, and where memory ended it, nothing is lost.
use Rattle.std.proofs.Common.{◌≡◌, inl, inr, ℕ, zero, suc, ◌≤◌, true, false, sym, subst, arith}
use Rattle.std.specs.Prelude.{if◌then◌else◌}
use Rattle.std.proofs.lemmas.Bool.{cases_Bool}
use Rattle.ug_problem.specs.Incumbents.{one_kept}
use Rattle.ug_ledger.proofs.EndLemmas.{answer_right}
use Rattle.ug_rules.specs.State.{BookState, ledger_of}
use Rattle.ug_rules.specs.Books.{IsBook, Keeps}
use Rattle.ug_rules.specs.Deciding.{IsCollected, IsDecided, IsGivenOut, IsRaceEnded, IsReadied, Stands, announced, assigned_times, assignments, dropped, given, handouts, is_race_awaited, is_race_due}
use Rattle.ug_rules.specs.DecidingLaws.{AnswerIsRight}
use Rattle.ug_rules.proofs.DroppedLemmas.{dropped_book, dropped_stays_sound}
use Rattle.ug_rules.proofs.ToldLemmas.{announced_book, announced_stays_sound, collected_book, collected_stays_sound}
use Rattle.ug_rules.proofs.AssignedLemmas.{assigned_keeps, keeps_both, keeps_itself}
use Rattle.ug_rules.proofs.WonLemmas.{won_keeps}
use Rattle.ug_rules.proofs.BegunLemmas.{begun_keeps}

pub dropped_keeps : (b : BookState) → Keeps b (dropped b)
dropped_keeps b = record { book = λ h. dropped_book b h; sound = λ h s. dropped_stays_sound b h s }

pub announced_keeps : (b : BookState) → Keeps b (announced b)
announced_keeps b =
    record { book = λ h. announced_book b h; sound = λ h s. announced_stays_sound b s }

pub ended_keeps : (old new : BookState) → IsBook old → IsRaceEnded old new → Keeps old new
ended_keeps old new h (inl (rank, t)) =
    subst (λ c. Keeps old c) (sym t.done) (won_keeps old rank h t.won)
ended_keeps old new h (inr t) = subst (λ c. Keeps old c) (sym t.same) (keeps_itself old)

pub readied_keeps : (old new : BookState) → IsBook old → IsReadied old new → Keeps old new
readied_keeps old new h t =
    let first = dropped_keeps old in
    let second = keeps_both old (dropped old) (announced (dropped old)) first
    (announced_keeps (dropped old)) in
    keeps_both old (announced (dropped old)) new second
    (ended_keeps (announced (dropped old)) new (second.book h) t)

pub given_keeps : (n : ℕ) (b : BookState) → IsBook b → n ≤ handouts b → Keeps b (given n b)
given_keeps zero b h le = keeps_itself b
given_keeps (suc n) b h le = elim (cases_Bool (is_race_due b)) [
  | inl due ↦ begins due
  | inr none ↦ assigns none le
]
  where
    begins : is_race_due b ≡ true → Keeps b (given (suc n) b)
    begins due = rw due (begun_keeps b h due)

    assigns : is_race_due b ≡ false → suc n ≤ handouts b → Keeps b (given (suc n) b)
    assigns none = rw none (λ le. fewer le)
      where
        fewer : suc n ≤ (if is_race_awaited b then 0 else assignments b)
            → Keeps b (assigned_times (suc n) b)
        fewer le = elim (cases_Bool (is_race_awaited b)) [
          | inl waits ↦ absurd (nothing waits le)
          | inr goes ↦ assigned_keeps (suc n) b (all goes le)
        ]
          where
            nothing : is_race_awaited b ≡ true
                → suc n ≤ (if is_race_awaited b then 0 else assignments b) → ⊥
            nothing waits = rw waits (λ (z : suc n ≤ 0). omega (arith, z))

            all : is_race_awaited b ≡ false
                → suc n ≤ (if is_race_awaited b then 0 else assignments b) → suc n ≤ assignments b
            all goes = rw goes (λ z. z)

pub decided_keeps : (old new : BookState) → IsBook old → IsDecided old new → Keeps old new
decided_keeps old new h t =
    let first = readied_keeps old t.ready h t.readied in
    let out = given (handouts t.ready) t.ready in
    let second = keeps_both old t.ready out first
    (given_keeps (handouts t.ready) t.ready (first.book h) (omega arith)) in
    keeps_both old out new second (record {
      book = λ k. collected_book out new t.collected_ k;
      sound = λ k s. collected_stays_sound out new t.collected_ s;
    })

given_out_keeps : (steps : ℕ) (old new : BookState) → IsBook old → IsGivenOut steps old new
    → Keeps old new
given_out_keeps steps old new h t =
    let first = readied_keeps old t.ready h t.readied in
    let both = keeps_both old t.ready (given steps t.ready) first
    (given_keeps steps t.ready (first.book h) t.some) in
    subst (λ c. Keeps old c) (sym t.given_) both

pub stands_keeps : (steps : ℕ) (old new : BookState) → IsBook old → Stands steps old new
    → Keeps old new
stands_keeps zero old new h t = subst (λ c. Keeps old c) (sym t) (keeps_itself old)
stands_keeps (suc zero) old new h t = subst (λ c. Keeps old c) (sym t) (dropped_keeps old)
stands_keeps (suc (suc zero)) old new h t = subst (λ c. Keeps old c) (sym t)
    (keeps_both old (dropped old) (announced (dropped old)) (dropped_keeps old)
    (announced_keeps (dropped old)))
stands_keeps (suc (suc (suc steps))) old new h t = given_out_keeps steps old new h t

pub collected_keeps : (old new : BookState) → IsCollected old new → Keeps old new
collected_keeps old new t = record {
  book = λ h. collected_book old new t h;
  sound = λ h s. collected_stays_sound old new t s;
}

-- the answer of a sound book that holds nothing
pub right_answer : AnswerIsRight
right_answer b none s =
    answer_right b.problem b.settings.gap (one_kept b.best) (ledger_of b) none s
