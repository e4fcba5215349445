-- Announcements and requests change no ledger.
use Rattle.std.proofs.Common.{inl, inr, ℕ, ◌≤◌, ℤ, List, [], ◌∷◌, ◌++◌, length, sym, subst, arith}
use Rattle.std.specs.Prelude.{IfSome, Option, Some, None}
use Rattle.ug_frames.specs.Ranges.{IsValue}
use Rattle.std.proofs.lemmas.Bool.{cases_Bool, cases_lt}
use Rattle.std.proofs.lemmas.List.{set_past}
use Rattle.ug_rules.specs.declared.demand.Wanted.{Wanted}
use Rattle.ug_rules.specs.declared.demand.Wanted.TheVariants.{Ask, Enough, Nothing}
use Rattle.ug_ranks.specs.States.{state_at}
use Rattle.ug_ranks.specs.Changes.{asked_for}
use Rattle.ug_rules.specs.declared.told.Told.{Told}
use Rattle.ug_rules.specs.State.{BookState, cutoff_of_best}
use Rattle.ug_rules.specs.Ranks.{members_in}
use Rattle.ug_rules.specs.Wants.{IsWanted}
use Rattle.ug_rules.specs.Books.{AreOrders, IsBook, IsSoundBook}
use Rattle.ug_rules.proofs.OrderLemmas.{cutoff_value, in_carried, out_carried, told_carried}
use Rattle.ug_rules.specs.Deciding.{IsCollected, announced, announced_as, announcements, collected, collect_in, collect_out, same_cutoff, stopped_collecting}
use Rattle.ug_rules.proofs.BookLemmas.{asked_alike, book_told, book_written, sound_written, written}

announced_book_as : (cutoff : Option ℤ) (b : BookState) → IfSome cutoff IsValue → IsBook b
    → IsBook (announced_as cutoff b)
announced_book_as None b small h = h
announced_book_as (Some c) b small h = elim (cases_Bool (same_cutoff b.announced c)) [
  | inl same ↦ rw same h
  | inr new ↦ rw new (book_told b b.best (b.orders ++ announcements c b.ranks) b.heard
      (Some c) h.incumbent (told_carried b h c small) h)
]

announced_sound_as : (cutoff : Option ℤ) (b : BookState) → IsSoundBook b
    → IsSoundBook (announced_as cutoff b)
announced_sound_as None b h = h
announced_sound_as (Some c) b h = elim (cases_Bool (same_cutoff b.announced c)) [
  | inl same ↦ rw same h
  | inr new ↦ rw new h
]

pub announced_book : (b : BookState) → IsBook b → IsBook (announced b)
announced_book b h = announced_book_as (cutoff_of_best b) b
    (cutoff_value b.problem b.settings.gap b.best h.problem h.settings.gap h.incumbent) h

pub announced_stays_sound : (b : BookState) → IsSoundBook b → IsSoundBook (announced b)
announced_stays_sound b h = announced_sound_as (cutoff_of_best b) b h

-- a state for the same work, at any rank
book_asked : (b : BookState) (r count : ℕ) (orders : List Told) → AreOrders orders → IsBook b
    → IsBook (record (written r (asked_for count (state_at b.ranks r)) b) { orders = orders })
book_asked b r count orders carried h =
    let s = asked_for count (state_at b.ranks r) in
    let new : IsBook (written r s b) = elim (cases_lt r (length b.ranks)) [
      | inl l ↦ book_written b r s l (asked_alike count (state_at b.ranks r)) h
      | inr past ↦ subst (λ ss. IsBook (record b { ranks = ss }))
          (sym (set_past b.ranks r s past)) h
    ] in
    book_told (written r s b) b.best orders b.heard b.announced new.incumbent carried new

book_stopped : (rs : List ℕ) (b : BookState) → IsBook b → IsBook (stopped_collecting rs b)
book_stopped [] b h = h
book_stopped (r ∷ rs) b h = book_stopped rs _
    (book_asked b r 0 (b.orders ++ collect_out r (state_at b.ranks r)) (out_carried b h r) h)

sound_stopped : (rs : List ℕ) (b : BookState) → IsSoundBook b
    → IsSoundBook (stopped_collecting rs b)
sound_stopped [] b h = h
sound_stopped (r ∷ rs) b h = sound_stopped rs _
    (sound_written b r (asked_for 0 (state_at b.ranks r)) (asked_alike 0 (state_at b.ranks r)) h)

collected_book_by : (demand : Wanted) (b : BookState)
    → IsWanted (length b.pool) b.settings.low b.settings.high (members_in b.ranks) demand
    → IsBook b → IsBook (collected demand b)
collected_book_by (Ask r count) b wanted h =
    let some : 1 ≤ count = omega (arith, wanted.few, wanted.up_to_high, h.settings.marks) in
    book_asked b r count (b.orders ++ collect_in r count (state_at b.ranks r))
    (in_carried b h r count some) h
collected_book_by (Enough ranks) b wanted h = book_stopped ranks b h
collected_book_by Nothing b wanted h = h

collected_sound_by : (demand : Wanted) (b : BookState) → IsSoundBook b
    → IsSoundBook (collected demand b)
collected_sound_by (Ask r count) b h =
    sound_written b r (asked_for count (state_at b.ranks r))
    (asked_alike count (state_at b.ranks r)) h
collected_sound_by (Enough ranks) b h = sound_stopped ranks b h
collected_sound_by Nothing b h = h

pub collected_book : (old new : BookState) → IsCollected old new → IsBook old → IsBook new
collected_book old new t h = subst IsBook (sym t.done) (collected_book_by t.demand old t.wanted h)

pub collected_stays_sound : (old new : BookState) → IsCollected old new → IsSoundBook old
    → IsSoundBook new
collected_stays_sound old new t h = subst IsSoundBook (sym t.done)
    (collected_sound_by t.demand old h)
