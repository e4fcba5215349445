-- Each event by itself: what a book is stays, and what the event is to the ledger.
use Rattle.std.proofs.Common.{◌≡◌, inl, inr, ℕ, ℤ, ◌≤ℤ◌, ◌<ℤ◌, ◌<◌, List, length, refl, ap, sym, ◌∙◌, subst, arith}
use Rattle.std.specs.Prelude.{IfSome, Option, Some, None, slice_set}
use Rattle.std.specs.Option.{option_map}
use Rattle.std.proofs.lemmas.Int.{ints}
use Rattle.std.proofs.lemmas.Option.{none-some, same_Some}
use Rattle.ug_rows.specs.Rows.{value_of}
use Rattle.ug_problem.specs.Instances.{root_of}
use Rattle.ug_problem.specs.Feasible.{Feasible}
use Rattle.ug_problem.specs.Incumbents.{one_kept}
use Rattle.ug_problem.proofs.Incumbents.{all_of_one, better_still, no_greater}
use Rattle.ug_pool.specs.declared.entry.Entry.{Entry}
use Rattle.ug_ranks.specs.declared.state.Off.TheVariants.{Died}
use Rattle.ug_ranks.specs.declared.state.State.{State}
use Rattle.ug_ranks.specs.declared.state.State.TheVariants.{Absent, Idle, Racing, Active, Dead}
use Rattle.ug_ranks.specs.States.{state_at}
use Rattle.ug_ranks.specs.Changes.{joined, noted}
use Rattle.ug_ledger.specs.Ledgers.{Current, IsCurrent}
use Rattle.ug_ledger.specs.Moves.{HasDone, HasEnded, HasHanded, HasTakenIn}
use Rattle.ug_ledger.specs.Dones.{IsSearched}
use Rattle.ug_ledger.proofs.EndLemmas.{improved_sound}
use Rattle.ug_rules.specs.State.{BookState, current_for, current_of, ledger_of}
use Rattle.ug_ranks.specs.Looks.{ticket_at}
use Rattle.ug_rules.specs.Deaths.{killed_at}
use Rattle.ug_rules.specs.Hearing.{counted, done_at, handed_at}
use Rattle.ug_rules.specs.Books.{IsBook, IsSoundBook, Keeps}
use Rattle.ug_rules.specs.HearingLaws.{CountedIsNone, CountedKeeps, DeathHasTakenIn, DeathKeeps, DoneHasDone, DoneKeepsBook, DoneKeepsSound, HandHasHanded, HandKeeps, IdleDeathIsNone, KeepsLedger, RacerDeathHasEnded, ReadyIsNone, ReadyKeeps, ReportedIsNone, ReportedKeeps, SolutionHasImproved, SolutionKeeps}
use Rattle.ug_rules.proofs.HeldLemmas.{current_is}
use Rattle.ug_rules.proofs.BookLemmas.{IsAlike, absent_or_idle, book_told, book_written, joined_alike, noted_alike, same_ledger, sound_written}
use Rattle.ug_rules.proofs.DeathLemmas.{death_at_work_keeps, death_at_work_sound, death_takes_in}
use Rattle.ug_rules.proofs.BookLemmas.{nothing_raced}
use Rattle.ug_rules.proofs.RaceLemmas.{death_in_race_ends, death_in_race_keeps, death_in_race_sound, done_ends_race, done_in_race_keeps, done_in_race_sound, racing_entry}
use Rattle.ug_rules.proofs.DoneLemmas.{done_at_work_keeps, done_at_work_sound, done_works_off}
use Rattle.ug_rules.proofs.HandLemmas.{hand_is_handed, hand_keeps, hand_sound}
use Rattle.ug_rules.proofs.OwnLemmas.{own_current}

pub counted_keeps : CountedKeeps
counted_keeps b = record {
  book = λ h. book_told b b.best b.orders (counted b).heard b.announced h.incumbent h.orders h;
  sound = λ h s. s;
}

pub counted_none : CountedIsNone
counted_none b = refl

-- a rank's state for the same work
alike_keeps : (b : BookState) (r : ℕ) (s : State) → r < length b.ranks
    → IsAlike (state_at b.ranks r) s → Keeps b (record b { ranks = slice_set b.ranks r s })
alike_keeps b r s l a = record {
  book = book_written b r s l a;
  sound = λ h k. sound_written b r s a k;
}

pub ready_keeps : ReadyKeeps
ready_keeps b r l =
    let s = state_at b.ranks r in alike_keeps b r (joined s) l (joined_alike s)

pub ready_none : ReadyIsNone
ready_none b r = let s = state_at b.ranks r in same_ledger b r (joined s) (joined_alike s)

pub reported_keeps : ReportedKeeps
reported_keeps b r ticket count floor l =
    let s = state_at b.ranks r in
    alike_keeps b r (noted count floor s) l (noted_alike count floor s)

pub reported_none : ReportedIsNone
reported_none b r ticket count floor =
    let s = state_at b.ranks r in
    same_ledger b r (noted count floor s) (noted_alike count floor s)

pub solution_improves : SolutionHasImproved
solution_improves b x gap better = record {
  feasible = all_of_one (Feasible b.problem) (Some x) better.feasible;
  falls = λ y. better_still b.problem b.settings.gap b.best x y gap
      (no_greater b.problem b.best x better.less);
}

pub solution_keeps : SolutionKeeps
solution_keeps b r ticket x better = record {
  book = λ h. book_told b (Some x) b.orders b.heard b.announced better.feasible h.orders h;
  sound = λ h s. improved_sound b.problem b.settings.gap (one_kept b.best) (one_kept (Some x))
      (ledger_of b) (solution_improves b x h.settings.gap better) s;
}

-- the death of a rank, by its state
death_by : (b : BookState) (r : ℕ) → r < length b.ranks → (s : State) → state_at b.ranks r ≡ s
    → Keeps b (killed_at s r b)
death_by b r l Absent e =
    alike_keeps b r (Dead Died) l (absent_or_idle (state_at b.ranks r) (inl e))
death_by b r l Idle e =
    alike_keeps b r (Dead Died) l (absent_or_idle (state_at b.ranks r) (inr e))
death_by b r l (Racing racer) e = record {
  book = λ h. death_in_race_keeps b r racer l e h.race h;
  sound = λ h s. death_in_race_sound b r racer l e h.race s;
}
death_by b r l (Active work) e = record {
  book = death_at_work_keeps b r work l e;
  sound = death_at_work_sound b r work l e;
}
death_by b r l (Dead how) e = record { book = λ h. h; sound = λ h s. s }

pub death_keeps : DeathKeeps
death_keeps b r l = death_by b r l (state_at b.ranks r) refl

idle_death_by : (b : BookState) (r : ℕ) (s : State) → state_at b.ranks r ≡ s → ticket_at s ≡ None
    → KeepsLedger b (killed_at s r b)
idle_death_by b r Absent e none =
    same_ledger b r (Dead Died) (absent_or_idle (state_at b.ranks r) (inl e))
idle_death_by b r Idle e none =
    same_ledger b r (Dead Died) (absent_or_idle (state_at b.ranks r) (inr e))
idle_death_by b r (Racing racer) e none = absurd (none-some racer.ticket (sym none))
idle_death_by b r (Active work) e none = absurd (none-some work.ticket (sym none))
idle_death_by b r (Dead how) e none = refl

pub idle_death_none : IdleDeathIsNone
idle_death_none b r none = idle_death_by b r (state_at b.ranks r) refl none

pub death_has_taken_in : DeathHasTakenIn
death_has_taken_in b r work l is h =
    let raced = nothing_raced b r work h.race is in
    subst (λ s. HasTakenIn (ledger_of b) (ledger_of (killed_at s r b)) r (current_for work))
    (sym is)
    (death_takes_in b r work l is raced h.ledger.ticketed.named)

pub racer_death_has_ended : RacerDeathHasEnded
racer_death_has_ended b r racer l is h =
    subst (λ s. HasEnded (ledger_of b) (ledger_of (killed_at s r b))) (sym is)
    (death_in_race_ends b r racer l is h.race)

pub hand_keeps_all : HandKeeps
hand_keeps_all b r work ticket number changes l is next rising =
    subst (λ s. Keeps b (handed_at s r changes b)) (sym is) (record {
      book = hand_keeps b r work l is number changes next rising;
      sound = λ h s. hand_sound b r work l is number changes next s;
    })

pub hand_has_handed : HandHasHanded
hand_has_handed b r work ticket number changes l is next =
    subst (λ s. HasHanded (root_of b.problem) (ledger_of b) (ledger_of (handed_at s r changes b)) r
    (current_for work) changes) (sym is)
    (hand_is_handed b r work l is number changes next)

-- a Done, by the rank's state
done_book_by : (b : BookState) (r : ℕ) → r < length b.ranks → (s : State) → state_at b.ranks r ≡ s
    → IsBook b → IsBook (done_at s r b)
done_book_by b r l Absent e h = h
done_book_by b r l Idle e h = h
done_book_by b r l (Racing racer) e h = done_in_race_keeps b r racer l e h.race h
done_book_by b r l (Active work) e h = done_at_work_keeps b r work l e h
done_book_by b r l (Dead how) e h = h

pub done_keeps_book : DoneKeepsBook
done_keeps_book b r ticket told count ending l h = done_book_by b r l (state_at b.ranks r) refl h

done_sound_by : (b : BookState) (r : ℕ) → r < length b.ranks → (s : State) → state_at b.ranks r ≡ s
    → ((c : Current) → IsCurrent (ledger_of b) r c
    → IsSearched b.problem b.settings.gap (one_kept b.best) c)
    → IsBook b → IsSoundBook b → IsSoundBook (done_at s r b)
done_sound_by b r l Absent e searched h s = s
done_sound_by b r l Idle e searched h s = s
done_sound_by b r l (Racing racer) e searched h s =
    let t = racing_entry b r racer l e h.race in
    let move = done_ends_race b r racer l e h.race t.0 t.1 in
    done_in_race_sound b r racer l e h.race t.0 t.1 (searched _ move.current) s
done_sound_by b r l (Active work) e searched h s =
    done_at_work_sound b r work l e h (searched (current_for work) (own_current b r work l e)) s
done_sound_by b r l (Dead how) e searched h s = s

pub done_keeps_sound : DoneKeepsSound
done_keeps_sound b r ticket told count ending l searched h s =
    done_sound_by b r l (state_at b.ranks r) refl searched h s

done_move_by : (b : BookState) (r : ℕ) → r < length b.ranks → (s : State) → state_at b.ranks r ≡ s
    → (c : Current) → current_of b.raced s ≡ Some c → IsBook b
    → HasDone (ledger_of b) (ledger_of (done_at s r b)) r c
done_move_by b r l Absent e c told h = absurd (none-some c told)
done_move_by b r l Idle e c told h = absurd (none-some c told)
done_move_by b r l (Racing racer) e c told h =
    let t = racing_entry b r racer l e h.race in
    let same = same_Some _ c
    (sym (ap (λ (o : Option Entry). current_of o (Racing racer)) t.1) ∙ told) in
    subst (λ d. HasDone (ledger_of b) (ledger_of (done_at (Racing racer) r b)) r d) same
    (done_ends_race b r racer l e h.race t.0 t.1)
done_move_by b r l (Active work) e c told h =
    subst (λ d. HasDone (ledger_of b) (ledger_of (done_at (Active work) r b)) r d)
    (same_Some (current_for work) c told)
    (done_works_off b r work l e h.ledger.ticketed.named)
done_move_by b r l (Dead how) e c told h = absurd (none-some c told)

pub done_has_done : DoneHasDone
done_has_done b r ticket told count ending c l h k =
    done_move_by b r l (state_at b.ranks r) refl c (current_is b r c h) k
