-- The count of a crew's faults along the actions, and what shows that a rank is lost.
use Rattle.std.proofs.Common.{◌≡◌, ◌⊎◌, inl, inr, ℕ, ◌≤◌, true, false, List, [], ◌∷◌, ◌++◌, sym, ap, subst, ◌∙◌, arith}
use Rattle.std.proofs.lemmas.Bool.{cases_lt, false≢true}
use Rattle.std.proofs.lemmas.List.Elements.{Contains-append_left, Contains-append_right, Contains-push}
use Rattle.std.specs.Prelude.{Contains}
use Rattle.ug_io.specs.Outside.{Rose}
use Rattle.ug_ranks.specs.Looks.{is_alive}
use Rattle.ug_ranks.specs.States.{state_at}
use Rattle.ug_coord.specs.Causes.{IsAtFault, IsEndOf, IsShownGone}
use Rattle.ug_coord.specs.Actions.{Broke, Came, Cause, Closed, Decided, Action, NextState, Ended, Failed, Halted, IsCause, IsTrace, Kept as Saved, Launched, Lost, Nonsense, Passed}
use Rattle.ug_coord.specs.Actions.{Sent, SetUp, CoordinatorState, Took, Unclosed, Unfed, Unread, Unsent, Unwritten}
use Rattle.ug_coord.proofs.Causes.{Alive, action_lives}

-- ---- the count of faults never falls

pub rose_up : (old new : ℕ) → Rose old new → old ≤ new
rose_up old new (inl less) = omega (arith, less)
rose_up old new (inr full) = omega (arith, full.1)

pub cause_up : (old new : CoordinatorState) (rank : ℕ) (cause : Cause) → IsCause old new rank cause → old.faults ≤ new.faults
cause_up old new rank Ended is = rose_up old.faults new.faults is.faults
cause_up old new rank Failed is = elim is.1 [
  | inl before ↦ omega (arith, before.1)
  | inr rose ↦ rose_up old.faults new.faults rose
]
cause_up old new rank Nonsense is = omega (arith, is.faults)

pub same_faults : (old new : CoordinatorState) → new.faults ≡ old.faults → old.faults ≤ new.faults
same_faults old new same = omega (arith, same)

pub faults_up : (old : CoordinatorState) (action : Action) (new : CoordinatorState) → NextState old action new → old.faults ≤ new.faults
faults_up old (Launched rank) new does = same_faults old new (ap (λ (s : CoordinatorState). s.faults) does.1)
faults_up old (SetUp rank bytes) new does = same_faults old new (ap (λ (s : CoordinatorState). s.faults) does.rest)
faults_up old (Closed rank) new does = same_faults old new (ap (λ (s : CoordinatorState). s.faults) does.rest)
faults_up old (Came rank bytes) new does = same_faults old new (ap (λ (s : CoordinatorState). s.faults) does.rest)
faults_up old (Took rank report answer) new does =
    same_faults old new (ap (λ (s : CoordinatorState). s.faults) does.rest)
faults_up old (Lost rank cause) new does = cause_up old new rank cause does.why
faults_up old Decided new does = same_faults old new (ap (λ (s : CoordinatorState). s.faults) does.rest)
faults_up old (Sent rank order) new does = same_faults old new (ap (λ (s : CoordinatorState). s.faults) does.rest)
faults_up old (Unsent rank order) new does = rose_up old.faults new.faults does.faults
faults_up old (Passed rank order) new does = same_faults old new (ap (λ (s : CoordinatorState). s.faults) does.rest)
faults_up old Broke new does = rose_up old.faults new.faults does.faults
faults_up old (Unclosed rank) new does = rose_up old.faults new.faults does.faults
faults_up old (Halted steps) new does = same_faults old new (ap (λ (s : CoordinatorState). s.faults) does.rest)
faults_up old (Unwritten rank order) new does = same_faults old new (ap (λ (s : CoordinatorState). s.faults) does.rest)
faults_up old (Unfed rank bytes) new does = same_faults old new (ap (λ (s : CoordinatorState). s.faults) does.rest)
faults_up old Unread new does = same_faults old new (ap (λ (s : CoordinatorState). s.faults) does.1)
faults_up old Saved new does = same_faults old new (ap (λ (s : CoordinatorState). s.faults) does.rest)

pub trace_up : (old : CoordinatorState) (actions : List Action) (new : CoordinatorState) → IsTrace old actions new → old.faults ≤ new.faults
trace_up old [] new same = same_faults old new (ap (λ (s : CoordinatorState). s.faults) same)
trace_up old (action ∷ actions) new (mid, does, more) =
    omega (arith, faults_up old action mid does, trace_up mid actions new more)

-- ---- if it rose

rose_on : (start old new : ℕ) → old ≤ new → Rose start old → Rose start new
rose_on start old new up (inl less) = inl (omega (arith, up, less))
rose_on start old new up (inr full) = elim (cases_lt start new) [
  | inl less ↦ inl less
  | inr past ↦ inr (full.0, omega (arith, up, past, full.1))
]

rose_since : (start old new : ℕ) → start ≤ old → Rose old new → Rose start new
rose_since start old new since (inl less) = inl (omega (arith, since, less))
rose_since start old new since (inr full) = elim (cases_lt start new) [
  | inl less ↦ inl less
  | inr past ↦ inr (omega (arith, since, past, full.0, full.1), omega (arith, since, past, full.1))
]

-- a turn failed only where it rose
abbrev IsToldSo : ℕ → CoordinatorState → Type 0
IsToldSo start s = s.link_failed ≡ true → Rose start s.faults

still_so : (start : ℕ) (old new : CoordinatorState) → new.link_failed ≡ old.link_failed → old.faults ≤ new.faults → IsToldSo start old
    → IsToldSo start new
still_so start old new same up so link_failed = rose_on start old.faults new.faults up (so (sym same ∙ link_failed))

told_so : (start : ℕ) (old : CoordinatorState) (action : Action) (new : CoordinatorState) → NextState old action new → start ≤ old.faults
    → IsToldSo start old → IsToldSo start new
told_so start old (Launched rank) new does since so =
    still_so start old new (ap (λ (s : CoordinatorState). s.link_failed) does.1) (faults_up old (Launched rank) new does) so
told_so start old (SetUp rank bytes) new does since so =
    still_so start old new (ap (λ (s : CoordinatorState). s.link_failed) does.rest) (faults_up old (SetUp rank bytes) new does) so
told_so start old (Closed rank) new does since so =
    still_so start old new (ap (λ (s : CoordinatorState). s.link_failed) does.rest) (faults_up old (Closed rank) new does) so
told_so start old (Came rank bytes) new does since so =
    still_so start old new (ap (λ (s : CoordinatorState). s.link_failed) does.rest) (faults_up old (Came rank bytes) new does) so
told_so start old (Took rank report answer) new does since so =
    still_so start old new (ap (λ (s : CoordinatorState). s.link_failed) does.rest) (faults_up old (Took rank report answer) new does) so
told_so start old (Lost rank cause) new does since so =
    still_so start old new does.link_failed (faults_up old (Lost rank cause) new does) so
told_so start old Decided new does since so =
    still_so start old new (ap (λ (s : CoordinatorState). s.link_failed) does.rest) (faults_up old Decided new does) so
told_so start old (Sent rank order) new does since so =
    still_so start old new (ap (λ (s : CoordinatorState). s.link_failed) does.rest) (faults_up old (Sent rank order) new does) so
told_so start old (Unsent rank order) new does since so =
    still_so start old new (ap (λ (s : CoordinatorState). s.link_failed) does.rest) (faults_up old (Unsent rank order) new does) so
told_so start old (Passed rank order) new does since so =
    still_so start old new (ap (λ (s : CoordinatorState). s.link_failed) does.rest) (faults_up old (Passed rank order) new does) so
told_so start old Broke new does since so = λ link_failed. rose_since start old.faults new.faults since does.faults
told_so start old (Unclosed rank) new does since so =
    still_so start old new (ap (λ (s : CoordinatorState). s.link_failed) does.rest) (faults_up old (Unclosed rank) new does) so
told_so start old (Halted steps) new does since so =
    still_so start old new (ap (λ (s : CoordinatorState). s.link_failed) does.rest) (faults_up old (Halted steps) new does) so
told_so start old (Unwritten rank order) new does since so =
    still_so start old new (ap (λ (s : CoordinatorState). s.link_failed) does.rest) (faults_up old (Unwritten rank order) new does) so
told_so start old (Unfed rank bytes) new does since so =
    still_so start old new (ap (λ (s : CoordinatorState). s.link_failed) does.rest) (faults_up old (Unfed rank bytes) new does) so
told_so start old Unread new does since so =
    still_so start old new (ap (λ (s : CoordinatorState). s.link_failed) does.1) (faults_up old Unread new does) so
told_so start old Saved new does since so =
    still_so start old new (ap (λ (s : CoordinatorState). s.link_failed) does.rest) (faults_up old Saved new does) so

-- ---- what shows that a rank is lost

alone : (action : Action) → Contains (action ∷ []) action
alone action = Contains-push [] action

lost_shows : (start : ℕ) (old new : CoordinatorState) (rank : ℕ) (cause : Cause) → IsCause old new rank cause
    → start ≤ old.faults → IsToldSo start old → IsShownGone start new.faults rank (Lost rank cause ∷ [])
lost_shows start old new rank Ended is since so = inl (rose_since start old.faults new.faults since is.faults)
lost_shows start old new rank Failed is since so = elim is.1 [
  | inl before ↦ inl (rose_on start old.faults new.faults (omega (arith, before.1)) (so before.0))
  | inr rose ↦ inl (rose_since start old.faults new.faults since rose)
]
lost_shows start old new rank Nonsense is since so = inr (inl (alone (Lost rank Nonsense)))

end_shows : (start : ℕ) (old : CoordinatorState) (action : Action) (new : CoordinatorState) (rank : ℕ) → NextState old action new
    → IsEndOf rank action → start ≤ old.faults → IsToldSo start old → IsShownGone start new.faults rank (action ∷ [])
end_shows start old (Launched other) new rank does ends since so = absurd ends
end_shows start old (SetUp other bytes) new rank does ends since so = absurd ends
end_shows start old (Closed other) new rank does ends since so = absurd ends
end_shows start old (Came other bytes) new rank does ends since so = absurd ends
end_shows start old (Took other report answer) new rank does ends since so = inr (inr (record {
  report = report;
  answer = answer;
  among = subst (λ (r : ℕ). Contains (Took other report answer ∷ []) (Took r report answer)) ends.0
      (alone (Took other report answer));
  deadly = ends.1;
}))
end_shows start old (Lost other cause) new rank does ends since so =
    subst (λ (r : ℕ). IsShownGone start new.faults r (Lost other cause ∷ [])) ends
    (lost_shows start old new other cause does.why since so)
end_shows start old Decided new rank does ends since so = absurd ends
end_shows start old (Sent other order) new rank does ends since so = absurd ends
end_shows start old (Unsent other order) new rank does ends since so =
    inl (rose_since start old.faults new.faults since does.faults)
end_shows start old (Passed other order) new rank does ends since so = absurd ends
end_shows start old Broke new rank does ends since so = absurd ends
end_shows start old (Unclosed other) new rank does ends since so = absurd ends
end_shows start old (Halted steps) new rank does ends since so = absurd ends
end_shows start old (Unwritten other order) new rank does ends since so = absurd ends
end_shows start old (Unfed other bytes) new rank does ends since so = absurd ends
end_shows start old Unread new rank does ends since so = absurd ends
end_shows start old Saved new rank does ends since so = absurd ends

-- among more actions
fault_in : (rank : ℕ) (before its after : List Action) → IsAtFault rank its → IsAtFault rank (before ++ (its ++ after))
fault_in rank before its after (inl bad) =
    inl (Contains-append_right before (its ++ after) (Lost rank Nonsense)
    (Contains-append_left its after (Lost rank Nonsense) bad))
fault_in rank before its after (inr answer) = inr (record {
  report = answer.report;
  answer = answer.answer;
  among = Contains-append_right before (its ++ after) (Took rank answer.report answer.answer)
      (Contains-append_left its after (Took rank answer.report answer.answer) answer.among);
  deadly = answer.deadly;
})

first_shows : (start mid new rank : ℕ) (action : Action) (actions : List Action) → mid ≤ new
    → IsShownGone start mid rank (action ∷ []) → IsShownGone start new rank (action ∷ actions)
first_shows start mid new rank action actions up (inl rose) = inl (rose_on start mid new up rose)
first_shows start mid new rank action actions up (inr fault) = inr (fault_in rank [] (action ∷ []) actions fault)

later_shows : (start new rank : ℕ) (action : Action) (actions : List Action) → IsShownGone start new rank actions
    → IsShownGone start new rank (action ∷ actions)
later_shows start new rank action actions (inl rose) = inl rose
later_shows start new rank action actions (inr (inl bad)) =
    inr (inl (Contains-append_right (action ∷ []) actions (Lost rank Nonsense) bad))
later_shows start new rank action actions (inr (inr answer)) = inr (inr (record {
  report = answer.report;
  answer = answer.answer;
  among = Contains-append_right (action ∷ []) actions (Took rank answer.report answer.answer) answer.among;
  deadly = answer.deadly;
}))

-- it is alive at the end, or that shows
trace_shows : (start : ℕ) (old : CoordinatorState) (actions : List Action) (new : CoordinatorState) (rank : ℕ) → IsTrace old actions new
    → start ≤ old.faults → IsToldSo start old → Alive old.book.ranks rank
    → Alive new.book.ranks rank ⊎ IsShownGone start new.faults rank actions
trace_shows start old [] new rank same since so alive =
    inl (subst (λ (s : CoordinatorState). Alive s.book.ranks rank) (sym same) alive)
trace_shows start old (action ∷ actions) new rank (mid, does, more) since so alive =
    elim (action_lives old action mid rank does alive) [
      | inl lives ↦ elim (trace_shows start mid actions new rank more
          (omega (arith, since, faults_up old action mid does)) (told_so start old action mid does since so) lives) [
            | inl now ↦ inl now
            | inr shows ↦ inr (later_shows start new.faults rank action actions shows)
          ]
      | inr ends ↦ inr (first_shows start mid.faults new.faults rank action actions (trace_up mid actions new more)
          (end_shows start old action mid rank does ends since so))
    ]

pub dead_is_shown : (old : CoordinatorState) (actions : List Action) (new : CoordinatorState) (rank : ℕ) → IsTrace old actions new
    → old.link_failed ≡ false → Alive old.book.ranks rank → is_alive (state_at new.book.ranks rank) ≡ false
    → IsShownGone old.faults new.faults rank actions
dead_is_shown old actions new rank trace whole alive dead =
    elim (trace_shows old.faults old actions new rank trace (omega arith)
    (λ link_failed. absurd (false≢true (sym whole ∙ link_failed))) alive) [
      | inl now ↦ absurd (false≢true (sym dead ∙ now))
      | inr shows ↦ shows
    ]
