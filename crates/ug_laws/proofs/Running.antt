-- That a report is received only before the end is sent.
use Rattle.std.proofs.Common.{◌≡◌, inl, inr, eqb, ℕ, ℤ, List, [], ◌∷◌, sym, ap, subst, ◌∙◌}
use Rattle.std.specs.Prelude.{Contains}
use Rattle.std.specs.Option.{option_to_list}
use Rattle.std.proofs.lemmas.List.Elements.{Contains-append_cases, Contains-append_left, Contains-append_right}
use Rattle.ug_frames.specs.declared.order.Order.{Order}
use Rattle.ug_frames.specs.declared.order.Order.TheVariants.{Setup, End}
use Rattle.ug_rules.specs.declared.told.Told.{Told}
use Rattle.ug_rules.specs.State.{BookState}
use Rattle.ug_coord.specs.Actions.{Broke, Came, Cause, Closed, Closing, Decided, Action, NextState, Ended, Failed, Halted, Hearing, IsTrace, IsLost, Launched, Lost, MayBeRead, MayDecide, Nonsense, Pace, Passed}
use Rattle.ug_coord.specs.Actions.{Sent, SetUp, CoordinatorState, Took, Unclosed, Unfed, Unread, Unsent, Unwritten}
use Rattle.ug_coord.specs.Actions.{Kept as Saved}
use Rattle.ug_coord.specs.Coordinators.{beginning}
use Rattle.ug_serve.proofs.Honesty.{nothing_in}
use Rattle.ug_serve.proofs.Told.{in_front}
use Rattle.ug_laws.specs.Workers.{IsUnused}
use Rattle.ug_laws.proofs.Traffic.{left_in, left_of, only_there, orders_to, sent_in, to_rank}
use Rattle.ug_laws.proofs.Worked.{none_ends}

-- ---- once the end is sent nothing else is done

abbrev Closes : CoordinatorState → Type 0
Closes s = s.pace ≡ Closing

not_hearing : (pace : Pace) → pace ≡ Hearing → pace ≡ Closing → ⊥
not_hearing pace hears closes = subst MayBeRead (sym hears ∙ closes) tt

not_read : (pace : Pace) → MayBeRead pace → pace ≡ Closing → ⊥
not_read pace may closes = subst MayBeRead closes may

not_decided : (pace : Pace) → MayDecide pace → pace ≡ Closing → ⊥
not_decided pace may closes = subst MayDecide closes may

lost_closes : (old new : CoordinatorState) (rank : ℕ) (cause : Cause) → IsLost old new rank cause → Closes old → Closes new
lost_closes old new rank Ended t closes = absurd (not_hearing old.pace t.why.hearing.decided closes)
lost_closes old new rank Failed t closes = t.pace ∙ closes
lost_closes old new rank Nonsense t closes = absurd (not_read old.pace t.why.reading.decided closes)

stays_closing : (old : CoordinatorState) (action : Action) (new : CoordinatorState) → NextState old action new → Closes old → Closes new
stays_closing old (Launched rank) new does closes = ap (λ (s : CoordinatorState). s.pace) does.1 ∙ closes
stays_closing old (SetUp rank bytes) new does closes = ap (λ (s : CoordinatorState). s.pace) does.rest ∙ closes
stays_closing old (Closed rank) new does closes = ap (λ (s : CoordinatorState). s.pace) does.rest
stays_closing old (Came rank bytes) new does closes =
    absurd (not_hearing old.pace does.hearing.decided closes)
stays_closing old (Took rank report answer) new does closes =
    absurd (not_read old.pace does.reading.decided closes)
stays_closing old (Lost rank cause) new does closes = lost_closes old new rank cause does closes
stays_closing old Decided new does closes = absurd (not_decided old.pace does.deciding.due closes)
stays_closing old (Sent rank order) new does closes = ap (λ (s : CoordinatorState). s.pace) does.rest ∙ closes
stays_closing old (Unsent rank order) new does closes = ap (λ (s : CoordinatorState). s.pace) does.rest ∙ closes
stays_closing old (Passed rank order) new does closes = ap (λ (s : CoordinatorState). s.pace) does.rest ∙ closes
stays_closing old Broke new does closes = absurd (not_hearing old.pace does.hearing.decided closes)
stays_closing old (Unclosed rank) new does closes = ap (λ (s : CoordinatorState). s.pace) does.rest
stays_closing old (Halted steps) new does closes = absurd (not_decided old.pace does.deciding.due closes)
stays_closing old (Unwritten rank order) new does closes = ap (λ (s : CoordinatorState). s.pace) does.rest ∙ closes
stays_closing old (Unfed rank bytes) new does closes =
    absurd (not_hearing old.pace does.hearing.decided closes)
stays_closing old Unread new does closes = absurd (not_read old.pace does.0.decided closes)
stays_closing old Saved new does closes = ap (λ (s : CoordinatorState). s.pace) does.rest ∙ closes

all_closing : (old : CoordinatorState) (actions : List Action) (new : CoordinatorState) → IsTrace old actions new → Closes old
    → Closes new
all_closing old [] new same closes = ap (λ (s : CoordinatorState). s.pace) same ∙ closes
all_closing old (action ∷ actions) new (mid, does, more) closes =
    all_closing mid actions new more (stays_closing old action mid does closes)

-- ---- an action that reports the end

-- no end left the queue
abbrev NoneEnds : List Told → Type 0
NoneEnds left = (rank : ℕ) → Contains left (record { rank = rank; order = End }) → ⊥

end_closes : (gap : ℤ) (r : ℕ) (old : CoordinatorState) (action : Action) (new : CoordinatorState) → NextState old action new
    → NoneEnds (option_to_list (left_in action)) → Contains (to_rank r (sent_in gap action)) End → Closes new
end_closes gap r old (Launched rank) new does none there = absurd (nothing_in End there)
end_closes gap r old (SetUp rank bytes) new does none there =
    absurd (cc (only_there (eqb rank r) (Setup gap bytes) End there).1)
end_closes gap r old (Closed rank) new does none there = ap (λ (s : CoordinatorState). s.pace) does.rest
end_closes gap r old (Came rank bytes) new does none there = absurd (nothing_in End there)
end_closes gap r old (Took rank report answer) new does none there = absurd (nothing_in End there)
end_closes gap r old (Lost rank cause) new does none there = absurd (nothing_in End there)
end_closes gap r old Decided new does none there = absurd (nothing_in End there)
end_closes gap r old (Sent rank order) new does none there =
    let told : Told = record { rank = rank; order = order } in
    absurd (none rank (subst (λ (o : Order). Contains (told ∷ []) (record { rank = rank; order = o }))
    (only_there (eqb rank r) order End there).1 (in_front told [])))
end_closes gap r old (Unsent rank order) new does none there = absurd (nothing_in End there)
end_closes gap r old (Passed rank order) new does none there = absurd (nothing_in End there)
end_closes gap r old Broke new does none there = absurd (nothing_in End there)
end_closes gap r old (Unclosed rank) new does none there = absurd (nothing_in End there)
end_closes gap r old (Halted steps) new does none there = absurd (nothing_in End there)
end_closes gap r old (Unwritten rank order) new does none there = absurd (nothing_in End there)
end_closes gap r old (Unfed rank bytes) new does none there = absurd (nothing_in End there)
end_closes gap r old Unread new does none there = absurd (nothing_in End there)
end_closes gap r old Saved new does none there = absurd (nothing_in End there)

closed_by : (gap : ℤ) (r : ℕ) (old : CoordinatorState) (actions : List Action) (new : CoordinatorState) → IsTrace old actions new
    → NoneEnds (left_of actions) → Contains (orders_to gap r actions) End → Closes new
closed_by gap r old [] new same none there = absurd (nothing_in End there)
closed_by gap r old (action ∷ actions) new (mid, does, more) none there =
    elim (Contains-append_cases (to_rank r (sent_in gap action)) (orders_to gap r actions) End there) [
      | inl here ↦ all_closing mid actions new more (end_closes gap r old action mid does
          (λ rank left. none rank (Contains-append_left (option_to_list (left_in action)) (left_of actions) _ left)) here)
      | inr later ↦ closed_by gap r mid actions new more
          (λ rank left. none rank (Contains-append_right (option_to_list (left_in action)) (left_of actions) _ left)) later
    ]

-- if a report may be read no end was sent
pub none_told : (b : BookState) (faults : ℕ) → IsUnused b → (done : List Action) (s : CoordinatorState)
    → IsTrace (beginning b faults) done s → MayBeRead s.pace → (r : ℕ)
    → Contains (orders_to b.settings.gap r done) End → ⊥
none_told b faults unused done s so may r there =
    not_read s.pace may (closed_by b.settings.gap r (beginning b faults) done s so
    (none_ends b faults unused done s so) there)
