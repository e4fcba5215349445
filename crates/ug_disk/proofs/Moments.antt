-- How a run of calls resumes from moment to moment.
use Rattle.std.proofs.Common.{◌≡◌, ◌⊎◌, inl, inr, ⊎_elim, ℕ, List, [], ◌∷◌, ◌++◌, Option, None, Some, IfSome, refl, sym, ◌∙◌, ap, subst, append_assoc}
use Rattle.ug_disk.specs.declared.slot.Slot.{Slot}
use Rattle.ug_disk.specs.Slots.{SlotState}
use Rattle.ug_disk.specs.Histories.{Slots, History, Steps, Fails, moments, stepped}
use Rattle.ug_disk.specs.Crashes.{MayLeaveBoth, MightHaveLeft, Leaves}

abbrev pub Images : Type 1
Images = List ℕ → List ℕ → Type 0

-- what a crash now may leave has P, where it is known
abbrev pub LeavesNow : Images → Option History → Type 0
LeavesNow P told = IfSome told (λ history. (zero one : List ℕ)
    → MayLeaveBoth history.now zero one → P zero one)

-- before the first call
pub starts : (P : Images) (old : Option History) → LeavesNow P old → Leaves P old old
starts P None now = tt
starts P (Some old) now = record {
  since = [];
  later = refl;
  each = λ zero one left. ⊎_elim (now zero one) (λ none. absurd none) left;
}

-- one moment more
pub steps_on : (P : Images) (old mid new : Option History) (slot : Slot) (change : SlotState
    → SlotState)
    → Leaves P old mid → Steps mid new slot change → LeavesNow P new → Leaves P old new
steps_on P None mid new slot change so_far steps now = tt
steps_on P (Some old) None new slot change so_far steps now = absurd so_far
steps_on P (Some old) (Some mid) None slot change so_far steps now = absurd (cc steps)
steps_on P (Some old) (Some mid) (Some new) slot change so_far steps now = record {
  since = new.now ∷ so_far.since;
  later = (
      let is : new ≡ stepped slot change mid = cc steps in
      ap (λ (l : List Slots). new.now ∷ l) (ap (λ (h : History). h.before) is ∙ so_far.later)
      );
  each = λ zero one left. ⊎_elim (now zero one) (so_far.each zero one) left;
}

pub stays : (P : Images) (old mid new : Option History) → Leaves P old mid → new ≡ mid
    → Leaves P old new
stays P old mid new so_far same = subst (λ l. Leaves P old l) (sym same) so_far

-- a call that failed
pub fails_on : (P : Images) (old mid new : Option History) (slot : Slot) (change : SlotState
    → SlotState)
    → Leaves P old mid → Fails mid new slot change → LeavesNow P new → Leaves P old new
fails_on P old mid new slot change so_far (inl same) now = stays P old mid new so_far same
fails_on P old mid new slot change so_far (inr shakes) now =
    steps_on P old mid new slot (λ state. record (change state) { bytes = shakes.bytes }) so_far
    shakes.steps now

among_more : (those more : List Slots) (zero one : List ℕ) → MightHaveLeft those zero one
    → MightHaveLeft (those ++ more) zero one
among_more [] more zero one left = absurd left
among_more (slots ∷ those) more zero one (inl here) = inl here
among_more (slots ∷ those) more zero one (inr there) = inr (among_more those more zero one there)

among_either : (those more : List Slots) (zero one : List ℕ)
    → MightHaveLeft (those ++ more) zero one
    → MightHaveLeft those zero one ⊎ MightHaveLeft more zero one
among_either [] more zero one left = inr left
among_either (slots ∷ those) more zero one (inl here) = inl (inl here)
among_either (slots ∷ those) more zero one (inr there) = ⊎_elim (λ left. inl (inr left)) (λ left.
    inr left) (among_either those more zero one there)

-- one run after another
pub joins : (P : Images) (old mid new : Option History) → Leaves P old mid → Leaves P mid new
    → Leaves P old new
joins P None mid new first second = tt
joins P (Some old) None new first second = absurd first
joins P (Some old) (Some mid) None first second = absurd second
joins P (Some old) (Some mid) (Some new) first second = record {
  since = second.since ++ first.since;
  later = second.later ∙ ap (λ (l : List Slots). second.since ++ l) first.later
      ∙ sym (append_assoc second.since first.since (moments old));
  each = λ zero one left. ⊎_elim
      (λ late. second.each zero one (among_more second.since (mid.now ∷ []) zero one late))
      (λ early. first.each zero one early)
      (among_either second.since (first.since ++ old.now ∷ []) zero one
      (subst (λ (l : List Slots). MightHaveLeft l zero one)
      (append_assoc second.since first.since (old.now ∷ [])) left));
}

-- facts about fewer images
pub weakens : (P Q : Images) (old new : Option History) → ((zero one : List ℕ) → P zero one
    → Q zero one) → Leaves P old new → Leaves Q old new
weakens P Q None new is leaves = tt
weakens P Q (Some old) None is leaves = absurd leaves
weakens P Q (Some old) (Some new) is leaves = record {
  since = leaves.since;
  later = leaves.later;
  each = λ zero one left. is zero one (leaves.each zero one left);
}
