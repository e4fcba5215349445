-- The last of the boxes left, and which points they have.
use Rattle.std.proofs.Common.{◌≡◌, ℕ, zero, suc, ℤ, ◌-◌, ◌<◌, ◌⊎◌, inl, inr, List, [], ◌∷◌, ◌++◌, length, take, slice_index_or, slice_set, All, Option, Some, None, MatchOption, refl, sym, ap, ◌∙◌, arith}
use Rattle.std.specs.List.{ItemBy}
use Rattle.std.proofs.lemmas.List.Elements.{All-head, All-tail}
use Rattle.ug_rows.specs.declared.area.Interval.{Interval}
use Rattle.ug_rows.specs.Boxes.{IsInside, IsInOne}
use Rattle.ug_base.specs.Fronts.{front_of}

-- all are those before the last, and the last
read_at : {A : Type 0} (items : List A) (n : ℕ) (last : A) → length items ≡ suc n → last ≡ slice_index_or items n last
    → items ≡ take n items ++ last ∷ []
read_at [] n last e h = absurd (omega (arith, e))
read_at (one ∷ []) zero last e h = ap (λ x. x ∷ []) (sym h)
read_at (one ∷ second ∷ items) zero last e h = absurd (omega (arith, e))
read_at (one ∷ items) (suc n) last e h = ap (λ xs. one ∷ xs) (read_at items n last (omega (arith, e)) h)

-- the last, where it was read, and none exactly where there is none
pub last_read : {R A : Type 0} (now : R → A) (items : List A) (at : ℕ) (read : Option R) → at ≡ length items - 1
    → ItemBy now items 0 at read → MatchOption read (items ≡ []) (λ last. items ≡ front_of items ++ now last ∷ [])
last_read now [] at None e h = refl
last_read now (one ∷ items) at None e h = absurd (omega (arith, h.3))
last_read now items at (Some last) e h =
    read_at items (length items - 1) (now last) (omega (arith, h.3.0))
    (h.1 ∙ ap (λ (n : ℕ). slice_index_or items n (now last)) e)

-- a box put behind the last, and another in the last one's place
set_last : {A : Type 0} (boxes : List A) (n : ℕ) (first second : A) → length boxes ≡ suc n
    → slice_set (boxes ++ first ∷ []) n second ≡ take n boxes ++ second ∷ first ∷ []
set_last [] n first second e = absurd (omega (arith, e))
set_last (area ∷ []) zero first second e = refl
set_last (area ∷ next ∷ boxes) zero first second e = absurd (omega (arith, e))
set_last (area ∷ boxes) (suc n) first second e = ap (λ bs. area ∷ bs) (set_last boxes n first second (omega (arith, e)))

pub halves_put : {A : Type 0} (boxes : List A) (first second : A) → 0 < length boxes
    → slice_set (boxes ++ first ∷ []) (length boxes - 1) second ≡ front_of boxes ++ second ∷ first ∷ []
halves_put boxes first second h = set_last boxes (length boxes - 1) first second (omega (arith, h))

pub in_one_front : (boxes more : List (List Interval)) (x : List ℤ) → IsInOne boxes x → IsInOne (boxes ++ more) x
in_one_front [] more x h = absurd h
in_one_front (area ∷ boxes) more x h = elim h [ inl a ↦ inl a | inr b ↦ inr (in_one_front boxes more x b) ]

-- in one of the boxes behind the front
pub in_one_behind : (boxes more : List (List Interval)) (x : List ℤ) → IsInOne more x → IsInOne (boxes ++ more) x
in_one_behind [] more x h = h
in_one_behind (area ∷ boxes) more x h = inr (in_one_behind boxes more x h)

pub in_one_split : (boxes : List (List Interval)) (area : List Interval) (x : List ℤ) → IsInOne (boxes ++ area ∷ []) x → IsInOne boxes x ⊎ IsInside area x
in_one_split [] area x h = elim h [ inl a ↦ inr a | inr b ↦ absurd b ]
in_one_split (first ∷ boxes) area x h = elim h [
  | inl a ↦ inl (inl a)
  | inr b ↦ elim (in_one_split boxes area x b) [ inl c ↦ inl (inr c) | inr d ↦ inr d ]
]

-- what holds of each box holds of the last
pub all_last : (P : List Interval → Type 0) (boxes : List (List Interval)) (last : List Interval) → All P (boxes ++ last ∷ []) → P last
all_last P [] last h = All-head P last [] h
all_last P (area ∷ boxes) last h = all_last P boxes last (All-tail P area (boxes ++ last ∷ []) h)
