-- The record of a change restores the slot before it.
use Rattle.std.proofs.Common.{◌≡◌, ℕ, ◌+◌, ◌-◌, ◌≤◌, List, [], ◌∷◌, ◌++◌, length, take, drop, sym, ◌∙◌, ap, arith, length-append, take-append-drop}
use Rattle.std.proofs.lemmas.List.{take_at, drop_at, drop-drop, length-take-le, append_assoc, length_push}
use Rattle.ug_disk.specs.declared.slot.Span.{Span}
use Rattle.ug_disk.specs.Slots.{SlotState, put_at}

abbrev state : List ℕ → ℕ → ℕ → List Span → SlotState
state bytes shortest longest loose =
    record { bytes = bytes; shortest = shortest; longest = longest; loose = loose }

without_last : {X : Type 0} → (xs : List X) (x : X)
    → take (length (xs ++ x ∷ []) - 1) (xs ++ x ∷ []) ≡ xs
without_last xs x = take_at xs (x ∷ []) (length (xs ++ x ∷ []) - 1) (omega
    (arith, length_push xs x))

front_again : (loose pending : List Span) (span : Span) → pending ≡ loose ++ span ∷ []
    → take (length pending - 1) pending ≡ loose
front_again loose pending span more =
    ap (λ (l : List Span). take (length l - 1) l) more ∙ without_last loose span

-- a list is its front, the n that follow, and the rest
three_parts : (bytes : List ℕ) (at n : ℕ)
    → take at bytes ++ take n (drop at bytes) ++ drop (at + n) bytes ≡ bytes
three_parts bytes at n =
    append_assoc (take at bytes) (take n (drop at bytes)) (drop (at + n) bytes)
    ∙ ap (λ (l : List ℕ). take at bytes ++ (take n (drop at bytes) ++ l)) (sym
    (drop-drop n at bytes))
    ∙ ap (λ (l : List ℕ). take at bytes ++ l) (take-append-drop n (drop at bytes))
    ∙ take-append-drop at bytes

front_put : (at : ℕ) (piece bytes : List ℕ) → at ≤ length bytes
    → take at (put_at at piece bytes) ≡ take at bytes
front_put at piece bytes here =
    ap (λ (l : List ℕ). take at l) (append_assoc (take at bytes) piece
    (drop (at + length piece) bytes))
    ∙ take_at (take at bytes) (piece ++ drop (at + length piece) bytes) at (length-take-le at bytes
    here)

back_put : (at : ℕ) (piece bytes : List ℕ) → at ≤ length bytes
    → drop (at + length piece) (put_at at piece bytes) ≡ drop (at + length piece) bytes
back_put at piece bytes here =
    drop_at (take at bytes ++ piece) (drop (at + length piece) bytes) (at + length piece) (omega
    (arith, length-append (take at bytes) piece, length-take-le at bytes here))

-- with the bytes that were there put back
bytes_restored : (at : ℕ) (piece bytes over : List ℕ) → at ≤ length bytes
    → over ≡ take (length piece) (drop at bytes)
    → take at (put_at at piece bytes) ++ over ++ drop (at + length piece) (put_at at piece bytes) ≡
    bytes
bytes_restored at piece bytes over here is =
    (λ i. front_put at piece bytes here i ++ is i ++ back_put at piece bytes here i)
    ∙ three_parts bytes at (length piece)

-- the slot is back after a write, whose loose place stands last
pub restores_write : (bytes later : List ℕ) (loose pending : List Span) (shortest longest : ℕ)
    (slot : SlotState) (at : ℕ) (piece over : List ℕ) (span : Span)
    → state bytes shortest longest loose ≡ slot → at ≤ length bytes
    → over ≡ take (length piece) (drop at bytes) → later ≡ put_at at piece bytes
    → pending ≡ loose ++ span ∷ []
    → state (take at later ++ over ++ drop (at + length piece) later) shortest longest
    (take (length pending - 1) pending) ≡ slot
restores_write bytes later loose pending shortest longest slot at piece over span whole here is
    wrote more =
    (λ i. state (
    (ap (λ (l : List ℕ). take at l ++ over ++ drop (at + length piece) l) wrote
    ∙ bytes_restored at piece bytes over here is) i
    ) shortest longest (front_again loose pending span more i))
    ∙ whole

-- and after one that failed on its way
pub restores_loosened : (bytes : List ℕ) (loose pending : List Span) (shortest longest : ℕ)
    (slot : SlotState) (at : ℕ) (piece over : List ℕ) (span : Span)
    → state bytes shortest longest loose ≡ slot
    → over ≡ take (length piece) (drop at bytes) → pending ≡ loose ++ span ∷ []
    → state (take at bytes ++ over ++ drop (at + length piece) bytes) shortest longest
    (take (length pending - 1) pending) ≡ slot
restores_loosened bytes loose pending shortest longest slot at piece over span whole is more =
    (λ i. state (
    (ap (λ (l : List ℕ). take at bytes ++ l ++ drop (at + length piece) bytes) is
    ∙ three_parts bytes at (length piece)) i
    ) shortest longest (front_again loose pending span more i))
    ∙ whole
