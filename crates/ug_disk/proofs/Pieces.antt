-- How the bytes of a slot come, piece by piece.
use Rattle.std.proofs.Common.{◌≡◌, ℕ, List, ◌++◌, length, take, drop, Option, None, Some, refl, sym, ◌∙◌, ap, append_assoc, take-append-drop}
use Rattle.std.proofs.lemmas.List.{take_at}
use Rattle.ug_disk.specs.declared.slot.Slot.{Slot}
use Rattle.ug_disk.specs.Histories.{History, Reads, slot_of}

-- a front with the next piece is a prefix
front_more : (there bytes piece later : List ℕ) (m n : ℕ) → bytes ≡ take m there
    → piece ≡ take n (drop m there)
    → later ≡ bytes ++ piece → later ≡ take (length later) there
front_more there bytes piece later m n front next is =
    let parts : later ≡ take m there ++ take n (drop m there) = is ∙ (λ i. front i ++ next i) in
    let whole : later ++ drop n (drop m there) ≡ there =
    ap (λ (l : List ℕ). l ++ drop n (drop m there)) parts
    ∙ append_assoc (take m there) (take n (drop m there)) (drop n (drop m there))
    ∙ ap (λ (l : List ℕ). take m there ++ l) (take-append-drop n (drop m there))
    ∙ take-append-drop m there in
    sym (take_at later (drop n (drop m there)) (length later) refl)
    ∙ ap (λ (l : List ℕ). take (length later) l) whole

pub more_came : (told : Option History) (slot : Slot) (bytes piece later : List ℕ) (m n k : ℕ)
    → k ≡ length later
    → Reads told slot (λ there. bytes ≡ take m there)
    → Reads told slot (λ there. piece ≡ take n (drop m there))
    → later ≡ bytes ++ piece → Reads told slot (λ there. later ≡ take k there)
more_came None slot bytes piece later m n k size front next is = tt
more_came (Some told) slot bytes piece later m n k size front next is =
    front_more (slot_of slot told.now).bytes bytes piece later m n front next is
    ∙ ap (λ (j : ℕ). take j (slot_of slot told.now).bytes) (sym size)
