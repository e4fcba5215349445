-- How a body is written behind a gate, block by block.
use Rattle.std.proofs.Common.{◌≡◌, ℕ, ◌+◌, ◌<◌, ◌≤◌, List, ◌++◌, length, take, drop, refl, sym, subst, ◌∙◌, ap, arith, length-append}
use Rattle.std.proofs.lemmas.List.{take_at, take_all, take-take, drop-take, drop-append-le, length-take, length-take-le, length-drop}
use Rattle.std.proofs.Math.Seq.{take-add}
use Rattle.ug_disk.specs.Slots.{put_at}
use Rattle.ug_checkpoint.specs.Gates.{HasBehind, HasBody}

-- the front of a body that is written has its place
pub behind_fits : (body bytes : List ℕ) (w : ℕ) → 0 < length bytes → w ≤ length body
    → HasBehind (take w body) bytes → w + 1 ≤ length bytes
behind_fits body bytes w some within behind =
    let size : length (take w body) ≡ w = length-take-le w body within in
    let front = ap (λ (l : List ℕ). length l) behind in
    omega (
      arith,
      size,
      front,
      length-take (length (take w body)) (drop 1 bytes),
      length-drop 1 bytes,
    )

behind_put : (piece bytes : List ℕ) (w : ℕ) → w + 1 ≤ length bytes
    → drop 1 (put_at (w + 1) piece bytes)
    ≡ (take w (drop 1 bytes) ++ piece) ++ drop (w + 1 + length piece) bytes
behind_put piece bytes w here =
    let size = length-take-le (w + 1) bytes here in
    let order : w + 1 ≡ 1 + w = omega arith in
    drop-append-le 1 (take (w + 1) bytes ++ piece) (drop (w + 1 + length piece) bytes) (omega
    (arith, size, length-append (take (w + 1) bytes) piece))
    ∙ ap (λ (l : List ℕ). l ++ drop (w + 1 + length piece) bytes)
    (drop-append-le 1 (take (w + 1) bytes) piece (omega (arith, size))
    ∙ ap (λ (l : List ℕ). l ++ piece) (ap (λ k. drop 1 (take k bytes)) order ∙ drop-take 1 w bytes))

-- one block more
pub behind_more : (body piece bytes : List ℕ) (w n : ℕ) → 0 < length bytes → w ≤ length body
    → HasBehind (take w body) bytes → piece ≡ take n (drop w body)
    → HasBehind (take (w + n) body) (put_at (w + 1) piece bytes)
behind_more body piece bytes w n some within behind next =
    let size : length (take w body) ≡ w = length-take-le w body within in
    let front : take w (drop 1 bytes) ≡ take w body = ap (λ k. take k (drop 1 bytes)) (sym size)
    ∙ behind in
    let here : w + 1 ≤ length bytes = behind_fits body bytes w some within behind in
    let whole : drop 1 (put_at (w + 1) piece bytes) ≡ take (w + n) body
    ++ drop (w + 1 + length piece) bytes =
    behind_put piece bytes w here
    ∙ ap (λ (l : List ℕ). l ++ drop (w + 1 + length piece) bytes)
    ((λ i. front i ++ next i) ∙ sym (take-add w n body)) in
    ap (λ (l : List ℕ). take (length (take (w + n) body)) l) whole
    ∙ take_at (take (w + n) body) (drop (w + 1 + length piece) bytes) (length (take (w + n) body))
    refl

-- a body of which nothing is left is written
pub behind_all : (body bytes : List ℕ) (w : ℕ) → length body ≤ w → HasBehind (take w body) bytes
    → HasBehind body bytes
behind_all body bytes w all behind =
    subst (λ (l : List ℕ). HasBehind l bytes) (take_all w body all) behind

-- what follows the gate begins with the body, so where all of it stands, the body does
pub body_of_all : (body bytes image : List ℕ) → HasBehind body bytes
    → HasBody (drop 1 bytes) image → HasBody body image
body_of_all body bytes image behind all =
    let size = ap (λ (l : List ℕ). length l) behind in
    let short : length body ≤ length (drop 1 bytes) = omega
    (arith, size, length-take (length body) (drop 1 bytes)) in (
      all.0,
      sym (take-take (length body) (length (drop 1 bytes)) (drop 1 image) short)
          ∙ ap (λ (l : List ℕ). take (length body) l) all.1 ∙ behind,
    )
