-- A buffer that is filled piece by piece.
use Rattle.std.proofs.Common.{◌≡◌, ℕ, ◌+◌, ◌≤◌, List, ◌++◌, length, take, drop, sym, ◌∙◌, ap, arith}
use Rattle.std.proofs.lemmas.List.{length-drop, drop-drop}
use Rattle.std.proofs.Math.Seq.{take-add}

module _ (n g : ℕ) (all buffer after left rest : List ℕ) where
  pub goes_on : n ≤ length all → take n buffer ≡ take n all → left ≡ drop n all
      → take (n + g) after ≡ take n buffer ++ take g left → rest ≡ drop g left → g ≤ length left
      → (n + g ≤ length all) × (take (n + g) after ≡ take (n + g) all) × (rest ≡ drop (n + g) all)
  goes_on few same is filled behind enough = (
    omega (arith, few, enough, ap length is, length-drop n all),
    filled ∙ (λ i. same i ++ take g (is i)) ∙ sym (take-add n g all),
    behind ∙ ap (drop g) is ∙ drop-drop g n all,
  )
