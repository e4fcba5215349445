use Rattle.std.proofs.Common.{◌≡◌, ◌≢◌, None, ℕ, List, [], ◌∷◌, length, map, refl, arith, Bor}
use Rattle.std.proofs.lemmas.Bool.{ltb-true, ltb-false}
use Rattle.ug_lines.specs.Shapes.{pairs_of}
use Rattle.ug_lines.proofs.shape.pairs.Goals as goal
use Rattle.ug_lines.proofs.shape.pairs.Goals.{in_default-via-then-words-lt2, in_default-via-else-words-lt2+else-words-lt3+then-words-lt4, in_default-via-else-words-lt2+else-words-lt3+else-words-lt4+else-words-lt5}

-- no pairs by the number of words
pairs-none : (words : List (Bor (List ℕ))) → length words ≢ 2 → length words ≢ 4 → None ≡ pairs_of (map (λ word. word.now) words)
pairs-none [] h k = refl
pairs-none (a ∷ []) h k = refl
pairs-none (a ∷ b ∷ []) h k = absurd (h refl)
pairs-none (a ∷ b ∷ d ∷ []) h k = refl
pairs-none (a ∷ b ∷ d ∷ e ∷ []) h k = absurd (k refl)
pairs-none (a ∷ b ∷ d ∷ e ∷ f ∷ more) h k = refl

pub returns-in_default : goal.returns-in_default
returns-in_default c = elim c.in_default.branch [
  | in_default-via-then-words-lt2 w ↦ pairs-none c.args.words.now (omega (arith, ltb-true, ltb-false)) (omega (arith, ltb-true, ltb-false))
  | in_default-via-else-words-lt2+else-words-lt3+then-words-lt4 w ↦ pairs-none c.args.words.now (omega (arith, ltb-true, ltb-false)) (omega (arith, ltb-true, ltb-false))
  | in_default-via-else-words-lt2+else-words-lt3+else-words-lt4+else-words-lt5 w ↦ pairs-none c.args.words.now (omega (arith, ltb-true, ltb-false)) (omega (arith, ltb-true, ltb-false))
]
