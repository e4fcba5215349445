use Rattle.std.proofs.Common.{◌≡◌, ◌≢◌, ◌∙◌, ℕ, List, [], ◌∷◌, length, map, refl, arith, Bor}
use Rattle.std.proofs.lemmas.Bool.{ltb-true, ltb-false}
use Rattle.ug_lines.specs.Shapes.{column_of, coefficients_of}
use Rattle.ug_lines.proofs.shape.column.Goals as goal
use Rattle.ug_lines.proofs.shape.column.Goals.{in_default-via-then-words-lt3, in_default-via-else-words-lt3+else-words-lt4}

-- no marker by the number of words
column-other : (words : List (Bor (List ℕ))) → length words ≢ 3
    → coefficients_of (map (λ word. word.now) words) ≡ column_of (map (λ word. word.now) words)
column-other [] h = refl
column-other (a ∷ []) h = refl
column-other (a ∷ b ∷ []) h = refl
column-other (a ∷ b ∷ d ∷ []) h = absurd (h refl)
column-other (a ∷ b ∷ d ∷ e ∷ more) h = refl

pub returns-in_default : goal.returns-in_default
returns-in_default c = c.coefficients-in_default.ensures ∙ elim c.in_default.branch [
  | in_default-via-then-words-lt3 w ↦ column-other c.args.words.now (omega (arith, ltb-true, ltb-false))
  | in_default-via-else-words-lt3+else-words-lt4 w ↦ column-other c.args.words.now (omega (arith, ltb-true, ltb-false))
]
