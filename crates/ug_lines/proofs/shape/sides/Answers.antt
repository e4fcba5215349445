use Rattle.std.proofs.Common.{◌≡◌, ◌≢◌, ◌∙◌, ℕ, List, [], ◌∷◌, Option, Some, length, map, option_map, take, drop, ◌-◌, refl, arith, rules, Bor}
use Rattle.std.proofs.lemmas.Bool.{ltb-true, ltb-false}
use Rattle.std.proofs.lemmas.List.{take_all}
use Rattle.ug_lines.specs.Shapes.{Shape, pairs_of, sides_of}
use Rattle.ug_lines.specs.Shapes.{sides as sides_shaped}
use Rattle.ug_lines.proofs.shape.sides.Goals as goal
use Rattle.ug_lines.proofs.shape.sides.Goals.{then-words-lt2, else-words-lt2+else-words-lt3+then-words-lt4, else-words-lt2+else-words-lt3+else-words-lt4+else-words-lt5}

-- a set's name before the pairs, by the number of words
sides-set : (set : Bor (List ℕ)) (words : List (Bor (List ℕ))) → length words ≢ 1 → length words ≢ 3
    → option_map (sides_shaped (Some set.now)) (pairs_of (map (λ word. word.now) words)) ≡ sides_of (map (λ word. word.now) (set ∷ words))
sides-set set [] h k = refl
sides-set set (a ∷ []) h k = absurd (h refl)
sides-set set (a ∷ b ∷ []) h k = refl
sides-set set (a ∷ b ∷ d ∷ []) h k = absurd (k refl)
sides-set set (a ∷ b ∷ d ∷ e ∷ []) h k = refl
sides-set set (a ∷ b ∷ d ∷ e ∷ f ∷ more) h k = refl

by_words : (words : List (Bor (List ℕ))) (s : Option Shape) → length words ≢ 0 → length words ≢ 2 → length words ≢ 4
    → ((set : Bor (List ℕ)) (more : List (Bor (List ℕ))) → words ≡ set ∷ more
    → s ≡ option_map (sides_shaped (Some set.now)) (pairs_of (map (λ word. word.now) more))) → s ≡ sides_of (map (λ word. word.now) words)
by_words [] s h k l is = absurd (h refl)
by_words (set ∷ more) s h k l is = is set more refl ∙ sides-set set more (omega arith) (omega arith)

-- what follows the first word
behind : {A : Type 0} (words : List A) (set : A) (more : List A) → words ≡ set ∷ more → take (length words - 1) (drop 1 words) ≡ more
behind words set more e = rw e (take_all _ more (omega arith))

pub returns-in-len1-up : goal.returns-in-len1-up
returns-in-len1-up c = elim c.in-len1-up-1.branch [
  | then-words-lt2 w ↦ by_words c.args.words.now _ (omega (arith, ltb-true, ltb-false)) (omega (arith, ltb-true, ltb-false)) (omega (arith, ltb-true, ltb-false)) (λ set more e. let tail = behind c.args.words.now set more e in search (rules, e, tail, c.sides_of_set-in-len1-up.ensures))
  | else-words-lt2+else-words-lt3+then-words-lt4 w ↦ by_words c.args.words.now _ (omega (arith, ltb-true, ltb-false)) (omega (arith, ltb-true, ltb-false)) (omega (arith, ltb-true, ltb-false)) (λ set more e. let tail = behind c.args.words.now set more e in search (rules, e, tail, c.sides_of_set-in-len1-up.ensures))
  | else-words-lt2+else-words-lt3+else-words-lt4+else-words-lt5 w ↦ by_words c.args.words.now _ (omega (arith, ltb-true, ltb-false)) (omega (arith, ltb-true, ltb-false)) (omega (arith, ltb-true, ltb-false)) (λ set more e. let tail = behind c.args.words.now set more e in search (rules, e, tail, c.sides_of_set-in-len1-up.ensures))
]
