-- A name, read as it is spelled.
use Rattle.std.proofs.Common.{◌≡◌, ℕ, ◌≤◌, true, List, [], ◌∷◌, ◌++◌, length, refl}
use Rattle.std.specs.List.{list_all, All}
use Rattle.std.proofs.lemmas.List.Sums.{AllPass-from_list_all, list_all-from_AllPass}
use Rattle.ug_lines.specs.Words.{is_word_byte}
use Rattle.ug_fields.specs.Reading.{small_at, word_at, name_at}
use Rattle.ug_fields.specs.Readers.{IsReader}
use Rattle.ug_fields.specs.Spelling.{name_field}
use Rattle.ug_fields.specs.Laws.{IsNameField}
use Rattle.ug_fields.proofs.Takes.{reworded, joined}
use Rattle.ug_fields.proofs.Simple.{fixed, small_reader}

abbrev IsWord : List ℕ → Type 0
IsWord word = All (λ b. is_word_byte b ≡ true) word

word_reader : (n : ℕ) → IsReader (λ w. (length w ≡ n) × IsWord w) (λ w. w) (word_at n)
unfolding word_at
word_reader n = fixed n (λ w. w) (λ w. w) (λ w. (length w ≡ n) × IsWord w) (list_all is_word_byte)
    (record {
      long = λ w good. good.0;
      back = λ bytes size h. refl;
      again = λ w good. refl;
      passes = λ w good. list_all-from_AllPass is_word_byte w good.1;
      good = λ bytes size h e. (size, AllPass-from_list_all is_word_byte bytes e);
    })

pub name_reader : IsReader IsNameField name_field name_at
unfolding name_at
name_reader =
    reworded (λ (w : List ℕ). Unit {0} × (((1 ≤ length w) × (length w ≤ 255)) × IsWord w))
    (λ w. (length w ∷ []) ++ w) IsNameField name_field _
    (λ w good. refl)
    (λ w good. record { some = good.1.0.0; short = good.1.0.1; bytes = good.1.1 })
    (λ w is. (tt, ((is.some, is.short), is.bytes)))
    (joined length (λ n. (1 ≤ n) × (n ≤ 255)) (λ n. n ∷ []) (small_at 1 255) (λ w. Unit {0}) IsWord
    (λ w. w) (λ n. word_at n.0 n.1)
    (small_reader 1 255)
    (λ n good. reworded (λ (w : List ℕ). (length w ≡ n) × IsWord w) (λ w. w)
    (λ (w : List ℕ). (Unit {0} × (length w ≡ n)) × IsWord w) (λ w. w) (word_at n)
    (λ w good. refl) (λ w good. ((tt, good.0), good.1)) (λ w good. (good.0.1, good.1))
    (word_reader n)))
