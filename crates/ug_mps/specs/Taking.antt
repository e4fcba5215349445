-- What the reader does with a line.
use Rattle.std.specs.Prelude.{◌≡◌, ℕ, ◌==◌, Bool, false, true, List, [], ◌∷◌, length, Some, Result}
use Rattle.std.specs.Prelude.{⊤}
use Rattle.std.specs.List.{list_all}
use Rattle.ug_lines.specs.Lines.{Line}
use Rattle.ug_lines.specs.Words.{is_word_byte}
use Rattle.ug_drafts.specs.declared.fault.Kind.{Kind}
use Rattle.ug_drafts.specs.declared.fault.MpsError.{MpsError}
use Rattle.ug_mps.specs.declared.draft.Draft.{Draft}
use Rattle.ug_mps.specs.Drafts.{Takes}
use Rattle.ug_mps.specs.Faults.{Complaint, shape_in}
use Rattle.ug_mps.specs.History.{section_of}
use Rattle.ug_mps.specs.Says.{data_fault, formed_says, words_fault, words_say, line_fault}
use Rattle.ug_mps.specs.Says.{line_says}

-- each word has bytes of words alone, and one or more
abbrev pub AreWords : List (List ℕ) → Type 0
AreWords [] = Unit {0}
AreWords (w ∷ ws) = ((list_all is_word_byte w ≡ true) × ((length w == 0) ≡ false)) × AreWords ws

-- the word is the first of the words
abbrev pub IsFirst : List ℕ → List (List ℕ) → Type 0
IsFirst word [] = ⊥
IsFirst word (w ∷ ws) = w ≡ word

-- the word as a fault of a kind
abbrev pub as_fault : List ℕ → Kind → Complaint
as_fault word kind = record { kind = kind; word = Some word }

-- a data line of these words was taken
abbrev pub TakesData : ℕ → List (List ℕ) → Draft → Draft → Result ⊤ MpsError → Type 0
TakesData n words old new result =
    Takes n (λ h. data_fault h (section_of h) words)
    (λ h. formed_says h (section_of h) n (shape_in (section_of h) words)) old new result

-- a line of these words was taken
abbrev pub TakesWords : ℕ → Bool → List (List ℕ) → Draft → Draft → Result ⊤ MpsError → Type 0
TakesWords n is_data_line words old new result =
    Takes n (λ h. words_fault h is_data_line words) (λ h. words_say h n is_data_line words) old new
    result

-- the line was taken
abbrev pub TakesLine : ℕ → Line → Draft → Draft → Result ⊤ MpsError → Type 0
TakesLine n line old new result =
    Takes n (λ h. line_fault h line) (λ h. line_says h n line) old new result
