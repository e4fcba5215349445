-- The incumbent's cutoff as a word, which is read without the lock: its distance from the floor of
-- the root box, or the largest word if there is no cutoff or it is further.
use Rattle.std.specs.Prelude.{ℕ, ℤ, pos, ◌+ℤ◌, ◌-ℤ◌, ◌-◌, ◌^◌, min, Option, Some, None, unsigned_abs}
use Rattle.std.specs.Prelude.{if◌then◌else◌, nat_eq}
use Rattle.ug_rows.specs.Sums.{box_floor}
use Rattle.ug_problem.specs.Instances.{Instance, root_of}
use Rattle.ug_rules.specs.State.{BookState, cutoff_of_best}

-- the largest word means no cutoff
abbrev pub no_word : ℕ
no_word = 2 ^ 64 - 1

-- what no feasible value is below
abbrev pub floor_of : Instance → ℤ
floor_of p = box_floor p.objective (root_of p)

abbrev pub word_at : ℤ → Option ℤ → ℕ
word_at floor None = no_word
word_at floor (Some cutoff) = min (unsigned_abs (cutoff -ℤ floor)) no_word

-- the word of the incumbent's cutoff
abbrev pub word_of : BookState → ℕ
word_of b = word_at (floor_of b.problem) (cutoff_of_best b)

-- the cutoff that a word says
abbrev pub cutoff_at : ℤ → ℕ → Option ℤ
cutoff_at floor word = if nat_eq word no_word then None else Some (floor +ℤ pos word)
