use Rattle.std.proofs.Common.{◌≡◌, ◌-◌, ◌≤◌, ◌++◌, ℕ, List, Bor, length, map, take}
use Rattle.ug_lines.specs.Words.{words_of}
use Rattle.ug_lines.proofs.words.words_of.Given as goal

abbrev pub invariant-loop-count : goal.invariant-loop-count
invariant-loop-count l = record {
  words : words_of l.initial.line ≡ map (λ (word : Bor (List ℕ)). word.now) (take l.count l.places) ++ words_of l.rest;
  room : length l.places ≡ length l.initial.places;
  count : l.count ≤ length l.places;
}

abbrev pub decreases-loop-count : goal.decreases-loop-count
decreases-loop-count l = length l.places - l.count
