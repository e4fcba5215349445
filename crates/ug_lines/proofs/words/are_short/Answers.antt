use Rattle.std.proofs.Common.{length, List, ℕ, rules, nat_le, tests, Bor}
use Rattle.std.proofs.lemmas.Iterator.{YieldsList-from_slice}
use Rattle.std.proofs.lemmas.Iterator.Search.{all_from_yields_List}
use Rattle.std.proofs.lemmas.List.Folds.{list_all-map}
use Rattle.ug_lines.proofs.words.are_short.Goals as goal

pub returns : goal.returns
returns c = rw list_all-map
    (all_from_yields_List (λ (word : Bor (List ℕ)). nat_le (length word.now) 255) _ _ _ c.all.ensures.ran
    (YieldsList-from_slice c.args.words.now cc) (λ x b q k. search (rules, tests)))
