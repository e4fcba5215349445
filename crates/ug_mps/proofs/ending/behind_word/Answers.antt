use Rattle.std.proofs.Common.{[], ◌∷◌, ◌++◌, sym, ap, arith}
use Rattle.std.proofs.lemmas.List.{nil_from_length}
use Rattle.ug_mps.proofs.ending.behind_word.Goals as goal

pub returns-in-empty : goal.returns-in-empty
returns-in-empty c = (13 ∷ [], ap (λ l. l ++ 13 ∷ []) (sym (nil_from_length c.args.rest.now (omega (arith, c.in-empty.len_below)))))
