use Rattle.std.proofs.Common.{◌≡◌, ◌∷◌, length, sym, ap, ◌∙◌, subst}
use Rattle.std.specs.List.{remove}
use Rattle.std.proofs.lemmas.List.{get_or_default}
use Rattle.ug_pool.specs.Pools.{entry_at, no_entry}
use Rattle.ug_pool.specs.Plain.{in_order, IsLeast}
use Rattle.ug_pool.proofs.Sorts.{least_first}
use Rattle.ug_pool.proofs.plain.take_out.Goals as goal

pub returns-clause-first : goal.returns-clause-first
returns-clause-first c =
    let xs = c.args.entries.now.items in
    let at = c.least_of-at.result in
    let entry = c.remove.result in
    let h : IsLeast (length xs) xs at = subst (λ ys. IsLeast (length ys) ys at) c.deref.ensures.value c.least_of-at.ensures in
    let here : entry ≡ entry_at xs at = c.remove.ensures.value ∙ get_or_default xs at entry no_entry h.there in
    least_first xs at h
    ∙ (ap (λ e. e ∷ in_order (remove xs at)) (sym here) ∙ ap (λ ys. entry ∷ in_order ys) (sym c.remove.ensures.items))
