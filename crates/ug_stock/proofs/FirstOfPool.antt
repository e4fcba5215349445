-- The first entry of a pool.
use Rattle.std.proofs.Common.{◌≡◌, List, [], ◌∷◌, refl, sym, ap, ◌∙◌}
use Rattle.std.specs.Prelude.{Some, None, slice_get}
use Rattle.std.proofs.lemmas.Option.{none-some, same_Some}
use Rattle.ug_pool.specs.declared.entry.Entry.{Entry}

-- if there is none the pool is empty
pub none_first : (es : List Entry) → slice_get es 0 ≡ None → es ≡ []
none_first [] e = refl
none_first (entry ∷ es) e = absurd (none-some entry (sym e))

-- and where there is one, that is it
pub same_first : (es rest : List Entry) (first entry : Entry) → Some first ≡ slice_get es 0
    → es ≡ entry ∷ rest → entry.node.changes ≡ first.node.changes
same_first es rest first entry is e =
    let there = ap (λ (ks : List Entry). slice_get ks 0) e in
    ap (λ (k : Entry). k.node.changes) (sym (same_Some first entry (is ∙ there)))
