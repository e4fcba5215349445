-- Bytes that went over a link in two calls.
use Rattle.std.proofs.Common.{◌≡◌, ℕ, List, [], ◌++◌, Option, Some, None, take, drop, refl, ap, sym, subst, ◌∙◌, append_assoc, append-nil, take-append-drop}
use Rattle.std.specs.Option.{option_map}
use Rattle.std.proofs.lemmas.List.{map-append}
use Rattle.ug_io.specs.declared.link.Said.{Said}
use Rattle.ug_io.specs.declared.link.Said.TheVariants.{Told}
use Rattle.ug_io.specs.Links.{Adds, HasTold, LinkSeen, told}
use Rattle.ug_serve.specs.Tellings.{HasToldAll}

-- a prefix of the bytes went, and these are left
pub record Went (old new : LinkSeen) (bytes rest : List ℕ) : Type 0 where
  pub front : List ℕ
  pub parts : bytes ≡ front ++ rest
  pub told : HasToldAll old new front

-- first some, then more
pub adds_more : (a b c : Option (List Said)) (xs ys : List Said) → Adds a b xs → Adds b c ys → Adds a c (xs ++ ys)
adds_more None b c xs ys p q = q ∙ ap (λ o. option_map (λ said. said ++ ys) o) p
adds_more (Some w) b c xs ys p q =
    q ∙ ap (λ o. option_map (λ said. said ++ ys) o) p ∙ ap (λ t. Some t) (append_assoc w xs ys)

-- nothing more
pub adds_none : (a : Option (List Said)) → Adds a a []
adds_none None = refl
adds_none (Some w) = ap (λ t. Some t) (sym (append-nil w))

-- nothing went yet
pub went_none : (a : LinkSeen) (bytes : List ℕ) → Went a a bytes bytes
went_none a bytes = record {
  front = [];
  parts = refl;
  told = record { said = adds_none a.said; ended = refl };
}

-- n bytes more went
pub went_more : (a b c : LinkSeen) (bytes rest : List ℕ) (n : ℕ) → Went a b bytes rest → HasTold b c rest n → Went a c bytes (drop n rest)
went_more a b c bytes rest n h q = record {
  front = h.front ++ take n rest;
  parts = h.parts ∙ ap (λ t. h.front ++ t) (sym (take-append-drop n rest)) ∙ sym (append_assoc h.front (take n rest) (drop n rest));
  told = record {
    said = subst (λ (more : List Said). Adds a.said c.said more)
        (sym (map-append Told h.front (take n rest)))
        (adds_more a.said b.said c.said (told h.front) (told (take n rest)) h.told.said q.said);
    ended = q.ended ∙ h.told.ended;
  };
}
