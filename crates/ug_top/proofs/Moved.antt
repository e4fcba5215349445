-- Bytes that went to a sink in two calls.
use Rattle.std.proofs.Common.{◌≡◌, ℕ, List, [], ◌++◌, Option, Some, None, take, drop, refl, ap, sym, ◌∙◌, append_assoc, append-nil, take-append-drop}
use Rattle.std.specs.Option.{option_map}
use Rattle.ug_io.specs.Outside.{Takes}

-- a prefix of the bytes went there, and these are left
pub record Went (old new : Option (List ℕ)) (bytes rest : List ℕ) : Type 0 where
  pub front : List ℕ
  pub parts : bytes ≡ front ++ rest
  pub taken : Takes old new front

-- first some bytes, then more
pub taken_more : (a b c : Option (List ℕ)) (xs ys : List ℕ) → Takes a b xs → Takes b c ys → Takes a c (xs ++ ys)
taken_more None b c xs ys p q = q ∙ ap (λ o. option_map (λ written. written ++ ys) o) p
taken_more (Some w) b c xs ys p q =
    q ∙ ap (λ o. option_map (λ written. written ++ ys) o) p ∙ ap (λ t. Some t) (append_assoc w xs ys)

-- nothing went there yet
pub went_none : (a : Option (List ℕ)) (bytes : List ℕ) → Went a a bytes bytes
went_none None bytes = record { front = []; parts = refl; taken = refl }
went_none (Some w) bytes = record { front = []; parts = refl; taken = ap (λ t. Some t) (sym (append-nil w)) }

-- n bytes more went there
pub went_more : (a b c : Option (List ℕ)) (bytes rest : List ℕ) (n : ℕ) → Went a b bytes rest → Takes b c (take n rest) → Went a c bytes (drop n rest)
went_more a b c bytes rest n h q = record {
  front = h.front ++ take n rest;
  parts = h.parts ∙ ap (λ t. h.front ++ t) (sym (take-append-drop n rest)) ∙ sym (append_assoc h.front (take n rest) (drop n rest));
  taken = taken_more a b c h.front (take n rest) h.taken q;
}
