-- Readers of a count and this many values.
use Rattle.std.proofs.Common.{◌≡◌, ℕ, ◌+◌, ◌^◌, ◌<◌, ◌≤◌, List, ◌++◌, length, Ok, refl, sym, ◌∙◌, ap, subst, append_assoc, arith}
use Rattle.std.specs.List.{flat_map}
use Rattle.std.proofs.lemmas.List.{length-append}
use Rattle.ug_fields.specs.Reading.{Reading, ◌>>=◌, count_at, many_at}
use Rattle.ug_fields.specs.Spelling.{count_field}
use Rattle.ug_fields.specs.Readers.{IsReader, Takes}
use Rattle.ug_fields.proofs.Takes.{Takes-then, first, then_, ok_is, bind_ok, bind_err}
use Rattle.ug_fields.proofs.Simple.{count_reader}
use Rattle.ug_fields.proofs.Runs.{Chain, after_all, many_reader}

-- how many values there are, and each
module _ {S X : Type 0} (most : ℕ) (next : S → List ℕ → Reading X) (after : S → X → S)
    (Good : S → X → Type 0) (field : X → List ℕ)
    (reader : (state : S) → IsReader (Good state) field (next state)) (start : S) where
  abbrev pub AreCounted : List X → Type 0
  AreCounted xs = ((length xs ≤ most) × (length xs < 2 ^ 32)) × Chain Good after start xs

  abbrev all_of : (List X × S) × List ℕ → Reading (List X)
  all_of xs = Ok (xs.0.0, xs.1)

  abbrev behind : ℕ × List ℕ → Reading (List X)
  behind n = many_at next after n.0 start n.1 >>= all_of

  abbrev fields_of : List X → List ℕ
  fields_of xs = count_field (length xs) ++ flat_map field xs

  pub counted : IsReader AreCounted fields_of (λ bytes. count_at most bytes >>= behind)
  counted = record {
    taken = λ bytes xs rest h e.
        let b = bind_ok (count_at most bytes) behind (xs, rest) e in
        let t = (count_reader most).taken bytes b.0.0 b.0.1 h b.1 in
        let c = bind_ok (many_at next after b.0.0 start b.0.1) all_of (xs, rest) b.2 in
        let u = (many_reader next after Good field reader b.0.0 start).taken b.0.1 c.0.0 c.0.1
        t.0.rest_fits c.1 in
        let same : (c.0.0.0, c.0.1) ≡ (xs, rest) = ok_is (c.0.0.0, c.0.1) (xs, rest) c.2 in
        subst (λ (y : List X × List ℕ). Takes bytes (fields_of y.0) y.1 × AreCounted y.0) same (
          subst (λ n. Takes bytes (count_field n ++ flat_map field c.0.0.0) c.0.1) (sym u.1.0)
              (Takes-then bytes (count_field b.0.0) b.0.1 (flat_map field c.0.0.0) c.0.1 t.0 u.0),
          (subst (λ n. (n ≤ most) × (n < 2 ^ 32)) (sym u.1.0) t.1, u.1.1),
        );
    again = λ xs rest are.
        ap (λ text. count_at most text >>= behind)
        (append_assoc (count_field (length xs)) (flat_map field xs) rest)
        ∙ ap (λ r. r >>= behind)
        ((count_reader most).again (length xs) (flat_map field xs ++ rest) are.0)
        ∙ ap (λ r. r >>= all_of)
        ((many_reader next after Good field reader (length xs) start).again
        (xs, after_all after start xs) rest (refl, are.1, refl));
    within = λ bytes left h e.
        elim (bind_err (count_at most bytes) behind left e) [
          | first f ↦ (count_reader most).within bytes left h f
          | then_ n r f ↦
              let t = (count_reader most).taken bytes n.0 n.1 h r in
              let size : length bytes ≡ length (count_field n.0) + length n.1 = ap length t.0.parts
              ∙ length-append (count_field n.0) n.1 in
              elim (bind_err (many_at next after n.0 start n.1) all_of left f) [
                | first g ↦
                    let less = (many_reader next after Good field reader n.0 start).within n.1 left
                    t.0.rest_fits g in
                    omega (arith, less, size)
                | then_ w q g ↦ absurd (cc g)
              ]
        ];
  }
