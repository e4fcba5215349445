-- Values that stand one after the other, each read as it is spelled.
use Rattle.std.proofs.Common.{◌≡◌, ℕ, zero, suc, ◌+◌, ◌≤◌, List, [], ◌∷◌, ◌++◌, length, Ok, Err, refl, sym, ◌∙◌, ap, subst, append_assoc, arith}
use Rattle.std.specs.List.{flat_map}
use Rattle.std.proofs.lemmas.List.{length-append}
use Rattle.ug_fields.specs.Reading.{Reading, ◌>>=◌, many_at}
use Rattle.ug_fields.specs.Readers.{IsBytes, IsReader, Takes}
use Rattle.ug_fields.proofs.Takes.{Takes-then, first, then_, ok_is, bind_ok, bind_err}

-- values of which each is good after those before it, and what stands after all
unfoldable pub Chain : {S X : Type 0} → (S → X → Type 0) → (S → X → S) → S → List X → Type 0
Chain Good after state [] = Unit {0}
Chain Good after state (x ∷ xs) = Good state x × Chain Good after (after state x) xs

unfoldable pub after_all : {S X : Type 0} → (S → X → S) → S → List X → S
after_all after state [] = state
after_all after state (x ∷ xs) = after_all after (after state x) xs

module _ {S X : Type 0} (next : S → List ℕ → Reading X) (after : S → X → S) (Good : S → X → Type 0)
    (field : X → List ℕ) (reader : (state : S) → IsReader (Good state) field (next state)) where
  -- this many values, one good after the other, and what stands then
  abbrev IsRun : ℕ → S → List X × S → Type 0
  IsRun n state x = (length x.0 ≡ n) × Chain Good after state x.0
      × (x.1 ≡ after_all after state x.0)

  abbrev rest_of : S → ℕ → X × List ℕ → Reading (List X × S)
  rest_of state n v = many_at next after n (after state v.0) v.1 >>= λ others. Ok
      ((v.0 ∷ others.0.0, others.0.1), others.1)

  many_taken : (n : ℕ) (state : S) (bytes : List ℕ) (x : List X × S) (rest : List ℕ) → IsBytes bytes
      → many_at next after n state bytes ≡ Ok (x, rest) → Takes bytes (flat_map field x.0) rest
      × IsRun n state x
  unfolding many_at Chain after_all
  many_taken zero state bytes x rest h e =
      subst (λ (y : (List X × S) × List ℕ). Takes bytes (flat_map field y.0.0) y.1 × IsRun zero
      state y.0)
      (ok_is (([], state), bytes) (x, rest) e)
      (record { parts = refl; rest_fits = h }, (refl, tt, refl))
  many_taken (suc n) state bytes x rest h e =
      let b = bind_ok (next state bytes) (rest_of state n) (x, rest) e in
      let v = b.0.0 in
      let t = (reader state).taken bytes b.0.0 b.0.1 h b.1 in
      let c = bind_ok (many_at next after n (after state b.0.0) b.0.1)
      (λ others. Ok ((b.0.0 ∷ others.0.0, others.0.1), others.1)) (x, rest) b.2 in
      let u = many_taken n (after state b.0.0) b.0.1 c.0.0 c.0.1 t.0.rest_fits c.1 in
      subst (λ (y : (List X × S) × List ℕ). Takes bytes (flat_map field y.0.0) y.1 × IsRun (suc n)
      state y.0)
      (ok_is ((b.0.0 ∷ c.0.0.0, c.0.0.1), c.0.1) (x, rest) c.2) (
        Takes-then bytes (field b.0.0) b.0.1 (flat_map field c.0.0.0) c.0.1 t.0 u.0,
        (ap suc u.1.0, (t.1, u.1.1), u.1.2),
      )

  many_again : (n : ℕ) (state : S) (xs : List X) (end : S) (rest : List ℕ) → IsRun n state (xs, end)
      → many_at next after n state (flat_map field xs ++ rest) ≡ Ok ((xs, end), rest)
  unfolding many_at Chain after_all
  many_again zero state [] end rest run = ap (λ t. Ok (([], t), rest)) (sym run.2)
  many_again zero state (x ∷ xs) end rest run = absurd (omega (arith, run.0))
  many_again (suc n) state [] end rest run = absurd (omega (arith, run.0))
  many_again (suc n) state (x ∷ xs) end rest run =
      ap (λ text. next state text >>= rest_of state n)
      (append_assoc (field x) (flat_map field xs) rest)
      ∙ ap (λ r. r >>= rest_of state n) ((reader state).again x (flat_map field xs ++ rest) run.1.0)
      ∙ ap (λ (r : Reading (List X × S)). r >>= λ others. Ok
      ((x ∷ others.0.0, others.0.1), others.1))
      (many_again n (after state x) xs end rest (omega (arith, run.0), run.1.1, run.2))

  many_within : (n : ℕ) (state : S) (bytes : List ℕ) (left : ℕ) → IsBytes bytes
      → many_at next after n state bytes ≡ Err left → left ≤ length bytes
  unfolding many_at
  many_within zero state bytes left h e = absurd (cc e)
  many_within (suc n) state bytes left h e =
      elim (bind_err (next state bytes) (rest_of state n) left e) [
        | first f ↦ (reader state).within bytes left h f
        | then_ v r f ↦
            let t = (reader state).taken bytes v.0 v.1 h r in
            let size : length bytes ≡ length (field v.0) + length v.1 = ap length t.0.parts
            ∙ length-append (field v.0) v.1 in
            elim (bind_err (many_at next after n (after state v.0) v.1)
            (λ others. Ok ((v.0 ∷ others.0.0, others.0.1), others.1)) left f) [
              | first g ↦
                  let less = many_within n (after state v.0) v.1 left t.0.rest_fits g in
                  omega (arith, less, size)
              | then_ w q g ↦ absurd (cc g)
            ]
      ]

  pub many_reader : (n : ℕ) (state : S)
      → IsReader (λ x. (length x.0 ≡ n) × Chain Good after state x.0
      × (x.1 ≡ after_all after state x.0)) (λ x. flat_map field x.0) (many_at next after n state)
  many_reader n state = record {
    taken = many_taken n state;
    again = λ x rest run. many_again n state x.0 x.1 rest run;
    within = many_within n state;
  }
