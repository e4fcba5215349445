-- Reading values one after the other, as a loop does.
use Rattle.std.proofs.Common.{◌≡◌, ℕ, suc, ◌-◌, ◌+◌, ◌≤◌, ◌<◌, List, [], ◌∷◌, ◌++◌, Ok, Err, refl, sym, ap, ◌∙◌, append_assoc, arith}
use Rattle.std.proofs.lemmas.List.{append-nil}
use Rattle.ug_fields.specs.declared.fault.Fault.{Fault}
use Rattle.ug_fields.specs.declared.fault.Fault.TheVariants as fault
use Rattle.ug_fields.specs.Reading.{Reading, ◌>>=◌, Fails, many_at}

-- what was read before, and what is still read
abbrev pub with_front : {S X : Type 0} → List X → Reading (List X × S) → Reading (List X × S)
with_front front read = read >>= λ x. Ok ((front ++ x.0.0, x.0.1), x.1)

regroup : {S X : Type 0} → (front : List X) (v : X) (read : Reading (List X × S))
    → with_front front (read >>= λ x. Ok ((v ∷ x.0.0, x.0.1), x.1)) ≡ with_front (front ++ v ∷ [])
    read
regroup front v (Ok x) = ap (λ l. Ok ((l, x.0.1), x.1)) (sym (append_assoc front (v ∷ []) x.0.0))
regroup front v (Err left) = refl

module _ {S X : Type 0} (next : S → List ℕ → Reading X) (after : S → X → S) where
  pub goes_on : (front : List X) (count i : ℕ) (state : S) (bytes : List ℕ) (v : X) (rest : List ℕ)
      (total : Reading (List X × S))
      → i < count → next state bytes ≡ Ok (v, rest)
      → with_front front (many_at next after (count - i) state bytes) ≡ total
      → with_front (front ++ v ∷ []) (many_at next after (count - (i + 1)) (after state v) rest)
      ≡ total
  unfolding many_at
  goes_on front count i state bytes v rest total lt h so_far =
      let k : count - i ≡ suc (count - (i + 1)) = omega arith in
      let one : with_front front (many_at next after (count - i) state bytes)
      ≡ with_front (front ++ v ∷ []) (many_at next after (count - (i + 1)) (after state v) rest) =
      rw (k, h) (regroup front v (many_at next after (count - (i + 1)) (after state v) rest)) in
      sym one ∙ so_far

  pub ends : (e : Fault) (front : List X) (count i : ℕ) (state : S) (bytes : List ℕ)
      (total : Reading (List X × S))
      → i < count → Fails e (next state bytes)
      → with_front front (many_at next after (count - i) state bytes) ≡ total → Fails e total
  unfolding many_at
  ends fault.Memory front count i state bytes total lt h so_far = tt
  ends (fault.Bad left) front count i state bytes total lt h so_far =
      let k : count - i ≡ suc (count - (i + 1)) = omega arith in
      let one : with_front front (many_at next after (count - i) state bytes) ≡ Err left = rw (k, h)
      refl in
      sym so_far ∙ one

  pub is_done : (front : List X) (count i : ℕ) (state : S) (bytes : List ℕ)
      (total : Reading (List X × S))
      → count ≤ i → with_front front (many_at next after (count - i) state bytes) ≡ total
      → total ≡ Ok ((front, state), bytes)
  unfolding many_at
  is_done front count i state bytes total le so_far =
      let k : count - i ≡ 0 = omega arith in
      let one : with_front front (many_at next after (count - i) state bytes) ≡ Ok
      ((front, state), bytes) =
      rw k (ap (λ l. Ok ((l, state), bytes)) (append-nil front)) in
      sym so_far ∙ one
