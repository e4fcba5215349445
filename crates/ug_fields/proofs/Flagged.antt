-- A value behind a flag, read as it is spelled.
use Rattle.std.proofs.Common.{◌≡◌, ℕ, zero, suc, ◌^◌, ◌<◌, ◌≤◌, List, [], ◌∷◌, ◌++◌, length, Option, None, Some, IfSome, Ok, Err, sym, ◌∙◌, ap, subst, arith, unsigned_abs}
use Rattle.ug_fields.specs.Reading.{Reading, ◌>>=◌, small_at, number_at, flagged_if, flagged_at, optional_at}
use Rattle.ug_fields.specs.Readers.{IsBytes, IsReader, Takes}
use Rattle.ug_fields.specs.Spelling.{number_field, flagged_field, optional_field}
use Rattle.ug_fields.proofs.Takes.{Takes-then, first, then_, ok_is, bind_ok, bind_err}
use Rattle.ug_fields.proofs.Simple.{small_reader, number_reader}

module _ {X : Type 0} (Good : X → Type 0) (field : X → List ℕ) (read : List ℕ → Reading X)
    (reader : IsReader Good field read) where
  -- what was taken behind the flag
  record IsTaken (flag : ℕ) (bytes : List ℕ) (s : Option X) (rest : List ℕ) : Type 0 where
    text : List ℕ
    takes : Takes bytes text rest
    spelled : flagged_field field s ≡ flag ∷ text
    good : IfSome s Good

  abbrev some_of : X × List ℕ → Reading (Option X)
  some_of x = Ok (Some x.0, x.1)

  abbrev by_flag : ℕ × List ℕ → Reading (Option X)
  by_flag flag = flagged_if read flag.0 flag.1

  if_taken : (flag : ℕ) (bytes : List ℕ) (s : Option X) (rest : List ℕ) → flag ≤ 1
      → IsBytes bytes → flagged_if read flag bytes ≡ Ok (s, rest) → IsTaken flag bytes s rest
  unfolding flagged_if
  if_taken zero bytes s rest few h e =
      let same : (None, bytes) ≡ (s, rest) = ok_is (None, bytes) (s, rest) e in
      let value : None ≡ s = λ i. (same i).0 in
      let behind : bytes ≡ rest = λ i. (same i).1 in
      record {
        text = [];
        takes = record { parts = behind; rest_fits = subst IsBytes behind h };
        spelled = ap (flagged_field field) (sym value);
        good = subst (λ (o : Option X). IfSome o Good) value tt;
      }
  if_taken (suc zero) bytes s rest few h e =
      let b = bind_ok (read bytes) some_of (s, rest) e in
      let t = reader.taken bytes b.0.0 b.0.1 h b.1 in
      let same : (Some b.0.0, b.0.1) ≡ (s, rest) = ok_is (Some b.0.0, b.0.1) (s, rest) b.2 in
      let value : Some b.0.0 ≡ s = λ i. (same i).0 in
      let behind : b.0.1 ≡ rest = λ i. (same i).1 in
      record {
        text = field b.0.0;
        takes = subst (λ (r : List ℕ). Takes bytes (field b.0.0) r) behind t.0;
        spelled = ap (flagged_field field) (sym value);
        good = subst (λ (o : Option X). IfSome o Good) value t.1;
      }
  if_taken (suc (suc n)) bytes s rest few h e = absurd (omega (arith, few))

  if_within : (flag : ℕ) (bytes : List ℕ) (left : ℕ) → flag ≤ 1 → IsBytes bytes
      → flagged_if read flag bytes ≡ Err left → left ≤ length bytes
  unfolding flagged_if
  if_within zero bytes left few h e = absurd (cc e)
  if_within (suc zero) bytes left few h e = elim (bind_err (read bytes) some_of left e) [
    | first f ↦ reader.within bytes left h f
    | then_ x r f ↦ absurd (cc f)
  ]
  if_within (suc (suc n)) bytes left few h e = absurd (omega (arith, few))

  flagged_again : (s : Option X) (rest : List ℕ) → IfSome s Good
      → flagged_at read (flagged_field field s ++ rest) ≡ Ok (s, rest)
  unfolding flagged_at flagged_if
  flagged_again None rest good =
      ap (λ r. r >>= by_flag) ((small_reader 0 1).again 0 rest (omega arith, omega arith))
  flagged_again (Some x) rest good =
      ap (λ r. r >>= by_flag)
      ((small_reader 0 1).again 1 (field x ++ rest) (omega arith, omega arith))
      ∙ ap (λ r. r >>= some_of) (reader.again x rest good)

  pub flagged_reader : IsReader (λ s. IfSome s Good) (flagged_field field) (flagged_at read)
  unfolding flagged_at
  flagged_reader = record {
    taken = λ bytes s rest h e.
        let b = bind_ok (small_at 0 1 bytes) by_flag (s, rest) e in
        let t = (small_reader 0 1).taken bytes b.0.0 b.0.1 h b.1 in
        let u = if_taken b.0.0 b.0.1 s rest t.1.1 t.0.rest_fits b.2 in (
          subst (λ (text : List ℕ). Takes bytes text rest) (sym u.spelled)
              (Takes-then bytes (b.0.0 ∷ []) b.0.1 u.text rest t.0 u.takes),
          u.good,
        );
    again = flagged_again;
    within = λ bytes left h e.
        elim (bind_err (small_at 0 1 bytes) by_flag left e) [
          | first f ↦ (small_reader 0 1).within bytes left h f
          | then_ x r f ↦
              let t = (small_reader 0 1).taken bytes x.0 x.1 h r in
              let less = if_within x.0 x.1 left t.1.1 t.0.rest_fits f in
              omega (arith, less, ap length t.0.parts)
        ];
  }

pub optional_reader : (most : ℕ) → most < 2 ^ 127
    → IsReader (λ s. IfSome s (λ z. unsigned_abs z ≤ most)) optional_field (optional_at most)
optional_reader most small =
    flagged_reader (λ z. unsigned_abs z ≤ most) number_field (number_at most)
    (number_reader most small)
