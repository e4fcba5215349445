-- Numbers, each read as it is spelled.
use Rattle.std.proofs.Common.{◌≡◌, ℕ, ℤ, pos, ◌^◌, ◌<◌, ◌≤◌, Bool, true, false, cond, ltb, leb, List, [], ◌∷◌, ◌++◌, length, take, drop, Ok, Err, refl, sym, ◌∙◌, ap, subst, arith, unsigned_abs}
use Rattle.std.specs.Prelude.{◌&&◌, ◌≤ℤ◌, FitsSigned, int_le}
use Rattle.std.specs.Int.{from_be_bytes, to_be_bytes, cast_signed, cast_unsigned, w32, w64, w128}
use Rattle.std.proofs.lemmas.Bool.{ltb-false, le-ltb, leb-true, le-leb}
use Rattle.std.proofs.lemmas.Int.{fits_signed_from_abs, to_z-of_z, of_z-to_z}
use Rattle.std.proofs.lemmas.List.{take_at, drop_at, take-append-drop, length-append, length-take, append-nil}
use Rattle.std.proofs.lemmas.Nat.{be_bytes_4, be_bytes_8, from_be_bytes-to_be_bytes_4, from_be_bytes-to_be_bytes_8}
use Rattle.std.proofs.Math.Facts.{Fits-of_z, sfits_to_z}
use Rattle.ug_fields.specs.Reading.{small_at, count_at, unsigned_at, signed_at, bound_at, long_at, number_of, number_at, amount_at}
use Rattle.ug_fields.specs.Readers.{IsBytes, IsReader, Takes}
use Rattle.ug_fields.specs.Spelling.{count_field, bound_field, long_field, number_field}
use Rattle.ug_fields.proofs.Bytes.{IsBytes-drop, IsBytes-take, IsBytes-rest, be_bytes_16, bytes_small_16, from_be_bytes_16}
use Rattle.ug_fields.proofs.Takes.{reworded, made, joined}
use Rattle.ug_fields.proofs.Tests.{both_true, passed, stopped, single, single_stops, le_tells, le_told}
use Rattle.ug_fields.proofs.Tested.{tested}

-- a value of this many bytes, under a test
pub record IsFixed {X : Type 0} (k : ℕ) (field : X → List ℕ) (value : List ℕ → X) (Good : X → Type 0)
    (test : X → Bool) : Type 0 where
  pub long : (x : X) → Good x → length (field x) ≡ k
  pub back : (bytes : List ℕ) → length bytes ≡ k → IsBytes bytes → field (value bytes) ≡ bytes
  pub again : (x : X) → Good x → value (field x) ≡ x
  pub passes : (x : X) → Good x → test x ≡ true
  pub good : (bytes : List ℕ) → length bytes ≡ k → IsBytes bytes → test (value bytes) ≡ true
      → Good (value bytes)

pub fixed : {X : Type 0} → (k : ℕ) (field : X → List ℕ) (value : List ℕ → X) (Good : X → Type 0)
    (test : X → Bool)
    → IsFixed k field value Good test
    → IsReader Good field (λ bytes. cond (ltb (length bytes) k) (Err (length bytes))
    (cond (test (value (take k bytes))) (Ok (value (take k bytes), drop k bytes))
    (Err (length bytes))))
fixed k field value Good test is = record {
  taken = λ bytes x rest h e.
      let g = passed (ltb (length bytes) k) (test (value (take k bytes))) (length bytes)
      (value (take k bytes), drop k bytes) (x, rest) e in
      let long : k ≤ length bytes = ltb-false _ _ g.0 in
      let size : length (take k bytes) ≡ k = omega (arith, length-take k bytes) in
      let fits = IsBytes-take k bytes h in
      let value-is : value (take k bytes) ≡ x = λ i. (g.2 i).0 in
      let rest-is : drop k bytes ≡ rest = λ i. (g.2 i).1 in
      let front : field x ≡ take k bytes = ap field (sym value-is)
      ∙ is.back (take k bytes) size fits in (
        record {
          parts = sym (take-append-drop k bytes) ∙ (λ i. sym front i ++ rest-is i);
          rest_fits = subst IsBytes rest-is (IsBytes-drop k bytes h);
        },
        subst Good value-is (is.good (take k bytes) size fits g.1),
      );
  again = λ x rest good.
      let long : ltb (length (field x ++ rest)) k ≡ false = le-ltb _ _
      (omega (arith, is.long x good, length-append (field x) rest)) in
      let front : take k (field x ++ rest) ≡ field x = take_at (field x) rest k (is.long x good) in
      let behind : drop k (field x ++ rest) ≡ rest = drop_at (field x) rest k (is.long x good) in
      rw (long, front, behind, is.again x good, is.passes x good) refl;
  within = λ bytes left h e.
      let same = stopped (ltb (length bytes) k) (test (value (take k bytes))) (length bytes) left
      (value (take k bytes), drop k bytes) e in
      omega (arith, same);
}

-- ---- one byte

small_taken : (least most : ℕ) (bytes : List ℕ) (x : ℕ) (rest : List ℕ) → IsBytes bytes
    → small_at least most bytes ≡ Ok (x, rest) → Takes bytes (x ∷ []) rest
    × ((least ≤ x) × (x ≤ most))
unfolding small_at
small_taken least most [] x rest h e = absurd cc
small_taken least most (b ∷ bytes) x rest h e =
    let g = single (leb least b && leb b most) (length (b ∷ bytes)) (b, bytes) (x, rest) e in
    let t = both_true (leb least b) (leb b most) g.0 in
    let value-is : b ≡ x = λ i. (g.1 i).0 in
    let rest-is : bytes ≡ rest = λ i. (g.1 i).1 in (
      record {
        parts = λ i. value-is i ∷ rest-is i;
        rest_fits = subst IsBytes rest-is (IsBytes-rest b bytes h);
      },
      subst (λ (n : ℕ). (least ≤ n) × (n ≤ most)) value-is (leb-true _ _ t.0, leb-true _ _ t.1),
    )

small_again : (least most b : ℕ) (rest : List ℕ) → (least ≤ b) × (b ≤ most)
    → small_at least most (b ∷ [] ++ rest) ≡ Ok (b, rest)
unfolding small_at
small_again least most b rest good = rw (le-leb _ _ good.0, le-leb _ _ good.1) refl

small_within : (least most : ℕ) (bytes : List ℕ) (left : ℕ) → IsBytes bytes
    → small_at least most bytes ≡ Err left → left ≤ length bytes
unfolding small_at
small_within least most [] left h e = let same : 0 ≡ left = cc in omega (arith, same)
small_within least most (b ∷ bytes) left h e =
    let same = single_stops (leb least b && leb b most) (length (b ∷ bytes)) left (b, bytes) e in
    omega (arith, same)

-- a byte from one value to another
pub small_reader : (least most : ℕ) → IsReader (λ b. (least ≤ b) × (b ≤ most)) (λ b. b ∷ [])
    (small_at least most)
small_reader least most = record {
  taken = small_taken least most;
  again = λ b rest good. small_again least most b rest good;
  within = small_within least most;
}

-- ---- four bytes

small_4 : (bytes : List ℕ) → length bytes ≡ 4 → IsBytes bytes → from_be_bytes w32 bytes < 2 ^ 32
small_4 bytes size h = omega (arith, h 0, h 1, h 2, h 3)

pub count_long : (n : ℕ) → length (count_field n) ≡ 4
unfolding count_field
count_long n = refl

pub bound_long : (z : ℤ) → length (bound_field z) ≡ 4
unfolding bound_field
bound_long z = refl

pub count_reader : (most : ℕ) → IsReader (λ n. (n ≤ most) × (n < 2 ^ 32)) count_field
    (count_at most)
unfolding count_at count_field
count_reader most = fixed 4 count_field (from_be_bytes w32) (λ n. (n ≤ most) × (n < 2 ^ 32))
    (λ n. leb n most) (record {
      long = λ n good. refl;
      back = λ bytes size h. be_bytes_4 bytes _ size h refl;
      again = λ n good. from_be_bytes-to_be_bytes_4 n good.1;
      passes = λ n good. le-leb _ _ good.0;
      good = λ bytes size h e. (leb-true _ _ e, small_4 bytes size h);
    })

pub unsigned_reader : IsReader (λ n. n < 2 ^ 32) count_field unsigned_at
unfolding unsigned_at count_field
unsigned_reader = fixed 4 count_field (from_be_bytes w32) (λ n. n < 2 ^ 32) (λ n. true) (record {
  long = λ n good. refl;
  back = λ bytes size h. be_bytes_4 bytes _ size h refl;
  again = λ n good. from_be_bytes-to_be_bytes_4 n good;
  passes = λ n good. refl;
  good = λ bytes size h e. small_4 bytes size h;
})

as_count : (z : ℤ) → count_field (cast_unsigned w32 z) ≡ to_be_bytes w32 (cast_unsigned w32 z)
unfolding count_field
as_count z = refl

pub signed_reader : IsReader (FitsSigned w32) bound_field signed_at
unfolding signed_at bound_field
signed_reader =
    reworded (λ z. FitsSigned w32 z × ((cast_unsigned w32 z < 2 ^ 32) × Unit {0}))
    (λ z. count_field (cast_unsigned w32 z) ++ []) (FitsSigned w32) bound_field _
    (λ z good. append-nil (count_field (cast_unsigned w32 z)) ∙ as_count z)
    (λ z good. good.0) (λ z fits. (fits, (omega (arith, Fits-of_z fits), tt)))
    (joined (cast_unsigned w32) (λ n. n < 2 ^ 32) count_field unsigned_at (FitsSigned w32) (λ z. Unit {0})
    (λ z. []) (λ n. Ok (cast_signed w32 n.0, n.1)) unsigned_reader
    (λ n small. made (λ z. (FitsSigned w32 z × (cast_unsigned w32 z ≡ n)) × Unit {0}) (cast_signed w32 n)
    ((sfits_to_z {w = w32} {n = n} (record { fits = small }), of_z-to_z w32 n small), tt)
    (λ z is. sym (to_z-of_z w32 z is.0.0) ∙ ap (cast_signed w32) is.0.1)))

pub bound_reader : IsReader (λ z. unsigned_abs z ≤ 10 ^ 9) bound_field bound_at
unfolding bound_at bound_field
bound_reader = fixed 4 bound_field (λ bytes. cast_signed w32 (from_be_bytes w32 bytes))
    (λ z. unsigned_abs z ≤ 10 ^ 9) (λ z. leb (unsigned_abs z) (10 ^ 9)) (record {
      long = λ z good. refl;
      back = λ bytes size h. ap (to_be_bytes w32)
          (of_z-to_z w32 (from_be_bytes w32 bytes) (small_4 bytes size h))
          ∙ be_bytes_4 bytes _ size h refl;
      again = λ z good.
          let fits = fits_signed_from_abs w32 z (omega (arith, good)) in
          ap (cast_signed w32) (from_be_bytes-to_be_bytes_4 (cast_unsigned w32 z)
          (omega (arith, Fits-of_z fits))) ∙ to_z-of_z w32 z fits;
      passes = λ z good. le-leb _ _ good;
      good = λ bytes size h e. leb-true _ _ e;
    })

-- ---- eight bytes

small_8 : (bytes : List ℕ) → length bytes ≡ 8 → IsBytes bytes → from_be_bytes w64 bytes < 2 ^ 64
small_8 bytes size h = omega (arith, h 0, h 1, h 2, h 3, h 4, h 5, h 6, h 7)

pub long_long : (n : ℕ) → length (long_field n) ≡ 8
unfolding long_field
long_long n = refl

pub long_reader : (least : ℕ) → IsReader (λ n. (least ≤ n) × (n < 2 ^ 64)) long_field
    (long_at least)
unfolding long_at long_field
long_reader least = fixed 8 long_field (from_be_bytes w64) (λ n. (least ≤ n) × (n < 2 ^ 64))
    (λ n. leb least n) (record {
      long = λ n good. refl;
      back = λ bytes size h. be_bytes_8 bytes _ size h refl;
      again = λ n good. from_be_bytes-to_be_bytes_8 n good.1;
      passes = λ n good. le-leb _ _ good.0;
      good = λ bytes size h e. (leb-true _ _ e, small_8 bytes size h);
    })

-- ---- sixteen bytes

number_back : (bytes : List ℕ) → length bytes ≡ 16 → IsBytes bytes
    → number_field (number_of bytes) ≡ bytes
unfolding number_field number_of
number_back bytes size h = ap (to_be_bytes w128)
    (of_z-to_z w128 (from_be_bytes w128 bytes) (bytes_small_16 bytes size h))
    ∙ be_bytes_16 bytes size h

number_again : (z : ℤ) → unsigned_abs z < 2 ^ 127 → number_of (number_field z) ≡ z
unfolding number_field number_of
number_again z small =
    let fits = fits_signed_from_abs w128 z (omega (arith, small)) in
    ap (cast_signed w128) (from_be_bytes_16 (cast_unsigned w128 z) (omega (arith, Fits-of_z fits)))
    ∙ to_z-of_z w128 z fits

pub number_long : (z : ℤ) → length (number_field z) ≡ 16
unfolding number_field
number_long z = refl

pub number_reader : (most : ℕ) → most < 2 ^ 127
    → IsReader (λ z. unsigned_abs z ≤ most) number_field (number_at most)
unfolding number_at
number_reader most small = fixed 16 number_field number_of (λ z. unsigned_abs z ≤ most)
    (λ z. leb (unsigned_abs z) most) (record {
      long = λ z good. number_long z;
      back = number_back;
      again = λ z good. number_again z (omega (arith, good, small));
      passes = λ z good. le-leb _ _ good;
      good = λ bytes size h e. leb-true _ _ e;
    })

pub amount_reader : (most : ℕ) → most < 2 ^ 127
    → IsReader (λ z. (unsigned_abs z ≤ most) × (pos 0 ≤ℤ z)) number_field (amount_at most)
unfolding amount_at
amount_reader most small =
    reworded (λ z. (unsigned_abs z ≤ most) × (int_le (pos 0) z ≡ true)) number_field
    (λ z. (unsigned_abs z ≤ most) × (pos 0 ≤ℤ z)) number_field _
    (λ z good. refl)
    (λ z good. (good.0, le_tells (pos 0) z good.1))
    (λ z good. (good.0, le_told (pos 0) z good.1))
    (tested (λ z. unsigned_abs z ≤ most) number_field (number_at most) (int_le (pos 0))
    (number_reader most small))
