-- The bytes of a number, read back, and the number of its bytes.
use Rattle.std.proofs.Common.{◌≡◌, ℕ, zero, suc, ◌+◌, ◌*◌, ◌^◌, ◌%◌, ◌/◌, ◌<◌, ◌≤◌, List, [], ◌∷◌, length, get_or, take, drop, refl, sym, ◌∙◌, ap, subst, arith, inl, inr}
use Rattle.std.specs.Int.{byte_at, bytes_high_first, from_be_bytes, to_be_bytes, w128}
use Rattle.std.proofs.lemmas.Bool.{cases_lt}
use Rattle.std.proofs.Math.Seq.{drop-cons}
use Rattle.std.proofs.lemmas.List.{length-take, length-drop, drop_all, get_or-drop, get_or-take, get_or_past}
use Rattle.std.proofs.lemmas.Nat.{mod-mul-add}
use Rattle.std.proofs.Math.Arith.{mod-mul}
use Rattle.std.proofs.Math.Nat.{mod-eq_of_lt, mod-one, div-one, mod-lt, mul-div_cancel, mul-le-mul_right, pow-succ'}
use Rattle.ug_fields.specs.Readers.{IsBytes}

pub length-bytes : (k n : ℕ) → length (bytes_high_first k n) ≡ k
length-bytes zero n = refl
length-bytes (suc k) n = ap suc (length-bytes k n)

byte_at_is : (k n : ℕ) → byte_at k n ≡ n / 256 ^ k % 256
byte_at_is zero n = ap (λ q. q % 256) (sym (div-one n))
byte_at_is (suc k) n = refl

positive : (k : ℕ) → 0 < 256 ^ k
positive zero = omega arith
positive (suc k) = omega (arith, positive k, pow-succ' 256 k)

pub IsBytes-drop : (n : ℕ) (bytes : List ℕ) → IsBytes bytes → IsBytes (drop n bytes)
IsBytes-drop n bytes h i = rw get_or-drop (h (n + i))

pub IsBytes-take : (n : ℕ) (bytes : List ℕ) → IsBytes bytes → IsBytes (take n bytes)
IsBytes-take n bytes h i =
    elim (cases_lt i n) [
      | inl lt ↦ rw (get_or-take n bytes i 0 lt) (h i)
      | inr le ↦ rw (get_or_past (take n bytes) i 0 (omega (arith, length-take n bytes)))
          (omega arith)
    ]

pub IsBytes-rest : (b : ℕ) (bytes : List ℕ) → IsBytes (b ∷ bytes) → IsBytes bytes
IsBytes-rest b bytes h i = h (suc i)

-- the number of some bytes
worth : List ℕ → ℕ
worth [] = 0
worth (b ∷ bytes) = b * 256 ^ length bytes + worth bytes

carry : (b p w : ℕ) → b < 256 → w < p → b * p + w < 256 * p
carry b p w small low =
    let most : b ≤ 255 = omega (arith, small) in
    omega (arith, mul-le-mul_right p most, low)

worth_small : (bytes : List ℕ) → IsBytes bytes → worth bytes < 256 ^ length bytes
unfolding worth
worth_small [] h = omega arith
worth_small (b ∷ bytes) h =
    rw (pow-succ' 256 (length bytes))
    (carry b (256 ^ length bytes) (worth bytes) (h 0) (worth_small bytes (IsBytes-rest b bytes h)))

worth_of_bytes : (k n : ℕ) → worth (bytes_high_first k n) ≡ n % 256 ^ k
unfolding worth
worth_of_bytes zero n = sym (mod-one n)
worth_of_bytes (suc k) n =
    (λ i. byte_at_is k n i * 256 ^ length-bytes k n i + worth_of_bytes k n i)
    ∙ sym (mod-mul n {m = 256} {c = 256 ^ k} (omega arith) (positive k))
    ∙ ap (λ c. n % c) (sym (pow-succ' 256 k))

same_worth : (xs ys : List ℕ) → length xs ≡ length ys → IsBytes xs → IsBytes ys
    → worth xs ≡ worth ys → xs ≡ ys
unfolding worth
same_worth [] [] size h g same = refl
same_worth [] (y ∷ ys) size h g same = absurd (omega (arith, size))
same_worth (x ∷ xs) [] size h g same = absurd (omega (arith, size))
same_worth (x ∷ xs) (y ∷ ys) size h g same =
    let size' : length xs ≡ length ys = omega (arith, size) in
    let less = worth_small xs (IsBytes-rest x xs h) in
    let less' : worth ys < 256 ^ length xs = rw size' (worth_small ys (IsBytes-rest y ys g)) in
    let same' : x * 256 ^ length xs + worth xs ≡ y * 256 ^ length xs + worth ys = same
    ∙ ap (λ n. y * 256 ^ n + worth ys) (sym size') in
    let low : worth xs ≡ worth ys = sym (mod-mul-add x (256 ^ length xs) (worth xs) less)
    ∙ ap (λ n. n % 256 ^ length xs) same' ∙ mod-mul-add y (256 ^ length xs) (worth ys) less' in
    let products : x * 256 ^ length xs ≡ y * 256 ^ length xs = omega (arith, same', low) in
    let head : x ≡ y = sym (mul-div_cancel x (positive (length xs)))
    ∙ ap (λ n. n / 256 ^ length xs) products ∙ mul-div_cancel y (positive (length xs)) in
    let rest = same_worth xs ys size' (IsBytes-rest x xs h) (IsBytes-rest y ys g) low in
    λ i. head i ∷ rest i

IsBytes-high : (k n : ℕ) → IsBytes (bytes_high_first k n)
IsBytes-high zero n i = omega arith
IsBytes-high (suc k) n zero = rw (byte_at_is k n) (mod-lt (n / 256 ^ k) {m = 256} (omega arith))
IsBytes-high (suc k) n (suc i) = IsBytes-high k n i

digit : (bytes : List ℕ) (j k : ℕ) → length bytes ≡ j + suc k
    → worth (drop j bytes) ≡ get_or bytes j 0 * 256 ^ k + worth (drop (suc j) bytes)
unfolding worth
digit bytes j k size =
    let left : length (drop (suc j) bytes) ≡ k = omega (arith, length-drop (suc j) bytes, size) in
    ap worth (drop-cons bytes j 0 (omega (arith, size)))
    ∙ ap (λ n. get_or bytes j 0 * 256 ^ n + worth (drop (suc j) bytes)) left

none_left : (bytes : List ℕ) → length bytes ≡ 16 → worth (drop 16 bytes) ≡ 0
unfolding worth
none_left bytes size = ap worth (drop_all 16 bytes (omega (arith, size)))

worth_16 : (bytes : List ℕ) → length bytes ≡ 16 → from_be_bytes w128 bytes ≡ worth bytes
worth_16 bytes size = omega (
  arith,
  none_left bytes size,
  digit bytes 0 15 size,
  digit bytes 1 14 size,
  digit bytes 2 13 size,
  digit bytes 3 12 size,
  digit bytes 4 11 size,
  digit bytes 5 10 size,
  digit bytes 6 9 size,
  digit bytes 7 8 size,
  digit bytes 8 7 size,
  digit bytes 9 6 size,
  digit bytes 10 5 size,
  digit bytes 11 4 size,
  digit bytes 12 3 size,
  digit bytes 13 2 size,
  digit bytes 14 1 size,
  digit bytes 15 0 size,
)

worth_small_16 : (bytes : List ℕ) → length bytes ≡ 16 → IsBytes bytes → worth bytes < 256 ^ 16
worth_small_16 bytes size h = subst (λ k. worth bytes < 256 ^ k) size (worth_small bytes h)

pub be_bytes_16 : (bytes : List ℕ) → length bytes ≡ 16 → IsBytes bytes
    → to_be_bytes w128 (from_be_bytes w128 bytes) ≡ bytes
be_bytes_16 bytes size h =
    let small = worth_small_16 bytes size h in
    rw (worth_16 bytes size)
    (same_worth (bytes_high_first 16 (worth bytes)) bytes (length-bytes 16 (worth bytes) ∙ sym size)
    (IsBytes-high 16 (worth bytes)) h
    (worth_of_bytes 16 (worth bytes) ∙ mod-eq_of_lt small))

pub bytes_small_16 : (bytes : List ℕ) → length bytes ≡ 16 → IsBytes bytes
    → from_be_bytes w128 bytes < 2 ^ 128
bytes_small_16 bytes size h =
    rw (worth_16 bytes size) (worth_small_16 bytes size h)

pub from_be_bytes_16 : (n : ℕ) → n < 2 ^ 128 → from_be_bytes w128 (to_be_bytes w128 n) ≡ n
from_be_bytes_16 n small =
    worth_16 (to_be_bytes w128 n) (length-bytes 16 n) ∙ worth_of_bytes 16 n ∙ mod-eq_of_lt small
