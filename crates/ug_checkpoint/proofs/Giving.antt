-- How the bytes of two lists are given one after the other.
use Rattle.std.proofs.Common.{◌≡◌, ◌⊎◌, inl, inr, ℕ, ◌+◌, ◌-◌, ◌<◌, ◌≤◌, ◌^◌, min, List, ◌++◌, length, take, drop, sym, ◌∙◌, ap, arith}
use Rattle.std.specs.Int.{w64, to_be_bytes}
use Rattle.std.proofs.lemmas.List.{append-nil, take_all, drop_all, take-append-le, drop-append-le, drop-drop, length-drop, length-take-le}
use Rattle.std.proofs.lemmas.Bool.{cases_lt}
use Rattle.std.proofs.Math.Seq.{take-append-add, drop-append-add}
use Rattle.ug_fields.proofs.Bytes.{length-bytes}
use Rattle.ug_image.specs.declared.image.Image.{Image}
use Rattle.ug_fields.specs.Spelling.{long_field}
use Rattle.ug_image.specs.Spelling.{spelled}
use Rattle.ug_checkpoint.specs.Bodies.{body_of}

-- all of the first, or none of the second
pub take_both : (a b : List ℕ) (n m : ℕ) → n ≤ length a → ((n ≡ length a) ⊎ (m ≡ 0))
    → take (n + m) (a ++ b) ≡ take n a ++ take m b
take_both a b n m within (inl all) =
    ap (λ (k : ℕ). take (k + m) (a ++ b)) all ∙ take-append-add a b m
    ∙ ap (λ (l : List ℕ). l ++ take m b) (sym (take_all n a (omega arith)))
take_both a b n m within (inr none) =
    let same : n + m ≡ n = omega arith in
    ap (λ (k : ℕ). take k (a ++ b)) same ∙ take-append-le n a b within
    ∙ sym (ap (λ (k : ℕ). take n a ++ take k b) none ∙ append-nil (take n a))

pub drop_both : (a b : List ℕ) (n m : ℕ) → n ≤ length a → ((n ≡ length a) ⊎ (m ≡ 0))
    → drop (n + m) (a ++ b) ≡ drop n a ++ drop m b
drop_both a b n m within (inl all) =
    ap (λ (k : ℕ). drop (k + m) (a ++ b)) all ∙ drop-append-add a b m
    ∙ ap (λ (l : List ℕ). l ++ drop m b) (sym (drop_all n a (omega arith)))
drop_both a b n m within (inr none) =
    let same : n + m ≡ n = omega arith in
    ap (λ (k : ℕ). drop k (a ++ b)) same ∙ drop-append-le n a b within
    ∙ sym (ap (λ (k : ℕ). drop n a ++ drop k b) none)

-- the whole body, before anything is given
pub given_all : (image : Image) (blocks : List ℕ) (n : ℕ)
    → length (spelled image) < 2 ^ 63 → n ≡ min (length (spelled image)) (2 ^ 64 - 1)
    → blocks ≡ spelled image
    → drop (8 - 8) (to_be_bytes w64 n) ++ blocks ≡ body_of image
unfolding long_field
given_all image blocks n small count rest =
    let same : n ≡ length (spelled image) = omega arith in
    λ i. to_be_bytes w64 (same i) ++ rest i

-- a part of an array to its end
pub to_the_end : (field : List ℕ) (at : ℕ) → length field ≡ 8
    → take (8 - at) (drop at field) ≡ drop at field
to_the_end field at size = take_all (8 - at) (drop at field) (omega (arith, length-drop at field))

pub field_long : (n : ℕ) → length (to_be_bytes w64 n) ≡ 8
field_long n = length-bytes 8 n

-- a buffer took all of the first, or nothing of the second
filled : (a b one two : List ℕ) (n m : ℕ) → n ≡ min (length one) (length a)
    → length two ≡ length one - n → m ≡ min (length two) (length b)
    → (n ≡ length a) ⊎ (m ≡ 0)
filled a b one two n m first size second = elim (cases_lt (length one) (length a)) [
  | inl short ↦ inr (omega arith)
  | inr long ↦ inl (omega arith)
]

-- a buffer that was filled with the first, and then with the second
pub next_bytes : (a b part one two more : List ℕ) (n m : ℕ) → part ≡ a
    → n ≡ min (length one) (length part) → take n one ≡ take n part
    → length two ≡ length one - n → m ≡ min (length two) (length b) → take m two ≡ take m b
    → take (n + m) (take n one ++ (two ++ more)) ≡ take (n + m) (a ++ b)
next_bytes a b part one two more n m is count front size second back =
    let first : n ≡ min (length one) (length a) =
    count ∙ ap (λ (l : List ℕ). min (length one) (length l)) is in
    let start : take n one ≡ take n a = front ∙ ap (λ (l : List ℕ). take n l) is in
    let long : length (take n one) ≡ n = length-take-le n one (omega arith) in
    ap (λ (k : ℕ). take (k + m) (take n one ++ (two ++ more))) (sym long)
    ∙ take-append-add (take n one) (two ++ more) m
    ∙ (λ i. start i ++ (take-append-le m two more (omega arith) ∙ back) i)
    ∙ sym (take_both a b n m (omega arith) (filled a b one two n m first size second))

pub next_left : (field b part rest one two : List ℕ) (left n m : ℕ) → left ≤ 8 → n ≤ left
    → part ≡ drop (8 - left) field → n ≡ min (length one) (length part)
    → length two ≡ length one - n → m ≡ min (length two) (length b) → rest ≡ drop m b
    → drop (8 - (left - n)) field ++ rest ≡ drop (n + m) (drop (8 - left) field ++ b)
next_left field b part rest one two left n m within some whole count size second is =
    let a = drop (8 - left) field in
    let first : n ≡ min (length one) (length a) =
    count ∙ ap (λ (l : List ℕ). min (length one) (length l)) whole in
    let place : 8 - (left - n) ≡ 8 - left + n = omega arith in
    (λ i. (ap (λ (k : ℕ). drop k field) place ∙ sym (drop-drop n (8 - left) field)) i ++ is i)
    ∙ sym (drop_both a b n m (omega arith) (filled a b one two n m first size second))
