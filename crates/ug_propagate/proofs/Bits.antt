-- One bit of many words.
use Rattle.std.proofs.Common.{◌≡◌, ◌≢◌, sym, ◌∙◌, ap, inl, inr, ℕ, ◌+◌, ◌-◌, ◌*◌, ◌/◌, ◌%◌, ◌^◌, ◌<◌, ◌≤◌, List, length, get_or, set, bit_and, bit_or, w64, Option, Some, None, pow-add, arith}
use Rattle.std.proofs.Math.Nat.{div-div-eq-div-mul}
use Rattle.std.proofs.lemmas.Bool.{cases_eq, cases_lt}
use Rattle.std.proofs.lemmas.List.{get_or-set_other, get_or-set_same, get_or_past}
use Rattle.std.proofs.lemmas.Nat.Bits.{bit_at-zero, bit_at_above, bit_at-trailing_zeros, bit_at_set_same, bit_at_set_other, bit_at_clear_same, bit_at_clear_other}
use Rattle.std.specs.Int.{bit_at, bit_not, trailing_zeros}
use Rattle.ug_propagate.specs.Queued.{AreUnqueued, HasBit, IsFirstBit, IsFound, IsFoundIn, IsNext, NoneFrom, bit_of}

same_place : (k r : ℕ) → k / 64 ≡ r / 64 → k % 64 ≡ r % 64 → k ≡ r
same_place k r e f = omega arith

-- a word in which one bit is another
has_bit : (words : List ℕ) (r bit word : ℕ) → r < 64 * length words → bit_at word (r % 64) ≡ bit
    → ((i : ℕ) → i < 64 → i ≢ r % 64 → bit_at word i ≡ bit_at (get_or words (r / 64) 0) i)
    → HasBit r bit words (set words (r / 64) word)
has_bit words r bit word there here others =
    let within : r / 64 < length words = omega arith in
    let at : get_or (set words (r / 64) word) (r / 64) 0 ≡ word = get_or-set_same words (r / 64) word 0 within in
    record {
      here = ap (λ (w : ℕ). bit_at w (r % 64)) at ∙ here;
      others = λ k ne. elim (cases_eq (k / 64) (r / 64)) [
        | inl same ↦
            let apart : k % 64 ≢ r % 64 = λ e. ne (same_place k r same e) in
            let low : k % 64 < 64 = omega arith in
            ap (λ (q : ℕ). bit_at (get_or (set words (r / 64) word) q 0) (k % 64)) same
            ∙ ap (λ (w : ℕ). bit_at w (k % 64)) at ∙ others (k % 64) low apart
            ∙ ap (λ (q : ℕ). bit_at (get_or words q 0) (k % 64)) (sym same)
        | inr other ↦ ap (λ (w : ℕ). bit_at w (k % 64)) (get_or-set_other words (r / 64) (k / 64) word 0 other)
      ];
    }

pub bit_set : (words : List ℕ) (r : ℕ) → r < 64 * length words
    → HasBit r 1 words (set words (r / 64) (bit_or (get_or words (r / 64) 0) (1 * 2 ^ (r % 64) % 2 ^ 64)))
bit_set words r there =
    let low : r % 64 < 64 = omega arith in
    let word : ℕ = get_or words (r / 64) 0 in
    has_bit words r 1 (bit_or word (1 * 2 ^ (r % 64) % 2 ^ 64)) there (bit_at_set_same w64 word (r % 64) low)
    (λ i less ne. bit_at_set_other w64 word (r % 64) low i ne)

pub bit_cleared : (words : List ℕ) (r : ℕ) → r < 64 * length words
    → HasBit r 0 words (set words (r / 64) (bit_and (get_or words (r / 64) 0) (bit_not w64 (1 * 2 ^ (r % 64) % 2 ^ 64))))
bit_cleared words r there =
    let low : r % 64 < 64 = omega arith in
    let word : ℕ = get_or words (r / 64) 0 in
    has_bit words r 0 (bit_and word (bit_not w64 (1 * 2 ^ (r % 64) % 2 ^ 64))) there (bit_at_clear_same w64 word (r % 64) low)
    (λ i less ne. bit_at_clear_other w64 word (r % 64) low i less ne)

shifted : (n s t : ℕ) → bit_at (n / 2 ^ s) t ≡ bit_at n (s + t)
shifted n s t = ap (λ (q : ℕ). q % 2) (div-div-eq-div-mul n (2 ^ s) (2 ^ t) ∙ ap (λ (d : ℕ). n / d) (sym (pow-add 2 s t)))

at_shift : (n s k : ℕ) → s ≤ k → bit_at n k ≡ bit_at (n / 2 ^ s) (k - s)
at_shift n s k h = let e : k ≡ s + (k - s) = omega arith in ap (λ (i : ℕ). bit_at n i) e ∙ sym (shifted n s (k - s))

-- if nothing is left above a place there is no 1 from it on
pub none_in : (word low : ℕ) → word / 2 ^ low ≡ 0 → IsFoundIn word low None
none_in word low none k above =
    at_shift word low k above ∙ ap (λ (n : ℕ). bit_at n (k - low)) none ∙ bit_at-zero (k - low)

not_one : (b : ℕ) → b ≡ 1 → b ≡ 0 → ⊥
not_one b e f = omega arith

-- else the lowest 1 that is left is the first from it on
pub some_in : (word low : ℕ) → word < 2 ^ 64 → 0 < word / 2 ^ low → word / 2 ^ low < 2 ^ 64
    → IsFirstBit word low (low + trailing_zeros w64 (word / 2 ^ low))
some_in word low fits some short =
    let left : ℕ = word / 2 ^ low in
    let z : ℕ = trailing_zeros w64 left in
    let facts = bit_at-trailing_zeros w64 left some short in
    let one : bit_at word (low + z) ≡ 1 = sym (shifted word low z) ∙ facts.1 in
    record {
      least = omega arith;
      short = elim (cases_lt (low + z) 64) [
        | inl less ↦ less
        | inr more ↦ absurd (not_one (bit_at word (low + z)) one (bit_at_above word 64 (low + z) fits more))
      ];
      one = one;
      between = λ k above below. at_shift word low k above ∙ facts.2 (k - low) (omega arith);
    }

-- a word that is 0 has no row that is queued
zero_word : (words : List ℕ) (at k : ℕ) → get_or words at 0 ≡ 0 → k / 64 ≡ at → bit_of words k ≡ 0
zero_word words at k zero same =
    ap (λ (q : ℕ). bit_at (get_or words q 0) (k % 64)) same ∙ ap (λ (w : ℕ). bit_at w (k % 64)) zero ∙ bit_at-zero (k % 64)

two_unqueued : (words : List ℕ) (from mid to : ℕ) → AreUnqueued words from mid → AreUnqueued words mid to → AreUnqueued words from to
two_unqueued words from mid to low high k least less = elim (cases_lt k mid) [
  | inl below ↦ low k least below
  | inr above ↦ high k above less
]

one_unqueued : (words : List ℕ) (at : ℕ) → get_or words at 0 ≡ 0 → AreUnqueued words (64 * at) (64 * (at + 1))
one_unqueued words at zero k least less = zero_word words at k zero (omega arith)

-- four words that are 0
pub four_unqueued : (words : List ℕ) (at : ℕ) → get_or words at 0 ≡ 0 → get_or words (at + 1) 0 ≡ 0 → get_or words (at + 2) 0 ≡ 0
    → get_or words (at + 3) 0 ≡ 0 → AreUnqueued words (64 * at) (64 * (at + 4))
four_unqueued words at first second third fourth k least less =
    let a : AreUnqueued words (64 * at) (64 * (at + 1)) = one_unqueued words at first in
    let b : AreUnqueued words (64 * (at + 1)) (64 * (at + 2)) = λ j l m. zero_word words (at + 1) j second (omega arith) in
    let c : AreUnqueued words (64 * (at + 2)) (64 * (at + 3)) = λ j l m. zero_word words (at + 2) j third (omega arith) in
    let d : AreUnqueued words (64 * (at + 3)) (64 * (at + 4)) = λ j l m. zero_word words (at + 3) j fourth (omega arith) in
    two_unqueued words (64 * at) (64 * (at + 2)) (64 * (at + 4))
    (two_unqueued words (64 * at) (64 * (at + 1)) (64 * (at + 2)) a b)
    (two_unqueued words (64 * (at + 2)) (64 * (at + 3)) (64 * (at + 4)) c d) k least less

pub none_passed : (words : List ℕ) (from : ℕ) → AreUnqueued words (64 * from) (64 * (from + 4 * 0))
none_passed words from k least less = absurd (omega arith)

pub four_passed : (words : List ℕ) (from k : ℕ) → AreUnqueued words (64 * from) (64 * (from + 4 * k))
    → AreUnqueued words (64 * (from + 4 * k)) (64 * (from + 4 * k + 4)) → AreUnqueued words (64 * from) (64 * (from + 4 * (k + 1)))
four_passed words from k low high =
    let all = two_unqueued words (64 * from) (64 * (from + 4 * k)) (64 * (from + 4 * k + 4)) low high in
    λ j least less. all j least (omega arith)

pub word_passed : (words : List ℕ) (from at : ℕ) → AreUnqueued words (64 * from) (64 * at) → IsFoundIn (get_or words at 0) 0 None
    → AreUnqueued words (64 * from) (64 * (at + 1))
word_passed words from at h none k least less = elim (cases_lt k (64 * at)) [
  | inl below ↦ h k least below
  | inr above ↦
      let same : k / 64 ≡ at = omega arith in
      ap (λ (q : ℕ). bit_at (get_or words q 0) (k % 64)) same ∙ none (k % 64) (omega arith)
]

pub word_found : (words : List ℕ) (from at bit : ℕ) → from ≤ at → at < length words → AreUnqueued words (64 * from) (64 * at)
    → IsFirstBit (get_or words at 0) 0 bit → IsNext words (64 * from) (64 * at + bit)
word_found words from at bit least there h first =
    let word_is : (64 * at + bit) / 64 ≡ at = omega (arith, first.short) in
    let bit_is : (64 * at + bit) % 64 ≡ bit = omega (arith, first.short) in
    record {
      least = omega arith;
      there = omega (arith, first.short);
      queued = ap (λ (q : ℕ). bit_at (get_or words q 0) ((64 * at + bit) % 64)) word_is
          ∙ ap (λ (i : ℕ). bit_at (get_or words at 0) i) bit_is ∙ first.one;
      between = λ k from_ less. elim (cases_lt k (64 * at)) [
        | inl below ↦ h k from_ below
        | inr above ↦
            let same : k / 64 ≡ at = omega (arith, first.short) in
            ap (λ (q : ℕ). bit_at (get_or words q 0) (k % 64)) same ∙ first.between (k % 64) (omega arith) (omega (arith, first.short))
      ];
    }

pub words_passed : (words : List ℕ) (from at : ℕ) → length words ≤ at → AreUnqueued words (64 * from) (64 * at)
    → NoneFrom words (64 * from)
words_passed words from at all h k least = elim (cases_lt k (64 * at)) [
  | inl below ↦ h k least below
  | inr above ↦
      ap (λ (w : ℕ). bit_at w (k % 64)) (get_or_past words (k / 64) 0 (omega arith)) ∙ bit_at-zero (k % 64)
]

-- a row past the last word is not queued
pub past_words : (words : List ℕ) (from : ℕ) → length words ≤ from / 64 → NoneFrom words from
past_words words from all k least =
    ap (λ (w : ℕ). bit_at w (k % 64)) (get_or_past words (k / 64) 0 (omega arith)) ∙ bit_at-zero (k % 64)

-- a first row in the word of this one
pub next_here : (words : List ℕ) (from bit : ℕ) → from / 64 < length words
    → IsFirstBit (get_or words (from / 64) 0) (from % 64) bit → IsNext words from (64 * (from / 64) + bit)
next_here words from bit there first =
    let at : ℕ = from / 64 in
    let word_is : (64 * at + bit) / 64 ≡ at = omega (arith, first.short) in
    let bit_is : (64 * at + bit) % 64 ≡ bit = omega (arith, first.short) in
    record {
      least = omega (arith, first.least);
      there = omega (arith, first.short);
      queued = ap (λ (q : ℕ). bit_at (get_or words q 0) ((64 * at + bit) % 64)) word_is
          ∙ ap (λ (i : ℕ). bit_at (get_or words at 0) i) bit_is ∙ first.one;
      between = λ k from_ less.
          let same : k / 64 ≡ at = omega (arith, first.short) in
          ap (λ (q : ℕ). bit_at (get_or words q 0) (k % 64)) same
          ∙ first.between (k % 64) (omega arith) (omega (arith, first.short));
    }

rest_of_word : (words : List ℕ) (from k : ℕ) → IsFoundIn (get_or words (from / 64) 0) (from % 64) None → from ≤ k → k / 64 ≡ from / 64
    → bit_of words k ≡ 0
rest_of_word words from k none least same =
    ap (λ (q : ℕ). bit_at (get_or words q 0) (k % 64)) same ∙ none (k % 64) (omega arith)

-- or in a later one
pub next_later : (words : List ℕ) (from : ℕ) (found : Option ℕ) → IsFoundIn (get_or words (from / 64) 0) (from % 64) None
    → IsFound words (64 * (from / 64 + 1)) found → IsFound words from found
next_later words from None none h = λ k least. elim (cases_lt k (64 * (from / 64 + 1))) [
  | inl below ↦ rest_of_word words from k none least (omega arith)
  | inr above ↦ h k above
]
next_later words from (Some r) none h = record {
  least = omega (arith, h.least);
  there = h.there;
  queued = h.queued;
  between = λ k least less. elim (cases_lt k (64 * (from / 64 + 1))) [
    | inl below ↦ rest_of_word words from k none least (omega arith)
    | inr above ↦ h.between k above less
  ];
}
