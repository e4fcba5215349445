-- Rows that are woken one after another.
use Rattle.std.proofs.Common.{◌≡◌, ◌≢◌, ◌∙◌, refl, sym, ap, inl, inr, ℕ, ◌+◌, ◌<◌, ◌≤◌, List, length, arith}
use Rattle.std.proofs.lemmas.Bool.{cases_eq}
use Rattle.ug_problem.specs.Locks.{listed_at}
use Rattle.ug_propagate.specs.Queued.{HasBit, bit_of}
use Rattle.ug_propagate.specs.Working.{AreEnqueued}

-- the rows of the first i of these were enqueued, and each other is as it was
pub record AreFirstEnqueued (rows : List ℕ) (i : ℕ) (old new : List ℕ) : Type 0 where
  pub width : length new ≡ length old
  pub unqueued : (r : ℕ) → bit_of new r ≡ 0 → bit_of old r ≡ 0
  pub others : (r k : ℕ) → bit_of new r ≡ 0 → k < i → listed_at rows k ≢ r

pub enqueued_first : (rows : List ℕ) (queued : List ℕ) → AreFirstEnqueued rows 0 queued queued
enqueued_first rows queued = record { width = refl; unqueued = λ r h. h; others = λ r k h less same. absurd (omega (arith, less)) }

both_bits : (words : List ℕ) (r : ℕ) → bit_of words r ≡ 0 → bit_of words r ≡ 1 → ⊥
both_bits words r zero one = let h : 0 ≡ 1 = sym zero ∙ one in omega (arith, h)

-- a row that is asleep now is another than the one that was woken, and was asleep
unqueued_before : (row r : ℕ) (mid new : List ℕ) → HasBit row 1 mid new → bit_of new r ≡ 0 → bit_of mid r ≡ 0
unqueued_before row r mid new h zero = elim (cases_eq r row) [
  | inl same ↦ absurd (both_bits new r zero (ap (λ (n : ℕ). bit_of new n) same ∙ h.here))
  | inr other ↦ sym (h.others r other) ∙ zero
]

pub enqueued_more : (rows : List ℕ) (i : ℕ) (old mid new : List ℕ) → length new ≡ length mid
    → HasBit (listed_at rows i) 1 mid new → AreFirstEnqueued rows i old mid → AreFirstEnqueued rows (i + 1) old new
enqueued_more rows i old mid new width bit h =
    let row : ℕ = listed_at rows i in
    record {
      width = width ∙ h.width;
      unqueued = λ r zero. h.unqueued r (unqueued_before row r mid new bit zero);
      others = λ r k zero less same. elim (cases_eq k i) [
        | inl e ↦
            let here : row ≡ r = ap (λ (n : ℕ). listed_at rows n) (sym e) ∙ same in
            both_bits new r zero (ap (λ (n : ℕ). bit_of new n) (sym here) ∙ bit.here)
        | inr other ↦ h.others r k (unqueued_before row r mid new bit zero) (omega (arith, less, other)) same
      ];
    }

pub enqueued_all : (rows : List ℕ) (i : ℕ) (old new : List ℕ) → length rows ≤ i
    → AreFirstEnqueued rows i old new → AreEnqueued rows old new
enqueued_all rows i old new all h = record {
  width = h.width;
  unqueued = h.unqueued;
  others = λ r k zero less. h.others r k zero (omega (arith, less, all));
}
