-- What recovery finds in two slots.
use Rattle.std.proofs.Common.{◌≡◌, ◌⊎◌, inl, inr, ⊎_elim, ℕ, ◌+◌, ◌<◌, ◌≤◌, ◌^◌, List, ◌++◌, length, take, drop, get_or, Option, None, Some, refl, sym, ◌∙◌, ap, arith, length-append, nat_lt}
use Rattle.std.specs.Int.{w64, from_be_bytes}
use Rattle.std.proofs.lemmas.List.{take_at, drop_at, take-take, drop-take, drop-drop, length-take, length-drop}
use Rattle.std.proofs.lemmas.Nat.{from_be_bytes-to_be_bytes_8}
use Rattle.std.proofs.lemmas.Bool.{cases_lt, cases_eq, cases_cond, cond-true, cond-false, le-ltb, lt-ltb}
use Rattle.ug_fields.proofs.Bytes.{length-bytes}
use Rattle.ug_disk.specs.declared.slot.Slot.{Slot}
use Rattle.ug_disk.specs.declared.slot.Slot.TheVariants.{Zero, One}
use Rattle.ug_checkpoint.specs.Gates.{IsOpen, HasBody}
use Rattle.ug_checkpoint.specs.Runs.{bytes_in, other}
use Rattle.ug_image.specs.declared.image.Image.{Image}
use Rattle.ug_image.specs.Images.{IsImage}
use Rattle.ug_fields.specs.Spelling.{long_field}
use Rattle.ug_image.specs.Spelling.{IsOfVersion, spelled}
use Rattle.ug_image.proofs.Verdicts.{image_is_told}
use Rattle.ug_checkpoint.specs.declared.found.Found.{Found}
use Rattle.ug_checkpoint.specs.Bodies.{body_of, counted, stored, Has, Stores, IsBad}
use Rattle.ug_checkpoint.specs.Recovery.{chosen, Recovered, IsFirstBadSlot}

field_size : (n : ℕ) → length (long_field n) ≡ 8
unfolding long_field
field_size n = length-bytes 8 n

field_again : (n : ℕ) → n < 2 ^ 64 → from_be_bytes w64 (long_field n) ≡ n
unfolding long_field
field_again n small = from_be_bytes-to_be_bytes_8 n small

-- every image can be reported in version 3
newest : (image : Image) → IsOfVersion 3 image
newest image = record {
  least = omega arith;
  most = omega arith;
  gap = λ old. absurd (omega arith);
  heard = λ old. absurd (omega arith);
  starting = λ old. absurd (omega arith);
}

-- a slot with the body of an image has it
pub has_new : (image : Image) (slot : List ℕ) → IsImage image → length (spelled image) < 2 ^ 63
    → HasBody (body_of image) slot → Has slot image
has_new image slot is small has =
    let spelling = spelled image in
    let n = length spelling in
    let field = long_field n in
    let body = field ++ spelling in
    let behind = drop 1 slot in
    let size : length body ≡ 8 + n = omega
    (arith, length-append field spelling, field_size n) in
    let there = ap (λ (l : List ℕ). length l) has.1 in
    let long : 8 + n ≤ length behind = omega
    (arith, there, length-take (length body) behind, size) in
    let front : take 8 behind ≡ field =
    sym (take-take 8 (length body) behind (omega (arith, size)))
    ∙ ap (λ (l : List ℕ). take 8 l) has.1 ∙ take_at field spelling 8 (field_size n) in
    let count : counted slot ≡ n =
    ap (λ (l : List ℕ). from_be_bytes w64 l) front ∙ field_again n (omega arith) in
    let rest : take n (drop 9 slot) ≡ spelling =
    ap (λ (l : List ℕ). take n l) (sym (drop-drop 8 1 slot))
    ∙ sym (drop-take 8 n behind)
    ∙ ap (λ (k : ℕ). drop 8 (take k behind)) (sym size)
    ∙ ap (λ (l : List ℕ). drop 8 l) has.1 ∙ drop_at field spelling 8 (field_size n) in
    record {
      opened = (omega (arith, long, length-drop 1 slot), has.0);
      whole = omega (arith, long, length-drop 1 slot, count);
      spells = record {
        is = is;
        version = 3;
        says = newest image;
        spelling = ap (λ (k : ℕ). take k (drop 9 slot)) count ∙ rest;
      };
    }

pub has_one : (slot : List ℕ) (a b : Image) → Has slot a → Has slot b → a ≡ b
has_one slot a b first second =
    let told = image_is_told (stored slot) a first.spells in
    let also = image_is_told (stored slot) b second.spells in cc

stores_one : (slot : List ℕ) (a b : Option Image) → Stores slot a → Stores slot b → a ≡ b
stores_one slot None None first second = refl
stores_one slot None (Some b) first second = absurd (first second.opened)
stores_one slot (Some a) None first second = absurd (second first.opened)
stores_one slot (Some a) (Some b) first second = ap Some (has_one slot a b first second)

-- recovery finds one thing
pub recovered_one : (zero one : List ℕ) (found other : Option Found) → Recovered zero one found
    → Recovered zero one other → found ≡ other
recovered_one zero one found other first second =
    let in_zero = stores_one zero first.in_zero second.in_zero first.has_zero second.has_zero in
    let in_one = stores_one one first.in_one second.in_one first.has_one second.has_one in
    first.greater ∙ (λ i. chosen (in_zero i) (in_one i)) ∙ sym second.greater

not_bad : (slot : List ℕ) (at : ℕ) (in_slot : Option Image) → Stores slot in_slot
    → IsBad slot at → ⊥
not_bad slot at None stores bad = stores bad.opened
not_bad slot at (Some image) stores bad = bad.none image stores

-- and then no slot is bad
pub recovered_not_bad : (zero one : List ℕ) (found : Option Found) (slot : Slot) (at : ℕ)
    → Recovered zero one found → IsFirstBadSlot zero one slot at → ⊥
recovered_not_bad zero one found Zero at recovered bad =
    not_bad zero at recovered.in_zero recovered.has_zero bad
recovered_not_bad zero one found One at recovered bad =
    not_bad one at recovered.in_one recovered.has_one bad.1

abbrev here : Slot → Image → Option Found
here slot image = Some (record { slot = slot; image = image })

slot_same : (s t : Slot) (a b : Image) → here s a ≡ here t b → s ≡ t
slot_same s t a b is =
    let same : record { slot = s; image = a } ≡ record { slot = t; image = b } = cc is in
    ap (λ (f : Found). f.slot) same

image_same : (s t : Slot) (a b : Image) → here s a ≡ here t b → a ≡ b
image_same s t a b is =
    let same : record { slot = s; image = a } ≡ record { slot = t; image = b } = cc is in
    ap (λ (f : Found). f.image) same

apart : (a b : Image) → here Zero a ≡ here One b → ⊥
apart a b is = let slots = slot_same Zero One a b is in absurd (cc slots)

-- the slot of the larger sequence
pub chosen_zero : (a b : Option Image) (image : Image) → here Zero image ≡ chosen a b
    → a ≡ Some image
chosen_zero None None image is = absurd (cc is)
chosen_zero None (Some b) image is = absurd (apart image b is)
chosen_zero (Some a) None image is = sym (ap Some (image_same Zero Zero image a is))
chosen_zero (Some a) (Some b) image is = ⊎_elim (λ one. absurd (apart image b one))
    (λ zero. sym (ap Some (image_same Zero Zero image a zero)))
    (cases_cond (nat_lt a.sequence b.sequence) (here One b) (here Zero a) (here Zero image) is)

pub chosen_one : (a b : Option Image) (image : Image) → here One image ≡ chosen a b
    → b ≡ Some image
chosen_one None None image is = absurd (cc is)
chosen_one None (Some b) image is = sym (ap Some (image_same One One image b is))
chosen_one (Some a) None image is = absurd (apart a image (sym is))
chosen_one (Some a) (Some b) image is = ⊎_elim
    (λ one. sym (ap Some (image_same One One image b one)))
    (λ zero. absurd (apart a image (sym zero)))
    (cases_cond (nat_lt a.sequence b.sequence) (here One b) (here Zero a) (here One image) is)

-- the images of a slot and of the other, in the order of slots
abbrev pub chosen_of : Slot → Option Image → Option Image → Option Found
chosen_of Zero own others = chosen own others
chosen_of One own others = chosen others own

pub recovers : (slot : Slot) (zero one : List ℕ) (own others : Option Image)
    → Stores (bytes_in slot zero one) own → Stores (bytes_in (other slot) zero one) others
    → Recovered zero one (chosen_of slot own others)
recovers Zero zero one own others first second = record {
  in_zero = own;
  in_one = others;
  has_zero = first;
  has_one = second;
  greater = refl;
}
recovers One zero one own others first second = record {
  in_zero = others;
  in_one = own;
  has_zero = second;
  has_one = first;
  greater = refl;
}

-- for a slot alone
pub chosen_alone : (slot : Slot) (image : Image)
    → chosen_of slot (Some image) None ≡ here slot image
chosen_alone Zero image = refl
chosen_alone One image = refl

pub chosen_other : (slot : Slot) (image : Image)
    → chosen_of slot None (Some image) ≡ here (other slot) image
chosen_other Zero image = refl
chosen_other One image = refl

pub chosen_none : (slot : Slot) → chosen_of slot None None ≡ None
chosen_none Zero = refl
chosen_none One = refl

-- a greater one
pub chosen_above : (slot : Slot) (image last : Image) → last.sequence < image.sequence
    → chosen_of slot (Some image) (Some last) ≡ here slot image
chosen_above Zero image last above =
    cond-false (nat_lt image.sequence last.sequence) (here One last) (here Zero image)
    (le-ltb image.sequence last.sequence (omega arith))
chosen_above One image last above =
    cond-true (nat_lt last.sequence image.sequence) (here One image) (here Zero last)
    (lt-ltb last.sequence image.sequence above)

-- a slot is open or not
pub open_or_not : (slot : List ℕ) → IsOpen slot ⊎ (IsOpen slot → ⊥)
open_or_not slot = elim (cases_lt (length slot) 2) [
  | inl short ↦ inr (λ opened. omega (arith, opened.0))
  | inr long ↦ elim (cases_eq (get_or slot 0 0) 1) [
    | inl is ↦ inl (long, is)
    | inr shut ↦ inr (λ opened. shut opened.1)
  ]
]
