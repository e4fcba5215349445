-- The frame at the front of bytes, by what is read behind its length.
use Rattle.std.proofs.Common.{◌≡◌, ℕ, ◌+◌, ◌^◌, ◌<◌, ◌≤◌, List, ◌++◌, length, take, drop, Result, Ok, Err, IfOk, refl, sym, ◌∙◌, ap, subst, append_assoc, arith, inl, inr}
use Rattle.std.specs.Int.{w32, from_be_bytes}
use Rattle.std.proofs.lemmas.List.{take_at, drop_at, take-append-drop, append_cancel_left, length-append, length-take, length-drop}
use Rattle.std.proofs.lemmas.Nat.{be_bytes_4, from_be_bytes-to_be_bytes_4}
use Rattle.ug_fields.specs.declared.fault.Fault.{Fault}
use Rattle.ug_fields.specs.declared.fault.Fault.TheVariants as fault
use Rattle.ug_fields.specs.Reading.{Gives}
use Rattle.ug_fields.specs.Readers.{IsBytes}
use Rattle.ug_fields.specs.Spelling.{count_field}
use Rattle.ug_fields.proofs.Bytes.{IsBytes-take, IsBytes-drop}
use Rattle.ug_fields.proofs.Simple.{count_long}
use Rattle.ug_fields.proofs.Takes.{ok_is}
use Rattle.ug_frames.specs.declared.decoded.Decoded.{Decoded}
use Rattle.ug_frames.specs.declared.decoded.Decoded.TheVariants.{NeedMore, Bad, Whole}
use Rattle.ug_frames.specs.Ranges.{longest}
use Rattle.ug_frames.specs.Spelling.{framed}
use Rattle.ug_frames.specs.Fronts.{length_told, IsLength, IsCutShort, IsThere, BeginsWith, IsDecoded}
use Rattle.ug_frames.specs.Behind.{whole_of}
use Rattle.ug_frames.specs.Laws.{FramesAreUnique}
use Rattle.ug_frames.proofs.Wholes.{IsWhole}

-- what the length counts of the bytes behind it
abbrev pub behind_length : List ℕ → List ℕ
behind_length bytes = take (length_told bytes) (drop 4 bytes)

count_again : (n : ℕ) → n < 2 ^ 32 → from_be_bytes w32 (count_field n) ≡ n
unfolding count_field
count_again n small = from_be_bytes-to_be_bytes_4 n small

count_back : (bytes : List ℕ) → length bytes ≡ 4 → IsBytes bytes
    → count_field (from_be_bytes w32 bytes) ≡ bytes
unfolding count_field
count_back bytes size h = be_bytes_4 bytes _ size h refl

-- a frame with something behind it
module _ (text rest : List ℕ) (small : IsLength (length text)) where
  in_parts : framed text ++ rest ≡ count_field (length text) ++ (text ++ rest)
  unfolding framed
  in_parts = append_assoc (count_field (length text)) text rest

  front_is : take 4 (framed text ++ rest) ≡ count_field (length text)
  front_is = ap (take 4) in_parts
      ∙ take_at (count_field (length text)) (text ++ rest) 4 (count_long (length text))

  back_is : drop 4 (framed text ++ rest) ≡ text ++ rest
  back_is = ap (drop 4) in_parts
      ∙ drop_at (count_field (length text)) (text ++ rest) 4 (count_long (length text))

  pub told_is : length_told (framed text ++ rest) ≡ length text
  told_is = ap (from_be_bytes w32) front_is
      ∙ count_again (length text) (omega (arith, small.few))

  pub text_is : behind_length (framed text ++ rest) ≡ text
  text_is = (λ i. take (told_is i) (back_is i)) ∙ take_at text rest (length text) refl

  long : length (framed text ++ rest) ≡ 4 + length text + length rest
  long = ap length in_parts ∙ omega (
    arith,
    length-append (count_field (length text)) (text ++ rest),
    length-append text rest,
    count_long (length text),
  )

  pub is_there : IsThere (framed text ++ rest)
  is_there = record {
    fine = subst IsLength (sym told_is) small;
    whole = omega (arith, told_is, long);
  }

pub framed_long : (text : List ℕ) → length (framed text) ≡ 4 + length text
unfolding framed
framed_long text = omega (
  arith,
  length-append (count_field (length text)) text,
  count_long (length text),
)

pub not_cut : (bytes : List ℕ) → IsThere bytes → ¬ IsCutShort bytes
not_cut bytes there (inl short) = omega (arith, short, there.whole)
not_cut bytes there (inr lacks) = omega (arith, lacks.short, there.whole)

-- a frame that is there is what its length counts, and what is behind it
pub there_is : (bytes : List ℕ) → IsBytes bytes → IsThere bytes
    → (length (behind_length bytes) ≡ length_told bytes)
    × (bytes ≡ framed (behind_length bytes) ++ drop (length_told bytes) (drop 4 bytes))
unfolding framed
there_is bytes h there =
    let n = length_told bytes in
    let text = behind_length bytes in
    let rest = drop n (drop 4 bytes) in
    let size : length text ≡ n = omega (
      arith,
      length-take n (drop 4 bytes),
      length-drop 4 bytes,
      there.whole,
    ) in
    let four : length (take 4 bytes) ≡ 4 = omega (arith, length-take 4 bytes, there.whole) in
    let front : count_field (length text) ≡ take 4 bytes = ap count_field size
    ∙ count_back (take 4 bytes) four (IsBytes-take 4 bytes h) in (
      size,
      sym (take-append-drop 4 bytes)
          ∙ (λ i. sym front i ++ sym (take-append-drop n (drop 4 bytes)) i)
          ∙ sym (append_assoc (count_field (length text)) text rest),
    )

-- messages, each with the bytes that its frame has behind the length
module _ {M : Type 0} (IsCarried : M → Type 0) (body : M → List ℕ) (read : List ℕ → Result M ℕ)
    (whole : IsWhole longest IsCarried body read)
    (small : (message : M) → IsCarried message → IsLength (length (body message))) where
  abbrev spelled : M → List ℕ
  spelled message = framed (body message)

  abbrev Begins : List ℕ → M → Type 0
  Begins bytes message = BeginsWith IsCarried spelled bytes message

  begins_there : (bytes : List ℕ) (message : M) → Begins bytes message → IsThere bytes
  begins_there bytes message b = subst IsThere (sym b.parts)
      (is_there (body message) b.rest (small message b.carried))

  begins_is : (bytes : List ℕ) (message : M) → Begins bytes message
      → read (behind_length bytes) ≡ Ok message
  begins_is bytes message b =
      ap (λ (t : List ℕ). read (behind_length t)) b.parts
      ∙ ap read (text_is (body message) b.rest (small message b.carried))
      ∙ whole.again message b.carried

  -- if a frame is there, and its message is read, this is at the front
  told_whole : (bytes frame : List ℕ) (message : M) → IsBytes bytes
      → IsThere bytes × (frame ≡ behind_length bytes) → read frame ≡ Ok message
      → IsDecoded IsCarried spelled bytes (Whole message (4 + length frame))
  told_whole bytes frame message h (there, is) e =
      let fits = IsBytes-take (length_told bytes) (drop 4 bytes) (IsBytes-drop 4 bytes h) in
      let parts = there_is bytes h there in
      let few : length (behind_length bytes) ≤ longest = omega (arith, parts.0, there.fine.few) in
      let t = whole.taken (behind_length bytes) message fits few (ap read (sym is) ∙ e) in (
        record {
          carried = t.1;
          rest = drop (length_told bytes) (drop 4 bytes);
          parts = parts.1
              ∙ ap (λ text. framed text ++ drop (length_told bytes) (drop 4 bytes)) t.0;
        },
        ap (λ f. 4 + length f) is ∙ sym (framed_long (behind_length bytes))
            ∙ ap (λ text. length (framed text)) t.0,
      )

  -- if a frame is there, and none is read, none is at the front
  told_bad : (bytes frame : List ℕ) (left : ℕ)
      → IsThere bytes × (frame ≡ behind_length bytes) → read frame ≡ Err left
      → IsDecoded IsCarried spelled bytes Bad
  told_bad bytes frame left (there, is) e = (
    not_cut bytes there,
    λ message b.
        let told = ap read is ∙ begins_is bytes message b in absurd (cc (e, told)),
  )

  -- none is where the length is out of range
  pub told_beyond : (bytes : List ℕ) → (4 ≤ length bytes) × ¬ IsLength (length_told bytes)
      → IsDecoded IsCarried spelled bytes Bad
  told_beyond bytes (four, bad) = (
    λ cut. elim cut [
      | inl short ↦ omega (arith, short, four)
      | inr lacks ↦ bad lacks.fine
    ],
    λ message b. bad (begins_there bytes message b).fine,
  )

  -- bytes stand for one answer
  pub only_one : (bytes : List ℕ) (one other : Decoded M)
      → IsDecoded IsCarried spelled bytes one → IsDecoded IsCarried spelled bytes other
      → one ≡ other
  only_one bytes NeedMore NeedMore is so = refl
  only_one bytes NeedMore Bad is so = absurd (so.0 is)
  only_one bytes NeedMore (Whole message used) is so =
      absurd (not_cut bytes (begins_there bytes message so.0) is)
  only_one bytes Bad NeedMore is so = absurd (is.0 so)
  only_one bytes Bad Bad is so = refl
  only_one bytes Bad (Whole message used) is so = absurd (is.1 message so.0)
  only_one bytes (Whole message used) NeedMore is so =
      absurd (not_cut bytes (begins_there bytes message is.0) so)
  only_one bytes (Whole message used) Bad is so = absurd (so.1 message is.0)
  only_one bytes (Whole message used) (Whole another many) is so =
      let same : message ≡ another = ok_is message another
      (sym (begins_is bytes message is.0) ∙ begins_is bytes another so.0) in
      let count : used ≡ many = is.1 ∙ ap (λ m. length (spelled m)) same ∙ sym so.1 in
      λ i. Whole (same i) (count i)

  -- what was read of a frame that is there
  module _ (bytes frame : List ℕ) (h : IsBytes bytes)
      (there : IsThere bytes × (frame ≡ behind_length bytes)) where
    pub read_is : (r : Result M Fault) → Gives (λ x. x) r (read frame)
        → IfOk (whole_of r (4 + length frame)) (IsDecoded IsCarried spelled bytes)
    read_is (Ok message) e = told_whole bytes frame message h there e
    read_is (Err fault.Memory) e = tt
    read_is (Err (fault.Bad left)) e = told_bad bytes frame left there e

    pub read_only : (r : Result M Fault) → Gives (λ x. x) r (read frame)
        → (other : Decoded M) → IsDecoded IsCarried spelled bytes other
        → IfOk (whole_of r (4 + length frame)) (λ (one : Decoded M). one ≡ other)
    read_only (Ok message) e other is =
        only_one bytes (Whole message (4 + length frame)) other
        (told_whole bytes frame message h there e) is
    read_only (Err fault.Memory) e other is = tt
    read_only (Err (fault.Bad left)) e other is =
        only_one bytes Bad other (told_bad bytes frame left there e) is

  pub unique : FramesAreUnique IsCarried spelled
  unique message other r s is so same =
      let one : Begins (spelled message ++ r) message = record {
        carried = is;
        rest = r;
        parts = refl;
      } in
      let two : Begins (spelled message ++ r) other = record {
        carried = so;
        rest = s;
        parts = same;
      } in
      let first : message ≡ other = ok_is message other
      (sym (begins_is (spelled message ++ r) message one)
      ∙ begins_is (spelled message ++ r) other two) in (
        first,
        append_cancel_left (spelled message) r s
            (same ∙ ap (λ m. spelled m ++ s) (sym first)),
      )

  -- the bytes behind the length, of a frame at the front
  pub body_is : (bytes : List ℕ) (message : M) → Begins bytes message
      → behind_length bytes ≡ body message
  body_is bytes message b =
      ap behind_length b.parts ∙ text_is (body message) b.rest (small message b.carried)
