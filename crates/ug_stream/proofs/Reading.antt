-- How a stream is read, message by message.
use Rattle.std.proofs.Common.{◌≡◌, inr, ℕ, false, List, [], ◌∷◌, ◌++◌, length, drop, All, refl, sym, ap, subst, ◌∙◌, ◌≤◌, append_assoc, append-nil, arith}
use Rattle.std.specs.List.{flat_map}
use Rattle.std.proofs.lemmas.List.{length-append}
use Rattle.std.proofs.lemmas.List.Elements.{All-append, All-cons, All-head, All-nil, All-tail}
use Rattle.std.proofs.lemmas.Grind.{flat_map-append}
use Rattle.std.proofs.Math.Seq.{drop-append_seam}
use Rattle.ug_frames.specs.declared.decoded.Decoded.{Decoded}
use Rattle.ug_frames.specs.declared.decoded.Decoded.TheVariants.{NeedMore, Bad, Whole}
use Rattle.ug_frames.specs.Fronts.{BeginsWith, IsDecoded}
use Rattle.ug_frames.specs.Laws.{FramesAreUnique}
use Rattle.ug_stream.specs.Streams.{IsBadAt, IsGiven, Waiting, fed, further, passed, shut}
use Rattle.ug_stream.specs.Laws.{AreGiven, GivesWhatCame, IsOneReading, IsReadInOneWay, ShortIsOver, joined, messages}

-- more bytes where none was bad
fed_fine : (w : Waiting) (piece : List ℕ) → w.bad ≡ false
    → fed w piece ≡ record w { bytes = w.bytes ++ piece }
fed_fine w piece fine = rw fine refl

module _ {M : Type 0} (IsCarried : M → Type 0) (spelled : M → List ℕ)
    (unique : FramesAreUnique IsCarried spelled)
    (only : (bytes : List ℕ) (one other : Decoded M) → IsDecoded IsCarried spelled bytes one
    → IsDecoded IsCarried spelled bytes other → one ≡ other) where
  -- messages that were given are the front of what waited
  pub record AreFront (ms : List M) (old new : Waiting) : Type 0 where
    pub fine : new.bad ≡ false
    pub carried : All IsCarried ms
    pub same : old.bytes ≡ flat_map spelled ms ++ new.bytes

  are_front : (ms : List M) (old new : Waiting) → old.bad ≡ false
      → AreGiven IsCarried spelled ms old new → AreFront ms old new
  are_front [] old new fine given = record {
    fine = ap (λ (w : Waiting). w.bad) given ∙ fine;
    carried = All-nil IsCarried;
    same = ap (λ (w : Waiting). w.bytes) (sym given);
  }
  are_front (message ∷ ms) old new fine (mid, given, more) =
      let rest = are_front ms mid new given.still more in
      record {
        fine = rest.fine;
        carried = All-cons IsCarried message ms given.carried rest.carried;
        same = given.parts ∙ ap (λ (bytes : List ℕ). spelled message ++ bytes) rest.same
            ∙ sym (append_assoc (spelled message) (flat_map spelled ms) new.bytes);
      }

  gives : GivesWhatCame IsCarried spelled
  gives [] old new fine leads = record {
    carried = All-nil IsCarried;
    same = append-nil old.bytes ∙ ap (λ (w : Waiting). w.bytes) (sym leads);
  }
  gives (round ∷ rounds) old new fine (mid, given, leads) =
      let more : Waiting = record old { bytes = old.bytes ++ round.piece } in
      let front = are_front round.given more mid fine
      (subst (λ (w : Waiting). AreGiven IsCarried spelled round.given w mid)
      (fed_fine old round.piece fine) given) in
      let rest = gives rounds mid new front.fine leads in
      record {
        carried = All-append IsCarried round.given (messages rounds) front.carried rest.carried;
        same = sym (append_assoc old.bytes round.piece (joined rounds))
            ∙ ap (λ (bytes : List ℕ). bytes ++ joined rounds) front.same
            ∙ append_assoc (flat_map spelled round.given) mid.bytes (joined rounds)
            ∙ ap (λ (bytes : List ℕ). flat_map spelled round.given ++ bytes) rest.same
            ∙ sym (append_assoc (flat_map spelled round.given)
            (flat_map spelled (messages rounds)) new.bytes)
            ∙ ap (λ (bytes : List ℕ). bytes ++ new.bytes)
            (sym (flat_map-append spelled round.given (messages rounds)));
      }

  -- the front of what is to be read
  begins : (message : M) (ms : List M) (r bytes : List ℕ) → IsCarried message
      → bytes ≡ flat_map spelled (message ∷ ms) ++ r
      → BeginsWith IsCarried spelled bytes message
  begins message ms r bytes carried same = record {
    carried = carried;
    rest = flat_map spelled ms ++ r;
    parts = same ∙ append_assoc (spelled message) (flat_map spelled ms) r;
  }

  one_reading : IsOneReading IsCarried spelled
  one_reading [] [] r s carried also over over_too same = (refl, same)
  one_reading [] (n ∷ ns) r s carried also over over_too same =
      absurd (over n (begins n ns s r (All-head IsCarried n ns also) same))
  one_reading (m ∷ ms) [] r s carried also over over_too same =
      absurd (over_too m (begins m ms r s (All-head IsCarried m ms carried) (sym same)))
  one_reading (m ∷ ms) (n ∷ ns) r s carried also over over_too same =
      let first = unique m n (flat_map spelled ms ++ r) (flat_map spelled ns ++ s)
      (All-head IsCarried m ms carried) (All-head IsCarried n ns also)
      (sym (append_assoc (spelled m) (flat_map spelled ms) r) ∙ same
      ∙ append_assoc (spelled n) (flat_map spelled ns) s) in
      let rest = one_reading ms ns r s (All-tail IsCarried m ms carried)
      (All-tail IsCarried n ns also) over over_too first.1 in (
        (λ i. first.0 i ∷ rest.0 i),
        rest.1,
      )

  not_whole : (message : M) (used : ℕ) → ◌≡◌ {A = Decoded M} NeedMore (Whole message used) → ⊥
  not_whole message used same = absurd (cc same)

  short_over : ShortIsOver IsCarried spelled
  short_over bytes short message b =
      not_whole message (length (spelled message))
      (only bytes NeedMore (Whole message (length (spelled message))) short (b, refl))

  pub in_one_way : IsReadInOneWay IsCarried spelled
  in_one_way = record { gives = gives; one = one_reading; short = short_over }

-- a whole frame leaves what follows it
pub given_is : {M : Type 0} (IsCarried : M → Type 0) (spelled : M → List ℕ) (old : Waiting)
    (message : M) (used : ℕ) → old.bad ≡ false
    → IsDecoded IsCarried spelled old.bytes (Whole message used)
    → IsGiven IsCarried spelled old (passed used old) message
given_is IsCarried spelled old message used fine (b, is) = record {
  fine = fine;
  carried = b.carried;
  parts = b.parts ∙ ap (λ (bytes : List ℕ). spelled message ++ bytes)
      (sym (ap (λ n. drop n old.bytes) is
      ∙ ap (drop (length (spelled message))) b.parts
      ∙ drop-append_seam (spelled message) b.rest));
  at = ap (further old.at) is;
  still = fine;
}

-- and no more than what waited has it
pub used_fits : {M : Type 0} (IsCarried : M → Type 0) (spelled : M → List ℕ) (bytes : List ℕ)
    (message : M) (used : ℕ) → IsDecoded IsCarried spelled bytes (Whole message used)
    → used ≤ length bytes
used_fits IsCarried spelled bytes message used (b, is) =
    omega (arith, is, ap length b.parts, length-append (spelled message) b.rest)

-- bytes that are no frame leave none that wait
pub bad_so : {M : Type 0} (IsCarried : M → Type 0) (spelled : M → List ℕ) (old new : Waiting)
    (at : ℕ) (bytes : List ℕ) → bytes ≡ old.bytes → IsDecoded IsCarried spelled bytes Bad
    → new ≡ shut old → at ≡ old.at → IsBadAt IsCarried spelled old new at
bad_so IsCarried spelled old new at bytes same bad is place = record {
  place = place;
  bad = inr (subst (λ b. IsDecoded IsCarried spelled b Bad) same bad);
  final = ap (λ (w : Waiting). w.bad) is;
  still = ap (λ (w : Waiting). w.at) is;
}
