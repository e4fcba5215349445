-- Bytes that came from a source, in two calls, and where what came is enough.
use Rattle.std.proofs.Common.{◌≡◌, ℕ, ◌+◌, ◌-◌, ◌^◌, ◌≤◌, inl, Bool, List, [], ◌++◌, length, Option, Some, None, IfSome, ap, refl, sym, subst, ◌∙◌, arith, append_assoc, append-nil, take, drop, Result, Ok, Err, OnOk}
use Rattle.std.specs.Option.{option_map}
use Rattle.ug_io.specs.Outside.{Gives, IsAtEnd}
use Rattle.std.proofs.lemmas.List.{length-append, length-drop, length-take-le, take-append-drop, take_at}
use Rattle.ug_mps.specs.declared.ending.Tail.{Tail}
use Rattle.ug_mps.specs.declared.ending.Tail.TheVariants as tails
use Rattle.ug_mps.specs.Ending.{HasNoEnd, HasNoFeed, IsEndedAt, IsLineAt, IsUnended}
use Rattle.ug_mps.specs.Laws.{StatesSame}
use Rattle.ug_mps.proofs.EndingLemmas.{no_end_of, no_end_behind, no_end_yet}
use Rattle.ug_mps.proofs.LineTails.{no_feed_both}
use Rattle.ug_mps.specs.Enough.{IsEnough, PieceCame, StopsAtEnd, StopsAtFeed, StopsBehind}

-- first some bytes came, then more
pub gives_more : (a b c : Option (List ℕ)) (xs ys : List ℕ) → Gives a b xs → Gives b c ys
    → Gives a c (xs ++ ys)
gives_more a b None xs ys p q = p ∙ ap (λ o. option_map (λ rest. xs ++ rest) o) q
gives_more a b (Some r) xs ys p q =
    p ∙ ap (λ o. option_map (λ rest. xs ++ rest) o) q
    ∙ ap (λ t. Some t) (sym (append_assoc xs ys r))

-- a file states what it states
same_text : (text : List ℕ) → StatesSame text text
same_text text = record { problem = λ boxed p r. r; fault = λ boxed f r. r }

-- all came
pub enough_at_end : (a b : Option (List ℕ)) (xs : List ℕ) → Gives a b xs → IsAtEnd b
    → IfSome a (λ whole. IsEnough whole xs)
enough_at_end a None xs p q = subst (λ o. IfSome o (λ whole. IsEnough whole xs)) (sym p) tt
enough_at_end a (Some r) xs p q =
    subst (λ o. IfSome o (λ whole. IsEnough whole xs)) (sym p)
    (subst (λ whole. StatesSame xs whole) (sym (ap (λ t. xs ++ t) q ∙ append-nil xs))
    (same_text xs))

-- nothing came
pub gives_none : (a : Option (List ℕ)) → Gives a a []
gives_none None = refl
gives_none (Some r) = refl

-- ---- the rest of the line

-- the line has no end in what came in this many calls
pub record StaysOpen (first : Tail) (n : ℕ) (old new : Option (List ℕ)) : Type 0 where
  pub before : List ℕ
  pub taken : Gives old new before
  pub no_feed : HasNoFeed before
  pub many : n ≤ length before
  pub after : Bool
  pub is : first ≡ tails.Open after

-- how far the rest of the line was read on over in this many calls
abbrev pub Passed : Tail → Tail → ℕ → Option (List ℕ) → Option (List ℕ) → Type 0
Passed first (tails.Open after) n old new = StaysOpen first n old new
Passed first tails.Legible n old new = StopsAtFeed first old new × IfSome old (λ more. n ≤ 1 + length more)
Passed first tails.Bad n old new = StopsAtFeed first old new × IfSome old (λ more. n ≤ 1 + length more)

none_yet : (a : Option (List ℕ)) → IfSome a (λ more. 0 ≤ 1 + length more)
none_yet None = tt
none_yet (Some r) = omega arith

pub passed_start : (t : Tail) (a : Option (List ℕ)) → Passed t t 0 a a
passed_start (tails.Open after) a = record { before = []; taken = gives_none a; no_feed = tt; many = omega arith; after = after; is = refl }
passed_start tails.Legible a = (refl, none_yet a)
passed_start tails.Bad a = (refl, none_yet a)

count_given : (a b : Option (List ℕ)) (xs : List ℕ) (n : ℕ) → Gives a b xs → n ≤ length xs → IfSome a (λ more. n ≤ length more)
count_given a None xs n g le = subst (λ o. IfSome o (λ more. n ≤ length more)) (sym g) tt
count_given a (Some r) xs n g le = subst (λ o. IfSome o (λ more. n ≤ length more)) (sym g) (omega (arith, le, length-append xs r))

one_more : (a : Option (List ℕ)) (n : ℕ) → IfSome a (λ more. n ≤ length more) → IfSome a (λ more. n + 1 ≤ 1 + length more)
one_more None n h = tt
one_more (Some r) n h = omega (arith, h)

less_one : (a : Option (List ℕ)) (n : ℕ) → IfSome a (λ more. n ≤ length more) → IfSome a (λ more. n ≤ 1 + length more)
less_one None n h = tt
less_one (Some r) n h = omega (arith, h)

-- its end came
closed : (first t : Tail) (after : Bool) (n : ℕ) (a b c : Option (List ℕ)) → StaysOpen first n a b → PieceCame after t b c
    → StopsAtFeed first a c × IfSome a (λ more. n + 1 ≤ 1 + length more)
closed first t after n a b c p q = (
  subst (λ f. StopsAtFeed f a c) (sym p.is) (record {
    before = p.before;
    last = q.piece;
    taken = gives_more a b c p.before q.piece p.taken q.taken;
    kept = p.no_feed;
    piece = q.few;
  }),
  one_more a n (count_given a b p.before n p.taken p.many),
)

-- one more piece
pub passed_on : (first t : Tail) (after : Bool) (n : ℕ) (a b c : Option (List ℕ)) → StaysOpen first n a b → PieceCame after t b c → Passed first t (n + 1) a c
passed_on first (tails.Open later) after n a b c p q =
    let some = q.some later refl in
    record {
      before = p.before ++ q.piece;
      taken = gives_more a b c p.before q.piece p.taken q.taken;
      no_feed = no_feed_both p.before q.piece p.no_feed q.unended;
      many = omega (arith, p.many, some, length-append p.before q.piece);
      after = p.after;
      is = p.is;
    }
passed_on first tails.Legible after n a b c p q = closed first tails.Legible after n a b c p q
passed_on first tails.Bad after n a b c p q = closed first tails.Bad after n a b c p q

pub passed_count : (first t : Tail) (n : ℕ) (a b : Option (List ℕ)) → Passed first t n a b → IfSome a (λ more. n ≤ 1 + length more)
passed_count first (tails.Open after) n a b p = less_one a n (count_given a b p.before n p.taken p.many)
passed_count first tails.Legible n a b p = p.1
passed_count first tails.Bad n a b p = p.1

pub too_many : (a : Option (List ℕ)) (n : ℕ) → 2 ^ 64 - 1 ≤ n → IfSome a (λ more. n ≤ 1 + length more) → IfSome a (λ more. 2 ^ 63 ≤ length more)
too_many None n le h = tt
too_many (Some r) n le h = omega (arith, le, h)

-- ---- the file

-- the line's beginning lies in what was examined
no_end_to : (bytes : List ℕ) (line from : ℕ) → IsLineAt bytes line from → HasNoEnd (take from bytes)
no_end_to bytes line from l =
    let len : length (l.front ++ l.open_) ≡ from = length-append l.front l.open_ ∙ ap (λ n. n + length l.open_) l.begins ∙ l.looked in
    let cut : bytes ≡ (l.front ++ l.open_) ++ l.rest = l.parts ∙ sym (append_assoc l.front l.open_ l.rest) in
    record {
      front = l.front;
      open_ = l.open_;
      parts = ap (take from) cut ∙ take_at (l.front ++ l.open_) l.rest from len;
      whole = l.whole;
      others = l.others;
      no_feed = l.no_feed;
    }

-- all but the last piece was examined before it came, and had no end
pub stops_here : (a b : Option (List ℕ)) (bytes : List ℕ) (line from : ℕ) → IsLineAt bytes line from → length bytes ≤ from + 65536
    → Gives a b bytes → StopsAtEnd a b
stops_here a b bytes line from l few g = record {
  before = take from bytes;
  last = drop from bytes;
  taken = subst (Gives a b) (sym (take-append-drop from bytes)) g;
  kept = no_end_to bytes line from l;
  piece = omega (arith, few, length-drop from bytes);
}

-- the rest of the line was read on over
pub stops_behind : (a b c : Option (List ℕ)) (bytes : List ℕ) (line from cut : ℕ) → IsLineAt bytes line from → length bytes ≤ from + 65536
    → Gives a b bytes → IsEndedAt bytes cut → StopsBehind (drop cut bytes) b c → StopsAtEnd a c
stops_behind a b c bytes line from cut l few g e s =
    by_tail s.tail s.unended s.stops
  where
    by_tail : (t : Tail) → IsUnended t (drop cut bytes) → StopsAtFeed t b c → StopsAtEnd a c
    by_tail (tails.Open after) n w = record {
      before = bytes ++ w.before;
      last = w.last;
      taken = subst (Gives a c) (sym (append_assoc bytes w.before w.last)) (gives_more a b c bytes (w.before ++ w.last) g w.taken);
      kept = no_end_behind bytes w.before (no_end_yet bytes cut e n) w.kept;
      piece = w.piece;
    }
    by_tail tails.Legible n w = subst (StopsAtEnd a) (sym w) (stops_here a b bytes line from l few g)
    by_tail tails.Bad n w = subst (StopsAtEnd a) (sym w) (stops_here a b bytes line from l few g)

-- the source is at its end
pub stops_last : (a b c : Option (List ℕ)) (bytes zs : List ℕ) (line n : ℕ) → IsLineAt bytes line (length bytes) → n ≡ 0
    → Gives a b bytes → Gives b c (take n zs) → StopsAtEnd a c
stops_last a b c bytes zs line n l z g h = record {
  before = bytes;
  last = take n zs;
  taken = gives_more a b c bytes (take n zs) g h;
  kept = no_end_of bytes line l;
  piece = subst (λ k. length (take k zs) ≤ 65536) (sym z) (omega arith);
}

pub on_ok : {A E : Type 0} (r : Result A E) (P Q : Type 0) → (P → Q) → OnOk r P → OnOk r Q
on_ok (Ok x) P Q f h = f h
on_ok (Err e) P Q f h = tt

pub enough_last : (a b : Option (List ℕ)) (xs ys zs : List ℕ) (n : ℕ) → n ≡ 0 → ys ≡ xs ++ take n zs → Gives a b xs → IsAtEnd b
    → IfSome a (λ whole. IsEnough whole ys)
enough_last a b xs ys zs n z e g at =
    subst (λ l. IfSome a (λ whole. IsEnough whole l)) (sym (e ∙ ap (λ k. xs ++ take k zs) z ∙ append-nil xs)) (enough_at_end a b xs g at)

-- nothing was read
pub stops_at_once : (a : Option (List ℕ)) → StopsAtEnd a a
stops_at_once a = record {
  before = [];
  last = [];
  taken = gives_none a;
  kept = record { front = []; open_ = []; parts = refl; whole = inl refl; others = tt; no_feed = tt };
  piece = omega arith;
}

-- the line that was begun continues in what came
pub line_goes_on : (bytes more piece : List ℕ) (line from : ℕ) → more ≡ bytes ++ piece → IsLineAt bytes line from
    → IsLineAt more line from
line_goes_on bytes more piece line from put l = record {
  front = l.front;
  open_ = l.open_;
  rest = l.rest ++ piece;
  parts = put ∙ ap (λ t. t ++ piece) l.parts ∙ append_assoc l.front (l.open_ ++ l.rest) piece
      ∙ ap (λ t. l.front ++ t) (append_assoc l.open_ l.rest piece);
  whole = l.whole;
  others = l.others;
  no_feed = l.no_feed;
  begins = l.begins;
  looked = l.looked;
  within = l.within;
}

-- what came is no longer than the buffer
pub few_more : (bytes more zs : List ℕ) (n most : ℕ) → more ≡ bytes ++ take n zs → n ≤ length zs → length zs ≤ most
    → length more ≤ length bytes + most
few_more bytes more zs n most put within few =
    omega (arith, ap (λ (t : List ℕ). length t) put, length-append bytes (take n zs), length-take-le n zs within, few)
