-- What the bytes so far show of a file.
use Rattle.std.proofs.Common.{◌≡◌, ◌≢◌, ℕ, ◌+◌, ◌<◌, ◌≤◌, inr, Bool, true, false, List, [], ◌∷◌, ◌++◌, length, take, drop, Some, refl, sym, ap, ◌∙◌, subst, arith, append_assoc, append-nil}
use Rattle.std.specs.Prelude.{◌==◌, codes}
use Rattle.std.specs.List.{position}
use Rattle.std.proofs.lemmas.Bool.{false≢true, eqb-true}
use Rattle.std.proofs.lemmas.List.{take_at, drop_at, length-append, nil_from_length}
use Rattle.std.specs.List.{onto_first}
use Rattle.ug_lines.specs.Lines.{Line, pieces, content_of, lines_after, lines_of}
use Rattle.ug_lines.specs.Words.{is_legible}
use Rattle.ug_mps.specs.declared.ending.Head.{Head}
use Rattle.ug_mps.specs.declared.ending.Head.TheVariants as heads
use Rattle.ug_mps.specs.declared.ending.Seen.{Seen}
use Rattle.ug_mps.specs.declared.ending.Seen.TheVariants as seens
use Rattle.ug_mps.specs.Faults.{is_word_end, is_end_line}
use Rattle.ug_mps.specs.Laws.{StatesSame}
use Rattle.ug_mps.specs.Ending.{first_piece, first_line, begins_legibly, ends_word, BeginsEnd, IsHead, mark, HasNoFeed, AreLines, AreOthers, HasNoEnd, IsLineAt, IsFeedAt, IsEndedAt, PassesLimit, AreEnough, IsSeen, IsSeenTo}
use Rattle.ug_mps.proofs.Closing.{CloseSame, same_last}
use Rattle.ug_mps.proofs.FirstLines.{line_behind, lines_behind, lines_first, piece_open}
use Rattle.ug_mps.proofs.EndLines.{close_end, close_long}
use Rattle.ug_mps.proofs.LineHeads.{word_ends}
use Rattle.ug_mps.proofs.LineTails.{found_at, no_feed_both}

-- ---- whole lines, and what follows them

tails_same : (front tail other : List ℕ) → AreLines front → 0 < length tail → 0 < length other
    → CloseSame (line_behind front tail) (line_behind front other) → StatesSame (front ++ tail) (front ++ other)
tails_same front tail other whole p q c =
    let f = lines_first front tail whole p in
    let g = lines_first front other whole q in
    same_last (front ++ tail) (front ++ other) (lines_of front) (line_behind front tail) (line_behind front other)
    (record { rest = f.0; are = f.1 }) (record { rest = g.0; are = g.1 }) c

mark_legible : (t : Bool) → is_legible (first_line (mark t)) ≡ t
mark_legible true = refl
mark_legible false = refl

mark_ends : (t : Bool) → is_word_end (first_line (mark t)) ≡ true
mark_ends true = refl
mark_ends false = refl

-- the rest of an ENDATA line counts only for whether it is legible
end_same : (front rest more : List ℕ) → AreLines front → ends_word rest ≡ true
    → StatesSame (front ++ (codes "ENDATA" ++ mark (begins_legibly (rest ++ more)))) (front ++ (codes "ENDATA" ++ (rest ++ more)))
end_same front rest more whole e =
    let t : Bool = begins_legibly (rest ++ more) in
    tails_same front (codes "ENDATA" ++ mark t) (codes "ENDATA" ++ (rest ++ more)) whole (omega arith) (omega arith)
    (close_end _ _ (first_line (mark t)) (first_line (rest ++ more)) (mark_ends t) (word_ends rest more e) (mark_legible t))

-- the line that begins with ENDATA is the last
pub ended_at : (bytes front tail : List ℕ) (line : ℕ) → bytes ≡ front ++ tail → AreLines front → AreOthers (lines_of front) → length front ≡ line
    → BeginsEnd tail → IsEndedAt bytes (line + 6)
ended_at bytes front tail line parts whole others begins (rest, word, e) =
    let is : bytes ≡ (front ++ codes "ENDATA") ++ rest = parts ∙ ap (λ t. front ++ t) word ∙ sym (append_assoc front (codes "ENDATA") rest) in
    let len : length (front ++ codes "ENDATA") ≡ line + 6 = length-append front (codes "ENDATA") ∙ ap (λ n. n + 6) begins in
    let taken : take (line + 6) bytes ≡ front ++ codes "ENDATA" = ap (take (line + 6)) is ∙ take_at (front ++ codes "ENDATA") rest (line + 6) len in
    let left : drop (line + 6) bytes ≡ rest = ap (drop (line + 6)) is ∙ drop_at (front ++ codes "ENDATA") rest (line + 6) len in
    let all : length bytes ≡ length (front ++ codes "ENDATA") + length rest = ap length is ∙ length-append (front ++ codes "ENDATA") rest in
    record {
      within = omega (arith, len, all);
      first = record {
        front = front;
        rest = rest;
        parts = parts ∙ ap (λ t. front ++ t) word;
        whole = whole;
        others = others;
        ends = e;
        there = ap (λ n. n + 6) begins;
      };
      same = λ more.
          let text : take (line + 6) bytes ++ mark (begins_legibly (drop (line + 6) bytes ++ more)) ≡ front ++ (codes "ENDATA" ++ mark (begins_legibly (rest ++ more))) =
          ap (λ l. l ++ mark (begins_legibly (drop (line + 6) bytes ++ more))) taken
          ∙ append_assoc front (codes "ENDATA") (mark (begins_legibly (drop (line + 6) bytes ++ more)))
          ∙ ap (λ l. front ++ (codes "ENDATA" ++ mark (begins_legibly (l ++ more)))) left in
          let other : bytes ++ more ≡ front ++ (codes "ENDATA" ++ (rest ++ more)) =
          ap (λ l. l ++ more) is ∙ append_assoc (front ++ codes "ENDATA") rest more ∙ append_assoc front (codes "ENDATA") (rest ++ more) in
          subst (λ x. StatesSame x (bytes ++ more)) (sym text) (subst (λ y. StatesSame (front ++ (codes "ENDATA" ++ mark (begins_legibly (rest ++ more)))) y) (sym other)
          (end_same front rest more whole e));
    }

-- a line that is not ENDATA passes the limit
enough_long : (bytes front tail : List ℕ) → bytes ≡ front ++ tail → AreLines front → 0 < length tail
    → ((more : List ℕ) → 268435456 < length front + length (first_piece (tail ++ more)))
    → ((more : List ℕ) → is_end_line (first_line (tail ++ more)) ≡ false) → AreEnough bytes
enough_long bytes front tail parts whole some long other = λ more.
    let far : 268435456 < length front + length (first_piece tail) = subst (λ t. 268435456 < length front + length (first_piece t)) (append-nil tail) (long []) in
    let none : is_end_line (first_line tail) ≡ false = subst (λ t. is_end_line (first_line t) ≡ false) (append-nil tail) (other []) in
    let all : bytes ++ more ≡ front ++ (tail ++ more) = ap (λ l. l ++ more) parts ∙ append_assoc front tail more in
    subst (λ x. StatesSame x (bytes ++ more)) (sym parts) (subst (λ y. StatesSame (front ++ tail) y) (sym all)
    (tails_same front tail (tail ++ more) whole some (omega (arith, some, length-append tail more))
    (close_long (line_behind front tail) (line_behind front (tail ++ more)) far (long more) none (other more))))

-- such a line behind others within it
passed : (bytes front tail : List ℕ) → bytes ≡ front ++ tail → AreLines front → AreOthers (lines_of front) → length front ≤ 268435456 → 0 < length tail
    → ((more : List ℕ) → 268435456 < length front + length (first_piece (tail ++ more)))
    → ((more : List ℕ) → is_end_line (first_line (tail ++ more)) ≡ false) → PassesLimit bytes × AreEnough bytes
passed bytes front tail parts whole others within some long other = (
  record {
    front = front;
    tail = tail;
    parts = parts;
    whole = whole;
    others = others;
    within = within;
    far = subst (λ t. 268435456 < length front + length (first_piece t)) (append-nil tail) (long []);
    other = other;
  },
  enough_long bytes front tail parts whole some long other,
)

-- ---- lines that are not ENDATA

others_push : (ls : List Line) (l : Line) → AreOthers ls → is_end_line l.content ≡ false → AreOthers (ls ++ l ∷ [])
others_push [] l o e = (e, tt)
others_push (x ∷ xs) l o e = (o.0, others_push xs l o.1 e)

one_piece : (open_ : List ℕ) → HasNoFeed open_ → pieces (open_ ++ 10 ∷ []) ≡ (open_ ++ 10 ∷ []) ∷ []
one_piece [] n = refl
one_piece (b ∷ bs) n = rw n.0 (ap (onto_first b) (one_piece bs n.1))

-- one more ended line
others_more : (front open_ : List ℕ) → AreLines front → HasNoFeed open_ → AreOthers (lines_of front)
    → is_end_line (content_of (open_ ++ 10 ∷ [])) ≡ false → AreOthers (lines_of (front ++ (open_ ++ 10 ∷ [])))
others_more front open_ w n o e =
    let piece : List ℕ = open_ ++ 10 ∷ [] in
    let lines : lines_of (front ++ piece) ≡ lines_of front ++ lines_after (length front) (piece ∷ []) =
    lines_behind front piece w ∙ ap (λ ps. lines_of front ++ lines_after (length front) ps) (one_piece open_ n) in
    subst AreOthers (sym lines) (others_push (lines_of front) (record { content = content_of piece; through = length front + length piece }) o e)

-- behind ENDATA a prefix of a carriage return ends no word
return_only : (rest more : List ℕ) → 13 ∷ [] ≡ rest ++ more → ends_word rest ≡ true → ⊥
return_only [] more s e = false≢true e
return_only (b ∷ []) more s e = let is : 13 ≡ b = cc in false≢true (subst (λ x. ends_word (x ∷ []) ≡ true) (sym is) e)
return_only (b ∷ c ∷ bs) more s e = absurd (omega (arith, ap length s))

-- a line that shows that it is another, or shows nothing yet, does not begin with ENDATA
pub not_begun : (line : List ℕ) (r : Head) → r ≢ heads.Ends → IsHead line r → BeginsEnd line → ⊥
not_begun line heads.Ends n h b = absurd (n refl)
not_begun line heads.Other n h (rest, word, e) =
    false≢true (sym (h []) ∙ (ap (λ l. is_end_line (first_line (l ++ []))) word ∙ word_ends rest [] e))
not_begun line heads.Open n (more, is) (rest, word, e) = return_only rest more (ap (drop 6) (is ∙ ap (λ l. l ++ more) word)) e

-- ---- up to a line feed

-- the first line feed from a place on
pub feed_there : (bytes : List ℕ) (from at : ℕ) → Some at ≡ position (λ b. b == 10) (drop from bytes) → IsFeedAt bytes from (from + at)
feed_there bytes from at e =
    let c = found_at (λ b. b == 10) (drop from bytes) at e in
    record {
      open_ = c.open_;
      rest = c.rest;
      parts = c.parts ∙ ap (λ b. c.open_ ++ b ∷ c.rest) (eqb-true c.byte 10 c.is);
      no_feed = c.none;
      there = ap (λ n. from + n) c.there;
    }

-- the line with its line feed
pub record IsLineTo (bytes : List ℕ) (line at : ℕ) : Type 0 where
  pub front : List ℕ
  pub open_ : List ℕ
  pub rest : List ℕ
  pub parts : bytes ≡ front ++ (open_ ++ 10 ∷ rest)
  pub whole : AreLines front
  pub others : AreOthers (lines_of front)
  pub no_feed : HasNoFeed open_
  pub begins : length front ≡ line
  pub ends : line + length open_ ≡ at
  pub left : drop line bytes ≡ open_ ++ 10 ∷ rest

no_feed_behind : (xs ys : List ℕ) → HasNoFeed (xs ++ ys) → HasNoFeed ys
no_feed_behind [] ys h = h
no_feed_behind (x ∷ xs) ys h = no_feed_behind xs ys h.1

pub line_to : (bytes : List ℕ) (line from at : ℕ) → IsLineAt bytes line from → IsFeedAt bytes from at → IsLineTo bytes line at
line_to bytes line from at l f =
    let seen : length (l.front ++ l.open_) ≡ from = length-append l.front l.open_ ∙ ap (λ n. n + length l.open_) l.begins ∙ l.looked in
    let rest : l.rest ≡ f.open_ ++ 10 ∷ f.rest =
    sym (drop_at (l.front ++ l.open_) l.rest from seen) ∙ ap (drop from) (append_assoc l.front l.open_ l.rest ∙ sym l.parts) ∙ f.parts in
    let tail : l.open_ ++ l.rest ≡ (l.open_ ++ f.open_) ++ 10 ∷ f.rest = ap (λ r. l.open_ ++ r) rest ∙ sym (append_assoc l.open_ f.open_ (10 ∷ f.rest)) in
    record {
      front = l.front;
      open_ = l.open_ ++ f.open_;
      rest = f.rest;
      parts = l.parts ∙ ap (λ t. l.front ++ t) tail;
      whole = l.whole;
      others = l.others;
      no_feed = no_feed_both l.open_ f.open_ l.no_feed f.no_feed;
      begins = l.begins;
      ends = omega (arith, l.looked, f.there, length-append l.open_ f.open_);
      left = ap (drop line) l.parts ∙ drop_at l.front (l.open_ ++ l.rest) line l.begins ∙ tail;
    }

pub ended_to : (bytes : List ℕ) (line at : ℕ) → IsLineTo bytes line at → BeginsEnd (drop line bytes) → IsEndedAt bytes (line + 6)
ended_to bytes line at l e = ended_at bytes l.front (l.open_ ++ 10 ∷ l.rest) line l.parts l.whole l.others l.begins (subst BeginsEnd l.left e)

-- a prefix of ENDATA and a carriage return has no line feed
open_feed : (open_ rest more : List ℕ) → codes "ENDATA" ++ 13 ∷ [] ≡ (open_ ++ 10 ∷ rest) ++ more → ⊥
open_feed open_ rest more e =
    let none : HasNoFeed (codes "ENDATA" ++ 13 ∷ []) = (refl, (refl, (refl, (refl, (refl, (refl, (refl, tt))))))) in
    let part : HasNoFeed (open_ ++ 10 ∷ (rest ++ more)) = subst HasNoFeed (e ∙ append_assoc open_ (10 ∷ rest) more) none in
    let last : HasNoFeed (10 ∷ (rest ++ more)) = no_feed_behind open_ (10 ∷ (rest ++ more)) part in
    false≢true (sym last.0)

not_end : (tail open_ rest : List ℕ) (r : Head) → tail ≡ open_ ++ 10 ∷ rest → r ≢ heads.Ends → IsHead tail r → (more : List ℕ) → is_end_line (first_line (tail ++ more)) ≡ false
not_end tail open_ rest heads.Ends e n h more = absurd (n refl)
not_end tail open_ rest heads.Other e n h more = h more
not_end tail open_ rest heads.Open e n h more = absurd (open_feed open_ rest h.0 (h.1 ∙ ap (λ t. t ++ h.0) e))

-- the line up to its feed
piece_to : (bytes : List ℕ) (line at : ℕ) (l : IsLineTo bytes line at) (more : List ℕ) → first_piece ((l.open_ ++ 10 ∷ l.rest) ++ more) ≡ l.open_ ++ 10 ∷ []
piece_to bytes line at l more = ap first_piece (append_assoc l.open_ (10 ∷ l.rest) more) ∙ piece_open l.open_ (10 ∷ (l.rest ++ more)) l.no_feed

-- another line
module _ (bytes : List ℕ) (line at : ℕ) (r : Head) (l : IsLineTo bytes line at) (n : r ≢ heads.Ends) (h : IsHead (drop line bytes) r) where
  abbrev tail : List ℕ
  tail = l.open_ ++ 10 ∷ l.rest

  other : (more : List ℕ) → is_end_line (first_line (tail ++ more)) ≡ false
  other more = not_end tail l.open_ l.rest r refl n (subst (λ t. IsHead t r) l.left h) more

  -- it passes the limit
  pub passed_to : 268435456 ≤ at → line ≤ 268435456 → PassesLimit bytes × AreEnough bytes
  passed_to le within =
      let some : 0 < length tail = omega (arith, length-append l.open_ (10 ∷ l.rest)) in
      let far : (more : List ℕ) → 268435456 < length l.front + length (first_piece (tail ++ more)) =
      λ more. omega (arith, le, l.begins, l.ends, ap length (piece_to bytes line at l more), length-append l.open_ (10 ∷ [])) in
      passed bytes l.front tail l.parts l.whole l.others (omega (arith, within, l.begins)) some far other

  -- the next line begins behind it
  pub next_line : at < 268435456 → IsLineAt bytes (at + 1) (at + 1) × (at + 1 ≤ length bytes)
  next_line lt =
      let piece : List ℕ = l.open_ ++ 10 ∷ [] in
      let cut : bytes ≡ (l.front ++ piece) ++ ([] ++ l.rest) =
      l.parts ∙ ap (λ t. l.front ++ t) (sym (append_assoc l.open_ (10 ∷ []) l.rest)) ∙ sym (append_assoc l.front piece l.rest) in
      let len : length (l.front ++ piece) ≡ at + 1 = omega (arith, l.begins, l.ends, length-append l.front piece, length-append l.open_ (10 ∷ [])) in
      let none : is_end_line (content_of piece) ≡ false = ap (λ p. is_end_line (content_of p)) (sym (piece_to bytes line at l [])) ∙ other [] in (
        record {
          front = l.front ++ piece;
          open_ = [];
          rest = l.rest;
          parts = cut;
          whole = inr (l.front ++ l.open_, sym (append_assoc l.front l.open_ (10 ∷ [])));
          others = others_more l.front l.open_ l.whole l.no_feed l.others none;
          no_feed = tt;
          begins = len;
          looked = omega arith;
          within = omega (arith, lt);
        },
        omega (arith, len, ap length cut, length-append (l.front ++ piece) l.rest),
      )

-- ---- up to the end of the bytes

-- no line feed follows: all were examined
pub looked_all : (bytes : List ℕ) (line from : ℕ) → IsLineAt bytes line from → HasNoFeed (drop from bytes) → IsLineAt bytes line (length bytes)
looked_all bytes line from l n =
    let seen : length (l.front ++ l.open_) ≡ from = length-append l.front l.open_ ∙ ap (λ k. k + length l.open_) l.begins ∙ l.looked in
    let cut : bytes ≡ (l.front ++ l.open_) ++ l.rest = l.parts ∙ sym (append_assoc l.front l.open_ l.rest) in
    let rest : drop from bytes ≡ l.rest = ap (drop from) cut ∙ drop_at (l.front ++ l.open_) l.rest from seen in
    record {
      front = l.front;
      open_ = l.open_ ++ l.rest;
      rest = [];
      parts = l.parts ∙ ap (λ t. l.front ++ t) (sym (append-nil (l.open_ ++ l.rest)));
      whole = l.whole;
      others = l.others;
      no_feed = no_feed_both l.open_ l.rest l.no_feed (subst HasNoFeed rest n);
      begins = l.begins;
      looked = omega (arith, l.looked, seen, ap length cut, length-append (l.front ++ l.open_) l.rest, length-append l.open_ l.rest);
      within = l.within;
    }

-- the last line
pub record IsLast (bytes : List ℕ) (line : ℕ) : Type 0 where
  pub front : List ℕ
  pub open_ : List ℕ
  pub parts : bytes ≡ front ++ open_
  pub whole : AreLines front
  pub others : AreOthers (lines_of front)
  pub no_feed : HasNoFeed open_
  pub begins : length front ≡ line
  pub count : line + length open_ ≡ length bytes
  pub left : drop line bytes ≡ open_
  pub within : line ≤ 268435456

pub last_of : (bytes : List ℕ) (line : ℕ) → IsLineAt bytes line (length bytes) → IsLast bytes line
last_of bytes line l =
    let len : length bytes ≡ length l.front + length (l.open_ ++ l.rest) = ap length l.parts ∙ length-append l.front (l.open_ ++ l.rest) in
    let rest : l.rest ≡ [] = nil_from_length l.rest (omega (arith, l.begins, l.looked, len, length-append l.open_ l.rest)) in
    let tail : l.open_ ++ l.rest ≡ l.open_ = ap (λ r. l.open_ ++ r) rest ∙ append-nil l.open_ in
    record {
      front = l.front;
      open_ = l.open_;
      parts = l.parts ∙ ap (λ t. l.front ++ t) tail;
      whole = l.whole;
      others = l.others;
      no_feed = l.no_feed;
      begins = l.begins;
      count = l.looked;
      left = ap (drop line) l.parts ∙ drop_at l.front (l.open_ ++ l.rest) line l.begins ∙ tail;
      within = l.within;
    }

-- if the bytes were examined up to here, no ended line of them is ENDATA
pub no_end_of : (bytes : List ℕ) (line : ℕ) → IsLineAt bytes line (length bytes) → HasNoEnd bytes
no_end_of bytes line l =
    let last = last_of bytes line l in
    record { front = last.front; open_ = last.open_; parts = last.parts; whole = last.whole; others = last.others; no_feed = last.no_feed }

-- more bytes without a line feed
pub no_end_behind : (bytes more : List ℕ) → HasNoEnd bytes → HasNoFeed more → HasNoEnd (bytes ++ more)
no_end_behind bytes more h n = record {
  front = h.front;
  open_ = h.open_ ++ more;
  parts = ap (λ l. l ++ more) h.parts ∙ append_assoc h.front h.open_ more;
  whole = h.whole;
  others = h.others;
  no_feed = no_feed_both h.open_ more h.no_feed n;
}

-- if no line feed follows the word of the first ENDATA, no ended line of the bytes is ENDATA
pub no_end_yet : (bytes : List ℕ) (cut : ℕ) → IsEndedAt bytes cut → HasNoFeed (drop cut bytes) → HasNoEnd bytes
no_end_yet bytes cut e n =
    let f = e.first in
    let is : bytes ≡ (f.front ++ codes "ENDATA") ++ f.rest = f.parts ∙ sym (append_assoc f.front (codes "ENDATA") f.rest) in
    let len : length (f.front ++ codes "ENDATA") ≡ cut = length-append f.front (codes "ENDATA") ∙ f.there in
    let left : drop cut bytes ≡ f.rest = ap (drop cut) is ∙ drop_at (f.front ++ codes "ENDATA") f.rest cut len in
    let word : HasNoFeed (codes "ENDATA") = (refl, (refl, (refl, (refl, (refl, (refl, tt)))))) in
    record {
      front = f.front;
      open_ = codes "ENDATA" ++ f.rest;
      parts = f.parts;
      whole = f.whole;
      others = f.others;
      no_feed = no_feed_both (codes "ENDATA") f.rest word (subst HasNoFeed left n);
    }

pub ended_last : (bytes : List ℕ) (line : ℕ) → IsLast bytes line → BeginsEnd (drop line bytes) → IsEndedAt bytes (line + 6)
ended_last bytes line l e = ended_at bytes l.front l.open_ line l.parts l.whole l.others l.begins (subst BeginsEnd l.left e)

pub passed_last : (bytes : List ℕ) (line : ℕ) → IsLast bytes line → IsHead (drop line bytes) heads.Other → 268435456 < length bytes
    → PassesLimit bytes × AreEnough bytes
passed_last bytes line l h lt =
    let within = l.within in
    let count = l.count in
    passed bytes l.front l.open_ l.parts l.whole l.others (omega (arith, within, l.begins)) (omega (arith, lt, within, count))
    (λ more. omega (arith, lt, l.begins, count, ap length (piece_open l.open_ more l.no_feed), length-append l.open_ (first_piece more)))
    (subst (λ t. IsHead t heads.Other) l.left h)

-- if the line may still be ENDATA, few bytes stand above the limit
pub few_above : (bytes : List ℕ) (line : ℕ) → IsLast bytes line → IsHead (drop line bytes) heads.Open → length bytes ≤ 268435456 + 7
few_above bytes line l (more, e) =
    let is : codes "ENDATA" ++ 13 ∷ [] ≡ l.open_ ++ more = e ∙ ap (λ t. t ++ more) l.left in
    let len : 7 ≡ length l.open_ + length more = ap length is ∙ length-append l.open_ more in
    omega (arith, len, l.count, l.within)

-- the result up to a line feed, unless a line is open there, is that of all bytes
pub seen_all : (bytes : List ℕ) (at : ℕ) (r : Seen) → ((line : ℕ) → r ≢ seens.Open line) → IsSeenTo bytes at r → IsSeen bytes r
seen_all bytes at (seens.Ended cut) n h = h
seen_all bytes at seens.Passed n h = h
seen_all bytes at (seens.Open line) n h = absurd (n line refl)
