-- The first line of bytes, and whole lines before it.
use Rattle.std.proofs.Common.{◌≡◌, ℕ, ◌+◌, ◌<◌, inl, inr, Bool, true, false, List, [], ◌∷◌, ◌++◌, length, refl, sym, ap, ◌∙◌, subst, arith, append_assoc}
use Rattle.std.specs.Prelude.{◌==◌, ◌||◌, if◌then◌else◌}
use Rattle.std.specs.List.{onto_first, concat}
use Rattle.std.specs.Str.{bytes_eq}
use Rattle.std.proofs.lemmas.List.{length-append}
use Rattle.ug_lines.specs.Lines.{Line, pieces, content_of, lines_after, lines_of}
use Rattle.ug_mps.specs.Ending.{HasNoFeed, AreLines, first_piece, first_line}

-- ---- whole lines, and what follows them

step : (t : Bool) (b : ℕ) (p q m : List (List ℕ)) → p ≡ q ++ m → 0 < length q
    → ((if t then (b ∷ []) ∷ p else onto_first b p) ≡ (if t then (b ∷ []) ∷ q else onto_first b q) ++ m)
    × (0 < length (if t then (b ∷ []) ∷ q else onto_first b q))
step true b p q m e h = (ap (λ l. (b ∷ []) ∷ l) e, omega arith)
step false b p [] m e h = absurd (omega arith)
step false b p (x ∷ xs) m e h = (ap (onto_first b) e, omega arith)

-- what follows a line feed is cut apart from it
pieces_append : (front more : List ℕ) → (pieces (front ++ 10 ∷ more) ≡ pieces (front ++ 10 ∷ []) ++ pieces more) × (0 < length (pieces (front ++ 10 ∷ [])))
pieces_append [] more = (refl, omega arith)
pieces_append (b ∷ bs) more = let h = pieces_append bs more in step (b == 10) b _ _ (pieces more) h.0 h.1

concat_onto : (b : ℕ) (ps : List (List ℕ)) → concat (onto_first b ps) ≡ b ∷ concat ps
concat_onto b [] = refl
concat_onto b (p ∷ ps) = refl

concat_choice : (t : Bool) (b : ℕ) (bs : List ℕ) (ps : List (List ℕ)) → concat ps ≡ bs → concat (if t then (b ∷ []) ∷ ps else onto_first b ps) ≡ b ∷ bs
concat_choice true b bs ps e = ap (λ l. b ∷ l) e
concat_choice false b bs ps e = concat_onto b ps ∙ ap (λ l. b ∷ l) e

-- the pieces are the file
concat_pieces : (text : List ℕ) → concat (pieces text) ≡ text
concat_pieces [] = refl
concat_pieces (b ∷ bs) = concat_choice (b == 10) b bs (pieces bs) (concat_pieces bs)

-- lines of pieces, and of more behind them
lines_parts : (n : ℕ) (ps qs : List (List ℕ)) → lines_after n (ps ++ qs) ≡ lines_after n ps ++ lines_after (n + length (concat ps)) qs
lines_parts n [] qs = ap (λ m. lines_after m qs) (omega arith)
lines_parts n (p ∷ ps) qs =
    ap (λ l. record { content = content_of p; through = n + length p } ∷ l) (lines_parts (n + length p) ps qs
    ∙ ap (λ m. lines_after (n + length p) ps ++ lines_after m qs) (omega (arith, length-append p (concat ps))))

from_zero : (n : ℕ) → 0 + n ≡ n
from_zero n = omega arith

-- the lines of whole lines, and those of what follows them
pub lines_behind : (front tail : List ℕ) → AreLines front → lines_of (front ++ tail) ≡ lines_of front ++ lines_after (length front) (pieces tail)
lines_behind front tail (inl e) = subst (λ f. lines_of (f ++ tail) ≡ lines_of f ++ lines_after (length f) (pieces tail)) (sym e) refl
lines_behind front tail (inr (start, e)) =
    let whole : List ℕ = start ++ 10 ∷ [] in
    let cut : whole ++ tail ≡ start ++ 10 ∷ tail = append_assoc start (10 ∷ []) tail in
    subst (λ f. lines_of (f ++ tail) ≡ lines_of f ++ lines_after (length f) (pieces tail)) (sym e)
    (let split : lines_of (whole ++ tail) ≡ lines_of whole ++ lines_after (0 + length (concat (pieces whole))) (pieces tail) =
    ap (λ t. lines_after 0 (pieces t)) cut ∙ ap (lines_after 0) (pieces_append start tail).0 ∙ lines_parts 0 (pieces whole) (pieces tail) in
    split ∙ ap (λ n. lines_of whole ++ lines_after n (pieces tail)) (from_zero (length (concat (pieces whole))))
    ∙ ap (λ t. lines_of whole ++ lines_after (length t) (pieces tail)) (concat_pieces whole))

-- ---- the first piece

first_by : (t : Bool) (b : ℕ) (p : List ℕ) (ps : List (List ℕ)) (q : List ℕ) (rest : List (List ℕ)) → ps ≡ q ∷ rest
    → (more : List (List ℕ)) × ((if t then (b ∷ []) ∷ ps else onto_first b ps) ≡ (if t then b ∷ [] else b ∷ q) ∷ more)
first_by true b p ps q rest e = (ps, refl)
first_by false b p ps q rest e = (rest, ap (onto_first b) e)

first_alone : (t : Bool) (b : ℕ) → (if t then (b ∷ []) ∷ [] else onto_first b []) ≡ (if t then b ∷ [] else b ∷ []) ∷ []
first_alone true b = refl
first_alone false b = refl

-- it is the first of the pieces
pieces_first : (b : ℕ) (bs : List ℕ) → (more : List (List ℕ)) × (pieces (b ∷ bs) ≡ first_piece (b ∷ bs) ∷ more)
pieces_first b [] = ([], first_alone (b == 10) b)
pieces_first b (c ∷ cs) =
    let h = pieces_first c cs in
    first_by (b == 10) b [] (pieces (c ∷ cs)) (first_piece (c ∷ cs)) h.0 h.1

-- the first line behind whole lines
abbrev pub line_behind : List ℕ → List ℕ → Line
line_behind front tail = record { content = first_line tail; through = length front + length (first_piece tail) }

-- the lines of whole lines, then that line
pub lines_first : (front tail : List ℕ) → AreLines front → 0 < length tail → (more : List Line) × (lines_of (front ++ tail) ≡ lines_of front ++ line_behind front tail ∷ more)
lines_first front [] whole some = absurd (omega arith)
lines_first front (b ∷ bs) whole some =
    let p = pieces_first b bs in (
      lines_after (length front + length (first_piece (b ∷ bs))) p.0,
      lines_behind front (b ∷ bs) whole ∙ ap (λ ps. lines_of front ++ lines_after (length front) ps) p.1,
    )

-- bytes without a line feed begin the piece
pub piece_open : (open_ rest : List ℕ) → HasNoFeed open_ → first_piece (open_ ++ rest) ≡ open_ ++ first_piece rest
piece_open [] rest n = refl
piece_open (b ∷ bs) rest n = rw n.0 (ap (λ l. b ∷ l) (piece_open bs rest n.1))

piece_choice : (t : Bool) (b : ℕ) (p z bs : List ℕ) → bs ≡ p ++ z → (y : List ℕ) × (b ∷ bs ≡ (if t then b ∷ [] else b ∷ p) ++ y)
piece_choice true b p z bs e = (bs, refl)
piece_choice false b p z bs e = (z, ap (λ l. b ∷ l) e)

-- the piece begins the bytes
piece_front : (bytes : List ℕ) → (more : List ℕ) × (bytes ≡ first_piece bytes ++ more)
piece_front [] = ([], refl)
piece_front (b ∷ bs) = let h = piece_front bs in piece_choice (b == 10) b (first_piece bs) h.0 bs h.1

content_choice : (t : Bool) (b : ℕ) (p z bs : List ℕ) → bs ≡ p ++ z → (y : List ℕ) × (b ∷ bs ≡ (if t then [] else b ∷ p) ++ y)
content_choice true b p z bs e = (b ∷ bs, refl)
content_choice false b p z bs e = (z, ap (λ l. b ∷ l) e)

content_front : (piece : List ℕ) → (more : List ℕ) × (piece ≡ content_of piece ++ more)
content_front [] = ([], refl)
content_front (b ∷ bs) = let h = content_front bs in
    content_choice (bytes_eq (b ∷ bs) (10 ∷ []) || bytes_eq (b ∷ bs) (13 ∷ 10 ∷ [])) b (content_of bs) h.0 bs h.1

-- the bytes begin with those of the first line
pub line_front : (bytes : List ℕ) → (more : List ℕ) × (bytes ≡ first_line bytes ++ more)
line_front bytes =
    let p = piece_front bytes in
    let c = content_front (first_piece bytes) in
    (c.0 ++ p.0, p.1 ∙ ap (λ l. l ++ p.0) c.1 ∙ append_assoc (first_line bytes) c.0 p.0)

-- ---- the first line, byte by byte

bytes_first : (b c : ℕ) (bs cs : List ℕ) → (b == c) ≡ false → bytes_eq (b ∷ bs) (c ∷ cs) ≡ false
bytes_first b c bs cs e = rw e refl

-- a byte that ends no line is in it
pub line_byte : (b : ℕ) (bs : List ℕ) → (b == 10) ≡ false → (b == 13) ≡ false → first_line (b ∷ bs) ≡ b ∷ first_line bs
line_byte b bs p q = rw p (rw (bytes_first b 10 (first_piece bs) [] p, bytes_first b 13 (first_piece bs) (10 ∷ []) q) refl)

-- so does a carriage return that no line feed follows
pub line_return : (c : ℕ) (cs : List ℕ) → (c == 10) ≡ false → first_line (13 ∷ c ∷ cs) ≡ 13 ∷ first_line (c ∷ cs)
line_return c cs p = rw p (rw p refl)
