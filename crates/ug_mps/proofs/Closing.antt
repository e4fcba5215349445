-- Two texts state the same where they differ only from a line on that closes both: it has the same
-- fault in both, or it is their end.
use Rattle.std.proofs.Common.{◌≡◌, ℕ, ◌+◌, ◌<◌, ◌≤◌, inl, inr, true, false, List, [], ◌∷◌, ◌++◌, length, take, get_or, Option, Some, refl, sym, ap, ◌∙◌, subst, arith}
use Rattle.std.specs.Prelude.{reverse}
use Rattle.std.proofs.lemmas.Bool.{cases_lt, false≢true}
use Rattle.std.proofs.lemmas.List.{take-append-le, get_or_append_left, length-append, length-take-le, length-reverse}
use Rattle.ug_lines.specs.Lines.{Line, lines_of}
use Rattle.ug_problem.specs.Instances.{Instance}
use Rattle.ug_drafts.specs.declared.fault.MpsFault.{MpsFault}
use Rattle.ug_mps.specs.Entries.{Entry}
use Rattle.ug_mps.specs.Faults.{Complaint}
use Rattle.ug_mps.specs.Says.{line_fault, is_ended, after, history}
use Rattle.ug_mps.specs.Reads.{no_line, lines_before, Says, IsFaulty, IsEndless, Reads, FirstFault}
use Rattle.ug_mps.specs.Laws.{StatesSame}
use Rattle.ug_mps.proofs.Outcome.{line_at, says_parts, says_more, says_less, after_end, stops}

-- the two lines have the same fault, or say the same and end the file
pub record CloseSame (a b : Line) : Type 0 where
  pub fault : (h : List Entry) → line_fault h a ≡ line_fault h b
  pub same : (h : List Entry) (n : ℕ) → after h n a ≡ after h n b
  pub ends : (h g : List Entry) (n : ℕ) → after h n a ≡ Some g → is_ended g ≡ true

-- these lines, then one more
pub record HasLine (text : List ℕ) (lines : List Line) (line : Line) : Type 0 where
  pub rest : List Line
  pub are : lines_of text ≡ lines ++ line ∷ rest

at_end : (lines : List Line) (line : Line) (rest : List Line) (d : Line) → get_or (lines ++ line ∷ rest) (length lines) d ≡ line
at_end [] line rest d = refl
at_end (l ∷ lines) line rest d = at_end lines line rest d

line_is : (text : List ℕ) (lines : List Line) (line : Line) → HasLine text lines line → line_at text (length lines) ≡ line
line_is text lines line t = ap (λ l. get_or l (length lines) no_line) t.are ∙ at_end lines line t.rest no_line

count_of : (text : List ℕ) (lines : List Line) (line : Line) → HasLine text lines line → length lines < length (lines_of text)
count_of text lines line t =
    let len : length (lines_of text) ≡ length lines + length (line ∷ t.rest) = ap length t.are ∙ length-append lines (line ∷ t.rest) in
    omega (arith, len)

before_len : (text : List ℕ) (k : ℕ) → k ≤ length (lines_of text) → length (lines_before text k) ≡ k
before_len text k le = length-reverse (take k (lines_of text)) ∙ length-take-le k (lines_of text) le

module _ (text other : List ℕ) (lines : List Line) (a b : Line) (t : HasLine text lines a) (u : HasLine other lines b) (c : CloseSame a b) where
  count : length lines < length (lines_of text)
  count = count_of text lines a t

  count' : length lines < length (lines_of other)
  count' = count_of other lines b u

  -- what the lines up to the closing one say ends the file
  closed : (h : List Entry) → Says text (length lines + 1) h → is_ended h ≡ true
  closed h s =
      let q = says_parts text (length lines) h s in
      c.ends q.earlier h _ (ap (after q.earlier (length (lines_before text (length lines)) + 1)) (sym (line_is text lines a t)) ∙ q.after_)

  -- so nothing is said beyond it
  within : (k : ℕ) (h : List Entry) → Says text k h → k ≤ length lines + 1
  within k h s = elim (cases_lt (length lines + 1) k) [
    | inr le ↦ le
    | inl gt ↦
        let f = says_less text (length lines + 1) k h (omega (arith, gt)) s in
        absurd (stops text (length lines + 1) k f.0 h f.1 (after_end f.0 (length (lines_before text (length lines + 1)) + 1) (line_at text (length lines + 1)) (closed f.0 f.1)) gt s)
  ]

  -- the lines before it say the same
  same_front : (k : ℕ) (h : List Entry) → k ≤ length lines → Says text k h → Says other k h
  same_front k h le s =
      let here : take k (lines_of text) ≡ take k lines = ap (take k) t.are ∙ take-append-le k lines (a ∷ t.rest) le in
      let there : take k (lines_of other) ≡ take k lines = ap (take k) u.are ∙ take-append-le k lines (b ∷ u.rest) le in
      record {
        there = omega (arith, le, count');
        said = subst (λ l. history (reverse l) ≡ Some h) (here ∙ sym there) s.said;
      }

  -- and with it
  same_says : (k : ℕ) (h : List Entry) → Says text k h → Says other k h
  same_says k h s = elim (cases_lt (length lines) k) [
    | inr le ↦ same_front k h le s
    | inl gt ↦
        let le = within k h s in
        let is : k ≡ length lines + 1 = omega (arith, gt, le) in
        let s' : Says text (length lines + 1) h = subst (λ n. Says text n h) is s in
        let q = says_parts text (length lines) h s' in
        let before : Says text (length lines) q.earlier = record { there = omega (arith, count); said = q.said } in
        let n : length (lines_before text (length lines)) ≡ length (lines_before other (length lines)) =
        before_len text (length lines) (omega (arith, count)) ∙ sym (before_len other (length lines) (omega (arith, count'))) in
        let line : after q.earlier (length (lines_before other (length lines)) + 1) (line_at other (length lines)) ≡ Some h =
        ap (after q.earlier (length (lines_before other (length lines)) + 1)) (line_is other lines b u)
        ∙ sym (c.same q.earlier (length (lines_before other (length lines)) + 1))
        ∙ ap (after q.earlier (length (lines_before other (length lines)) + 1)) (sym (line_is text lines a t))
        ∙ ap (λ m. after q.earlier (m + 1) (line_at text (length lines))) (sym n)
        ∙ q.after_ in
        subst (λ m. Says other m h) (sym is)
        (says_more other (length lines) q.earlier h count' (same_front (length lines) q.earlier (omega arith) before) line)
  ]

  -- the line k, where it has a fault
  same_fault : (k : ℕ) (h : List Entry) (f : Complaint) → k ≤ length lines → line_fault h (line_at text k) ≡ Some f → line_fault h (line_at other k) ≡ Some f
  same_fault k h f le e = elim (cases_lt k (length lines)) [
    | inl lt ↦
        let here : line_at text k ≡ get_or lines k no_line = ap (λ l. get_or l k no_line) t.are ∙ get_or_append_left lines (a ∷ t.rest) no_line k lt in
        let there : line_at other k ≡ get_or lines k no_line = ap (λ l. get_or l k no_line) u.are ∙ get_or_append_left lines (b ∷ u.rest) no_line k lt in
        subst (λ l. line_fault h l ≡ Some f) (here ∙ sym there) e
    | inr ge ↦
        let is : k ≡ length lines = omega (arith, le, ge) in
        ap (λ i. line_fault h (line_at other i)) is ∙ ap (line_fault h) (line_is other lines b u) ∙ sym (c.fault h)
        ∙ ap (line_fault h) (sym (line_is text lines a t)) ∙ ap (λ i. line_fault h (line_at text i)) (sym is) ∙ e
  ]

  -- an open history stands before it
  before_close : (k : ℕ) (h : List Entry) → Says text k h → is_ended h ≡ false → k ≤ length lines
  before_close k h s o = elim (cases_lt (length lines) k) [
    | inr le ↦ le
    | inl gt ↦
        let le = within k h s in
        let is : k ≡ length lines + 1 = omega (arith, gt, le) in
        absurd (false≢true (sym o ∙ closed h (subst (λ n. Says text n h) is s)))
  ]

  same_faulty : (k : ℕ) (h : List Entry) (f : Complaint) → IsFaulty text k h f → IsFaulty other k h f
  same_faulty k h f n =
      let le = before_close k h n.before n.open_ in
      record {
        there = omega (arith, le, count');
        before = same_says k h n.before;
        open_ = n.open_;
        fault = same_fault k h f le n.fault;
      }

  never_endless : (h : List Entry) → IsEndless text h → ⊥
  never_endless h n =
      let le = before_close (length (lines_of text)) h n.all n.open_ in
      absurd (omega (arith, le, count))

  same_first : (boxed : Option ℕ) (f : MpsFault) → FirstFault text boxed f → FirstFault other boxed f
  same_first boxed f (inl (k, h, c', n, w)) = inl (k, h, c', same_faulty k h c' n, w)
  same_first boxed f (inr (inl (h, n, w))) = absurd (never_endless h n)
  same_first boxed f (inr (inr (k, h, e, w))) = inr (inr (k, h, same_says k _ e, w))

  same_problem : (boxed : Option ℕ) (p : Instance) → Reads text boxed p → Reads other boxed p
  same_problem boxed p (k, h, e, w, s) = (k, h, same_says k _ e, w, s)

  -- the texts state the same
  pub same_last : StatesSame text other
  same_last = record { problem = same_problem; fault = same_first }
